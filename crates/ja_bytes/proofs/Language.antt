-- Languages of which no text begins another, and where a reader of them is stuck.
use Rattle.std.proofs.Common.{◌≡◌, ℕ, suc, ◌+◌, ◌-◌, List, [], ◌∷◌, ◌++◌, length, take, drop, refl, sym, ap, subst, ◌∙◌, append_assoc, arith, length-append}
use Rattle.std.proofs.lemmas.List.{append-nil, take-append-drop, take-take, take_at}
use Rattle.ja_bytes.specs.Longest.{IsLongestBegin, IsStuck}
use Rattle.ja_bytes.proofs.Stuck.{take_over}

-- no text of the language begins another
pub record IsPrefixFree (P : List ℕ → Type 0) : Type 0 where
  pub unique : (a b x y : List ℕ) → P a → P b → a ++ x ≡ b ++ y → (a ≡ b) × (x ≡ y)

-- a text of one language and a text of another behind it
pub record Both (A B : List ℕ → Type 0) (text : List ℕ) : Type 0 where
  pub first : List ℕ
  pub second : List ℕ
  pub parts : text ≡ first ++ second
  pub is_first : A first
  pub is_second : B second

both_parts : (A B : List ℕ → Type 0) (text tail : List ℕ) (h : Both A B text) → text ++ tail ≡ h.first ++ (h.second ++ tail)
both_parts A B text tail h = ap (λ (t : List ℕ). t ++ tail) h.parts ∙ append_assoc h.first h.second tail

pub both_free : (A B : List ℕ → Type 0) → IsPrefixFree A → IsPrefixFree B → IsPrefixFree (Both A B)
both_free A B p q = record {
  unique = λ a b x y h k e.
      let one = p.unique h.first k.first (h.second ++ x) (k.second ++ y) h.is_first k.is_first (sym (both_parts A B a x h) ∙ e ∙ both_parts A B b y k) in
      let two = q.unique h.second k.second x y h.is_second k.is_second one.1 in
      (h.parts ∙ ap (λ (t : List ℕ). t ++ h.second) one.0 ∙ ap (λ (t : List ℕ). k.first ++ t) two.0 ∙ sym k.parts, two.1);
}

-- stuck in the first
pub stuck_first : (A B : List ℕ → Type 0) (bytes : List ℕ) (n : ℕ) (some : List ℕ) → B some → IsStuck A bytes n → IsStuck (Both A B) bytes n
stuck_first A B bytes n some second stuck = record {
  within = stuck.within;
  begins = record { more = stuck.begins.more ++ some; text = record { first = take n bytes ++ stuck.begins.more; second = some; parts = sym (append_assoc (take n bytes) stuck.begins.more some); is_first = stuck.begins.text; is_second = second } };
  dead = λ lt text more tail h e. stuck.dead lt h.first more (h.second ++ tail) h.is_first (e ∙ both_parts A B text tail h);
  none = λ text tail h e. stuck.none h.first (h.second ++ tail) h.is_first (e ∙ both_parts A B text tail h);
}

-- stuck in the second
pub stuck_second : (A B : List ℕ → Type 0) (front rest : List ℕ) (n : ℕ) → IsPrefixFree A → A front → IsStuck B rest n → IsStuck (Both A B) (front ++ rest) (length front + n)
stuck_second A B front rest n free first stuck = record {
  within = omega (arith, stuck.within, length-append front rest);
  begins = record {
    more = stuck.begins.more;
    text = record { first = front; second = take n rest ++ stuck.begins.more; parts = ap (λ (t : List ℕ). t ++ stuck.begins.more) (take_over front rest n) ∙ append_assoc front (take n rest) stuck.begins.more; is_first = first; is_second = stuck.begins.text };
  };
  dead = λ lt text more tail h e.
      let left : take (length front + n + 1) (front ++ rest) ++ more ≡ front ++ (take (n + 1) rest ++ more) =
      ap (λ (k : ℕ). take k (front ++ rest) ++ more) (omega arith) ∙ ap (λ (t : List ℕ). t ++ more) (take_over front rest (n + 1)) ∙ append_assoc front (take (n + 1) rest) more in
      let one = free.unique front h.first (take (n + 1) rest ++ more) (h.second ++ tail) first h.is_first (sym left ∙ e ∙ both_parts A B text tail h) in
      stuck.dead (omega (arith, lt, length-append front rest)) h.second more tail h.is_second one.1;
  none = λ text tail h e.
      let one = free.unique front h.first rest (h.second ++ tail) first h.is_first (e ∙ both_parts A B text tail h) in
      stuck.none h.second tail h.is_second one.1;
}

-- a reader that is stuck passed the longest front with which a text begins
pub stuck_longest : (P : List ℕ → Type 0) (bytes : List ℕ) (n : ℕ) → IsStuck P bytes n → IsLongestBegin P bytes n
stuck_longest P bytes n stuck = record {
  within = stuck.within;
  begins = stuck.begins;
  longest = λ m lt within front.
      let parts : take m bytes ≡ take (n + 1) bytes ++ drop (n + 1) (take m bytes) =
      sym (take-append-drop (n + 1) (take m bytes)) ∙ ap (λ (t : List ℕ). t ++ drop (n + 1) (take m bytes)) (take-take (n + 1) m bytes (omega (arith, lt))) in
      let whole : take (n + 1) bytes ++ (drop (n + 1) (take m bytes) ++ front.more) ≡ (take m bytes ++ front.more) ++ [] =
      sym (append_assoc (take (n + 1) bytes) (drop (n + 1) (take m bytes)) front.more) ∙ ap (λ (t : List ℕ). t ++ front.more) (sym parts) ∙ sym (append-nil (take m bytes ++ front.more)) in
      stuck.dead (omega (arith, lt, within)) (take m bytes ++ front.more) (drop (n + 1) (take m bytes) ++ front.more) [] front.text whole;
}

pub stuck_none : (P : List ℕ → Type 0) (bytes : List ℕ) (n : ℕ) → IsStuck P bytes n → P bytes → ⊥
stuck_none P bytes n stuck h = stuck.none bytes [] h (sym (append-nil bytes))

-- a whole text, and a byte more
pub text_stuck : (P : List ℕ → Type 0) (front : List ℕ) (b : ℕ) (rest : List ℕ) → IsPrefixFree P → P front → IsLongestBegin P (front ++ b ∷ rest) (length front)
text_stuck P front b rest free h = record {
  within = omega (arith, length-append front (b ∷ rest));
  begins = record { more = []; text = subst P (sym (append-nil (take (length front) (front ++ b ∷ rest)) ∙ take_at front (b ∷ rest) (length front) refl)) h };
  longest = λ m lt within more.
      let k : ℕ = m - length front in
      let size : m ≡ length front + suc (m - length front - 1) = omega (arith, lt) in
      let parts : take m (front ++ b ∷ rest) ≡ front ++ b ∷ take (m - length front - 1) rest =
      ap (λ (j : ℕ). take j (front ++ b ∷ rest)) size ∙ take_over front (b ∷ rest) (suc (m - length front - 1)) in
      let whole : front ++ ((b ∷ take (m - length front - 1) rest) ++ more.more) ≡ (take m (front ++ b ∷ rest) ++ more.more) ++ [] =
      sym (append_assoc front (b ∷ take (m - length front - 1) rest) more.more) ∙ ap (λ (t : List ℕ). t ++ more.more) (sym parts) ∙ sym (append-nil (take m (front ++ b ∷ rest) ++ more.more)) in
      let one = free.unique front (take m (front ++ b ∷ rest) ++ more.more) ((b ∷ take (m - length front - 1) rest) ++ more.more) [] h more.text whole in
      let nothing : b ∷ (take (m - length front - 1) rest ++ more.more) ≡ [] = one.1 in
      absurd cc;
}

pub text_none : (P : List ℕ → Type 0) (front : List ℕ) (b : ℕ) (rest : List ℕ) → IsPrefixFree P → P front → P (front ++ b ∷ rest) → ⊥
text_none P front b rest free h more =
    let one = free.unique front (front ++ b ∷ rest) (b ∷ rest) [] h more (sym (append-nil (front ++ b ∷ rest))) in
    let nothing : b ∷ rest ≡ [] = one.1 in
    absurd cc
