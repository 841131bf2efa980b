-- Readers that take exactly what a spelling gives, and how they are put together.
use Rattle.std.proofs.Common.{◌≡◌, ℕ, suc, ◌+◌, ◌^◌, ◌<◌, ◌≤◌, Bool, true, false, cond, ltb, eqb, List, ◌∷◌, ◌++◌, length, get_or, take, drop, Option, Some, None, refl, sym, ap, subst, ◌∙◌, append_assoc, arith, inl, inr, ◌⊎◌}
use Rattle.std.specs.Int.{Width, w16, w32, byte_len, from_be_bytes, to_be_bytes}
use Rattle.std.proofs.lemmas.Bool.{cases_lt, ltb-false, le-ltb, eqb-true, eq-eqb}
use Rattle.std.proofs.lemmas.List.{take_at, drop_at, take-append-drop, length-append, length-take, get_or-drop, get_or-take, get_or_past}
use Rattle.std.proofs.lemmas.Nat.{be_bytes_2, be_bytes_4, from_be_bytes-to_be_bytes_2, from_be_bytes-to_be_bytes_4}
use Rattle.ja_class.specs.InnerReading.{◌>>=◌, number_at, after_number, bytes_at, sized_at}

-- each number of a list is a byte
abbrev pub IsBytes : List ℕ → Type 0
IsBytes bytes = (i : ℕ) → get_or bytes i 0 < 256

pub IsBytes-drop : (n : ℕ) (bytes : List ℕ) → IsBytes bytes → IsBytes (drop n bytes)
IsBytes-drop n bytes h i = rw get_or-drop (h (n + i))

pub IsBytes-take : (n : ℕ) (bytes : List ℕ) → IsBytes bytes → IsBytes (take n bytes)
IsBytes-take n bytes h i =
    elim (cases_lt i n) [
      | inl lt ↦ rw (get_or-take n bytes i 0 lt) (h i)
      | inr le ↦ rw (get_or_past (take n bytes) i 0 (omega (arith, length-take n bytes))) (omega arith)
    ]

pub IsBytes-rest : (b : ℕ) (bytes : List ℕ) → IsBytes (b ∷ bytes) → IsBytes bytes
IsBytes-rest b bytes h i = h (suc i)

-- the value of a step that did not fail
pub bind_some : {A B : Type 0} (o : Option A) (f : A → Option B) (y : B) → (o >>= f) ≡ Some y → (x : A) × (o ≡ Some x) × (f x ≡ Some y)
bind_some (Some x) f y e = (x, refl, e)
bind_some None f y e = absurd cc

abbrev done : {A : Type 0} → A → Option A
done x = Some x

pub some_is : {A : Type 0} (x y : A) → done x ≡ done y → x ≡ y
some_is x y e = cc

-- which way a choice went
pub chosen : {A : Type 0} (b : Bool) (x y z : A) → cond b x y ≡ z → ((b ≡ true) × (x ≡ z)) ⊎ ((b ≡ false) × (y ≡ z))
chosen true x y z e = inl (refl, e)
chosen false x y z e = inr (refl, e)

-- a test that has to fail, and one that has to hold
pub guard_fails : {A : Type 0} (b : Bool) (x : Option A) (y : A) → cond b None x ≡ Some y → (b ≡ false) × (x ≡ Some y)
guard_fails true x y e = absurd cc
guard_fails false x y e = (refl, e)

pub guard_holds : {A : Type 0} (b : Bool) (x : Option A) (y : A) → cond b x None ≡ Some y → (b ≡ true) × (x ≡ Some y)
guard_holds true x y e = (refl, e)
guard_holds false x y e = absurd cc

-- the bytes are a text and a rest
pub record Takes (bytes text rest : List ℕ) : Type 0 where
  pub parts : bytes ≡ text ++ rest
  pub rest_fits : IsBytes rest

pub Takes-then : (a x b y c : List ℕ) → Takes a x b → Takes b y c → Takes a (x ++ y) c
Takes-then a x b y c p q = record { parts = p.parts ∙ ap (λ (t : List ℕ). x ++ t) q.parts ∙ sym (append_assoc x y c); rest_fits = q.rest_fits }

-- a reader takes the spelling of a value that fits, and nothing else
pub record Exact {A : Type 0} (fits : A → Type 0) (spell : A → List ℕ) (read : List ℕ → Option (A × List ℕ)) : Type 0 where
  pub takes : (bytes : List ℕ) (x : A × List ℕ) → IsBytes bytes → read bytes ≡ Some x → Takes bytes (spell x.0) x.1 × fits x.0
  pub again : (x : A) (rest : List ℕ) → fits x → read (spell x ++ rest) ≡ Some (x, rest)

-- a reader takes this text, and nothing else
pub record Exactly (text : List ℕ) (read : List ℕ → Option (List ℕ)) : Type 0 where
  pub takes : (bytes rest : List ℕ) → IsBytes bytes → read bytes ≡ Some rest → Takes bytes text rest
  pub again : (rest : List ℕ) → read (text ++ rest) ≡ Some rest

-- two values, one after the other
abbrev pub both : {A B : Type 0} → (List ℕ → Option (A × List ℕ)) → (List ℕ → Option (B × List ℕ)) → List ℕ → Option ((A × B) × List ℕ)
both first second bytes = first bytes >>= λ a. second a.1 >>= λ b. Some ((a.0, b.0), b.1)

pub Exact-both : {A B : Type 0} {F : A → Type 0} {G : B → Type 0} {f : A → List ℕ} {g : B → List ℕ} {r : List ℕ → Option (A × List ℕ)} {s : List ℕ → Option (B × List ℕ)}
    → Exact F f r → Exact G g s → Exact (λ (p : A × B). F p.0 × G p.1) (λ (p : A × B). f p.0 ++ g p.1) (both r s)
Exact-both {A} {B} {F} {G} {f} {g} {r} {s} one two = record {
  takes = λ bytes x fits e.
      let a = bind_some (r bytes) (λ a. s a.1 >>= λ b. Some ((a.0, b.0), b.1)) x e in
      let b = bind_some (s a.0.1) (λ b. Some ((a.0.0, b.0), b.1)) x a.2 in
      let p = one.takes bytes a.0 fits a.1 in
      let q = two.takes a.0.1 b.0 p.0.rest_fits b.1 in
      let made : (A × B) × List ℕ = ((a.0.0, b.0.0), b.0.1) in
      subst (λ (y : (A × B) × List ℕ). Takes bytes (f y.0.0 ++ g y.0.1) y.1 × (F y.0.0 × G y.0.1)) (some_is made x b.2) (Takes-then bytes (f a.0.0) a.0.1 (g b.0.0) b.0.1 p.0 q.0, (p.1, q.1));
  again = λ x rest h. ap (both r s) (append_assoc (f x.0) (g x.1) rest) ∙ rw (one.again x.0 (g x.1 ++ rest) h.0, two.again x.1 rest h.1) refl;
}

-- a value behind a text
abbrev pub behind : {A : Type 0} → (List ℕ → Option (List ℕ)) → (List ℕ → Option (A × List ℕ)) → List ℕ → Option (A × List ℕ)
behind skip read bytes = skip bytes >>= λ rest. read rest

pub Exact-behind : {A : Type 0} {F : A → Type 0} {f : A → List ℕ} {r : List ℕ → Option (A × List ℕ)} {text : List ℕ} {s : List ℕ → Option (List ℕ)}
    → Exactly text s → Exact F f r → Exact F (λ (x : A). text ++ f x) (behind s r)
Exact-behind {A} {F} {f} {r} {text} {s} one two = record {
  takes = λ bytes x fits e.
      let a = bind_some (s bytes) (λ rest. r rest) x e in
      let p = one.takes bytes a.0 fits a.1 in
      let q = two.takes a.0 x p.rest_fits a.2 in
      (Takes-then bytes text a.0 (f x.0) x.1 p q.0, q.1);
  again = λ x rest h. ap (behind s r) (append_assoc text (f x) rest) ∙ rw (one.again (f x ++ rest), two.again x rest h) refl;
}

-- a value before a text
abbrev pub before : {A : Type 0} → (List ℕ → Option (A × List ℕ)) → (List ℕ → Option (List ℕ)) → List ℕ → Option (A × List ℕ)
before read skip bytes = read bytes >>= λ a. skip a.1 >>= λ rest. Some (a.0, rest)

pub Exact-before : {A : Type 0} {F : A → Type 0} {f : A → List ℕ} {r : List ℕ → Option (A × List ℕ)} {text : List ℕ} {s : List ℕ → Option (List ℕ)}
    → Exact F f r → Exactly text s → Exact F (λ (x : A). f x ++ text) (before r s)
Exact-before {A} {F} {f} {r} {text} {s} one two = record {
  takes = λ bytes x fits e.
      let a = bind_some (r bytes) (λ a. s a.1 >>= λ rest. Some (a.0, rest)) x e in
      let b = bind_some (s a.0.1) (λ rest. Some (a.0.0, rest)) x a.2 in
      let p = one.takes bytes a.0 fits a.1 in
      let q = two.takes a.0.1 b.0 p.0.rest_fits b.1 in
      let made : A × List ℕ = (a.0.0, b.0) in
      subst (λ (y : A × List ℕ). Takes bytes (f y.0 ++ text) y.1 × F y.0) (some_is made x b.2) (Takes-then bytes (f a.0.0) a.0.1 text b.0 p.0 q, p.1);
  again = λ x rest h. ap (before r s) (append_assoc (f x) text rest) ∙ rw (one.again x (text ++ rest) h, two.again rest) refl;
}

-- two texts, one after the other
pub Exactly-both : {t u : List ℕ} {r s : List ℕ → Option (List ℕ)} → Exactly t r → Exactly u s → Exactly (t ++ u) (λ bytes. r bytes >>= s)
Exactly-both {t} {u} {r} {s} one two = record {
  takes = λ bytes rest fits e.
      let a = bind_some (r bytes) s rest e in
      let p = one.takes bytes a.0 fits a.1 in
      Takes-then bytes t a.0 u rest p (two.takes a.0 rest p.rest_fits a.2);
  again = λ rest. ap (λ bytes. r bytes >>= s) (append_assoc t u rest) ∙ rw (one.again (u ++ rest)) (two.again rest);
}

-- the same reader, the same spelling and the same bounds in other words
pub Exact-same : {A : Type 0} {F G : A → Type 0} {f g : A → List ℕ} {r s : List ℕ → Option (A × List ℕ)} → ((bytes : List ℕ) → s bytes ≡ r bytes) → ((x : A) → f x ≡ g x) → ((x : A) → F x → G x) → ((x : A) → G x → F x)
    → Exact F f r → Exact G g s
Exact-same {A} {F} {G} {f} {g} {r} {s} reads spells to from one = record {
  takes = λ bytes x fits e.
      let p = one.takes bytes x fits (sym (reads bytes) ∙ e) in
      (record { parts = p.0.parts ∙ ap (λ (t : List ℕ). t ++ x.1) (spells x.0); rest_fits = p.0.rest_fits }, to x.0 p.1);
  again = λ x rest h. ap (λ (t : List ℕ). s (t ++ rest)) (sym (spells x)) ∙ (reads (f x ++ rest) ∙ one.again x rest (from x h));
}

-- a value made of one that is read
abbrev pub mapped : {A B : Type 0} → (A → B) → (List ℕ → Option (A × List ℕ)) → List ℕ → Option (B × List ℕ)
mapped to read bytes = read bytes >>= λ a. Some (to a.0, a.1)

pub mapped_takes : {A B : Type 0} {F : A → Type 0} {f : A → List ℕ} {r : List ℕ → Option (A × List ℕ)} → Exact F f r → (to : A → B) (bytes : List ℕ) (x : B × List ℕ) → IsBytes bytes → mapped to r bytes ≡ Some x
    → (a : A) × (to a ≡ x.0) × Takes bytes (f a) x.1 × F a
mapped_takes {A} {B} {F} {f} {r} one to bytes x fits e =
    let a = bind_some (r bytes) (λ a. Some (to a.0, a.1)) x e in
    let p = one.takes bytes a.0 fits a.1 in
    let made : B × List ℕ = (to a.0.0, a.0.1) in
    let is = some_is made x a.2 in
    (a.0.0, ap (λ (y : B × List ℕ). y.0) is, subst (λ (y : B × List ℕ). Takes bytes (f a.0.0) y.1) is p.0, p.1)

pub mapped_again : {A B : Type 0} {F : A → Type 0} {f : A → List ℕ} {r : List ℕ → Option (A × List ℕ)} → Exact F f r → (to : A → B) (a : A) (rest : List ℕ) → F a → mapped to r (f a ++ rest) ≡ Some (to a, rest)
mapped_again {A} {B} {F} {f} {r} one to a rest h = rw (one.again a rest h) refl

-- a value of another type with the same parts
pub Exact-mapped : {A B : Type 0} {F : A → Type 0} {f : A → List ℕ} {r : List ℕ → Option (A × List ℕ)} (to : A → B) (from : B → A) → ((a : A) → from (to a) ≡ a) → ((b : B) → to (from b) ≡ b)
    → Exact F f r → Exact (λ (b : B). F (from b)) (λ (b : B). f (from b)) (mapped to r)
Exact-mapped {A} {B} {F} {f} {r} to from left right one = record {
  takes = λ bytes x fits e.
      let m = mapped_takes one to bytes x fits e in
      let is : m.0 ≡ from x.0 = sym (left m.0) ∙ ap from m.1 in
      (subst (λ (a : A). Takes bytes (f a) x.1) is m.2, subst F is m.3);
  again = λ b rest h. mapped_again one to (from b) rest h ∙ ap (λ (c : B). Some (c, rest)) (right b);
}

-- ---- numbers

pub record IsWide (w : Width) (limit : ℕ) : Type 0 where
  pub len : (n : ℕ) → length (to_be_bytes w n) ≡ byte_len w
  pub back : (bytes : List ℕ) → length bytes ≡ byte_len w → IsBytes bytes → to_be_bytes w (from_be_bytes w bytes) ≡ bytes
  pub again : (n : ℕ) → n < limit → from_be_bytes w (to_be_bytes w n) ≡ n
  pub below : (bytes : List ℕ) → IsBytes bytes → from_be_bytes w bytes < limit

pub wide16 : IsWide w16 (2 ^ 16)
wide16 = record {
  len = λ n. refl;
  back = λ bytes len fits. be_bytes_2 bytes _ len fits refl;
  again = λ n lt. from_be_bytes-to_be_bytes_2 n lt;
  below = λ bytes fits. omega (arith, fits 0, fits 1);
}

pub wide32 : IsWide w32 (2 ^ 32)
wide32 = record {
  len = λ n. refl;
  back = λ bytes len fits. be_bytes_4 bytes _ len fits refl;
  again = λ n lt. from_be_bytes-to_be_bytes_4 n lt;
  below = λ bytes fits. omega (arith, fits 0, fits 1, fits 2, fits 3);
}

pub Exact-number : {w : Width} {limit : ℕ} → IsWide w limit → Exact (λ (n : ℕ). n < limit) (to_be_bytes w) (number_at w)
Exact-number {w} {limit} wide = record {
  takes = λ bytes x fits e.
      let g = guard_fails (ltb (length bytes) (byte_len w)) (Some (from_be_bytes w (take (byte_len w) bytes), drop (byte_len w) bytes)) x e in
      let long : byte_len w ≤ length bytes = ltb-false _ _ g.0 in
      let made : ℕ × List ℕ = (from_be_bytes w (take (byte_len w) bytes), drop (byte_len w) bytes) in
      let front : to_be_bytes w (from_be_bytes w (take (byte_len w) bytes)) ≡ take (byte_len w) bytes = wide.back (take (byte_len w) bytes) (omega (arith, length-take (byte_len w) bytes)) (IsBytes-take (byte_len w) bytes fits) in
      subst (λ (y : ℕ × List ℕ). Takes bytes (to_be_bytes w y.0) y.1 × (y.0 < limit)) (some_is made x g.1)
      (record { parts = sym (take-append-drop (byte_len w) bytes) ∙ ap (λ (t : List ℕ). t ++ drop (byte_len w) bytes) (sym front); rest_fits = IsBytes-drop (byte_len w) bytes fits }, wide.below (take (byte_len w) bytes) (IsBytes-take (byte_len w) bytes fits));
  again = λ n rest lt.
      let len = wide.len n in
      let long : ltb (length (to_be_bytes w n ++ rest)) (byte_len w) ≡ false = le-ltb _ _ (omega (arith, length-append (to_be_bytes w n) rest)) in
      rw (long, take_at (to_be_bytes w n) rest (byte_len w) len, drop_at (to_be_bytes w n) rest (byte_len w) len, wide.again n lt) refl;
}

pub number16 : Exact (λ (n : ℕ). n < 2 ^ 16) (to_be_bytes w16) (number_at w16)
number16 = Exact-number wide16

pub number32 : Exact (λ (n : ℕ). n < 2 ^ 32) (to_be_bytes w32) (number_at w32)
number32 = Exact-number wide32

pub Exactly-number : {w : Width} {limit : ℕ} → IsWide w limit → (n : ℕ) → n < limit → Exactly (to_be_bytes w n) (after_number w n)
unfolding after_number
Exactly-number {w} {limit} wide n lt = record {
  takes = λ bytes rest fits e.
      let a = bind_some (number_at w bytes) (λ m. cond (eqb m.0 n) (Some m.1) None) rest e in
      let g = guard_holds (eqb a.0.0 n) (Some a.0.1) rest a.2 in
      let p = (Exact-number wide).takes bytes a.0 fits a.1 in
      let is : a.0.0 ≡ n = eqb-true a.0.0 n g.0 in
      subst (λ (t : List ℕ). Takes bytes (to_be_bytes w n) t) (some_is a.0.1 rest g.1) (subst (λ (m : ℕ). Takes bytes (to_be_bytes w m) a.0.1) is p.0);
  again = λ rest. rw ((Exact-number wide).again n rest lt, eq-eqb n n refl) refl;
}

-- bytes behind their number
pub Exact-sized : {w : Width} {limit : ℕ} → IsWide w limit → Exact (λ (t : List ℕ). length t < limit) (λ (t : List ℕ). to_be_bytes w (length t) ++ t) (sized_at w)
unfolding sized_at
Exact-sized {w} {limit} wide = record {
  takes = λ bytes x fits e.
      let a = bind_some (number_at w bytes) (λ n. bytes_at n.0 n.1) x e in
      let n = a.0 in
      let p = (Exact-number wide).takes bytes n fits a.1 in
      let g = guard_fails (ltb (length n.1) n.0) (Some (take n.0 n.1, drop n.0 n.1)) x a.2 in
      let long : n.0 ≤ length n.1 = ltb-false _ _ g.0 in
      let len : length (take n.0 n.1) ≡ n.0 = omega (arith, length-take n.0 n.1) in
      let q : Takes n.1 (take n.0 n.1) (drop n.0 n.1) = record { parts = sym (take-append-drop n.0 n.1); rest_fits = IsBytes-drop n.0 n.1 p.0.rest_fits } in
      let whole : Takes bytes (to_be_bytes w (length (take n.0 n.1)) ++ take n.0 n.1) (drop n.0 n.1) = subst (λ (k : ℕ). Takes bytes (to_be_bytes w k ++ take n.0 n.1) (drop n.0 n.1)) (sym len) (Takes-then bytes (to_be_bytes w n.0) n.1 (take n.0 n.1) (drop n.0 n.1) p.0 q) in
      let made : List ℕ × List ℕ = (take n.0 n.1, drop n.0 n.1) in
      subst (λ (y : List ℕ × List ℕ). Takes bytes (to_be_bytes w (length y.0) ++ y.0) y.1 × (length y.0 < limit)) (some_is made x g.1) (whole, omega (arith, len, p.1));
  again = λ t rest lt.
      let long : ltb (length (t ++ rest)) (length t) ≡ false = le-ltb _ _ (omega (arith, length-append t rest)) in
      ap (λ bytes. number_at w bytes >>= λ n. bytes_at n.0 n.1) (append_assoc (to_be_bytes w (length t)) t rest) ∙ rw ((Exact-number wide).again (length t) (t ++ rest) lt, long, take_at t rest (length t) refl, drop_at t rest (length t) refl) refl;
}
