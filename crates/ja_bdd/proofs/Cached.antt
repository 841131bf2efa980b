-- What the cache holds stays right as the seat learns more, and as entries are replaced.
use Rattle.std.proofs.Common.{◌≡◌, ℕ, ◌<◌, ◌≤◌, Bool, true, false, List, length, set, replicate, get_or, refl, sym, ap, ◌∙◌, subst, arith, length-set, get_or-set_same}
use Rattle.std.specs.Prelude.{Option, None, Some, slice_get}
use Rattle.std.proofs.lemmas.List.{get_or-set_other, get_or-replicate, get_or_past, length-replicate}
use Rattle.std.proofs.lemmas.Option.{slice_get_within, get_or_from_slice_get, slice_get-get_or}
use Rattle.std.proofs.Math.Logic.{∥∥₁_elim, ∥∥₁_prop}
use Rattle.std.proofs.Math.Nat.{ℕ_set}
use Rattle.std.proofs.Math.Bridge.{le_prop}
use Rattle.std.proofs.Math.Bool.{Bool-set}
use mathlib.Core.HLevel.{Σ_prop_path}
use mathlib.Core.Logic.{dite}
use native.Mathlib.Decide.{ℕ_discrete, dec_lt}
use Rattle.ja_node_core.specs.Tree.{Tree, leaf, branch}
use Rattle.ja_node_core.specs.Word.{var_of, low_of, high_of}
use Rattle.ja_node_core.specs.Node.{Words, Means, Knows, IsPart}
use Rattle.ja_node_core.specs.declared.word.Node.{Node}
use Rattle.ja_node_core.proofs.Meanings.{tree_one}
use Rattle.ja_bdd.specs.Functions.{Function, forgotten, renamed}
use Rattle.ja_bdd.specs.Meaning.{meaning, IsMeant}
use Rattle.ja_bdd.specs.Copies.{in_copies, all_forgotten}
use Rattle.ja_bdd.specs.declared.copies.Copies.{Copies}
use Rattle.ja_bdd.specs.declared.cache.Joint.{Joint}
use Rattle.ja_bdd.specs.declared.cache.Joint.TheVariants.{And}
use Rattle.ja_bdd.specs.declared.cache.Question.{Question}
use Rattle.ja_bdd.specs.declared.cache.Question.TheVariants.{Join, Forget, Shift, Product}
use Rattle.ja_bdd.specs.declared.cache.Entry.{Entry}
use Rattle.ja_bdd.specs.Inner.{joined, IsShifted, IsAbout, IsAnswer, AreRight, AreSameCopies, IsSame, HasAnswer, is_shift, AreShiftsEarly}
use Rattle.ja_bdd.proofs.Sound.{Sound}
use Rattle.ja_bdd.proofs.Parts.{keeps}

pub means_prop : (k : Words) (t : Tree) (n : ℕ) → IsProp (Means k t n)
means_prop k (leaf b) n = ℕ_set _ _
means_prop k (branch v x y) n = let a = means_prop k x (low_of (k n)) in let b = means_prop k y (high_of (k n)) in let c : IsProp (var_of (k n) ≡ v) = ℕ_set _ _ in hlevel (a, b, c, le_prop)

pub knows_prop : (k : Words) (n : ℕ) → IsProp (Knows k n)
knows_prop k n x y = Σ_prop_path (λ t. means_prop k t n) (tree_one k x.0 y.0 n x.1 y.1)

function_prop : (φ ψ : Function) → IsProp (φ ≡ ψ)
function_prop φ ψ = hlevel Bool-set

pub meant_prop : (k : Words) (n : ℕ) (φ : Function) → IsProp (IsMeant k n φ)
meant_prop k n φ = hlevel (knows_prop, function_prop)

shifted_prop : (r : Option (ℕ → ℕ)) (k : Words) (f : ℕ) (φ : Function) → IsProp (IsShifted r k f φ)
shifted_prop None k f φ = hlevel
shifted_prop (Some m) k f φ = hlevel (knows_prop, function_prop)

pub answer_prop : (r : Option (ℕ → ℕ)) (k : Words) (q : Question) (n : Node) → IsProp (IsAnswer r k q n)
answer_prop r k (Join j f g) n = hlevel (knows_prop, function_prop)
answer_prop r k (Forget f v) n = hlevel (knows_prop, function_prop)
answer_prop r k (Shift f) n = hlevel (knows_prop, shifted_prop)
answer_prop r k (Product f g c) n = hlevel (knows_prop, function_prop)

module _ (old new : Words) (sound : Sound old) (sound' : Sound new) (part : IsPart old new) where
  shifted_more : (r : Option (ℕ → ℕ)) (f : ℕ) (φ : Function) → IsShifted r old f φ → IsShifted r new f φ
  shifted_more None f φ is = tt
  shifted_more (Some m) f φ (x, is) = let kept = keeps old new sound sound' part f x in (kept.0, ap (renamed m) kept.1 ∙ is)

  pub about_more : (r : Option (ℕ → ℕ)) (q : Question) (φ : Function) → IsAbout r old q φ → IsAbout r new q φ
  about_more r (Join j f g) φ (x, y, is) =
      let a = keeps old new sound sound' part f.number x in
      let b = keeps old new sound sound' part g.number y in
      (a.0, b.0, (λ i. joined j (a.1 i) (b.1 i)) ∙ is)
  about_more r (Forget f v) φ (x, is) = let a = keeps old new sound sound' part f.number x in (a.0, ap (forgotten v) a.1 ∙ is)
  about_more r (Shift f) φ is = shifted_more r f.number φ is
  about_more r (Product f g c) φ (x, y, is) =
      let a = keeps old new sound sound' part f.number x in
      let b = keeps old new sound sound' part g.number y in
      (a.0, b.0, (λ i. all_forgotten (in_copies c) (joined And (a.1 i) (b.1 i))) ∙ is)

  -- a node that means what was asked for is an answer, also once more is known
  pub answers : (r : Option (ℕ → ℕ)) (q : Question) (n : Node) (φ : Function) → IsAbout r old q φ → IsMeant new n.number φ → IsAnswer r new q n
  answers r q n φ about is = (is.0, subst (IsAbout r new q) (sym is.1) (about_more r q φ about))

  pub right_more : (r : Option (ℕ → ℕ)) (es : List Entry) → AreRight r old es → AreRight r new es
  right_more r es right i e at = let a = right i e at in answers r e.asked e.made (meaning old e.made.number) a.1 (keeps old new sound sound' part e.made.number a.0)

  pub right_still : (r : Option (ℕ → ℕ)) (es : List Entry) → ∥ AreRight r old es ∥₁ → ∥ AreRight r new es ∥₁
  right_still r es right = ∥∥₁_elim right ∥∥₁_prop (λ all. ∣ right_more r es all ∣₁)

-- what holds of each entry at its place, once one is replaced
all_set : (P : ℕ → Entry → Type 0) (es : List Entry) (i : ℕ) (e : Entry) → ((j : ℕ) (x : Entry) → slice_get es j ≡ Some x → P j x) → P i e → (j : ℕ) (x : Entry) → slice_get (set es i e) j ≡ Some x → P j x
all_set P es i e all is j x at =
    let lt : j < length es = (let within = slice_get_within (set es i e) j x at in let same = length-set es i e in omega arith) in
    dite (ℕ_discrete j i)
    (λ same. let new : x ≡ e = sym (get_or_from_slice_get (set es i e) j x e at) ∙ ap (λ n. get_or (set es i e) n e) same ∙ get_or-set_same es i e e (subst (λ n. n < length es) same lt) in
    subst (λ (z : ℕ × Entry). P z.0 z.1) (λ t. (sym same t, sym new t)) is)
    (λ ne. all j x (slice_get-get_or es j x lt ∙ ap Some (sym (get_or-set_other es i j e x ne) ∙ get_or_from_slice_get (set es i e) j x x at)))

pub right_set : (r : Option (ℕ → ℕ)) (k : Words) (es : List Entry) (i : ℕ) (e : Entry) → AreRight r k es → IsAnswer r k e.asked e.made → AreRight r k (set es i e)
right_set r k es i e = all_set (λ j x. IsAnswer r k x.asked x.made) es i e

not_true : (b : Bool) → ¬ (b ≡ true) → b ≡ false
not_true true isnt = absurd (isnt refl)
not_true false isnt = refl

pub early_set : (es : List Entry) (i : ℕ) (e : Entry) → AreShiftsEarly es → (is_shift e.asked ≡ true → i < 4096) → AreShiftsEarly (set es i e)
early_set es i e early here = all_set (λ j x. 4096 ≤ j → is_shift x.asked ≡ false) es i e early (λ le. not_true (is_shift e.asked) (λ is. let lt = here is in omega arith))

pub right_kept : (r : Option (ℕ → ℕ)) (k : Words) (es : List Entry) (i : ℕ) (e : Entry) → ∥ AreRight r k es ∥₁ → IsAnswer r k e.asked e.made → ∥ AreRight r k (set es i e) ∥₁
right_kept r k es i e right is = ∥∥₁_elim right ∥∥₁_prop (λ all. ∣ right_set r k es i e all is ∣₁)

each_copy : (n : ℕ) (e : Entry) (j : ℕ) (x : Entry) → slice_get (replicate n e) j ≡ Some x → x ≡ e
each_copy n e j x at =
    let lt = slice_get_within (replicate n e) j x at in
    sym (get_or_from_slice_get (replicate n e) j x e at) ∙ get_or-replicate n j e e (let len = length-replicate n e in omega arith)

pub right_copies : (r : Option (ℕ → ℕ)) (k : Words) (n : ℕ) (e : Entry) → IsAnswer r k e.asked e.made → AreRight r k (replicate n e)
right_copies r k n e is j x at = subst (λ (z : Entry). IsAnswer r k z.asked z.made) (sym (each_copy n e j x at)) is

pub early_copies : (n : ℕ) (e : Entry) → is_shift e.asked ≡ false → AreShiftsEarly (replicate n e)
early_copies n e other j x at le = ap (λ (z : Entry). is_shift z.asked) (each_copy n e j x at) ∙ other

shifted_same : (r : Option (ℕ → ℕ)) (k : Words) (f a : ℕ) (φ : Function) → f ≡ a → IsShifted r k f φ → IsShifted r k a φ
shifted_same r k f a φ e = subst (λ n. IsShifted r k n φ) e

copies_same : (c d : Copies) → AreSameCopies c d → c ≡ d
copies_same c d is i = record { at_entry = is.0 i; at_present = is.1 i; at_next = is.2 i; at_callee = is.3 i }

-- what is right for a question is right for the same question
about_same : (r : Option (ℕ → ℕ)) (k : Words) (q p : Question) (φ : Function) → IsSame q p → IsAbout r k q φ → IsAbout r k p φ
about_same r k (Join j f g) (Join i a b) φ s about = subst (λ (x : Joint × ℕ × ℕ). Knows k x.1 × Knows k x.2 × (joined x.0 (meaning k x.1) (meaning k x.2) ≡ φ)) (λ t. (s.0 t, s.1 t, s.2 t)) about
about_same r k (Join j f g) (Forget a u) φ s about = absurd s
about_same r k (Join j f g) (Shift a) φ s about = absurd s
about_same r k (Forget f v) (Join i a b) φ s about = absurd s
about_same r k (Forget f v) (Forget a u) φ s about = subst (λ (x : ℕ × ℕ). Knows k x.0 × (forgotten x.1 (meaning k x.0) ≡ φ)) (λ t. (s.0 t, s.1 t)) about
about_same r k (Forget f v) (Shift a) φ s about = absurd s
about_same r k (Shift f) (Join i a b) φ s about = absurd s
about_same r k (Shift f) (Forget a u) φ s about = absurd s
about_same r k (Shift f) (Shift a) φ s about = shifted_same r k f.number a.number φ s about
about_same r k (Join j f g) (Product a b d) φ s about = absurd s
about_same r k (Forget f v) (Product a b d) φ s about = absurd s
about_same r k (Shift f) (Product a b d) φ s about = absurd s
about_same r k (Product f g c) (Join i a b) φ s about = absurd s
about_same r k (Product f g c) (Forget a u) φ s about = absurd s
about_same r k (Product f g c) (Shift a) φ s about = absurd s
about_same r k (Product f g c) (Product a b d) φ s about =
    subst (λ (x : Copies × ℕ × ℕ). Knows k x.1 × Knows k x.2 × (all_forgotten (in_copies x.0) (joined And (meaning k x.1) (meaning k x.2)) ≡ φ)) (λ t. (copies_same c d s.2 t, s.0 t, s.1 t)) about

-- what is found is right
pub right_found : (r : Option (ℕ → ℕ)) (k : Words) (es : List Entry) (q : Question) (n : Node) → ∥ AreRight r k es ∥₁ → HasAnswer es q n → IsAnswer r k q n
right_found r k es q n right (i, e, at, same, made) = ∥∥₁_elim right (answer_prop r k q n) (λ all. let is = all i e at in subst (IsAnswer r k q) made (is.0, about_same r k e.asked q (meaning k e.made.number) same is.1))

-- a list of copies of the default has it everywhere
pub all_copies : {X : Type 0} (n i : ℕ) (x : X) → get_or (replicate n x) i x ≡ x
all_copies n i x = dite (dec_lt i n) (get_or-replicate n i x x) (λ not. get_or_past (replicate n x) i x (let len = length-replicate n x in omega arith))
