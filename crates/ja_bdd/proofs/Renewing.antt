-- A cache out of which the renamings were taken is right for any renaming.
use Rattle.std.proofs.Common.{◌≡◌, ◌⊎◌, ℕ, ◌+◌, ◌<◌, ◌≤◌, false, List, length, set, get_or, refl, sym, ap, ◌∙◌, subst, inl, inr, ⊎_elim, arith, length-set, get_or-set_same}
use Rattle.std.specs.Prelude.{Option, None, Some, slice_get, Result, Ok, Err, IfOk, OnOk}
use Rattle.std.proofs.lemmas.Bool.{false≢true}
use Rattle.std.proofs.lemmas.List.{get_or-set_other}
use Rattle.std.proofs.lemmas.Option.{slice_get_within, get_or_from_slice_get, slice_get-get_or}
use Rattle.std.proofs.Math.Logic.{∥∥₁_elim, ∥∥₁_prop}
use mathlib.Core.Logic.{dite}
use native.Mathlib.Decide.{ℕ_discrete}
use Rattle.ja_node_core.specs.Node.{Words, Knows}
use Rattle.ja_node_core.specs.declared.word.Node.{Node}
use Rattle.ja_bdd.specs.Meaning.{meaning}
use Rattle.ja_bdd.specs.declared.cache.Joint.TheVariants.{And, Or}
use Rattle.ja_bdd.specs.declared.cache.Question.{Question}
use Rattle.ja_bdd.specs.declared.cache.Question.TheVariants.{Join, Forget, Shift, Product}
use Rattle.ja_bdd.specs.declared.cache.Entry.{Entry}
use Rattle.ja_bdd.specs.Inner.{joined, IsAnswer, AreRight, is_shift, AreShiftsEarly, AsksNothing, IsNothing, IsLeft}
use Rattle.ja_bdd.proofs.Sound.{Sound, knows_constant}
use Rattle.ja_bdd.proofs.Joining.{joined_one}

nothing_right : (k : Words) → Sound k → (r : Option (ℕ → ℕ)) (q : Question) (n : Node) → AsksNothing q → n.number ≡ 0 → IsAnswer r k q n
nothing_right k sound r (Join And f g) n none made =
    let zero_known = knows_constant k false in
    subst (λ (x : ℕ × ℕ × ℕ). Knows k x.2 × (Knows k x.0 × Knows k x.1 × (joined And (meaning k x.0) (meaning k x.1) ≡ meaning k x.2))) (λ i. (sym none.0 i, sym none.1 i, sym made i))
    (zero_known, (zero_known, zero_known, joined_one k sound And 0 0 refl))
nothing_right k sound r (Join Or f g) n none made = absurd none
nothing_right k sound r (Forget f v) n none made = absurd none
nothing_right k sound r (Shift f) n none made = absurd none
nothing_right k sound r (Product f g c) n none made = absurd none

-- an answer of no renaming is right for any
other_right : (m : ℕ → ℕ) (k : Words) (q : Question) (n : Node) → is_shift q ≡ false → IsAnswer None k q n → IsAnswer (Some m) k q n
other_right m k (Join j f g) n other is = is
other_right m k (Forget f v) n other is = is
other_right m k (Shift f) n other is = absurd (false≢true (sym other))
other_right m k (Product f g c) n other is = is

left_right : (m : ℕ → ℕ) (k : Words) → Sound k → (old new : List Entry) → AreRight None k old → ((i : ℕ) (e : Entry) → slice_get new i ≡ Some e → IsLeft old i e) → AreRight (Some m) k new
left_right m k sound old new right left i e at = ⊎_elim (λ is. nothing_right k sound (Some m) e.asked e.made is.0 is.1) (λ t. other_right m k e.asked e.made t.1 (right i e t.0)) (left i e at)

-- right for a renaming is right for none
pub any_right : (m : ℕ → ℕ) (k : Words) (q : Question) (n : Node) → IsAnswer (Some m) k q n → IsAnswer None k q n
any_right m k (Join j f g) n is = is
any_right m k (Forget f v) n is = is
any_right m k (Shift f) n is = (is.0, tt)
any_right m k (Product f g c) n is = is

pub renewed : (m : ℕ → ℕ) (k : Words) → Sound k → (old new : List Entry) → ∥ AreRight None k old ∥₁ → ((i : ℕ) (e : Entry) → slice_get new i ≡ Some e → IsLeft old i e) → ∥ AreRight (Some m) k new ∥₁
renewed m k sound old new right left = ∥∥₁_elim right ∥∥₁_prop (λ all. ∣ left_right m k sound old new all left ∣₁)

pub renewed_plain : (k : Words) → Sound k → (old new : List Entry) → ∥ AreRight None k old ∥₁ → ((i : ℕ) (e : Entry) → slice_get new i ≡ Some e → IsLeft old i e) → ∥ AreRight None k new ∥₁
renewed_plain k sound old new right left = ∥∥₁_elim (renewed (λ v. v) k sound old new right left) ∥∥₁_prop (λ all. ∣ (λ i e at. any_right (λ v. v) k e.asked e.made (all i e at)) ∣₁)

nothing_shift : (q : Question) → AsksNothing q → is_shift q ≡ false
nothing_shift (Join And f g) none = refl
nothing_shift (Join Or f g) none = absurd none
nothing_shift (Forget f v) none = absurd none
nothing_shift (Shift f) none = absurd none
nothing_shift (Product f g c) none = absurd none

pub early_left : (old new : List Entry) → ((i : ℕ) (e : Entry) → slice_get new i ≡ Some e → IsLeft old i e) → AreShiftsEarly new
early_left old new left i e at le = ⊎_elim (λ nothing. nothing_shift e.asked nothing.0) (λ t. t.1) (left i e at)

-- how far the entries were gone through: those before i are left, and the others are as they were
abbrev pub IsThrough : List Entry → ℕ → List Entry → Type 0
IsThrough old i now = (j : ℕ) (e : Entry) → slice_get now j ≡ Some e → (j < i → IsLeft old j e) × (i ≤ j → slice_get old j ≡ Some e)

pub not_through : (old : List Entry) → IsThrough old 0 old
not_through old j e at = ((λ lt. absurd (omega arith)), (λ le. at))

-- one entry more, which is left
pub through_set : (old now : List Entry) (i : ℕ) (x : Entry) → IsThrough old i now → IsLeft old i x → IsThrough old (i + 1) (set now i x)
through_set old now i x through left j e at =
    let within : j < length now = (let lt = slice_get_within (set now i x) j e at in let same = length-set now i x in omega arith) in
    dite (ℕ_discrete j i)
    (λ same. let is : e ≡ x = sym (get_or_from_slice_get (set now i x) j e x at) ∙ ap (λ n. get_or (set now i x) n x) same ∙ get_or-set_same now i x x (subst (λ n. n < length now) same within) in
    ((λ lt. subst (λ (p : ℕ × Entry). IsLeft old p.0 p.1) (λ t. (sym same t, sym is t)) left), (λ le. absurd (omega arith))))
    (λ ne.
    let before = through j e (slice_get-get_or now j e within ∙ ap Some (sym (get_or-set_other now i j x e ne) ∙ get_or_from_slice_get (set now i x) j e e at)) in
    ((λ lt. before.0 (omega arith)), (λ le. before.1 (omega arith))))

-- the entry that takes the place of the one at i
pub left_here : (old now : List Entry) (i : ℕ) (x e : Entry) → IsThrough old i now → slice_get now i ≡ Some e → IsNothing x ⊎ ((x ≡ e) × (is_shift e.asked ≡ false)) → IsLeft old i x
left_here old now i x e through here = ⊎_elim (λ nothing. inl nothing) (λ t. inr ((through i e here).1 (omega arith) ∙ ap Some (sym t.0), ap (λ (y : Entry). is_shift y.asked) t.0 ∙ t.1))

pub on_both : {X E : Type 0} (r : Result X E) (P Q : X → Type 0) (R : Type 0) → IfOk r P → IfOk r Q → ((x : X) → P x → Q x → R) → OnOk r R
on_both (Ok x) P Q R p q f = f x p q
on_both (Err e) P Q R p q f = tt
