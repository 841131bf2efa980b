-- The classes at or above a class are there, in order.
use Rattle.std.proofs.Common.{◌≡◌, ℕ, zero, suc, ◌<◌, ◌≤◌, ◌^◌, ◌⊎◌, inl, inr, List, [], ◌∷◌, length, get_or, refl, sym, ap, ◌∙◌, subst, arith}
use Rattle.std.specs.Prelude.{◌↔◌, All, Contains}
use Rattle.std.specs.List.Sorted.{IsStrictlyIncreasing}
use Rattle.std.proofs.lemmas.List.Elements.{Contains-get_or}
use Rattle.ja_base.specs.declared.id.ClassId.{ClassId}
use Rattle.ja_ir.specs.declared.head.ClassHead.{ClassHead}
use Rattle.ja_supertypes.specs.Supertypes.{AreSupertypes, IsAtOrAbove}
use Rattle.ja_supertypes.proofs.Falls.{supertype-target}
use Rattle.ja_heads.specs.Classes.{AreSupers}
use Rattle.ja_heads.specs.Signatures.{numbers_of}
use Rattle.ja_heads.specs.InnerSupers.{with_own}
use Rattle.ja_heads.proofs.Ascending.{with_own-ascending, with_own-members}

-- the number of a listed class is listed
pub number-listed : (ids : List ClassId) (k : ℕ) (d : ClassId) → k < length ids → Contains (numbers_of ids) (get_or ids k d).0
number-listed [] k d lt = absurd (omega arith)
number-listed (id ∷ ids) zero d lt = (zero, omega arith, refl)
number-listed (id ∷ ids) (suc k) d lt =
    let rest : Contains (numbers_of ids) (get_or ids k d).0 = number-listed ids k d (omega arith) in
    (suc rest.0, omega (arith, rest.1), rest.2)

at-or-above-inside : (heads : List ClassHead) (c d : ℕ) → c < length heads → IsAtOrAbove heads c d → d < length heads
at-or-above-inside heads c d lt (inl same) = omega arith
at-or-above-inside heads c d lt (inr above) = supertype-target heads c d above

pub supers-inside : (heads : List ClassHead) (c : ℕ) (ids : List ClassId) → c < length heads → AreSupers heads c ids → All (λ id. id.0 < length heads) ids
supers-inside heads c ids lt are k d within = at-or-above-inside heads c (get_or ids k d).0 lt ((are.exact (get_or ids k d).0).0 (number-listed ids k d within))

pub supertypes-fit : (heads : List ClassHead) (c : ℕ) (above list : List ℕ) → length heads ≤ 2 ^ 26 → AreSupertypes heads c above → list ≡ above → All (λ d. d < 2 ^ 32) list
supertypes-fit heads c above list few are same k d within =
    let listed : Contains list (get_or list k d) = Contains-get_or list k d within in
    let inside : get_or list k d < length heads = supertype-target heads c (get_or list k d) ((are.exact (get_or list k d)).0 (subst (λ (l : List ℕ). Contains l (get_or list k d)) same listed)) in
    omega arith

pub are-supers : (heads : List ClassHead) (c : ℕ) (above list : List ℕ) (ids : List ClassId) → AreSupertypes heads c above → list ≡ above → numbers_of ids ≡ with_own c list → AreSupers heads c ids
are-supers heads c above list ids are same is =
    let e : numbers_of ids ≡ with_own c above = is ∙ ap (with_own c) same in
    record {
      exact = λ d.
          let placed : Contains (with_own c above) d ↔ ((c ≡ d) ⊎ Contains above d) = with_own-members c above d in (
            λ there. elim (placed.0 (subst (λ (l : List ℕ). Contains l d) e there)) [ inl own ↦ inl own | inr up ↦ inr ((are.exact d).0 up) ],
            λ up. subst (λ (l : List ℕ). Contains l d) (sym e) (placed.1 (elim up [ inl own ↦ inl own | inr further ↦ inr ((are.exact d).1 further) ])),
          );
      ascending = subst IsStrictlyIncreasing (sym e) (with_own-ascending c above are.ascending);
    }
