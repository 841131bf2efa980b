-- Walks up the superclasses of a class.
use Rattle.std.proofs.Common.{◌≡◌, ℕ, ◌<◌, ◌⊎◌, inl, inr, Bool, true, false, List, length, replicate, refl, sym, ap, ◌∙◌, subst, arith}
use Rattle.std.specs.Prelude.{◌↔◌, Option, Some, None, slice_set}
use Rattle.std.proofs.lemmas.List.{length-set, length-replicate}
use Rattle.ja_sets.specs.Sets.{Has}
use Rattle.ja_sets.proofs.Members.{Has-set, no-member}
use Rattle.ja_ir.specs.declared.head.ClassHead.{ClassHead}
use Rattle.ja_supertypes.specs.InnerIndex.{HasJust, IsTop}
use Rattle.ja_supertypes.specs.Supertypes.{superclass_of, IsSuperclass, next}
use Rattle.ja_supertypes.proofs.Falls.{superclass-target}
use Rattle.ja_supertypes.proofs.Up.{IsUp, stands, higher, up-case, up-from, superclass-from, superclass-more, proper-inside}

-- a walk that gathers the superclasses of class c has what it passed, and the rest is ahead
pub record Gathers (heads : List ClassHead) (c : ℕ) (at : Option ℕ) (set : List Bool) : Type 0 where
  pub width : length set ≡ length heads
  pub ahead : (d : ℕ) → IsUp heads at d → IsUp heads (superclass_of heads c) d
  pub sound : (d : ℕ) → Has set d → IsUp heads (superclass_of heads c) d
  pub complete : (d : ℕ) → IsUp heads (superclass_of heads c) d → Has set d ⊎ IsUp heads at d

pub gathers-begin : (heads : List ClassHead) (c : ℕ) (at : Option ℕ) (set : List Bool) → at ≡ superclass_of heads c → set ≡ replicate (length heads) false → Gathers heads c at set
gathers-begin heads c at set is empty = record {
  width = ap length empty ∙ length-replicate (length heads) false;
  ahead = λ d up. subst (λ (o : Option ℕ). IsUp heads o d) is up;
  sound = λ d has. absurd (no-member (length heads) d (subst (λ (s : List Bool). Has s d) empty has));
  complete = λ d up. inr (subst (λ (o : Option ℕ). IsUp heads o d) (sym is) up);
}

pub gathers-inside : (heads : List ClassHead) (c : ℕ) (at : Option ℕ) (set : List Bool) (s : ℕ) → at ≡ Some s → Gathers heads c at set → s < length heads
gathers-inside heads c at set s is gathers =
    proper-inside heads c s (superclass-from heads (superclass_of heads c) s (gathers.ahead s (subst (λ (o : Option ℕ). IsUp heads o s) (sym is) stands)) c refl)

pub gathers-on : (heads : List ClassHead) (c : ℕ) (at beyond : Option ℕ) (set news : List Bool) (s : ℕ) → at ≡ Some s → beyond ≡ superclass_of heads s → news ≡ slice_set set s true
    → Gathers heads c at set → Gathers heads c beyond news
gathers-on heads c at beyond set news s is on e gathers = record {
  width = ap length e ∙ length-set set s true ∙ gathers.width;
  ahead = λ d up. gathers.ahead d (subst (λ (o : Option ℕ). IsUp heads o d) (sym is) (higher (subst (λ (o : Option ℕ). IsUp heads o d) on up)));
  sound = λ d has. elim ((both d).0 (subst (λ (x : List Bool). Has x d) e has)) [
    | inl same ↦ gathers.ahead d (subst (λ (o : Option ℕ). IsUp heads o d) (sym is) (subst (λ (x : ℕ). IsUp heads (Some s) x) (sym same) stands))
    | inr old ↦ gathers.sound d old
  ];
  complete = λ d up. elim (gathers.complete d up) [
    | inl old ↦ inl (subst (λ (x : List Bool). Has x d) (sym e) ((both d).1 (inr old)))
    | inr here ↦ elim (up-case heads (Some s) d (subst (λ (o : Option ℕ). IsUp heads o d) is here)) [
      | inl same ↦ inl (subst (λ (x : List Bool). Has x d) (sym e) ((both d).1 (inl (sym same))))
      | inr rest ↦ inr (subst (λ (o : Option ℕ). IsUp heads o d) (sym on) rest)
    ]
  ];
}
  where
    both : (d : ℕ) → Has (slice_set set s true) d ↔ ((d ≡ s) ⊎ Has set d)
    both d = Has-set set s d (omega (arith, gathers-inside heads c at set s is gathers, gathers.width))

pub gathers-end : (heads : List ClassHead) (c : ℕ) (at : Option ℕ) (set : List Bool) → at ≡ None → Gathers heads c at set → HasJust (IsSuperclass heads c) (length heads) set
gathers-end heads c at set is gathers = record {
  width = gathers.width;
  exact = λ d. (
    λ has. superclass-from heads (superclass_of heads c) d (gathers.sound d has) c refl,
    λ super. elim (gathers.complete d (up-from heads c d super)) [
      | inl has ↦ has
      | inr up ↦ absurd (up-case heads None d (subst (λ (o : Option ℕ). IsUp heads o d) is up))
    ],
  );
}

-- a walk stands at a class or at a superclass of it
pub record Stands (heads : List ClassHead) (c top : ℕ) : Type 0 where
  pub inside : top < length heads
  pub above : (c ≡ top) ⊎ IsSuperclass heads c top

pub stands-begin : (heads : List ClassHead) (c : ℕ) → c < length heads → Stands heads c c
stands-begin heads c lt = record { inside = lt; above = inl refl }

pub stands-on : (heads : List ClassHead) (c top d : ℕ) → superclass_of heads top ≡ Some d → Stands heads c top → Stands heads c d
stands-on heads c top d e at = record {
  inside = superclass-target heads top d e;
  above = inr (elim at.above [
    | inl same ↦ next (ap (superclass_of heads) same ∙ e)
    | inr super ↦ superclass-more heads c top d super e
  ]);
}

pub stands-end : (heads : List ClassHead) (c top : ℕ) → superclass_of heads top ≡ None → Stands heads c top → IsTop heads c top
stands-end heads c top e at = record { above = at.above; last = e }
