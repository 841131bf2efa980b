-- `==` tells whether facts are the same.
use Rattle.std.proofs.Common.{◌≡◌, inl, inr, Bool, true, false, List, [], ◌∷◌, ◌&&◌, eqb, refl, ap, subst, sym, ◌∙◌}
use Rattle.std.specs.Prelude.{Contains}
use Rattle.std.proofs.Math.Bool.{beq}
use Rattle.std.specs.List.{list_any}
use Rattle.std.proofs.lemmas.Bool.{and_parts, and_from, false≢true, eqb-true, eq-eqb, or_left, or_right}
use Rattle.indexmap.proofs.CallerLemmas.{Contains-list_any}
use Rattle.ja_explicit.specs.declared.item.Item.{Item}
use Rattle.ja_explicit.specs.declared.item.Item.TheVariants.{Context, At, Normal, Threw, Stored}
use Rattle.ja_explicit.specs.InnerSteps.{same_item, has}
use Rattle.ja_explicit.proofs.Lists.{cons_cases, nothing_in}

beq_is : (a b : Bool) → beq a b ≡ true → a ≡ b
beq_is true true h = refl
beq_is true false h = absurd (false≢true h)
beq_is false true h = absurd (false≢true h)
beq_is false false h = refl

beq_same : (a : Bool) → beq a a ≡ true
beq_same true = refl
beq_same false = refl

pub item_is : (x y : Item) → same_item x y ≡ true → x ≡ y
item_is (Context m a) (Context n b) h = let p = and_parts (eqb m n) (eqb a b) h in let e : m ≡ n = eqb-true m n p.0 in let f : a ≡ b = eqb-true a b p.1 in cc
item_is (At m i a b) (At n j c d) h =
    let p = and_parts (eqb m n) (eqb i j && (eqb a c && eqb b d)) h in
    let q = and_parts (eqb i j) (eqb a c && eqb b d) p.1 in
    let r = and_parts (eqb a c) (eqb b d) q.1 in
    let e : m ≡ n = eqb-true m n p.0 in let f : i ≡ j = eqb-true i j q.0 in let g : a ≡ c = eqb-true a c r.0 in let k : b ≡ d = eqb-true b d r.1 in cc
item_is (Normal m a r d) (Normal n b s e) h =
    let p = and_parts (eqb m n) (eqb a b && (beq r s && beq d e)) h in
    let q = and_parts (eqb a b) (beq r s && beq d e) p.1 in
    let t = and_parts (beq r s) (beq d e) q.1 in
    let f : m ≡ n = eqb-true m n p.0 in let g : a ≡ b = eqb-true a b q.0 in let k : r ≡ s = beq_is r s t.0 in let l : d ≡ e = beq_is d e t.1 in cc
item_is (Threw m a r d) (Threw n b s e) h =
    let p = and_parts (eqb m n) (eqb a b && (beq r s && beq d e)) h in
    let q = and_parts (eqb a b) (beq r s && beq d e) p.1 in
    let t = and_parts (beq r s) (beq d e) q.1 in
    let f : m ≡ n = eqb-true m n p.0 in let g : a ≡ b = eqb-true a b q.0 in let k : r ≡ s = beq_is r s t.0 in let l : d ≡ e = beq_is d e t.1 in cc
item_is (Stored c) (Stored d) h = let e : c ≡ d = eqb-true c d h in cc
item_is (Context m a) other h = absurd (false≢true h)
item_is (At m i a b) other h = absurd (false≢true h)
item_is (Normal m a r d) other h = absurd (false≢true h)
item_is (Threw m a r d) other h = absurd (false≢true h)
item_is (Stored c) other h = absurd (false≢true h)

pub item_same : (x : Item) → same_item x x ≡ true
item_same (Context m a) = and_from (eqb m m) (eqb a a) (eq-eqb m m refl) (eq-eqb a a refl)
item_same (At m i a b) = and_from (eqb m m) (eqb i i && (eqb a a && eqb b b)) (eq-eqb m m refl) (and_from (eqb i i) (eqb a a && eqb b b) (eq-eqb i i refl) (and_from (eqb a a) (eqb b b) (eq-eqb a a refl) (eq-eqb b b refl)))
item_same (Normal m a r d) = and_from (eqb m m) (eqb a a && (beq r r && beq d d)) (eq-eqb m m refl) (and_from (eqb a a) (beq r r && beq d d) (eq-eqb a a refl) (and_from (beq r r) (beq d d) (beq_same r) (beq_same d)))
item_same (Threw m a r d) = and_from (eqb m m) (eqb a a && (beq r r && beq d d)) (eq-eqb m m refl) (and_from (eqb a a) (beq r r && beq d d) (eq-eqb a a refl) (and_from (beq r r) (beq d d) (beq_same r) (beq_same d)))
item_same (Stored c) = eq-eqb c c refl

pub has_item : (items : List Item) (x : Item) → has items x ≡ true → Contains items x
has_item items x h = Contains-list_any same_item (λ y z. item_is y z) items x h

pub item_has : (items : List Item) (x : Item) → Contains items x → has items x ≡ true
item_has [] x h = nothing_in x h
item_has (y ∷ items) x h = elim (cons_cases y items x h) [
  | inl e ↦ or_left (same_item x y) (has items x) (subst (λ z. same_item x z ≡ true) (sym e) (item_same x))
  | inr rest ↦ or_right (same_item x y) (has items x) (item_has items x rest)
]
