-- The reasons for an entry's true parameters, chosen among the cells that are reasons for some of them.
use Rattle.std.proofs.Common.{◌≡◌, inl, inr, ℕ, zero, suc, ◌<◌, Bool, true, false, List, [], ◌∷◌, refl, sym, subst, arith}
use Rattle.std.proofs.lemmas.Bool.{cases_lt}
use Rattle.std.specs.Prelude.{Contains}
use Rattle.ja_ir.specs.declared.method.Method.{Method}
use Rattle.ja_ir.specs.declared.entry.Entry.{Entry}
use Rattle.ja_ir.specs.Params.{param_count, param_local}
use Rattle.ja_facts.specs.Least.{Each}
use Rattle.ja_facts.specs.Slots.{Slot, Local}
use Rattle.ja_facts.specs.Held.{Cell}
use Rattle.ja_facts.specs.Analyses.{Analyses}
use Rattle.ja_facts.specs.Formulas.{Assignment}
use Rattle.ja_facts.specs.Equations.{Fact, Stored, MayBeTrue, HoldsStored, IsReason, AreDistinct, stored_facts}
use Rattle.ja_facts.proofs.Membership.{in_first, in_rest, split_item, no_item, is_in, same_number, same_cell}

-- reasons for the first so many parameters
pub record Chosen (A : Analyses) (entry : Entry) (method : Method) (a : Assignment) (cells : List Cell) (n : ℕ) : Type 0 where
  pub chosen : List Cell
  pub inside : (c : Cell) → Contains chosen c → Contains cells c
  pub reasons : (c : Cell) → Contains chosen c → IsReason A entry method a c
  pub once : AreDistinct chosen
  pub parameters : (k : ℕ) → k < n → a.slot (Local (param_local method k)) ≡ true → MayBeTrue A entry method chosen (Local (param_local method k))

may_rest : {A : Analyses} {entry : Entry} {method : Method} {z : Slot} (cells : List Cell) (c : Cell) → MayBeTrue A entry method cells z → MayBeTrue A entry method (c ∷ cells) z
may_rest cells c m = record {
  k = m.k;
  below = m.below;
  is_slot = m.is_slot;
  why = elim m.why [ inl marked ↦ inl marked | inr h ↦ inr (record { cell = h.cell; listed = in_rest c h.cell cells h.listed; reaches = h.reaches }) ];
}

module _ (A : Analyses) (entry : Entry) (method : Method) (a : Assignment) (cells : List Cell) (may : (z : Slot) → a.slot z ≡ true → MayBeTrue A entry method cells z) where
  slot-of : ℕ → Slot
  slot-of k = Local (param_local method k)

  -- one parameter more, whose reasons are there already
  kept : (n : ℕ) (rest : Chosen A entry method a cells n) → (a.slot (Local (param_local method n)) ≡ true → MayBeTrue A entry method rest.chosen (Local (param_local method n)))
      → Chosen A entry method a cells (suc n)
  kept n rest last = record {
    chosen = rest.chosen;
    inside = rest.inside;
    reasons = rest.reasons;
    once = rest.once;
    parameters = λ k below t. elim (cases_lt k n) [
      | inl h ↦ rest.parameters k h t
      | inr past ↦
          let same : n ≡ k = omega (arith, below, past) in
          subst (λ (j : ℕ). MayBeTrue A entry method rest.chosen (Local (param_local method j))) same (last (subst (λ (j : ℕ). a.slot (Local (param_local method j)) ≡ true) (sym same) t))
    ];
  }

  -- one parameter more, with a reason of its own
  grown : (n : ℕ) (rest : Chosen A entry method a cells n) (c : Cell) → (Contains rest.chosen c → ⊥) → Contains cells c → IsReason A entry method a c
      → MayBeTrue A entry method (c ∷ rest.chosen) (Local (param_local method n)) → Chosen A entry method a cells (suc n)
  grown n rest c other member reason last = record {
    chosen = c ∷ rest.chosen;
    inside = λ d l. elim (split_item c d rest.chosen l) [ inl e ↦ subst (λ (x : Cell). Contains cells x) e member | inr l ↦ rest.inside d l ];
    reasons = λ d l. elim (split_item c d rest.chosen l) [ inl e ↦ subst (λ (x : Cell). IsReason A entry method a x) e reason | inr l ↦ rest.reasons d l ];
    once = (other, rest.once);
    parameters = λ k below t. elim (cases_lt k n) [
      | inl h ↦ may_rest rest.chosen c (rest.parameters k h t)
      | inr past ↦ let same : n ≡ k = omega (arith, below, past) in subst (λ (j : ℕ). MayBeTrue A entry method (c ∷ rest.chosen) (Local (param_local method j))) same last
    ];
  }

  -- a true parameter that is not marked
  by-cell : (n : ℕ) (rest : Chosen A entry method a cells n) → a.slot (Local (param_local method n)) ≡ true → (m : MayBeTrue A entry method cells (Local (param_local method n)))
      → (Contains entry.marked m.k → ⊥) → HoldsStored A entry.method.0 method m.k cells → Chosen A entry method a cells (suc n)
  by-cell n rest t m unmarked h = elim (is_in same_cell rest.chosen h.cell) [
    | inl there ↦ kept n rest (λ t. record { k = m.k; below = m.below; is_slot = m.is_slot; why = inr (record { cell = h.cell; listed = there; reaches = h.reaches }) })
    | inr other ↦
        grown n rest h.cell other h.listed
        (record { k = m.k; below = m.below; is_true = subst (λ (z : Slot). a.slot z ≡ true) m.is_slot t; unmarked = unmarked; reaches = h.reaches })
        (record { k = m.k; below = m.below; is_slot = m.is_slot; why = inr (record { cell = h.cell; listed = in_first h.cell rest.chosen; reaches = h.reaches }) })
  ]

  true-one : (n : ℕ) (rest : Chosen A entry method a cells n) → a.slot (Local (param_local method n)) ≡ true → (m : MayBeTrue A entry method cells (Local (param_local method n))) → Chosen A entry method a cells (suc n)
  true-one n rest t m = elim (is_in same_number entry.marked m.k) [
    | inl marked ↦ kept n rest (λ t. record { k = m.k; below = m.below; is_slot = m.is_slot; why = inl marked })
    | inr unmarked ↦ elim m.why [ inl marked ↦ absurd (unmarked marked) | inr h ↦ by-cell n rest t m unmarked h ]
  ]

  add : (n : ℕ) (rest : Chosen A entry method a cells n) (t : Bool) → a.slot (Local (param_local method n)) ≡ t → Chosen A entry method a cells (suc n)
  add n rest true t = true-one n rest t (may (Local (param_local method n)) t)
  add n rest false f = kept n rest (λ t. absurd (cc (t, f)))

  pub choose : (n : ℕ) → Chosen A entry method a cells n
  choose zero = record { chosen = []; inside = λ c l. absurd (no_item c l); reasons = λ c l. absurd (no_item c l); once = tt; parameters = λ k below t. absurd (omega (arith, below)) }
  choose (suc n) = add n (choose n) (a.slot (Local (param_local method n))) refl

  pub all-chosen : (it : Chosen A entry method a cells (param_count method)) (z : Slot) → a.slot z ≡ true → MayBeTrue A entry method it.chosen z
  all-chosen it z t =
      let m : MayBeTrue A entry method cells z = may z t in
      subst (λ (y : Slot). MayBeTrue A entry method it.chosen y) (sym m.is_slot) (it.parameters m.k m.below (subst (λ (y : Slot). a.slot y ≡ true) m.is_slot t))

each-at : (S : Fact → Type 0) (cells : List Cell) → Each S (stored_facts cells) → (c : Cell) → Contains cells c → S (Stored c)
each-at S [] each c l = absurd (no_item c l)
each-at S (d ∷ cells) each c l = elim (split_item d c cells l) [ inl e ↦ subst (λ (x : Cell). S (Stored x)) e each.0 | inr l ↦ each-at S cells each.1 c l ]

each-of : (S : Fact → Type 0) (cells : List Cell) → ((c : Cell) → Contains cells c → S (Stored c)) → Each S (stored_facts cells)
each-of S [] all = tt
each-of S (c ∷ cells) all = (all c (in_first c cells), each-of S cells (λ d l. all d (in_rest c d cells l)))

-- what holds of all cells holds of those that were chosen among them
pub each-inside : (S : Fact → Type 0) (cells chosen : List Cell) → ((c : Cell) → Contains chosen c → Contains cells c) → Each S (stored_facts cells) → Each S (stored_facts chosen)
each-inside S cells chosen inside each = each-of S chosen (λ c l. each-at S cells each c (inside c l))
