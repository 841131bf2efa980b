-- What the table tells is the least.
use Rattle.std.proofs.Common.{◌≡◌, ◌⊎◌, ◌↔◌, inl, inr, ℕ, zero, suc, ◌+◌, ◌<◌, ◌≤◌, Bool, true, false, List, [], ◌∷◌, length, get_or, Result, Ok, Err, IfOk, refl, sym, ap, subst, ◌∙◌, arith}
use Rattle.std.proofs.lemmas.Bool.{cases_lt}
use Rattle.std.proofs.lemmas.List.{get_or_past}
use Rattle.ja_ir.specs.declared.program.Parts.{Parts}
use Rattle.ja_ir.specs.Tokens.{absorbs}
use Rattle.ja_sets.specs.Sets.{Has}
use Rattle.ja_facts.specs.Least.{Least, IsSolution, Each}
use Rattle.ja_facts.specs.ClassSets.{HasField}
use Rattle.ja_facts.specs.ClassTables.{ClassTable, field_set, token_count}
use Rattle.ja_facts.specs.FactTables.{HeldTable, cell_count}
use Rattle.ja_facts.specs.Held.{Fact, TokenHolds, FieldHolds, Cell, OfField, OfBag, Rule, holds_field, holds_bag, of_field}
use Rattle.ja_facts.specs.Told.{TellsSets, TellsHeld, IsCell, cell_number, LeadsBy}
use Rattle.ja_facts.proofs.LeastLaws.{Least-is_solution, Least-below}
use Rattle.ja_holds.specs.Inner.{row, MayReach, Owns, owns_field, owns_bag, IsReachedFrom}
use Rattle.ja_holds.specs.Sized.{HasOnlyItsFields}
use Rattle.ja_holds.specs.Searches.{IsDone, AreDone, AreFields}
use Rattle.ja_holds.proofs.Basics.{Has-within}
use Rattle.ja_holds.proofs.Owning.{owner-below, absorbing-below}
use Rattle.ja_holds.proofs.Searching.{start-inside}
use Rattle.std.proofs.lemmas.Option.{slice_get_within}

-- a set that has a number is one of those that are listed
row-inside : (rows : List (List Bool)) (i x n : ℕ) → length rows ≡ n → Has (row rows i) x → i < n
row-inside rows i x n e h = elim (cases_lt i (length rows)) [
  | inl lt ↦ omega arith
  | inr past ↦ let none : Has [] x = subst (λ (s : List Bool). Has s x) (get_or_past rows i [] past) h in absurd (cc none)
]

module _ (p : Parts) (sets : ClassTable) where
  -- an object of token t may reach the cell
  pub record HoldsCell (t : ℕ) (c : Cell) : Type 0 where
    pub cell : IsCell p c
    pub reaches : MayReach p sets t (cell_number p c)

  LeastHeld : Fact → Type 0
  LeastHeld = Least (Rule p (TellsSets p sets))

  -- a field that an object has itself is one by its number, and so are its bags
  owns-cell : (u : ℕ) (c : Cell) → IsCell p c → Owns p u (cell_number p c) → (t : ℕ) → LeadsBy p sets t u → LeastHeld (TokenHolds t c)
  unfolding LeastHeld
  owns-cell u (OfField f) cell (owns_field has) t l = Least-is_solution (Rule p (TellsSets p sets)) [] (TokenHolds t (OfField f)) (holds_field l has) tt
  owns-cell u (OfField f) cell (owns_bag takes e) t l = absurd (omega arith)
  owns-cell u (OfBag b) cell (owns_field has) t l = absurd (let lt = slice_get_within p.fields (length p.fields + b) has.field has.found in omega arith)
  owns-cell u (OfBag b) cell (owns_bag takes e) t l =
      let same : u ≡ b = omega arith in
      Least-is_solution (Rule p (TellsSets p sets)) [] (TokenHolds t (OfBag b)) (holds_bag (subst (LeadsBy p sets t) same l) (subst (λ k. absorbs p k ≡ true) same takes)) tt

  held-least : (t : ℕ) (c : Cell) → HoldsCell t c → LeastHeld (TokenHolds t c)
  held-least t c h = owns-cell h.reaches.u c h.cell h.reaches.owns t h.reaches.leads

  -- what objects of tokens and fields hold, said without rules
  Says : Fact → Type 0
  Says (TokenHolds t c) = HoldsCell t c
  Says (FieldHolds f c) = (t : ℕ) × Has (field_set sets f) t × HoldsCell t c

  says-solves : IsSolution (Rule p (TellsSets p sets)) Says
  unfolding Says
  says-solves ps f (holds_field {t = t} {u = u} {f = g} spans has) each = record { cell = slice_get_within p.fields g has.field has.found; reaches = record { u = u; leads = spans; owns = owns_field has } }
  says-solves ps f (holds_bag {t = t} {u = u} spans takes) each = record { cell = absorbing-below p u takes; reaches = record { u = u; leads = spans; owns = owns_bag takes refl } }
  says-solves ps f (of_field {f = g} {t = t} {c = c} member) each = (t, member, each.0)

  says-least : (f : Fact) → Says f → LeastHeld f
  unfolding Says LeastHeld
  says-least (TokenHolds t c) h = held-least t c h
  says-least (FieldHolds f c) h = Least-is_solution (Rule p (TellsSets p sets)) (TokenHolds h.0 c ∷ []) (FieldHolds f c) (of_field h.1) (held-least h.0 c h.2, tt)

  module _ (held : HeldTable) (spans : List (List Bool)) (only : HasOnlyItsFields p sets) (done : AreDone p sets spans held.tokens 0) (fields : AreFields p sets (length p.fields) held.fields) where
    tells-says : (f : Fact) → TellsHeld p held f → Says f
    unfolding Says
    tells-says (TokenHolds t c) h = record {
      cell = h.0;
      reaches = (((done.each t (omega arith) (row-inside held.tokens t (cell_number p c) (token_count p) done.held_sets.counted h.1)).held (cell_number p c)).0 h.1);
    }
    tells-says (FieldHolds f c) h =
        let r = (fields.each f (cell_number p c) (row-inside held.fields f (cell_number p c) (length p.fields) fields.held_sets.counted h.1)).0 h.1 in
        (r.t, r.member, record { cell = h.0; reaches = r.reaches })

    start-below : (t : ℕ) (c : Cell) → HoldsCell t c → t < token_count p
    start-below t c h = start-inside p sets h.reaches.leads (owner-below p h.reaches.u (cell_number p c) h.reaches.owns)

    says-tells : (f : Fact) → Says f → TellsHeld p held f
    unfolding Says
    says-tells (TokenHolds t c) h = (h.cell, ((done.each t (omega arith) (start-below t c h)).held (cell_number p c)).1 h.reaches)
    says-tells (FieldHolds f c) h = (h.2.cell, (fields.each f (cell_number p c) (only f h.0 h.1)).1 (record { t = h.0; member = h.1; reaches = h.2.reaches }))

    pub exact : (f : Fact) → TellsHeld p held f ↔ Least (Rule p (TellsSets p sets)) f
    unfolding LeastHeld
    exact f = (λ h. says-least f (tells-says f h), λ l. says-tells f (Least-below (Rule p (TellsSets p sets)) Says says-solves f l))

-- what both of two clauses on one result say
pub if_ok-both : {T E : Type 0} (r : Result T E) (P Q R : T → Type 0) → ((x : T) → P x → Q x → R x) → IfOk r P → IfOk r Q → IfOk r R
if_ok-both (Ok x) P Q R f h k = f x h k
if_ok-both (Err e) P Q R f h k = tt
