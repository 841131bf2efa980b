-- A block is settled where each of its instructions is covered.
use Rattle.std.proofs.Common.{◌≡◌, ℕ, ◌≤◌, true, false, List, [], ◌∷◌, refl, sym, subst, arith}
use Rattle.ja_facts.specs.Least.{Each}
use Rattle.ja_facts.specs.Equations.{Fact, Context, At, Normal, Threw, Stored}
use Rattle.ja_blocks.specs.declared.blocks.ProgramBlock.{ProgramBlock}
use Rattle.ja_solution.specs.Problem.{Problem, Gives}
use Rattle.ja_solution.specs.Cells.{Values, InCells, has_cell, Said}
use Rattle.ja_solution.specs.Settled.{beginning_of, applied_at, Has, IsSettled, IsCovered, IsBegun, goes_by_at}

module _ (x : Problem) (block : ProgramBlock) (from to : Values) (covered : (i : ℕ) → block.first ≤ i → i ≤ block.last → IsCovered x block.method.0 i from to) (begun : block.first ≡ 0 → IsBegun x block.method.0 from to) where
  by_beginning : (ps : List Fact) (f : Fact) → Gives x ps f → goes_by_at ps ≡ false → applied_at ps f ≡ beginning_of f → Has block (beginning_of f) → (beginning_of f).i ≡ 0 → Each (Said x from) ps → has_cell x f ≡ true → InCells x to f
  by_beginning ps f gives none _ has zeroth each cell = (begun (let le = has.1 in omega arith)).rules ps f gives none (sym has.0) each cell

  at_zero : (f : Fact) → (beginning_of f).i ≡ 0
  at_zero (Context m a) = refl
  at_zero (At m i a b) = refl
  at_zero (Normal m a s) = refl
  at_zero (Threw m a s) = refl
  at_zero (Stored c) = refl

  rules : (ps : List Fact) (f : Fact) → Gives x ps f → Has block (applied_at ps f) → Each (Said x from) ps → has_cell x f ≡ true → InCells x to f
  rules [] f gives has each cell = by_beginning [] f gives refl refl has (at_zero f) each cell
  rules (At m i a b ∷ ps) f gives (is_method, lo, hi) each cell =
      (subst (λ n. IsCovered x n i from to) is_method (covered i lo hi)).rules a b ps f gives each.0 each.1 cell
  rules (Context m a ∷ ps) f gives has each cell = by_beginning (Context m a ∷ ps) f gives refl refl has (at_zero f) each cell
  rules (Normal m a s ∷ ps) f gives has each cell = by_beginning (Normal m a s ∷ ps) f gives refl refl has (at_zero f) each cell
  rules (Threw m a s ∷ ps) f gives has each cell = by_beginning (Threw m a s ∷ ps) f gives refl refl has (at_zero f) each cell
  rules (Stored c ∷ ps) f gives has each cell = by_beginning (Stored c ∷ ps) f gives refl refl has (at_zero f) each cell

  pub settled_from_covered : IsSettled x block from to
  settled_from_covered = record {
    rules = rules;
    sites = λ k site at has w. (covered site.index has.1 has.2).sites k site at (sym has.0) refl w;
  }
