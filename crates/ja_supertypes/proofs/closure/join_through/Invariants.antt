use Rattle.std.proofs.Common.{◌≡◌, ℕ, ◌<◌, ◌≤◌, [], get_or}
use Rattle.ja_supertypes.specs.InnerRows.{stepped}
use Rattle.ja_supertypes.proofs.closure.join_through.Given as goal

abbrev pub invariant-loop-i : goal.invariant-loop-i
invariant-loop-i l = record {
  done : (j : ℕ) → j < l.i → get_or l.rows j [] ≡ stepped l.middle l.through (get_or l.initial.rows j []);
  rest : (j : ℕ) → l.i ≤ j → get_or l.rows j [] ≡ get_or l.initial.rows j [];
}
