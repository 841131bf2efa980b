use Rattle.std.proofs.Common.{ℕ, List, subst, sym}
use Rattle.std.specs.List.Sorted.{IsNonDecreasing}
use Rattle.std.proofs.lemmas.List.Sorted.{IsNonDecreasingBy-from_sort}
use Rattle.ja_class_tables.proofs.targets.ascending.Goals as goal

pub returns-clause-ascending : goal.returns-clause-ascending
returns-clause-ascending c = subst (λ (ns : List ℕ). IsNonDecreasing ns) (sym c.from_vec.ensures) (IsNonDecreasingBy-from_sort (λ (x : ℕ). x) c.sort.new.self.items c.in_ok-sort.ensures.sorted)
