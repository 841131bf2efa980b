use Rattle.std.specs.Prelude.{Contains, take}
use Rattle.ja_solution.specs.InnerMarks.{AreMarked}
use Rattle.ja_solution.proofs.state.mark.Given as goal

abbrev pub invariant-loop-number : goal.invariant-loop-number
invariant-loop-number l = AreMarked l.initial.dirty.items l.dirty.items (λ k. Contains (take l.number-index l.numbers) k)
