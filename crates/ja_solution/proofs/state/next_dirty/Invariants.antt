use Rattle.std.specs.Prelude.{◌≡◌, ◌≤◌, ◌<◌, ℕ, false}
use Rattle.ja_solution.specs.Nodes.{is_dirty}
use Rattle.ja_solution.proofs.state.next_dirty.Given as goal

abbrev pub invariant-loop-block : goal.invariant-loop-block
invariant-loop-block l = (b : ℕ) → l.from ≤ b → b < l.block → is_dirty l.state.dirty.items b ≡ false
