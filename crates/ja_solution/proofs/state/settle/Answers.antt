use Rattle.std.proofs.Common.{false, refl}
use Rattle.std.specs.Vec.{with_item}
use Rattle.ja_solution.specs.Nodes.{problem_of}
use Rattle.ja_solution.proofs.Flagged.{settled_state}
use Rattle.ja_solution.proofs.state.settle.Goals as goal

pub returns-clause-state : goal.returns-clause-state
returns-clause-state c = λ k kept settled. settled_state (problem_of c.args.given.now) k c.args.state.now c.args.block (with_item c.args.state.now.dirty c.args.block false) refl kept settled
