use Rattle.std.proofs.Common.{true, refl, arith}
use Rattle.std.specs.Vec.{with_item}
use Rattle.ja_solution.proofs.Flagged.{warned_state}
use Rattle.ja_solution.proofs.state.warn.Goals as goal

pub returns-clause-state : goal.returns-clause-state
returns-clause-state c = λ k kept. warned_state c.args.given.now c.requires.given k c.args.state.now c.args.site (with_item c.args.state.now.cells.warned c.args.site true)
    (let size = c.requires.sized.warned in let lt = c.requires.site in omega arith) refl c.requires.warned kept
