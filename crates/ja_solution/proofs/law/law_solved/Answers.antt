use Rattle.ja_solution.specs.Nodes.{problem_of, values_of}
use Rattle.ja_solution.proofs.Closed.{exact}
use Rattle.ja_solution.proofs.Settling.{closed_from_settled}
use Rattle.ja_solution.proofs.law.law_solved.Goals as goal

pub returns : goal.returns
returns c given k state is kept clean =
    exact (problem_of given) (values_of k state.cells) is.layout.blocks kept.below
    (closed_from_settled (problem_of given) (values_of k state.cells) is.whole is.layout.blocks (λ b block at _. kept.settled b block at (clean b)))
