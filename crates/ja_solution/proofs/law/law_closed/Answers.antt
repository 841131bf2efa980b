use Rattle.ja_solution.proofs.Closed.{said_is_solution, solution_is_said, exact}
use Rattle.ja_solution.proofs.law.law_closed.Goals as goal

pub returns-clause-said : goal.returns-clause-said
returns-clause-said c x v below closed f = (said_is_solution x v below f, solution_is_said x v closed f)

pub returns-clause-exact : goal.returns-clause-exact
returns-clause-exact c x v blocks below closed = exact x v blocks below closed
