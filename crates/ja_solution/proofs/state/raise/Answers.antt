use Rattle.std.proofs.Common.{sym, subst}
use Rattle.ja_node_core.specs.Node.{Knows}
use Rattle.ja_node_table.specs.Seats.{aim_of}
use Rattle.ja_bdd.specs.Functions.{either}
use Rattle.ja_bdd.specs.Meaning.{meaning}
use Rattle.ja_bdd.specs.Workers.{seen}
use Rattle.ja_solution.specs.Solved.{IsOfCell}
use Rattle.ja_solution.specs.Reads.{Grow}
use Rattle.ja_solution.specs.Nodes.{number_at, values_of, problem_of}
use Rattle.ja_solution.proofs.Keeping.{state_kept, grow_kept, either_cell, cell_aimed, values_kept, cell_kept, joined_kept}
use Rattle.ja_solution.proofs.Raised.{raised_state, raised_grows}
use Rattle.ja_solution.proofs.state.raise.Goals as goal

pub or-requires-clause-known : goal.or-requires-clause-known
or-requires-clause-known g c κs within = (subst (Knows (seen c.args.worker.now)) (sym c.get-old.ensures) (c.requires.state.known c.args.name), c.requires.known)

pub or-requires-clause-aim : goal.or-requires-clause-aim
or-requires-clause-aim g c κs within = cell_aimed c.args.given.now c.requires.given (g.A.Aim.aims (aim_of c.args.table.now)) c.requires.table c.args.name (either (meaning (seen c.args.worker.now) c.get-old.result.number) (meaning (seen c.args.worker.now) c.args.node.number)) c.requires.name
    (either_cell (problem_of c.args.given.now) c.args.name (meaning (seen c.args.worker.now) c.get-old.result.number) (meaning (seen c.args.worker.now) c.args.node.number)
    (subst (λ n. IsOfCell (problem_of c.args.given.now) c.args.name (meaning (seen c.args.worker.now) n)) (sym c.get-old.ensures) (c.requires.state.below.cells c.args.name)) c.requires.cell)

pub returns-in-Err-clause-state : goal.returns-in-Err-clause-state
returns-in-Err-clause-state g c = state_kept (problem_of c.args.given.now) (seen c.args.worker.now) (seen c.or.new.self) c.args.state.now c.or.ensures.keeps c.requires.state

pub returns-in-Err-clause-grow : goal.returns-in-Err-clause-grow
returns-in-Err-clause-grow g c = grow_kept (seen c.args.worker.now) (seen c.or.new.self) c.args.state.now.cells c.or.ensures.keeps c.requires.state.known

pub returns-then-made-old-clause-state : goal.returns-then-made-old-clause-state
returns-then-made-old-clause-state g c = state_kept (problem_of c.args.given.now) (seen c.args.worker.now) (seen c.or.new.self) c.args.state.now c.or.ensures.keeps c.requires.state

pub returns-then-made-old-clause-grow : goal.returns-then-made-old-clause-grow
returns-then-made-old-clause-grow g c = grow_kept (seen c.args.worker.now) (seen c.or.new.self) c.args.state.now.cells c.or.ensures.keeps c.requires.state.known

pub returns-clause-state : goal.returns-clause-state
returns-clause-state g c =
    let l = seen c.or.new.self in
    let state = state_kept (problem_of c.args.given.now) (seen c.args.worker.now) l c.args.state.now c.or.ensures.keeps c.requires.state in
    raised_state c.args.given.now c.requires.given l c.args.state.now state c.args.name c.requires.name c.args.node.number c.in-Ok.made.number
    (cell_kept (problem_of c.args.given.now) c.args.name (seen c.args.worker.now) l c.args.node.number c.or.ensures.keeps c.requires.known c.requires.cell)
    (joined_kept (seen c.args.worker.now) l (number_at c.args.state.now.cells c.args.name) c.get-old.result.number c.args.node.number c.in-Ok.made.number c.or.ensures.keeps (c.requires.state.known c.args.name) c.requires.known c.get-old.ensures c.in-Ok.ensures.ok)
    c.set.new.self c.set.ensures.at c.set.ensures.rows c.set.ensures.flags c.mark_readers.new.dirty c.mark_readers.ensures

pub returns-clause-grow : goal.returns-clause-grow
returns-clause-grow g c =
    let k = seen c.args.worker.now in
    let l = seen c.or.new.self in
    let state = state_kept (problem_of c.args.given.now) k l c.args.state.now c.or.ensures.keeps c.requires.state in
    subst (λ v. Grow v (values_of l c.set.new.self)) (sym (values_kept k l c.args.state.now.cells c.or.ensures.keeps c.requires.state.known))
    (raised_grows c.args.given.now c.requires.given l c.args.state.now state c.args.name c.requires.name c.args.node.number c.in-Ok.made.number
    (cell_kept (problem_of c.args.given.now) c.args.name (seen c.args.worker.now) l c.args.node.number c.or.ensures.keeps c.requires.known c.requires.cell)
    (joined_kept (seen c.args.worker.now) l (number_at c.args.state.now.cells c.args.name) c.get-old.result.number c.args.node.number c.in-Ok.made.number c.or.ensures.keeps (c.requires.state.known c.args.name) c.requires.known c.get-old.ensures c.in-Ok.ensures.ok)
    c.set.new.self c.set.ensures.at c.set.ensures.rows c.set.ensures.flags)
