use Rattle.std.proofs.Common.{sym, subst, IfOk, IfErr}
use Rattle.ja_node_table.specs.Seats.{aim_of}
use Rattle.ja_bdd.specs.Meaning.{meaning, IsMeant}
use Rattle.ja_bdd.specs.Copies.{in_copies, all_forgotten, IsAimedThroughout, LacksRoomWithin}
use Rattle.ja_bdd.specs.Workers.{seen}
use Rattle.ja_join.proofs.compose.project.Goals as goal

pub exists_all-requires-clause-aim : goal.exists_all-requires-clause-aim
exists_all-requires-clause-aim g c κs within = subst (λ x. IsAimedThroughout (g.A.Aim.aims (aim_of c.args.table.now)) (in_copies x) (meaning (seen c.args.worker.now) c.args.r.number)) (sym c.others.ensures) c.requires.aim

pub returns-clause-ok : goal.returns-clause-ok
returns-clause-ok g c = subst (λ x. IfOk c.exists_all.result (λ n. IsMeant (seen c.exists_all.new.self) n.number (all_forgotten (in_copies x) (meaning (seen c.args.worker.now) c.args.r.number)))) c.others.ensures c.exists_all.ensures.ok

pub returns-clause-full : goal.returns-clause-full
returns-clause-full g c = subst (λ x. IfErr c.exists_all.result (LacksRoomWithin c.args.table.now (seen c.exists_all.new.self) (in_copies x) (meaning (seen c.args.worker.now) c.args.r.number))) c.others.ensures c.exists_all.ensures.full
