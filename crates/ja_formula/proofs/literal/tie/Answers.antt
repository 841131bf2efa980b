use Rattle.std.proofs.Common.{◌⊎◌, sym, subst, inr}
use Rattle.std.proofs.lemmas.Result.{IfErr-weaker}
use Rattle.ja_node_table.specs.Seats.{aim_of}
use Rattle.ja_bdd.specs.Functions.{both, either, IsAimed}
use Rattle.ja_bdd.specs.Meaning.{meaning}
use Rattle.ja_bdd.specs.Room.{LacksRoomUnder}
use Rattle.ja_bdd.specs.Workers.{seen}
use Rattle.ja_work.specs.Work.{literal, tied_by}
use Rattle.ja_formula.proofs.Meant.{keeps_chain, tied_and, tied_or}
use Rattle.ja_formula.proofs.literal.tie.Goals as goal

pub and-requires-clause-known : goal.and-requires-clause-known
and-requires-clause-known g c κs within = (c.in-Ok.ensures.ok.0, (c.literal.ensures.keeps c.args.rest.number c.requires.known).0)

pub or-requires-clause-known : goal.or-requires-clause-known
or-requires-clause-known g c κs within = (c.in-Ok.ensures.ok.0, (c.literal.ensures.keeps c.args.rest.number c.requires.known).0)

pub and-requires-clause-aim : goal.and-requires-clause-aim
and-requires-clause-aim g c κs within =
    let same = tied_and (seen c.args.worker.now) (seen c.literal.new.worker) c.in-Ok.one.number c.args.rest.number c.args.var c.args.positive c.args.both c.in-Ok.ensures.ok.1 (c.literal.ensures.keeps c.args.rest.number c.requires.known).1 c.if-both.true in
    subst (IsAimed (g.A.Aim.aims (aim_of c.args.table.now))) (sym same) c.requires.aim

pub or-requires-clause-aim : goal.or-requires-clause-aim
or-requires-clause-aim g c κs within =
    let same = tied_or (seen c.args.worker.now) (seen c.literal.new.worker) c.in-Ok.one.number c.args.rest.number c.args.var c.args.positive c.args.both c.in-Ok.ensures.ok.1 (c.literal.ensures.keeps c.args.rest.number c.requires.known).1 c.if-both.false in
    subst (IsAimed (g.A.Aim.aims (aim_of c.args.table.now))) (sym same) c.requires.aim

pub returns-then-both-clause-keeps : goal.returns-then-both-clause-keeps
returns-then-both-clause-keeps g c = keeps_chain (seen c.args.worker.now) (seen c.literal.new.worker) (seen c.and.new.self) c.literal.ensures.keeps c.and.ensures.keeps

pub returns-else-both-clause-keeps : goal.returns-else-both-clause-keeps
returns-else-both-clause-keeps g c = keeps_chain (seen c.args.worker.now) (seen c.literal.new.worker) (seen c.or.new.self) c.literal.ensures.keeps c.or.ensures.keeps

pub returns-then-both-clause-full : goal.returns-then-both-clause-full
returns-then-both-clause-full g c =
    let t = c.args.table.now in
    let l = seen c.and.new.self in
    let one = literal c.args.var c.args.positive in
    let whole = tied_by c.args.both one (meaning (seen c.args.worker.now) c.args.rest.number) in
    let w = seen c.literal.new.worker in
    let same = tied_and (seen c.args.worker.now) w c.in-Ok.one.number c.args.rest.number c.args.var c.args.positive c.args.both c.in-Ok.ensures.ok.1 (c.literal.ensures.keeps c.args.rest.number c.requires.known).1 c.if-both.true in
    IfErr-weaker c.and.result (LacksRoomUnder t l (both (meaning w c.in-Ok.one.number) (meaning w c.args.rest.number))) (λ e. LacksRoomUnder t l one e ⊎ LacksRoomUnder t l whole e)
    (λ e lacks. inr (subst (λ χ. LacksRoomUnder t l χ e) same lacks)) c.and.ensures.full

pub returns-else-both-clause-full : goal.returns-else-both-clause-full
returns-else-both-clause-full g c =
    let t = c.args.table.now in
    let l = seen c.or.new.self in
    let one = literal c.args.var c.args.positive in
    let whole = tied_by c.args.both one (meaning (seen c.args.worker.now) c.args.rest.number) in
    let w = seen c.literal.new.worker in
    let same = tied_or (seen c.args.worker.now) w c.in-Ok.one.number c.args.rest.number c.args.var c.args.positive c.args.both c.in-Ok.ensures.ok.1 (c.literal.ensures.keeps c.args.rest.number c.requires.known).1 c.if-both.false in
    IfErr-weaker c.or.result (LacksRoomUnder t l (either (meaning w c.in-Ok.one.number) (meaning w c.args.rest.number))) (λ e. LacksRoomUnder t l one e ⊎ LacksRoomUnder t l whole e)
    (λ e lacks. inr (subst (λ χ. LacksRoomUnder t l χ e) same lacks)) c.or.ensures.full
