use Rattle.std.proofs.Common.{◌+◌, ◌∙◌, sym, subst}
use Rattle.ja_node_table.specs.Seats.{aim_of}
use Rattle.ja_bdd.specs.Functions.{IsAimed}
use Rattle.ja_bdd.specs.Meaning.{meaning}
use Rattle.ja_bdd.specs.Room.{LacksRoomUnder}
use Rattle.ja_bdd.specs.Workers.{seen}
use Rattle.ja_work.specs.Frames.{clauses_from}
use Rattle.ja_formula.specs.Made.{from_place}
use Rattle.ja_formula.specs.Inner.{clauses_of}
use Rattle.ja_formula.proofs.Meant.{keeps_chain, still}
use Rattle.ja_formula.proofs.Ruled.{clauses_more}
use Rattle.ja_formula.proofs.whole.clauses_with.Goals as goal

pub and-requires-clause-known : goal.and-requires-clause-known
and-requires-clause-known g c κs within = (c.in-Ok.ensures.ok.0, (c.clause_at.ensures.keeps c.args.rest.number c.requires.rest.0).0)

pub and-requires-clause-aim : goal.and-requires-clause-aim
and-requires-clause-aim g c κs within =
    let frame = c.args.frame.now in
    let clauses = clauses_of c.args.rule.now in
    let w = seen c.clause_at.new.worker in
    let rest = still (seen c.args.worker.now) w c.args.rest.number (clauses_from frame clauses (c.args.place + 1) c.args.count) c.clause_at.ensures.keeps c.requires.rest in
    let same = clauses_more frame clauses c.args.place c.args.count (meaning w c.in-Ok.one.number) (meaning w c.args.rest.number) c.in-Ok.ensures.ok.1 rest.1 in
    subst (IsAimed (g.A.Aim.aims (aim_of c.args.table.now))) (sym same) (c.requires.aim (clauses_from frame clauses c.args.place (c.args.count + 1)) (from_place c.args.place (c.args.count + 1) c.requires.place))

pub returns-in-Ok-and-clause-keeps : goal.returns-in-Ok-and-clause-keeps
returns-in-Ok-and-clause-keeps g c = keeps_chain (seen c.args.worker.now) (seen c.clause_at.new.worker) (seen c.and.new.self) c.clause_at.ensures.keeps c.and.ensures.keeps

pub returns-in-Err-and-clause-keeps : goal.returns-in-Err-and-clause-keeps
returns-in-Err-and-clause-keeps g c = keeps_chain (seen c.args.worker.now) (seen c.clause_at.new.worker) (seen c.and.new.self) c.clause_at.ensures.keeps c.and.ensures.keeps

pub returns-in-Ok-and-clause-ok : goal.returns-in-Ok-and-clause-ok
returns-in-Ok-and-clause-ok g c =
    let frame = c.args.frame.now in
    let clauses = clauses_of c.args.rule.now in
    let w = seen c.clause_at.new.worker in
    let rest = still (seen c.args.worker.now) w c.args.rest.number (clauses_from frame clauses (c.args.place + 1) c.args.count) c.clause_at.ensures.keeps c.requires.rest in
    let ok = c.in-Ok-and.ensures.ok in
    (ok.0, ok.1 ∙ clauses_more frame clauses c.args.place c.args.count (meaning w c.in-Ok.one.number) (meaning w c.args.rest.number) c.in-Ok.ensures.ok.1 rest.1)

pub returns-in-Err-and-clause-full : goal.returns-in-Err-and-clause-full
returns-in-Err-and-clause-full g c =
    let frame = c.args.frame.now in
    let clauses = clauses_of c.args.rule.now in
    let w = seen c.clause_at.new.worker in
    let rest = still (seen c.args.worker.now) w c.args.rest.number (clauses_from frame clauses (c.args.place + 1) c.args.count) c.clause_at.ensures.keeps c.requires.rest in
    let same = clauses_more frame clauses c.args.place c.args.count (meaning w c.in-Ok.one.number) (meaning w c.args.rest.number) c.in-Ok.ensures.ok.1 rest.1 in
    record {
      φ = clauses_from frame clauses c.args.place (c.args.count + 1);
      is = from_place c.args.place (c.args.count + 1) c.requires.place;
      lacks = subst (λ χ. LacksRoomUnder c.args.table.now (seen c.and.new.self) χ c.in-Err-and.full) same c.in-Err-and.ensures.full;
    }
