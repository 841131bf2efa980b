use Rattle.std.proofs.Common.{false, refl, sym, ap, ◌∙◌, subst}
use Rattle.ja_node_core.specs.Tree.{Assignment as Variables}
use Rattle.ja_node_table.specs.Seats.{known, aim_of}
use Rattle.ja_bdd.specs.Functions.{IsAimed}
use Rattle.ja_bdd.specs.Meaning.{meaning}
use Rattle.ja_bdd.specs.Room.{LacksRoomUnder}
use Rattle.ja_bdd.specs.Workers.{seen}
use Rattle.ja_bdd.proofs.Sound.{seat_sound}
use Rattle.ja_facts.specs.Formulas.{IsExceptionalEnd}
use Rattle.ja_work.specs.declared.way.Way.TheVariants.{Clean}
use Rattle.ja_work.specs.Ends.{exceptional_clauses}
use Rattle.ja_work.specs.Frames.{read}
use Rattle.ja_work.specs.Thrown.{ends_by, ends_thrown}
use Rattle.ja_work.specs.Told.{told}
use Rattle.ja_clauses.specs.Tables.{tests_by}
use Rattle.ja_formula.specs.Formulas.{thrown_formula}
use Rattle.ja_formula.specs.Made.{IsRulePart, IsThrownPart}
use Rattle.ja_formula.proofs.Meant.{constant_known, constant_means, keeps_chain, still, lacks_wider}
use Rattle.ja_formula.proofs.Ruled.{thrown_made}
use Rattle.ja_formula.proofs.Ended.{thrown_unreached, thrown_reached, way_part, thrown_part, thrown_means, node_means}
use Rattle.ja_formula.proofs.ends.formula_thrown.Goals as goal

pub returns-then-not-instr-clause-ok : goal.returns-then-not-instr-clause-ok
returns-then-not-instr-clause-ok g c =
    let s = c.args.worker.now.seat in
    let none = thrown_unreached c.args.program.now c.args.facts.now c.args.frame.now c.args.m.0 c.args.i c.instruction-instr.result.now c.instruction-instr.ensures.found c.if-not-instr.true in
    (constant_known (known s) (seat_sound s) 0 false refl, constant_means (known s) (seat_sound s) 0 false refl ∙ none)

pub returns-then-not-instr-clause-means : goal.returns-then-not-instr-clause-means
returns-then-not-instr-clause-means g c =
    let p = c.args.program.now in
    let f = c.args.facts.now in
    let frame = c.args.frame.now in
    node_means (seen c.args.worker.now) 0 (thrown_formula p f frame c.args.m.0 c.args.i) (λ (a : Variables). IsExceptionalEnd p (told p f) c.args.m.0 c.args.i (read frame 1 a) (read frame 2 a)) (returns-then-not-instr-clause-ok g c)
    (thrown_means p f frame c.args.m.0 c.args.i c.instruction-instr.result.now c.instruction-instr.ensures.found (c.instruction-instr.ensures.roomy c.args.frame.now c.requires.frame))

pub way_node-requires-clause-aim : goal.way_node-requires-clause-aim
way_node-requires-clause-aim g c κs within ends φ part =
    c.requires.aim φ
    (way_part c.args.program.now c.args.facts.now c.args.frame.now c.args.m.0 c.args.i c.instruction-instr.result.now c.instruction-instr.ensures.found (tests_by c.of-before.result) c.of-before.ensures.tests c.if-not-instr.false c.late_way.result ends φ
    part)

pub returns-in-Err-clause-full : goal.returns-in-Err-clause-full
returns-in-Err-clause-full g c =
    let frame = c.args.frame.now in
    let instr = c.instruction-instr.result.now in
    let full = c.in-Err.ensures.full in
    lacks_wider c.args.table.now (seen c.way_node.new.worker) (IsRulePart frame (exceptional_clauses c.late_way.result (tests_by c.of-before.result) instr.op instr.height)) (IsThrownPart c.args.program.now c.args.facts.now frame c.args.m.0 c.args.i) c.in-Err.full
    (way_part c.args.program.now c.args.facts.now frame c.args.m.0 c.args.i instr c.instruction-instr.ensures.found (tests_by c.of-before.result) c.of-before.ensures.tests c.if-not-instr.false c.late_way.result full.0)
    full.1

pub way_node-requires-2-clause-aim : goal.way_node-requires-2-clause-aim
way_node-requires-2-clause-aim g c κs within ends φ part =
    c.requires.aim φ
    (way_part c.args.program.now c.args.facts.now c.args.frame.now c.args.m.0 c.args.i c.instruction-instr.result.now c.instruction-instr.ensures.found (tests_by c.of-before.result) c.of-before.ensures.tests c.if-not-instr.false Clean ends φ part)

pub returns-in-Err-way_node-clause-keeps : goal.returns-in-Err-way_node-clause-keeps
returns-in-Err-way_node-clause-keeps g c = keeps_chain (seen c.args.worker.now) (seen c.way_node.new.worker) (seen c.way_node-2.new.worker) c.way_node.ensures.keeps c.way_node-2.ensures.keeps

pub returns-in-Err-way_node-clause-full : goal.returns-in-Err-way_node-clause-full
returns-in-Err-way_node-clause-full g c =
    let frame = c.args.frame.now in
    let instr = c.instruction-instr.result.now in
    let full = c.in-Err-way_node.ensures.full in
    lacks_wider c.args.table.now (seen c.way_node-2.new.worker) (IsRulePart frame (exceptional_clauses Clean (tests_by c.of-before.result) instr.op instr.height)) (IsThrownPart c.args.program.now c.args.facts.now frame c.args.m.0 c.args.i) c.in-Err-way_node.full
    (way_part c.args.program.now c.args.facts.now frame c.args.m.0 c.args.i instr c.instruction-instr.ensures.found (tests_by c.of-before.result) c.of-before.ensures.tests c.if-not-instr.false Clean full.0)
    full.1

pub or-requires-clause-known : goal.or-requires-clause-known
or-requires-clause-known g c κs within = (c.in-Ok-way_node.ensures.ok.0, (c.way_node-2.ensures.keeps c.in-Ok.late.number c.in-Ok.ensures.ok.0).0)

pub or-requires-clause-aim : goal.or-requires-clause-aim
or-requires-clause-aim g c κs within =
    let frame = c.args.frame.now in
    let instr = c.instruction-instr.result.now in
    let tests = tests_by c.of-before.result in
    let w = seen c.way_node-2.new.worker in
    let late = still (seen c.way_node.new.worker) w c.in-Ok.late.number (ends_by frame tests instr.op instr.height c.late_way.result) c.way_node-2.ensures.keeps c.in-Ok.ensures.ok in
    let same = thrown_made frame tests instr.op instr.height (meaning w c.in-Ok-way_node.clean.number) (meaning w c.in-Ok.late.number) c.in-Ok-way_node.ensures.ok.1 (late.1 ∙ ap (ends_by frame tests instr.op instr.height) c.late_way.ensures) in
    subst (IsAimed (g.A.Aim.aims (aim_of c.args.table.now))) (sym same)
    (c.requires.aim (ends_thrown frame tests instr.op instr.height)
    (thrown_part c.args.program.now c.args.facts.now frame c.args.m.0 c.args.i instr c.instruction-instr.ensures.found tests c.of-before.ensures.tests c.if-not-instr.false))

pub returns-in-Ok-or-clause-keeps : goal.returns-in-Ok-or-clause-keeps
returns-in-Ok-or-clause-keeps g c = keeps_chain (seen c.args.worker.now) (seen c.way_node-2.new.worker) (seen c.or.new.self)
    (keeps_chain (seen c.args.worker.now) (seen c.way_node.new.worker) (seen c.way_node-2.new.worker) c.way_node.ensures.keeps c.way_node-2.ensures.keeps)
    c.or.ensures.keeps

pub returns-in-Err-or-clause-keeps : goal.returns-in-Err-or-clause-keeps
returns-in-Err-or-clause-keeps g c = keeps_chain (seen c.args.worker.now) (seen c.way_node-2.new.worker) (seen c.or.new.self)
    (keeps_chain (seen c.args.worker.now) (seen c.way_node.new.worker) (seen c.way_node-2.new.worker) c.way_node.ensures.keeps c.way_node-2.ensures.keeps)
    c.or.ensures.keeps

pub returns-in-Ok-or-clause-ok : goal.returns-in-Ok-or-clause-ok
returns-in-Ok-or-clause-ok g c =
    let frame = c.args.frame.now in
    let instr = c.instruction-instr.result.now in
    let tests = tests_by c.of-before.result in
    let w = seen c.way_node-2.new.worker in
    let late = still (seen c.way_node.new.worker) w c.in-Ok.late.number (ends_by frame tests instr.op instr.height c.late_way.result) c.way_node-2.ensures.keeps c.in-Ok.ensures.ok in
    let same = thrown_made frame tests instr.op instr.height (meaning w c.in-Ok-way_node.clean.number) (meaning w c.in-Ok.late.number) c.in-Ok-way_node.ensures.ok.1 (late.1 ∙ ap (ends_by frame tests instr.op instr.height) c.late_way.ensures) in
    let ok = c.in-Ok-or.ensures.ok in
    (ok.0, ok.1 ∙ same ∙ thrown_reached c.args.program.now c.args.facts.now frame c.args.m.0 c.args.i instr c.instruction-instr.ensures.found tests c.of-before.ensures.tests c.if-not-instr.false)

pub returns-in-Ok-or-clause-means : goal.returns-in-Ok-or-clause-means
returns-in-Ok-or-clause-means g c =
    let p = c.args.program.now in
    let f = c.args.facts.now in
    let frame = c.args.frame.now in
    node_means (seen c.or.new.self) c.in-Ok-or.node.number (thrown_formula p f frame c.args.m.0 c.args.i) (λ (a : Variables). IsExceptionalEnd p (told p f) c.args.m.0 c.args.i (read frame 1 a) (read frame 2 a)) (returns-in-Ok-or-clause-ok g c)
    (thrown_means p f frame c.args.m.0 c.args.i c.instruction-instr.result.now c.instruction-instr.ensures.found (c.instruction-instr.ensures.roomy c.args.frame.now c.requires.frame))

pub returns-in-Err-or-clause-full : goal.returns-in-Err-or-clause-full
returns-in-Err-or-clause-full g c =
    let frame = c.args.frame.now in
    let instr = c.instruction-instr.result.now in
    let tests = tests_by c.of-before.result in
    let w = seen c.way_node-2.new.worker in
    let late = still (seen c.way_node.new.worker) w c.in-Ok.late.number (ends_by frame tests instr.op instr.height c.late_way.result) c.way_node-2.ensures.keeps c.in-Ok.ensures.ok in
    let same = thrown_made frame tests instr.op instr.height (meaning w c.in-Ok-way_node.clean.number) (meaning w c.in-Ok.late.number) c.in-Ok-way_node.ensures.ok.1 (late.1 ∙ ap (ends_by frame tests instr.op instr.height) c.late_way.ensures) in
    record {
      φ = ends_thrown frame tests instr.op instr.height;
      is = thrown_part c.args.program.now c.args.facts.now frame c.args.m.0 c.args.i instr c.instruction-instr.ensures.found tests c.of-before.ensures.tests c.if-not-instr.false;
      lacks = subst (λ χ. LacksRoomUnder c.args.table.now (seen c.or.new.self) χ c.in-Err-or.full) same c.in-Err-or.ensures.full;
    }
