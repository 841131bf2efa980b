use Rattle.std.proofs.Common.{false, refl, sym, ◌∙◌}
use Rattle.ja_node_core.specs.Tree.{Assignment as Variables}
use Rattle.ja_node_table.specs.Seats.{known}
use Rattle.ja_bdd.specs.Workers.{seen}
use Rattle.ja_bdd.proofs.Sound.{seat_sound}
use Rattle.ja_facts.specs.Formulas.{IsNormalEnd}
use Rattle.ja_work.specs.Ends.{normal_clauses}
use Rattle.ja_work.specs.Frames.{read}
use Rattle.ja_work.specs.Told.{told}
use Rattle.ja_clauses.specs.Tables.{tests_by}
use Rattle.ja_formula.specs.Formulas.{normal_formula}
use Rattle.ja_formula.specs.Made.{IsRulePart, IsNormalPart}
use Rattle.ja_formula.proofs.Meant.{constant_known, constant_means, lacks_wider}
use Rattle.ja_formula.proofs.Ended.{normal_present, normal_absent, normal_part, normal_means, node_means}
use Rattle.ja_formula.proofs.ends.formula.Goals as goal

pub returns-then-not-has_normal_end-clause-ok : goal.returns-then-not-has_normal_end-clause-ok
returns-then-not-has_normal_end-clause-ok g c =
    let s = c.args.worker.now.seat in
    let none = normal_absent c.args.program.now c.args.facts.now c.args.frame.now c.args.m.0 c.args.i c.instruction-instr.result.now c.instruction-instr.ensures.found (tests_by c.of-before.result) c.of-before.ensures.tests
    (sym c.has_normal_end.ensures ∙ c.if-not-has_normal_end.true) in
    (constant_known (known s) (seat_sound s) 0 false refl, constant_means (known s) (seat_sound s) 0 false refl ∙ none)

pub returns-then-not-has_normal_end-clause-means : goal.returns-then-not-has_normal_end-clause-means
returns-then-not-has_normal_end-clause-means g c =
    let p = c.args.program.now in
    let f = c.args.facts.now in
    let frame = c.args.frame.now in
    node_means (seen c.args.worker.now) 0 (normal_formula p f frame c.args.m.0 c.args.i) (λ (a : Variables). IsNormalEnd p (told p f) c.args.m.0 c.args.i (read frame 1 a) (read frame 2 a)) (returns-then-not-has_normal_end-clause-ok g c)
    (normal_means p f frame c.args.m.0 c.args.i c.instruction-instr.result.now c.instruction-instr.ensures.found (c.instruction-instr.ensures.roomy c.args.frame.now c.requires.frame))

pub end_node-requires-clause-aim : goal.end_node-requires-clause-aim
end_node-requires-clause-aim g c κs within φ part =
    c.requires.aim φ
    (normal_part c.args.program.now c.args.facts.now c.args.frame.now c.args.m.0 c.args.i c.instruction-instr.result.now c.instruction-instr.ensures.found (tests_by c.of-before.result) c.of-before.ensures.tests
    (sym c.has_normal_end.ensures ∙ c.if-not-has_normal_end.false) φ part)

pub returns-in-Ok-clause-ok : goal.returns-in-Ok-clause-ok
returns-in-Ok-clause-ok g c =
    let ok = c.in-Ok.ensures.ok in (
      ok.0,
      ok.1
          ∙ normal_present c.args.program.now c.args.facts.now c.args.frame.now c.args.m.0 c.args.i c.instruction-instr.result.now c.instruction-instr.ensures.found (tests_by c.of-before.result) c.of-before.ensures.tests
          (sym c.has_normal_end.ensures ∙ c.if-not-has_normal_end.false),
    )

pub returns-in-Ok-clause-means : goal.returns-in-Ok-clause-means
returns-in-Ok-clause-means g c =
    let p = c.args.program.now in
    let f = c.args.facts.now in
    let frame = c.args.frame.now in
    node_means (seen c.end_node.new.worker) c.in-Ok.node.number (normal_formula p f frame c.args.m.0 c.args.i) (λ (a : Variables). IsNormalEnd p (told p f) c.args.m.0 c.args.i (read frame 1 a) (read frame 2 a)) (returns-in-Ok-clause-ok g c)
    (normal_means p f frame c.args.m.0 c.args.i c.instruction-instr.result.now c.instruction-instr.ensures.found (c.instruction-instr.ensures.roomy c.args.frame.now c.requires.frame))

pub returns-in-Err-clause-full : goal.returns-in-Err-clause-full
returns-in-Err-clause-full g c =
    let frame = c.args.frame.now in
    let instr = c.instruction-instr.result.now in
    lacks_wider c.args.table.now (seen c.end_node.new.worker) (IsRulePart frame (normal_clauses (tests_by c.of-before.result) instr.op instr.height)) (IsNormalPart c.args.program.now c.args.facts.now frame c.args.m.0 c.args.i) c.in-Err.full
    (normal_part c.args.program.now c.args.facts.now frame c.args.m.0 c.args.i instr c.instruction-instr.ensures.found (tests_by c.of-before.result) c.of-before.ensures.tests (sym c.has_normal_end.ensures ∙ c.if-not-has_normal_end.false))
    c.in-Err.ensures.full
