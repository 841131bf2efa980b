use Rattle.std.proofs.Common.{ℕ, map, List, ◌++◌, ◌∙◌, ap}
use Rattle.ja_ir.specs.Handlers.{Place}
use Rattle.ja_tokens.specs.declared.place.ThrownTo.{ThrownTo}
use Rattle.ja_tokens.specs.Shapes.{place_meant}
use Rattle.ja_work.specs.Ends.{Tests}
use Rattle.ja_work.specs.Told.{tests_of}
use Rattle.ja_explicit.specs.Tables.{items_of}
use Rattle.ja_explicit.specs.InnerSteps as steps
use Rattle.ja_explicit.specs.InnerRules.{standing}
use Rattle.ja_explicit.proofs.following.add_runs.Goals as goal

pub returns : goal.returns
returns c =
    let p = c.args.p.now in
    let f = c.args.facts.now in
    let items = items_of c.args.table.now in
    let s = standing c.args.standing_at.now in
    let instr = c.args.instr.now in
    c.in_ok-add_runs_by.ensures
    ∙ ap (λ (t : Tests). c.args.out.now ++ steps.runs_by p f items s c.args.i t (map place_meant c.as_slice.result.now) instr.op instr.height c.as_slice-2.result.now) c.of.ensures.tests
    ∙ ap (λ (places : List Place). c.args.out.now ++ steps.runs_by p f items s c.args.i (tests_of p f s.m c.args.i) places instr.op instr.height c.as_slice-2.result.now) (ap (λ (xs : List ThrownTo). map place_meant xs) c.as_slice.ensures ∙ c.in_ok-places.ensures)
    ∙ ap (λ (next : List ℕ). c.args.out.now ++ steps.runs_by p f items s c.args.i (tests_of p f s.m c.args.i) (steps.places_of p f s.m c.args.i s.method) instr.op instr.height next) c.as_slice-2.ensures
