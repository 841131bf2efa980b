use Rattle.std.proofs.Common.{ℕ, ◌<◌, List, length, ap, arith, below_more}
use Rattle.std.proofs.lemmas.Option.{slice_get_within}
use Rattle.ja_ir.specs.declared.head.ClassHead.{ClassHead}
use Rattle.ja_hier.specs.Faults.{IsCrossing}
use Rattle.ja_hier.proofs.crossing.check_packages.Goals as goal

pub loop-class-preserved : goal.loop-class-preserved
loop-class-preserved c =
    below_more (λ (b : ℕ). IsCrossing c.args.tables.now.classes b → ⊥) c.loop-class.class c.loop-class.invariant (λ crossing. c.in_default.ensures.none crossing.0 crossing.1)

pub returns-clause-ok : goal.returns-clause-ok
returns-clause-ok c = λ class crossing.
    let inside : class < length c.args.tables.now.classes = slice_get_within c.args.tables.now.classes class crossing.1.head crossing.1.found in
    c.loop-class.invariant class (omega (arith, ap (λ (heads : List ClassHead). length heads) c.heads.ensures)) crossing
