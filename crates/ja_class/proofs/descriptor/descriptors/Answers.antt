use Rattle.std.proofs.Common.{ℕ, ◌<◌, inl, inr, get_or, length, None, sym, subst, arith}
use Rattle.std.proofs.lemmas.Bool.{MatchBool-at_true, MatchBool-at_false, cases_eq}
use Rattle.ja_class.specs.declared.fault.ClassFault.TheVariants.{BadDesc}
use Rattle.ja_class.specs.Member.{HasDescriptor}
use Rattle.ja_class.specs.ClassFault.{descriptors}
use Rattle.ja_class.proofs.Descriptors.{all_right, each_right, first_wrong}
use Rattle.ja_class.proofs.descriptor.descriptors.Goals as goal

pub returns-then-not-branch : goal.returns-then-not-branch
returns-then-not-branch c = λ old.
    let table = c.args.pool.now in
    let i = c.loop-i.i in
    let has = HasDescriptor table (get_or table i None) in
    let wrong : has → ⊥ = MatchBool-at_false has (has → ⊥) c.if-not-branch.true c.in_ok-has_descriptor.ensures in
    let lt : i < length table = omega arith in
    inr (subst (λ (n : ℕ). (descriptors table table).fault old (BadDesc n)) (sym c.tag_at-at.ensures) (first_wrong table old table i lt c.loop-i.invariant wrong))

pub loop-i-preserved : goal.loop-i-preserved
loop-i-preserved c = λ k lt.
    let table = c.args.pool.now in
    let i = c.loop-i.i in
    let has = HasDescriptor table (get_or table i None) in
    elim (cases_eq k i) [
      | inl e ↦ subst (λ (n : ℕ). HasDescriptor table (get_or table n None)) (sym e)
          (MatchBool-at_true has (has → ⊥) c.if-not-branch.false c.in_ok-has_descriptor.ensures)
      | inr other ↦ c.loop-i.invariant k (omega (arith, lt, other))
    ]

pub returns : goal.returns
returns c = λ old. all_right c.args.pool.now old c.args.pool.now (each_right c.args.pool.now c.args.pool.now (λ k lt. c.loop-i.invariant k (omega (arith, lt))))
