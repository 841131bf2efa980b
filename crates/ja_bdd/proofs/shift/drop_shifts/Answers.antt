use Rattle.std.proofs.Common.{◌<◌, ◌∙◌, refl, inr, arith, length, length-set}
use Rattle.std.proofs.lemmas.Option.{slice_get_within, slice_get_read}
use mathlib.Core.Logic.{dite}
use native.Mathlib.Decide.{dec_lt}
use Rattle.ja_bdd.proofs.Renewing.{through_set, left_here}
use Rattle.ja_bdd.proofs.shift.drop_shifts.Goals as goal

pub loop-i-preserved : goal.loop-i-preserved
loop-i-preserved c =
    let old = c.args.cache.now.items in
    let now = c.loop-i.cache.items in
    let long = c.loop-i.invariant.0 in
    let through = c.loop-i.invariant.1 in
    let lt : c.loop-i.i < length now = (let less = c.loop-i-test.true in let end = c.len.ensures in omega arith) in
    let here = slice_get_read now (length now) c.loop-i.i c.index.result.now refl lt c.index.ensures in (
      length-set now c.loop-i.i _ ∙ long,
      through_set old now c.loop-i.i c.without_shift.result through (left_here old now c.loop-i.i c.without_shift.result c.index.result.now through here c.without_shift.ensures),
    )

pub returns-clause-left : goal.returns-clause-left
returns-clause-left c i e at =
    let lt = slice_get_within c.loop-i.cache.items i e at in
    let long = c.loop-i.invariant.0 in
    let through = c.loop-i.invariant.1 i e at in
    dite (dec_lt i c.loop-i.i)
    (λ before. through.0 before)
    (λ not.
    let old = through.1 (omega arith) in
    inr (old, c.requires i e old (let done = c.loop-i-test.false in let end = c.len.ensures in omega arith)))
