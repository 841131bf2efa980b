use Rattle.std.proofs.Common.{◌≡◌, ◌<◌, length, arith, ◌∙◌}
use Rattle.ja_supertypes.specs.Supertypes.{supertypes_of}
use Rattle.ja_hier.proofs.FieldWays.{next-inside}
use Rattle.ja_hier.proofs.forks.only_supertype.Goals as goal

pub overflow_cast-result : goal.overflow_cast-result
overflow_cast-result c =
    let lt : 0 < length c.as_slice-supertypes.result.now = omega arith in
    let is : c.as_slice-supertypes.result.now ≡ supertypes_of c.args.classes.now c.args.class = c.as_slice-supertypes.ensures ∙ c.direct_supertypes.ensures.value in
    omega (arith, next-inside c.args.classes.now c.args.class c.as_slice-supertypes.result.now 0 is lt, c.requires.few)
