use Rattle.std.proofs.Common.{◌≡◌, false}
use Rattle.std.specs.Prelude.{bytes_eq}
use Rattle.ja_supertypes.specs.Supertypes.{object_name}
use Rattle.ja_operations.specs.Targets.{of_program}
use Rattle.ja_operations.proofs.Above.{program_above}
use Rattle.ja_operations.proofs.target.is_proper_superclass.Goals as goal

pub returns-in-Some : goal.returns-in-Some
returns-in-Some c =
    let other : bytes_eq c.args.name.now object_name ≡ false = cc in (
      λ t. of_program c.in-Some.ensures.some (c.is_superclass.ensures.0 t),
      λ proper. c.is_superclass.ensures.1 (program_above c.args.hier.now c.args.c.0 c.in-Some.class.0 c.args.name.now c.in-Some.ensures.some other proper),
    )
