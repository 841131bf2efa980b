use Rattle.ja_operations.specs.Fields.{in_program, in_library}
use Rattle.ja_operations.proofs.field.field_at.Goals as goal

pub returns-in-Some : goal.returns-in-Some
returns-in-Some c = in_program c.in-Some.ensures.some c.find_field.ensures

pub returns-in-None : goal.returns-in-None
returns-in-None c = in_library c.in-None.ensures.none
