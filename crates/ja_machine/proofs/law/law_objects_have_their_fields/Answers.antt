use Rattle.ja_machine.proofs.Heaps.{program-fields}
use Rattle.ja_machine.proofs.law.law_objects_have_their_fields.Goals as goal

pub returns : goal.returns
returns c p actions place object found = program-fields p actions place object found
