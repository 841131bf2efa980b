use Rattle.ja_operations.specs.Fields.{of_program, of_library}
use Rattle.ja_operations.specs.Refused.{missing}
use Rattle.ja_operations.proofs.field.put_field.Goals as goal

pub returns-in-Program-clause-ok : goal.returns-in-Program-clause-ok
returns-in-Program-clause-ok c = of_program c.in-Program.ensures

pub returns-in_ok-call-in-Library-clause-ok : goal.returns-in_ok-call-in-Library-clause-ok
returns-in_ok-call-in-Library-clause-ok c = of_library c.in-Library.ensures c.in_ok-call-in-Library.ensures

pub returns-in-Missing-clause-refused : goal.returns-in-Missing-clause-refused
returns-in-Missing-clause-refused c = missing c.in-Missing.ensures
