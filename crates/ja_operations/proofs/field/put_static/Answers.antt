use Rattle.ja_operations.specs.Fields.{static_of_program}
use Rattle.ja_operations.specs.Refused.{nowhere, library_store}
use Rattle.ja_operations.proofs.field.put_static.Goals as goal

pub returns-in-Program-clause-ok : goal.returns-in-Program-clause-ok
returns-in-Program-clause-ok c = static_of_program c.in-Program.ensures

pub returns-in-Library-clause-refused : goal.returns-in-Library-clause-refused
returns-in-Library-clause-refused c = library_store c.in-Library.ensures

pub returns-in-Missing-clause-refused : goal.returns-in-Missing-clause-refused
returns-in-Missing-clause-refused c = nowhere c.in-Missing.ensures
