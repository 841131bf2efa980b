use Rattle.ja_generator.proofs.Pushes.{file_is}
use Rattle.ja_generator.proofs.class.file_by.Goals as goal

pub returns-in-Ok : goal.returns-in-Ok
returns-in-Ok c = file_is c.args.x c.args.i c.in_ok-class.class c.in_ok-name.name c.in-Ok.bytes c.in_ok-class.ensures c.in_ok-name.ensures c.in-Ok.ensures.written
