use Rattle.std.proofs.Common.{refl, arith}
use Rattle.ja_pool.specs.Entry.{number}
use Rattle.ja_pool.proofs.payload.number.Goals as goal

pub returns-in-Ok-clause-ok : goal.returns-in-Ok-clause-ok
returns-in-Ok-clause-ok c = record {
  entry = number c.args.tag c.in-Ok.bits;
  is_entry = (c.requires.shape, omega arith);
  tag_is = refl;
  form_is = refl;
  passes = c.in-Ok.ensures.ok;
}
