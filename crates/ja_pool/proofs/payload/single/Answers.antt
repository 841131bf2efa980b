use Rattle.std.proofs.Common.{refl, arith}
use Rattle.ja_pool.specs.Entry.{single}
use Rattle.ja_pool.proofs.payload.single.Goals as goal

pub returns-in-Ok-clause-ok : goal.returns-in-Ok-clause-ok
returns-in-Ok-clause-ok c = record {
  entry = single c.args.tag c.in-Ok.index;
  is_entry = (c.requires.shape, omega arith);
  tag_is = refl;
  form_is = refl;
  passes = c.in-Ok.ensures.ok;
}
