use Rattle.std.proofs.Common.{refl, arith}
use Rattle.std.specs.Int.{w16, to_be_bytes}
use Rattle.ja_pool.specs.Entry.{pair}
use Rattle.ja_pool.proofs.PayloadParts.{passes_both}
use Rattle.ja_pool.proofs.payload.pair.Goals as goal

pub returns-in-Ok-u2-clause-ok : goal.returns-in-Ok-u2-clause-ok
returns-in-Ok-u2-clause-ok c = record {
  entry = pair c.args.tag c.in-Ok.first c.in-Ok-u2.second;
  is_entry = (c.requires.shape, omega arith, omega arith);
  tag_is = refl;
  form_is = refl;
  passes = passes_both c.args.c.now c.u2.new.self c.u2-2.new.self (to_be_bytes w16 c.in-Ok.first) (to_be_bytes w16 c.in-Ok-u2.second) c.in-Ok.ensures.ok c.in-Ok-u2.ensures.ok;
}
