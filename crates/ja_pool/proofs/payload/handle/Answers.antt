use Rattle.std.proofs.Common.{[], ◌∷◌, refl, sym, arith}
use Rattle.std.specs.Int.{w16, to_be_bytes}
use Rattle.ja_pool.specs.Entry.{handle}
use Rattle.ja_pool.proofs.PayloadParts.{passes_both}
use Rattle.ja_pool.proofs.payload.handle.Goals as goal

pub returns-in-Ok-u2-clause-ok : goal.returns-in-Ok-u2-clause-ok
returns-in-Ok-u2-clause-ok c = record {
  entry = handle c.in-Ok.kind c.in-Ok-u2.index;
  is_entry = (omega arith, omega arith);
  tag_is = sym c.requires.shape;
  form_is = refl;
  passes = passes_both c.args.c.now c.u1.new.self c.u2.new.self (c.in-Ok.kind ∷ []) (to_be_bytes w16 c.in-Ok-u2.index) c.in-Ok.ensures.ok c.in-Ok-u2.ensures.ok;
}
