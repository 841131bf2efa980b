use Rattle.std.proofs.Common.{List, ℕ, refl, sym, subst, arith}
use Rattle.ja_bytes.specs.Reading.{Passes}
use Rattle.ja_pool.specs.Entry.{wide}
use Rattle.ja_pool.proofs.payload.wide.Goals as goal

pub returns-in-Ok-clause-ok : goal.returns-in-Ok-clause-ok
returns-in-Ok-clause-ok c = record {
  entry = wide c.args.tag c.number_of-bits.result;
  is_entry = (c.requires.shape, omega arith);
  tag_is = refl;
  form_is = refl;
  passes = subst (λ (t : List ℕ). Passes c.args.c.now c.take.new.self t) (sym c.number_of-bits.ensures) c.in-Ok.ensures.ok;
}
