use Rattle.std.proofs.Common.{sym, ◌∙◌}
use Rattle.ja_pool.proofs.Tables.{tags_are}
use Rattle.ja_pool.proofs.pool.Pool.new.Goals as goal

pub invariant_of-result : goal.invariant_of-result
invariant_of-result c =
    let dims = rw c.deref.ensures.value at c.in-Ok.ensures in
    rw c.in-Ok-from_slice.ensures.items (record {
      tags_are = c.requires.tags_are ∙ sym (tags_are c.args.bytes.now c.args.slots.items);
      dims_are = dims;
      inside = c.requires.inside;
      tagged = c.requires.tagged;
      few = c.requires.few;
    })
