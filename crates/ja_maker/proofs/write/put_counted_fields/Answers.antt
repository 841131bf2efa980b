use Rattle.std.specs.List.{flat_map}
use Rattle.ja_assembly.specs.Members.{expanded, fields}
use Rattle.ja_assembly.specs.Assembled.{field_info}
use Rattle.ja_maker.specs.InnerWriting.{pool_in}
use Rattle.ja_maker.proofs.Wholes.{members_are}
use Rattle.ja_maker.proofs.write.put_counted_fields.Goals as goal

pub returns : goal.returns
returns c = λ superclass.
    members_are (field_info (pool_in c.args.pool.now)) (fields (flat_map (expanded superclass) c.args.items.now)) c.in_ok-count.count c.args.out.now
    c.put_u2.new.out c.put_fields.new.out (c.in_ok-count.ensures superclass) c.in_ok-put_u2.ensures (c.in_ok-put_fields.ensures superclass)
