use Rattle.std.specs.List.{flat_map}
use Rattle.ja_assembly.specs.Members.{expanded, methods}
use Rattle.ja_assembly.specs.Assembled.{method_info}
use Rattle.ja_maker.specs.InnerWriting.{pool_in}
use Rattle.ja_maker.proofs.Wholes.{members_are}
use Rattle.ja_maker.proofs.write.put_counted_methods.Goals as goal

pub returns : goal.returns
returns c =
    members_are (method_info (pool_in c.args.pool.now)) (methods (flat_map (expanded c.args.superclass.now) c.args.items.now)) c.in_ok-count.count c.args.out.now
    c.put_u2.new.out c.put_methods.new.out (c.in_ok-count.ensures c.args.superclass.now) c.in_ok-put_u2.ensures c.in_ok-put_methods.ensures
