use Rattle.ja_maker.specs.InnerWriting.{pool_in}
use Rattle.ja_maker.proofs.Wholes.{whole_is}
use Rattle.ja_maker.proofs.write.put_class.Goals as goal

pub returns : goal.returns
returns c =
    let class = c.args.listing.now in
    let head = rw (c.head-head.ensures) at c.in_ok-put_head.ensures in
    let fields = rw (c.as_slice-items.ensures, c.items.ensures) at (c.in_ok-put_counted_fields.ensures class.head.superclass) in
    let methods = rw (c.as_slice-items.ensures, c.items.ensures, c.head-head.ensures) at c.in_ok-put_counted_methods.ensures in
    whole_is (pool_in c.args.pool.now) class c.args.out.now c.put_version.new.out c.put_pool.new.out c.put_head.new.out c.put_counted_fields.new.out
    c.put_counted_methods.new.out c.put_u2.new.out c.in_ok-put_version.ensures c.in_ok-put_pool.ensures head fields methods c.in_ok-put_u2.ensures
