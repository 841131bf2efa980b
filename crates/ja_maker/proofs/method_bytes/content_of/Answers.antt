use Rattle.std.proofs.Common.{[], length}
use Rattle.ja_assembly.specs.InnerLabels.{places}
use Rattle.ja_assembly.specs.Assembled.{u2, u4}
use Rattle.ja_assembly.specs.Members.{ranges_in}
use Rattle.ja_maker.specs.InnerWriting.{pool_in, rows_in}
use Rattle.ja_maker.proofs.Chains.{seven}
use Rattle.ja_maker.proofs.method_bytes.content_of.Goals as goal

pub returns : goal.returns
returns c = λ superclass.
    let rs = ranges_in superclass c.args.behind.now in
    let p = rw (c.new-content.ensures, c.from.ensures) at c.in_ok-put_u2.ensures in
    let q = rw c.from-2.ensures at c.in_ok-put_u2-2.ensures in
    let r = rw c.len.ensures at c.in_ok-put_u4.ensures in
    let s = rw c.as_slice.ensures at c.in_ok-put_bytes.ensures in
    let t = rw (c.in_ok-count_rows.ensures superclass) at c.in_ok-put_u2-3.ensures in
    seven [] (u2 c.args.frame.stack.size) (u2 c.args.frame.locals.size) (u4 (length c.args.code.now)) c.args.code.now (u2 (length rs))
    (rows_in (pool_in c.args.pool.now) (places c.args.labels.now) rs) (u2 0)
    c.put_u2.new.out c.put_u2-2.new.out c.put_u4.new.out c.put_bytes.new.out c.put_u2-3.new.out c.put_rows.new.out c.put_u2-4.new.out
    p q r s t (c.in_ok-put_rows.ensures superclass) c.in_ok-put_u2-4.ensures
