use Rattle.ja_maker.specs.InnerWriting.{pool_in}
use Rattle.ja_maker.proofs.Wholes.{count_is}
use Rattle.ja_maker.proofs.write.count_entries.Goals as goal

pub returns : goal.returns
returns c = rw (c.len.ensures.len, c.len-2.ensures.len) (count_is (pool_in c.args.pool.now))
