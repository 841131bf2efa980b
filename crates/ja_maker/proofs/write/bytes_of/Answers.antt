use Rattle.std.proofs.Common.{◌∙◌, ap, List, ℕ, ◌++◌}
use Rattle.ja_class.specs.ClassFile.{spelling}
use Rattle.ja_assembly.specs.Assembled.{Pool, file_in}
use Rattle.ja_maker.specs.InnerWriting.{pool_in}
use Rattle.ja_maker.proofs.Wholes.{few_known, pool_known}
use Rattle.ja_maker.proofs.write.bytes_of.Goals as goal

pub put_class-requires : goal.put_class-requires
put_class-requires c = few_known c.args.listing.now c.args.pool.now c.requires.allowed

pub returns-in-Ok-clause-ok : goal.returns-in-Ok-clause-ok
returns-in-Ok-clause-ok c =
    let class = c.args.listing.now in
    c.in-Ok.ensures ∙ ap (λ (old : List ℕ). old ++ spelling (file_in (pool_in c.args.pool.now) class)) c.new-out.ensures
    ∙ ap (λ (pool : Pool). spelling (file_in pool class)) (pool_known class c.args.pool.now c.requires.allowed)
