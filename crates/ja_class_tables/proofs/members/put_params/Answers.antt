use Rattle.std.proofs.Common.{◌<◌, length, arith}
use Rattle.ja_class_tables.specs.InnerPool.{row_of}
use Rattle.ja_class_tables.proofs.Written.{params-step}
use Rattle.ja_class_tables.proofs.members.put_params.Goals as goal

pub loop-k-preserved : goal.loop-k-preserved
loop-k-preserved c =
    let inside : c.loop-k.k < length (row_of c.args.sets.now.params c.args.m) = let lt = c.loop-k-test.true in let room = c.requires.inside in omega arith in
    params-step c.args.net.now c.args.m c.loop-k.k c.args.sets.now c.loop-k.sets c.put_param.new.sets c.loop-k.invariant c.in_ok-put_param.ensures inside
