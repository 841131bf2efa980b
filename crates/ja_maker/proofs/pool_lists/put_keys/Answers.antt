use Rattle.std.proofs.Common.{◌+◌, ◌≤◌, length, sym, arith}
use Rattle.std.proofs.lemmas.Option.{slice_get_within}
use Rattle.ja_assembly.specs.Assembled.{key_entry}
use Rattle.ja_maker.specs.InnerWriting.{pool_in}
use Rattle.ja_maker.proofs.Entries.{one_more, all_written}
use Rattle.ja_maker.proofs.pool_lists.put_keys.Goals as goal

pub loop-key-preserved : goal.loop-key-preserved
loop-key-preserved c =
    let there = sym c.in-Some.ensures.key in
    let within = slice_get_within c.args.pool.now.keys.keys c.loop-key.place c.in-Some.key.now there in
    let within_next : c.loop-key.place + 1 ≤ length c.args.pool.now.keys.keys = omega (arith, within) in
    (one_more (key_entry (pool_in c.args.pool.now)) c.args.pool.now.keys.keys c.loop-key.place c.in-Some.key.now c.args.out.now c.loop-key.out c.put_key.new.out there c.loop-key.invariant.0 c.in_ok-put_key.ensures, within_next)

pub returns : goal.returns
returns c = all_written (key_entry (pool_in c.args.pool.now)) c.args.pool.now.keys.keys c.loop-key.place c.args.out.now c.loop-key.out (sym c.in_default.ensures.key) c.loop-key.invariant.0
