use Rattle.std.proofs.Common.{◌+◌, ◌≤◌, length, sym, arith}
use Rattle.std.proofs.lemmas.Option.{slice_get_within}
use Rattle.ja_assembly.specs.Assembled.{string_entry}
use Rattle.ja_maker.specs.InnerWriting.{pool_in}
use Rattle.ja_maker.proofs.Entries.{one_more, all_written}
use Rattle.ja_maker.proofs.pool_lists.put_strings.Goals as goal

pub loop-text-preserved : goal.loop-text-preserved
loop-text-preserved c =
    let there = sym c.in-Some.ensures.key in
    let within = slice_get_within c.args.pool.now.strings.keys c.loop-text.place c.in-Some.text.now there in
    let within_next : c.loop-text.place + 1 ≤ length c.args.pool.now.strings.keys = omega (arith, within) in
    (one_more (string_entry (pool_in c.args.pool.now)) c.args.pool.now.strings.keys c.loop-text.place c.in-Some.text.now c.args.out.now c.loop-text.out c.put_string.new.out there c.loop-text.invariant.0 c.in_ok-put_string.ensures, within_next)

pub returns : goal.returns
returns c = all_written (string_entry (pool_in c.args.pool.now)) c.args.pool.now.strings.keys c.loop-text.place c.args.out.now c.loop-text.out (sym c.in_default.ensures.key) c.loop-text.invariant.0
