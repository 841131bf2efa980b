use Rattle.std.proofs.Common.{◌≡◌, ◌+◌, ◌/◌, ◌∙◌, replicate, ap, rules}
use Rattle.ja_sets.proofs.Flags.{flags-zeros}
use Rattle.ja_sets.specs.InnerWords.{flags}
use Rattle.ja_sets.proofs.bits.Bits.new.Goals as goal

pub returns-in-Ok : goal.returns-in-Ok
returns-in-Ok c =
    let zeros : c.in-Ok.words.items ≡ replicate ((c.args.len + 63) / 64) 0 = search rules in
    ap (flags c.args.len) zeros ∙ flags-zeros c.args.len ((c.args.len + 63) / 64)
