use Rattle.std.proofs.Common.{◌∙◌, arith}
use Rattle.ja_sets.proofs.Flags.{len-is, word-there, shift-read}
use Rattle.ja_sets.proofs.bits.Bits.get.Goals as goal

pub index-requires : goal.index-requires
index-requires c =
    word-there c.self.inside.len _ c.args.at (c.self.inside.words.ok.0 ∙ c.self.invariant.enough)
    (omega (arith, c.requires, len-is c.self.inside.len c.self.inside.words.items c.args.self.now c.self.view_is))

pub returns : goal.returns
returns c =
    shift-read c.self.inside.len c.self.inside.words.items c.args.self.now c.args.at c.index.result.now c.self.invariant c.self.view_is c.requires c.index.ensures
