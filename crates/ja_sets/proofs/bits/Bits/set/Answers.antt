use Rattle.std.proofs.Common.{◌∙◌, ◌≡◌, ◌<◌, ◌/◌, length, get_or, arith}
use Rattle.ja_sets.proofs.Flags.{len-is, word-there, word-read, one-bit, with_bit-tidy, with_bit-flags, set-changes, lacks-iff}
use Rattle.ja_sets.proofs.bits.Bits.set.Goals as goal

pub index-word-requires : goal.index-word-requires
index-word-requires c =
    word-there c.self.inside.len _ c.args.at (c.self.inside.words.ok.0 ∙ c.self.invariant.enough)
    (omega (arith, c.requires, len-is c.self.inside.len c.self.inside.words.items c.args.self.now c.self.view_is))

pub index_mut-requires : goal.index_mut-requires
index_mut-requires c =
    word-there c.self.inside.len _ c.args.at (c.self.inside.words.ok.0 ∙ c.self.invariant.enough)
    (omega (arith, c.requires, len-is c.self.inside.len c.self.inside.words.items c.args.self.now c.self.view_is))

pub invariant_of-self : goal.invariant_of-self
invariant_of-self c =
    let room : c.args.at < c.self.inside.len = omega (arith, c.requires, len-is c.self.inside.len c.self.inside.words.items c.args.self.now c.self.view_is) in
    let there : c.args.at / 64 < length c.self.inside.words.items = word-there c.self.inside.len _ c.args.at c.self.invariant.enough room in
    let read : c.index-word.result.now ≡ get_or c.self.inside.words.items (c.args.at / 64) 0 = word-read c.self.inside.words.items (c.args.at / 64) c.index-word.result.now there c.index-word.ensures in
    rw (one-bit c.args.at, read) (with_bit-tidy c.self.inside.len c.self.inside.words.items c.args.at c.self.invariant room)

pub returns-clause-set : goal.returns-clause-set
returns-clause-set c =
    let room : c.args.at < c.self.inside.len = omega (arith, c.requires, len-is c.self.inside.len c.self.inside.words.items c.args.self.now c.self.view_is) in
    let there : c.args.at / 64 < length c.self.inside.words.items = word-there c.self.inside.len _ c.args.at c.self.invariant.enough room in
    let read : c.index-word.result.now ≡ get_or c.self.inside.words.items (c.args.at / 64) 0 = word-read c.self.inside.words.items (c.args.at / 64) c.index-word.result.now there c.index-word.ensures in
    rw (one-bit c.args.at, read) (with_bit-flags c.self.inside.len c.self.inside.words.items c.args.self.now c.args.at c.self.invariant c.self.view_is room)

pub returns-clause-changed : goal.returns-clause-changed
returns-clause-changed c =
    let room : c.args.at < c.self.inside.len = omega (arith, c.requires, len-is c.self.inside.len c.self.inside.words.items c.args.self.now c.self.view_is) in
    let there : c.args.at / 64 < length c.self.inside.words.items = word-there c.self.inside.len _ c.args.at c.self.invariant.enough room in
    let read : c.index-word.result.now ≡ get_or c.self.inside.words.items (c.args.at / 64) 0 = word-read c.self.inside.words.items (c.args.at / 64) c.index-word.result.now there c.index-word.ensures in
    rw (one-bit c.args.at)
    (lacks-iff _ _ (set-changes c.self.inside.len c.self.inside.words.items c.args.self.now c.args.at c.index-word.result.now c.self.invariant c.self.view_is room read))
