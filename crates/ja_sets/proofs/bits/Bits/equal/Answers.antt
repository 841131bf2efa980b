use Rattle.std.proofs.Common.{◌∙◌, ap, bytes_eq}
use Rattle.ja_sets.proofs.Flags.{same-iff}
use Rattle.ja_sets.proofs.bits.Bits.equal.Goals as goal

pub returns : goal.returns
returns c =
    same-iff c.self.inside.len c.other.inside.len c.self.inside.words.items c.other.inside.words.items c.args.self.now c.args.other.now c.eq.result
    c.self.invariant c.other.invariant c.self.view_is c.other.view_is c.requires
    (c.eq.ensures ∙ ap (λ xs. bytes_eq xs c.as_slice-2.result.now) c.as_slice.ensures.value ∙ ap (bytes_eq c.self.inside.words.items) c.as_slice-2.ensures.value)
