use Rattle.std.proofs.Common.{◌≡◌, ◌∙◌, ap, sym, length, arith}
use Rattle.ja_sets.proofs.Values.{length-union}
use Rattle.ja_sets.proofs.tokens.TokenSet.join.Goals as goal

pub invariant_of-self : goal.invariant_of-self
invariant_of-self c =
    let sizes : length c.self.inside.bits ≡ length c.o.inside.bits = ap length c.self.view_is ∙ c.requires ∙ sym (ap length c.o.view_is) in
    omega (arith, ap length c.join.ensures.joined, length-union c.self.inside.bits c.o.inside.bits sizes)
