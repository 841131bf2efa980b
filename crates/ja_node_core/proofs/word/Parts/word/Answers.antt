use Rattle.std.proofs.Common.{ℕ, ◌≡◌, ◌+◌, ◌*◌, ◌%◌, ◌^◌, bit_or, ap, ◌∙◌}
use Rattle.ja_node_core.specs.declared.word.Parts.{Parts}
use Rattle.ja_node_core.specs.Word.{word_of, var_of, low_of, high_of}
use Rattle.ja_node_core.proofs.Words.{packed, parts_of_word}
use Rattle.ja_node_core.proofs.word.Parts.word.Goals as goal

same_word : (p : Parts) (v low high : ℕ) → v ≡ p.var → low ≡ p.lo.number → high ≡ p.hi.number
    → bit_or (bit_or ((v + 1) * 2 ^ 26 % 2 ^ 64) low * 2 ^ 26 % 2 ^ 64) high ≡ word_of p.var p.lo.number p.hi.number
same_word p v low high v_is low_is high_is =
    (λ i. bit_or (bit_or ((v_is i + 1) * 2 ^ 26 % 2 ^ 64) (low_is i) * 2 ^ 26 % 2 ^ 64) (high_is i)) ∙ packed p.var p.lo.number p.hi.number p.small p.lo.small p.hi.small

pub returns-clause-word : goal.returns-clause-word
returns-clause-word c = same_word c.args.self.now _ _ _ c.from.ensures c.from-2.ensures c.from-3.ensures

pub returns-clause-parts : goal.returns-clause-parts
returns-clause-parts c =
    let p = c.args.self.now in
    let same = same_word p _ _ _ c.from.ensures c.from-2.ensures c.from-3.ensures in
    let parts = parts_of_word p.var p.lo.number p.hi.number p.lo.small p.hi.small in
    (ap var_of same ∙ parts.0, ap low_of same ∙ parts.1, ap high_of same ∙ parts.2)
