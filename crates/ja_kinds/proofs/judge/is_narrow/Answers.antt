use Rattle.std.proofs.Common.{◌≡◌, ℕ, length, sym, ap, ◌∙◌}
use Rattle.std.specs.Prelude.{nat_lt}
use Rattle.ja_kinds.specs.Frame.{words, parameter_words}
use Rattle.ja_kinds.specs.Solution.{is_narrow}
use Rattle.ja_kinds.proofs.Words.{words_filled}
use Rattle.ja_kinds.proofs.judge.is_narrow.Goals as goal

pub returns-then-pc-eq0 : goal.returns-then-pc-eq0
returns-then-pc-eq0 c =
    let most : c.from.result ≡ c.args.frame.now.max_locals = c.from.ensures in
    let there : c.words.result ≡ length (parameter_words c.args.frame.now.parameters) =
    c.words.ensures ∙ (ap words c.as_slice.ensures ∙ words_filled c.args.frame.now.parameters) in
    let zero : c.args.pc ≡ 0 = c.if-pc-eq0.true in
    ap (λ (n : ℕ). nat_lt n c.words.result) most ∙ (ap (nat_lt c.args.frame.now.max_locals) there ∙ ap (is_narrow c.args.frame.now) (sym zero))
