use Rattle.std.proofs.Common.{sym, ◌∙◌}
use Rattle.std.proofs.lemmas.Bool.Decides.{Decides-eqb}
use Rattle.std.proofs.lemmas.Slice.Eq.{slice_eq-Decides}
use Rattle.ja_words.proofs.command.is_word.Goals as goal

pub returns : goal.returns
returns c =
    let decides = slice_eq-Decides Decides-eqb c.bytes.result.now c.args.text.now c.eq.result c.eq.ensures in
    ((λ same. sym c.bytes.ensures ∙ decides.0 same), (λ same. decides.1 (c.bytes.ensures ∙ same)))
