use Rattle.std.proofs.Common.{ℕ, List, ◌++◌, ◌≡◌, codes, take, drop, length, ◌-◌, sym, ap, ◌∙◌}
use Rattle.std.proofs.lemmas.Slice.Eq.{ends_is}
use Rattle.std.proofs.lemmas.Bool.Decides.{Decides-eqb}
use Rattle.ja_run.proofs.answer.is_class_file.Goals as goal

pub returns : goal.returns
returns c =
    let both = ends_is Decides-eqb c.bytes.result.now (codes ".class") c.ends_with.result c.ends_with.ensures.value in
    ((λ ends. (_, sym c.bytes.ensures ∙ both.0 ends)), (λ named. both.1 named.0 (c.bytes.ensures ∙ named.1)))
