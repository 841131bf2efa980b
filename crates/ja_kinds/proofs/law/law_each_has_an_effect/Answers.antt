use Rattle.ja_kinds.proofs.OfClass.{of_profile}
use Rattle.ja_kinds.proofs.law.law_each_has_an_effect.Goals as goal

pub returns : goal.returns
returns c = λ class spelled m method code at has i there.
    let deed = (of_profile class spelled m method code at has).deeds i there in
    (deed.behaviour, deed.effect, deed.does)
