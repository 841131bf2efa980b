use Rattle.ja_kinds.proofs.OfClass.{of_profile}
use Rattle.ja_operations.proofs.Profiled.{each_profiled}
use Rattle.ja_operations.proofs.law.law_each_is_profiled.Goals as goal

pub returns : goal.returns
returns c = λ class spelled m method code at has i there.
    let said = of_profile class spelled m method code at has in
    let deed = c.law_each_has_an_effect.ensures class spelled m method code at has i there in
    each_profiled class.pool 0 said.text code.instrs said.spells.instrs i there deed.0 deed.1 deed.2
