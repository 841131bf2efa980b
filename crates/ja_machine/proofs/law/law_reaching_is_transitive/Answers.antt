use Rattle.std.proofs.Common.{ℕ, List}
use Rattle.ja_machine.specs.declared.heap.Object.{Object}
use Rattle.ja_machine.specs.Reach.{Path, here, along}
use Rattle.ja_machine.proofs.law.law_reaching_is_transitive.Goals as goal

joined : {out : Object → List ℕ} {heap : List Object} (a b c : ℕ) → Path out heap a b → Path out heap b c → Path out heap a c
joined a b c here q = q
joined a b c (along l p) q = along l (joined _ b c p q)

pub returns : goal.returns
returns g heap a b c p q = joined a b c p q
