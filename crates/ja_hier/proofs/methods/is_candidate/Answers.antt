use Rattle.std.proofs.Common.{◌≡◌, ℕ, true}
use Rattle.std.specs.Prelude.{Some}
use Rattle.ja_hier.specs.declared.skip.Skip.TheVariants.{NoDefault}
use Rattle.ja_hier.specs.LookUps.{method_in}
use Rattle.ja_hier.proofs.methods.is_candidate.Goals as goal

pub returns-then-is_superinterface : goal.returns-then-is_superinterface
returns-then-is_superinterface c = (
  λ t.
      let place : (k : ℕ) × (method_in c.args.tables.now.classes NoDefault c.args.name.now c.args.desc.now c.args.interface ≡ Some k) = c.declares.ensures.0 t in
      (place.0, record { above = c.is_superinterface.ensures.0 c.if-is_superinterface.true; declared = place.1 }),
  λ candidate. c.declares.ensures.1 (candidate.0, candidate.1.declared),
)

pub returns-else-is_superinterface : goal.returns-else-is_superinterface
returns-else-is_superinterface c = (
  λ t. absurd (cc t),
  λ candidate. let t : c.is_superinterface.result ≡ true = c.is_superinterface.ensures.1 candidate.1.above in absurd (cc (t, c.if-is_superinterface.false)),
)
