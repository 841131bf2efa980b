use Rattle.std.proofs.Common.{◌≡◌, ◌<◌, ◌≤◌, ℕ}
use Rattle.std.specs.Prelude.{slice_index, length}
use Rattle.std.specs.List.{All}
use Rattle.ja_bdd.proofs.renaming.Renaming.new.Given as goal

abbrev pub invariant-loop-var : goal.invariant-loop-var
invariant-loop-var l = (length l.partners ≡ 4095) × All (λ partner. partner ≤ 4094) l.partners × ((v : ℕ) → v < l.var → slice_index l.partners v ≡ v)
