-- The state of a cell.
use Rattle.std.specs.Prelude.{◌≡◌, ℕ, ◌⊎◌, ◌↔◌, false, [], length, replicate}
use Rattle.ja_sets.specs.Sets.{Has, Lacks}
use Rattle.ja_network.specs.declared.state.CellState.{CellState}

-- a cell without tokens and links, for tokens below a bound
abbrev pub empty_state : (tokens : ℕ) → CellState
empty_state tokens = record { has = replicate tokens false; fresh = replicate tokens false; links = []; queued = false }

-- these tokens came to the cell: those that it had not are fresh
pub record Gains (old new : CellState) (S : ℕ → Type 0) : Type 0 where
  pub has : (t : ℕ) → Has new.has t ↔ (Has old.has t ⊎ S t)
  pub fresh : (t : ℕ) → Has new.fresh t ↔ (Has old.fresh t ⊎ (S t × Lacks old.has t))
  pub has_size : length new.has ≡ length old.has
  pub fresh_size : length new.fresh ≡ length old.fresh
  pub links : new.links ≡ old.links
  pub queued : new.queued ≡ old.queued
