-- The edge over the real system.
use Rattle.std.specs.Prelude.{ℕ}

-- how many calls were made on a real folder, and how many of them failed
pub record CallCounts : Type 0 where
  pub calls : ℕ
  pub faults : ℕ
