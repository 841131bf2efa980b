-- What the readers of descriptors answer.
use Rattle.std.specs.Prelude.{ℕ}
use Rattle.ja_bytes.specs.declared.descriptor.DescFault.{DescFault}
use Rattle.ja_bytes.specs.declared.descriptor.DescFault.TheVariants.{Bad, Memory}

-- the fault is want of memory, or the place that it names is such
abbrev pub IsBadAt : (ℕ → Type 0) → DescFault → Type 0
IsBadAt P (Bad at) = P at
IsBadAt P Memory = Unit {0}
