-- Faults of a part of a descriptor, seen from the whole. Only private functions cite this.
use Rattle.std.specs.Prelude.{ℕ, ◌+◌}
use Rattle.ja_bytes.specs.declared.descriptor.DescFault.{DescFault}
use Rattle.ja_bytes.specs.declared.descriptor.DescFault.TheVariants.{Bad, Memory}

-- the fault, seen from this many bytes before
abbrev pub behind_of : ℕ → DescFault → DescFault
behind_of n (Bad at) = Bad (n + at)
behind_of n Memory = Memory
