-- Which faults of the hierarchy name a class, and what comes of a fault. Only private functions cite this.
use Rattle.std.specs.Prelude.{◌≡◌, ℕ, ◌<◌, List, Option, Some}
use Rattle.ja_base.specs.declared.refusal.Refusal.{Refusal}
use Rattle.ja_hier.specs.declared.fault.HierFault.{HierFault}
use Rattle.ja_hier.specs.declared.fault.HierFault.TheVariants as hier
use Rattle.ja_lower.specs.declared.fault.LowerFault.{LowerFault}
use Rattle.ja_lower.specs.declared.fault.LowerFault.TheVariants.{Refused, Memory}

-- the class that a fault names is one of so many
abbrev pub NamesOneOf : (size : ℕ) → HierFault → Type 0
NamesOneOf size (hier.PlatformClass c) = c < size
NamesOneOf size (hier.Duplicate c) = c < size
NamesOneOf size (hier.Cycle c) = c < size
NamesOneOf size (hier.CrossPackage c k) = c < size
NamesOneOf size hier.Memory = Unit {0}

-- the refusal is this, or memory ran out
abbrev pub IsOrMemory : Option Refusal → LowerFault → Type 0
IsOrMemory refusal (Refused found) = refusal ≡ Some found
IsOrMemory refusal Memory = Unit {0}
