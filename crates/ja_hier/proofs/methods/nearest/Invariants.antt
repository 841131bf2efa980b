use Rattle.ja_supertypes.specs.Supertypes.{IsSuperclass}
use Rattle.ja_hier.specs.InnerIndex.{Inherits}
use Rattle.ja_hier.proofs.Lowest.{IsLowestSoFar}
use Rattle.ja_hier.proofs.methods.nearest.Given as goal

abbrev pub invariant-loop-other : goal.invariant-loop-other
invariant-loop-other l = IsLowestSoFar (Inherits l.tables.classes l.skip l.name l.desc l.class) (IsSuperclass l.tables.classes) l.listed l.other-index l.nearest
