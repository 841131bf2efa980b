use Rattle.ja_supertypes.specs.Supertypes.{IsSupertype}
use Rattle.ja_hier.specs.InnerIndex.{Meets}
use Rattle.ja_hier.proofs.Lowest.{IsLowestSoFar}
use Rattle.ja_hier.proofs.fields.lowest_above.Given as goal

abbrev pub invariant-loop-other : goal.invariant-loop-other
invariant-loop-other l = IsLowestSoFar (Meets l.tables.classes l.name l.desc l.class l.fork) (IsSupertype l.tables.classes) l.listed l.other-index l.lowest
