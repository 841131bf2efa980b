-- Words of the private functions.
use Rattle.ja_work.specs.declared.clause.Spot.{Spot}
use Rattle.ja_work.specs.declared.clause.Spot.TheVariants.{Local, OnStack, Dirt, Exc}
use Rattle.ja_work.specs.declared.clause.Clause.{Clause}
use Rattle.ja_work.specs.Clauses.{never, moved}

-- an exceptional end before anything is done: the stack is gone, what is thrown is as this clause says, and all else stays
abbrev pub early : (exc : Clause) → Spot → Clause
early exc (Local l) = moved (Local l)
early exc (OnStack k) = never
early exc Dirt = moved Dirt
early exc Exc = exc
