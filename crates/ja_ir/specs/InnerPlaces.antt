-- The indices to which an instruction leads, by how they are held. Only private functions speak of it.
use Rattle.std.specs.Prelude.{ℕ, List, []}
use Rattle.ja_ir.specs.declared.successors.Places.{Places}
use Rattle.ja_ir.specs.declared.successors.Places.TheVariants.{Nowhere, One, Two, More}

abbrev pub listed : Places → List ℕ
listed Nowhere = []
listed (One places) = places
listed (Two places) = places
listed (More list) = list
