use Rattle.std.proofs.Common.{◌≡◌, take}
use Rattle.ja_supertypes.specs.LibraryTypes.{first_places}
use Rattle.ja_supertypes.specs.InnerTypes.{spliced}
use Rattle.ja_supertypes.proofs.library.own_types.Given as goal

abbrev pub invariant-loop-interface : goal.invariant-loop-interface
invariant-loop-interface l = l.found.keys ≡ first_places (spliced l.tables.names.keys l.own (take l.interface-index l.interfaces))
