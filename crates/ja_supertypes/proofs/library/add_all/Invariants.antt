use Rattle.std.proofs.Common.{◌≡◌, ℕ, List, ◌++◌, take}
use Rattle.ja_supertypes.specs.LibraryTypes.{first_places}
use Rattle.ja_supertypes.proofs.library.add_all.Given as goal

abbrev pub invariant-loop-name : goal.invariant-loop-name
invariant-loop-name l = (names : List (List ℕ)) → l.initial.found.keys ≡ first_places names → l.found.keys ≡ first_places (names ++ take l.name-index l.added)
