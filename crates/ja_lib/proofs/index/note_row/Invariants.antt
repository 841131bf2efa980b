use Rattle.std.proofs.Common.{◌≡◌, ◌++◌, ℕ, List, take}
use Rattle.ja_base.specs.Index.{numbers_at}
use Rattle.ja_lib.specs.InnerIndex.{place_for_each}
use Rattle.ja_lib.proofs.index.note_row.Given as goal

abbrev pub invariant-loop-listed : goal.invariant-loop-listed
invariant-loop-listed l = (class : List ℕ) → numbers_at l.index class ≡ numbers_at l.initial.index class ++ place_for_each l.place (take l.listed-index l.classes) class
