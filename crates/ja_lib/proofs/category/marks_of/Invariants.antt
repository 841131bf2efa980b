use Rattle.std.proofs.Common.{◌≡◌, take}
use Rattle.ja_lib.specs.File.{marks_of}
use Rattle.ja_lib.proofs.category.marks_of.Given as goal

abbrev pub invariant-loop-category : goal.invariant-loop-category
invariant-loop-category l = l.marks ≡ marks_of (take l.category-index l.categories) l.chosen
