use Rattle.std.proofs.Common.{ap, ◌∙◌, false}
use Rattle.std.specs.Prelude.{slice_index_or}
use Rattle.ja_bdd.proofs.Cached.{all_copies}
use Rattle.ja_bdd.proofs.assign.Assign.new.Goals as goal

pub returns : goal.returns
returns c v = ap (λ vs. slice_index_or vs v false) (c.in_ok-values.ensures.items_if_clones_equal (λ y is. is)) ∙ all_copies 4096 v false
