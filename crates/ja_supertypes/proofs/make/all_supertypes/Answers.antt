use Rattle.std.proofs.Common.{◌<◌, ℕ, List, Bool, length, sym, subst}
use Rattle.std.specs.Prelude.{All}
use Rattle.ja_supertypes.specs.InnerRows.{AreSets, ShowsDirect}
use Rattle.ja_supertypes.proofs.Places.{supertypes-inside, shows-direct}
use Rattle.ja_supertypes.proofs.make.all_supertypes.Goals as goal

pub sets_of-requires : goal.sets_of-requires
sets_of-requires c =
    subst (λ (lists : List (List ℕ)). All (λ ds. All (λ d. d < length c.args.heads.now) ds) lists) (sym c.requires.direct) (supertypes-inside c.args.heads.now)

pub close-requires-clause-direct : goal.close-requires-clause-direct
close-requires-clause-direct c =
    subst (λ (rows : List (List Bool)). ShowsDirect c.args.heads.now rows) (sym c.as_mut_slice.ensures.value)
    (shows-direct c.args.heads.now c.in_ok-rows.rows.items (subst (λ (lists : List (List ℕ)). AreSets lists (length c.args.heads.now) c.in_ok-rows.rows.items) c.requires.direct c.in_ok-rows.ensures))
