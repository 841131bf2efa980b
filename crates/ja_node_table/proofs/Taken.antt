-- The nodes on a path that is taken mean different functions.
use Rattle.std.proofs.Common.{◌≡◌, ℕ, ◌+◌, ◌-◌, ◌%◌, ◌<◌, ◌≤◌, sym, subst, arith}
use native.Mathlib.Decide.{dec_le}
use Rattle.atomic_table.proofs.Lists.{one_turn}
use Rattle.ja_node_core.specs.Tree.{Tree, HasFunctions}
use Rattle.ja_node_core.specs.Word.{places, place, hash}
use Rattle.ja_node_core.proofs.Known.{stands_part}
use Rattle.ja_node_core.proofs.Trees.{functions}
use Rattle.ja_node_table.specs.declared.view.Plan.{Plan}
use Rattle.ja_node_table.specs.Rule.{IsTaken}

-- the places of a path are different
pub places_apart : (n w i j : ℕ) → i < places n → j < places n → place n w i ≡ place n w j → i ≡ j
unfolding place places
places_apart n w i j lt less e = step (dec_le i j)
  where
    h : ℕ
    h = hash n w

    same : (h + i) % (n - 2) ≡ (h + j) % (n - 2)
    same = omega (arith, e)

    step : Dec (i ≤ j) → i ≡ j
    step (yes le) = let one = one_turn (h + i) (h + j) (n - 2) (omega arith) (omega arith) same in omega arith
    step (no not) = let one = one_turn (h + j) (h + i) (n - 2) (omega arith) (omega arith) (sym same) in omega arith

pub taken_functions : {A : Type 0} (aims : A → Tree → Type 0) (x : Plan A) (word : ℕ) → IsTaken aims x word → HasFunctions (aims x.aim) (places x.slots)
taken_functions aims x word taken =
    let part = taken.part in
    functions x.slots (aims x.aim) part.words part.canonical (places x.slots) (place x.slots word)
    (λ i lt. let pos = (taken.others i lt).0 in subst (λ w. 0 < w) (sym (stands_part part.words taken.known part.stands (place x.slots word i) pos)) pos)
    (places_apart x.slots word)
