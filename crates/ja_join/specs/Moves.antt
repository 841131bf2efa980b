-- What a rule allows, and what it makes of a function.
use Rattle.std.specs.Prelude.{◌≡◌, ◌&&◌, ◌||◌, ◌==◌, not, bit_and, bit_or, Bool, true, false, List, [], ◌∷◌}
use Rattle.ja_node_core.specs.Tree.{Assignment}
use Rattle.ja_join.specs.declared.rule.States.{States}
use Rattle.ja_join.specs.declared.rule.Masks.{Masks}
use Rattle.ja_join.specs.declared.rule.Move.{Move}

-- the masks of a move, where its variable has these truths before and after
abbrev pub masks_of : Move → (before after : Bool) → Masks
masks_of m false false = m.low_low
masks_of m false true = m.low_high
masks_of m true false = m.high_low
masks_of m true true = m.high_high

abbrev pub next_by : Masks → States → States
next_by masks s = record { waiting = bit_and s.waiting masks.waiting; seen = bit_or (bit_and s.seen masks.seen) (bit_and s.waiting masks.sees) }

-- the states that are left after a move
abbrev pub next_states : Move → (before after : Bool) → States → States
next_states m before after s = next_by (masks_of m before after) s

-- one of the states may be left
abbrev pub accepts : (accepted s : States) → Bool
accepts accepted s = not (bit_and s.waiting accepted.waiting == 0) || not (bit_and s.seen accepted.seen == 0)

-- no state is possible
abbrev pub IsDead : States → Type 0
IsDead s = (s.waiting ≡ 0) × (s.seen ≡ 0)

-- the truth after a move that counts: none where the move forgets its variable
abbrev pub truth_after : Move → Assignment → Bool
truth_after m after = not m.forgets && after m.variable

-- moves allow the truths before and after of their variables, from some states on
abbrev pub allows : (accepted : States) → List Move → States → (before after : Assignment) → Bool
allows accepted [] s before after = accepts accepted s
allows accepted (m ∷ moves) s before after = allows accepted moves (next_states m (before m.variable) (truth_after m after) s) before after
