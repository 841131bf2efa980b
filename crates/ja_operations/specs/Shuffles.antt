-- How instructions that move words on the stack move values (JVM specification 6.5).
use Rattle.std.specs.Prelude.{ℕ, ◌==◌, ◌&&◌, Bool, true, false, List, [], ◌∷◌, Option, Some, None, length, unwrap_or}
use Rattle.std.specs.List.{find}
use Rattle.ja_base.specs.Kind.{words_of}
use Rattle.ja_base.specs.declared.java_type.Kind.{Kind}
use Rattle.ja_ir.specs.declared.op.Op.{Op}
use Rattle.ja_ir.specs.declared.op.Op.TheVariants.{Shuffle}
use Rattle.ja_code.specs.declared.behaviour.Rearrangement.{Rearrangement}
use Rattle.ja_kinds.specs.declared.state.KindState.{KindState}
use Rattle.ja_code.specs.Behaviour.{Move, move, moves_of}
use Rattle.ja_kinds.specs.Frame.{top}

-- values have these words, one by one
abbrev pub have_words : List Kind → List ℕ → Bool
have_words [] [] = true
have_words [] (w ∷ ws) = false
have_words (k ∷ ks) [] = false
have_words (k ∷ ks) (w ∷ ws) = words_of k == w && have_words ks ws

-- the topmost values of the stack have the words that a move takes
abbrev pub takes_from : List Kind → Move → Bool
takes_from stack m = have_words (top (length m.takes) stack) m.takes

-- the move that takes nothing
abbrev pub no_move : Move
no_move = move [] []

-- the first of some moves that is possible on this stack, and else the one that takes nothing
abbrev pub first_move : List Kind → List Move → Move
first_move stack moves = unwrap_or (find (takes_from stack) moves) no_move

-- the move that an instruction is on this stack; where none of its moves is possible, the kinds refuse the method
abbrev pub move_on : Rearrangement → List Kind → Move
move_on how stack = first_move stack (moves_of how)

-- the move by what is known before the instruction; one that is not reached moves nothing
abbrev pub move_after : Rearrangement → Option KindState → Move
move_after how None = no_move
move_after how (Some before) = move_on how before.stack

-- the operation of a move, in which a value is named by its place among those that are taken
abbrev pub shuffle_of : Move → Op
shuffle_of m = Shuffle (length m.takes) m.pushes
