-- How an instruction moves values: its moves, on a stack.
use Rattle.std.specs.Prelude.{◌≡◌, ℕ, List, ◌++◌, length, map, slice_index_or}
use Rattle.ja_base.specs.Kind.{words_of}
use Rattle.ja_base.specs.declared.java_type.Kind.{Kind}
use Rattle.ja_base.specs.declared.java_type.Kind.TheVariants.{T}
use Rattle.ja_code.specs.declared.behaviour.Rearrangement.{Rearrangement}
use Rattle.ja_code.specs.Behaviour.{Move, moves_of}
use Rattle.ja_kinds.specs.Frame.{top, under}
use Rattle.ja_kinds.specs.Effect.{IsOneOf}

-- these of some values, in this order
abbrev pub picked : List Kind → List ℕ → List Kind
picked values places = map (λ (n : ℕ). slice_index_or values n T) places

-- a move fits a stack: the values on top have the words that it takes
abbrev pub IsFitting : Move → List Kind → Type 0
IsFitting m stack = map words_of (top (length m.takes) stack) ≡ m.takes

-- the stack after a move
abbrev pub stack_after : Move → List Kind → List Kind
stack_after m stack = under (length m.takes) stack ++ picked (top (length m.takes) stack) m.pushes

-- one of the moves of an instruction makes this stack of that one
pub record IsMovedTo (how : Rearrangement) (stack new : List Kind) : Type 0 where
  pub move : Move
  pub member : IsOneOf move (moves_of how)
  pub fits : IsFitting move stack
  pub new_is : new ≡ stack_after move stack
