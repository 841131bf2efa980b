-- What the pass over the instructions does, step by step. Only functions that are private to the crate speak of it.
use Rattle.std.specs.Prelude.{ℕ, ◌-◌, ◌<◌, ◌≤◌, Bool, true, false, List, [], ◌∷◌, ◌++◌, length, take, slice_set, slice_index_or}
use Rattle.ja_class.specs.declared.first.FirstOp.{FirstOp}
use Rattle.ja_class.specs.declared.first.FirstOp.TheVariants.{Load, Store, Text, Pop, Source, Sink, Return}
use Rattle.ja_class.specs.declared.first.FirstInstr.{FirstInstr}
use Rattle.ja_class.specs.Runnable.{pops, height_after}

-- the local that an operation uses is one of so many
abbrev pub UsesWithin : ℕ → FirstOp → Type 0
UsesWithin locals (Load n) = n < locals
UsesWithin locals (Store n) = n < locals
UsesWithin locals Text = Unit {0}
UsesWithin locals Pop = Unit {0}
UsesWithin locals Source = Unit {0}
UsesWithin locals Sink = Unit {0}
UsesWithin locals Return = Unit {0}

-- from this height the instructions find their values and locals
abbrev pub FindsAll : (locals height : ℕ) → List FirstInstr → Type 0
FindsAll locals height [] = Unit {0}
FindsAll locals height (x ∷ xs) = (pops x.op ≤ height) × UsesWithin locals x.op × FindsAll locals (height_after x.op height) xs

-- the topmost value of a stack, which is last
abbrev pub top_of : List Bool → Bool
top_of stack = slice_index_or stack (length stack - 1) false

-- the stack without its topmost value
abbrev pub rest_of : List Bool → List Bool
rest_of stack = take (length stack - 1) stack

-- the locals after an instruction
abbrev pub locals_after : FirstOp → (locals stack : List Bool) → List Bool
locals_after (Load n) locals stack = locals
locals_after (Store n) locals stack = slice_set locals n (top_of stack)
locals_after Text locals stack = locals
locals_after Pop locals stack = locals
locals_after Source locals stack = locals
locals_after Sink locals stack = locals
locals_after Return locals stack = locals

-- the stack after an instruction
abbrev pub stack_after : FirstOp → (locals stack : List Bool) → List Bool
stack_after (Load n) locals stack = stack ++ slice_index_or locals n false ∷ []
stack_after (Store n) locals stack = rest_of stack
stack_after Text locals stack = stack ++ false ∷ []
stack_after Pop locals stack = rest_of stack
stack_after Source locals stack = stack ++ true ∷ []
stack_after Sink locals stack = rest_of stack
stack_after Return locals stack = stack

-- the flags with one more in front, for a sink
abbrev pub with_flag : FirstOp → Bool → List Bool → List Bool
with_flag (Load n) top flags = flags
with_flag (Store n) top flags = flags
with_flag Text top flags = flags
with_flag Pop top flags = flags
with_flag Source top flags = flags
with_flag Sink top flags = top ∷ flags
with_flag Return top flags = flags

-- the flags of the sinks among the instructions, which begin with these truths
abbrev pub flags_from : (locals stack : List Bool) → List FirstInstr → List Bool
flags_from locals stack [] = []
flags_from locals stack (x ∷ xs) = with_flag x.op (top_of stack) (flags_from (locals_after x.op locals stack) (stack_after x.op locals stack) xs)
