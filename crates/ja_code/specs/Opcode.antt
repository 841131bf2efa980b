-- The operands that each opcode takes (JVM specification, 6.5), and the opcodes that are refused.
use Rattle.std.specs.Prelude.{ℕ, List, [], ◌∷◌, Option, Some, None, Bool, nat_le, ◌==◌, ◌||◌, if◌then◌else◌}
use Rattle.ja_code.specs.Number.{jsr, ret, invokedynamic, jsr_w}
use Rattle.ja_code.specs.declared.form.Entry.TheVariants.{Loadable, TwoWord, Field, Method, AnyMethod, Class}
use Rattle.ja_code.specs.declared.form.Form.{Form}
use Rattle.ja_code.specs.declared.form.Form.TheVariants.{Plain, Byte, Short, Local, Increment, ByteIndex, Index, Interface, Dynamic, ArrayType, Dimensions, Branch, FarBranch, TableSwitch, LookupSwitch, Wide}

-- the opcodes that the analyser refuses: subroutines and dynamic calls
abbrev pub is_refused : ℕ → Bool
is_refused op = op == jsr || op == ret || op == invokedynamic || op == jsr_w

-- the last of a run of opcodes, and their form
pub record Run : Type 0 where
  pub last : ℕ
  pub form : Form

abbrev pub run : ℕ → Form → Run
run last form = record { last = last; form = form }

-- the opcodes in runs of one form each
abbrev pub runs : List Run
runs =
    run 15 Plain ∷ run 16 Byte ∷ run 17 Short ∷ run 18 ByteIndex ∷ run 19 (Index Loadable) ∷ run 20 (Index TwoWord)
    ∷ run 25 Local ∷ run 53 Plain ∷ run 58 Local ∷ run 131 Plain ∷ run 132 Increment ∷ run 152 Plain
    ∷ run 168 Branch ∷ run 169 Local ∷ run 170 TableSwitch ∷ run 171 LookupSwitch ∷ run 177 Plain
    ∷ run 181 (Index Field) ∷ run 182 (Index Method) ∷ run 184 (Index AnyMethod) ∷ run 185 Interface ∷ run 186 Dynamic
    ∷ run 187 (Index Class) ∷ run 188 ArrayType ∷ run 189 (Index Class) ∷ run 191 Plain ∷ run 193 (Index Class)
    ∷ run 195 Plain ∷ run 196 Wide ∷ run 197 Dimensions ∷ run 199 Branch ∷ run 201 FarBranch ∷ []

-- the form of the run that an opcode lies in
abbrev pub form_in : List Run → ℕ → Option Form
form_in [] op = None
form_in (r ∷ rs) op = if nat_le op r.last then Some r.form else form_in rs op

-- the form of an opcode; none above 201
unfoldable pub form_at : ℕ → Option Form
form_at op = form_in runs op
