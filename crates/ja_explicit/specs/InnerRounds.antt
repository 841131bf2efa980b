-- What facts in words tell, and what lists of them keep while the equations are solved.
use Rattle.std.specs.Prelude.{◌≡◌, ℕ, ◌+◌, ◌-◌, ◌<◌, ◌==◌, ◌&&◌, nat_lt, Bool, true, false, List, [], ◌∷◌, Option, Some, None, Contains, length, slice_get, if◌then◌else◌}
use Rattle.std.specs.List.{list_any}
use Rattle.ja_ir.specs.declared.program.Parts.{Parts}
use Rattle.ja_ir.specs.declared.method.Method.{Method}
use Rattle.ja_ir.specs.declared.method.Instr.{Instr}
use Rattle.ja_ir.specs.declared.entry.Site.{Site}
use Rattle.ja_ir.specs.declared.op.Op.{Op}
use Rattle.ja_ir.specs.declared.op.Op.TheVariants.{Call}
use Rattle.ja_ir.specs.Operations.{arguments}
use Rattle.ja_facts.specs.declared.facts.Facts.{Facts}
use Rattle.ja_facts.specs.Held.{Cell, OfField, OfBag}
use Rattle.ja_facts.specs.Slots.{argument}
use Rattle.ja_facts.specs.Formulas.{Assignment}
use Rattle.ja_facts.specs.Equations as equations
use Rattle.ja_facts.specs.Equations.{Fact}
use Rattle.ja_explicit.specs.declared.item.Item.{Item}
use Rattle.ja_explicit.specs.declared.item.Item.TheVariants.{Context, At, Normal, Threw, Stored}
use Rattle.ja_explicit.specs.Given.{Taints}
use Rattle.ja_explicit.specs.InnerWords.{says}
use Rattle.ja_explicit.specs.InnerSteps.{follows}
use Rattle.ja_explicit.specs.InnerStarts.{enters_each}

-- the assignment that a word says of a method, if there is one
abbrev pub says_in : Option Method → (word : ℕ) → Assignment
says_in None word = record { slot = λ z. false; dirt = false; exc = false }
says_in (Some method) word = says method word

abbrev pub says_of : Parts → (m word : ℕ) → Assignment
says_of p m word = says_in (slice_get p.methods m) word

-- the cell of a number
abbrev pub cell_of : Parts → ℕ → Cell
cell_of p n = if nat_lt n (length p.fields) then OfField n else OfBag (n - length p.fields)

-- the fact that is meant
abbrev pub meant : Parts → Item → Fact
meant p (Context m a) = equations.Context m (says_of p m a)
meant p (At m i a b) = equations.At m i (says_of p m a) (says_of p m b)
meant p (Normal m a result dirt) = equations.Normal m (says_of p m a) (record { result = result; dirt = dirt; exc = false })
meant p (Threw m a dirt exc) = equations.Threw m (says_of p m a) (record { result = false; dirt = dirt; exc = exc })
meant p (Stored cell) = equations.Stored (cell_of p cell)

-- the fact is one of the least solution
abbrev pub IsTold : Parts → Facts → Item → Type 0
IsTold p f x = Taints p f (meant p x)

-- each of these facts is one of the least solution
abbrev pub IsSound : Parts → Facts → List Item → Type 0
IsSound p f items = (x : Item) → Contains items x → Taints p f (meant p x)

-- each of the one list is in the other
abbrev pub AreAllIn : (items more : List Item) → Type 0
AreAllIn items more = (x : Item) → Contains more x → Contains items x

-- what follows of the first so many facts is there
abbrev pub AreSettledBelow : Parts → Facts → List Item → (count : ℕ) → Type 0
AreSettledBelow p f items count = (j : ℕ) (x : Item) → j < count → slice_get items j ≡ Some x → AreAllIn items (follows p f items x)

-- whatever follows is there
pub record IsClosed (p : Parts) (f : Facts) (items : List Item) : Type 0 where
  pub starts : AreAllIn items (enters_each p f items p.entries)
  pub each : (x : Item) → Contains items x → AreAllIn items (follows p f items x)

-- an argument of one of these positions is true
abbrev pub some_position : Assignment → (under : ℕ) → List ℕ → Bool
some_position b under positions = list_any (λ k. b.slot (argument under k)) positions

abbrev pub warns_at_op : Op → (height : ℕ) → Assignment → List ℕ → Bool
warns_at_op (Call call) height b positions = some_position b (height - arguments call) positions
warns_at_op op height b positions = false

-- a word before a site's call makes one of its positions true
abbrev pub warns_in_code : Method → Option Instr → (word : ℕ) → List ℕ → Bool
warns_in_code method None word positions = false
warns_in_code method (Some instr) word positions = warns_at_op instr.op instr.height (says method word) positions

abbrev pub warns_in : Option Method → (i word : ℕ) → List ℕ → Bool
warns_in None i word positions = false
warns_in (Some method) i word positions = warns_in_code method (slice_get method.code i) word positions

-- a fact warns a site
abbrev pub warns : Parts → Site → Item → Bool
warns p site (At m i a b) = (m == site.method.0) && ((i == site.index) && warns_in (slice_get p.methods m) i b site.positions)
warns p site (Context m a) = false
warns p site (Normal m a result dirt) = false
warns p site (Threw m a dirt exc) = false
warns p site (Stored cell) = false

-- some fact does
abbrev pub is_warned : Parts → List Item → Site → Bool
is_warned p items site = list_any (warns p site) items
