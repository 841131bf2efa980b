-- What the plain solver is given: tables of facts for a program, whose frames are narrow.
use Rattle.std.specs.Prelude.{◌≡◌, ℕ, ◌+◌, ◌<◌, ◌≤◌, Some, length, slice_get}
use Rattle.ja_ir.specs.declared.program.Parts.{Parts}
use Rattle.ja_ir.specs.declared.method.Method.{Method}
use Rattle.ja_sets.specs.Sets.{Has}
use Rattle.ja_facts.specs.declared.facts.Facts.{Facts}
use Rattle.ja_facts.specs.Least.{Least}
use Rattle.ja_facts.specs.Equations.{Fact, Rule}
use Rattle.ja_facts.specs.ClassTables.{token_count, thrown_set}
use Rattle.ja_facts.specs.Told.{IsGraphFor}
use Rattle.ja_work.specs.Told.{told}
use Rattle.ja_clauses.specs.Tables.{AreShaped}

-- the tables have the sizes of the program: the call graph is one for it, there are pairs for each instruction and held cells for each token
-- and field, and what is thrown are tokens
pub record AreGiven (p : Parts) (f : Facts) : Type 0 where
  pub graph : IsGraphFor p f.graph
  pub shaped : AreShaped p f
  pub thrown : (m i t : ℕ) → Has (thrown_set f.sets m i) t → t < token_count p
  pub tokens : length f.holds.tokens ≡ token_count p
  pub fields : length f.holds.fields ≡ length p.fields

-- the equations of taint over what tables tell, and their least solution
abbrev pub Taints : Parts → Facts → Fact → Type 0
Taints p f = Least (Rule p (told p f))

-- how many values a frame of the method has
abbrev pub value_count : Method → ℕ
value_count method = method.locals + method.stack

-- the most that are taken
abbrev pub most_values : ℕ
most_values = 10

-- each frame is narrow
abbrev pub AreNarrow : Parts → Type 0
AreNarrow p = (m : ℕ) (method : Method) → slice_get p.methods m ≡ Some method → value_count method ≤ most_values

-- method m is the first whose frame is not, and has so many values
pub record IsFirstWide (p : Parts) (m values : ℕ) : Type 0 where
  pub method : Method
  pub found : slice_get p.methods m ≡ Some method
  pub counted : values ≡ value_count method
  pub wide : most_values < values
  pub first : (n : ℕ) (other : Method) → n < m → slice_get p.methods n ≡ Some other → value_count other ≤ most_values
