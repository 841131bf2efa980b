-- Counts of members.
use Rattle.std.specs.Prelude.{ℕ, ◌≤◌, ◌^◌, List, length, sum_by}
use Rattle.ja_ir.specs.declared.head.ClassHead.{ClassHead}
use Rattle.ja_hier.specs.declared.starts.Member.{Member}
use Rattle.ja_hier.specs.declared.starts.Member.TheVariants.{Field, Method}
use Rattle.ja_base.specs.Limit.{max_numbered}

-- how many members of a kind a class declares
abbrev pub count_of : Member → ClassHead → ℕ
count_of Field head = length head.fields
count_of Method head = length head.methods

-- no more classes, fields and methods than can be numbered
pub record IsNumbered (heads : List ClassHead) : Type 0 where
  pub classes : length heads ≤ max_numbered
  pub fields : sum_by (count_of Field) heads ≤ max_numbered
  pub methods : sum_by (count_of Method) heads ≤ max_numbered
