-- How many things classes declare, by the bytes of their files.
use Rattle.std.specs.Prelude.{ℕ, ◌≤◌, List, length, sum_by}
use Rattle.ja_class.specs.Meaning.{ClassSpelled}
use Rattle.ja_hier.specs.declared.starts.Member.TheVariants.{Field, Method}
use Rattle.ja_hier.specs.Members.{count_of}
use Rattle.ja_lower.specs.Program.{heads_of, instruction_count}

-- no more classes, fields, methods and instructions than bytes
pub record AreWithin (spelled : List ClassSpelled) (bytes : ℕ) : Type 0 where
  pub classes : length (heads_of spelled) ≤ bytes
  pub fields : sum_by (count_of Field) (heads_of spelled) ≤ bytes
  pub methods : sum_by (count_of Method) (heads_of spelled) ≤ bytes
  pub instructions : instruction_count spelled ≤ bytes
