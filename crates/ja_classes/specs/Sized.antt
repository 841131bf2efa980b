-- The sets of a program: of its tokens, and of its fields alone.
use Rattle.std.specs.Prelude.{◌≡◌, ℕ, ◌<◌, length}
use Rattle.ja_ir.specs.declared.program.Parts.{Parts}
use Rattle.ja_sets.specs.Sets.{Has}
use Rattle.ja_facts.specs.ClassTables.{ClassTable, token_count, slot_set, thrown_set, param_set, result_set, out_set, field_set, bag_set}
use Rattle.ja_facts.specs.FactTables.{GraphTable, takers_at}

-- each set is one of the program's tokens, and only its fields have some
pub record AreSetsFor (p : Parts) (sets : ClassTable) : Type 0 where
  pub slots : (m i z : ℕ) → length (slot_set sets m i z) ≡ token_count p
  pub thrown : (m i : ℕ) → length (thrown_set sets m i) ≡ token_count p
  pub params : (m k : ℕ) → length (param_set sets m k) ≡ token_count p
  pub results : (m : ℕ) → length (result_set sets m) ≡ token_count p
  pub outs : (m : ℕ) → length (out_set sets m) ≡ token_count p
  pub fields : (f : ℕ) → length (field_set sets f) ≡ token_count p
  pub bags : (b : ℕ) → length (bag_set sets b) ≡ token_count p
  pub only_fields : (f t : ℕ) → Has (field_set sets f) t → f < length p.fields

-- each set of takers is one of the program's tokens
pub record AreTakersFor (p : Parts) (graph : GraphTable) : Type 0 where
  pub size : (m i : ℕ) → length (takers_at graph m i) ≡ token_count p
