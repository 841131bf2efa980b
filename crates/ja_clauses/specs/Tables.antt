-- Tables with a place for each instruction of a program, and what is read of them before an instruction.
use Rattle.std.specs.Prelude.{◌≡◌, ℕ, ◌<◌, ◌||◌, ◌&&◌, Bool, List, [], Some, length, slice_get, slice_index_or}
use Rattle.ja_ir.specs.declared.program.Parts.{Parts}
use Rattle.ja_ir.specs.declared.method.Method.{Method}
use Rattle.ja_facts.specs.declared.facts.Facts.{Facts}
use Rattle.ja_facts.specs.Slots as facts
use Rattle.ja_facts.specs.FactTables.{name_count, live_count}
use Rattle.ja_facts.specs.Formulas.{any_below}
use Rattle.ja_work.specs.Ends.{Tests}
use Rattle.ja_work.specs.Told.{number_of, has_numbers, set_at, tests_of, changes_param, changes_statics, has_statics}
use Rattle.ja_clauses.specs.declared.before.Before.{Before}
use Rattle.ja_clauses.specs.declared.through.Through.{Through}

-- there is a set for instruction i of method m, of pairs of numbers below a count
pub record HasSet (sets : List (List (List (List Bool)))) (m i count : ℕ) : Type 0 where
  pub there : i < length (slice_index_or sets m [])
  pub counted : length (set_at sets m i) ≡ count

-- there are pairs of names, and pairs of names that can be reached from, for each instruction of a program
pub record AreShaped (p : Parts) (f : Facts) : Type 0 where
  pub pairs : (m i : ℕ) (method : Method) → slice_get p.methods m ≡ Some method → i < length method.code → HasSet f.pairs m i (name_count method)
  pub reach : (m i : ℕ) (method : Method) → slice_get p.methods m ≡ Some method → i < length method.code → HasSet f.reach m i (live_count method)

-- this is what tables have before instruction i of method m
pub record IsBefore (p : Parts) (f : Facts) (m i : ℕ) (before : Before) : Type 0 where
  pub method : slice_get p.methods m ≡ Some before.method.now
  pub pairs : set_at f.pairs m i ≡ before.pairs.now
  pub reach : set_at f.reach m i ≡ before.reach.now
  pub abstract : (tests_of p f m i).abstract ≡ before.is_abstract
  pub library : (tests_of p f m i).library ≡ before.is_library

-- the tests by what was read
abbrev pub tests_by : Before → Tests
tests_by before = record {
  reaches = λ y x. has_numbers before.reach.now (number_of before.method.now y) (number_of before.method.now x);
  shares = λ y x. has_numbers before.pairs.now (number_of before.method.now y) (number_of before.method.now x);
  abstract = before.is_abstract;
  library = before.is_library;
}

-- whether a way through a method may change a slot, by what was read
abbrev pub affected_by : Through → facts.Slot → Bool
affected_by through y =
    any_below (λ k. changes_param (Some through.callee.now) through.effects.now through.n.0 k && (tests_by through.before).shares y (facts.argument through.under k)) through.count
    || (changes_statics (Some through.callee.now) through.effects.now through.n.0 && has_statics (Some through.before.method.now) through.before.pairs.now y)

-- this is the way through method n which instruction i of method m enters with so many arguments over so many values
pub record IsThrough (p : Parts) (f : Facts) (m i n count under : ℕ) (through : Through) : Type 0 where
  pub before : IsBefore p f m i through.before
  pub callee : slice_get p.methods n ≡ Some through.callee.now
  pub effects : f.effects ≡ through.effects.now
  pub number : n ≡ through.n.0
  pub counted : count ≡ through.count
  pub lies : under ≡ through.under
