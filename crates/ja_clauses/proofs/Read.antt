-- What is read of tables before an instruction.
use Rattle.std.proofs.Common.{◌≡◌, ℕ, ◌+◌, ◌<◌, ◌≤◌, Bool, List, [], Some, sym, ap, ◌∙◌, subst, length}
use Rattle.std.specs.Prelude.{slice_get, slice_index_or}
use Rattle.std.specs.List.{list_any}
use Rattle.std.proofs.lemmas.Option.{get_or_from_slice_get, slice_get_within}
use Rattle.ja_ir.specs.declared.program.Parts.{Parts}
use Rattle.ja_ir.specs.declared.method.Method.{Method}
use Rattle.ja_ir.specs.Lookup.{code_of}
use Rattle.ja_ir.specs.Whole.{IsWhole}
use Rattle.ja_facts.specs.declared.facts.Facts.{Facts}
use Rattle.ja_facts.specs.declared.targets.Targets.{Targets}
use Rattle.ja_facts.specs.FactTables.{targets_at, name_count, live_count}
use Rattle.ja_work.specs.Told.{set_at, has_slots, lacks_code, tests_of}
use Rattle.ja_clauses.specs.declared.before.Before.{Before}
use Rattle.ja_clauses.specs.Tables.{AreShaped, IsBefore, tests_by}

-- a set that was found in its place
pub set_found : (sets : List (List (List (List Bool)))) (m i : ℕ) (set : List (List Bool)) → slice_get (slice_index_or sets m []) i ≡ Some set → set_at sets m i ≡ set
set_found sets m i set e = get_or_from_slice_get (slice_index_or sets m []) i set [] e

module _ (p : Parts) (f : Facts) (m i : ℕ) (method : Method) (shaped : AreShaped p f) (found : slice_get p.methods m ≡ Some method) (lt : i < length (code_of (slice_get p.methods m))) where
  within : i < length method.code
  within = subst (λ o. i < length (code_of o)) found lt

  pub pairs_there : i < length (slice_index_or f.pairs m [])
  pairs_there = (shaped.pairs m i method found within).there

  pub reach_there : i < length (slice_index_or f.reach m [])
  reach_there = (shaped.reach m i method found within).there

  pub pairs_counted : (set : List (List Bool)) → slice_get (slice_index_or f.pairs m []) i ≡ Some set → length set ≡ name_count method
  pairs_counted set e = ap length (sym (set_found f.pairs m i set e)) ∙ (shaped.pairs m i method found within).counted

  pub reach_counted : (set : List (List Bool)) → slice_get (slice_index_or f.reach m []) i ≡ Some set → length set ≡ live_count method
  reach_counted set e = ap length (sym (set_found f.reach m i set e)) ∙ (shaped.reach m i method found within).counted

-- each frame of a program is small
pub frame_small : (p : Parts) (m : ℕ) (method : Method) → IsWhole p → slice_get p.methods m ≡ Some method → method.locals + method.stack ≤ 512
frame_small p m method whole found =
    let Small : Method → Type 0 = λ x. x.locals + x.stack ≤ 512 in subst Small (get_or_from_slice_get p.methods m method method found) (whole.frames m method (slice_get_within p.methods m method found))

-- a method that was found among those of a program
pub found_in : (p : Parts) (m : ℕ) (methods : List Method) (method : Method) → methods ≡ p.methods → slice_get methods m ≡ Some method → slice_get p.methods m ≡ Some method
found_in p m methods method same e = ap (λ ms. slice_get ms m) (sym same) ∙ e

module _ (p : Parts) (f : Facts) (m i : ℕ) (before : Before) where
  pub before_made : (methods : List Method) (targets : Targets) → methods ≡ p.methods → targets ≡ targets_at f.graph m i → slice_get methods m ≡ Some before.method.now
      → slice_get (slice_index_or f.pairs m []) i ≡ Some before.pairs.now → slice_get (slice_index_or f.reach m []) i ≡ Some before.reach.now
      → before.is_abstract ≡ list_any (λ n. lacks_code (slice_get methods n)) targets.methods → before.is_library ≡ targets.library → IsBefore p f m i before
  before_made methods targets same at method pairs reach abstract library = record {
    method = found_in p m methods before.method.now same method;
    pairs = set_found f.pairs m i before.pairs.now pairs;
    reach = set_found f.reach m i before.reach.now reach;
    abstract = sym (abstract ∙ ap (λ ms. list_any (λ n. lacks_code (slice_get ms n)) targets.methods) same ∙ ap (λ (t : Targets). list_any (λ n. lacks_code (slice_get p.methods n)) t.methods) at);
    library = sym (library ∙ ap (λ (t : Targets). t.library) at);
  }

  -- the tests by what was read are those by the tables
  pub same_tests : IsBefore p f m i before → tests_by before ≡ tests_of p f m i
  same_tests is = sym
      (λ j. record {
        reaches = λ y x. has_slots (is.method j) (is.reach j) y x;
        shares = λ y x. has_slots (is.method j) (is.pairs j) y x;
        abstract = is.abstract j;
        library = is.library j;
      })
