-- Empty tables have a set for each instruction.
use Rattle.std.proofs.Common.{◌≡◌, ℕ, ◌<◌, Bool, false, List, [], Some, sym, ap, ◌∙◌, subst, arith, length, map, replicate}
use Rattle.std.specs.Prelude.{Option, option_map, slice_get, slice_index_or}
use Rattle.std.proofs.lemmas.Option.{get_or_from_slice_get, slice_get-map}
use Rattle.std.proofs.lemmas.List.{get_or-replicate}
use Rattle.std.proofs.Math.ListN.{length-replicate}
use Rattle.ja_ir.specs.declared.program.Parts.{Parts}
use Rattle.ja_ir.specs.declared.method.Method.{Method}
use Rattle.ja_facts.specs.declared.facts.Facts.{Facts}
use Rattle.ja_facts.specs.FactTables.{name_count, live_count, no_pairs, no_pairs_of, no_reach_of, empty_pairs, empty_reach}
use Rattle.ja_work.specs.Told.{set_at}
use Rattle.ja_clauses.specs.Tables.{HasSet, AreShaped}

-- so many equal rows of sets for each method
module _ (p : Parts) (row : Method → List (List (List Bool))) (sets : List (List (List (List Bool)))) (same : sets ≡ map row p.methods) (m i : ℕ) (method : Method) (found : slice_get p.methods m ≡ Some method) where
  row_found : slice_index_or sets m [] ≡ row method
  row_found =
      ap (λ s. slice_index_or s m []) same
      ∙ get_or_from_slice_get (map row p.methods) m (row method) [] (slice_get-map row p.methods m ∙ ap (option_map row) found)

  pub set_of_row : (count n : ℕ) → row method ≡ replicate count (no_pairs n) → i < count → HasSet sets m i n
  set_of_row count n is lt = record {
    there = let e : length (slice_index_or sets m []) ≡ count = ap length (row_found ∙ is) ∙ length-replicate count (no_pairs n) in omega arith;
    counted = ap length (ap (λ r. slice_index_or r i []) (row_found ∙ is) ∙ get_or-replicate count i (no_pairs n) [] lt) ∙ length-replicate n (replicate n false);
  }

pub empty_shaped : (p : Parts) (f : Facts) → f.pairs ≡ empty_pairs p → f.reach ≡ empty_reach p → AreShaped p f
empty_shaped p f pairs reach = record {
  pairs = λ m i method found lt. set_of_row p no_pairs_of f.pairs pairs m i method found (length method.code) (name_count method) (λ j. no_pairs_of method) lt;
  reach = λ m i method found lt. set_of_row p no_reach_of f.reach reach m i method found (length method.code) (live_count method) (λ j. no_reach_of method) lt;
}
