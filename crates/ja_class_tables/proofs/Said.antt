-- Numbers that say targets, one more.
use Rattle.std.proofs.Common.{◌≡◌, ℕ, ◌+◌, ◌<◌, ◌≤◌, List, [], ◌∷◌, ◌++◌, Some, length, get_or, refl, sym, subst, arith}
use Rattle.std.specs.Prelude.{slice_get}
use Rattle.std.proofs.lemmas.List.{get_or_past}
use Rattle.std.proofs.lemmas.Option.{get_or_from_slice_get}
use Rattle.ja_facts.specs.declared.targets.Targets.{Targets}
use Rattle.ja_facts.specs.FactTables.{no_targets}
use Rattle.ja_class_tables.specs.InnerPool.{Grows}
use Rattle.ja_class_tables.specs.InnerNotes.{IsInOrder, IsSaid, nowhere, somewhere, AreTargets, AreAllTargets}
use Rattle.ja_class_tables.proofs.Rows.{below-push, below-all}

-- a pool that grows says the same
said-on : (old new : List Targets) (noted : Targets) (number : ℕ) → Grows old new → IsSaid old noted number → IsSaid new noted number
said-on old new noted number grows (nowhere zero order) = nowhere zero order
said-on old new noted number grows (somewhere place targets is found order) = somewhere place targets is (grows.kept place targets found) order

none-in-order : (noted : Targets) → noted ≡ no_targets → IsInOrder noted no_targets
none-in-order noted none = subst (λ (t : Targets). IsInOrder t no_targets) (sym none) (record {
  methods = λ n. (λ h. h, λ h. h);
  ascending = λ i j d le lt. absurd (omega arith);
  library = refl;
})

pub targets-more : (old new noted : List Targets) (i : ℕ) (targets : Targets) (row next : List ℕ) (number : ℕ) → slice_get noted i ≡ Some targets → length row ≡ i → Grows old new
    → ((b : ℕ) → b < i → IsSaid old (get_or noted b no_targets) (get_or row b 0)) → IsSaid new targets number → next ≡ row ++ number ∷ []
    → (b : ℕ) → b < i + 1 → IsSaid new (get_or noted b no_targets) (get_or next b 0)
targets-more old new noted i targets row next number at size grows below here is =
    below-push (λ b (n : ℕ). IsSaid new (get_or noted b no_targets) n) 0 row next number i size (λ b lt. said-on old new (get_or noted b no_targets) (get_or row b 0) grows (below b lt))
    (subst (λ (t : Targets). IsSaid new t number) (sym (get_or_from_slice_get noted i targets no_targets at)) here) is

pub targets-all : (pool noted : List Targets) (i : ℕ) (row : List ℕ) → length row ≡ i → length noted ≤ i → ((b : ℕ) → b < i → IsSaid pool (get_or noted b no_targets) (get_or row b 0)) → AreTargets pool noted row
targets-all pool noted i row size all below = record {
  each = below-all (λ b (n : ℕ). IsSaid pool (get_or noted b no_targets) n) 0 row i size below
      (λ b le. nowhere refl (none-in-order (get_or noted b no_targets) (get_or_past noted b no_targets (omega arith))));
}

no-targets : (pool : List Targets) → AreTargets pool [] []
no-targets pool = record { each = λ i. nowhere refl (none-in-order no_targets refl) }

targets-on : (old new noted : List Targets) (row : List ℕ) → Grows old new → AreTargets old noted row → AreTargets new noted row
targets-on old new noted row grows are = record { each = λ i. said-on old new (get_or noted i no_targets) (get_or row i 0) grows (are.each i) }

pub all-targets-more : (old new : List Targets) (noted : List (List Targets)) (m : ℕ) (targets : List Targets) (table next : List (List ℕ)) (row : List ℕ) → slice_get noted m ≡ Some targets → length table ≡ m → Grows old new
    → ((a : ℕ) → a < m → AreTargets old (get_or noted a []) (get_or table a [])) → AreTargets new targets row → next ≡ table ++ row ∷ []
    → (a : ℕ) → a < m + 1 → AreTargets new (get_or noted a []) (get_or next a [])
all-targets-more old new noted m targets table next row at size grows below here is =
    below-push (λ a (r : List ℕ). AreTargets new (get_or noted a []) r) [] table next row m size (λ a lt. targets-on old new (get_or noted a []) (get_or table a []) grows (below a lt))
    (subst (λ (t : List Targets). AreTargets new t row) (sym (get_or_from_slice_get noted m targets [] at)) here) is

pub all-targets : (pool : List Targets) (noted : List (List Targets)) (m : ℕ) (table : List (List ℕ)) → length table ≡ m → length noted ≤ m → ((a : ℕ) → a < m → AreTargets pool (get_or noted a []) (get_or table a [])) → AreAllTargets pool noted table
all-targets pool noted m table size all below = record {
  each = below-all (λ a (r : List ℕ). AreTargets pool (get_or noted a []) r) [] table m size below
      (λ a le. subst (λ (t : List Targets). AreTargets pool t []) (sym (get_or_past noted a [] (omega arith))) (no-targets pool));
}
