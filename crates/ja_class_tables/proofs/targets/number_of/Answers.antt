use Rattle.std.proofs.Common.{◌≡◌, ◌↔◌, ◌∙◌, ◌++◌, ◌∷◌, [], ℕ, List, Some, refl, ap, subst, sym, arith}
use Rattle.std.specs.Prelude.{Contains, slice_get}
use Rattle.ja_facts.specs.declared.targets.Targets.{Targets}
use Rattle.ja_class_tables.specs.InnerNotes.{somewhere}
use Rattle.ja_class_tables.proofs.Pools.{last}
use Rattle.ja_class_tables.proofs.targets.number_of.Goals as goal

pub returns-clause-said : goal.returns-clause-said
returns-clause-said c =
    let old = c.args.pool.now in
    let targets = c.args.targets.now in
    let sorted : Targets = record { methods = c.in_ok-methods.methods; library = targets.library } in
    let place = c.len-place.result in
    let at : slice_get c.push.new.self place ≡ Some sorted =
    ap (λ (ts : List Targets). slice_get ts place) c.in_ok-push.ensures.ok ∙ subst (λ k. slice_get (old ++ sorted ∷ []) k ≡ Some sorted) (sym c.len-place.ensures) (last old sorted) in
    somewhere place sorted (omega arith) at (record {
      methods = subst (λ (ns : List ℕ). (n : ℕ) → Contains c.in_ok-methods.methods n ↔ Contains ns n) c.as_slice.ensures c.in_ok-methods.ensures.same;
      ascending = c.in_ok-methods.ensures.ascending;
      library = refl;
    })
