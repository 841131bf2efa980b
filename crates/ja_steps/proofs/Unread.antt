-- A normal end at which nothing true is read of a field.
use Rattle.std.proofs.Common.{◌≡◌, ℕ, ◌-◌, Bool, true, false, refl, ap, ◌∙◌, subst, arith}
use Rattle.std.specs.Prelude.{nat_lt, if◌then◌else◌}
use Rattle.std.proofs.lemmas.Bool.{lt-ltb, le-ltb, eq-eqb, eqb-true}
use Rattle.ja_ir.specs.declared.op.Op.{Op}
use Rattle.ja_ir.specs.declared.op.Op.TheVariants.{GetField, GetStatic}
use Rattle.ja_ir.specs.Operations.{FindsOperands, height_after}
use Rattle.ja_facts.specs.Slots.{Slot, OnStack as InStack}
use Rattle.ja_facts.specs.Formulas.{Assignment}
use Rattle.ja_facts.specs.Equations.{Reads, reads_field, reads_static}
use Rattle.ja_work.specs.declared.clause.Spot.{Spot}
use Rattle.ja_work.specs.declared.clause.Spot.TheVariants.{OnStack}
use Rattle.ja_work.specs.Clauses.{value, bound, fits_as, fits, AllFit, never, at_most, anything}
use Rattle.ja_work.specs.Ends.{Tests, stacked_after, normal_clauses}
use Rattle.ja_work.proofs.Fitting.{constant_fits, fits_constant}
use Rattle.ja_steps.specs.Ends.{is_read, unread_clauses}

at_most_false : (p : Bool) → fits_as false p false ≡ true
at_most_false true = refl
at_most_false false = refl

read_slot : (op : Op) (height f : ℕ) (r : Slot) → Reads op height f r → (k : ℕ) × (r ≡ InStack k) × (is_read op height (OnStack k) ≡ true)
read_slot _ h _ _ (reads_field {k = k} e) = (k, refl, eq-eqb k (h - 1) (omega (arith, e)))
read_slot _ h _ _ reads_static = (h, refl, eq-eqb h h refl)

module _ (tests : Tests) (height : ℕ) (b : Assignment) where
  -- what is read may be false
  read_false : (op : Op) (s : Spot) → FindsOperands op height → is_read op height s ≡ true → fits (normal_clauses tests op height s) b false ≡ true
  read_false (GetField f) (OnStack k) finds e =
      let is : k ≡ height - 1 = eqb-true k (height - 1) e in
      ap (λ x. fits (stacked_after x (nat_lt k (height_after (GetField f) height)) tests (GetField f) height k) b false) (le-ltb k (height - 1) (omega (arith, is)))
      ∙ ap (λ x. fits (stacked_after false x tests (GetField f) height k) b false) (lt-ltb k (height_after (GetField f) height) (omega (arith, is)))
      ∙ at_most_false (bound (at_most (OnStack (height - 1))) b)
  read_false (GetStatic f) (OnStack k) finds e =
      let is : k ≡ height = eqb-true k height e in
      ap (λ x. fits (stacked_after x (nat_lt k (height_after (GetStatic f) height)) tests (GetStatic f) height k) b false) (le-ltb k (height - 0) (omega (arith, is)))
      ∙ ap (λ x. fits (stacked_after false x tests (GetStatic f) height k) b false) (lt-ltb k (height_after (GetStatic f) height) (omega (arith, is)))
      ∙ at_most_false (bound anything b)
  read_false op s finds e = absurd (cc e)

  module _ (op : Op) (after : Assignment) (finds : FindsOperands op height) where
    -- what is read is what the equations say
    read_there : (f : ℕ) (r : Slot) → Reads op height f r → (k : ℕ) × (r ≡ InStack k) × (is_read op height (OnStack k) ≡ true)
    read_there f r reads = read_slot op height f r reads

    pub unread_normal : AllFit (unread_clauses tests op height) b after → AllFit (normal_clauses tests op height) b after × ((f : ℕ) (r : Slot) → Reads op height f r → after.slot r ≡ false)
    unread_normal all = (
      (λ s. by_test s (is_read op height s) refl (all s)),
      (λ f r reads. let x = read_there f r reads in
          ap after.slot x.1 ∙ fits_constant false b (after.slot (InStack x.0)) (subst (λ c. fits (if c then never else normal_clauses tests op height (OnStack x.0)) b (after.slot (InStack x.0)) ≡ true) x.2 (all (OnStack x.0)))),
    )
      where
        by_test : (s : Spot) (c : Bool) → is_read op height s ≡ c → fits (if c then never else normal_clauses tests op height s) b (value after s) ≡ true → fits (normal_clauses tests op height s) b (value after s) ≡ true
        by_test s true e fit = ap (fits (normal_clauses tests op height s) b) (fits_constant false b (value after s) fit) ∙ read_false op s finds e
        by_test s false e fit = fit

    -- and what the equations say is read
    there_read : (o : Op) (s : Spot) → FindsOperands o height → is_read o height s ≡ true → (f : ℕ) × (r : Slot) × Reads o height f r × (value after s ≡ after.slot r)
    there_read (GetField f) (OnStack k) finds' e = let is = eqb-true k (height - 1) e in (f.0, InStack k, reads_field (omega (arith, is, finds')), refl)
    there_read (GetStatic f) (OnStack k) finds' e = let is = eqb-true k height e in (f.0, InStack height, reads_static, ap (λ x. after.slot (InStack x)) is)
    there_read o s finds' e = absurd (cc e)

    pub normal_unread : AllFit (normal_clauses tests op height) b after × ((f : ℕ) (r : Slot) → Reads op height f r → after.slot r ≡ false) → AllFit (unread_clauses tests op height) b after
    normal_unread (all, quiet) s = by_test (is_read op height s) refl
      where
        by_test : (c : Bool) → is_read op height s ≡ c → fits (if c then never else normal_clauses tests op height s) b (value after s) ≡ true
        by_test true e = let x = there_read op s finds e in constant_fits false b (value after s) (x.3 ∙ quiet x.0 x.1 x.2)
        by_test false e = all s
