-- The clauses of the ends of a method hold exactly where the rules of the equations tell its summaries.
use Rattle.std.proofs.Common.{◌≡◌, ℕ, zero, suc, Bool, true, false, refl, sym, ap, subst, arith, Some, None}
use Rattle.std.specs.Prelude.{nat_eq, if◌then◌else◌}
use Rattle.std.proofs.lemmas.Bool.{ne_eqb}
use Rattle.ja_facts.specs.Slots.{Local as InLocal, OnStack as InStack}
use Rattle.ja_facts.specs.Formulas.{Assignment, Summary}
use Rattle.ja_facts.specs.Equations.{thrown_summary, return_summary}
use Rattle.ja_work.specs.declared.clause.Spot.TheVariants.{Local, OnStack, Dirt, Exc}
use Rattle.ja_work.specs.Clauses.{AllFit, fits, moved, never}
use Rattle.ja_work.specs.Ends.{summary_of}
use Rattle.ja_work.specs.Work.{TellsSummary, end_clauses, leave_clauses}
use Rattle.ja_work.proofs.Fitting.{moved_fits, fits_moved, constant_fits, fits_constant}

-- the parts of a summary
same_summary : (result dirt exc : Bool) (s : Summary) → s.result ≡ result → s.dirt ≡ dirt → s.exc ≡ exc → s ≡ (record { result = result; dirt = dirt; exc = exc })
same_summary result dirt exc s r d e = λ i. record { result = r i; dirt = d i; exc = e i }

module _ (b after : Assignment) where
  -- over the lowest value nothing is told
  upper : ℕ → (j : ℕ) → Bool → Type 0
  upper k j c = fits (if c then moved (OnStack k) else never) b (after.slot (InStack (suc j))) ≡ true

  upper_told : (k j : ℕ) → fits (end_clauses (Some k) (OnStack (suc j))) b (after.slot (InStack (suc j))) ≡ true → after.slot (InStack (suc j)) ≡ false
  unfolding upper
  upper_told k j f = fits_constant false b (after.slot (InStack (suc j))) (subst (upper k j) (ne_eqb (suc j) 0 (λ e. absurd (omega arith))) f)

  told_upper : (k j : ℕ) → after.slot (InStack (suc j)) ≡ false → fits (end_clauses (Some k) (OnStack (suc j))) b (after.slot (InStack (suc j))) ≡ true
  unfolding upper
  told_upper k j f = subst (upper k j) (sym (ne_eqb (suc j) 0 (λ e. absurd (omega arith)))) (constant_fits false b (after.slot (InStack (suc j))) f)

  pub value_told : (k : ℕ) → AllFit (end_clauses (Some k)) b after → TellsSummary after × (summary_of after ≡ return_summary (b.slot (InStack k)) b)
  value_told k all = (
    record { locals = λ l. fits_constant false b (after.slot (InLocal l)) (all (Local l)); stack = λ j. upper_told k j (all (OnStack (suc j))) },
    same_summary (b.slot (InStack k)) b.dirt false (summary_of after) (fits_moved b (OnStack k) (after.slot (InStack 0)) (all (OnStack 0))) (fits_moved b Dirt after.dirt (all Dirt)) (fits_constant false b after.exc (all Exc)),
  )

  pub told_value : (k : ℕ) → TellsSummary after × (summary_of after ≡ return_summary (b.slot (InStack k)) b) → AllFit (end_clauses (Some k)) b after
  told_value k (tells, same) (Local l) = constant_fits false b (after.slot (InLocal l)) (tells.locals l)
  told_value k (tells, same) (OnStack zero) = moved_fits b (OnStack k) (after.slot (InStack 0)) (ap (λ (s : Summary). s.result) same)
  told_value k (tells, same) (OnStack (suc j)) = told_upper k j (tells.stack j)
  told_value k (tells, same) Dirt = moved_fits b Dirt after.dirt (ap (λ (s : Summary). s.dirt) same)
  told_value k (tells, same) Exc = constant_fits false b after.exc (ap (λ (s : Summary). s.exc) same)

  pub nothing_told : AllFit (end_clauses None) b after → TellsSummary after × (summary_of after ≡ return_summary false b)
  nothing_told all = (
    record { locals = λ l. fits_constant false b (after.slot (InLocal l)) (all (Local l)); stack = λ j. fits_constant false b (after.slot (InStack (suc j))) (all (OnStack (suc j))) },
    same_summary false b.dirt false (summary_of after) (fits_constant false b (after.slot (InStack 0)) (all (OnStack 0))) (fits_moved b Dirt after.dirt (all Dirt)) (fits_constant false b after.exc (all Exc)),
  )

  pub told_nothing : TellsSummary after × (summary_of after ≡ return_summary false b) → AllFit (end_clauses None) b after
  told_nothing (tells, same) (Local l) = constant_fits false b (after.slot (InLocal l)) (tells.locals l)
  told_nothing (tells, same) (OnStack zero) = constant_fits false b (after.slot (InStack 0)) (ap (λ (s : Summary). s.result) same)
  told_nothing (tells, same) (OnStack (suc j)) = constant_fits false b (after.slot (InStack (suc j))) (tells.stack j)
  told_nothing (tells, same) Dirt = moved_fits b Dirt after.dirt (ap (λ (s : Summary). s.dirt) same)
  told_nothing (tells, same) Exc = constant_fits false b after.exc (ap (λ (s : Summary). s.exc) same)

  pub thrown_told : AllFit leave_clauses b after → TellsSummary after × (summary_of after ≡ thrown_summary b)
  thrown_told all = (
    record { locals = λ l. fits_constant false b (after.slot (InLocal l)) (all (Local l)); stack = λ j. fits_constant false b (after.slot (InStack (suc j))) (all (OnStack (suc j))) },
    same_summary false b.dirt b.exc (summary_of after) (fits_constant false b (after.slot (InStack 0)) (all (OnStack 0))) (fits_moved b Dirt after.dirt (all Dirt)) (fits_moved b Exc after.exc (all Exc)),
  )

  pub told_thrown : TellsSummary after × (summary_of after ≡ thrown_summary b) → AllFit leave_clauses b after
  told_thrown (tells, same) (Local l) = constant_fits false b (after.slot (InLocal l)) (tells.locals l)
  told_thrown (tells, same) (OnStack zero) = constant_fits false b (after.slot (InStack 0)) (ap (λ (s : Summary). s.result) same)
  told_thrown (tells, same) (OnStack (suc j)) = constant_fits false b (after.slot (InStack (suc j))) (tells.stack j)
  told_thrown (tells, same) Dirt = moved_fits b Dirt after.dirt (ap (λ (s : Summary). s.dirt) same)
  told_thrown (tells, same) Exc = moved_fits b Exc after.exc (ap (λ (s : Summary). s.exc) same)
