-- What it is that a clause lets a spot have a truth.
use Rattle.std.proofs.Common.{◌≡◌, ℕ, zero, suc, ◌<◌, Bool, true, false, refl, sym, ap, ◌∙◌, subst, arith, ⊎_elim}
use Rattle.std.specs.Prelude.{◌||◌, min}
use Rattle.std.proofs.lemmas.Bool.{or_cases, or_left, or_right, false≢true, cases_eq}
use Rattle.ja_facts.specs.Slots.{Slot, Local as InLocal, OnStack as InStack}
use Rattle.ja_facts.specs.Formulas.{Assignment, Implies, any_below, any_stacked}
use Rattle.ja_work.specs.declared.clause.Spot.{Spot}
use Rattle.ja_work.specs.Clauses.{value, spot_of, fits_as, fits, constant, moved, at_most}

-- exactly where a bound is
pub exact_fits : (p t : Bool) → t ≡ p → fits_as true p t ≡ true
exact_fits true true e = refl
exact_fits true false e = absurd (cc)
exact_fits false true e = absurd (cc)
exact_fits false false e = refl

pub fits_exact : (p t : Bool) → fits_as true p t ≡ true → t ≡ p
fits_exact true true e = refl
fits_exact true false e = absurd (cc)
fits_exact false true e = absurd (cc)
fits_exact false false e = refl

-- at most where it is
pub implied_fits : (p t : Bool) → Implies t p → fits_as false p t ≡ true
implied_fits true t i = refl
implied_fits false true i = i refl
implied_fits false false i = refl

pub fits_implied : (p t : Bool) → fits_as false p t ≡ true → Implies t p
fits_implied true t e is = refl
fits_implied false true e is = e
fits_implied false false e is = is

-- with no count of values on the stack, the bound is what is left
pub or_false : (p : Bool) → (p || false) ≡ p
or_false true = refl
or_false false = refl

pub or_true : (p : Bool) → (p || true) ≡ true
or_true true = refl
or_true false = refl

pub any_one : (b : Assignment) (u : ℕ) → any_stacked b u 1 ≡ b.slot (InStack u)
any_one b u = ap (λ n. b.slot (InStack n)) (omega arith)

pub value_spot : (b : Assignment) (y : Slot) → value b (spot_of y) ≡ b.slot y
value_spot b (InLocal l) = refl
value_spot b (InStack k) = refl

pub moved_fits : (b : Assignment) (s : Spot) (t : Bool) → t ≡ value b s → fits (moved s) b t ≡ true
moved_fits b s t e = exact_fits (value b s || false) t (e ∙ sym (or_false (value b s)))

pub fits_moved : (b : Assignment) (s : Spot) (t : Bool) → fits (moved s) b t ≡ true → t ≡ value b s
fits_moved b s t f = fits_exact (value b s || false) t f ∙ or_false (value b s)

pub constant_fits : (c : Bool) (b : Assignment) (t : Bool) → t ≡ c → fits (constant c) b t ≡ true
constant_fits c b t e = exact_fits (c || false) t (e ∙ sym (or_false c))

pub fits_constant : (c : Bool) (b : Assignment) (t : Bool) → fits (constant c) b t ≡ true → t ≡ c
fits_constant c b t f = fits_exact (c || false) t f ∙ or_false c

pub at_most_fits : (b : Assignment) (s : Spot) (t : Bool) → Implies t (value b s) → fits (at_most s) b t ≡ true
at_most_fits b s t i = implied_fits (value b s || false) t (λ e. or_left (value b s) false (i e))

pub fits_at_most : (b : Assignment) (s : Spot) (t : Bool) → fits (at_most s) b t ≡ true → Implies t (value b s)
fits_at_most b s t f e = sym (or_false (value b s)) ∙ fits_implied (value b s || false) t f e

-- some of the first so many passes a test
pub any_some : (test : ℕ → Bool) (n : ℕ) → any_below test n ≡ true → (k : ℕ) × (k < n) × (test k ≡ true)
any_some test zero e = absurd (false≢true e)
any_some test (suc n) e = ⊎_elim
    (λ l. let r = any_some test n l in (r.0, omega arith, r.2))
    (λ h. (n, omega arith, h))
    (or_cases (any_below test n) (test n) e)

pub some_any : (test : ℕ → Bool) (n k : ℕ) → k < n → test k ≡ true → any_below test n ≡ true
some_any test zero k lt e = absurd (omega arith)
some_any test (suc n) k lt e = ⊎_elim
    (λ same. or_right (any_below test n) (test n) (subst (λ j. test j ≡ true) same e))
    (λ other. or_left (any_below test n) (test n) (some_any test n k (omega arith) e))
    (cases_eq k n)

-- the sum of a bound for a first value and for more values
pub any_first : (test : ℕ → Bool) (n : ℕ) → any_below test (min 1 n) ≡ true → any_below test n ≡ true
any_first test zero e = e
any_first test (suc n) e = let r = any_some test (min 1 (suc n)) e in some_any test (suc n) r.0 (omega arith) r.2
