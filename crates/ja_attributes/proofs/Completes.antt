-- A part that is read step by step: what is left of it completes the whole.
use Rattle.std.proofs.Common.{◌≡◌, ℕ, suc, inl, inr, List, [], ◌∷◌, ◌++◌, refl, sym, subst, append_assoc}
use Rattle.std.proofs.lemmas.List.{append-nil}
use Rattle.ja_bytes.specs.Reading.{Reading}
use Rattle.ja_attributes.specs.Part.{Part, ◌>>=◌, times, fold}

-- Of a part that began at a reading, this part is left at another one. The value of the whole is seen in that of the rest.
pub record Completes {F A B : Type 0} (view : A → B) (whole : Part F B) (old : Reading) (left : Part F A) (now : Reading) : Type 0 where
  pub passes : (a : A) (new : Reading) → left.passes now a new → whole.passes old (view a) new
  pub fault : (f : F) → left.fault now f → whole.fault old f

pub begin : {F A : Type 0} (whole : Part F A) (old : Reading) → Completes (λ (a : A). a) whole old whole old
begin whole old = record { passes = λ a new p. p; fault = λ f h. h }

module _ {F A B C : Type 0} (view : A → B) (whole : Part F B) (old : Reading) (first : Part F C) (second : C → Part F A) (now : Reading) where
  -- one step
  pub step : Completes view whole old (first >>= second) now → (c : C) (mid : Reading) → first.passes now c mid → Completes view whole old (second c) mid
  step left c mid p = record {
    passes = λ a new q. left.passes a new (c, mid, p, q);
    fault = λ f h. left.fault f (inr (c, mid, p, h));
  }

  -- a step that fails
  pub stop : Completes view whole old (first >>= second) now → (f : F) → first.fault now f → whole.fault old f
  stop left f h = left.fault f (inl h)

pub fold_start : {F S : Type 0} (next : S → Part F S) (count n : ℕ) (s : S) (old : Reading) → n ≡ count → Completes (λ (t : S). t) (fold next count s) old (fold next n s) old
fold_start {S} next count n s old e = subst (λ (k : ℕ). Completes (λ (t : S). t) (fold next count s) old (fold next k s) old) (sym e) (begin (fold next count s) old)

module _ {F S B : Type 0} (view : S → B) (whole : Part F B) (old : Reading) (next : S → Part F S) (now : Reading) where
  -- one step of a fold, of which n steps are left
  pub fold_step : (n m : ℕ) (s : S) → n ≡ suc m → Completes view whole old (fold next n s) now → (t : S) (mid : Reading) → (next s).passes now t mid
      → Completes view whole old (fold next m t) mid
  fold_step n m s e left t mid p =
      step view whole old (next s) (fold next m) now (subst (λ (k : ℕ). Completes view whole old (fold next k s) now) e left) t mid p

  pub fold_stop : (n m : ℕ) (s : S) → n ≡ suc m → Completes view whole old (fold next n s) now → (f : F) → (next s).fault now f → whole.fault old f
  fold_stop n m s e left f h =
      stop view whole old (next s) (fold next m) now (subst (λ (k : ℕ). Completes view whole old (fold next k s) now) e left) f h

  pub fold_done : (n : ℕ) (s : S) → n ≡ 0 → Completes view whole old (fold next n s) now → whole.passes old (view s) now
  fold_done n s e left = (subst (λ (k : ℕ). Completes view whole old (fold next k s) now) e left).passes s now (refl, refl)

-- ---- one part many times

pub times_start : {F A : Type 0} (part : Part F A) (count n : ℕ) (old : Reading) → n ≡ count → Completes (λ (others : List A). [] ++ others) (times count part) old (times n part) old
times_start {A} part count n old e =
    subst (λ (k : ℕ). Completes (λ (others : List A). [] ++ others) (times count part) old (times k part) old) (sym e) (record { passes = λ a new p. p; fault = λ f h. h })

module _ {F A : Type 0} (part : Part F A) (whole : Part F (List A)) (old now : Reading) (before : List A) where
  abbrev Left : List A → ℕ → Reading → Type 0
  Left items n at = Completes (λ (others : List A). items ++ others) whole old (times n part) at

  pub times_step : (n m : ℕ) → n ≡ suc m → Left before n now → (a : A) (mid : Reading) → part.passes now a mid → Left (before ++ a ∷ []) m mid
  times_step n m e left a mid p =
      let here = subst (λ (k : ℕ). Left before k now) e left in
      record {
        passes = λ others new q. subst (λ (t : List A). whole.passes old t new) (sym (append_assoc before (a ∷ []) others)) (here.passes (a ∷ others) new (a, mid, p, (others, new, q, (refl, refl))));
        fault = λ f h. here.fault f (inr (a, mid, p, inl h));
      }

  pub times_stop : (n m : ℕ) → n ≡ suc m → Left before n now → (f : F) → part.fault now f → whole.fault old f
  times_stop n m e left f h = (subst (λ (k : ℕ). Left before k now) e left).fault f (inl h)

  pub times_done : (n : ℕ) → n ≡ 0 → Left before n now → whole.passes old before now
  times_done n e left =
      subst (λ (t : List A). whole.passes old t now) (append-nil before) ((subst (λ (k : ℕ). Left before k now) e left).passes [] now (refl, refl))
