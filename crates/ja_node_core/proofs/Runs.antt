-- What holds after every list of events.
use Rattle.std.proofs.Common.{◌≡◌, ◌⊎◌, ℕ, zero, suc, ◌<◌, List, [], ◌∷◌, ◌++◌, length, get_or, set, replicate, refl, sym, ap, ◌∙◌, subst, inl, inr, ⊎_elim, arith, eq-eqb, ne_eqb, length-set, get_or-set_same}
use Rattle.std.specs.Prelude.{slice_index, if◌then◌else◌}
use Rattle.std.proofs.lemmas.List.{get_or-set_other, length-replicate}
use mathlib.Core.Logic.{dite}
use native.Mathlib.Decide.{ℕ_discrete}
use Rattle.ja_node_core.specs.Tree.{Tree}
use Rattle.ja_node_core.specs.Word.{place}
use Rattle.ja_node_core.specs.Node.{Words, IsCanonical}
use Rattle.ja_node_core.specs.Machine.{Known, word_at, learned, AllStand, Actor, gone, active, State, Event, looks, claims, forks, meets, start, IsActive, MayClaim, claimed, seen, Does, Runs}
use Rattle.ja_node_core.proofs.Words.{place_below}
use Rattle.ja_node_core.proofs.Claims.{IsWritten, stays, claim_keeps}
use Rattle.ja_node_core.proofs.Known.{stands_part, stands_both, stands_learned, stands_more}

-- an actor after one of them was replaced, and after one was added
pub replaced : (actors : List Actor) (a b : ℕ) (x : Actor) (known : Known) → get_or (set actors a x) b gone ≡ active known → (x ≡ active known) ⊎ (get_or actors b gone ≡ active known)
replaced [] a b x known e = absurd (cc)
replaced (y ∷ ys) zero zero x known e = inl e
replaced (y ∷ ys) zero (suc b) x known e = inr e
replaced (y ∷ ys) (suc a) zero x known e = inr e
replaced (y ∷ ys) (suc a) (suc b) x known e = replaced ys a b x known e

pub added : (actors : List Actor) (b : ℕ) (x : Actor) (known : Known) → get_or (actors ++ x ∷ []) b gone ≡ active known → (x ≡ active known) ⊎ (get_or actors b gone ≡ active known)
added [] zero x known e = inl e
added [] (suc b) x known e = absurd (cc)
added (y ∷ ys) zero x known e = inr e
added (y ∷ ys) (suc b) x known e = added ys b x known e

-- each word that some actor knows stands
abbrev pub AllKnownStand : List ℕ → List Actor → Type 0
AllKnownStand words actors = (a : ℕ) (known : Known) → get_or actors a gone ≡ active known → AllStand (slice_index words) known

module _ (n : ℕ) (aim : Tree → Type 0) where
  pub record IsKept (s : State) : Type 0 where
    pub counted : length s.words ≡ n
    pub canonical : IsCanonical n aim (slice_index s.words)
    pub stands : AllKnownStand s.words s.actors

  -- the actor has seen what stands at p
  seen_keeps : (words : List ℕ) (actors : List Actor) (a : ℕ) (known : Known) (p : ℕ) → length words ≡ n → IsCanonical n aim (slice_index words) → AllKnownStand words actors → AllStand (slice_index words) known
      → IsKept (seen words actors a known p)
  seen_keeps words actors a known p len can all mine = record {
    counted = len;
    canonical = can;
    stands = λ b other e. ⊎_elim
        (λ same. subst (AllStand (slice_index words)) (let is : learned known p (slice_index words p) ≡ other = cc in is) (stands_learned (slice_index words) known p mine))
        (λ was. all b other was)
        (replaced actors a b (active (learned known p (slice_index words p))) other e);
  }

  written : (words : List ℕ) (p w : ℕ) → p < length words → slice_index words p ≡ 0 → IsWritten (slice_index words) (slice_index (set words p w)) p w
  written words p w lt empty = record { was = empty; here = get_or-set_same words p w 0 lt; others = λ q ne. get_or-set_other words p q w 0 ne }

  -- a claim: its place was empty and has the word now, or it had a word and keeps it
  claim_step : (s : State) (a : ℕ) (known : Known) (w i : ℕ) → IsKept s → IsActive s a known → MayClaim n aim (word_at known) w i
      → (words : List ℕ) → ((slice_index s.words (place n w i) ≡ 0) × (words ≡ set s.words (place n w i) w)) ⊎ (words ≡ s.words)
      → IsKept (seen words s.actors a known (place n w i))
  claim_step s a known w i k at may words (inr same) = subst (λ ws. IsKept (seen ws s.actors a known (place n w i))) (sym same) (seen_keeps s.words s.actors a known (place n w i) k.counted k.canonical k.stands (k.stands a known at))
  claim_step s a known w i k at may words (inl (empty, is)) =
      let p = place n w i in
      let lt : p < length s.words = subst (λ m. p < m) (sym k.counted) (place_below n w i i may.within) in
      let wr = written s.words p w lt empty in
      let mine = k.stands a known at in
      let more : (m : Known) → AllStand (slice_index s.words) m → AllStand (slice_index (set s.words p w)) m = λ m. stands_more (slice_index s.words) (slice_index (set s.words p w)) m (stays (slice_index s.words) (slice_index (set s.words p w)) p w wr) in
      subst (λ ws. IsKept (seen ws s.actors a known p)) (sym is)
      (seen_keeps (set s.words p w) s.actors a known p
      (length-set s.words p w ∙ k.counted)
      (claim_keeps n aim (slice_index s.words) (slice_index (set s.words p w)) (word_at known) w i k.canonical (stands_part (slice_index s.words) known mine) may wr)
      (λ b other e. more other (k.stands b other e))
      (more known mine))

  pub claimed_cases : (words : List ℕ) (p w : ℕ) → ((slice_index words p ≡ 0) × (claimed words p w ≡ set words p w)) ⊎ (claimed words p w ≡ words)
  claimed_cases words p w = dite (ℕ_discrete (slice_index words p) 0)
      (λ e. inl (e, ap (λ b. if b then set words p w else words) (eq-eqb (slice_index words p) 0 e)))
      (λ ne. inr (ap (λ b. if b then set words p w else words) (ne_eqb (slice_index words p) 0 ne)))

  pub does_keep : (e : Event) (s t : State) → IsKept s → Does n aim e s t → IsKept t
  does_keep (looks a p) s t k (known, at, is) = subst IsKept (sym is) (seen_keeps s.words s.actors a known p k.counted k.canonical k.stands (k.stands a known at))
  does_keep (claims a w i) s t k (known, at, may, is) = subst IsKept (sym is) (claim_step s a known w i k at may (claimed s.words (place n w i) w) (claimed_cases s.words (place n w i) w))
  does_keep (forks a) s t k (known, at, is) = subst IsKept (sym is) record {
    counted = k.counted;
    canonical = k.canonical;
    stands = λ b other e. ⊎_elim (λ same. k.stands a other (at ∙ same)) (λ was. k.stands b other was) (added s.actors b (active known) other e);
  }
  does_keep (meets a b) s t k (known, other, at, there, apart, is) = subst IsKept (sym is) record {
    counted = k.counted;
    canonical = k.canonical;
    stands = λ c all e. ⊎_elim
        (λ same. absurd (cc))
        (λ was. ⊎_elim
        (λ same. subst (AllStand (slice_index s.words)) (let eq : known ++ other ≡ all = cc in eq) (stands_both (slice_index s.words) known other (k.stands a known at) (k.stands b other there)))
        (λ before. k.stands c all before)
        (replaced s.actors a c (active (known ++ other)) all was))
        (replaced (set s.actors a (active (known ++ other))) b c gone all e);
  }

  pub runs_keep : (es : List Event) (s t : State) → IsKept s → Runs n aim es s t → IsKept t
  runs_keep [] s t k is = subst IsKept (sym is) k
  runs_keep (e ∷ es) s t k (u, step, rest) = runs_keep es u t (⊎_elim (λ does. does_keep e s u k does) (λ stays. subst IsKept (sym stays.1) k) step) rest

  pub all_zero : (m p : ℕ) → slice_index (replicate m 0) p ≡ 0
  all_zero zero p = refl
  all_zero (suc m) zero = refl
  all_zero (suc m) (suc p) = all_zero m p

  pub empty_canonical : (at : Words) → ((p : ℕ) → at p ≡ 0) → IsCanonical n aim at
  empty_canonical at empty = record {
    constants = (empty 0, empty 1);
    nodes = λ p pos. absurd (let e = empty p in omega arith);
    placed = λ p pos. absurd (let e = empty p in omega arith);
    aimed = λ p t pos m. absurd (let e = empty p in omega arith);
  }

  start_kept : IsKept (start n)
  start_kept = record { counted = length-replicate n 0; canonical = empty_canonical (slice_index (replicate n 0)) (all_zero n); stands = first }
    where
      first : AllKnownStand (replicate n 0) (active [] ∷ [])
      first zero known e = subst (AllStand (slice_index (replicate n 0))) (let is : [] ≡ known = cc in is) tt
      first (suc a) known e = absurd (cc)

  pub run_kept : (es : List Event) (s : State) → Runs n aim es (start n) s → IsKept s
  run_kept es s run = runs_keep es (start n) s start_kept run

  -- a run goes on with one event more
  pub runs_on : (es : List Event) (e : Event) (s t u : State) → Runs n aim es s t → Does n aim e t u → Runs n aim (es ++ e ∷ []) s u
  runs_on [] e s t u is does = (u, inl (subst (λ z. Does n aim e z u) is does), refl)
  runs_on (f ∷ fs) e s t u (v, step, rest) does = (v, step, runs_on fs e v t u rest does)
