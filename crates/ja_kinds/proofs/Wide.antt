-- In the kinds of a method each reached instruction finds as many locals as the frame has.
use Rattle.std.proofs.Common.{◌≡◌, ℕ, zero, suc, ◌+◌, ◌<◌, ◌≤◌, ◌⊎◌, inl, inr, Bool, true, false, cond, eqb, List, [], ◌∷◌, length, take, replicate, Option, None, Some, refl, sym, ap, subst, ◌∙◌, arith}
use Rattle.std.specs.Prelude.{◌++◌}
use Rattle.std.proofs.lemmas.List.{length-take, length-append, length-replicate}
use Rattle.std.proofs.lemmas.Bool.{eqb-true}
use Rattle.ja_base.specs.declared.java_type.Kind.{Kind}
use Rattle.ja_base.specs.declared.java_type.Kind.TheVariants.{T}
use Rattle.ja_pool.specs.Table.{Table}
use Rattle.ja_code.specs.declared.code.Code.{Code}
use Rattle.ja_kinds.specs.declared.frame.Frame.{Frame}
use Rattle.ja_kinds.specs.declared.state.KindState.{KindState}
use Rattle.ja_kinds.specs.declared.state.State.{State}
use Rattle.ja_kinds.specs.declared.state.State.TheVariants.{Unreached, Known, Clash}
use Rattle.ja_kinds.specs.Answer.{known_of}
use Rattle.ja_kinds.specs.Frame.{AreBelow, Below, parameter_words}
use Rattle.ja_kinds.specs.Solution.{after, thrown, entry_state, IsSolution, IsLeast}
use Rattle.ja_kinds.specs.InnerSolving.{IsWide}
use Rattle.ja_kinds.proofs.Monotone.{after_wide, thrown_wide}

-- what is known at a place is known in its state
pub known_is : (s : State) (f : KindState) → known_of s ≡ Some f → s ≡ Known f
known_is Unreached f e = absurd (cc)
known_is (Known g) f e = ap Known (let same : g ≡ f = cc in same)
known_is Clash f e = absurd (cc)

-- a state, as far as it has so many locals
abbrev if_wide : (same : Bool) → State → State
if_wide same s = cond same s Unreached

abbrev narrowed : ℕ → State → State
narrowed count Unreached = Unreached
narrowed count (Known f) = if_wide (eqb (length f.locals) count) (Known f)
narrowed count Clash = Clash

same-length : (ks ls : List Kind) → AreBelow ks ls → length ks ≡ length ls
same-length [] [] below = refl
same-length [] (l ∷ ls) below = absurd below
same-length (k ∷ ks) [] below = absurd below
same-length (k ∷ ks) (l ∷ ls) below = ap suc (same-length ks ls below.1)

kept : (count : ℕ) (f : KindState) → length f.locals ≡ count → narrowed count (Known f) ≡ Known f
kept count f e = ap (λ (b : Bool). if_wide b (Known f)) (Rattle.std.proofs.Common.eq-eqb (length f.locals) count e)

-- what is below a state and wide is below what is left of it
below-kept : (count : ℕ) (s t : State) → IsWide count s → Below s t → Below s (narrowed count t)
below-kept count Unreached t wide below = tt
below-kept count (Known f) Unreached wide below = absurd below
below-kept count (Known f) (Known g) wide below =
    subst (λ (x : State). Below (Known f) x) (sym (kept count g (sym (same-length f.locals g.locals below.0) ∙ wide))) below
below-kept count (Known f) Clash wide below = tt
below-kept count Clash Unreached wide below = absurd below
below-kept count Clash (Known g) wide below = absurd below
below-kept count Clash Clash wide below = tt

-- what is left of a state is wide
left-wide : (count : ℕ) (s : State) → IsWide count (narrowed count s)
left-wide count Unreached = tt
left-wide count (Known f) = pick (eqb (length f.locals) count) refl
  where
    pick : (b : Bool) → eqb (length f.locals) count ≡ b → IsWide count (if_wide b (Known f))
    pick true e = eqb-true (length f.locals) count e
    pick false e = tt
left-wide count Clash = tt

-- what is left says no more than the state
left-below : (P : State → Type 0) (count : ℕ) (s : State) → P Unreached → P s → P (narrowed count s)
left-below P count Unreached none all = none
left-below P count (Known f) none all = pick (eqb (length f.locals) count)
  where
    pick : (b : Bool) → P (if_wide b (Known f))
    pick true = all
    pick false = none
left-below P count Clash none all = all

module _ (pool : Table) (code : Code) (frame : Frame) (at : ℕ → State) (least : IsLeast pool code frame at) where
  abbrev left : ℕ → State
  left = λ place. narrowed frame.max_locals (at place)

  entry-wide : IsWide frame.max_locals (entry_state frame)
  entry-wide =
      omega (arith, length-take frame.max_locals (parameter_words frame.parameters ++ replicate frame.max_locals T), length-append (parameter_words frame.parameters) (replicate frame.max_locals T), length-replicate frame.max_locals T)

  left-solves : IsSolution pool code frame left
  left-solves = record {
    entry = below-kept frame.max_locals (entry_state frame) (at 0) entry-wide least.solves.entry;
    closed = λ i there. record {
      normal = λ b e place does leads in'.
          below-kept frame.max_locals (after frame e (left i.pc)) (at place) (after_wide frame.max_locals frame e (left i.pc) (left-wide frame.max_locals (at i.pc)))
          (left-below (λ (s : State). Below (after frame e s) (at place)) frame.max_locals (at i.pc) tt ((least.solves.closed i there).normal b e place does leads in'));
      exceptional = λ b e place does handled in'.
          below-kept frame.max_locals (thrown frame e (left i.pc)) (at place) (thrown_wide frame.max_locals frame e (left i.pc) (left-wide frame.max_locals (at i.pc)))
          (left-below (λ (s : State). Below (thrown frame e s) (at place)) frame.max_locals (at i.pc) tt ((least.solves.closed i there).exceptional b e place does handled in'));
    };
  }

  wide-below : (s : State) → Below s (narrowed frame.max_locals s) → IsWide frame.max_locals s
  wide-below Unreached below = tt
  wide-below (Known f) below = pick (eqb (length f.locals) frame.max_locals) refl below
    where
      pick : (b : Bool) → eqb (length f.locals) frame.max_locals ≡ b → Below (Known f) (if_wide b (Known f)) → length f.locals ≡ frame.max_locals
      pick true e below = eqb-true (length f.locals) frame.max_locals e
      pick false e below = absurd below
  wide-below Clash below = tt

  -- what is known before an instruction has as many locals as the frame
  pub known_wide : (place : ℕ) (f : KindState) → at place ≡ Known f → length f.locals ≡ frame.max_locals
  known_wide place f known =
      subst (λ (s : State). IsWide frame.max_locals s) known (wide-below (at place) (least.below left left-solves place))
