-- The first fault of instructions one after another.
use Rattle.std.proofs.Common.{◌≡◌, ℕ, zero, suc, ◌+◌, ◌<◌, inl, inr, false, List, [], ◌∷◌, length, get_or, take, Option, Some, None, Result, Ok, Err, IfOk, refl, ap, sym, subst, ◌∙◌, arith}
use Rattle.ja_pool.specs.Table.{Table}
use Rattle.ja_code.specs.declared.instr.RawInstr.{RawInstr}
use Rattle.ja_code.specs.declared.behaviour.Behaviour.{Behaviour}
use Rattle.ja_kinds.specs.declared.effect.Effect.{Effect}
use Rattle.ja_kinds.specs.declared.fault.KindFault.{KindFault}
use Rattle.ja_kinds.specs.declared.frame.Frame.{Frame}
use Rattle.ja_kinds.specs.declared.state.State.{State}
use Rattle.ja_kinds.specs.declared.state.State.TheVariants.{Unreached}
use Rattle.ja_kinds.specs.Effect.{Does, IsOneOf}
use Rattle.ja_code.specs.declared.code.Code.{Code}
use Rattle.ja_kinds.specs.declared.state.KindState.{KindState}
use Rattle.ja_kinds.specs.Solution.{fault_at, IsRight, IsFirst, here, later, is_too_large, IsLeast, IsFault, instruction}
use Rattle.ja_kinds.specs.Answer.{known_at}
use Rattle.ja_kinds.specs.InnerSolving.{state_at, IsFaultAt, IsFirstOf, AreKindsIn}
use Rattle.ja_kinds.proofs.Hands.{one_of_more}
use Rattle.ja_kinds.proofs.Visits.{OneEffect, one_deed}

module _ (law : OneEffect) (pool : Table) (frame : Frame) (at : ℕ → State) where
  -- what an instruction that does something is judged to be
  pub judged_one : (i : RawInstr) (b : Behaviour) (e : Effect) (fault : Option KindFault) → Does pool i b e → fault ≡ fault_at frame i b e (at i.pc)
      → IsFaultAt pool frame at i fault
  judged_one i b e None does is = λ c f other.
      let same : (b ≡ c) × (e ≡ f) = one_deed law pool i b c e f does other in
      subst (λ (x : Behaviour). fault_at frame i x f (at i.pc) ≡ None) same.0
      (subst (λ (x : Effect). fault_at frame i b x (at i.pc) ≡ None) same.1 (sym is))
  judged_one i b e (Some fault) does is = (b, e, does, sym is)

  pub judged_answer : {X : Type 0} (i : RawInstr) (b : Behaviour) (e : Effect) (s : State) (r : Result (Option KindFault) X) → Does pool i b e → s ≡ at i.pc
      → IfOk r (λ fault. fault ≡ fault_at frame i b e s) → IfOk r (IsFaultAt pool frame at i)
  judged_answer i b e s (Ok fault) does same is = judged_one i b e fault does (is ∙ ap (fault_at frame i b e) same)
  judged_answer i b e s (Err error) does same is = tt

module _ (pool : Table) (frame : Frame) (at : ℕ → State) where
  pub unreached_right : (i : RawInstr) → at i.pc ≡ Unreached → IsRight pool frame at i
  unreached_right i e b f does = subst (λ (s : State). fault_at frame i b f s ≡ None) (sym e) refl

  pub idle_right : (i : RawInstr) → ((b : Behaviour) (e : Effect) → Does pool i b e → ⊥) → IsRight pool frame at i
  idle_right i none b e does = absurd (none b e does)

  -- one more is right
  pub right_more : (is : List RawInstr) (n : ℕ) (i : RawInstr) → n < length is → get_or is n i ≡ i
      → ((j : RawInstr) → IsOneOf j (take n is) → IsRight pool frame at j) → IsRight pool frame at i
      → ((j : RawInstr) → IsOneOf j (take (n + 1) is) → IsRight pool frame at j)
  right_more is n i below is_i before now j there = elim (one_of_more is n i below is_i j there) [
    | inl earlier ↦ before j earlier
    | inr same ↦ subst (λ (k : RawInstr). IsRight pool frame at k) (sym same) now
  ]

  -- the first that is not
  pub first_found : (is : List RawInstr) (n : ℕ) (i : RawInstr) (fault : KindFault) → n < length is → get_or is n i ≡ i
      → ((j : RawInstr) → IsOneOf j (take n is) → IsRight pool frame at j) → IsFaultAt pool frame at i (Some fault) → IsFirst pool frame at is fault
  first_found [] n i fault below is_i before now = absurd (omega arith)
  first_found (j ∷ js) zero i fault below is_i before now =
      subst (λ (k : RawInstr). IsFirst pool frame at (k ∷ js) fault) (sym is_i) (here now.0 now.1 now.2 now.3)
  first_found (j ∷ js) (suc n) i fault below is_i before now =
      later (before j (inl refl))
      (first_found js n i fault (omega arith) is_i (λ k there. before k (inr there)) now)

-- ---- what a code is judged to be

module _ (pool : Table) (code : Code) (frame : Frame) (states read : List State) (is : List RawInstr) (small : is_too_large frame ≡ false)
    (least : IsLeast pool code frame (state_at states)) (same : read ≡ states) (all : is ≡ code.instrs) (found : Option KindFault)
    (first : IsFirstOf pool frame (state_at read) is found) where
  first_of : (answer : Option KindFault) → found ≡ answer → IsFirstOf pool frame (state_at states) code.instrs answer
  first_of answer e =
      subst (IsFirstOf pool frame (state_at states) code.instrs) e
      (subst (λ (js : List RawInstr). IsFirstOf pool frame (state_at states) js found) all
      (subst (λ (ss : List State). IsFirstOf pool frame (state_at ss) is found) same first))

  pub judged_fault : (fault : KindFault) → found ≡ Some fault → IsFault pool code frame fault
  judged_fault fault e = instruction (state_at states) small least (first_of (Some fault) e)

  pub judged_kinds : (again : List State) (kinds : List (Option KindState)) → found ≡ None → again ≡ states → kinds ≡ known_at (state_at again) is
      → AreKindsIn pool code frame kinds
  judged_kinds again kinds none also known =
      record {
        at = state_at states;
        are = record { small = small; least = least; right = first_of None none };
        kinds_are = known ∙ (ap (λ (ss : List State). known_at (state_at ss) is) also ∙ ap (known_at (state_at states)) all);
      }
