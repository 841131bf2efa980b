-- The number of values on the stack is within the frame.
use Rattle.std.proofs.Common.{◌≡◌, ℕ, zero, suc, ◌+◌, ◌^◌, ◌<◌, ◌≤◌, inl, inr, List, [], ◌∷◌, length, get_or, Option, refl, sym, subst, arith}
use Rattle.std.specs.Prelude.{All, nat_lt}
use Rattle.std.proofs.lemmas.Bool.{or_parts, ltb-false}
use Rattle.std.proofs.lemmas.List.Sums.{sum_by-cons}
use Rattle.ja_base.specs.Kind.{words_of}
use Rattle.ja_base.specs.declared.java_type.Kind.{Kind}
use Rattle.ja_base.specs.declared.java_type.Kind.TheVariants.{P1, P2, R, T}
use Rattle.ja_code.specs.declared.instr.RawInstr.{RawInstr}
use Rattle.ja_class.specs.Meaning.{ClassSpelled}
use Rattle.ja_class.specs.ClassFile.{IsSpelled}
use Rattle.ja_kinds.specs.declared.state.KindState.{KindState}
use Rattle.ja_kinds.specs.declared.state.State.{State}
use Rattle.ja_kinds.specs.declared.state.State.TheVariants.{Unreached, Known, Clash}
use Rattle.ja_kinds.specs.Frame.{words}
use Rattle.ja_kinds.specs.Effect.{IsOneOf}
use Rattle.ja_kinds.specs.Answer.{AreKindsOf, known_of, known_at}
use Rattle.ja_kinds.proofs.Reached.{does_something, reached_accepts}
use Rattle.ja_methods.specs.Method.{height_of}

word : (k : Kind) → 1 ≤ words_of k
word P1 = omega arith
word P2 = omega arith
word R = omega arith
word T = omega arith

-- each value has a word
pub length-words : (ks : List Kind) → length ks ≤ words ks
length-words [] = omega arith
length-words (k ∷ ks) = omega (arith, sum_by-cons words_of k ks, word k, length-words ks)

module _ (class : ClassSpelled) (spelled : IsSpelled class) (m : ℕ) (kinds : List (Option KindState)) (are : AreKindsOf class m kinds) where
  pub known-height : (i : RawInstr) → IsOneOf i are.code.instrs → (f : KindState) → are.at i.pc ≡ Known f → length f.stack ≤ are.frame.max_stack
  known-height i there f known =
      let deed = does_something class spelled m are.code are.frame are.has_frame are.at are.are i there in
      let accepted = reached_accepts class spelled m are.code are.frame are.has_frame are.at are.are i there deed.behaviour deed.effect deed.does f known in
      let low = ltb-false are.frame.max_stack (words f.stack) (or_parts (nat_lt are.frame.max_stack (words f.stack)) _ accepted.depth).0 in
      omega (arith, low, length-words f.stack)

  pub frame-small : are.frame.max_locals + are.frame.max_stack ≤ 512
  frame-small = ltb-false 512 (are.frame.max_locals + are.frame.max_stack) are.are.small

  low-state : (i : RawInstr) → IsOneOf i are.code.instrs → (s : State) → are.at i.pc ≡ s → height_of (known_of s) ≤ 512
  low-state i there Unreached e = omega arith
  low-state i there (Known f) e = omega (arith, known-height i there f e, frame-small)
  low-state i there Clash e = omega arith

  all-low : (is : List RawInstr) → ((i : RawInstr) → IsOneOf i is → height_of (known_of (are.at i.pc)) ≤ 512) → All (λ (s : Option KindState). height_of s ≤ 512) (known_at are.at is)
  all-low [] each k d lt = absurd (omega arith)
  all-low (i ∷ is) each zero d lt = each i (inl refl)
  all-low (i ∷ is) each (suc k) d lt = all-low is (λ j there. each j (inr there)) k d (omega arith)

  pub kinds-low : All (λ (s : Option KindState). height_of s < 2 ^ 32) kinds
  kinds-low k d lt =
      let low : All (λ (s : Option KindState). height_of s ≤ 512) kinds = subst (λ (l : List (Option KindState)). All (λ (s : Option KindState). height_of s ≤ 512) l) (sym are.kinds_are)
      (all-low are.code.instrs (λ i there. low-state i there (are.at i.pc) refl)) in
      let here : height_of (get_or kinds k d) ≤ 512 = low k d lt in
      omega (arith, here)
