-- What moves make of a function is true exactly where the rule may lead to from where the function is true.
use Rattle.std.proofs.Common.{◌≡◌, ℕ, ◌+◌, Bool, true, false, refl, sym, ap, ◌∙◌, subst, arith, ⊎_elim, List, [], ◌∷◌}
use Rattle.std.proofs.lemmas.Bool.{and_parts, and_from, or_cases, or_left, or_right}
use mathlib.Core.Logic.{dite}
use native.Mathlib.Decide.{ℕ_discrete}
use Rattle.ja_node_core.specs.Tree.{Assignment}
use Rattle.ja_node_core.proofs.Reduced.{with_var_here, with_var_other}
use Rattle.ja_bdd.specs.Functions.{Function, with_var, fixed}
use Rattle.ja_bdd.proofs.Fixing.{with_own, with_twice}
use Rattle.ja_join.specs.declared.rule.States.{States}
use Rattle.ja_join.specs.declared.rule.Move.{Move}
use Rattle.ja_join.specs.declared.rule.Rule.{Rule}
use Rattle.ja_join.specs.Ascending.{AscendFrom}
use Rattle.ja_join.specs.Moves.{truth_after, next_states, accepts, allows}
use Rattle.ja_join.specs.Steps.{IsStill, IsStep}
use Rattle.ja_join.specs.Inner.{stepped, stepped_from}
use Rattle.ja_join.proofs.Stepping.{still_before}

module _ (accepted : States) where
  -- moves look at no variable that they are not at
  allows_other : (moves : List Move) (s : States) (b a : Assignment) (v : ℕ) (c : Bool) → IsStill moves v → allows accepted moves s (with_var b v c) a ≡ allows accepted moves s b a
  allows_other [] s b a v c still = refl
  allows_other (m ∷ moves) s b a v c still =
      ap (λ x. allows accepted moves (next_states m x (truth_after m a) s) (with_var b v c) a) (with_var_other b v c m.variable (λ e. still.0 (sym e)))
      ∙ allows_other moves (next_states m (b m.variable) (truth_after m a) s) b a v c still.1

  pub stepped_leads : (from : ℕ) (moves : List Move) (s : States) (φ : Function) (a : Assignment) → AscendFrom from moves → stepped accepted moves s φ a ≡ true
      → (b : Assignment) × (allows accepted moves s b a ≡ true) × ((v : ℕ) → IsStill moves v → b v ≡ a v) × (φ b ≡ true)
  stepped_leads from [] s φ a up is = let parts = and_parts (accepts accepted s) (φ a) is in (a, parts.0, (λ v still. refl), parts.1)
  stepped_leads from (m ∷ moves) s φ a up is = ⊎_elim
      (λ low. by_before false (stepped_leads (v + 1) moves (next_states m false (truth_after m a) s) (fixed v false φ) a up.1.1 low))
      (λ high. by_before true (stepped_leads (v + 1) moves (next_states m true (truth_after m a) s) (fixed v true φ) a up.1.1 high))
      (or_cases (stepped accepted moves (next_states m false (truth_after m a) s) (fixed v false φ) a) (stepped accepted moves (next_states m true (truth_after m a) s) (fixed v true φ) a) is)
    where
      v : ℕ
      v = m.variable

      by_before : (c : Bool) → ((b : Assignment) × (allows accepted moves (next_states m c (truth_after m a) s) b a ≡ true) × ((u : ℕ) → IsStill moves u → b u ≡ a u) × (fixed v c φ b ≡ true))
          → (b : Assignment) × (allows accepted (m ∷ moves) s b a ≡ true) × ((u : ℕ) → IsStill (m ∷ moves) u → b u ≡ a u) × (φ b ≡ true)
      by_before c (b, allowed, others, holds) = (
        with_var b v c,
        ap (λ x. allows accepted moves (next_states m x (truth_after m a) s) (with_var b v c) a) (with_var_here b v c) ∙ allows_other moves (next_states m c (truth_after m a) s) b a v c (still_before (v + 1) v moves up.1.1 (omega arith)) ∙ allowed,
        (λ u still. with_var_other b v c u still.0 ∙ others u still.1),
        holds,
      )

  pub leads_stepped : (from : ℕ) (moves : List Move) (s : States) (φ : Function) (a b : Assignment) → AscendFrom from moves → allows accepted moves s b a ≡ true → ((v : ℕ) → IsStill moves v → b v ≡ a v) → φ b ≡ true
      → stepped accepted moves s φ a ≡ true
  leads_stepped from [] s φ a b up allowed others holds = and_from (accepts accepted s) (φ a) allowed (subst (λ (x : Assignment). φ x ≡ true) (λ i v. others v tt i) holds)
  leads_stepped from (m ∷ moves) s φ a b up allowed others holds =
      by_before (λ c. leads_stepped (m.variable + 1) moves (next_states m c (truth_after m a) s) (fixed m.variable c φ) a (with_var b m.variable (a m.variable)) up.1.1) (b m.variable) refl
    where
      v : ℕ
      v = m.variable

      after : Assignment
      after = with_var b v (a v)

      by_place : (u : ℕ) → IsStill moves u → after u ≡ a u
      by_place u still = dite (ℕ_discrete u v) (λ same. ap after same ∙ with_var_here b v (a v) ∙ ap a (sym same)) (λ other. with_var_other b v (a v) u other ∙ others u (other, still))

      rest : (c : Bool) → (allows accepted moves (next_states m c (truth_after m a) s) after a ≡ true → ((u : ℕ) → IsStill moves u → after u ≡ a u) → fixed v c φ after ≡ true → stepped accepted moves (next_states m c (truth_after m a) s) (fixed v c φ) a ≡ true) → b v ≡ c
          → stepped accepted moves (next_states m c (truth_after m a) s) (fixed v c φ) a ≡ true
      rest c rec e = rec
          (allows_other moves (next_states m c (truth_after m a) s) b a v (a v) (still_before (v + 1) v moves up.1.1 (omega arith)) ∙ ap (λ x. allows accepted moves (next_states m x (truth_after m a) s) b a) (sym e) ∙ allowed)
          by_place
          (ap φ (with_twice b v c (a v) ∙ with_own b v c e) ∙ holds)

      by_before : ((c : Bool) → allows accepted moves (next_states m c (truth_after m a) s) after a ≡ true → ((u : ℕ) → IsStill moves u → after u ≡ a u) → fixed v c φ after ≡ true → stepped accepted moves (next_states m c (truth_after m a) s) (fixed v c φ) a ≡ true)
          → (c : Bool) → b v ≡ c → stepped accepted (m ∷ moves) s φ a ≡ true
      by_before rec false e = or_left (stepped accepted moves (next_states m false (truth_after m a) s) (fixed v false φ) a) (stepped accepted moves (next_states m true (truth_after m a) s) (fixed v true φ) a) (rest false (rec false) e)
      by_before rec true e = or_right (stepped accepted moves (next_states m false (truth_after m a) s) (fixed v false φ) a) (stepped accepted moves (next_states m true (truth_after m a) s) (fixed v true φ) a) (rest true (rec true) e)

-- what a rule makes of a function is its step
pub stepped_is : (rule : Rule) (φ : Function) → IsStep rule φ (stepped_from rule 0 rule.start φ)
stepped_is rule φ after = (
  (λ is. let x = stepped_leads rule.accepted 0 rule.moves.items rule.start φ after rule.ascending is in (x.0, record { allowed = x.1; others = x.2 }, x.3)),
  (λ before leads holds. leads_stepped rule.accepted 0 rule.moves.items rule.start φ after before rule.ascending leads.allowed leads.others holds),
)

-- what means that is its step
pub step_meant : (rule : Rule) (φ ψ : Function) → ψ ≡ stepped_from rule 0 rule.start φ → IsStep rule φ ψ
step_meant rule φ ψ e = subst (IsStep rule φ) (sym e) (stepped_is rule φ)
