-- Forgetting many variables is asking for some values of them.
use Rattle.std.proofs.Common.{◌≡◌, ◌≢◌, ℕ, zero, suc, ◌+◌, ◌<◌, ◌≤◌, ◌||◌, Bool, true, false, refl, sym, ap, ◌∙◌, subst, arith}
use Rattle.std.specs.Prelude.{◌↔◌, if◌then◌else◌}
use Rattle.std.proofs.lemmas.Bool.{false≢true}
use mathlib.Core.Logic.{dite}
use native.Mathlib.Decide.{ℕ_discrete}
use Rattle.ja_node_core.specs.Tree.{Assignment}
use Rattle.ja_node_core.proofs.Reduced.{with_var_other}
use Rattle.ja_bdd.specs.Functions.{Function, with_var}
use Rattle.ja_bdd.specs.Copies.{forgotten_if, forgotten_below, all_forgotten, AgreeOnRest}
use Rattle.ja_bdd.proofs.Fixing.{with_cases}

-- the assignments have the same values, but for the variables below n that go
abbrev pub AgreeBut : ℕ → (ℕ → Bool) → Assignment → Assignment → Type 0
AgreeBut n goes b a = (u : ℕ) → (u < n → goes u ≡ false) → b u ≡ a u

abbrev pub HasTrue : ℕ → (ℕ → Bool) → Function → Assignment → Type 0
HasTrue n goes φ a = (b : Assignment) × AgreeBut n goes b a × (φ b ≡ true)

either_true : (p q : Bool) → (p || q) ≡ true → (c : Bool) × ((if c then q else p) ≡ true)
either_true true q is = (false, refl)
either_true false q is = (true, is)

true_either : (p q c : Bool) → (if c then q else p) ≡ true → (p || q) ≡ true
true_either true q c is = refl
true_either false q true is = is
true_either false q false is = absurd (false≢true is)

-- forgetting one variable, or none
if_true : (go : Bool) (n : ℕ) (φ : Function) (a : Assignment) → forgotten_if go n φ a ≡ true → (b : Assignment) × ((u : ℕ) → (u ≡ n → go ≡ false) → b u ≡ a u) × (φ b ≡ true)
if_true false n φ a is = (a, (λ u same. refl), is)
if_true true n φ a is =
    let some = either_true (φ (with_var a n false)) (φ (with_var a n true)) is in
    (with_var a n some.0, (λ u same. with_var_other a n some.0 u (λ e. false≢true (sym (same e)))), chosen some.0 some.1)
  where
    chosen : (c : Bool) → (if c then φ (with_var a n true) else φ (with_var a n false)) ≡ true → φ (with_var a n c) ≡ true
    chosen true is = is
    chosen false is = is

true_if : (go : Bool) (n : ℕ) (φ : Function) (a b : Assignment) → ((u : ℕ) → (u ≡ n → go ≡ false) → b u ≡ a u) → φ b ≡ true → forgotten_if go n φ a ≡ true
true_if false n φ a b same is = ap φ (λ i u. sym (same u (λ e. refl)) i) ∙ is
true_if true n φ a b same is = true_either (φ (with_var a n false)) (φ (with_var a n true)) (b n) (at (b n) refl)
  where
    own : (c : Bool) → b n ≡ c → φ (with_var a n c) ≡ true
    own c e = ap φ (λ i u. with_cases a b n c u (λ here. sym e ∙ ap b (sym here)) (λ ne. sym (same u (λ here. absurd (ne here)))) i) ∙ is

    at : (c : Bool) → b n ≡ c → (if c then φ (with_var a n true) else φ (with_var a n false)) ≡ true
    at true e = own true e
    at false e = own false e

module _ (goes : ℕ → Bool) where
  below_true : (n : ℕ) (φ : Function) (a : Assignment) → forgotten_below n goes φ a ≡ true → HasTrue n goes φ a
  unfolding forgotten_below
  below_true zero φ a is = (a, (λ u same. refl), is)
  below_true (suc n) φ a is =
      let (b, same, there) = if_true (goes n) n (forgotten_below n goes φ) a is in
      let (c, alike, holds) = below_true n φ b there in
      (c, (λ u stays. alike u (λ lt. stays (omega arith)) ∙ same u (λ e. subst (λ v. goes v ≡ false) e (stays (omega arith)))), holds)

  true_below : (n : ℕ) (φ : Function) (a b : Assignment) → AgreeBut n goes b a → φ b ≡ true → forgotten_below n goes φ a ≡ true
  unfolding forgotten_below
  true_below zero φ a b same is = ap φ (λ i u. sym (same u (λ lt. absurd (omega arith))) i) ∙ is
  true_below (suc n) φ a b same is =
      true_if (goes n) n (forgotten_below n goes φ) a (with_var a n (b n))
      (λ u stays. with_cases a a n (b n) u (λ e. ap b (sym e) ∙ same u (λ lt. subst (λ v. goes v ≡ false) (sym e) (stays e))) (λ ne. refl))
      (true_below n φ (with_var a n (b n)) b (λ u stays. sym (with_cases a b n (b n) u (λ e. ap b (sym e)) (λ ne. sym (same u (λ lt. stays (omega arith)))))) is)

  pub left_true : (φ : Function) (a : Assignment) → (all_forgotten goes φ a ≡ true) ↔ ((b : Assignment) × AgreeOnRest goes b a × (φ b ≡ true))
  unfolding all_forgotten
  left_true φ a = (
    (λ is. let (b, same, holds) = below_true 4095 φ a is in (b, (λ u stays. same u (λ lt. stays (omega arith))), holds)),
    (λ t. true_below 4095 φ a t.0 (λ u stays. t.1 u (λ le. stays (omega arith))) t.2),
  )
