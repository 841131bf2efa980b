-- The least joint solution of pairs and effects, taken apart.
use Rattle.std.proofs.Common.{[], ◌↔◌}
use Rattle.ja_ir.specs.declared.program.Parts.{Parts}
use Rattle.ja_facts.specs.Least.{Least, IsSolution}
use Rattle.ja_facts.specs.ClassSets.{Fact as ClassFact}
use Rattle.ja_facts.specs.Sharing.{Fact, PairAt, PairWithin, Effect, Rule, PairRule, pair_rule, given_effect, EffectRule, effect_rule, given_pair, IsPair, IsEffect}
use Rattle.ja_facts.proofs.LeastLaws.{Each-weaker, Least-is_solution, Least-below}

module _ (p : Parts) (C : ClassFact → Type 0) where
  joint_pairs : IsSolution (PairRule p C (Least (Rule p C))) (Least (Rule p C))
  joint_pairs ps f (pair_rule rule is) each = Least-is_solution (Rule p C) ps f rule each
  joint_pairs ps f (given_effect e is) each = e

  joint_effects : IsSolution (EffectRule p C (Least (Rule p C))) (Least (Rule p C))
  joint_effects ps f (effect_rule rule is) each = Least-is_solution (Rule p C) ps f rule each
  joint_effects ps f (given_pair e is) each = e

  -- in the least joint solution, and where it is a pair also in the least pairs for its effects
  InPairs : Fact → Type 0
  InPairs f = (IsPair f → Least (PairRule p C (Least (Rule p C))) f) × Least (Rule p C) f

  InEffects : Fact → Type 0
  InEffects f = (IsEffect f → Least (EffectRule p C (Least (Rule p C))) f) × Least (Rule p C) f

  as_pair : (f : Fact) → InPairs f → Least (PairRule p C (Least (Rule p C))) f
  unfolding InPairs
  as_pair (PairAt m i a b) h = h.0 tt
  as_pair (PairWithin m i a b) h = h.0 tt
  as_pair (Effect m r) h = Least-is_solution (PairRule p C (Least (Rule p C))) [] (Effect m r) (given_effect h.1 tt) tt

  as_effect : (f : Fact) → InEffects f → Least (EffectRule p C (Least (Rule p C))) f
  unfolding InEffects
  as_effect (PairAt m i a b) h = Least-is_solution (EffectRule p C (Least (Rule p C))) [] (PairAt m i a b) (given_pair h.1 tt) tt
  as_effect (PairWithin m i a b) h = Least-is_solution (EffectRule p C (Least (Rule p C))) [] (PairWithin m i a b) (given_pair h.1 tt) tt
  as_effect (Effect m r) h = h.0 tt

  pairs_solve : IsSolution (Rule p C) InPairs
  unfolding InPairs
  pairs_solve ps f rule each = (
    λ is. Least-is_solution (PairRule p C (Least (Rule p C))) ps f (pair_rule rule is) (Each-weaker InPairs (Least (PairRule p C (Least (Rule p C)))) as_pair ps each),
    Least-is_solution (Rule p C) ps f rule (Each-weaker InPairs (Least (Rule p C)) (λ g h. h.1) ps each),
  )

  effects_solve : IsSolution (Rule p C) InEffects
  unfolding InEffects
  effects_solve ps f rule each = (
    λ is. Least-is_solution (EffectRule p C (Least (Rule p C))) ps f (effect_rule rule is) (Each-weaker InEffects (Least (EffectRule p C (Least (Rule p C)))) as_effect ps each),
    Least-is_solution (Rule p C) ps f rule (Each-weaker InEffects (Least (Rule p C)) (λ g h. h.1) ps each),
  )

  pub pairs-fixed : (f : Fact) → IsPair f → Least (PairRule p C (Least (Rule p C))) f ↔ Least (Rule p C) f
  unfolding InPairs
  pairs-fixed f is = (
    λ x. Least-below (PairRule p C (Least (Rule p C))) (Least (Rule p C)) joint_pairs f x,
    λ x. (Least-below (Rule p C) InPairs pairs_solve f x).0 is,
  )

  pub effects-fixed : (f : Fact) → IsEffect f → Least (EffectRule p C (Least (Rule p C))) f ↔ Least (Rule p C) f
  unfolding InEffects
  effects-fixed f is = (
    λ x. Least-below (EffectRule p C (Least (Rule p C))) (Least (Rule p C)) joint_effects f x,
    λ x. (Least-below (Rule p C) InEffects effects_solve f x).0 is,
  )
