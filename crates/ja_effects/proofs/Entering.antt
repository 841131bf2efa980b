-- What instructions change by methods that they enter.
use Rattle.std.proofs.Common.{◌≡◌, ◌⊎◌, ◌↔◌, inl, inr, ℕ, zero, suc, ◌+◌, ◌<◌, ◌≤◌, Bool, true, false, ◌||◌, List, [], ◌∷◌, Some, length, get_or, refl, sym, ap, subst, ◌∙◌, true≢false, arith}
use Rattle.std.specs.Prelude.{slice_get}
use Rattle.std.proofs.lemmas.Option.{same_Some, slice_get_within}
use Rattle.std.proofs.lemmas.Bool.{cases_lt}
use Rattle.ja_ir.specs.declared.program.Parts.{Parts}
use Rattle.ja_ir.specs.declared.method.Method.{Method}
use Rattle.ja_facts.specs.Least.{Least, Each}
use Rattle.ja_facts.specs.Crossings.{Enters}
use Rattle.ja_facts.specs.Sharing.{Fact, PairAt, Effect, Root, Arg, StaticFields, Name, OfSlot, Statics, Old, Rule, entered_effect, EffectRule, effect_rule, given_pair, IsRootOf, root_name}
use Rattle.ja_facts.specs.FactTables.{GraphTable, has_effect}
use Rattle.ja_facts.specs.Told.{TellsGraph, TellsHeap, PairHas, EffectHas, IsEffectNumber}
use Rattle.ja_facts.proofs.LeastLaws.{Least-is_solution}
use Rattle.ja_names.specs.Tables.{HasFlags}
use Rattle.ja_names.proofs.Numbers.{one-effect}
use Rattle.ja_effects.specs.Inner.{Pairs, LeastEffects, IsSound, IsKept, IsPassed, Gains, lacking}
use Rattle.ja_effects.specs.Stages.{Step, Stage, IsPassedBy, Passes}
use Rattle.ja_effects.proofs.Marking.{gains-none, gains-same, both-idle, both-steady, both-fall}

module _ (p : Parts) where
  -- the effect of a number is in the table where its flag is set
  flag-told : (table : List (List Bool)) (n k : ℕ) (callee : Method) (e : Root) → slice_get p.methods n ≡ Some callee → IsEffectNumber callee e k → has_effect table n k ≡ true → EffectHas p table n e
  flag-told table n k callee e found number has = record { method = callee; found = found; k = k; is = number; member = has }

  told-flag : (table : List (List Bool)) (n k : ℕ) (callee : Method) (e : Root) → slice_get p.methods n ≡ Some callee → IsEffectNumber callee e k → EffectHas p table n e → has_effect table n k ≡ true
  told-flag table n k callee e found number h =
      let same : h.method ≡ callee = same_Some h.method callee (sym h.found ∙ found) in
      let at : h.k ≡ k = one-effect callee (subst (λ (q : Method). IsEffectNumber q e h.k) same h.is) number in
      subst (λ j. has_effect table n j ≡ true) at h.member

  module _ (pairs : Pairs) (m i n k : ℕ) (callee : Method) (e : Root) (a : Name) (found : slice_get p.methods n ≡ Some callee) (number : IsEffectNumber callee e k) where
    pub passed-none : (table : List (List Bool)) → has_effect table n k ≡ false → Gains p table table (λ q r. (q ≡ m) × EffectHas p table n e × PairHas p pairs m i a (Old r))
    passed-none table none = gains-none p table (λ q r. (q ≡ m) × EffectHas p table n e × PairHas p pairs m i a (Old r)) (λ q r h. absurd (true≢false (sym (told-flag table n k callee e found number h.1) ∙ none)))

    pub passed-some : (old new : List (List Bool)) → has_effect old n k ≡ true → Gains p old new (λ q r. (q ≡ m) × PairHas p pairs m i a (Old r))
        → Gains p old new (λ q r. (q ≡ m) × EffectHas p old n e × PairHas p pairs m i a (Old r))
    passed-some old new has gains =
        gains-same p old new (λ q r. (q ≡ m) × PairHas p pairs m i a (Old r)) (λ q r. (q ≡ m) × EffectHas p old n e × PairHas p pairs m i a (Old r)) gains
        (λ q r. (λ h. (h.0, flag-told old n k callee e found number has, h.1), λ h. (h.0, h.2)))

  -- a step by one effect of a method that is entered
  module _ (graph : GraphTable) (pairs : Pairs) (m i n count under : ℕ) (enters : Enters p (TellsGraph p graph) m i n count under) (e : Root) (root : IsRootOf count e) where
    pub pass-sound : (old new : List (List Bool)) → IsSound p graph pairs old → Gains p old new (λ q r. (q ≡ m) × EffectHas p old n e × PairHas p pairs m i (root_name under e) (Old r)) → IsSound p graph pairs new
    pass-sound old new sound gains q r h = elim ((gains q r).0 h) [
      | inl had ↦ sound q r had
      | inr got ↦
          let rule : EffectRule p (TellsGraph p graph) (TellsHeap p (TellsGraph p graph) pairs []) (Effect n e ∷ PairAt m i (root_name under e) (Old r) ∷ []) (Effect m r) = effect_rule (entered_effect e enters root) tt in
          let pair : LeastEffects p graph pairs (PairAt m i (root_name under e) (Old r)) =
          Least-is_solution (EffectRule p (TellsGraph p graph) (TellsHeap p (TellsGraph p graph) pairs [])) [] (PairAt m i (root_name under e) (Old r)) (given_pair got.2 tt) tt in
          let here : LeastEffects p graph pairs (Effect m r) =
          Least-is_solution (EffectRule p (TellsGraph p graph) (TellsHeap p (TellsGraph p graph) pairs [])) (Effect n e ∷ PairAt m i (root_name under e) (Old r) ∷ []) (Effect m r) rule (sound n e got.1, (pair, tt)) in
          subst (λ k. LeastEffects p graph pairs (Effect k r)) (sym got.0) here
    ]

  pub pass-kept : (old new : List (List Bool)) (Q : ℕ → Root → Type 0) → Gains p old new Q → IsKept p old new
  pass-kept old new Q gains q r h = (gains q r).1 (inl h)

  -- where nothing was new, the step had been done
  pub pass-closed : (pairs : Pairs) (m i n : ℕ) (e : Root) (a : Name) (old new : List (List Bool)) → Gains p old new (λ q r. (q ≡ m) × EffectHas p old n e × PairHas p pairs m i a (Old r)) → new ≡ old
      → (r : Root) → EffectHas p new n e → PairHas p pairs m i a (Old r) → EffectHas p new m r
  pass-closed pairs m i n e a old new gains same r had pair = (gains m r).1 (inr (refl, subst (λ (t : List (List Bool)). EffectHas p t n e) same had, pair))

  -- ---- steps, one after another

  module _ (graph : GraphTable) (pairs : Pairs) where
    pub stage-start : (table : List (List Bool)) → HasFlags p table → IsSound p graph pairs table → Stage p graph pairs table table false
    stage-start table flags sound = record {
      flags = flags;
      sound = sound;
      kept = λ m r h. h;
      idle = λ e. refl;
      steady = omega arith;
      falls = λ e. absurd (cc e);
    }

    pub stage-more : (a b : Bool) (old mid new : List (List Bool)) → Stage p graph pairs old mid a → Step p graph pairs mid new b → Stage p graph pairs old new (a || b)
    stage-more a b old mid new stage step = record {
      flags = step.flags;
      sound = step.sound;
      kept = λ m r h. step.kept m r (stage.kept m r h);
      idle = both-idle a b old mid new stage.idle step.idle;
      steady = both-steady b old mid new stage.steady step.idle step.falls;
      falls = both-fall a b old mid new stage.steady stage.falls step.idle step.falls;
    }

    pub stage-step : (a : Bool) (old new : List (List Bool)) → Stage p graph pairs old new a → Step p graph pairs old new a
    stage-step a old new stage = record { flags = stage.flags; sound = stage.sound; kept = stage.kept; idle = stage.idle; falls = stage.falls }

-- where neither step was new, what was closed before is
pub idle-both : (a b : Bool) → (a || b) ≡ false → (a ≡ false) × (b ≡ false)
idle-both true b e = absurd (cc e)
idle-both false b e = (refl, e)

-- what the clauses of one pass say
pub record Passed (p : Parts) (pairs : Pairs) (m i n : ℕ) (e : Root) (a : Name) (old new : List (List Bool)) (changed : Bool) : Type 0 where
  pub flags : HasFlags p new
  pub gains : Gains p old new (λ q r. (q ≡ m) × EffectHas p old n e × PairHas p pairs m i a (Old r))
  pub idle : changed ≡ false → new ≡ old
  pub falls : changed ≡ true → lacking new < lacking old

module _ (p : Parts) (graph : GraphTable) (pairs : Pairs) (m i n count under : ℕ) (enters : Enters p (TellsGraph p graph) m i n count under) where
  pass-step : (e : Root) → IsRootOf count e → (old new : List (List Bool)) (b : Bool) → IsSound p graph pairs old → Passed p pairs m i n e (root_name under e) old new b → Step p graph pairs old new b
  pass-step e root old new b sound passed = record {
    flags = passed.flags;
    sound = pass-sound p graph pairs m i n count under enters e root old new sound passed.gains;
    kept = pass-kept p old new (λ q r. (q ≡ m) × EffectHas p old n e × PairHas p pairs m i (root_name under e) (Old r)) passed.gains;
    idle = passed.idle;
    falls = passed.falls;
  }

  by-pass : (e : Root) (old new : List (List Bool)) (b : Bool) → Passed p pairs m i n e (root_name under e) old new b → b ≡ false → IsPassedBy p pairs new m i n under e
  by-pass e old new b passed none = pass-closed p pairs m i n e (root_name under e) old new passed.gains (passed.idle none)

  pub passes-start : (old new : List (List Bool)) (b : Bool) → HasFlags p old → IsSound p graph pairs old → Passed p pairs m i n StaticFields (root_name under StaticFields) old new b → Passes p graph pairs m i n under 0 old new b
  passes-start old new b flags sound passed = record {
    stage = stage-more p graph pairs false b old old new (stage-start p graph pairs old flags sound) (pass-step StaticFields tt old new b sound passed);
    statics = by-pass StaticFields old new b passed;
    arguments = λ e k lt. absurd (omega arith);
  }

  pub passes-more : (a b : Bool) (k : ℕ) (old mid new : List (List Bool)) → k < count → Passes p graph pairs m i n under k old mid a → Passed p pairs m i n (Arg k) (root_name under (Arg k)) mid new b
      → Passes p graph pairs m i n under (k + 1) old new (a || b)
  passes-more a b k old mid new lt before passed = record {
    stage = stage-more p graph pairs a b old mid new before.stage (pass-step (Arg k) lt mid new b before.stage.sound passed);
    statics = λ e. let both = idle-both a b e in subst (λ (t : List (List Bool)). IsPassedBy p pairs t m i n under StaticFields) (sym (passed.idle both.1)) (before.statics both.0);
    arguments = λ e j below. let both = idle-both a b e in elim (cases_lt j k) [
      | inl less ↦ subst (λ (t : List (List Bool)). IsPassedBy p pairs t m i n under (Arg j)) (sym (passed.idle both.1)) (before.arguments both.0 j less)
      | inr past ↦
          let same : j ≡ k = omega arith in
          subst (λ h. IsPassedBy p pairs new m i n under (Arg h)) (sym same) (by-pass (Arg k) mid new b passed both.1)
    ];
  }

  root-passed : (table : List (List Bool)) (size : ℕ) → count ≤ size → IsPassedBy p pairs table m i n under StaticFields → ((k : ℕ) → k < size → IsPassedBy p pairs table m i n under (Arg k)) → (s : Root) → IsRootOf count s → IsPassedBy p pairs table m i n under s
  root-passed table size le statics arguments (Arg k) lt = arguments k (omega arith)
  root-passed table size le statics arguments StaticFields is = statics

  pub passes-all : (size : ℕ) (old new : List (List Bool)) (b : Bool) → count ≤ size → Passes p graph pairs m i n under size old new b → b ≡ false → IsPassed p pairs new m i n count under
  passes-all size old new b le passes none s r root = root-passed new size le (passes.statics none) (passes.arguments none) s root r

-- nothing is passed by a method that is not there
pub none-there : (p : Parts) (pairs : Pairs) (table : List (List Bool)) (m i n count under : ℕ) → length p.methods ≤ n → IsPassed p pairs table m i n count under
none-there p pairs table m i n count under past s r root h pair = absurd (let lt = slice_get_within p.methods n h.method h.found in omega arith)

pub no-step : (p : Parts) (graph : GraphTable) (pairs : Pairs) (table : List (List Bool)) → HasFlags p table → IsSound p graph pairs table → Step p graph pairs table table false
no-step p graph pairs table flags sound = stage-step p graph pairs false table table (stage-start p graph pairs table flags sound)
