-- What is closed after a step in which nothing was new.
use Rattle.std.proofs.Common.{◌≡◌, ◌⊎◌, ◌↔◌, inl, inr, ℕ, zero, suc, ◌+◌, ◌-◌, ◌<◌, ◌≤◌, Bool, true, false, ◌||◌, List, [], ◌∷◌, Option, Some, None, length, map, replicate, get_or, refl, sym, ap, subst, ◌∙◌, true≢false, arith}
use Rattle.std.specs.Prelude.{Contains, slice_get}
use Rattle.std.proofs.lemmas.Bool.{cases_lt}
use Rattle.std.proofs.lemmas.Option.{same_Some, slice_get_within, slice_get_read, slice_get-get_or, get_or_from_slice_get}
use Rattle.std.proofs.Math.ListN.{length-replicate}
use Rattle.ja_base.specs.declared.id.MethodId.{MethodId}
use Rattle.ja_ir.specs.declared.program.Parts.{Parts}
use Rattle.ja_ir.specs.declared.method.Method.{Method}
use Rattle.ja_ir.specs.declared.method.Instr.{Instr}
use Rattle.ja_ir.specs.declared.op.CallOp.{CallOp}
use Rattle.ja_ir.specs.declared.op.Op.{Op}
use Rattle.ja_ir.specs.declared.op.Op.TheVariants.{Call}
use Rattle.ja_ir.specs.Lookup.{OpAt, HasCode, instr_at, code_of}
use Rattle.ja_ir.specs.Operations.{arguments}
use Rattle.ja_ir.specs.Initializing.{InitAt, inits_of}
use Rattle.ja_ir.specs.Params.{param_count}
use Rattle.ja_facts.specs.Least.{Least, Each, IsSolution}
use Rattle.ja_facts.specs.Slots.{CallAt}
use Rattle.ja_facts.specs.ClassSets.{Fact as ClassFact, Reached, CallsMethod}
use Rattle.ja_facts.specs.Crossings.{Enters, by_call, by_initializer}
use Rattle.ja_facts.specs.Sharing.{Fact, PairAt, PairWithin, Effect, Root, Old, Name, OfSlot, StaticFields, Rule, written_effect, static_effect, library_effect, entered_effect, EffectRule, effect_rule, given_pair, IsEffect, IsPair, root_name}
use Rattle.ja_facts.specs.FactTables.{GraphTable, targets_at, empty_effects, empty_pairs, no_effects_of}
use Rattle.ja_facts.specs.Told.{TellsGraph, TellsHeap, PairHas, EffectHas, IsGraphFor, IsTargetOf, GoesTo}
use Rattle.ja_facts.proofs.LeastLaws.{Least-is_solution, Least-below}
use Rattle.ja_facts.proofs.Empty.{no-heap_fact}
use Rattle.ja_names.specs.Tables.{HasFlags}
use Rattle.ja_effects.specs.Inner.{Pairs, LeastEffects, IsSound, Gains, IsPassed, IsClosedAt, Direct, writes, writes_statics, by_library, HasDirect, HasAllDirect}
use Rattle.ja_effects.proofs.Directing.{one-op, instr-in, op-within}
use Rattle.ja_effects.proofs.Entering.{idle-both}

-- one more of several things is closed
pub closed-more : (P : List (List Bool) → ℕ → Type 0) (a b : Bool) (mid new : List (List Bool)) (k : ℕ) → (a ≡ false → (j : ℕ) → j < k → P mid j) → (b ≡ false → new ≡ mid) → (b ≡ false → P new k)
    → (a || b) ≡ false → (j : ℕ) → j < k + 1 → P new j
closed-more P a b mid new k before idle now e j lt =
    let both = idle-both a b e in
    elim (cases_lt j k) [
      | inl less ↦ subst (λ (t : List (List Bool)). P t j) (sym (idle both.1)) (before both.0 j less)
      | inr past ↦ let same : j ≡ k = omega arith in subst (P new) (sym same) (now both.1)
    ]

-- an item of a list at its place
pub listed-place : {A : Type 0} (xs : List A) (x : A) (c : Contains xs x) → slice_get xs c.0 ≡ Some x
listed-place xs x c = slice_get_read xs (length xs) c.0 x refl c.1 (sym c.2)

module _ (p : Parts) (C : ClassFact → Type 0) where
  -- an instruction that enters a method is there, and reached
  pub enters-op : {m i n count under : ℕ} → Enters p C m i n count under → (instr : Instr) × (instr_at p m i ≡ Some instr)
  enters-op (by_call reached calls at) = (at.at.instr, at.at.found)
  enters-op (by_initializer reached init at) = (at.instr, at.found)

  pub enters-reached : {m i n count under : ℕ} → Enters p C m i n count under → C (Reached m i)
  enters-reached (by_call reached calls at) = reached
  enters-reached (by_initializer reached init at) = reached

  pub enters-within : {m i n count under : ℕ} (method : Method) → slice_get p.methods m ≡ Some method → Enters p C m i n count under → i < length method.code
  enters-within {m} {i} method found e =
      let at = enters-op e in
      slice_get_within method.code i at.0 (sym (ap (λ (o : Option Method). slice_get (code_of o) i) found) ∙ at.1)

  module _ (pairs : Pairs) (table : List (List Bool)) (m i : ℕ) (instr : Instr) (found : instr_at p m i ≡ Some instr) where
    -- an instruction is closed where its calls and its initialising steps are
    pub closed-at : ((n under : ℕ) (call : CallOp) → CallAt p m i call under → C (CallsMethod m i n) → IsPassed p pairs table m i n (arguments call) under)
        → ((n : ℕ) → InitAt p m i n → IsPassed p pairs table m i n 0 instr.height) → IsClosedAt p C pairs table m i
    closed-at calls inits n count under (by_call {call = call} reached goes at) = calls n under call at goes
    closed-at calls inits n count under (by_initializer {height = height} {op = op} reached init at) =
        subst (λ h. IsPassed p pairs table m i n 0 h) (sym (one-op p m i height op instr found at).1) (inits n init)

    -- the one call of an instruction
    pub one-call : (call other : CallOp) (under around : ℕ) → instr.op ≡ Call call → instr.height ≡ under + arguments call → CallAt p m i other around → (other ≡ call) × (around ≡ under)
    one-call call other under around is h at =
        let op : Call other ≡ instr.op = (one-op p m i at.height (Call other) instr found at.at).0 in
        let same : other ≡ call = cc (is, op) in
        let height : at.height ≡ instr.height = (one-op p m i at.height (Call other) instr found at.at).1 in
        let args : arguments other ≡ arguments call = ap arguments same in
        (same, let a = at.under_is in omega arith)

    pub call-passed : (call : CallOp) (under : ℕ) → instr.op ≡ Call call → instr.height ≡ under + arguments call → ((n : ℕ) → C (CallsMethod m i n) → IsPassed p pairs table m i n (arguments call) under)
        → (n around : ℕ) (other : CallOp) → CallAt p m i other around → C (CallsMethod m i n) → IsPassed p pairs table m i n (arguments other) around
    call-passed call under is h passed n around other at goes =
        let one = one-call call other under around is h at in
        subst (λ (k : CallOp). IsPassed p pairs table m i n (arguments k) around) (sym one.0) (subst (λ u. IsPassed p pairs table m i n (arguments call) u) (sym one.1) (passed n goes))

    pub no-call : ((call : CallOp) → instr.op ≡ Call call → ⊥) → (n around : ℕ) (other : CallOp) → CallAt p m i other around → C (CallsMethod m i n) → IsPassed p pairs table m i n (arguments other) around
    no-call none n around other at goes = absurd (none other (sym (one-op p m i at.height (Call other) instr found at.at).0))

    pub init-listed : (n : ℕ) → InitAt p m i n → Contains (inits_of p instr.op) (record { 0 = n })
    init-listed n init =
        let same : init.instr ≡ instr = same_Some init.instr instr (sym init.found ∙ found) in
        subst (λ (x : Instr). Contains (inits_of p x.op) (record { 0 = n })) same init.listed

-- a target of a call takes its arguments
pub target-counts : (p : Parts) (graph : GraphTable) (m i n under : ℕ) (call : CallOp) (callee : Method) → IsGraphFor p graph → CallAt p m i call under → Contains (targets_at graph m i).methods n → slice_get p.methods n ≡ Some callee → arguments call ≤ param_count callee
target-counts p graph m i n under call callee is at listed found =
    let target : IsTargetOf p call n = is.each m i n at.height call at.at listed in
    let same : target.method ≡ callee = same_Some target.method callee (sym target.found ∙ found) in
    let count : param_count callee ≡ arguments call = sym (ap param_count same) ∙ target.is_count in
    omega arith

-- ---- the table at first, and at the end

row-of : (methods : List Method) (m : ℕ) (method : Method) → slice_get methods m ≡ Some method → get_or (map no_effects_of methods) m [] ≡ no_effects_of method
row-of [] m method e = absurd (cc e)
row-of (x ∷ methods) zero method e = ap no_effects_of (same_Some x method e)
row-of (x ∷ methods) (suc m) method e = row-of methods m method e

pub empty-flags : (p : Parts) → HasFlags p (empty_effects p)
empty-flags p m method found = ap length (row-of p.methods m method found) ∙ length-replicate (param_count method + 1) false

module _ (p : Parts) (graph : GraphTable) (pairs : Pairs) where
  pair-least : (m i : ℕ) (a b : Name) → PairHas p pairs m i a b → LeastEffects p graph pairs (PairAt m i a b)
  pair-least m i a b h = Least-is_solution (EffectRule p (TellsGraph p graph) (TellsHeap p (TellsGraph p graph) pairs [])) [] (PairAt m i a b) (given_pair h tt) tt

  direct-least : (m i : ℕ) (r : Root) → Direct p (TellsGraph p graph) pairs m i r → LeastEffects p graph pairs (Effect m r)
  direct-least m i r (writes {x = x} at reached w pair) =
      Least-is_solution (EffectRule p (TellsGraph p graph) (TellsHeap p (TellsGraph p graph) pairs [])) (PairAt m i (OfSlot x) (Old r) ∷ []) (Effect m r) (effect_rule (written_effect at reached w) tt) (pair-least m i (OfSlot x) (Old r) pair, tt)
  direct-least m i r (writes_statics at reached w e) =
      subst (λ k. LeastEffects p graph pairs (Effect m k)) (sym e) (Least-is_solution (EffectRule p (TellsGraph p graph) (TellsHeap p (TellsGraph p graph) pairs [])) [] (Effect m StaticFields) (effect_rule (static_effect at reached w) tt) tt)
  direct-least m i r (by_library x library source pair) =
      Least-is_solution (EffectRule p (TellsGraph p graph) (TellsHeap p (TellsGraph p graph) pairs [])) _ (Effect m r) (effect_rule (library_effect x library source) tt) (pair-least m i _ (Old r) pair, tt)

  pub first-sound : (table : List (List Bool)) → Gains p (empty_effects p) table (λ m r. HasDirect p (TellsGraph p graph) pairs m r) → IsSound p graph pairs table
  first-sound table gains m r h = elim ((gains m r).0 h) [
    | inl none ↦ absurd (no-heap_fact p (TellsGraph p graph) (Effect m r) none)
    | inr d ↦ direct-least m d.i r d.direct
  ]

  pub first-direct : (table : List (List Bool)) → Gains p (empty_effects p) table (λ m r. HasDirect p (TellsGraph p graph) pairs m r) → HasAllDirect p (TellsGraph p graph) pairs table
  first-direct table gains m i r d = (gains m r).1 (inr (record { i = i; direct = d }))

  module _ (table : List (List Bool)) (sound : IsSound p graph pairs table) (direct : HasAllDirect p (TellsGraph p graph) pairs table) (closed : (m i : ℕ) → IsClosedAt p (TellsGraph p graph) pairs table m i) where
    effect-told : (ps : List Fact) (f : Fact) → Rule p (TellsGraph p graph) ps f → IsEffect f → Each (TellsHeap p (TellsGraph p graph) pairs table) ps → TellsHeap p (TellsGraph p graph) pairs table f
    effect-told ps f (written_effect {m = m} {i = i} {r = r} at reached w) is each = direct m i r (writes at reached w each.0)
    effect-told ps f (static_effect {m = m} {i = i} at reached w) is each = direct m i StaticFields (writes_statics at reached w refl)
    effect-told ps f (library_effect {m = m} {i = i} {r = r} x library source) is each = direct m i r (by_library x library source each.0)
    effect-told ps f (entered_effect {m = m} {i = i} {n = n} {count = count} {under = under} {r = r} s enters root) is each = closed m i n count under enters s r root each.0 each.1.0
    effect-told ps f _ is each = absurd is

    same-pairs : (f : Fact) → IsPair f → TellsHeap p (TellsGraph p graph) pairs [] f → TellsHeap p (TellsGraph p graph) pairs table f
    same-pairs (PairAt m i a b) is h = h
    same-pairs (PairWithin m i a b) is h = h
    same-pairs (Effect m r) is h = absurd is

    solves : IsSolution (EffectRule p (TellsGraph p graph) (TellsHeap p (TellsGraph p graph) pairs [])) (TellsHeap p (TellsGraph p graph) pairs table)
    solves ps f (effect_rule rule is) each = effect-told ps f rule is each
    solves ps f (given_pair h is) each = same-pairs f is h

    told-least : (f : Fact) → IsEffect f → TellsHeap p (TellsGraph p graph) pairs table f → LeastEffects p graph pairs f
    told-least (PairAt m i a b) is h = absurd is
    told-least (PairWithin m i a b) is h = absurd is
    told-least (Effect m r) is h = sound m r h

    pub exact : (f : Fact) → IsEffect f → TellsHeap p (TellsGraph p graph) pairs table f ↔ LeastEffects p graph pairs f
    exact f is = (told-least f is, λ l. Least-below (EffectRule p (TellsGraph p graph) (TellsHeap p (TellsGraph p graph) pairs [])) (TellsHeap p (TellsGraph p graph) pairs table) solves f l)

-- the item at a place is in the list
pub item-in : {A : Type 0} (xs : List A) (k : ℕ) (d : A) → k < length xs → Contains xs (get_or xs k d)
item-in xs k d lt = (k, lt, get_or_from_slice_get xs k (get_or xs k d) (get_or xs k d) (slice_get-get_or xs k d lt))

pub not-empty : {A : Type 0} (b : Bool) (xs : List A) → ((b ≡ true) ↔ (xs ≡ [])) → b ≡ false → 0 < length xs
not-empty b [] tells e = absurd (true≢false (sym (tells.1 refl) ∙ e))
not-empty b (x ∷ xs) tells e = omega arith
