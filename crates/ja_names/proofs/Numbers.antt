-- The numbers of names.
use Rattle.std.proofs.Common.{◌≡◌, ◌⊎◌, ◌↔◌, inl, inr, ℕ, suc, ◌+◌, ◌<◌, ◌≤◌, Bool, List, [], Some, length, get_or, refl, sym, ap, subst, ◌∙◌, arith}
use Rattle.std.specs.Prelude.{slice_get}
use Rattle.std.proofs.lemmas.Bool.{cases_lt}
use Rattle.std.proofs.lemmas.Option.{same_Some}
use Rattle.ja_ir.specs.declared.program.Parts.{Parts}
use Rattle.ja_ir.specs.declared.method.Method.{Method}
use Rattle.ja_ir.specs.Params.{param_count}
use Rattle.ja_sets.specs.Sets.{HasPair}
use Rattle.ja_facts.specs.Slots.{Slot, Local, OnStack}
use Rattle.ja_facts.specs.Sharing.{Root, Arg, StaticFields, Name, OfSlot, Statics, Old}
use Rattle.ja_facts.specs.FactTables.{slot_count, name_count}
use Rattle.ja_facts.specs.Told.{IsNumbered, numbered_local, numbered_stack, IsNamed, named_slot, named_statics, named_old_argument, named_old_statics, PairHas, IsEffectNumber, effect_on_argument, effect_on_statics}

module _ (method : Method) where
  one-slot : {z : Slot} {x y : ℕ} → IsNumbered method z x → IsNumbered method z y → x ≡ y
  one-slot (numbered_local a) (numbered_local b) = refl
  one-slot (numbered_stack k a e) (numbered_stack l b f) = e ∙ sym f

  -- a name has one number
  pub one-number : {a : Name} {x y : ℕ} → IsNamed method a x → IsNamed method a y → x ≡ y
  one-number (named_slot a) (named_slot b) = one-slot a b
  one-number (named_statics e) (named_statics f) = e ∙ sym f
  one-number (named_old_argument k a e) (named_old_argument l b f) = e ∙ sym f
  one-number (named_old_statics e) (named_old_statics f) = e ∙ sym f

  -- the number of an effect says that of what its root reached when the method began
  pub old-named : {r : Root} {k : ℕ} → IsEffectNumber method r k → IsNamed method (Old r) (slot_count method + 1 + k)
  old-named (effect_on_argument {k = k} lt) = named_old_argument k lt refl
  old-named (effect_on_statics e) = named_old_statics (ap (λ n. slot_count method + 1 + n) e)

  pub named-old : {r : Root} {n : ℕ} → IsNamed method (Old r) n → (k : ℕ) × IsEffectNumber method r k × (n ≡ slot_count method + 1 + k)
  named-old (named_old_argument k lt e) = (k, effect_on_argument lt, e)
  named-old (named_old_statics e) = (param_count method, effect_on_statics refl, e)

  pub one-root : {r s : Root} {k l : ℕ} → IsEffectNumber method r k → IsEffectNumber method s l → k ≡ l → r ≡ s
  one-root (effect_on_argument a) (effect_on_argument b) e = ap Arg e
  one-root (effect_on_argument a) (effect_on_statics f) e = absurd (omega arith)
  one-root (effect_on_statics f) (effect_on_argument a) e = absurd (omega arith)
  one-root (effect_on_statics f) (effect_on_statics g) e = refl

  pub one-effect : {r : Root} {k l : ℕ} → IsEffectNumber method r k → IsEffectNumber method r l → k ≡ l
  one-effect (effect_on_argument a) (effect_on_argument b) = refl
  one-effect (effect_on_statics e) (effect_on_statics f) = e ∙ sym f

  pub effect-below : {r : Root} {k : ℕ} → IsEffectNumber method r k → k ≤ param_count method
  effect-below (effect_on_argument lt) = omega arith
  effect-below (effect_on_statics e) = omega arith

  pub root-of : (k : ℕ) → k ≤ param_count method → (r : Root) × IsEffectNumber method r k
  root-of k le = elim (cases_lt k (param_count method)) [
    | inl lt ↦ (Arg k, effect_on_argument lt)
    | inr past ↦ (StaticFields, effect_on_statics (omega arith))
  ]

  -- each name has a number below their count
  pub named-below : {a : Name} {x : ℕ} → IsNamed method a x → x < name_count method
  named-below (named_slot (numbered_local lt)) = omega arith
  named-below (named_slot (numbered_stack k lt e)) = omega arith
  named-below (named_statics e) = omega arith
  named-below (named_old_argument k lt e) = omega arith
  named-below (named_old_statics e) = omega arith

-- a pair of names is in a table where that of their numbers is
pub pair-told : (p : Parts) (pairs : List (List (List (List Bool)))) (m i : ℕ) (method : Method) (a b : Name) (x y : ℕ) → slice_get p.methods m ≡ Some method → IsNamed method a x → IsNamed method b y
    → PairHas p pairs m i a b ↔ HasPair (get_or (get_or pairs m []) i []) x y
pair-told p pairs m i method a b x y found na nb = (
  λ h.
      let same : h.method ≡ method = same_Some h.method method (sym h.found ∙ found) in
      let ex : h.first ≡ x = one-number method (subst (λ (q : Method). IsNamed q a h.first) same h.is_first) na in
      let ey : h.second ≡ y = one-number method (subst (λ (q : Method). IsNamed q b h.second) same h.is_second) nb in
      subst (λ u. HasPair (get_or (get_or pairs m []) i []) u y) ex (subst (λ v. HasPair (get_or (get_or pairs m []) i []) h.first v) ey h.member),
  λ has. record { method = method; found = found; first = x; second = y; is_first = na; is_second = nb; member = has },
)
