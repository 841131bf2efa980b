-- The flags of a closed list that is sound are the verdicts.
use Rattle.std.proofs.Common.{◌≡◌, ◌⊎◌, ◌↔◌, inl, inr, ℕ, ◌-◌, ◌+◌, ◌≤◌, Bool, true, false, List, [], ◌∷◌, Some, None, refl, sym, ap, subst, ◌∙◌, arith, map}
use Rattle.std.specs.Prelude.{◌&&◌, ◌==◌, Contains, Option, IsTrue, slice_get}
use Rattle.std.specs.List.{list_any}
use Rattle.std.proofs.lemmas.Bool.{and_parts, and_from, or_cases, or_left, or_right, false≢true, eqb-true, eq-eqb}
use Rattle.std.proofs.lemmas.Option.{same_Some}
use Rattle.ja_ir.specs.declared.program.Parts.{Parts}
use Rattle.ja_ir.specs.declared.method.Method.{Method}
use Rattle.ja_ir.specs.declared.method.Instr.{Instr}
use Rattle.ja_ir.specs.declared.entry.Site.{Site}
use Rattle.ja_ir.specs.declared.op.CallOp.{CallOp}
use Rattle.ja_ir.specs.declared.op.Op.{Op}
use Rattle.ja_ir.specs.declared.op.Op.TheVariants.{Call}
use Rattle.ja_ir.specs.Lookup.{OpAt, instr_at, code_of}
use Rattle.ja_ir.specs.Operations.{arguments, pops}
use Rattle.ja_ir.specs.Whole.{IsWhole}
use Rattle.ja_facts.specs.declared.facts.Facts.{Facts}
use Rattle.ja_facts.specs.Slots.{CallAt, argument}
use Rattle.ja_facts.specs.Formulas.{Assignment}
use Rattle.ja_facts.specs.Equations as equations
use Rattle.ja_facts.specs.Equations.{Fact, IsWarned}
use Rattle.ja_facts.specs.Verdict.{AreVerdictsOf}
use Rattle.ja_work.proofs.NormalEnds as ends
use Rattle.ja_explicit.specs.Given.{AreGiven, Taints}
use Rattle.ja_explicit.specs.declared.item.Item.{Item}
use Rattle.ja_explicit.specs.declared.item.Item.TheVariants.{Context, At, Normal, Threw, Stored}
use Rattle.ja_explicit.specs.InnerWords.{says}
use Rattle.ja_explicit.specs.InnerRounds as rounds
use Rattle.ja_explicit.specs.InnerRounds.{says_in, says_of, IsSound, IsClosed}
use Rattle.ja_explicit.proofs.Lists.{here, there, cons_cases, nothing_in}
use Rattle.ja_explicit.proofs.Wholeness.{runs_there}
use Rattle.ja_explicit.proofs.Complete.{CoversAt}
use Rattle.ja_explicit.proofs.Closed.{covers_all}

some_of : {A : Type 0} (test : A → Bool) (xs : List A) → list_any test xs ≡ true → (x : A) × Contains xs x × (test x ≡ true)
some_of test [] e = absurd (false≢true e)
some_of test (x ∷ xs) e = elim (or_cases (test x) (list_any test xs) e) [
  | inl is ↦ (x, here x xs, is)
  | inr rest ↦ (let r = some_of test xs rest in (r.0, there x xs r.0 r.1, r.2))
]

of_some : {A : Type 0} (test : A → Bool) (xs : List A) (x : A) → Contains xs x → test x ≡ true → list_any test xs ≡ true
of_some test [] x h e = nothing_in x h
of_some test (y ∷ xs) x h e = elim (cons_cases y xs x h) [
  | inl is ↦ or_left (test y) (list_any test xs) (ap test is ∙ e)
  | inr rest ↦ or_right (test y) (list_any test xs) (of_some test xs x rest e)
]

module _ (p : Parts) (f : Facts) (whole : IsWhole p) (given : AreGiven p f) (items : List Item) (sound : IsSound p f items) (closed : IsClosed p f items) (site : Site) where
  -- a fact that warns the site
  module _ (i a b : ℕ) (same : i ≡ site.index) (listed : Contains items (At site.method.0 i a b)) where
    by_op : (method : Method) (instr : Instr) → slice_get p.methods site.method.0 ≡ Some method → slice_get method.code i ≡ Some instr → rounds.warns_at_op instr.op instr.height (says method b) site.positions ≡ true → IsWarned p (Taints p f) site
    by_op method instr found at h = go instr.op refl h
      where
        it : CoversAt p f items site.method.0 i (says_of p site.method.0 a) (says_of p site.method.0 b)
        it = covers_all p f whole given items closed (equations.At site.method.0 i (says_of p site.method.0 a) (says_of p site.method.0 b)) (sound (At site.method.0 i a b) listed)

        same_method : it.method ≡ method
        same_method = same_Some it.method method (sym it.found ∙ found)

        same_code : it.instr ≡ instr
        same_code = same_Some it.instr instr (sym it.at ∙ ap (λ (x : Method). slice_get x.code i) same_method ∙ at)

        reached : instr.reached ≡ true
        reached = subst (λ (x : Instr). x.reached ≡ true) same_code it.reached

        enough : pops instr.op ≤ instr.height
        enough = ends.takes instr.op instr.height (runs_there p whole site.method.0 method found i instr at reached).operands

        go : (op : Op) → instr.op ≡ op → rounds.warns_at_op op instr.height (says method b) site.positions ≡ true → IsWarned p (Taints p f) site
        go (Call call) is e =
            let r = some_of (λ k. (says method b).slot (argument (instr.height - arguments call) k)) site.positions e in
            let le : arguments call ≤ instr.height = subst (λ (o : Op). pops o ≤ instr.height) is enough in
            let at_m : instr_at p site.method.0 site.index ≡ Some instr = subst (λ k. instr_at p site.method.0 k ≡ Some instr) same (ap (λ o. slice_get (code_of o) i) found ∙ at) in
            record {
              call = call;
              under = instr.height - arguments call;
              at = record { height = instr.height; at = record { instr = instr; found = at_m; is_op = is; is_height = refl }; under_is = omega (arith, le) };
              a = says_of p site.method.0 a;
              b = says_of p site.method.0 b;
              fact = subst (λ k. Taints p f (equations.At site.method.0 k (says_of p site.method.0 a) (says_of p site.method.0 b))) same (sound (At site.method.0 i a b) listed);
              k = r.0;
              listed = r.1;
              true_argument = subst (λ (x : Assignment). x.slot (argument (instr.height - arguments call) r.0) ≡ true) (sym (ap (λ o. says_in o b) found)) r.2;
            }
        go _ is e = absurd (false≢true e)

    by_instr : (method : Method) → slice_get p.methods site.method.0 ≡ Some method → (o : Option Instr) → slice_get method.code i ≡ o → rounds.warns_in_code method o b site.positions ≡ true → IsWarned p (Taints p f) site
    by_instr method found None at h = absurd (false≢true h)
    by_instr method found (Some instr) at h = by_op method instr found at h

    by_method : (o : Option Method) → slice_get p.methods site.method.0 ≡ o → rounds.warns_in o i b site.positions ≡ true → IsWarned p (Taints p f) site
    by_method None found h = absurd (false≢true h)
    by_method (Some method) found h = by_instr method found (slice_get method.code i) refl h

  by_item : (x : Item) → Contains items x → rounds.warns p site x ≡ true → IsWarned p (Taints p f) site
  by_item (At m i a b) listed h =
      let parts = and_parts (m == site.method.0) ((i == site.index) && rounds.warns_in (slice_get p.methods m) i b site.positions) h in
      let more = and_parts (i == site.index) (rounds.warns_in (slice_get p.methods m) i b site.positions) parts.1 in
      let same = eqb-true m site.method.0 parts.0 in
      by_method i a b (eqb-true i site.index more.0) (subst (λ k. Contains items (At k i a b)) same listed) (slice_get p.methods site.method.0) refl
      (subst (λ k. rounds.warns_in (slice_get p.methods k) i b site.positions ≡ true) same more.1)
  by_item (Context m a) listed h = absurd (false≢true h)
  by_item (Normal m a r d) listed h = absurd (false≢true h)
  by_item (Threw m a d e) listed h = absurd (false≢true h)
  by_item (Stored c) listed h = absurd (false≢true h)

  flag_warns : rounds.is_warned p items site ≡ true → IsWarned p (Taints p f) site
  flag_warns e = let r = some_of (rounds.warns p site) items e in by_item r.0 r.1 r.2

  warns_flag : IsWarned p (Taints p f) site → rounds.is_warned p items site ≡ true
  warns_flag w = of_some (rounds.warns p site) items (At site.method.0 site.index it.entry it.word) it.listed
      (and_from (site.method.0 == site.method.0) ((site.index == site.index) && rounds.warns_in (slice_get p.methods site.method.0) site.index it.word site.positions) (eq-eqb site.method.0 site.method.0 refl)
      (and_from (site.index == site.index) (rounds.warns_in (slice_get p.methods site.method.0) site.index it.word site.positions) (eq-eqb site.index site.index refl)
      (subst (λ o. rounds.warns_in o site.index it.word site.positions ≡ true) (sym it.found)
      (subst (λ o. rounds.warns_in_code it.method o it.word site.positions ≡ true) (sym it.at)
      (subst (λ (o : Op). rounds.warns_at_op o it.instr.height (says it.method it.word) site.positions ≡ true) (sym is)
      (of_some (λ k. (says it.method it.word).slot (argument (it.instr.height - arguments w.call) k)) site.positions w.k w.listed
      (subst (λ u. (says it.method it.word).slot (argument u w.k) ≡ true) (sym base) (subst (λ (x : Assignment). x.slot (argument w.under w.k) ≡ true) (sym it.same) w.true_argument))))))))
    where
      it : CoversAt p f items site.method.0 site.index w.a w.b
      it = covers_all p f whole given items closed (equations.At site.method.0 site.index w.a w.b) w.fact

      same_code : w.at.at.instr ≡ it.instr
      same_code = same_Some w.at.at.instr it.instr (sym w.at.at.found ∙ ap (λ o. slice_get (code_of o) site.index) it.found ∙ it.at)

      is : it.instr.op ≡ Call w.call
      is = ap (λ (x : Instr). x.op) (sym same_code) ∙ w.at.at.is_op

      base : it.instr.height - arguments w.call ≡ w.under
      base = let h : it.instr.height ≡ w.at.height = ap (λ (x : Instr). x.height) (sym same_code) ∙ w.at.at.is_height in let u = w.at.under_is in omega (arith, h, u)

  pub flag_is : IsTrue (rounds.is_warned p items site) ↔ IsWarned p (Taints p f) site
  flag_is = (flag_warns, warns_flag)

module _ (p : Parts) (f : Facts) (whole : IsWhole p) (given : AreGiven p f) (items : List Item) (sound : IsSound p f items) (closed : IsClosed p f items) where
  pub flags_verdicts : (sites : List Site) → AreVerdictsOf p (λ c. Taints p f) sites (map (rounds.is_warned p items) sites)
  flags_verdicts [] = tt
  flags_verdicts (site ∷ sites) = (flag_is p f whole given items sound closed site, flags_verdicts sites)
