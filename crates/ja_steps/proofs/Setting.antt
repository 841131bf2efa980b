-- What a step makes of a set of facts.
use Rattle.std.proofs.Common.{◌≡◌, ℕ, ◌+◌, ◌*◌, ◌/◌, ◌%◌, Bool, true, false, refl, sym, ap, subst, arith, inl, List}
use Rattle.std.specs.Prelude.{◌&&◌, ◌||◌, ◌↔◌, nat_lt, nat_eq, slice_index}
use Rattle.ja_node_core.specs.Tree.{Assignment as Variables}
use Rattle.ja_ir.specs.declared.program.Parts.{Parts}
use Rattle.ja_ir.specs.declared.method.Method.{Method}
use Rattle.ja_facts.specs.declared.facts.Facts.{Facts}
use Rattle.ja_facts.specs.Formulas.{Assignment}
use Rattle.ja_bdd.specs.Functions.{Function, IsFree}
use Rattle.ja_join.specs.declared.rule.Rule.{Rule}
use Rattle.ja_join.specs.Inner.{stepped_from}
use Rattle.ja_join.specs.Steps.{IsStep, IsBelow, LooksAs, IsLow, ArePartsAimed}
use Rattle.ja_join.proofs.Leading.{stepped_is}
use Rattle.ja_join.proofs.Stepping.{gone_stepped, low_stepped}
use Rattle.ja_work.specs.declared.clause.Spot.{Spot}
use Rattle.ja_work.specs.declared.clause.Clause.{Clause}
use Rattle.ja_work.specs.declared.frame.Frame.{Frame}
use Rattle.ja_work.specs.Clauses.{spot_of}
use Rattle.ja_work.specs.Frames.{size, number, spot_at, variable, is_inside, read}
use Rattle.ja_work.specs.Told.{told}
use Rattle.ja_work.specs.Work.{is_param_spot, is_own, is_param_slot, entry_of, IsSet, Saying, IsMethod, IsWorkTree}
use Rattle.ja_work.proofs.Working.{work_aimed, facts_work}
use Rattle.ja_steps.specs.Led.{is_present, IsRuleOf, IsLedOn, Telling, said, Tells, LeadOn}

one_truth : (p q : Bool) → (p ≡ true → q ≡ true) → (q ≡ true → p ≡ true) → p ≡ q
one_truth true q there back = sym (there refl)
one_truth false true there back = back refl
one_truth false false there back = refl

-- a step is one function
step_one : (rule : Rule) (φ χ : Function) → IsStep rule φ χ → χ ≡ stepped_from rule 0 rule.start φ
step_one rule φ χ is i a = one_truth (χ a) (stepped_from rule 0 rule.start φ a)
    (λ t. let from = (is a).0 t in (stepped_is rule φ a).1 from.0 from.1 from.2)
    (λ t. let from = (stepped_is rule φ a).0 t in (is a).1 from.0 from.1 from.2) i

pub step_looks : (rule : Rule) (φ χ : Function) → IsStep rule φ χ → LooksAs rule φ χ
step_looks rule φ χ is v gone = subst (IsFree v) (sym (step_one rule φ χ is)) (gone_stepped rule.accepted 0 rule.moves.items rule.start φ v rule.ascending gone)

pub step_low : (rule : Rule) (φ χ : Function) → IsStep rule φ χ → IsLow φ → IsLow χ
step_low rule φ χ is low = subst IsLow (sym (step_one rule φ χ is)) (low_stepped rule.accepted 0 rule.moves.items rule.start φ rule.ascending low)

pub step_led : (frame : Frame) (clauses : Spot → Clause) (rule : Rule) (φ ψ : Function) → IsRuleOf frame clauses rule → IsStep rule φ ψ ↔ IsLedOn frame clauses φ ψ
step_led frame clauses rule φ ψ of = (
  (λ is after. ((λ t. let from = (is after).0 t in (from.0, (of.leads from.0 after).0 from.1, from.2)), (λ from. (is after).1 from.0 ((of.leads from.0 after).1 from.1) from.2))),
  (λ led after. ((λ t. let from = (led after).0 t in (from.0, (of.leads from.0 after).1 from.1, from.2)), (λ before leads holds. (led after).1 (before, (of.leads before after).0 leads, holds)))),
)

-- a variable at present is one of facts
present_own : (method : Method) (frame : Frame) (v : ℕ) → is_own method frame v ≡ false → is_present frame v ≡ false
present_own method frame v out = by_test (nat_eq (v % 4) 1) (nat_lt (v / 4) (size frame)) (nat_eq (v % 4) 0 && is_param_spot method (spot_at frame (v / 4))) out
  where
    by_test : (c d e : Bool) → (d && (c || e)) ≡ false → (c && d) ≡ false
    by_test true true e f = f
    by_test true false e f = refl
    by_test false d e f = refl

-- a variable at the entry is not one at present
entry_apart : (frame : Frame) (s : Spot) → is_present frame (variable frame s 0) ≡ false
entry_apart frame s = ap (λ c. c && nat_lt (variable frame s 0 / 4) (size frame)) (by_number (slice_index frame.places (number frame s)))
  where
    by_number : (n : ℕ) → nat_eq ((4 * n + 0) % 4) 1 ≡ false
    by_number n = let e : (4 * n + 0) % 4 ≡ 0 = omega arith in ap (λ x. nat_eq x 1) e

-- what is said of the entry stays
pub entry_stays : (method : Method) (frame : Frame) (before after : Variables) → ((v : ℕ) → is_present frame v ≡ false → before v ≡ after v) → entry_of method frame before ≡ entry_of method frame after
entry_stays method frame before after others i = record {
  slot = λ z. is_param_slot method z && (is_inside frame (spot_of z) && others (variable frame (spot_of z) 0) (entry_apart frame (spot_of z)) i);
  dirt = false;
  exc = false;
}

module _ (p : Parts) (f : Facts) (m : ℕ) (method : Method) (frame : Frame) (clauses : Spot → Clause) (rule : Rule) (first second : Telling p (told p f)) (φ χ : Function)
    (of : IsRuleOf frame clauses rule) (lead : LeadOn p (told p f) m clauses first second) (set : IsSet method frame (Tells p (told p f) m first) φ) (is : IsStep rule φ χ) where
  pub part_set : (ψ : Function) → LooksAs rule φ ψ → IsBelow ψ χ → IsSet method frame (Tells p (told p f) m second) ψ
  part_set ψ looks below = record {
    facts = λ after t.
        let from = (is after).0 (below after t) in
        let led = (of.leads from.0 after).0 from.1 in
        subst (λ (a : Assignment). Tells p (told p f) m second a (read frame 1 after)) (entry_stays method frame from.0 after led.others)
        (lead (entry_of method frame from.0) (read frame 1 from.0) (read frame 1 after) (set.facts from.0 from.2) led.fits);
    own = λ v out. looks v (inl (of.still v (present_own method frame v out), set.own v out));
  }

pub parts_aimed : (p : Parts) (f : Facts) (frames : List Frame) (m : ℕ) (method : Method) (frame : Frame) (saying : Saying p (told p f)) (clauses : Spot → Clause) (rule : Rule) (first : Telling p (told p f)) (φ χ : Function)
    → IsMethod p (told p f) frames m method frame → IsRuleOf frame clauses rule → LeadOn p (told p f) m clauses first (said saying) → IsSet method frame (Tells p (told p f) m first) φ → IsStep rule φ χ
    → ArePartsAimed (IsWorkTree p (told p f) frames) rule φ χ
parts_aimed p f frames m method frame saying clauses rule first φ χ method_is of lead set is ψ low looks below =
    work_aimed p (told p f) frames ψ (facts_work p (told p f) frames m method frame saying ψ method_is (part_set p f m method frame clauses rule first (said saying) φ χ of lead set is ψ looks below))
