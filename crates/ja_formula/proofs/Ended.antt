-- The functions of the ends of an instruction, and what is made of them, by tests that say what the tables do.
use Rattle.std.proofs.Common.{◌≡◌, ℕ, Bool, true, false, refl, sym, ap, ◌∙◌, subst, Some}
use Rattle.std.specs.Prelude.{◌&&◌, ◌↔◌}
use Rattle.std.proofs.Math.Logic.{∥∥₁_elim}
use Rattle.std.proofs.Math.Nat.{ℕ_set}
use Rattle.std.proofs.Math.Bridge.{le_prop}
use Rattle.std.proofs.lemmas.Bool.{and_parts, and_from}
use Rattle.ja_ir.specs.declared.program.Parts.{Parts}
use Rattle.ja_ir.specs.declared.method.Instr.{Instr}
use Rattle.ja_ir.specs.Lookup.{instr_at}
use Rattle.ja_node_core.specs.Tree.{Assignment as Variables}
use Rattle.ja_node_core.specs.Node.{Words}
use Rattle.ja_bdd.specs.Functions.{Function}
use Rattle.ja_bdd.specs.Meaning.{meaning, IsMeant}
use Rattle.ja_facts.specs.declared.facts.Facts.{Facts}
use Rattle.ja_facts.specs.Formulas.{IsNormalEnd, IsExceptionalEnd}
use Rattle.ja_work.specs.declared.frame.Frame.{Frame}
use Rattle.ja_work.specs.declared.way.Way.{Way}
use Rattle.ja_work.specs.Orders.{IsOrder}
use Rattle.ja_work.specs.Ends.{Tests, may_go_on, normal_clauses, may_end, exceptional_clauses}
use Rattle.ja_work.specs.Frames.{size, read, whole}
use Rattle.ja_work.specs.Thrown.{ends_thrown}
use Rattle.ja_work.specs.Told.{told, tests_of}
use Rattle.ja_work.proofs.WholeEnds.{normal_fit, fit_normal, exceptional_fit, fit_exceptional}
use Rattle.ja_work.proofs.Framing.{whole_fits, fits_whole}
use Rattle.ja_work.proofs.Outside.{normal_outside, thrown_fits, fits_thrown}
use Rattle.ja_work.proofs.Telling.{tests_told}
use Rattle.ja_formula.specs.Formulas.{normal_by, thrown_by, normal_formula, thrown_formula}
use Rattle.ja_formula.specs.Made.{IsRulePart, IsNormalPart, of_normal, IsThrownPart, of_way, whole_thrown}
use Rattle.ja_formula.specs.Inner.{IsRoomy}

and_same : (x y z : Bool) → ((x && y) && z) ≡ (x && (y && z))
and_same true y z = refl
and_same false y z = refl

-- that a frame's slots are in an order is a fact of at most one proof
frame_order : (frame : Frame) → IsOrder (size frame) frame.places frame.slots
frame_order frame = ∥∥₁_elim frame.order (hlevel (ℕ_set, le_prop)) (λ (o : IsOrder (size frame) frame.places frame.slots). o)

module _ (p : Parts) (f : Facts) (frame : Frame) (m i : ℕ) (instr : Instr) (found : instr_at p m i ≡ Some instr) where
  -- by the instruction that is there
  normal_there : normal_by frame (tests_of p f m i) (Some instr) ≡ normal_formula p f frame m i
  normal_there = ap (normal_by frame (tests_of p f m i)) (sym found)

  thrown_there : thrown_by frame (tests_of p f m i) (Some instr) ≡ thrown_formula p f frame m i
  thrown_there = ap (thrown_by frame (tests_of p f m i)) (sym found)

  pub thrown_unreached : instr.reached ≡ false → (λ a. false) ≡ thrown_formula p f frame m i
  thrown_unreached e = ap (λ b a. b && ends_thrown frame (tests_of p f m i) instr.op instr.height a) (sym e) ∙ thrown_there

  module _ (tests : Tests) (same : tests ≡ tests_of p f m i) where
    -- where there is a normal end, or none
    normal_either : (b : Bool) → (instr.reached && may_go_on tests instr.op) ≡ b → (λ a. b && whole frame (normal_clauses tests instr.op instr.height) a) ≡ normal_formula p f frame m i
    normal_either b e =
        ap (λ c a. c && whole frame (normal_clauses tests instr.op instr.height) a) (sym e)
        ∙ (λ j a. and_same instr.reached (may_go_on tests instr.op) (whole frame (normal_clauses tests instr.op instr.height) a) j)
        ∙ ap (λ t. normal_by frame t (Some instr)) same
        ∙ normal_there

    pub normal_present : (instr.reached && may_go_on tests instr.op) ≡ true → whole frame (normal_clauses tests instr.op instr.height) ≡ normal_formula p f frame m i
    normal_present e = normal_either true e

    pub normal_absent : (instr.reached && may_go_on tests instr.op) ≡ false → (λ a. false) ≡ normal_formula p f frame m i
    normal_absent e = normal_either false e

    pub normal_part : (instr.reached && may_go_on tests instr.op) ≡ true → (φ : Function) → IsRulePart frame (normal_clauses tests instr.op instr.height) φ → IsNormalPart p f frame m i φ
    normal_part e φ part =
        let parts = and_parts instr.reached (may_go_on tests instr.op) e in
        of_normal instr found parts.0 (subst (λ t. may_go_on t instr.op ≡ true) same parts.1) (subst (λ t. IsRulePart frame (normal_clauses t instr.op instr.height) φ) same part)

    module _ (reached : instr.reached ≡ true) where
      pub thrown_reached : ends_thrown frame tests instr.op instr.height ≡ thrown_formula p f frame m i
      thrown_reached = ap (λ b a. b && ends_thrown frame tests instr.op instr.height a) (sym reached) ∙ ap (λ t. thrown_by frame t (Some instr)) same ∙ thrown_there

      pub way_part : (way : Way) → may_end tests instr.op way ≡ true → (φ : Function) → IsRulePart frame (exceptional_clauses way tests instr.op instr.height) φ → IsThrownPart p f frame m i φ
      way_part way ends φ part =
          of_way instr way found reached (subst (λ t. may_end t instr.op way ≡ true) same ends) (subst (λ t. IsRulePart frame (exceptional_clauses way t instr.op instr.height) φ) same part)

      pub thrown_part : IsThrownPart p f frame m i (ends_thrown frame tests instr.op instr.height)
      thrown_part = subst (λ t. IsThrownPart p f frame m i (ends_thrown frame t instr.op instr.height)) (sym same) (whole_thrown instr found reached)

  module _ (roomy : instr.reached ≡ true → IsRoomy frame instr) (a : Variables) where
    same_instr : (other : Instr) → instr_at p m i ≡ Some other → other ≡ instr
    same_instr other is = let both : Some other ≡ Some instr = sym is ∙ found in cc both

    normal_to : normal_formula p f frame m i a ≡ true → IsNormalEnd p (told p f) m i (read frame 1 a) (read frame 2 a)
    normal_to e =
        let tests = tests_of p f m i in
        let clauses = normal_clauses tests instr.op instr.height in
        let h : normal_by frame tests (Some instr) a ≡ true = subst (λ (φ : Function). φ a ≡ true) (sym normal_there) e in
        let one = and_parts instr.reached (may_go_on tests instr.op && whole frame clauses a) h in
        let two = and_parts (may_go_on tests instr.op) (whole frame clauses a) one.1 in
        let is = roomy one.0 in
        fit_normal p (told p f) m i instr tests (read frame 1 a) (read frame 2 a) found is.finds (tests_told p f m i)
        (one.0, two.0, whole_fits frame clauses a (frame_order frame) (normal_outside frame tests instr.op instr.height is.room) two.1)

    normal_from : IsNormalEnd p (told p f) m i (read frame 1 a) (read frame 2 a) → normal_formula p f frame m i a ≡ true
    normal_from end =
        let tests = tests_of p f m i in
        let clauses = normal_clauses tests instr.op instr.height in
        let is = roomy (subst (λ (x : Instr). x.reached ≡ true) (same_instr end.instr end.found) end.reached) in
        let all = normal_fit p (told p f) m i instr tests (read frame 1 a) (read frame 2 a) found is.finds (tests_told p f m i) end in
        subst (λ (φ : Function). φ a ≡ true) normal_there
        (and_from instr.reached (may_go_on tests instr.op && whole frame clauses a) all.0
        (and_from (may_go_on tests instr.op) (whole frame clauses a) all.1 (fits_whole frame clauses a (frame_order frame) (normal_outside frame tests instr.op instr.height is.room) all.2)))

    -- the function of the normal end is true exactly where the normal end is
    pub normal_means : (normal_formula p f frame m i a ≡ true) ↔ IsNormalEnd p (told p f) m i (read frame 1 a) (read frame 2 a)
    normal_means = (normal_to, normal_from)

    thrown_to : thrown_formula p f frame m i a ≡ true → IsExceptionalEnd p (told p f) m i (read frame 1 a) (read frame 2 a)
    thrown_to e =
        let tests = tests_of p f m i in
        let h : thrown_by frame tests (Some instr) a ≡ true = subst (λ (φ : Function). φ a ≡ true) (sym thrown_there) e in
        let parts = and_parts instr.reached (ends_thrown frame tests instr.op instr.height a) h in
        let is = roomy parts.0 in
        fit_exceptional p (told p f) m i instr tests (read frame 1 a) (read frame 2 a) found is.finds (tests_told p f m i) (parts.0, thrown_fits frame tests instr.op instr.height a (frame_order frame) parts.1)

    thrown_from : IsExceptionalEnd p (told p f) m i (read frame 1 a) (read frame 2 a) → thrown_formula p f frame m i a ≡ true
    thrown_from end =
        let tests = tests_of p f m i in
        let is = roomy (subst (λ (x : Instr). x.reached ≡ true) (same_instr end.instr end.found) end.reached) in
        let all = exceptional_fit p (told p f) m i instr tests (read frame 1 a) (read frame 2 a) found is.finds (tests_told p f m i) end in
        subst (λ (φ : Function). φ a ≡ true) thrown_there
        (and_from instr.reached (ends_thrown frame tests instr.op instr.height a) all.0 (fits_thrown frame tests instr.op instr.height a (frame_order frame) all.1.0 all.1.1 all.1.2))

    -- and that of the exceptional end where the exceptional end is
    pub thrown_means : (thrown_formula p f frame m i a ≡ true) ↔ IsExceptionalEnd p (told p f) m i (read frame 1 a) (read frame 2 a)
    thrown_means = (thrown_to, thrown_from)

-- a node that means a function is true where the function is
pub node_means : (k : Words) (n : ℕ) (φ : Function) (holds : Variables → Type 0) → IsMeant k n φ → ((a : Variables) → (φ a ≡ true) ↔ holds a) → (a : Variables) → (meaning k n a ≡ true) ↔ holds a
node_means k n φ holds is means = subst (λ (χ : Function). (a : Variables) → (χ a ≡ true) ↔ holds a) (sym is.1) means
