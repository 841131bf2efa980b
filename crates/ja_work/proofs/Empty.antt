-- A program without methods has no work: all its functions are constant.
use Rattle.std.proofs.Common.{◌≡◌, ◌∙◌, ℕ, zero, suc, Bool, true, false, refl, sym, subst, ap, List, [], ◌∷◌, Some, slice_get}
use Rattle.std.specs.Prelude.{◌&&◌, ◌||◌}
use Rattle.ja_ir.specs.declared.program.Parts.{Parts}
use Rattle.ja_ir.specs.declared.method.Method.{Method}
use Rattle.ja_node_core.specs.Tree.{Tree, leaf, branch, truth, IsReduced, Assignment as Variables}
use Rattle.ja_node_core.proofs.Reduced.{same_tree}
use Rattle.ja_bdd.specs.Functions.{Function}
use Rattle.ja_bdd.specs.Meaning.{with_below}
use Rattle.ja_bdd.specs.Copies.{forgotten_if, forgotten_below}
use Rattle.ja_facts.specs.Analyses.{Analyses}
use Rattle.ja_work.specs.declared.frame.Frame.{Frame}
use Rattle.ja_work.specs.Work.{IsMethod, IsVariable, Saying, IsSome, some_of, IsOfMethod, contexts, returned, thrown, IsClauses, one_clause, rest_of_rule, whole_exceptional, IsPart, everything, as_it_is, placed, IsLiteral, one_literal, IsProduct, IsWork, product, piece, forgot, renamed_as, fixed_at, low, high, IsWorkTree}

abbrev IsConstant : Function → Type 0
IsConstant φ = (b : Bool) × ((a : Variables) → φ a ≡ b)

and_same : (x y z w : Bool) → x ≡ y → z ≡ w → (x && z) ≡ (y && w)
and_same x y z w e f = ap (λ t. t && z) e ∙ ap (λ t. y && t) f

either_same : (x y b : Bool) → x ≡ b → y ≡ b → (x || y) ≡ b
either_same x y true e f = ap (λ t. t || y) e
either_same x y false e f = ap (λ t. t || y) e ∙ f

-- forgetting variables of a constant function leaves it as it is
forgotten_same : (g : Bool) (v : ℕ) (φ : Function) (b : Bool) → ((a : Variables) → φ a ≡ b) → (a : Variables) → forgotten_if g v φ a ≡ b
forgotten_same true v φ b same a = either_same (φ _) (φ _) b (same _) (same _)
forgotten_same false v φ b same a = same a

below_same : (n : ℕ) (goes : ℕ → Bool) (φ : Function) (b : Bool) → ((a : Variables) → φ a ≡ b) → (a : Variables) → forgotten_below n goes φ a ≡ b
unfolding forgotten_below
below_same zero goes φ b same a = same a
below_same (suc n) goes φ b same a = forgotten_same (goes n) n (forgotten_below n goes φ) b (below_same n goes φ b same) a

module _ (p : Parts) (A : Analyses) (frames : List Frame) (none : p.methods ≡ []) where
  no_method : (m : ℕ) (method : Method) (frame : Frame) → IsMethod p A frames m method frame → ⊥
  no_method m method frame is = cc (subst (λ (methods : List Method). slice_get methods m ≡ Some method) none is.found)

  no_some : (m : ℕ) (saying : Saying p A) (φ : Function) → IsSome p A frames m saying φ → ⊥
  no_some m saying _ (some_of φ is set) = no_method m _ _ is

  none_of_method : (m : ℕ) (φ : Function) → IsOfMethod p A frames m φ → ⊥
  none_of_method m _ (contexts φ is) = no_some m _ φ is
  none_of_method m _ (returned φ is) = no_some m _ φ is
  none_of_method m _ (thrown φ is) = no_some m _ φ is

  no_clauses : (m i : ℕ) (φ : Function) → IsClauses p A frames m i φ → ⊥
  no_clauses m i _ (one_clause place is rule lt) = no_method m _ _ is
  no_clauses m i _ (rest_of_rule place count is rule e) = no_method m _ _ is
  no_clauses m i _ (whole_exceptional tests is at are) = no_method m _ _ is

  no_literal : (φ : Function) → IsLiteral p A frames φ → ⊥
  no_literal _ (one_literal v positive is) = no_method is.m is.method is.frame is.is

  part_constant : (kind : Function → Type 0) → ((φ : Function) → kind φ → ⊥) → (φ : Function) → IsPart p A frames kind φ → IsConstant φ
  part_constant kind lacks _ everything = (true, λ a. refl)
  part_constant kind lacks _ (as_it_is φ is) = absurd (lacks φ is)
  part_constant kind lacks _ (placed φ partner is at) = absurd (lacks φ is)

  product_constant : (φ : Function) → IsProduct p A frames φ → IsConstant φ
  product_constant φ r =
      let f = part_constant _ (no_some r.m _) r.first.0 r.first.1 in
      let s = part_constant _ (none_of_method r.n) r.second.0 r.second.1 in
      let t = part_constant _ (no_some r.m _) r.third.0 r.third.1 in
      let k = part_constant _ (no_clauses r.m r.i) r.clauses.0 r.clauses.1 in
      let l = part_constant _ no_literal r.literal.0 r.literal.1 in (
        f.0 && (s.0 && (t.0 && (k.0 && l.0))),
        λ a. r.is a ∙ and_same _ _ _ _ (f.1 a) (and_same _ _ _ _ (s.1 a) (and_same _ _ _ _ (t.1 a) (and_same _ _ _ _ (k.1 a) (l.1 a)))),
      )

  no_branch : (v : ℕ) (l h : Tree) → IsReduced (branch v l h) → IsConstant (truth (branch v l h)) → ⊥
  no_branch v l h reduced (b, same) = let e : branch v l h ≡ leaf b = same_tree (branch v l h) (leaf b) reduced tt same in cc e

  constant : (φ : Function) → IsWork p A frames φ → IsConstant φ
  constant _ (product φ is) = product_constant φ is
  constant _ (piece φ place is rule lt part) = absurd (no_method _ _ _ is)
  constant _ (forgot φ goes n is) = let c = constant φ is in (c.0, below_same n goes φ c.0 c.1)
  constant _ (renamed_as φ partner is at) = let c = constant φ is in (c.0, λ a. c.1 (λ v. a (partner v)))
  constant _ (fixed_at φ v below is) = let c = constant φ is in (c.0, λ a. c.1 (with_below v below a))
  constant _ (low v l h reduced is) = absurd (no_branch v l h reduced (constant (truth (branch v l h)) is))
  constant _ (high v l h reduced is) = absurd (no_branch v l h reduced (constant (truth (branch v l h)) is))

  -- a tree of the work is a constant
  pub only_leaves : (t : Tree) → IsWorkTree p A frames t → (b : Bool) × (t ≡ leaf b)
  only_leaves t (reduced, is) = let c = constant (truth t) is in (c.0, same_tree t (leaf c.0) reduced tt c.1)
