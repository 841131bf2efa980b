-- Where two functions are true is found in their parts.
use Rattle.std.proofs.Common.{◌≡◌, ◌≢◌, ◌⊎◌, ℕ, zero, suc, ◌+◌, ◌<◌, ◌≤◌, Bool, true, false, refl, sym, ap, ◌∙◌, subst, arith, inl, inr, ⊎_elim}
use Rattle.std.proofs.lemmas.Bool.{false≢true}
use mathlib.Core.Logic.{dite}
use native.Mathlib.Decide.{dec_lt}
use Rattle.ja_node_core.specs.Tree.{Tree, leaf, branch, truth, Assignment, IsReduced}
use Rattle.ja_node_core.specs.Node.{Words, Knows, Means}
use Rattle.ja_node_core.proofs.Reduced.{with_var_here, with_var_other}
use Rattle.ja_bdd.specs.Functions.{Function, with_var, fixed, IsFrom}
use Rattle.ja_bdd.specs.Meaning.{meaning, IsMeant, IsHalved}
use Rattle.ja_bdd.proofs.Fixing.{with_own, from_fixed}
use Rattle.ja_bdd.proofs.Named.{tree_above}
use Rattle.ja_bdd.proofs.Sound.{Sound, IsLow, tree_facts, meaning_tree, meaning_constant}
use Rattle.std.specs.Prelude.{slice_set}
use Rattle.ja_node_core.specs.declared.aim.Aim.{Ghosts}
use Rattle.ja_node_table.specs.declared.table.NodeTable.{NodeTable}
use Rattle.ja_bdd.specs.declared.worker.Worker.{Worker}
use Rattle.ja_bdd.specs.Workers.{IsWorkerOf, seen}
use Rattle.ja_join.specs.declared.memo.Noted.{Noted}
use Rattle.ja_join.specs.declared.memo.Memo.{Memo}
use Rattle.ja_join.specs.declared.rule.States.{States}
use Rattle.ja_join.specs.Inner.{IsSought, phase_of, IsVain, AreVain, HasNoted, AreCut, IsSeeking}
use Rattle.ja_join.proofs.Asking.{looks_there}
use Rattle.ja_join.proofs.Remembering.{all_noted}

module _ (k : Words) (sound : Sound k) where
  -- a known node that looks at no variable is a constant
  pub last_constant : (n : ℕ) → Knows k n → IsFrom 4095 (meaning k n) → n < 2
  last_constant n (t, m) from = by_tree t m (tree_facts k sound t n m).0 (tree_facts k sound t n m).1 (subst (IsFrom 4095) (meaning_tree k sound t n m) from)
    where
      by_tree : (s : Tree) → Means k s n → IsReduced s → IsLow s → IsFrom 4095 (truth s) → n < 2
      by_tree (leaf true) is red low late = subst (λ p. p < 2) (sym is) (omega arith)
      by_tree (leaf false) is red low late = subst (λ p. p < 2) (sym is) (omega arith)
      by_tree (branch v l h) is red low late = let above = tree_above 4094 (branch v l h) red (λ u lt. late u (omega arith)) in let le = low.0 in absurd (omega arith)

  -- nothing is found where a node is nothing
  pub none_first : (ahead : Bool) (var r : ℕ) (σ : Function) → r ≡ 0 → ¬ IsSought ahead var (meaning k r) σ
  none_first ahead var r σ none (a, at, first, second) = false≢true (sym (ap (λ (φ : Function). φ a) (ap (meaning k) none ∙ meaning_constant k sound false)) ∙ first)

  pub none_second : (ahead : Bool) (var c : ℕ) (φ : Function) → c ≡ 0 → ¬ IsSought ahead var φ (meaning k c)
  none_second ahead var c φ none (a, at, first, second) = false≢true (sym (ap (λ (χ : Function). χ a) (ap (meaning k) none ∙ meaning_constant k sound false)) ∙ second)

  -- all is found where both are true everywhere
  true_there : (n : ℕ) → n ≢ 0 → n < 2 → (a : Assignment) → meaning k n a ≡ true
  true_there zero ne lt a = absurd (ne refl)
  true_there (suc zero) ne lt a = ap (λ (φ : Function). φ a) (meaning_constant k sound true)
  true_there (suc (suc n)) ne lt a = absurd (omega arith)

  pub both_true : (ahead : Bool) (var r c : ℕ) → r ≢ 0 → c ≢ 0 → r < 2 → c < 2 → IsSought ahead var (meaning k r) (meaning k c)
  both_true ahead var r c r_some c_some r_less c_less = ((λ v. true), (λ e. refl), true_there r r_some r_less (λ v. true), true_there c c_some c_less (λ v. true))

  -- a cut lies not before the variables that both look at
  cut_there : (from v end r c rl rh cl ch : ℕ) → IsFrom from (meaning k r) → IsFrom from (meaning k c) → from ≤ end → AreCut k v end r c rl rh cl ch → from ≤ v
  cut_there from v end r c rl rh cl ch r_from c_from inside cut = dite (dec_lt v from)
      (λ lt. absurd (⊎_elim (λ ne. looks_there k sound v r rl rh cut.first ne (r_from v lt)) (λ ne. looks_there k sound v c cl ch cut.second ne (c_from v lt)) (cut.apart (omega arith))))
      (λ not. omega arith)

  pub cut_inside : (from v end r c rl rh cl ch var : ℕ) (ahead : Bool) → Knows k r → Knows k c → IsFrom from (meaning k r) → IsFrom from (meaning k c) → (ahead ≡ true → from ≤ var) → var ≤ 4094 → from ≤ 4095
      → (ahead ≡ true → end ≡ var) → (ahead ≡ false → end ≡ 4094) → (2 ≤ r) ⊎ (2 ≤ c) → AreCut k v end r c rl rh cl ch → from ≤ v
  cut_inside from v end r c rl rh cl ch var true r_known c_known r_from c_from coming small le at last some cut =
      cut_there from v end r c rl rh cl ch r_from c_from (let is = at refl in let before = coming refl in omega arith) cut
  cut_inside from v end r c rl rh cl ch var false r_known c_known r_from c_from coming small le at last some cut = dite (dec_lt from 4095)
      (λ lt. cut_there from v end r c rl rh cl ch r_from c_from (let is = last refl in omega arith) cut)
      (λ not. let all : from ≡ 4095 = omega arith in absurd (⊎_elim
      (λ big. let few = last_constant r r_known (subst (λ w. IsFrom w (meaning k r)) all r_from) in absurd (omega arith))
      (λ big. let few = last_constant c c_known (subst (λ w. IsFrom w (meaning k c)) all c_from) in absurd (omega arith)) some))

  -- what is found in a part is found in the whole
  module _ (var v r c rl rh cl ch : ℕ) (r_cut : IsHalved k v r rl rh) (c_cut : IsHalved k v c cl ch) where
    pub low_found : (ahead : Bool) → (ahead ≡ true → v ≢ var) → IsSought ahead var (meaning k rl) (meaning k cl) → IsSought ahead var (meaning k r) (meaning k c)
    low_found ahead ne (a, at, first, second) = (
      with_var a v false,
      (λ e. with_var_other a v false var (λ same. ne e (sym same)) ∙ at e),
      ap (λ (φ : Function). φ a) (sym r_cut.low.1) ∙ first,
      ap (λ (φ : Function). φ a) (sym c_cut.low.1) ∙ second,
    )

    pub high_found : (ahead : Bool) → (ahead ≡ true → v ≢ var) → IsSought ahead var (meaning k rh) (meaning k ch) → IsSought ahead var (meaning k r) (meaning k c)
    high_found ahead ne (a, at, first, second) = (
      with_var a v true,
      (λ e. with_var_other a v true var (λ same. ne e (sym same)) ∙ at e),
      ap (λ (φ : Function). φ a) (sym r_cut.high.1) ∙ first,
      ap (λ (φ : Function). φ a) (sym c_cut.high.1) ∙ second,
    )

    pub decided_found : (ahead : Bool) → v ≡ var → IsSought false var (meaning k rh) (meaning k ch) → IsSought ahead var (meaning k r) (meaning k c)
    decided_found ahead here (a, at, first, second) = (
      with_var a v true,
      (λ e. ap (with_var a v true) (sym here) ∙ with_var_here a v true),
      ap (λ (φ : Function). φ a) (sym r_cut.high.1) ∙ first,
      ap (λ (φ : Function). φ a) (sym c_cut.high.1) ∙ second,
    )

    -- and what is found in the whole is found in a part
    pub found_high : (ahead : Bool) (a : Assignment) → a v ≡ true → (ahead ≡ true → a var ≡ true) → meaning k r a ≡ true → meaning k c a ≡ true → IsSought ahead var (meaning k rh) (meaning k ch)
    found_high ahead a here at first second = (
      a,
      at,
      ap (λ (φ : Function). φ a) r_cut.high.1 ∙ ap (meaning k r) (with_own a v true here) ∙ first,
      ap (λ (φ : Function). φ a) c_cut.high.1 ∙ ap (meaning k c) (with_own a v true here) ∙ second,
    )

    found_low : (ahead : Bool) (a : Assignment) → a v ≡ false → (ahead ≡ true → a var ≡ true) → meaning k r a ≡ true → meaning k c a ≡ true → IsSought ahead var (meaning k rl) (meaning k cl)
    found_low ahead a here at first second = (
      a,
      at,
      ap (λ (φ : Function). φ a) r_cut.low.1 ∙ ap (meaning k r) (with_own a v false here) ∙ first,
      ap (λ (φ : Function). φ a) c_cut.low.1 ∙ ap (meaning k c) (with_own a v false here) ∙ second,
    )

    pub found_decided : (ahead : Bool) → ahead ≡ true → v ≡ var → IsSought ahead var (meaning k r) (meaning k c) → IsSought false var (meaning k rh) (meaning k ch)
    found_decided ahead is here (a, at, first, second) = found_high false a (ap a here ∙ at is) (λ e. absurd (false≢true e)) first second

    pub found_part : (ahead : Bool) → IsSought ahead var (meaning k r) (meaning k c) → IsSought ahead var (meaning k rl) (meaning k cl) ⊎ IsSought ahead var (meaning k rh) (meaning k ch)
    found_part ahead (a, at, first, second) = by_value (a v) refl
      where
        by_value : (b : Bool) → a v ≡ b → IsSought ahead var (meaning k rl) (meaning k cl) ⊎ IsSought ahead var (meaning k rh) (meaning k ch)
        by_value false here = inl (found_low ahead a here at first second)
        by_value true here = inr (found_high ahead a here at first second)

one_more : (v : ℕ) → suc v ≡ v + 1
one_more v = omega arith

phase_one : (a b : Bool) → phase_of a ≡ phase_of b → a ≡ b
phase_one true true e = refl
phase_one false false e = refl
phase_one true false e = absurd (omega arith)
phase_one false true e = absurd (omega arith)

-- what is noted of a search stays in vain
pub vain_noted : (var : ℕ) (k : Words) (memo memo' : Memo) (e : Noted) (ahead : Bool) → AreVain var k memo → e.at ≡ phase_of ahead → ¬ IsSought ahead var (meaning k e.asked.number) (meaning k e.told.number) → memo'.call ≡ memo.call
    → (memo' ≡ memo) ⊎ ((i : ℕ) × (memo'.entries.items ≡ slice_set memo.entries.items i e)) → AreVain var k memo'
vain_noted var k memo memo' e ahead vain at none call kept = all_noted (IsVain var k) memo memo' e vain
    (λ other same. subst (λ b. ¬ IsSought b var (meaning k e.asked.number) (meaning k e.told.number)) (phase_one ahead other (sym at ∙ same)) none) call kept

pub found_vain : (var : ℕ) (k : Words) (memo : Memo) (at : ℕ) (s : States) (r c made : ℕ) (ahead : Bool) → AreVain var k memo → at ≡ phase_of ahead → HasNoted memo at s r c made → ¬ IsSought ahead var (meaning k r) (meaning k c)
found_vain var k memo at s r c made ahead vain is_at (i, e, there, call, at_is, s_is, asked, told, made_is) sought =
    vain i e there call ahead (at_is ∙ is_at) (subst (λ (z : ℕ × ℕ). IsSought ahead var (meaning k z.0) (meaning k z.1)) (λ j. (sym asked j, sym told j)) sought)

module _ {A : Type 0} {G : Ghosts A} (t : NodeTable A) (var : ℕ) where
  pub seeking_same : (ahead : Bool) (from : ℕ) (w w1 : Worker A G) (m : Memo) (r c : ℕ) → IsWorkerOf t w1 → seen w1 ≡ seen w → IsSeeking t var ahead from w m r c → IsSeeking t var ahead from w1 m r c
  seeking_same ahead from w w1 m r c of same asked = record {
    worker = of;
    known = subst (λ k. Knows k r) (sym same) asked.known;
    second = subst (λ k. Knows k c) (sym same) asked.second;
    later = subst (λ k. IsFrom from (meaning k r)) (sym same) asked.later;
    second_later = subst (λ k. IsFrom from (meaning k c)) (sym same) asked.second_later;
    coming = asked.coming;
    vain = subst (λ k. AreVain var k m) (sym same) asked.vain;
  }

  -- of nodes that were cut
  pub seeking_cut : (ahead : Bool) (from v end : ℕ) (w w1 : Worker A G) (m : Memo) (r c rl rh cl ch : ℕ) → IsWorkerOf t w1 → seen w1 ≡ seen w → AreCut (seen w) v end r c rl rh cl ch → (ahead ≡ true → end ≡ var) → IsSeeking t var ahead from w m r c
      → IsSeeking t var ahead v w1 m r c × AreCut (seen w1) v v r c rl rh cl ch
  seeking_cut ahead from v end w w1 m r c rl rh cl ch of same cut at asked = (
    seeking_same ahead v w w1 m r c of same (record {
      worker = asked.worker;
      known = asked.known;
      second = asked.second;
      later = cut.first.from;
      second_later = cut.second.from;
      coming = λ e. let is = at e in let le = cut.within in omega arith;
      vain = asked.vain;
    }),
    subst (λ k. AreCut k v v r c rl rh cl ch) (sym same) (record { first = cut.first; second = cut.second; within = omega arith; apart = λ lt. absurd (omega arith) }),
  )

  -- of the parts of nodes that were cut
  pub seeking_part : (after : Bool) (v : ℕ) (w : Worker A G) (m : Memo) (r c n d : ℕ) (b : Bool) → (after ≡ true → v + 1 ≤ var) → IsWorkerOf t w → IsFrom v (meaning (seen w) r) → IsFrom v (meaning (seen w) c) → IsMeant (seen w) n (fixed v b (meaning (seen w) r)) → IsMeant (seen w) d (fixed v b (meaning (seen w) c)) → AreVain var (seen w) m
      → IsSeeking t var after (v + 1) w m n d
  seeking_part after v w m r c n d b coming of r_from c_from first second vain = record {
    worker = of;
    known = first.0;
    second = second.0;
    later = subst (λ u. IsFrom u (meaning (seen w) n)) (one_more v) (subst (IsFrom (suc v)) (sym first.1) (from_fixed v b (meaning (seen w) r) r_from));
    second_later = subst (λ u. IsFrom u (meaning (seen w) d)) (one_more v) (subst (IsFrom (suc v)) (sym second.1) (from_fixed v b (meaning (seen w) c) c_from));
    coming = coming;
    vain = vain;
  }
