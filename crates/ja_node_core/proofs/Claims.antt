-- A claim keeps the words canonical.
use Rattle.std.proofs.Common.{◌≡◌, ◌≢◌, ℕ, ◌<◌, true, false, refl, sym, ap, ◌∙◌, subst, arith}
use mathlib.Core.Logic.{dite}
use native.Mathlib.Decide.{ℕ_discrete}
use Rattle.ja_node_core.specs.Tree.{Tree, leaf, branch}
use Rattle.ja_node_core.specs.Word.{var_of, low_of, high_of, place}
use Rattle.ja_node_core.specs.Node.{Words, Means, IsPart, IsChild, IsNode, IsOther, IsPlaced, IsCanonical}
use Rattle.ja_node_core.specs.Machine.{IsKnownChild, MayClaim}
use Rattle.ja_node_core.proofs.Words.{word_positive, place_above}
use Rattle.ja_node_core.proofs.Meanings.{constant_small, means_more, tree_one}

-- at one place, which was empty, the word w stands now
pub record IsWritten (old new : Words) (p w : ℕ) : Type 0 where
  pub was : old p ≡ 0
  pub here : new p ≡ w
  pub others : (q : ℕ) → q ≢ p → new q ≡ old q

module _ (old new : Words) (p w : ℕ) (wr : IsWritten old new p w) where
  -- what stood still stands
  pub stays : IsPart old new
  stays q pos = wr.others q (λ e. absurd (let empty : old q ≡ 0 = ap old e ∙ wr.was in omega arith))

  still_child : (v child : ℕ) → IsChild old v child → IsChild new v child
  still_child v child is big = let was = is big in let same = stays child was.0 in (subst (λ u. 0 < u) (sym same) was.0, subst (λ u. v < var_of u) (sym same) was.1)

  still_node : (u : ℕ) → IsNode old u → IsNode new u
  still_node u is = record {
    small = is.small;
    packed = is.packed;
    apart = is.apart;
    low = still_child (var_of u) (low_of u) is.low;
    high = still_child (var_of u) (high_of u) is.high;
  }

  still_other : (u q : ℕ) → IsOther old u q → IsOther new u q
  still_other u q is = subst (λ x. (0 < x) × (x ≢ u)) (sym (stays q is.0)) is

  still_placed : (n u q : ℕ) → IsPlaced n old u q → IsPlaced n new u q
  still_placed n u q is = record {
    step = is.step;
    within = is.within;
    here = is.here;
    before = λ j lt. still_other u (place n u j) (is.before j lt);
  }

  -- what holds of the new word, and of every word that stood, holds of every word
  by_word : (P : ℕ → ℕ → Type 0) → P p w → ((q : ℕ) → 0 < old q → P q (old q)) → (q : ℕ) → 0 < new q → P q (new q)
  by_word P mine others q pos = dite (ℕ_discrete q p)
      (λ e. subst (λ z. P z (new z)) (sym e) (subst (P p) (sym wr.here) mine))
      (λ ne. let same = wr.others q ne in subst (P q) (sym same) (others q (subst (λ u. 0 < u) same pos)))

  -- a node that stood means what it meant
  meant : (n : ℕ) (aim : Tree → Type 0) → IsCanonical n aim old → (t : Tree) (q : ℕ) → (1 < q → 0 < old q) → Means new t q → Means old t q
  meant n aim can (leaf b) q stood m = m
  meant n aim can (branch v low high) q stood m =
      let pos = stood m.0 in
      let same = stays q pos in
      let node = can.nodes q pos in (
        m.0,
        pos,
        ap var_of (sym same) ∙ m.2,
        meant n aim can low _ (λ big. (node.low big).0) (subst (λ u. Means new low (low_of u)) same m.3),
        meant n aim can high _ (λ big. (node.high big).0) (subst (λ u. Means new high (high_of u)) same m.4),
      )

  -- what the new node means is what its children meant
  new_meaning : (n : ℕ) (aim : Tree → Type 0) → IsCanonical n aim old → IsNode old w → 1 < p
      → ((low high : Tree) → Means old low (low_of w) → Means old high (high_of w) → aim (branch (var_of w) low high))
      → (t : Tree) → Means new t p → aim t
  new_meaning n aim can node above aimed (leaf b) m = absurd (omega (arith, constant_small b))
  new_meaning n aim can node above aimed (branch v low high) m = subst (λ u. aim (branch u low high)) (ap var_of (sym wr.here) ∙ m.2)
      (aimed low high
      (meant n aim can low _ (λ big. (node.low big).0) (subst (λ u. Means new low (low_of u)) wr.here m.3))
      (meant n aim can high _ (λ big. (node.high big).0) (subst (λ u. Means new high (high_of u)) wr.here m.4)))

  pub write_keeps : (n : ℕ) (aim : Tree → Type 0) → IsCanonical n aim old → 1 < p → IsNode old w → IsPlaced n old w p
      → ((low high : Tree) → Means old low (low_of w) → Means old high (high_of w) → aim (branch (var_of w) low high))
      → IsCanonical n aim new
  write_keeps n aim can above node placed aimed = record {
    constants = (wr.others 0 (λ e. omega arith) ∙ can.constants.0, wr.others 1 (λ e. omega arith) ∙ can.constants.1);
    nodes = by_word (λ _ u. IsNode new u) (still_node w node) (λ q pos. still_node (old q) (can.nodes q pos));
    placed = by_word (λ q u. IsPlaced n new u q) (still_placed n w p placed) (λ q pos. still_placed n (old q) q (can.placed q pos));
    aimed = λ q t pos. by_word (λ q _. Means new t q → aim t)
        (new_meaning n aim can node above aimed t)
        (λ q stood m. can.aimed q t stood (meant n aim can t q (λ _. stood) m)) q pos;
  }

-- a child that the actor knows stands
child_stands : (known at : Words) (v child : ℕ) (t : Tree) → IsPart known at → IsKnownChild known v child t → IsChild at v child
child_stands known at v child (leaf b) part is big = let m = is.means in absurd (omega (arith, constant_small b))
child_stands known at v child (branch u low high) part is big =
    let pos = is.means.1 in
    let same = part child pos in
    (subst (λ w. 0 < w) (sym same) pos, subst (λ w. v < var_of w) (sym same) (is.greater big))

-- a claim that finds its place empty
pub claim_keeps : (n : ℕ) (aim : Tree → Type 0) (old new known : Words) (w i : ℕ) → IsCanonical n aim old → IsPart known old → MayClaim n aim known w i → IsWritten old new (place n w i) w → IsCanonical n aim new
claim_keeps n aim old new known w i can part may wr =
    let one : (child : ℕ) (known_child : (t : Tree) × IsKnownChild known (var_of w) child t) (s : Tree) → Means old s child → known_child.0 ≡ s =
    λ child is s m. tree_one old is.0 s child (means_more known old part is.0 child is.1.means) m in
    write_keeps old new (place n w i) w wr n aim can (place_above n w i)
    record {
      small = may.small;
      packed = may.packed;
      apart = may.apart;
      low = child_stands known old (var_of w) (low_of w) may.low.0 part may.low.1;
      high = child_stands known old (var_of w) (high_of w) may.high.0 part may.high.1;
    }
    record {
      step = i;
      within = may.within;
      here = refl;
      before = λ j lt. let is = may.before j lt in subst (λ u. (0 < u) × (u ≢ w)) (sym (part (place n w j) is.0)) is;
    }
    (λ low high m o. let e = one (low_of w) may.low low m in let f = one (high_of w) may.high high o in
    subst (λ (z : Tree × Tree). aim (branch (var_of w) z.0 z.1)) (λ k. (e k, f k)) may.aimed)

-- a known child is known where more is known
pub child_more : (some all : Words) → IsPart some all → (v child : ℕ) (t : Tree) → IsKnownChild some v child t → IsKnownChild all v child t
child_more some all part v child t is = record {
  means = means_more some all part t child is.means;
  greater = λ big. subst (λ w. v < var_of w) (sym (part child (given t is.means big))) (is.greater big);
}
  where
    given : (t : Tree) → Means some t child → 1 < child → 0 < some child
    given (leaf b) m big = absurd (omega (arith, constant_small b))
    given (branch u low high) m big = m.1

-- what may be claimed may be claimed where more is known
pub may_more : (n : ℕ) (aim : Tree → Type 0) (some all : Words) (w i : ℕ) → IsPart some all → MayClaim n aim some w i → MayClaim n aim all w i
may_more n aim some all w i part may = record {
  within = may.within;
  small = may.small;
  packed = may.packed;
  apart = may.apart;
  low = (may.low.0, child_more some all part (var_of w) (low_of w) may.low.0 may.low.1);
  high = (may.high.0, child_more some all part (var_of w) (high_of w) may.high.0 may.high.1);
  aimed = may.aimed;
  before = λ j lt. let is = may.before j lt in subst (λ u. (0 < u) × (u ≢ w)) (sym (part (place n w j) is.0)) is;
}

pub claimed_word : (n : ℕ) (aim : Tree → Type 0) (at : Words) (w i : ℕ) → MayClaim n aim at w i → 0 < w
claimed_word n aim at w i may = subst (λ u. 0 < u) (sym may.packed) (word_positive (var_of w) (low_of w) (high_of w))

-- a constant may be a child of every variable
pub constant_child : (at : Words) (v n : ℕ) → n < 2 → (t : Tree) × IsKnownChild at v n t
constant_child at v n lt = step (ℕ_discrete n 0)
  where
    step : Dec (n ≡ 0) → (t : Tree) × IsKnownChild at v n t
    step (yes e) = (leaf false, record { means = e; greater = λ big. absurd (omega arith) })
    step (no ne) = (leaf true, record { means = omega arith; greater = λ big. absurd (omega arith) })

-- a known node with a greater variable may be a child
pub node_child : (at : Words) (v n u : ℕ) (low high : Tree) → Means at (branch u low high) n → v < u → (t : Tree) × IsKnownChild at v n t
node_child at v n u low high m lt = (branch u low high, record { means = m; greater = λ big. (let is = m.2 in omega arith) })
