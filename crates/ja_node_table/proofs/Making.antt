-- How far `make` has come along the path of its word, and what it has at the end.
use Rattle.std.proofs.Common.{◌≡◌, ◌≢◌, ℕ, ◌+◌, ◌<◌, ◌≤◌, refl, sym, ap, ◌∙◌, subst, arith}
use Rattle.std.specs.Prelude.{Some}
use Rattle.std.proofs.Math.Logic.{∥∥₁_elim, ∥∥₁_prop}
use native.Mathlib.Decide.{ℕ_discrete}
use Rattle.ja_node_core.specs.Tree.{Tree, branch}
use Rattle.ja_node_core.specs.Word.{word_of, var_of, low_of, high_of, places, place}
use Rattle.ja_node_core.specs.Node.{Words, Means, IsPart, IsOther}
use Rattle.ja_node_core.specs.Machine.{word_at, IsKnownChild, MayClaim}
use Rattle.ja_node_core.proofs.Meanings.{means_more}
use Rattle.ja_node_core.proofs.Claims.{child_more}
use Rattle.ja_node_table.specs.declared.view.View.{View}
use Rattle.ja_node_table.specs.declared.view.Plan.{Plan}
use Rattle.ja_node_table.specs.Rule.{IsView, IsPartOf, IsTaken}
use Rattle.ja_node_table.specs.Seats.{MayMake, IsMade}

-- the seat knows what it knew, and another node at each of the first i places of the path
pub record HasTried (n : ℕ) (before now : Words) (word i : ℕ) : Type 0 where
  pub grows : IsPart before now
  pub others : (j : ℕ) → j < i → IsOther now word (place n word j)

pub not_tried : (n : ℕ) (known : Words) (word : ℕ) → HasTried n known known word 0
not_tried n known word = record { grows = λ p pos. refl; others = λ j lt. absurd (omega arith) }

-- one place more, where another word was found
pub tried_more : (n : ℕ) (before now later : Words) (word i found : ℕ) → HasTried n before now word i → IsPart now later → 0 < found → later (place n word i) ≡ found → found ≢ word → HasTried n before later word (i + 1)
tried_more n before now later word i found tried grows pos here ne = record {
  grows = λ p is. let same = tried.grows p is in grows p (subst (λ w. 0 < w) (sym same) is) ∙ same;
  others = λ j lt. step j lt (ℕ_discrete j i);
}
  where
    step : (j : ℕ) → j < i + 1 → Dec (j ≡ i) → IsOther later word (place n word j)
    step j lt (yes e) = subst (λ k. IsOther later word (place n word k)) (sym e) (subst (λ w. (0 < w) × (w ≢ word)) (sym here) (pos, ne))
    step j lt (no other) = let is = tried.others j (omega arith) in subst (λ w. (0 < w) × (w ≢ word)) (sym (grows (place n word j) is.0)) is

-- the word may be claimed at the place that comes next
pub may_claim : (n : ℕ) (aim : Tree → Type 0) (before now : Words) (word i var lo hi : ℕ) → HasTried n before now word i → i < places n → var ≤ 4094 → lo ≢ hi
    → word ≡ word_of var lo hi → var_of word ≡ var → low_of word ≡ lo → high_of word ≡ hi → MayMake aim before var lo hi → MayClaim n aim now word i
may_claim n aim before now word i var lo hi tried within small apart is var_is low_is high_is may =
    let Claim : ℕ × ℕ × ℕ → Type 0 = λ parts. (parts.0 ≤ 4094) × (word ≡ word_of parts.0 parts.1 parts.2) × (parts.1 ≢ parts.2)
    × ((low : (t : Tree) × IsKnownChild now parts.0 parts.1 t) × (high : (t : Tree) × IsKnownChild now parts.0 parts.2 t) × aim (branch parts.0 low.0 high.0)) in
    let given : Claim (var, lo, hi) = (small, is, apart, ((may.low.0, child_more before now tried.grows var lo may.low.0 may.low.1), (may.high.0, child_more before now tried.grows var hi may.high.0 may.high.1), may.aimed apart)) in
    let c : Claim (var_of word, low_of word, high_of word) = subst Claim (λ k. (sym var_is k, sym low_is k, sym high_is k)) given in
    record { within = within; small = c.0; packed = c.1; apart = c.2; low = c.3.0; high = c.3.1; aimed = c.3.2; before = tried.others }

-- the node at whose place the word was found
pub made : (before now : Words) (word var lo hi n : ℕ) → IsPart before now → 1 < n → 0 < word → now n ≡ word → word ≡ word_of var lo hi → var_of word ≡ var → low_of word ≡ lo → high_of word ≡ hi → IsMade before now var lo hi n
made before now word var lo hi n grows big pos here is var_is low_is high_is = record {
  word = here ∙ is;
  means = λ low high l h. (
    big,
    subst (λ w. 0 < w) (sym here) pos,
    ap var_of here ∙ var_is,
    subst (Means now low) (sym (ap low_of here ∙ low_is)) (means_more before now grows low lo l),
    subst (Means now high) (sym (ap high_of here ∙ high_is)) (means_more before now grows high hi h),
  );
}

-- the whole path was seen
pub taken : {A : Type 0} (aims : A → Tree → Type 0) (x y : Plan A) (before : Words) (now : View A) (word i : ℕ) → ∥ IsView aims now ∥₁ → now.plan ≡ Some x → y ≡ x → HasTried x.slots before (word_at now.known) word i → places x.slots ≤ i → ∥ IsTaken aims y word ∥₁
taken aims x y before now word i view plan same tried all = ∥∥₁_elim view ∥∥₁_prop (λ (z, is, part).
    let one : z ≡ x = cc in
    let full : IsTaken aims x word = record { known = now.known; part = subst (λ p. IsPartOf aims p now.known) one part; others = λ j lt. tried.others j (omega arith) } in
    ∣ subst (λ p. IsTaken aims p word) (sym same) full ∣₁)
