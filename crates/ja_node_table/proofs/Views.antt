-- What a seat's view tells of the nodes that it knows.
use Rattle.std.proofs.Common.{◌≡◌, ℕ, ◌^◌, ◌<◌, ◌≤◌, refl, sym, subst, arith}
use Rattle.std.specs.Prelude.{Some}
use Rattle.std.proofs.Math.Logic.{∥∥₁_elim}
use Rattle.std.proofs.Math.Nat.{ℕ_set}
use Rattle.std.proofs.Math.Bridge.{le_prop}
use Rattle.std.proofs.Props.{props}
use Rattle.ja_node_core.specs.Tree.{Tree, leaf, branch, IsSameFunction}
use Rattle.ja_node_core.specs.Word.{word_of, var_of, low_of, high_of}
use Rattle.ja_node_core.specs.Node.{Words, Means, Knows, IsPart, IsChild, IsNode}
use Rattle.ja_node_core.specs.Machine.{word_at}
use Rattle.ja_node_core.proofs.Words.{place_below}
use Rattle.ja_node_core.proofs.Known.{stands_part}
use Rattle.ja_node_core.proofs.Meanings.{constant_small}
use Rattle.ja_node_core.proofs.Functions.{one_node}
use Rattle.ja_node_core.proofs.Runs.{empty_canonical}
use Rattle.ja_node_table.specs.declared.view.View.{View}
use Rattle.ja_node_table.specs.declared.view.Plan.{Plan}
use Rattle.ja_node_table.specs.Rule.{first_view, IsView}

node_prop : (at : Words) (w : ℕ) → IsProp (IsNode at w)
node_prop at w = hlevel props

-- a child of a known node, where the node's word stands among words of which these are part
known_child : (some all : Words) → IsPart some all → (v child : ℕ) (t : Tree) → Means some t child → IsChild all v child → IsChild some v child
known_child some all part v child (leaf b) m is big = absurd (omega (arith, constant_small b))
known_child some all part v child (branch u low high) m is big = (m.1, subst (λ w. v < var_of w) (part child m.1) (is big).1)

-- a known node that is no constant has a word
pub known_positive : (at : Words) (n : ℕ) → 1 < n → Knows at n → 0 < at n
known_positive at n big (leaf b, m) = absurd (omega (arith, constant_small b))
known_positive at n big (branch v low high, m) = m.1

module _ {A : Type 0} (aims : A → Tree → Type 0) where
  pub first_is_view : (x : Plan A) → IsView aims (first_view x)
  first_is_view x = (x, refl, record { words = λ p. 0; canonical = empty_canonical x.slots (aims x.aim) (λ p. 0) (λ p. refl); stands = tt })

  -- a known word stands at a place of the table
  pub known_below : (v : View A) (x : Plan A) (p : ℕ) → ∥ IsView aims v ∥₁ → v.plan ≡ Some x → 0 < word_at v.known p → p < x.slots
  known_below v x p view plan pos = ∥∥₁_elim view le_prop (λ (y, is, part).
      let same : y ≡ x = cc in
      let stands = stands_part part.words v.known part.stands p pos in
      let placed = part.canonical.placed p (subst (λ w. 0 < w) (sym stands) pos) in
      subst (λ (z : Plan A). p < z.slots) same (subst (λ q. q < y.slots) (sym placed.here) (place_below y.slots (part.words p) placed.step placed.step placed.within)))

  -- a known node that is no constant has the word of a node over known children
  pub known_node : (v : View A) (p : ℕ) → ∥ IsView aims v ∥₁ → 1 < p → Knows (word_at v.known) p → IsNode (word_at v.known) (word_at v.known p)
  known_node v p view big (leaf b, m) = absurd (omega (arith, constant_small b))
  known_node v p view big (branch u low high, m) = ∥∥₁_elim view (node_prop (word_at v.known) (word_at v.known p)) (λ (y, is, part).
      let known = word_at v.known in
      let whole = stands_part part.words v.known part.stands in
      let stands : part.words p ≡ known p = whole p m.1 in
      let node : IsNode part.words (known p) = subst (IsNode part.words) stands (part.canonical.nodes p (subst (λ w. 0 < w) (sym stands) m.1)) in
      record {
        small = node.small;
        packed = node.packed;
        apart = node.apart;
        low = known_child known part.words whole (var_of (known p)) (low_of (known p)) low m.3 node.low;
        high = known_child known part.words whole (var_of (known p)) (high_of (known p)) high m.4 node.high;
      })

  -- two known nodes of one function are one node
  pub known_one : (v : View A) → ∥ IsView aims v ∥₁ → (s t : Tree) (f g : ℕ) → Means (word_at v.known) s f → Means (word_at v.known) t g → IsSameFunction s t → f ≡ g
  known_one v view s t f g m o same = ∥∥₁_elim view (ℕ_set _ _) (λ (y, is, part).
      one_node y.slots (aims y.aim) (word_at v.known) part.words part.canonical (stands_part part.words v.known part.stands) s t f g m o same)

-- the word of a node has its variable's bits
pub node_word : (at : Words) (w : ℕ) → IsNode at w → 2 ^ 52 ≤ w
unfolding word_of
node_word at w is = let packed = is.packed in omega arith
