-- What the nodes mean that a seat knows.
use Rattle.std.proofs.Common.{◌≡◌, ℕ, zero, suc, ◌+◌, ◌<◌, ◌≤◌, Bool, true, false, ltb, refl, sym, ap, ◌∙◌, subst, arith}
use Rattle.std.specs.Prelude.{if◌then◌else◌, ◌==◌}
use Rattle.std.proofs.lemmas.Bool.Decides.{nat_tests}
use Rattle.ja_node_core.specs.declared.aim.Aim.{Ghosts}
use Rattle.ja_node_core.specs.Tree.{Tree, leaf, branch, Assignment, truth, IsSameFunction, IsAbove, IsReduced}
use Rattle.ja_node_core.specs.Word.{var_of, low_of, high_of}
use Rattle.ja_node_core.specs.Node.{Words, constant, Means, Knows, IsPart, IsNode}
use Rattle.ja_node_core.proofs.Meanings.{means_more}
use Rattle.ja_node_table.specs.declared.seat.NodeSeat.{NodeSeat}
use Rattle.ja_node_table.specs.Seats.{known}
use Rattle.ja_node_table.proofs.Views.{known_node, known_one}
use Rattle.ja_bdd.specs.Functions.{Function, IsTreeOf}
use Rattle.ja_bdd.specs.Meaning.{value_within, meaning}
use Rattle.ja_bdd.proofs.Named.{IsSmall}

-- the words are part of canonical ones: each known node's word is that of a node, and a function has one node
pub record Sound (k : Words) : Type 0 where
  pub node : (p : ℕ) → 1 < p → Knows k p → IsNode k (k p)
  pub one : (s t : Tree) (f g : ℕ) → Means k s f → Means k t g → IsSameFunction s t → f ≡ g

pub seat_sound : {A : Type 0} {G : Ghosts A} (s : NodeSeat A G) → Sound (known s)
seat_sound {A} {G} s = record { node = λ p. known_node G.aims s.seat.me.0 p s.part; one = known_one G.aims s.seat.me.0 s.part }

-- all variables of the tree are below 4095
abbrev pub IsLow : Tree → Type 0
IsLow (leaf b) = Unit {0}
IsLow (branch v low high) = (v ≤ 4094) × IsLow low × IsLow high

-- so many levels are enough for the tree's variables
abbrev Fits : ℕ → Tree → Type 0
Fits levels (leaf b) = Unit {0}
Fits levels (branch v low high) = 4095 ≤ v + levels

fits_above : (v levels : ℕ) (t : Tree) → IsAbove v t → 4095 ≤ v + suc levels → Fits levels t
fits_above v levels (leaf b) up enough = tt
fits_above v levels (branch u low high) up enough = omega arith

value_tree : (k : Words) (t : Tree) (levels n : ℕ) → Means k t n → IsReduced t → IsLow t → Fits levels t → (a : Assignment) → value_within levels k n a ≡ truth t a
unfolding value_within
value_tree k (leaf true) zero n m red low fits a = subst (λ p. (p == 1) ≡ true) (sym m) refl
value_tree k (leaf false) zero n m red low fits a = subst (λ p. (p == 1) ≡ false) (sym m) refl
value_tree k (leaf true) (suc levels) n m red low fits a = subst (λ p. value_within (suc levels) k p a ≡ true) (sym m) refl
value_tree k (leaf false) (suc levels) n m red low fits a = subst (λ p. value_within (suc levels) k p a ≡ false) (sym m) refl
value_tree k (branch v x y) zero n m red low fits a = absurd (let small = low.0 in omega arith)
value_tree k (branch v x y) (suc levels) n m red low fits a =
    let left = value_tree k x levels (low_of (k n)) m.3 red.3 low.1 (fits_above v levels x red.1 fits) a in
    let right = value_tree k y levels (high_of (k n)) m.4 red.4 low.2 (fits_above v levels y red.2 fits) a in
    let big : ltb n 2 ≡ false = grind (arith, nat_tests) in
    ap (λ c. if c then n == 1 else (if a (var_of (k n)) then value_within levels k (high_of (k n)) a else value_within levels k (low_of (k n)) a)) big
    ∙ (λ i. if a (m.2 i) then right i else left i)

fits_all : (t : Tree) → Fits 4095 t
fits_all (leaf b) = tt
fits_all (branch v low high) = omega arith

-- the function of a tree looks at the tree's variables alone
low_small : (t : Tree) → IsLow t → IsSmall (truth t)
low_small (leaf b) low x y same = refl
low_small (branch v s t) low x y same = let lt : v < 0 + 4095 = (let le = low.0 in omega arith) in
    λ i. if same v (omega arith) lt i then low_small t low.2 x y same i else low_small s low.1 x y same i

pub knows_constant : (k : Words) (b : Bool) → Knows k (constant b)
knows_constant k b = (leaf b, refl)

pub knows_more : (some all : Words) → IsPart some all → (n : ℕ) → Knows some n → Knows all n
knows_more some all part n (t, m) = (t, means_more some all part t n m)

module _ (k : Words) (sound : Sound k) where
  -- the tree of a known node
  pub tree_facts : (t : Tree) (n : ℕ) → Means k t n → IsReduced t × IsLow t
  tree_facts (leaf b) n m = (tt, tt)
  tree_facts (branch v low high) n m =
      let is = sound.node n m.0 (branch v low high, m) in
      let left = tree_facts low (low_of (k n)) m.3 in
      let right = tree_facts high (high_of (k n)) m.4 in
      let small = is.small in (
        (
          (λ same. is.apart (sound.one low high (low_of (k n)) (high_of (k n)) m.3 m.4 (λ a. ap (λ t. truth t a) same))),
          child_above low (low_of (k n)) m.3 (λ big. subst (λ u. u < var_of (k (low_of (k n)))) m.2 (is.low big).1),
          child_above high (high_of (k n)) m.4 (λ big. subst (λ u. u < var_of (k (high_of (k n)))) m.2 (is.high big).1),
          left.0,
          right.0,
        ),
        (subst (λ u. u ≤ 4094) m.2 small, left.1, right.1),
      )
    where
      child_above : (t : Tree) (c : ℕ) → Means k t c → (1 < c → v < var_of (k c)) → IsAbove v t
      child_above (leaf b) c o greater = tt
      child_above (branch u x y) c o greater = subst (λ w. v < w) o.2 (greater o.0)

  pub meaning_tree : (t : Tree) (n : ℕ) → Means k t n → meaning k n ≡ truth t
  unfolding meaning
  meaning_tree t n m i a = (let facts = tree_facts t n m in value_tree k t 4095 n m facts.0 facts.1 (fits_all t) a) i

  pub meaning_constant : (b : Bool) → meaning k (constant b) ≡ (λ a. b)
  meaning_constant b = meaning_tree (leaf b) (constant b) refl

  -- the tree of what a known node means
  pub node_tree : (n : ℕ) → (x : Knows k n) → IsTreeOf (meaning k n) x.0
  node_tree n (t, m) = ((tree_facts t n m).0, λ a. ap (λ (φ : Function). φ a) (sym (meaning_tree t n m)))

  pub meaning_small : (n : ℕ) → Knows k n → IsSmall (meaning k n)
  meaning_small n (t, m) = subst IsSmall (sym (meaning_tree t n m)) (low_small t (tree_facts t n m).1)

  -- nodes that mean one function are one node
  pub meaning_one : (f g : ℕ) → Knows k f → Knows k g → meaning k f ≡ meaning k g → f ≡ g
  meaning_one f g (s, m) (t, o) same = sound.one s t f g m o (λ a i. (sym (meaning_tree s f m) ∙ same ∙ meaning_tree t g o) i a)
