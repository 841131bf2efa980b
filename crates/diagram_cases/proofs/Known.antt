-- Nodes that a worker knows.
use Rattle.std.proofs.Common.{◌≡◌, ◌⊎◌, ℕ, suc, ◌<◌, List, length, sym, subst, ⊎_elim, arith}
use Rattle.std.specs.Prelude.{Some, slice_get}
use Rattle.std.proofs.lemmas.Option.{slice_get_within, slice_get-get_or}
use Rattle.ja_node_core.specs.declared.word.Node.{Node}
use Rattle.ja_node_core.specs.Node.{Words, Knows}
use Rattle.ja_bdd.specs.Functions.{IsFrom}
use Rattle.ja_bdd.specs.Meaning.{meaning, Keeps}
use Rattle.ja_bdd.proofs.Sound.{Sound}
use Rattle.ja_bdd.proofs.Forgetting.{is_constant}
use Rattle.ja_grow.specs.Grown.{AreSameRoots}
use Rattle.ja_grow.proofs.Growing.{constant_meant}
use Rattle.diagram_cases.specs.Roots.{AreKnown}

-- a constant is known, and looks at no variable
pub constant_known : (k : Words) → Sound k → (v : ℕ) (n : Node) → n.number < 2 → Knows k n.number × IsFrom v (meaning k n.number)
constant_known k sound v n small =
    let is = is_constant k sound n.number small in
    ((constant_meant k k sound sound n.number small).0, subst (IsFrom v) (sym is.1) (λ u lt c a i. is.0))

-- roots that are known stay so
pub roots_kept : (old new : Words) → Keeps old new → (roots : List Node) → AreKnown old roots → AreKnown new roots
roots_kept old new keeps roots all i n at = (keeps n.number (all i n at)).0

pub roots_more : (k : Words) (old new : List Node) (node : Node) → AreKnown k old → Knows k node.number → ((i : ℕ) (m : Node) → slice_get new i ≡ Some m → (slice_get old i ≡ Some m) ⊎ (m ≡ node)) → AreKnown k new
roots_more k old new node all x more i m at = ⊎_elim (λ before. all i m before) (λ here. subst (λ (n : Node). Knows k n.number) (sym here) x) (more i m at)

-- what roots became is known
pub grown_known : (old new : Words) (roots grown : List Node) → AreSameRoots old roots new grown → AreKnown new grown
grown_known old new roots grown same i m at =
    let within = slice_get_within grown i m at in
    let lt : i < length roots = (let long = same.0 in omega arith) in
    (same.1 i _ m (slice_get-get_or roots i m lt) at).0
