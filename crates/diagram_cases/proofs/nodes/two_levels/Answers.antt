use Rattle.std.proofs.Common.{ℕ, true, false, refl, arith, lit<}
use Rattle.ja_node_core.specs.Tree.{leaf, branch}
use Rattle.ja_node_core.specs.Node.{Words, Means}
use Rattle.ja_node_core.proofs.Meanings.{means_more}
use Rattle.ja_node_core.proofs.Claims.{constant_child, node_child}
use Rattle.ja_node_table.specs.Seats.{IsMade}
use Rattle.diagram_cases.proofs.nodes.two_levels.Goals as goal

-- what is made means the trees
inner_means : (before now : Words) (n : ℕ) → IsMade before now 1 0 1 n → Means now (branch 1 (leaf false) (leaf true)) n
inner_means before now n made = made.means (leaf false) (leaf true) refl refl

outer_means : (before now : Words) (n m : ℕ) → IsMade before now 0 0 n m → Means before (branch 1 (leaf false) (leaf true)) n → Means now (branch 0 (leaf false) (branch 1 (leaf false) (leaf true))) m
outer_means before now n m made is = made.means (leaf false) (branch 1 (leaf false) (leaf true)) refl is

pub make-requires-clause-node : goal.make-requires-clause-node
make-requires-clause-node c _ = record { low = constant_child _ 1 0 (lit< tt); high = constant_child _ 1 1 (lit< tt); aimed = λ _. tt }

pub make-requires-2-clause-node : goal.make-requires-2-clause-node
make-requires-2-clause-node c _ =
    let inner = inner_means _ _ _ (c.in_ok-inner.ensures.ok (λ e. omega arith)) in
    record { low = constant_child _ 0 0 (lit< tt); high = node_child _ 0 _ 1 (leaf false) (leaf true) inner (lit< tt); aimed = λ _. tt }

pub returns-clause-known : goal.returns-clause-known
returns-clause-known c =
    let inner = inner_means _ _ _ (c.in_ok-inner.ensures.ok (λ e. omega arith)) in
    let outer = outer_means _ _ _ _ (c.in_ok-outer.ensures.ok (λ e. omega (arith, inner.0))) inner in (
      (branch 1 (leaf false) (leaf true), means_more _ _ c.in_ok-outer.ensures.grows (branch 1 (leaf false) (leaf true)) _ inner),
      (branch 0 (leaf false) (branch 1 (leaf false) (leaf true)), outer),
      outer.0,
    )
