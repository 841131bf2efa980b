-- What is known stays known.
use Rattle.std.proofs.Common.{◌≡◌, ℕ, ◌-◌, ◌<◌, ◌≤◌, List, length, get_or, sym, subst, arith, ◌∙◌, ◌⊎◌, ⊎_elim}
use Rattle.std.specs.List.{All}
use Rattle.std.proofs.lemmas.List.Elements.{All-weaker, All-get_or}
use Rattle.ja_node_core.specs.Node.{Words, IsPart}
use Rattle.ja_node_core.specs.declared.word.Node.{Node}
use Rattle.ja_node_core.specs.declared.word.Parts.{Parts}
use Rattle.ja_node_core.proofs.Claims.{child_more, node_child, constant_child}
use Rattle.ja_node_table.specs.Seats.{IsMade}
use Rattle.node_bench.specs.Made.{IsUnder, IsAsked}
use Rattle.node_bench.specs.declared.relations.Rest.{Rest}
use Rattle.node_bench.specs.Relations.{IsRest}

pub under_more : (some all : Words) → IsPart some all → (var : ℕ) (n : Node) → IsUnder some var n → IsUnder all var n
under_more some all part var n under = record { tree = under.tree; child = child_more some all part var n.number under.tree under.child }

pub under_less : (at : Words) (var less : ℕ) (n : Node) → less ≤ var → IsUnder at var n → IsUnder at less n
under_less at var less n le under = record { tree = under.tree; child = record { means = under.child.means; greater = λ big. (let above = under.child.greater big in omega arith) } }

pub all_under_more : (some all : Words) → IsPart some all → (var : ℕ) (ns : List Node) → All (IsUnder some var) ns → All (IsUnder all var) ns
all_under_more some all part var ns = All-weaker (IsUnder some var) (IsUnder all var) (under_more some all part var) ns

pub all_under_less : (at : Words) (var less : ℕ) (ns : List Node) → less ≤ var → All (IsUnder at var) ns → All (IsUnder at less) ns
all_under_less at var less ns le = All-weaker (IsUnder at var) (IsUnder at less) (λ n. under_less at var less n le) ns

pub all_asked_more : (some all : Words) → IsPart some all → (ps : List Parts) → All (IsAsked some) ps → All (IsAsked all) ps
all_asked_more some all part ps = All-weaker (IsAsked some) (IsAsked all)
    (λ p asked. record { low = under_more some all part p.var p.lo asked.low; high = under_more some all part p.var p.hi asked.high }) ps

pub under_read : (at : Words) (var : ℕ) (ns : List Node) (i : ℕ) (n : Node) → All (IsUnder at var) ns → i < length ns → n ≡ get_or ns i n → IsUnder at var n
under_read at var ns i n all lt is = subst (IsUnder at var) (sym is) (All-get_or (IsUnder at var) ns i n lt all)

-- the node that was made may be a child of the variable before
pub under_made : (before now : Words) (var : ℕ) (lo hi n : Node) → IsUnder before var lo → IsUnder before var hi → IsMade before now var lo.number hi.number n.number → 0 < var → IsUnder now (var - 1) n
under_made before now var lo hi n low high made pos =
    let child = node_child now (var - 1) n.number var low.tree high.tree (made.means low.tree high.tree low.child.means high.child.means) (omega arith) in
    record { tree = child.0; child = child.1 }

pub under_chain : (a b c : Words) → IsPart a b → IsPart b c → IsPart a c
under_chain a b c first second p pos = let same = first p pos in second p (subst (λ w. 0 < w) (sym same) pos) ∙ same

pub constant_under : (at : Words) (var : ℕ) (n : Node) → n.number < 2 → IsUnder at var n
constant_under at var n lt = let child = constant_child at var n.number lt in record { tree = child.0; child = child.1 }

pub rest_more : (some all : Words) → IsPart some all → (var : ℕ) (r : Rest) → IsRest some var r → IsRest all var r
rest_more some all part var r is = record { clean = under_more some all part var r.clean is.clean; tainted = under_more some all part var r.tainted is.tainted }

-- one of the two nodes of a rest
pub rest_under : (at : Words) (var : ℕ) (r : Rest) (n : Node) → IsRest at var r → (n ≡ r.tainted) ⊎ (n ≡ r.clean) → IsUnder at var n
rest_under at var r n is = ⊎_elim (λ e. subst (IsUnder at var) (sym e) is.tainted) (λ e. subst (IsUnder at var) (sym e) is.clean)

-- a constant or a node that may be a child
pub forced_under : (at : Words) (var : ℕ) (n m : Node) → IsUnder at var m → (n.number < 2) ⊎ (n ≡ m) → IsUnder at var n
forced_under at var n m is = ⊎_elim (constant_under at var n) (λ e. subst (IsUnder at var) (sym e) is)
