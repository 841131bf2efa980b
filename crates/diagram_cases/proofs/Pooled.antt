-- Lists of nodes that a worker knows.
use Rattle.std.proofs.Common.{◌≡◌, ◌≢◌, ℕ, suc, ◌<◌, ◌∷◌, ◌++◌, [], List, length, get_or, true, false, sym, subst, arith}
use Rattle.std.specs.Prelude.{if◌then◌else◌}
use native.Mathlib.Decide.{ℕ_discrete}
use Rattle.std.specs.List.{All}
use Rattle.std.proofs.lemmas.List.Elements.{All-weaker, All-push, All-get_or, All-nil, All-cons}
use Rattle.ja_node_core.specs.Node.{Words, Knows}
use Rattle.ja_node_core.specs.declared.word.Node.{Node}
use Rattle.ja_node_core.specs.declared.aim.Aim.{Ghosts}
use Rattle.ja_node_table.specs.declared.table.NodeTable.{NodeTable}
use Rattle.ja_node_core.proofs.Reduced.{with_var_other}
use Rattle.ja_bdd.specs.Functions.{chosen, IsFree, KeepsOrder}
use Rattle.ja_bdd.specs.Meaning.{meaning, IsMeant, Keeps}
use Rattle.ja_bdd.specs.Workers.{IsWorkerOf, seen}
use Rattle.ja_bdd.specs.declared.worker.Worker.{Worker}
use Rattle.ja_bdd.proofs.Sound.{Sound, knows_constant}
use Rattle.ja_bdd.proofs.Forgetting.{constant_from}

abbrev pub AreKnown : Words → List Node → Type 0
AreKnown k ns = All (λ (n : Node). Knows k n.number) ns

-- the worker is of the table, and knows the nodes
abbrev pub IsReady : {A : Type 0} {G : Ghosts A} → NodeTable A → Worker A G → List Node → Type 0
IsReady t w ns = IsWorkerOf t w × AreKnown (seen w) ns

pub known_still : (old new : Words) → Keeps old new → (ns : List Node) → AreKnown old ns → AreKnown new ns
known_still old new keeps ns = All-weaker (λ (n : Node). Knows old n.number) (λ (n : Node). Knows new n.number) (λ n x. (keeps n.number x).0) ns

pub known_pushed : (old new : Words) → Keeps old new → (ns ms : List Node) (n : Node) → ms ≡ ns ++ n ∷ [] → AreKnown old ns → Knows new n.number → AreKnown new ms
known_pushed old new keeps ns ms n is all x = subst (AreKnown new) (sym is) (All-push (λ (m : Node). Knows new m.number) ns n (known_still old new keeps ns all) x)

pub known_read : (k : Words) (ns : List Node) (i : ℕ) (n : Node) → AreKnown k ns → i < length ns → n ≡ get_or ns i n → Knows k n.number
known_read k ns i n all lt is = subst (λ (m : Node). Knows k m.number) (sym is) (All-get_or (λ (m : Node). Knows k m.number) ns i n lt all)

pub constants_known : (k : Words) (ns : List Node) (f t : Node) → ns ≡ f ∷ t ∷ [] → Knows k f.number → Knows k t.number → AreKnown k ns
constants_known k ns f t is x y = subst (AreKnown k) (sym is) (All-cons (λ (m : Node). Knows k m.number) f (t ∷ []) x (All-cons (λ (m : Node). Knows k m.number) t [] y (All-nil (λ (m : Node). Knows k m.number))))

-- a variable's node looks at no other variable
literal_free : (k : Words) → Sound k → (v u : ℕ) → u ≢ v → IsFree u (chosen v (meaning k 0) (meaning k 1))
literal_free k sound v u ne b a i = if with_var_other a u b v (λ e. ne (sym e)) i then constant_from k sound true (suc u) u (omega arith) b a i else constant_from k sound false (suc u) u (omega arith) b a i

-- so every renaming keeps its order
pub literal_order : (k l : Words) → Sound k → (v n : ℕ) → IsMeant l n (chosen v (meaning k 0) (meaning k 1)) → (m : ℕ → ℕ) → KeepsOrder m (meaning l n)
literal_order k l sound v n is m u w looks looks' lt = absurd (none (ℕ_discrete u v) (ℕ_discrete w v))
  where
    free : (x : ℕ) → x ≢ v → IsFree x (meaning l n)
    free x ne = subst (IsFree x) (sym is.1) (literal_free k sound v x ne)

    none : Dec (u ≡ v) → Dec (w ≡ v) → ⊥
    none (no ne) d = looks (free u ne)
    none (yes e) (no ne) = looks' (free w ne)
    none (yes e) (yes f) = absurd (omega arith)
