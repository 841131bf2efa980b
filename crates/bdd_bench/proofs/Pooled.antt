-- Lists of nodes that a worker knows.
use Rattle.std.proofs.Common.{◌≡◌, ℕ, ◌<◌, ◌∷◌, ◌++◌, [], List, length, get_or, Bool, refl, sym, ◌∙◌, subst}
use Rattle.std.proofs.lemmas.List.Elements.{All-weaker, All-push, All-get_or, All-nil, All-cons}
use Rattle.ja_node_core.specs.Node.{Words, Knows, constant}
use Rattle.ja_node_core.specs.declared.word.Node.{Node}
use Rattle.ja_bdd.specs.Functions.{IsFrom}
use Rattle.ja_bdd.specs.Meaning.{meaning, Keeps}
use Rattle.ja_bdd.proofs.Sound.{Sound, meaning_constant}
use Rattle.bdd_bench.specs.Ready.{AreKnown}

-- a constant looks at no variable
pub constant_from : (k : Words) → Sound k → (b : Bool) (v : ℕ) → IsFrom v (meaning k (constant b))
constant_from k sound b v = subst (IsFrom v) (sym (meaning_constant k sound b)) (λ u lt c a. refl)

pub known_still : (old new : Words) → Keeps old new → (ns : List Node) → AreKnown old ns → AreKnown new ns
known_still old new keeps ns = All-weaker (λ (n : Node). Knows old n.number) (λ (n : Node). Knows new n.number) (λ n x. (keeps n.number x).0) ns

pub known_pushed : (old new : Words) → Keeps old new → (ns ms : List Node) (n : Node) → ms ≡ ns ++ n ∷ [] → AreKnown old ns → Knows new n.number → AreKnown new ms
known_pushed old new keeps ns ms n is all x = subst (AreKnown new) (sym is) (All-push (λ (m : Node). Knows new m.number) ns n (known_still old new keeps ns all) x)

pub known_read : (k : Words) (ns : List Node) (i : ℕ) (n : Node) → AreKnown k ns → i < length ns → n ≡ get_or ns i n → Knows k n.number
known_read k ns i n all lt is = subst (λ (m : Node). Knows k m.number) (sym is) (All-get_or (λ (m : Node). Knows k m.number) ns i n lt all)

pub constants_known : (k : Words) (ns : List Node) (f t : Node) → ns ≡ f ∷ t ∷ [] → Knows k f.number → Knows k t.number → AreKnown k ns
constants_known k ns f t is x y = subst (AreKnown k) (sym is) (All-cons (λ (m : Node). Knows k m.number) f (t ∷ []) x (All-cons (λ (m : Node). Knows k m.number) t [] y (All-nil (λ (m : Node). Knows k m.number))))
