-- What the parts of two nodes make is the part of what the nodes make.
use Rattle.std.proofs.Common.{◌≡◌, ◌⊎◌, ℕ, suc, ◌+◌, ◌<◌, ◌≤◌, min, Bool, true, false, refl, sym, ap, ◌∙◌, subst, inl, inr, ⊎_elim, arith}
use Rattle.ja_node_core.specs.Tree.{Tree}
use Rattle.ja_node_core.specs.Word.{var_of, low_of, high_of}
use Rattle.ja_node_core.specs.Node.{Words, Knows, IsPart, constant}
use Rattle.ja_bdd.specs.Functions.{Function, fixed, chosen, IsFrom, IsAimed}
use Rattle.ja_bdd.specs.Meaning.{meaning, IsMeant, IsHalved}
use Rattle.ja_node_core.specs.declared.word.Node.{Node}
use Rattle.ja_bdd.specs.declared.cache.Joint.{Joint}
use Rattle.ja_bdd.specs.declared.cache.Joint.TheVariants.{And, Or}
use Rattle.ja_bdd.specs.Inner.{join_bits, joined, decider, neutral, IsSettled, IsOpen, depth_of_both}
use Rattle.ja_bdd.proofs.Fixing.{choice, from_fixed, from_op}
use Rattle.ja_bdd.proofs.Named.{IsSmall, Falls, aimed_parts}
use Rattle.ja_bdd.proofs.Sound.{Sound, meaning_constant, meaning_small}
use mathlib.Core.Logic.{dite}
use native.Mathlib.Decide.{ℕ_discrete}
use Rattle.ja_bdd.proofs.Parts.{keeps, meant_more, depth_from, from_weaker, halved_past, parts_halved}

-- the two parts of a function at a variable before which it does not look, when the function is of the aim
pub record IsCut (aim : Tree → Type 0) (v : ℕ) (φ : Function) : Type 0 where
  pub from : IsFrom v φ
  pub low : IsAimed aim (fixed v false φ)
  pub high : IsAimed aim (fixed v true φ)

pub cut_function : (aim : Tree → Type 0) → Falls aim → (v : ℕ) (φ : Function) → IsSmall φ → IsFrom v φ → IsAimed aim φ → IsCut aim v φ
cut_function aim falls v φ small from aimed = let parts = aimed_parts aim falls v φ small from aimed in record { from = from; low = parts.0; high = parts.1 }

-- a part is known where more is known, and looks at later variables
pub later : (k : Words) (v : ℕ) (b : Bool) (n : ℕ) (φ : Function) → IsFrom v φ → IsMeant k n (fixed v b φ) → IsFrom (suc v) (meaning k n)
later k v b n φ from is = subst (IsFrom (suc v)) (sym is.1) (from_fixed v b φ from)

-- the node over the two parts of a function means the function
pub chosen_is : (k : Words) (v low high : ℕ) (φ : Function) → IsMeant k low (fixed v false φ) → IsMeant k high (fixed v true φ) → chosen v (meaning k low) (meaning k high) ≡ φ
chosen_is k v low high φ l h = (λ i. chosen v (l.1 i) (h.1 i)) ∙ choice v φ

joins_same : (j : Joint) (b : Bool) → join_bits j b b ≡ b
joins_same And true = refl
joins_same And false = refl
joins_same Or true = refl
joins_same Or false = refl

joins_neutral : (j : Joint) (b : Bool) → join_bits j (neutral j) b ≡ b
joins_neutral And b = refl
joins_neutral Or b = refl

joins_decider : (j : Joint) (b : Bool) → join_bits j (decider j) b ≡ decider j
joins_decider And b = refl
joins_decider Or b = refl

joins_turned : (j : Joint) (b c : Bool) → join_bits j b c ≡ join_bits j c b
joins_turned And true true = refl
joins_turned And true false = refl
joins_turned And false true = refl
joins_turned And false false = refl
joins_turned Or true true = refl
joins_turned Or true false = refl
joins_turned Or false true = refl
joins_turned Or false false = refl

-- the order of two functions does not matter
pub joined_turned : (j : Joint) (φ ψ : Function) → joined j φ ψ ≡ joined j ψ φ
joined_turned j φ ψ i a = joins_turned j (φ a) (ψ a) i

module _ (k : Words) (sound : Sound k) where
  -- a constant that decides, or one that changes nothing, or one function twice
  pub joined_decided : (j : Joint) (f g : ℕ) → f ≡ constant (decider j) → joined j (meaning k f) (meaning k g) ≡ meaning k f
  joined_decided j f g e =
      let is : meaning k f ≡ (λ a. decider j) = ap (meaning k) e ∙ meaning_constant k sound (decider j) in
      (λ i a. join_bits j (is i a) (meaning k g a)) ∙ (λ i a. joins_decider j (meaning k g a) i) ∙ sym is

  pub joined_neutral : (j : Joint) (f g : ℕ) → f ≡ constant (neutral j) → joined j (meaning k f) (meaning k g) ≡ meaning k g
  joined_neutral j f g e =
      let is : meaning k f ≡ (λ a. neutral j) = ap (meaning k) e ∙ meaning_constant k sound (neutral j) in
      (λ i a. join_bits j (is i a) (meaning k g a)) ∙ (λ i a. joins_neutral j (meaning k g a) i)

  pub joined_one : (j : Joint) (f g : ℕ) → f ≡ g → joined j (meaning k f) (meaning k g) ≡ meaning k f
  joined_one j f g e = ap (λ n. joined j (meaning k f) (meaning k n)) (sym e) ∙ (λ i a. joins_same j (meaning k f a) i)

  pub settled_is : (j : Joint) (f g n : ℕ) → Knows k f → Knows k g → IsSettled j f g n → IsMeant k n (joined j (meaning k f) (meaning k g))
  settled_is j f g n x y (inl (is, why)) = (
    subst (Knows k) (sym is) x,
    ap (meaning k) is ∙ sym (⊎_elim (joined_decided j f g) (⊎_elim (λ e. joined_turned j (meaning k f) (meaning k g) ∙ joined_neutral j g f e) (joined_one j f g)) why),
  )
  settled_is j f g n x y (inr (is, why)) = (
    subst (Knows k) (sym is) y,
    ap (meaning k) is ∙ sym (⊎_elim (λ e. joined_turned j (meaning k f) (meaning k g) ∙ joined_decided j g f e) (joined_neutral j f g) why),
  )

  pub joined_small : (j : Joint) (f g : ℕ) → Knows k f → Knows k g → IsSmall (joined j (meaning k f) (meaning k g))
  joined_small j f g x y a b same = (λ i. join_bits j (meaning_small k sound f x a b same i) (meaning_small k sound g y a b same i))

  -- what two nodes make, cut at a variable before which neither looks
  pub joined_cut : (aim : Tree → Type 0) → Falls aim → (j : Joint) (v f g : ℕ) → Knows k f → Knows k g → IsFrom v (meaning k f) → IsFrom v (meaning k g)
      → IsAimed aim (joined j (meaning k f) (meaning k g)) → IsCut aim v (joined j (meaning k f) (meaning k g))
  joined_cut aim falls j v f g x y s t aimed = cut_function aim falls v (joined j (meaning k f) (meaning k g)) (joined_small j f g x y) (from_op (join_bits j) v (meaning k f) (meaning k g) s t) aimed

-- two parts join to the part of the join
pub joined_parts : (k : Words) (j : Joint) (v : ℕ) (b : Bool) (f g : ℕ) (φ ψ : Function) → IsMeant k f (fixed v b φ) → IsMeant k g (fixed v b ψ) → joined j (meaning k f) (meaning k g) ≡ fixed v b (joined j φ ψ)
joined_parts k j v b f g φ ψ is js i = joined j (is.1 i) (js.1 i)

-- the parts of two nodes are nearer to the last variable
pub both_nearer : (k l : Words) → Sound l → (v f g f' g' : ℕ) → v ≤ 4094 → 4096 ≤ v + depth_of_both k f g → Knows l f' → Knows l g' → IsFrom (suc v) (meaning l f') → IsFrom (suc v) (meaning l g') → depth_of_both l f' g' < depth_of_both k f g
both_nearer k l sound v f g f' g' small deep x y s t = let a = depth_from l sound v f' x small s in let b = depth_from l sound v g' y small t in omega arith

-- what holds of one pair of parts, among words of which those before are part
pub record IsDown (aim : Tree → Type 0) (k l : Words) (j : Joint) (v f g a b : ℕ) (c : Bool) : Type 0 where
  pub known : Knows l a × Knows l b
  pub aimed : IsAimed aim (joined j (meaning l a) (meaning l b))
  pub near : depth_of_both l a b < depth_of_both k f g
  pub is : joined j (meaning l a) (meaning l b) ≡ fixed v c (joined j (meaning k f) (meaning k g))

module _ (aim : Tree → Type 0) (falls : Falls aim) (k : Words) (sound : Sound k) (j : Joint) (f g f' g' v fl fh gl gh : ℕ) (open' : IsOpen k j f g f' g')
    (hf : IsHalved k v f' fl fh) (hg : IsHalved k v g' gl gh) (small : v ≤ 4094) (deep : 4096 ≤ v + depth_of_both k f' g') (aimed : IsAimed aim (joined j (meaning k f) (meaning k g))) where
  abbrev Whole : Function
  Whole = joined j (meaning k f) (meaning k g)

  pub whole_cut : IsCut aim v Whole
  whole_cut = subst (IsCut aim v) open'.same (joined_cut k sound aim falls j v f' g' open'.known.0 open'.known.1 hf.from hg.from (subst (IsAimed aim) (sym open'.same) aimed))

  down : (l : Words) → Sound l → IsPart k l → (a b : ℕ) (c : Bool) → IsMeant k a (fixed v c (meaning k f')) → IsMeant k b (fixed v c (meaning k g')) → IsAimed aim (fixed v c Whole) → IsDown aim k l j v f g a b c
  down l sound' part a b c is_a is_b aimed' =
      let x = meant_more k l sound sound' part a (fixed v c (meaning k f')) is_a in
      let y = meant_more k l sound sound' part b (fixed v c (meaning k g')) is_b in
      let same : joined j (meaning l a) (meaning l b) ≡ fixed v c Whole = joined_parts l j v c a b (meaning k f') (meaning k g') x y ∙ ap (fixed v c) open'.same in
      record {
        known = (x.0, y.0);
        aimed = subst (IsAimed aim) (sym same) aimed';
        near = subst (λ d. depth_of_both l a b < d) open'.depth (both_nearer k l sound' v f' g' a b small deep x.0 y.0 (later l v c a (meaning k f') hf.from x) (later l v c b (meaning k g') hg.from y));
        is = same;
      }

  pub down_low : (l : Words) → Sound l → IsPart k l → IsDown aim k l j v f g fl gl false
  down_low l sound' part = down l sound' part fl gl false hf.low hg.low whole_cut.low

  pub down_high : (l : Words) → Sound l → IsPart k l → IsDown aim k l j v f g fh gh true
  down_high l sound' part = down l sound' part fh gh true hf.high hg.high whole_cut.high

  -- what was asked of the two nodes in order is the function of the whole
  pub about_open : (l : Words) → Sound l → IsPart k l → (φ : Function) → φ ≡ Whole → Knows l f' × Knows l g' × (joined j (meaning l f') (meaning l g') ≡ φ)
  about_open l sound' part φ is =
      let x = keeps k l sound sound' part f' open'.known.0 in
      let y = keeps k l sound sound' part g' open'.known.1 in
      (x.0, y.0, (λ i. joined j (x.1 i) (y.1 i)) ∙ open'.same ∙ sym is)

-- both parts of a function, made one after the other
pub record AreMade (aim : Tree → Type 0) (k : Words) (v low high : ℕ) (φ : Function) : Type 0 where
  pub known : Knows k low × Knows k high
  pub later : IsFrom (suc v) (meaning k low) × IsFrom (suc v) (meaning k high)
  pub aimed : IsAimed aim (chosen v (meaning k low) (meaning k high))
  pub is : chosen v (meaning k low) (meaning k high) ≡ φ

pub both_made : (aim : Tree → Type 0) (old new : Words) → Sound old → Sound new → IsPart old new → (v low high : ℕ) (φ ψ χ : Function) → IsFrom v φ → IsAimed aim φ
    → ψ ≡ fixed v false φ → χ ≡ fixed v true φ → IsMeant old low ψ → IsMeant new high χ → AreMade aim new v low high φ
both_made aim old new sound sound' part v low high φ ψ χ from aimed low_is high_is l h =
    let x : IsMeant new low (fixed v false φ) = (let more = meant_more old new sound sound' part low ψ l in (more.0, more.1 ∙ low_is)) in
    let y : IsMeant new high (fixed v true φ) = (h.0, h.1 ∙ high_is) in
    let is = chosen_is new v low high φ x y in
    record { known = (x.0, y.0); later = (later new v false low φ from x, later new v true high φ from y); aimed = subst (IsAimed aim) (sym is) aimed; is = is }

-- one node's parts at a variable that is not after its own
pub halved_by : (k : Words) → Sound k → (n u lo hi v a b : ℕ) → 1 < n → Knows k n → u ≡ var_of (k n) → lo ≡ low_of (k n) → hi ≡ high_of (k n) → v ≤ u
    → (u ≡ v → (a ≡ lo) × (b ≡ hi)) → (v < u → (a ≡ n) × (b ≡ n)) → IsHalved k v n a b
halved_by k sound n u lo hi v a b big x us ls hs le at past = dite (ℕ_discrete u v)
    (λ e. let is = at e in parts_halved k sound n v a b big x (sym e ∙ us) (is.0 ∙ ls) (is.1 ∙ hs))
    (λ ne.
    let lt : v < u = omega arith in
    let is = past lt in
    let from = (parts_halved k sound n u lo hi big x us ls hs).from in
    subst (λ (p : ℕ × ℕ). IsHalved k v n p.0 p.1) (λ i. (sym is.0 i, sym is.1 i)) (halved_past k sound v n x (from_weaker u (suc v) (meaning k n) (omega arith) from)))

-- two nodes in some order, neither of them a constant
pub opened : (k : Words) → Sound k → (j : Joint) (f g : ℕ) → Knows k f → Knows k g → 1 < f → 1 < g → IsOpen k j f g f g × IsOpen k j f g g f
opened k sound j f g x y big big' = (
  record { inner = (big, big'); known = (x, y); same = refl; depth = refl },
  record { inner = (big', big); known = (y, x); same = joined_turned j (meaning k g) (meaning k f); depth = omega arith },
)

-- two nodes that were put in order
pub turned : (k : Words) (j : Joint) (f g : Node) (p : Node × Node) → (p ≡ (f, g)) ⊎ (p ≡ (g, f)) → joined j (meaning k p.0.number) (meaning k p.1.number) ≡ joined j (meaning k f.number) (meaning k g.number)
turned k j f g p (inl e) = ap (λ (q : Node × Node). joined j (meaning k q.0.number) (meaning k q.1.number)) e
turned k j f g p (inr e) = ap (λ (q : Node × Node). joined j (meaning k q.0.number) (meaning k q.1.number)) e ∙ joined_turned j (meaning k g.number) (meaning k f.number)

pub opened_by : (k : Words) → Sound k → (j : Joint) (f g : Node) (p : Node × Node) → Knows k f.number → Knows k g.number → 1 < f.number → 1 < g.number → (p ≡ (f, g)) ⊎ (p ≡ (g, f)) → IsOpen k j f.number g.number p.0.number p.1.number
opened_by k sound j f g p x y big big' (inl e) = subst (λ (q : Node × Node). IsOpen k j f.number g.number q.0.number q.1.number) (sym e) (opened k sound j f.number g.number x y big big').0
opened_by k sound j f g p x y big big' (inr e) = subst (λ (q : Node × Node). IsOpen k j f.number g.number q.0.number q.1.number) (sym e) (opened k sound j f.number g.number x y big big').1

-- the first variable of two nodes is as far from the end as the further node
pub both_deep : (k : Words) (f g u w v : ℕ) → 1 < f → 1 < g → u ≡ var_of (k f) → w ≡ var_of (k g) → v ≡ min u w → 4096 ≤ v + depth_of_both k f g
both_deep k f g u w v big big' us ws is = omega arith
