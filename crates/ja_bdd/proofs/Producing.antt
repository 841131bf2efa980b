-- How the product of two nodes is made of the products of their parts.
use Rattle.std.proofs.Common.{◌≡◌, ℕ, suc, ◌+◌, ◌<◌, ◌≤◌, max, Bool, true, false, refl, sym, ap, ◌∙◌, subst, inl, inr, ⊎_elim, arith}
use Rattle.ja_node_core.specs.declared.aim.Aim.{Ghosts}
use Rattle.ja_node_core.specs.Tree.{Tree}
use Rattle.ja_node_core.specs.Node.{Words, Knows, IsPart}
use Rattle.ja_node_table.specs.declared.table.NodeTable.{NodeTable}
use Rattle.ja_node_table.specs.declared.full.Full.{Full}
use Rattle.ja_bdd.specs.Functions.{Function, with_var, fixed, chosen, either, IsFree, IsFrom, IsAimed}
use Rattle.ja_bdd.specs.Meaning.{meaning, IsMeant, IsHalved}
use Rattle.ja_bdd.specs.Room.{LacksRoomUnder}
use Rattle.ja_bdd.specs.Copies.{all_forgotten, fixed_below, IsAimedThroughout, LacksRoomWithin}
use Rattle.ja_bdd.specs.declared.cache.Joint.TheVariants.{And, Or}
use Rattle.ja_bdd.specs.Inner.{join_bits, joined, IsSettled, IsOpen, ArePieces, depth_of_both}
use Rattle.ja_bdd.proofs.Fixing.{from_op}
use Rattle.ja_bdd.proofs.Sound.{Sound, meaning_constant}
use Rattle.ja_bdd.proofs.Parts.{keeps, meant_more}
use Rattle.ja_bdd.proofs.Room.{lacks_same}
use Rattle.ja_bdd.proofs.Joining.{settled_is, joined_one, joined_parts, both_nearer, later, chosen_is}
use Rattle.ja_bdd.proofs.Forgetting.{is_constant}
use Rattle.ja_bdd.proofs.Quantified.{left_free, left_fixed, left_either, left_from, fixed_none, part_fixed, throughout_whole, throughout_part}

module _ (k : Words) (sound : Sound k) where
  constant_free : (n : ℕ) → n < 2 → (u : ℕ) → IsFree u (meaning k n)
  constant_free n lt u c a = let (b, is) = is_constant k sound n lt in ap (λ (φ : Function). φ (with_var a u c)) is ∙ sym (ap (λ (φ : Function). φ a) is)

  -- of a constant nothing is forgotten
  pub settled_constant : (goes : ℕ → Bool) (f g n : ℕ) → Knows k f → Knows k g → IsSettled And f g n → n < 2 → IsMeant k n (all_forgotten goes (joined And (meaning k f) (meaning k g)))
  settled_constant goes f g n x y is lt = let m = settled_is k sound And f g n x y is in (m.0, sym (left_free goes (meaning k n) (constant_free n lt)) ∙ ap (all_forgotten goes) m.1)

  -- one of two nodes, which is their conjunction, stands for both
  pub open_one : (f g n : ℕ) → Knows k f → Knows k g → IsSettled And f g n → 1 < n → IsOpen k And f g n n
  open_one f g n x y is big =
      let m = settled_is k sound And f g n x y is in
      record { inner = (big, big); known = (m.0, m.0); same = joined_one k sound And n n refl ∙ m.1; depth = deep is }
    where
      deep : IsSettled And f g n → depth_of_both k n n ≡ depth_of_both k f g
      deep (inl (e, why)) = subst (λ m. depth_of_both k m m ≡ depth_of_both k f g) (sym e) (⊎_elim (λ z. absurd (omega arith)) (⊎_elim (λ o. omega arith) (λ same. ap (depth_of_both k f) same)) why)
      deep (inr (e, why)) = subst (λ m. depth_of_both k m m ≡ depth_of_both k f g) (sym e) (⊎_elim (λ z. absurd (omega arith)) (λ o. omega arith) why)

-- what holds of one pair of parts, among words of which those before are part
pub record IsStep (aim : Tree → Type 0) (goes : ℕ → Bool) (k l : Words) (v f g a b : ℕ) (c : Bool) : Type 0 where
  pub known : Knows l a × Knows l b
  pub aimed : IsAimedThroughout aim goes (joined And (meaning l a) (meaning l b))
  pub near : depth_of_both l a b < depth_of_both k f g
  pub is : joined And (meaning l a) (meaning l b) ≡ fixed v c (joined And (meaning k f) (meaning k g))

module _ (aim : Tree → Type 0) (goes : ℕ → Bool) (k : Words) (sound : Sound k) (f g f' g' v fl fh gl gh : ℕ) (open' : IsOpen k And f g f' g')
    (hf : IsHalved k v f' fl fh) (hg : IsHalved k v g' gl gh) (small : v ≤ 4094) (deep : 4096 ≤ v + depth_of_both k f' g') (aimed : IsAimedThroughout aim goes (joined And (meaning k f) (meaning k g))) where
  abbrev Whole : Function
  Whole = joined And (meaning k f) (meaning k g)

  pub product_from : IsFrom v Whole
  product_from = subst (IsFrom v) open'.same (from_op (join_bits And) v (meaning k f') (meaning k g') hf.from hg.from)

  step : (l : Words) → Sound l → IsPart k l → (a b : ℕ) (c : Bool) → IsMeant k a (fixed v c (meaning k f')) → IsMeant k b (fixed v c (meaning k g')) → IsStep aim goes k l v f g a b c
  step l sound' part a b c is_a is_b =
      let x = meant_more k l sound sound' part a (fixed v c (meaning k f')) is_a in
      let y = meant_more k l sound sound' part b (fixed v c (meaning k g')) is_b in
      let same : joined And (meaning l a) (meaning l b) ≡ fixed v c Whole = joined_parts l And v c a b (meaning k f') (meaning k g') x y ∙ ap (fixed v c) open'.same in
      record {
        known = (x.0, y.0);
        aimed = subst (IsAimedThroughout aim goes) (sym same) (throughout_part aim goes Whole aimed v c product_from);
        near = subst (λ d. depth_of_both l a b < d) open'.depth (both_nearer k l sound' v f' g' a b small deep x.0 y.0 (later l v c a (meaning k f') hf.from x) (later l v c b (meaning k g') hg.from y));
        is = same;
      }

  pub step_low : (l : Words) → Sound l → IsPart k l → IsStep aim goes k l v f g fl gl false
  step_low l sound' part = step l sound' part fl gl false hf.low hg.low

  pub step_high : (l : Words) → Sound l → IsPart k l → IsStep aim goes k l v f g fh gh true
  step_high l sound' part = step l sound' part fh gh true hf.high hg.high

  -- the conjunction of the two open nodes, once more is known
  pub still_whole : (l : Words) → Sound l → IsPart k l → joined And (meaning l f') (meaning l g') ≡ Whole
  still_whole l sound' part =
      let x = keeps k l sound sound' part f' open'.known.0 in
      let y = keeps k l sound sound' part g' open'.known.1 in
      (λ i. joined And (x.1 i) (y.1 i)) ∙ open'.same

  -- where the variable goes and one product is true, the whole is true
  pub decided : (l : Words) → Sound l → (low : ℕ) (ψ : Function) → ψ ≡ fixed v false Whole → IsMeant l low (all_forgotten goes ψ) → low ≡ 1 → goes v ≡ true → IsMeant l low (all_forgotten goes Whole)
  decided l sound' low ψ is meant one on = (
    meant.0,
    truly ∙ (λ i. either (part i) (all_forgotten goes (fixed v true Whole))) ∙ left_either goes v Whole on small,
  )
    where
      truly : meaning l low ≡ (λ a. true)
      truly = ap (meaning l) one ∙ meaning_constant l sound' true

      part : (λ a. true) ≡ all_forgotten goes (fixed v false Whole)
      part = sym truly ∙ meant.1 ∙ ap (all_forgotten goes) is

  -- such a node answers what the cache is asked
  pub answers_open : (l : Words) → Sound l → IsPart k l → (n : ℕ) → IsMeant l n (all_forgotten goes Whole) → Knows l n × (Knows l f' × Knows l g' × (all_forgotten goes (joined And (meaning l f') (meaning l g')) ≡ meaning l n))
  answers_open l sound' part n is =
      let x = keeps k l sound sound' part f' open'.known.0 in
      let y = keeps k l sound sound' part g' open'.known.1 in
      (is.0, (x.0, y.0, ap (all_forgotten goes) (still_whole l sound' part) ∙ sym is.1))

  pub still_aimed : (l : Words) → Sound l → IsPart k l → IsAimed aim (all_forgotten goes (joined And (meaning l f') (meaning l g')))
  still_aimed l sound' part = subst (λ φ. IsAimed aim (all_forgotten goes φ)) (sym (still_whole l sound' part)) (throughout_whole aim goes Whole aimed)

  -- both products, made one after the other
  pub pieces : (l m : Words) → Sound l → Sound m → IsPart l m → IsPart k m → (low high : ℕ) (ψ χ : Function) → ψ ≡ fixed v false Whole → χ ≡ fixed v true Whole
      → IsMeant l low (all_forgotten goes ψ) → IsMeant m high (all_forgotten goes χ) → ArePieces m goes f' g' v low high
  pieces l m sound_l sound_m part whole_part low high ψ χ low_is high_is is_low is_high =
      let same = still_whole m sound_m whole_part in
      let x = meant_more l m sound_l sound_m part low (all_forgotten goes ψ) is_low in
      record {
        known = ((keeps k m sound sound_m whole_part f' open'.known.0).0, (keeps k m sound sound_m whole_part g' open'.known.1).0);
        from = subst (IsFrom v) (sym same) product_from;
        where_false = (x.0, x.1 ∙ ap (all_forgotten goes) (low_is ∙ ap (fixed v false) (sym same)));
        where_true = (is_high.0, is_high.1 ∙ ap (all_forgotten goes) (high_is ∙ ap (fixed v true) (sym same)));
      }

module _ (k : Words) (sound : Sound k) (goes : ℕ → Bool) (f g v low high : ℕ) (are : ArePieces k goes f g v low high) where
  abbrev Conjunction : Function
  Conjunction = joined And (meaning k f) (meaning k g)

  -- where the variable stays, the node over the two products
  pub stays_chosen : goes v ≡ false → chosen v (meaning k low) (meaning k high) ≡ all_forgotten goes Conjunction
  stays_chosen stays = chosen_is k v low high (all_forgotten goes Conjunction) (are.where_false.0, are.where_false.1 ∙ left_fixed goes v false Conjunction stays)
      (are.where_true.0, are.where_true.1 ∙ left_fixed goes v true Conjunction stays)

  pub stays_later : goes v ≡ false → IsFrom (suc v) (meaning k low) × IsFrom (suc v) (meaning k high)
  stays_later stays =
      let from = left_from goes v Conjunction are.from in (
        later k v false low (all_forgotten goes Conjunction) from (are.where_false.0, are.where_false.1 ∙ left_fixed goes v false Conjunction stays),
        later k v true high (all_forgotten goes Conjunction) from (are.where_true.0, are.where_true.1 ∙ left_fixed goes v true Conjunction stays),
      )

  -- where it goes, their disjunction
  pub goes_joined : goes v ≡ true → v ≤ 4094 → joined Or (meaning k low) (meaning k high) ≡ all_forgotten goes Conjunction
  goes_joined on le = (λ i. joined Or (are.where_false.1 i) (are.where_true.1 i)) ∙ left_either goes v Conjunction on le

module _ {A : Type 0} {G : Ghosts A} (t : NodeTable A) (k : Words) (goes : ℕ → Bool) (e : Full A G) where
  pub within_whole : (φ : Function) → LacksRoomUnder t k (all_forgotten goes φ) e → LacksRoomWithin t k goes φ e
  within_whole φ lacks = record { var = 0; below = λ u. false; lacks = lacks_same t k e _ _ (sym (ap (all_forgotten goes) (fixed_none (λ u. false) φ))) lacks }

  pub within_part : (v : ℕ) (b : Bool) (φ ψ : Function) → IsFrom v φ → ψ ≡ fixed v b φ → LacksRoomWithin t k goes ψ e → LacksRoomWithin t k goes φ e
  within_part v b φ ψ from is lacks = record {
    var = max lacks.var (suc v);
    below = with_var lacks.below v b;
    lacks = lacks_same t k e _ _ (ap (all_forgotten goes) (ap (fixed_below lacks.var lacks.below) is ∙ part_fixed v lacks.var b lacks.below φ from)) lacks.lacks;
  }

-- a function with itself
pub with_self : (φ : Function) → joined And φ φ ≡ φ
with_self φ i a = same (φ a) i
  where
    same : (b : Bool) → join_bits And b b ≡ b
    same true = refl
    same false = refl
