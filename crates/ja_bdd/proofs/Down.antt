-- What holds of the parts of one node, where a variable is forgotten or all are renamed.
use Rattle.std.proofs.Common.{◌≡◌, ◌≢◌, ℕ, ◌+◌, ◌<◌, ◌≤◌, Bool, true, false, sym, ap, ◌∙◌, subst, arith}
use Rattle.ja_node_core.specs.Tree.{Tree}
use Rattle.ja_node_core.specs.Node.{Words, Knows, IsPart}
use Rattle.ja_bdd.specs.Functions.{Function, fixed, forgotten, renamed, IsFree, KeepsOrder, IsAimed}
use Rattle.ja_bdd.specs.Meaning.{meaning, IsMeant, IsHalved}
use Rattle.ja_bdd.specs.Inner.{depth}
use Rattle.ja_bdd.proofs.Named.{Falls}
use Rattle.ja_bdd.proofs.Sound.{Sound}
use Rattle.ja_bdd.proofs.Parts.{meant_more}
use Rattle.ja_bdd.proofs.Joining.{IsCut, cut_function, later}
use Rattle.ja_bdd.proofs.Fixing.{forgotten_fixed}
use Rattle.ja_bdd.proofs.Forgetting.{nearer, forgotten_cut}
use Rattle.ja_bdd.proofs.Shifting.{own_looks, order_fixed, renamed_fixed, renamed_from, renamed_small}

-- one part of a node, among words of which those before are part: what the operation makes of it is a part of the whole, at the variable u of the whole
pub record IsBelow (aim : Tree → Type 0) (k l : Words) (T : Function → Function) (n c u : ℕ) (b : Bool) : Type 0 where
  pub known : Knows l c
  pub aimed : IsAimed aim (T (meaning l c))
  pub near : depth l c < depth k n
  pub is : T (meaning l c) ≡ fixed u b (T (meaning k n))

module _ (aim : Tree → Type 0) (falls : Falls aim) (k : Words) (sound : Sound k) (n v lo hi : ℕ) (x : Knows k n) (half : IsHalved k v n lo hi) (small : v ≤ 4094) (deep : 4096 ≤ v + depth k n) where
  below : (T : Function → Function) (u : ℕ) (b : Bool) (c : ℕ) → IsMeant k c (fixed v b (meaning k n)) → T (fixed v b (meaning k n)) ≡ fixed u b (T (meaning k n)) → IsAimed aim (fixed u b (T (meaning k n)))
      → (l : Words) → Sound l → IsPart k l → IsBelow aim k l T n c u b
  below T u b c is part aimed l sound' grows =
      let y = meant_more k l sound sound' grows c (fixed v b (meaning k n)) is in
      let same : T (meaning l c) ≡ fixed u b (T (meaning k n)) = ap T y.1 ∙ part in
      record {
        known = y.0;
        aimed = subst (IsAimed aim) (sym same) aimed;
        near = nearer k l sound' v n c small deep y.0 (later l v b c (meaning k n) half.from y);
        is = same;
      }

  module _ (w : ℕ) (lt : v < w) (aimed : IsAimed aim (forgotten w (meaning k n))) where
    pub forget_whole : IsCut aim v (forgotten w (meaning k n))
    forget_whole = forgotten_cut k sound aim falls w v n x half.from aimed

    pub forget_low : (l : Words) → Sound l → IsPart k l → IsBelow aim k l (forgotten w) n lo v false
    forget_low = below (forgotten w) v false lo half.low (forgotten_fixed w v false (meaning k n) (λ e. omega arith)) forget_whole.low

    pub forget_high : (l : Words) → Sound l → IsPart k l → IsBelow aim k l (forgotten w) n hi v true
    forget_high = below (forgotten w) v true hi half.high (forgotten_fixed w v true (meaning k n) (λ e. omega arith)) forget_whole.high

  module _ (m : ℕ → ℕ) (partners : (u : ℕ) → m u ≤ 4094) (apart : lo ≢ hi) (order : KeepsOrder m (meaning k n)) (aimed : IsAimed aim (renamed m (meaning k n))) where
    looks : ¬ IsFree v (meaning k n)
    looks = own_looks k sound v n lo hi apart half

    pub rename_whole : IsCut aim (m v) (renamed m (meaning k n))
    rename_whole = cut_function aim falls (m v) (renamed m (meaning k n)) (renamed_small k sound m n x (λ u le. partners u)) (renamed_from k sound m v n x looks order half.from) aimed

    pub rename_low : (l : Words) → Sound l → IsPart k l → IsBelow aim k l (renamed m) n lo (m v) false
    rename_low = below (renamed m) (m v) false lo half.low (renamed_fixed k sound m v n false x looks order half.from) rename_whole.low

    pub rename_high : (l : Words) → Sound l → IsPart k l → IsBelow aim k l (renamed m) n hi (m v) true
    rename_high = below (renamed m) (m v) true hi half.high (renamed_fixed k sound m v n true x looks order half.from) rename_whole.high

    -- the order is kept in a part
    pub order_part : (l : Words) → Sound l → IsPart k l → (b : Bool) (c : ℕ) → IsMeant k c (fixed v b (meaning k n)) → KeepsOrder m (meaning l c)
    order_part l sound' grows b c is = subst (KeepsOrder m) (sym (meant_more k l sound sound' grows c (fixed v b (meaning k n)) is).1) (order_fixed m v b (meaning k n) order)
