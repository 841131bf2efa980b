-- What forgetting a variable makes of a node's parts.
use Rattle.std.proofs.Common.{◌≡◌, ◌≢◌, ℕ, zero, suc, ◌+◌, ◌<◌, ◌≤◌, ◌||◌, Bool, true, false, refl, sym, ap, ◌∙◌, subst, arith}
use Rattle.ja_node_core.specs.Tree.{Tree}
use Rattle.ja_node_core.specs.Word.{var_of}
use Rattle.ja_node_core.specs.Node.{Words, Knows, constant}
use Rattle.ja_bdd.specs.Functions.{Function, with_var, fixed, forgotten, renamed, IsFrom, IsAimed}
use Rattle.ja_bdd.specs.Meaning.{meaning, IsMeant}
use Rattle.ja_bdd.specs.declared.cache.Joint.TheVariants.{Or}
use Rattle.ja_bdd.specs.Inner.{joined, depth}
use Rattle.ja_bdd.proofs.Fixing.{forgotten_free, forgotten_fixed, from_forgotten}
use Rattle.ja_bdd.proofs.Named.{IsSmall, Falls, small_fixed}
use Rattle.ja_bdd.proofs.Sound.{Sound, meaning_constant, meaning_small}
use Rattle.ja_bdd.proofs.Parts.{depth_from}
use Rattle.ja_bdd.proofs.Joining.{IsCut, cut_function}

-- a node that is no constant is as far from the end as its variable says
pub own_depth : (k : Words) (n v : ℕ) → 1 < n → v ≡ var_of (k n) → 4096 ≤ v + depth k n
own_depth k n v big is = omega arith

pub nearer : (k l : Words) → Sound l → (v n c : ℕ) → v ≤ 4094 → 4096 ≤ v + depth k n → Knows l c → IsFrom (suc v) (meaning l c) → depth l c < depth k n
nearer k l sound v n c small deep x from = let a = depth_from l sound v c x small from in omega arith

module _ (k : Words) (sound : Sound k) where
  -- a node that is a constant means one value
  pub is_constant : (n : ℕ) → n < 2 → (b : Bool) × (meaning k n ≡ (λ a. b))
  is_constant n lt = at n lt
    where
      at : (n : ℕ) → n < 2 → (b : Bool) × (meaning k n ≡ (λ a. b))
      at zero lt = (false, meaning_constant k sound false)
      at (suc zero) lt = (true, meaning_constant k sound true)
      at (suc (suc n)) lt = absurd (omega arith)

  -- a constant looks at no variable
  pub constant_from : (b : Bool) (v : ℕ) → IsFrom v (meaning k (constant b))
  constant_from b v = subst (IsFrom v) (sym (meaning_constant k sound b)) (λ u lt c a. refl)

  pub forgotten_constant : (w n : ℕ) → n < 2 → forgotten w (meaning k n) ≡ meaning k n
  forgotten_constant w n lt = let (b, is) = is_constant n lt in forgotten_free w (meaning k n) (λ c a i. (ap (λ (φ : Function). φ (with_var a w c)) is ∙ sym (ap (λ (φ : Function). φ a) is)) i)

  pub renamed_constant : (m : ℕ → ℕ) (n : ℕ) → n < 2 → renamed m (meaning k n) ≡ meaning k n
  renamed_constant m n lt = let (b, is) = is_constant n lt in ap (renamed m) is ∙ sym is

  pub forgotten_small : (w n : ℕ) → Knows k n → IsSmall (forgotten w (meaning k n))
  forgotten_small w n x a b same =
      let small = meaning_small k sound n x in
      λ i. small_fixed w false (meaning k n) small a b same i || small_fixed w true (meaning k n) small a b same i

  -- forgetting a later variable, cut at the node's own
  pub forgotten_cut : (aim : Tree → Type 0) → Falls aim → (w v n : ℕ) → Knows k n → IsFrom v (meaning k n) → IsAimed aim (forgotten w (meaning k n)) → IsCut aim v (forgotten w (meaning k n))
  forgotten_cut aim falls w v n x from aimed = cut_function aim falls v (forgotten w (meaning k n)) (forgotten_small w n x) (from_forgotten w v (meaning k n) from) aimed

  -- forgetting an earlier variable changes nothing
  pub forgotten_past : (w v n : ℕ) → w < v → IsFrom v (meaning k n) → forgotten w (meaning k n) ≡ meaning k n
  forgotten_past w v n lt from = forgotten_free w (meaning k n) (from w lt)

-- forgetting in a part is the part of forgetting
pub forgotten_part : (l : Words) (w v : ℕ) (b : Bool) (c : ℕ) (φ : Function) → v ≢ w → IsMeant l c (fixed v b φ) → forgotten w (meaning l c) ≡ fixed v b (forgotten w φ)
forgotten_part l w v b c φ ne is = ap (forgotten w) is.1 ∙ forgotten_fixed w v b φ ne

-- forgetting the node's own variable is the disjunction of its parts
pub forgotten_own : (l : Words) (w low high : ℕ) (φ : Function) → IsMeant l low (fixed w false φ) → IsMeant l high (fixed w true φ) → joined Or (meaning l low) (meaning l high) ≡ forgotten w φ
forgotten_own l w low high φ is js i = joined Or (is.1 i) (js.1 i)
