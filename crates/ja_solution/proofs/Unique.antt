-- Each instruction is in one block.
use Rattle.std.proofs.Common.{◌≡◌, ℕ, ◌<◌, List, get_or, refl, subst, inl, inr, arith}
use Rattle.std.specs.Prelude.{Some, Contains, slice_get}
use Rattle.std.proofs.lemmas.Option.{slice_get_within, get_or_from_slice_get}
use native.Mathlib.Decide.{dec_lt}
use mathlib.Core.Logic.{dite}
use Rattle.ja_ir.specs.declared.program.Parts.{Parts}
use Rattle.ja_blocks.specs.declared.blocks.ProgramBlock.{ProgramBlock}
use Rattle.ja_blocks.specs.Blocks.{HasPlace, Precedes, AreProgramBlocks}

-- the list has what stands in it
pub listed_at : {X : Type 0} (xs : List X) (k : ℕ) (y : X) → slice_get xs k ≡ Some y → Contains xs y
listed_at xs k y at = (k, slice_get_within xs k y at, get_or_from_slice_get xs k y y at)

module _ (p : Parts) (blocks : List ProgramBlock) (are : AreProgramBlocks p blocks) where
  -- the earlier of two blocks ends before the later one begins
  apart : (j k : ℕ) (a b : ProgramBlock) → slice_get blocks j ≡ Some a → slice_get blocks k ≡ Some b → j < k → Precedes a b
  apart j k a b first second lt =
      let pair : Precedes (get_or blocks j a) (get_or blocks k a) = are.sorted j k a lt (slice_get_within blocks k b second) in
      let one : get_or blocks j a ≡ a = get_or_from_slice_get blocks j a a first in
      let other : get_or blocks k a ≡ b = get_or_from_slice_get blocks k b a second in
      subst (λ (q : ProgramBlock × ProgramBlock). Precedes q.0 q.1) (λ i. (one i, other i)) pair

  not_both : (a b : ProgramBlock) (m i : ℕ) → Precedes a b → HasPlace a m i → HasPlace b m i → ⊥
  not_both a b m i (inl less) (first, from, to) (second, start, end) = absurd (omega arith)
  not_both a b m i (inr (same, less)) (first, from, to) (second, start, end) = absurd (omega arith)

  -- two blocks that have one instruction are one
  pub one_block : (j k : ℕ) (a b : ProgramBlock) (m i : ℕ) → slice_get blocks j ≡ Some a → slice_get blocks k ≡ Some b → HasPlace a m i → HasPlace b m i → j ≡ k
  one_block j k a b m i first second has too = dite (dec_lt j k)
      (λ lt. absurd (not_both a b m i (apart j k a b first second lt) has too))
      (λ not. dite (dec_lt k j)
      (λ lt. absurd (not_both b a m i (apart k j b a second first lt) too has))
      (λ neither. omega arith))

  -- a block has its first instruction
  pub has_first : (k : ℕ) (block : ProgramBlock) → slice_get blocks k ≡ Some block → HasPlace block block.method.0 block.first
  has_first k block at = let is = are.each block (listed_at blocks k block at) in (refl, (let ordered = is.is.ordered in omega arith), is.is.ordered)
