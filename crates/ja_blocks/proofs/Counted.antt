-- What is noted of one instruction, or of one block, more.
use Rattle.std.proofs.Common.{◌≡◌, ◌⊎◌, ℕ, ◌+◌, ◌≤◌, List, [], length, sym, ap, ◌∙◌, subst, inl, inr, ⊎_elim, arith}
use Rattle.std.specs.Prelude.{◌↔◌, Some, slice_get, slice_index_or}
use Rattle.std.proofs.lemmas.Option.{slice_get_within}
use mathlib.Core.Logic.{dite}
use native.Mathlib.Decide.{dec_lt}
use Rattle.ja_sets.specs.Sets.{Has}
use Rattle.ja_facts.specs.FactTables.{HeldTable}
use Rattle.ja_blocks.specs.declared.blocks.ProgramBlock.{ProgramBlock}
use Rattle.ja_blocks.specs.Readers.{HasInstr, IsBlockWith, MayHold}
use Rattle.ja_blocks.specs.Inner.{HasInstrBelow, UpTo}

module _ (block : ProgramBlock) (P : ℕ → ℕ → ℕ → Type 0) (number : ℕ) where
  pub below_none : (k x : ℕ) → HasInstrBelow block block.first (λ m i. P m i k) × (x ≡ number) → ⊥
  below_none k x ((i, from, lt, holds), is) = omega arith

  pub below_more : (i : ℕ) → block.first ≤ i → (k x : ℕ) → ((HasInstrBelow block i (λ m j. P m j k) × (x ≡ number)) ⊎ (P block.method.0 i k × (x ≡ number))) ↔ (HasInstrBelow block (i + 1) (λ m j. P m j k) × (x ≡ number))
  below_more i le k x = (forth, back)
    where
      forth : (HasInstrBelow block i (λ m j. P m j k) × (x ≡ number)) ⊎ (P block.method.0 i k × (x ≡ number)) → HasInstrBelow block (i + 1) (λ m j. P m j k) × (x ≡ number)
      forth (inl ((j, from, lt, holds), is)) = ((j, from, omega arith, holds), is)
      forth (inr (holds, is)) = ((i, le, omega arith, holds), is)

      back : HasInstrBelow block (i + 1) (λ m j. P m j k) × (x ≡ number) → (HasInstrBelow block i (λ m j. P m j k) × (x ≡ number)) ⊎ (P block.method.0 i k × (x ≡ number))
      back ((j, from, lt, holds), is) = dite (dec_lt j i)
          (λ less. inl ((j, from, less, holds), is))
          (λ not. inr (subst (λ n. P block.method.0 n k) (let here : j ≡ i = omega arith in here) holds, is))

  pub below_all : (end : ℕ) → end ≡ block.last + 1 → (k x : ℕ) → (HasInstrBelow block end (λ m j. P m j k) × (x ≡ number)) ↔ (HasInstr block (λ m j. P m j k) × (x ≡ number))
  below_all end is_end k x = (forth, back)
    where
      forth : HasInstrBelow block end (λ m j. P m j k) × (x ≡ number) → HasInstr block (λ m j. P m j k) × (x ≡ number)
      forth ((j, from, lt, holds), is) = (record { i = j; from = from; to = omega arith; holds = holds }, is)

      back : HasInstr block (λ m j. P m j k) × (x ≡ number) → HasInstrBelow block end (λ m j. P m j k) × (x ≡ number)
      back (has, is) = ((has.i, has.from, (let to = has.to in omega arith), has.holds), is)

module _ (blocks : List ProgramBlock) (Q : ℕ → ProgramBlock → Type 0) where
  abbrev pub Of : ℕ → ℕ → Type 0
  Of k b = IsBlockWith blocks b (Q k)

  pub up_none : (k x : ℕ) → ⊥ ↔ UpTo 0 Of k x
  up_none k x = ((λ never. absurd never), (λ has. omega (arith, has.0)))

  pub up_more : (n : ℕ) (block : ProgramBlock) → slice_get blocks n ≡ Some block → (k x : ℕ) → (UpTo n Of k x ⊎ (Q k block × (x ≡ n))) ↔ UpTo (n + 1) Of k x
  up_more n block at k x = (forth, back)
    where
      forth : UpTo n Of k x ⊎ (Q k block × (x ≡ n)) → UpTo (n + 1) Of k x
      forth (inl (lt, is)) = (omega arith, is)
      forth (inr (holds, is)) = (omega arith, record { block = block; at = ap (slice_get blocks) is ∙ at; holds = holds })

      back : UpTo (n + 1) Of k x → UpTo n Of k x ⊎ (Q k block × (x ≡ n))
      back (lt, is) = dite (dec_lt x n)
          (λ less. inl (less, is))
          (λ not.
          let here : x ≡ n = omega arith in
          let one : Some is.block ≡ Some block = sym is.at ∙ ap (slice_get blocks) here ∙ at in
          let own : is.block ≡ block = cc one in
          inr (subst (Q k) own is.holds, here))

  pub up_all : (n : ℕ) → length blocks ≤ n → (k x : ℕ) → UpTo n Of k x ↔ Of k x
  up_all n le k x = ((λ has. has.1), (λ is. ((let within = slice_get_within blocks x is.block is.at in omega arith), is)))

-- what one field more may hold
pub held_more : (held : HeldTable) (f : ℕ) (k x : ℕ) → ((MayHold held f k x ⊎ ((k ≡ f) × (x ≡ f))) ⊎ (Has (slice_index_or held.fields f []) k × (x ≡ f))) ↔ MayHold held (f + 1) k x
held_more held f k x = (forth, back)
  where
    forth : (MayHold held f k x ⊎ ((k ≡ f) × (x ≡ f))) ⊎ (Has (slice_index_or held.fields f []) k × (x ≡ f)) → MayHold held (f + 1) k x
    forth (inl (inl (lt, may))) = (omega arith, may)
    forth (inl (inr (key, is))) = (omega arith, inl (key ∙ sym is))
    forth (inr (has, is)) = (omega arith, inr (subst (λ g. Has (slice_index_or held.fields g []) k) (sym is) has))

    back : MayHold held (f + 1) k x → (MayHold held f k x ⊎ ((k ≡ f) × (x ≡ f))) ⊎ (Has (slice_index_or held.fields f []) k × (x ≡ f))
    back (lt, may) = dite (dec_lt x f)
        (λ less. inl (inl (less, may)))
        (λ not.
        let here : x ≡ f = omega arith in
        ⊎_elim (λ is. inl (inr (is ∙ here, here))) (λ has. inr (subst (λ g. Has (slice_index_or held.fields g []) k) here has, here)) may)

pub held_none : (held : HeldTable) (k x : ℕ) → ⊥ ↔ MayHold held 0 k x
held_none held k x = ((λ never. absurd never), (λ has. omega (arith, has.0)))
