-- The instructions of a code follow one another, and so their places find their indices.
use Rattle.std.proofs.Common.{◌≡◌, ℕ, zero, suc, ◌+◌, ◌<◌, ◌≤◌, Bool, true, false, List, [], ◌∷◌, ◌++◌, length, get_or, Some, refl, sym, ap, subst, ◌∙◌, arith, leb, cond, not}
use Rattle.std.proofs.lemmas.Bool.{le-leb, lt-leb}
use Rattle.std.proofs.lemmas.List.{length-append}
use Rattle.std.specs.Prelude.{slice_get}
use Rattle.std.specs.List.Sorted.{IsNonDecreasingBy}
use Rattle.ja_code.specs.declared.instr.RawInstr.{RawInstr}
use Rattle.ja_code.specs.Grammar.{IsInstr, AreInstrs}
use Rattle.ja_code.proofs.Complete.{instr_length}
use Rattle.ja_methods.specs.Places.{index_of}

-- the instructions follow one another from a place up to another
abbrev pub Chain : ℕ → ℕ → List RawInstr → Type 0
Chain pc size [] = pc ≡ size
Chain pc size (i ∷ is) = (i.pc ≡ pc) × (0 < i.length) × Chain (pc + i.length) size is

module _ (tags dims : List ℕ) where
  instr_pc : (pc : ℕ) (text : List ℕ) (i : RawInstr) → IsInstr tags dims pc text i → i.pc ≡ pc
  instr_pc pc text i (IsInstr.plain takes) = refl
  instr_pc pc text i (IsInstr.byte takes) = refl
  instr_pc pc text i (IsInstr.short takes) = refl
  instr_pc pc text i (IsInstr.local takes) = refl
  instr_pc pc text i (IsInstr.increment takes) = refl
  instr_pc pc text i (IsInstr.byte_index takes named) = refl
  instr_pc pc text i (IsInstr.index takes named) = refl
  instr_pc pc text i (IsInstr.interface takes named) = refl
  instr_pc pc text i (IsInstr.array_type takes least most) = refl
  instr_pc pc text i (IsInstr.dimensions takes named least most) = refl
  instr_pc pc text i (IsInstr.branch takes) = refl
  instr_pc pc text i (IsInstr.far_branch takes) = refl
  instr_pc pc text i (IsInstr.table_switch gap default low high table count takes lg ld ll lh order all lt) = refl
  instr_pc pc text i (IsInstr.lookup_switch gap default count pairs takes lg ld lc below lp) = refl
  instr_pc pc text i (IsInstr.wide_local wide takes) = refl
  instr_pc pc text i (IsInstr.wide_increment wide takes) = refl

  -- decoded instructions do
  pub decoded-chain : (pc : ℕ) (bytes : List ℕ) (is : List RawInstr) → AreInstrs tags dims pc bytes is → Chain pc (pc + length bytes) is
  decoded-chain pc bytes is AreInstrs.none = omega arith
  decoded-chain pc bytes is (AreInstrs.next text rest {i} {is = others} one more) =
      let long : (length text ≡ i.length) × (0 < length text) = instr_length tags dims pc text i one in
      let end : pc + length text + length rest ≡ pc + length (text ++ rest) = omega (arith, length-append text rest) in (
        instr_pc pc text i one,
        omega (arith, long.0, long.1),
        subst (λ (n : ℕ). Chain (pc + n) (pc + length (text ++ rest)) others) long.0
            (subst (λ (n : ℕ). Chain (pc + length text) n others) end (decoded-chain (pc + length text) rest others more)),
      )

-- an instruction of a chain begins within it
pub chain-within : (pc size : ℕ) (is : List RawInstr) → Chain pc size is → (k : ℕ) (i : RawInstr) → slice_get is k ≡ Some i → (pc ≤ i.pc) × (i.pc + i.length ≤ size) × (0 < i.length)
chain-within pc size [] chain k i at = absurd (cc)
chain-within pc size (a ∷ is) chain zero i at =
    let same : a ≡ i = cc in
    let end : pc + a.length ≤ size = chain-end (pc + a.length) size is chain.2 in
    subst (λ (x : RawInstr). (pc ≤ x.pc) × (x.pc + x.length ≤ size) × (0 < x.length)) same (omega (arith, chain.0), omega (arith, chain.0, end), chain.1)
  where
    chain-end : (pc size : ℕ) (is : List RawInstr) → Chain pc size is → pc ≤ size
    chain-end pc size [] chain = omega (arith, chain)
    chain-end pc size (a ∷ is) chain = omega (arith, chain-end (pc + a.length) size is chain.2)
chain-within pc size (a ∷ is) chain (suc k) i at =
    let later : (pc + a.length ≤ i.pc) × (i.pc + i.length ≤ size) × (0 < i.length) = chain-within (pc + a.length) size is chain.2 k i at in
    (omega (arith, later.0), later.1, later.2)

-- the next instruction begins where one ends, and the last ends at the end
pub chain-next : (pc size : ℕ) (is : List RawInstr) → Chain pc size is → (k : ℕ) (i j : RawInstr) → slice_get is k ≡ Some i → slice_get is (suc k) ≡ Some j → j.pc ≡ i.pc + i.length
chain-next pc size [] chain k i j at next = absurd (cc)
chain-next pc size (a ∷ []) chain zero i j at next = absurd (cc)
chain-next pc size (a ∷ b ∷ is) chain zero i j at next =
    let first : a ≡ i = cc in
    let second : b ≡ j = cc in
    subst (λ (x : RawInstr). x.pc ≡ i.pc + i.length) second (subst (λ (x : RawInstr). b.pc ≡ x.pc + x.length) first (omega (arith, chain.0, chain.2.0)))
chain-next pc size (a ∷ is) chain (suc k) i j at next = chain-next (pc + a.length) size is chain.2 k i j at next

pub chain-last : (pc size : ℕ) (is : List RawInstr) → Chain pc size is → (k : ℕ) (i : RawInstr) → slice_get is k ≡ Some i → length is ≤ suc k → i.pc + i.length ≡ size
chain-last pc size [] chain k i at last = absurd (cc)
chain-last pc size (a ∷ []) chain zero i at last =
    let first : a ≡ i = cc in
    subst (λ (x : RawInstr). x.pc + x.length ≡ size) first (omega (arith, chain.0, chain.2))
chain-last pc size (a ∷ b ∷ is) chain zero i at last = absurd (omega arith)
chain-last pc size (a ∷ is) chain (suc k) i at last = chain-last (pc + a.length) size is chain.2 k i at (omega arith)

-- the place of an instruction finds its index
pub index-at : (pc size : ℕ) (is : List RawInstr) → Chain pc size is → (k : ℕ) (i : RawInstr) → slice_get is k ≡ Some i → index_of is i.pc ≡ k
index-at pc size [] chain k i at = absurd (cc)
index-at pc size (a ∷ is) chain zero i at =
    let first : a ≡ i = cc in
    let here : leb i.pc a.pc ≡ true = subst (λ (x : RawInstr). leb i.pc x.pc ≡ true) (sym first) (le-leb i.pc i.pc (omega arith)) in
    ap (λ (b : Bool). cond (not b) (1 + index_of is i.pc) 0) here
index-at pc size (a ∷ is) chain (suc k) i at =
    let later : (pc + a.length ≤ i.pc) × (i.pc + i.length ≤ size) × (0 < i.length) = chain-within (pc + a.length) size is chain.2 k i at in
    let before : leb i.pc a.pc ≡ false = lt-leb i.pc a.pc (omega (arith, chain.0, chain.1, later.0)) in
    ap (λ (b : Bool). cond (not b) (1 + index_of is i.pc) 0) before ∙ omega (arith, index-at (pc + a.length) size is chain.2 k i at)

-- the end of the code finds the number of instructions
pub index-end : (pc size : ℕ) (is : List RawInstr) → Chain pc size is → index_of is size ≡ length is
index-end pc size [] chain = refl
index-end pc size (a ∷ is) chain =
    let in' : (pc ≤ a.pc) × (a.pc + a.length ≤ size) × (0 < a.length) = chain-within pc size (a ∷ is) chain 0 a refl in
    let before : leb size a.pc ≡ false = lt-leb size a.pc (omega (arith, in'.1, in'.2)) in
    ap (λ (b : Bool). cond (not b) (1 + index_of is size) 0) before ∙ omega (arith, index-end (pc + a.length) size is chain.2)

-- the instructions are in the order of their places
pub chain-ordered : (pc size : ℕ) (is : List RawInstr) → Chain pc size is → IsNonDecreasingBy (λ (i : RawInstr). i.pc) is
chain-ordered pc size is chain i j d le lt = ordered pc size is chain i j d le lt
  where
    from : (pc size : ℕ) (is : List RawInstr) → Chain pc size is → (j : ℕ) (d : RawInstr) → j < length is → pc ≤ (get_or is j d).pc
    from pc size [] chain j d lt = absurd (omega arith)
    from pc size (a ∷ is) chain zero d lt = omega (arith, chain.0)
    from pc size (a ∷ is) chain (suc j) d lt = omega (arith, from (pc + a.length) size is chain.2 j d (omega arith))

    ordered : (pc size : ℕ) (is : List RawInstr) → Chain pc size is → (i j : ℕ) (d : RawInstr) → i ≤ j → j < length is → (get_or is i d).pc ≤ (get_or is j d).pc
    ordered pc size [] chain i j d le lt = absurd (omega arith)
    ordered pc size (a ∷ is) chain zero j d le lt = omega (arith, chain.0, from pc size (a ∷ is) chain j d lt)
    ordered pc size (a ∷ is) chain (suc i) zero d le lt = absurd (omega arith)
    ordered pc size (a ∷ is) chain (suc i) (suc j) d le lt = ordered (pc + a.length) size is chain.2 i j d (omega arith) (omega arith)

-- each instruction takes a byte
pub chain-count : (pc size : ℕ) (is : List RawInstr) → Chain pc size is → pc + length is ≤ size
chain-count pc size [] chain = omega (arith, chain)
chain-count pc size (a ∷ is) chain = omega (arith, chain.1, chain-count (pc + a.length) size is chain.2)
