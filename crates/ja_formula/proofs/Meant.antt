-- What is known of constants, and of nodes after further ones are made.
use Rattle.std.proofs.Common.{◌≡◌, ℕ, Bool, true, false, refl, sym, ap, ◌∙◌, subst}
use Rattle.std.specs.Prelude.{if◌then◌else◌, not}
use Rattle.ja_node_core.specs.Node.{Words, Knows, constant}
use Rattle.ja_bdd.specs.Functions.{Function, both, either, chosen, IsAfter}
use Rattle.ja_node_core.specs.declared.aim.Aim.{Ghosts}
use Rattle.ja_node_table.specs.declared.table.NodeTable.{NodeTable}
use Rattle.ja_node_table.specs.declared.full.Full.{Full}
use Rattle.ja_formula.specs.Made.{LacksRoomFor}
use Rattle.ja_bdd.specs.Meaning.{meaning, IsMeant, Keeps}
use Rattle.ja_bdd.proofs.Sound.{Sound, knows_constant, meaning_constant}
use Rattle.ja_work.specs.Work.{literal, tied_by, signed}

-- a literal is a choice of two constants
chosen_literal : (v : ℕ) (positive : Bool) → chosen v (λ a. signed positive false) (λ a. positive) ≡ literal v positive
chosen_literal v true = λ i a. by (a v) i
  where
    by : (b : Bool) → (if b then true else false) ≡ b
    by true = refl
    by false = refl
chosen_literal v false = λ i a. by (a v) i
  where
    by : (b : Bool) → (if b then false else true) ≡ not b
    by true = refl
    by false = refl

module _ (k : Words) (sound : Sound k) where
  -- a constant is known, and looks at no variable
  pub constant_known : (n : ℕ) (b : Bool) → n ≡ constant b → Knows k n
  constant_known n b e = subst (Knows k) (sym e) (knows_constant k b)

  pub constant_means : (n : ℕ) (b : Bool) → n ≡ constant b → meaning k n ≡ (λ a. b)
  constant_means n b e = ap (meaning k) e ∙ meaning_constant k sound b

  pub constant_after : (n v : ℕ) (b : Bool) → n ≡ constant b → IsAfter v (meaning k n)
  constant_after n v b e = subst (IsAfter v) (sym (constant_means n b e)) (λ u lt c a. refl)

  -- a literal, by its two parts
  pub literal_made : (lo hi v : ℕ) (positive : Bool) → lo ≡ constant (signed positive false) → hi ≡ constant positive → chosen v (meaning k lo) (meaning k hi) ≡ literal v positive
  literal_made lo hi v positive low high =
      ap (λ φ. chosen v φ (meaning k hi)) (constant_means lo (signed positive false) low)
      ∙ ap (λ φ. chosen v (λ a. signed positive false) φ) (constant_means hi positive high)
      ∙ chosen_literal v positive

-- a node that stays known, with its meaning
pub still : (old new : Words) (n : ℕ) (φ : Function) → Keeps old new → IsMeant old n φ → IsMeant new n φ
still old new n φ keeps is = let more = keeps n is.0 in (more.0, more.1 ∙ is.1)

pub keeps_chain : (a b c : Words) → Keeps a b → Keeps b c → Keeps a c
keeps_chain a b c first second n is = let x = first n is in still b c n (meaning a n) second x

-- two nodes that were made one after the other
pub joined : (old new : Words) (n m : ℕ) (φ ψ : Function) → Keeps old new → IsMeant old n φ → IsMeant new m ψ → either (meaning new n) (meaning new m) ≡ either φ ψ
joined old new n m φ ψ keeps first second = ap (λ χ. either χ (meaning new m)) (still old new n φ keeps first).1 ∙ ap (either φ) second.1

-- a literal and a node that was there before it
module _ (old new : Words) (one rest v : ℕ) (positive tied : Bool) (is : meaning new one ≡ literal v positive) (kept : meaning new rest ≡ meaning old rest) where
  pub tied_and : tied ≡ true → both (meaning new one) (meaning new rest) ≡ tied_by tied (literal v positive) (meaning old rest)
  tied_and e = ap (λ φ. both φ (meaning new rest)) is ∙ ap (both (literal v positive)) kept ∙ ap (λ b. tied_by b (literal v positive) (meaning old rest)) (sym e)

  pub tied_or : tied ≡ false → either (meaning new one) (meaning new rest) ≡ tied_by tied (literal v positive) (meaning old rest)
  tied_or e = ap (λ φ. either φ (meaning new rest)) is ∙ ap (either (literal v positive)) kept ∙ ap (λ b. tied_by b (literal v positive) (meaning old rest)) (sym e)

-- want of room for one kind is one for a wider kind
pub lacks_wider : {A : Type 0} {G : Ghosts A} (t : NodeTable A) (k : Words) (kind wider : Function → Type 0) (e : Full A G) → ((φ : Function) → kind φ → wider φ) → LacksRoomFor t k kind e → LacksRoomFor t k wider e
lacks_wider t k kind wider e more lacks = record { φ = lacks.φ; is = more lacks.φ lacks.is; lacks = lacks.lacks }
