-- What each part of a pass asks of the next.
use Rattle.std.proofs.Common.{◌≡◌, ◌≢◌, ℕ, suc, ◌+◌, ◌≤◌, Bool, true, false, refl, sym, ap, ◌∙◌, subst, arith, inl, inr, List, ◌∷◌}
use Rattle.std.specs.Prelude.{◌&&◌, ◌||◌, not}
use Rattle.std.proofs.lemmas.Bool.{or_left, or_right, false≢true}
use mathlib.Core.Logic.{dite}
use native.Mathlib.Decide.{ℕ_discrete}
use Rattle.ja_node_core.specs.declared.aim.Aim.{Ghosts}
use Rattle.ja_node_core.specs.Tree.{Tree, Assignment}
use Rattle.ja_node_core.specs.Node.{Words}
use Rattle.ja_node_table.specs.declared.table.NodeTable.{NodeTable}
use Rattle.ja_node_table.specs.declared.full.Full.{Full}
use Rattle.ja_bdd.specs.Functions.{Function, fixed, IsFree, IsFrom, IsAimed}
use Rattle.ja_bdd.specs.Room.{LacksRoomUnder}
use Rattle.ja_bdd.proofs.Fixing.{free_fixed, free_still, from_op, free_op}
use Rattle.ja_bdd.proofs.Named.{Falls}
use Rattle.ja_join.specs.declared.rule.States.{States}
use Rattle.ja_join.specs.declared.rule.Move.{Move}
use Rattle.ja_join.specs.Ascending.{AscendFrom}
use Rattle.ja_join.specs.Moves.{next_states}
use Rattle.ja_join.specs.Steps.{IsStill, IsGone, IsLow, IsWithin, within, LacksRoomAmong, joint}
use Rattle.ja_join.specs.Inner.{stepped, passed, moved_to, taken, part_of, parted, IsGoneForBoth, AreAimed}
use Rattle.ja_join.proofs.Stepping.{still_before, forgotten_later, free_stepped, from_stepped, gone_stepped, low_stepped, low_fixed, moved_below, kept_below, forgot_stepped}
use Rattle.ja_join.proofs.Handing.{joint_low, joint_from, joint_free, joint_kept, joint_moved}
use Rattle.ja_join.proofs.Aiming.{child_aimed, less_aimed, child_within, within_more}

pub one_more : (v : ℕ) → suc v ≡ v + 1
one_more v = omega arith

-- a variable that plays no part for the caller's function plays none for both
joint_gone : (moves : List Move) (φ σ : Function) (u : ℕ) → IsGone moves φ u → IsGone moves (joint moves φ σ) u
joint_gone moves φ σ u (inl (still, free)) = inl (still, joint_free moves φ σ u still free)
joint_gone moves φ σ u (inr there) = inr there

-- one that plays no part from a move on plays none behind it
gone_behind : (m : Move) (moves : List Move) (φ : Function) (u : ℕ) → u ≢ m.variable → IsGone (m ∷ moves) φ u → IsGoneForBoth moves (fixed m.variable false φ) (fixed m.variable true φ) u
gone_behind m moves φ u ne (inl (still, free)) = (inl (still.1, free_still u m.variable false φ free), inl (still.1, free_still u m.variable true φ free))
gone_behind m moves φ u ne (inr (inl here)) = absurd (ne here.0)
gone_behind m moves φ u ne (inr (inr there)) = (inr there, inr there)

module _ (accepted : States) where
  -- what a move makes of both functions is what it makes of their joint
  pub parted_joint : (m : Move) (moves : List Move) (s : States) (φ σ : Function) (c : Bool) → IsStill moves m.variable
      → parted accepted m moves s c φ σ ≡ moved_to accepted m moves s c (fixed m.variable false (joint (m ∷ moves) φ σ)) (fixed m.variable true (joint (m ∷ moves) φ σ))
  parted_joint m moves s φ σ c still = sym (λ i. moved_to accepted m moves s c (joint_moved m moves false φ σ still i) (joint_moved m moves true φ σ still i))

  -- where the variable is forgotten, that is all
  pub parted_whole : (m : Move) (moves : List Move) (s : States) (φ σ : Function) → IsStill moves m.variable → m.forgets ≡ true → parted accepted m moves s false φ σ ≡ passed accepted (m ∷ moves) s φ σ
  parted_whole m moves s φ σ still forgets = parted_joint m moves s φ σ false still ∙ forgot_stepped accepted m moves s (joint (m ∷ moves) φ σ) forgets

module _ (accepted : States) (aim : Tree → Type 0) (falls : Falls aim) where
  -- the whole of what is made is of the aim
  pub whole_aimed : (v : ℕ) (moves : List Move) (s : States) (φ σ : Function) → IsLow φ → IsFrom v φ → AscendFrom v moves → AreAimed aim (IsGone moves φ) v (passed accepted moves s φ σ) → IsAimed aim (passed accepted moves s φ σ)
  whole_aimed v moves s φ σ low from up aimed =
      aimed (passed accepted moves s φ σ) (low_stepped accepted v moves s (joint moves φ σ) up (joint_low v moves φ σ up low)) (from_stepped accepted v moves s (joint moves φ σ) up (joint_from v moves φ σ up from))
      (λ u gone. gone_stepped accepted v moves s (joint moves φ σ) u up (joint_gone moves φ σ u gone)) (λ a t. t)

  -- a part of a function whose first variable no move is at
  pub kept_child : (v : ℕ) (moves : List Move) (s : States) (φ σ : Function) (c : Bool) → v ≤ 4094 → ¬ IsFree v φ → AscendFrom (suc v) moves → AreAimed aim (IsGone moves φ) v (passed accepted moves s φ σ)
      → AreAimed aim (IsGone moves (fixed v c φ)) (v + 1) (passed accepted moves s (fixed v c φ) σ)
  kept_child v moves s φ σ c le looks up aimed =
      subst (λ w. AreAimed aim (IsGone moves (fixed v c φ)) w (passed accepted moves s (fixed v c φ) σ)) (one_more v)
      (child_aimed aim falls v v c (IsGone moves φ) (IsGone moves (fixed v c φ)) (passed accepted moves s φ σ) (passed accepted moves s (fixed v c φ) σ) (omega arith) le none part below aimed)
    where
      still : IsStill moves v
      still = still_before (suc v) v moves up (omega arith)

      none : IsGone moves φ v → ⊥
      none (inl out) = absurd (looks out.1)
      none (inr there) = let le = forgotten_later (suc v) v moves up there in absurd (omega arith)

      part : (u : ℕ) → u ≢ v → IsGone moves φ u → IsGone moves (fixed v c φ) u
      part u ne (inl out) = inl (out.0, free_still u v c φ out.1)
      part u ne (inr there) = inr there

      below : (a : Assignment) → a v ≡ c → passed accepted moves s (fixed v c φ) σ a ≡ true → passed accepted moves s φ σ a ≡ true
      below a e t = kept_below accepted moves s (joint moves φ σ) v c a still e (ap (λ χ. stepped accepted moves s χ a) (joint_kept moves φ σ v c still) ∙ t)

  -- a part of a function that is cut at the first move
  pub moved_child : (m : Move) (moves : List Move) (s : States) (φ σ : Function) (c : Bool) → m.variable ≤ 4094 → AscendFrom (m.variable + 1) moves → (m.forgets ≡ true → c ≡ false) → AreAimed aim (IsGone (m ∷ moves) φ) m.variable (passed accepted (m ∷ moves) s φ σ)
      → AreAimed aim (IsGoneForBoth moves (fixed m.variable false φ) (fixed m.variable true φ)) (m.variable + 1) (parted accepted m moves s c φ σ)
  moved_child m moves s φ σ c le up suits aimed = by_case m.forgets refl
    where
      v : ℕ
      v = m.variable

      still : IsStill moves v
      still = still_before (v + 1) v moves up (omega arith)

      none : m.forgets ≡ false → IsGone (m ∷ moves) φ v → ⊥
      none stays (inl out) = absurd (out.0.0 refl)
      none stays (inr (inl here)) = false≢true (sym stays ∙ here.1)
      none stays (inr (inr there)) = let more = forgotten_later (v + 1) v moves up there in absurd (omega arith)

      by_case : (b : Bool) → m.forgets ≡ b → AreAimed aim (IsGoneForBoth moves (fixed v false φ) (fixed v true φ)) (v + 1) (parted accepted m moves s c φ σ)
      by_case false stays ψ low from free below =
          subst (λ w. AreAimed aim (IsGoneForBoth moves (fixed v false φ) (fixed v true φ)) w (parted accepted m moves s c φ σ)) (one_more v)
          (child_aimed aim falls v v c (IsGone (m ∷ moves) φ) (IsGoneForBoth moves (fixed v false φ) (fixed v true φ)) (passed accepted (m ∷ moves) s φ σ) (parted accepted m moves s c φ σ) (omega arith) le (none stays)
          (gone_behind m moves φ)
          (λ a e t. moved_below accepted m moves s (joint (m ∷ moves) φ σ) c a (ap (λ x. not x && a v) stays ∙ e) (ap (λ (χ : Function). χ a) (sym (parted_joint accepted m moves s φ σ c still)) ∙ t))
          aimed)
          ψ low from free below
      by_case true forgets ψ low from free below = aimed ψ low (λ u lt. from u (omega arith))
          (λ u gone. dite (ℕ_discrete u v) (λ e. from u (omega arith)) (λ ne. free u (gone_behind m moves φ u ne gone)))
          (λ a t. ap (λ (χ : Function). χ a) (sym (parted_whole accepted m moves s φ σ still forgets)) ∙ ap (λ b. parted accepted m moves s b φ σ a) (sym (suits forgets)) ∙ below a t)

  module _ (w : ℕ) (m : Move) (moves : List Move) (s : States) (c : Bool) (φ σ : Function) where
    pub low_child : AreAimed aim (IsGoneForBoth moves (fixed m.variable false φ) (fixed m.variable true φ)) w (parted accepted m moves s c φ σ) → AreAimed aim (IsGone moves (fixed m.variable false φ)) w (stepped accepted moves (next_states m false c s) (part_of m moves false φ σ))
    low_child = less_aimed aim (IsGoneForBoth moves (fixed m.variable false φ) (fixed m.variable true φ)) (IsGone moves (fixed m.variable false φ)) w (parted accepted m moves s c φ σ) (stepped accepted moves (next_states m false c s) (part_of m moves false φ σ))
        (λ u out. out.0) (λ a t. or_left (stepped accepted moves (next_states m false c s) (part_of m moves false φ σ) a) (stepped accepted moves (next_states m true c s) (part_of m moves true φ σ) a) t)

    pub high_child : AreAimed aim (IsGoneForBoth moves (fixed m.variable false φ) (fixed m.variable true φ)) w (parted accepted m moves s c φ σ) → AreAimed aim (IsGone moves (fixed m.variable true φ)) w (stepped accepted moves (next_states m true c s) (part_of m moves true φ σ))
    high_child = less_aimed aim (IsGoneForBoth moves (fixed m.variable false φ) (fixed m.variable true φ)) (IsGone moves (fixed m.variable true φ)) w (parted accepted m moves s c φ σ) (stepped accepted moves (next_states m true c s) (part_of m moves true φ σ))
        (λ u out. out.1) (λ a t. or_right (stepped accepted moves (next_states m false c s) (part_of m moves false φ σ) a) (stepped accepted moves (next_states m true c s) (part_of m moves true φ σ) a) t)

    -- the part of both functions is low, looks at later variables, and at none that plays no part
    part_low : (b : Bool) → IsLow φ → AscendFrom w moves → IsLow (stepped accepted moves (next_states m b c s) (part_of m moves b φ σ))
    part_low b low up = low_stepped accepted w moves (next_states m b c s) (part_of m moves b φ σ) up (joint_low w moves (fixed m.variable b φ) (taken m.told b σ) up (low_fixed m.variable b φ low))

    part_from : (b : Bool) → IsFrom w (fixed m.variable b φ) → AscendFrom w moves → IsFrom w (stepped accepted moves (next_states m b c s) (part_of m moves b φ σ))
    part_from b from up = from_stepped accepted w moves (next_states m b c s) (part_of m moves b φ σ) up (joint_from w moves (fixed m.variable b φ) (taken m.told b σ) up from)

    part_gone : (b : Bool) (u : ℕ) → AscendFrom w moves → IsGone moves (fixed m.variable b φ) u → IsFree u (stepped accepted moves (next_states m b c s) (part_of m moves b φ σ))
    part_gone b u up gone = gone_stepped accepted w moves (next_states m b c s) (part_of m moves b φ σ) u up (joint_gone moves (fixed m.variable b φ) (taken m.told b σ) u gone)

    -- what a move makes looks at later variables
    pub parted_from : IsFrom w (fixed m.variable false φ) → IsFrom w (fixed m.variable true φ) → AscendFrom w moves → IsFrom w (parted accepted m moves s c φ σ)
    parted_from low high up = from_op (λ p q. p || q) w (stepped accepted moves (next_states m false c s) (part_of m moves false φ σ)) (stepped accepted moves (next_states m true c s) (part_of m moves true φ σ)) (part_from false low up) (part_from true high up)

    pub both_children : IsLow φ → IsFrom w (fixed m.variable false φ) → IsFrom w (fixed m.variable true φ) → AscendFrom w moves
        → AreAimed aim (IsGoneForBoth moves (fixed m.variable false φ) (fixed m.variable true φ)) w (parted accepted m moves s c φ σ) → IsAimed aim (parted accepted m moves s c φ σ)
    both_children low low_from high_from up aimed =
        let left = stepped accepted moves (next_states m false c s) (part_of m moves false φ σ) in
        let right = stepped accepted moves (next_states m true c s) (part_of m moves true φ σ) in
        aimed (parted accepted m moves s c φ σ)
        (λ a b agree i. part_low false low up a b agree i || part_low true low up a b agree i)
        (parted_from low_from high_from up)
        (λ u out. free_op (λ p q. p || q) u left right (part_gone false u up out.0) (part_gone true u up out.1))
        (λ a t. t)

module _ (accepted : States) where
  -- what lies within a part lies within the whole
  pub kept_within : (v : ℕ) (moves : List Move) (s : States) (φ σ ψ : Function) (c : Bool) → AscendFrom (suc v) moves → IsWithin (passed accepted moves s (fixed v c φ) σ) ψ → IsWithin (passed accepted moves s φ σ) ψ
  kept_within v moves s φ σ ψ c up inner =
      let still : IsStill moves v = still_before (suc v) v moves up (omega arith) in
      child_within v c (passed accepted moves s φ σ) (passed accepted moves s (fixed v c φ) σ) ψ
      (free_stepped accepted moves s (joint moves (fixed v c φ) σ) v still (joint_free moves (fixed v c φ) σ v still (free_fixed v c φ)))
      (λ a e t. kept_below accepted moves s (joint moves φ σ) v c a still e (ap (λ χ. stepped accepted moves s χ a) (joint_kept moves φ σ v c still) ∙ t)) inner

  pub moved_within : (m : Move) (moves : List Move) (s : States) (φ σ ψ : Function) (c : Bool) → AscendFrom (m.variable + 1) moves → (m.forgets ≡ true → c ≡ false)
      → IsWithin (parted accepted m moves s c φ σ) ψ → IsWithin (passed accepted (m ∷ moves) s φ σ) ψ
  moved_within m moves s φ σ ψ c up suits inner = by_case m.forgets refl
    where
      v : ℕ
      v = m.variable

      still : IsStill moves v
      still = still_before (v + 1) v moves up (omega arith)

      part_free : (b : Bool) → IsFree v (stepped accepted moves (next_states m b c s) (part_of m moves b φ σ))
      part_free b = free_stepped accepted moves (next_states m b c s) (part_of m moves b φ σ) v still (joint_free moves (fixed v b φ) (taken m.told b σ) v still (free_fixed v b φ))

      by_case : (b : Bool) → m.forgets ≡ b → IsWithin (passed accepted (m ∷ moves) s φ σ) ψ
      by_case false stays = child_within v c (passed accepted (m ∷ moves) s φ σ) (parted accepted m moves s c φ σ) ψ
          (free_op (λ p q. p || q) v (stepped accepted moves (next_states m false c s) (part_of m moves false φ σ)) (stepped accepted moves (next_states m true c s) (part_of m moves true φ σ)) (part_free false) (part_free true))
          (λ a e t. moved_below accepted m moves s (joint (m ∷ moves) φ σ) c a (ap (λ x. not x && a v) stays ∙ e) (ap (λ (χ : Function). χ a) (sym (parted_joint accepted m moves s φ σ c still)) ∙ t)) inner
      by_case true forgets = within_more (parted accepted m moves s c φ σ) ψ (passed accepted (m ∷ moves) s φ σ) inner
          (λ a t. ap (λ (χ : Function). χ a) (sym (parted_whole accepted m moves s φ σ still forgets)) ∙ ap (λ b. parted accepted m moves s b φ σ a) (sym (suits forgets)) ∙ t)

-- why there is no room for a part is why there is none for the whole
module _ {A : Type 0} {G : Ghosts A} (t : NodeTable A) (k : Words) (full : Full A G) where
  pub lacks_more : (χ χ' : Function) → ((ψ : Function) → IsWithin χ' ψ → IsWithin χ ψ) → LacksRoomAmong t k χ' full → LacksRoomAmong t k χ full
  lacks_more χ χ' more lacks = record { part = lacks.part; within = more lacks.part lacks.within; lacks = lacks.lacks }

  pub lacks_whole : (χ ψ : Function) → ψ ≡ χ → LacksRoomUnder t k ψ full → LacksRoomAmong t k χ full
  lacks_whole χ ψ e lacks = record { part = ψ; within = within χ ψ (λ a is. ap (λ (ξ : Function). ξ a) (sym e) ∙ is); lacks = lacks }
