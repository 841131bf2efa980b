-- What moves make of a function, cut at a variable.
use Rattle.std.proofs.Common.{◌≡◌, ◌≢◌, ℕ, ◌+◌, ◌<◌, ◌≤◌, Bool, true, false, refl, sym, ap, ◌∙◌, subst, arith, inl, inr, List, [], ◌∷◌, ◌++◌}
use Rattle.std.specs.List.{All}
use Rattle.std.proofs.lemmas.List.Elements.{All-head, All-tail}
use Rattle.std.specs.Prelude.{◌&&◌, ◌||◌, ◌==◌, not, bit_and, bit_or, if◌then◌else◌, Option, Some, None}
use Rattle.std.specs.Int.Bits.{and_zero_l}
use mathlib.Core.Logic.{dite}
use native.Mathlib.Decide.{ℕ_discrete}
use Rattle.ja_node_core.specs.Tree.{Assignment}
use Rattle.ja_node_core.proofs.Reduced.{with_var_here, with_var_other}
use Rattle.ja_bdd.specs.Functions.{Function, with_var, fixed, chosen, IsFree, IsFrom}
use Rattle.ja_bdd.proofs.Fixing.{with_own, with_swapped, choice, fixed_free, free_fixed}
use Rattle.ja_join.specs.declared.rule.States.{States}
use Rattle.ja_join.specs.declared.rule.Masks.{Masks}
use Rattle.ja_join.specs.declared.rule.Move.{Move}
use Rattle.ja_join.specs.Ascending.{AscendFrom, IsToldFrom, behind_told, TellFrom, IsToldBefore, Precedes}
use Rattle.ja_join.specs.Moves.{masks_of, next_by, next_states, truth_after, accepts, IsDead}
use Rattle.ja_join.specs.Steps.{IsStill, IsForgotten, IsGone, IsLow}
use Rattle.ja_join.specs.Inner.{stepped, moved_to}

-- a variable before all moves is that of none
pub still_before : (from u : ℕ) (moves : List Move) → AscendFrom from moves → u < from → IsStill moves u
still_before from u [] up lt = tt
still_before from u (m ∷ moves) up lt = ((λ e. absurd (let le = up.0 in omega arith)), still_before (m.variable + 1) u moves up.1.1 (let le = up.0 in omega arith))

-- a variable that is forgotten is not before all moves
pub forgotten_later : (from u : ℕ) (moves : List Move) → AscendFrom from moves → IsForgotten moves u → from ≤ u
forgotten_later from u [] up there = elim there [ ]
forgotten_later from u (m ∷ moves) up (inl (e, f)) = let le = up.0 in omega arith
forgotten_later from u (m ∷ moves) up (inr there) = let le = up.0 in let more = forgotten_later (m.variable + 1) u moves up.1.1 there in omega arith

-- moves that begin later begin later than before
pub ascend_later : (from next : ℕ) (m : Move) (moves : List Move) → AscendFrom from (m ∷ moves) → next ≤ m.variable → AscendFrom next (m ∷ moves)
ascend_later from next m moves up le = (le, up.1)

-- a move after all others may follow them
pub ascend_push : (from : ℕ) (moves : List Move) (m : Move) → AscendFrom from moves → from ≤ m.variable → m.variable ≤ 4094 → All (λ (x : Move). Precedes x m) moves → AscendFrom from (moves ++ m ∷ [])
ascend_push from [] m up le small all = (le, (small, tt))
ascend_push from (x ∷ xs) m up le small all =
    let before = (All-head (λ (y : Move). Precedes y m) x xs all).0 in
    (up.0, (up.1.0, ascend_push (x.variable + 1) xs m up.1.1 (omega arith) small (All-tail (λ (y : Move). Precedes y m) x xs all)))

-- so may one that tells of a variable after all that these tell of
told_behind : (from : ℕ) (first second : Option ℕ) → IsToldFrom from second → IsToldBefore first second → IsToldFrom (behind_told from first) second
told_behind from None second later before = later
told_behind from (Some x) None later before = tt
told_behind from (Some x) (Some y) later before = (omega arith, later.1)

pub tell_push : (from : ℕ) (moves : List Move) (m : Move) → TellFrom from moves → IsToldFrom from m.told → All (λ (x : Move). Precedes x m) moves → TellFrom from (moves ++ m ∷ [])
tell_push from [] m up later all = (later, tt)
tell_push from (x ∷ xs) m up later all =
    let before = (All-head (λ (y : Move). Precedes y m) x xs all).1 in
    (up.0, tell_push (behind_told from x.told) xs m up.1 (told_behind from x.told m.told later before) (All-tail (λ (y : Move). Precedes y m) x xs all))

-- what is told of from some variable on is told of from an earlier one on
told_less : (from less : ℕ) (told : Option ℕ) → less ≤ from → IsToldFrom from told → IsToldFrom less told
told_less from less None le is = tt
told_less from less (Some x) le is = (let more = is.0 in omega arith, is.1)

behind_less : (from less : ℕ) (told : Option ℕ) → less ≤ from → behind_told less told ≤ behind_told from told
behind_less from less None le = le
behind_less from less (Some x) le = omega arith

pub tell_less : (from less : ℕ) (moves : List Move) → less ≤ from → TellFrom from moves → TellFrom less moves
tell_less from less [] le up = tt
tell_less from less (m ∷ moves) le up = (told_less from less m.told le up.0, tell_less (behind_told from m.told) (behind_told less m.told) moves (behind_less from less m.told le) up.1)

-- a function of low variables stays one
pub low_fixed : (v : ℕ) (c : Bool) (φ : Function) → IsLow φ → IsLow (fixed v c φ)
low_fixed v c φ low a b agree = low (with_var a v c) (with_var b v c) (λ u le. dite (ℕ_discrete u v)
    (λ e. ap (with_var a v c) e ∙ with_var_here a v c ∙ sym (with_var_here b v c) ∙ ap (with_var b v c) (sym e))
    (λ ne. with_var_other a v c u ne ∙ agree u le ∙ sym (with_var_other b v c u ne)))

-- no state stays none
next_dead : (masks : Masks) (s : States) → IsDead s → IsDead (next_by masks s)
next_dead masks s dead = (
  ap (λ w. bit_and w masks.waiting) dead.0 ∙ and_zero_l masks.waiting,
  ap (λ w. bit_or (bit_and w masks.seen) (bit_and s.waiting masks.sees)) dead.1 ∙ ap (λ w. bit_or w (bit_and s.waiting masks.sees)) (and_zero_l masks.seen)
      ∙ ap (λ w. bit_or 0 (bit_and w masks.sees)) dead.0 ∙ ap (λ w. bit_or 0 w) (and_zero_l masks.sees),
)

module _ (accepted : States) where
  pub dead_accepts : (s : States) → IsDead s → accepts accepted s ≡ false
  dead_accepts s dead =
      ap (λ w. not (bit_and w accepted.waiting == 0) || not (bit_and s.seen accepted.seen == 0)) dead.0
      ∙ ap (λ w. not (w == 0) || not (bit_and s.seen accepted.seen == 0)) (and_zero_l accepted.waiting)
      ∙ ap (λ w. not (bit_and w accepted.seen == 0)) dead.1
      ∙ ap (λ w. not (w == 0)) (and_zero_l accepted.seen)

  -- where no state is possible, nothing is made
  pub dead_stepped : (moves : List Move) (s : States) (φ : Function) (a : Assignment) → IsDead s → stepped accepted moves s φ a ≡ false
  dead_stepped [] s φ a dead = ap (λ x. x && φ a) (dead_accepts s dead)
  dead_stepped (m ∷ moves) s φ a dead =
      ap (λ x. x || stepped accepted moves (next_states m true (truth_after m a) s) (fixed m.variable true φ) a)
      (dead_stepped moves (next_states m false (truth_after m a) s) (fixed m.variable false φ) a (next_dead (masks_of m false (truth_after m a)) s dead))
      ∙ dead_stepped moves (next_states m true (truth_after m a) s) (fixed m.variable true φ) a (next_dead (masks_of m true (truth_after m a)) s dead)

  -- nothing is made of nothing
  pub empty_stepped : (moves : List Move) (s : States) (φ : Function) → ((a : Assignment) → φ a ≡ false) → (a : Assignment) → stepped accepted moves s φ a ≡ false
  empty_stepped [] s φ none a = ap (λ x. accepts accepted s && x) (none a) ∙ and_false (accepts accepted s)
    where
      and_false : (x : Bool) → (x && false) ≡ false
      and_false true = refl
      and_false false = refl
  empty_stepped (m ∷ moves) s φ none a =
      let v = m.variable in
      ap (λ x. x || stepped accepted moves (next_states m true (truth_after m a) s) (fixed v true φ) a)
      (empty_stepped moves (next_states m false (truth_after m a) s) (fixed v false φ) (λ b. none (with_var b v false)) a)
      ∙ empty_stepped moves (next_states m true (truth_after m a) s) (fixed v true φ) (λ b. none (with_var b v true)) a

  -- the truth after a move at another variable
  truth_other : (m : Move) (a : Assignment) (u : ℕ) (c : Bool) → u ≢ m.variable → truth_after m (with_var a u c) ≡ truth_after m a
  truth_other m a u c ne = ap (λ x. not m.forgets && x) (with_var_other a u c m.variable (λ e. ne (sym e)))

  -- fixing a variable that no move is at
  stepped_at : (moves : List Move) (s : States) (φ : Function) (u : ℕ) (c : Bool) (a : Assignment) → IsStill moves u → stepped accepted moves s φ (with_var a u c) ≡ stepped accepted moves s (fixed u c φ) a
  stepped_at [] s φ u c a still = refl
  stepped_at (m ∷ moves) s φ u c a still =
      let v = m.variable in
      let left = part false (stepped_at moves (next_states m false (truth_after m a) s) (fixed v false φ) u c a still.1) in
      let right = part true (stepped_at moves (next_states m true (truth_after m a) s) (fixed v true φ) u c a still.1) in
      λ i. left i || right i
    where
      swapped : (b : Bool) → fixed u c (fixed m.variable b φ) ≡ fixed m.variable b (fixed u c φ)
      swapped b j x = φ (with_swapped x u m.variable b c (λ e. still.0 e) j)

      part : (b : Bool) → stepped accepted moves (next_states m b (truth_after m a) s) (fixed m.variable b φ) (with_var a u c) ≡ stepped accepted moves (next_states m b (truth_after m a) s) (fixed u c (fixed m.variable b φ)) a
          → stepped accepted moves (next_states m b (truth_after m (with_var a u c)) s) (fixed m.variable b φ) (with_var a u c) ≡ stepped accepted moves (next_states m b (truth_after m a) s) (fixed m.variable b (fixed u c φ)) a
      part b rec =
          ap (λ x. stepped accepted moves (next_states m b x s) (fixed m.variable b φ) (with_var a u c)) (truth_other m a u c still.0)
          ∙ rec
          ∙ ap (λ χ. stepped accepted moves (next_states m b (truth_after m a) s) χ a) (swapped b)

  pub fixed_stepped : (moves : List Move) (s : States) (φ : Function) (u : ℕ) (c : Bool) → IsStill moves u → fixed u c (stepped accepted moves s φ) ≡ stepped accepted moves s (fixed u c φ)
  fixed_stepped moves s φ u c still i a = stepped_at moves s φ u c a still i

  -- what is made looks at no more than the function, but at the moves
  pub free_stepped : (moves : List Move) (s : States) (φ : Function) (u : ℕ) → IsStill moves u → IsFree u φ → IsFree u (stepped accepted moves s φ)
  free_stepped moves s φ u still free c a = ap (λ (χ : Function). χ a) (fixed_stepped moves s φ u c still) ∙ ap (λ χ. stepped accepted moves s χ a) (fixed_free u c φ free)

  pub from_stepped : (w : ℕ) (moves : List Move) (s : States) (φ : Function) → AscendFrom w moves → IsFrom w φ → IsFrom w (stepped accepted moves s φ)
  from_stepped w moves s φ up from u lt = free_stepped moves s φ u (still_before w u moves up lt) (from u lt)

  -- nor at what is forgotten
  pub forgotten_free : (w : ℕ) (moves : List Move) (s : States) (φ : Function) (u : ℕ) → AscendFrom w moves → IsForgotten moves u → IsFree u (stepped accepted moves s φ)
  forgotten_free w [] s φ u up there c a = elim there [ ]
  forgotten_free w (m ∷ moves) s φ u up (inl (e, forgets)) c a = subst (λ x. stepped accepted (m ∷ moves) s φ (with_var a x c) ≡ stepped accepted (m ∷ moves) s φ a) (sym e) (λ i. part false i || part true i)
    where
      v : ℕ
      v = m.variable

      none : (b : Assignment) → truth_after m b ≡ false
      none b = ap (λ x. not x && b v) forgets

      part : (b : Bool) → stepped accepted moves (next_states m b (truth_after m (with_var a v c)) s) (fixed v b φ) (with_var a v c) ≡ stepped accepted moves (next_states m b (truth_after m a) s) (fixed v b φ) a
      part b =
          ap (λ x. stepped accepted moves (next_states m b x s) (fixed v b φ) (with_var a v c)) (none (with_var a v c) ∙ sym (none a))
          ∙ free_stepped moves (next_states m b (truth_after m a) s) (fixed v b φ) v (still_before (v + 1) v moves up.1.1 (omega arith)) (free_fixed v b φ) c a
  forgotten_free w (m ∷ moves) s φ u up (inr there) c a =
      λ i. part false (forgotten_free (v + 1) moves (next_states m false (truth_after m a) s) (fixed v false φ) u up.1.1 there c a) i
      || part true (forgotten_free (v + 1) moves (next_states m true (truth_after m a) s) (fixed v true φ) u up.1.1 there c a) i
    where
      v : ℕ
      v = m.variable

      apart : u ≢ v
      apart e = let le = forgotten_later (v + 1) u moves up.1.1 there in absurd (omega arith)

      part : (b : Bool) → stepped accepted moves (next_states m b (truth_after m a) s) (fixed v b φ) (with_var a u c) ≡ stepped accepted moves (next_states m b (truth_after m a) s) (fixed v b φ) a
          → stepped accepted moves (next_states m b (truth_after m (with_var a u c)) s) (fixed v b φ) (with_var a u c) ≡ stepped accepted moves (next_states m b (truth_after m a) s) (fixed v b φ) a
      part b rec = ap (λ x. stepped accepted moves (next_states m b x s) (fixed v b φ) (with_var a u c)) (truth_other m a u c apart) ∙ rec

  -- what plays no part after the moves is not looked at
  pub gone_stepped : (w : ℕ) (moves : List Move) (s : States) (φ : Function) (u : ℕ) → AscendFrom w moves → IsGone moves φ u → IsFree u (stepped accepted moves s φ)
  gone_stepped w moves s φ u up (inl (still, free)) = free_stepped moves s φ u still free
  gone_stepped w moves s φ u up (inr there) = forgotten_free w moves s φ u up there

  -- cut at a variable that no move is at, and at that of the first move
  pub kept_stepped : (moves : List Move) (s : States) (φ : Function) (u : ℕ) → IsStill moves u
      → chosen u (stepped accepted moves s (fixed u false φ)) (stepped accepted moves s (fixed u true φ)) ≡ stepped accepted moves s φ
  kept_stepped moves s φ u still =
      ap (λ χ. chosen u χ (stepped accepted moves s (fixed u true φ))) (sym (fixed_stepped moves s φ u false still))
      ∙ ap (λ χ. chosen u (fixed u false (stepped accepted moves s φ)) χ) (sym (fixed_stepped moves s φ u true still))
      ∙ choice u (stepped accepted moves s φ)

  pub moved_stepped : (m : Move) (moves : List Move) (s : States) (φ : Function) → m.forgets ≡ false
      → chosen m.variable (moved_to accepted m moves s false (fixed m.variable false φ) (fixed m.variable true φ)) (moved_to accepted m moves s true (fixed m.variable false φ) (fixed m.variable true φ))
      ≡ stepped accepted (m ∷ moves) s φ
  moved_stepped m moves s φ stays i a = (by_value (a m.variable) ∙ (λ j. stepped accepted moves (next_states m false (own j) s) low a || stepped accepted moves (next_states m true (own j) s) high a)) i
    where
      low : Function
      low = fixed m.variable false φ

      high : Function
      high = fixed m.variable true φ

      own : a m.variable ≡ truth_after m a
      own = sym (ap (λ x. not x && a m.variable) stays)

      by_value : (c : Bool) → (if c then moved_to accepted m moves s true low high a else moved_to accepted m moves s false low high a)
          ≡ (stepped accepted moves (next_states m false c s) low a || stepped accepted moves (next_states m true c s) high a)
      by_value true = refl
      by_value false = refl

  -- where the variable is forgotten, both its truths before are joined
  pub forgot_stepped : (m : Move) (moves : List Move) (s : States) (φ : Function) → m.forgets ≡ true
      → moved_to accepted m moves s false (fixed m.variable false φ) (fixed m.variable true φ) ≡ stepped accepted (m ∷ moves) s φ
  forgot_stepped m moves s φ forgets i a = stepped accepted moves (next_states m false (none i) s) (fixed m.variable false φ) a || stepped accepted moves (next_states m true (none i) s) (fixed m.variable true φ) a
    where
      none : false ≡ truth_after m a
      none = sym (ap (λ x. not x && a m.variable) forgets)

  -- what is made of a function of low variables is one
  pub low_stepped : (w : ℕ) (moves : List Move) (s : States) (φ : Function) → AscendFrom w moves → IsLow φ → IsLow (stepped accepted moves s φ)
  low_stepped w [] s φ up low a b agree = ap (λ x. accepts accepted s && x) (low a b agree)
  low_stepped w (m ∷ moves) s φ up low a b agree =
      let v = m.variable in
      let here : truth_after m a ≡ truth_after m b = ap (λ x. not m.forgets && x) (agree v up.1.0) in
      let left = low_stepped (v + 1) moves (next_states m false (truth_after m a) s) (fixed v false φ) up.1.1 (low_fixed v false φ low) a b agree in
      let right = low_stepped (v + 1) moves (next_states m true (truth_after m a) s) (fixed v true φ) up.1.1 (low_fixed v true φ low) a b agree in
      ap (λ x. x || stepped accepted moves (next_states m true (truth_after m a) s) (fixed v true φ) a) left
      ∙ ap (λ x. stepped accepted moves (next_states m false (truth_after m a) s) (fixed v false φ) b || x) right
      ∙ ap (λ x. stepped accepted moves (next_states m false x s) (fixed v false φ) b || stepped accepted moves (next_states m true x s) (fixed v true φ) b) here

  -- a move's parts lie below what is made, where its variable has the truth after
  pub moved_below : (m : Move) (moves : List Move) (s : States) (φ : Function) (c : Bool) (a : Assignment) → truth_after m a ≡ c
      → moved_to accepted m moves s c (fixed m.variable false φ) (fixed m.variable true φ) a ≡ true → stepped accepted (m ∷ moves) s φ a ≡ true
  moved_below m moves s φ c a e is = subst (λ x. (stepped accepted moves (next_states m false x s) (fixed m.variable false φ) a || stepped accepted moves (next_states m true x s) (fixed m.variable true φ) a) ≡ true) (sym e) is

  -- so do the parts of a cut at a variable that no move is at
  pub kept_below : (moves : List Move) (s : States) (φ : Function) (u : ℕ) (c : Bool) (a : Assignment) → IsStill moves u → a u ≡ c → stepped accepted moves s (fixed u c φ) a ≡ true → stepped accepted moves s φ a ≡ true
  kept_below moves s φ u c a still e is = ap (λ (x : Assignment). stepped accepted moves s φ x) (sym (with_own a u c e)) ∙ ap (λ (χ : Function). χ a) (fixed_stepped moves s φ u c still) ∙ is
