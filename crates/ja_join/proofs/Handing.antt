-- A function of the callee's variables as one of the caller's, at the moves that tell of them.
use Rattle.std.proofs.Common.{◌≡◌, ℕ, zero, suc, ◌+◌, ◌<◌, ◌≤◌, Bool, true, false, refl, sym, ap, ◌∙◌, subst, arith, List, [], ◌∷◌}
use Rattle.std.specs.Prelude.{◌&&◌, nat_eq, if◌then◌else◌, Option, Some, None}
use Rattle.std.proofs.lemmas.Bool.{ne_eqb}
use Rattle.ja_node_core.specs.Tree.{Assignment}
use Rattle.ja_node_core.specs.Node.{Words, Knows}
use Rattle.ja_node_core.proofs.Reduced.{with_var_here, with_var_other}
use Rattle.ja_bdd.specs.Functions.{Function, with_var, fixed, IsFree, IsFrom}
use Rattle.ja_bdd.specs.Meaning.{meaning, Keeps, IsHalved}
use Rattle.ja_bdd.proofs.Fixing.{with_own, from_fixed, from_op, free_op}
use Rattle.ja_bdd.proofs.Sound.{Sound, meaning_constant}
use Rattle.ja_join.specs.declared.rule.Move.{Move}
use Rattle.ja_join.specs.Ascending.{AscendFrom, IsToldFrom, behind_told, TellFrom}
use Rattle.ja_join.specs.Steps.{IsStill, IsLow, tells, told_by, handed, joint}
use Rattle.ja_join.specs.Inner.{taken, part_of, IsClear, IsTaken}
use Rattle.ja_join.proofs.Stepping.{still_before}

clear_step : (from : ℕ) (told : Option ℕ) (b : Bool) (rest : Assignment) → IsToldFrom from told → IsClear (behind_told from told) rest → IsClear from (λ y. if tells told y then b else rest y)
clear_step from None b rest is clear y lt = clear y lt
clear_step from (Some x) b rest is clear y lt = ap (λ t. if t then b else rest y) (ne_eqb y x (λ e. absurd (let le = is.0 in omega arith))) ∙ clear y (let le = is.0 in omega arith)

-- no variable before all that moves tell of is told to be true
pub told_clear : (from : ℕ) (moves : List Move) (a : Assignment) → TellFrom from moves → IsClear from (told_by moves a)
told_clear from [] a up y lt = refl
told_clear from (m ∷ moves) a up y lt = clear_step from m.told (a m.variable) (told_by moves a) up.0 (told_clear (behind_told from m.told) moves a up.1) y lt

-- moves tell nothing of a variable that they are not at
told_other : (moves : List Move) (a : Assignment) (v : ℕ) (c : Bool) → IsStill moves v → told_by moves (with_var a v c) ≡ told_by moves a
told_other [] a v c still i x = false
told_other (m ∷ moves) a v c still i x = if tells m.told x then with_var_other a v c m.variable (λ e. still.0 (sym e)) i else told_other moves a v c still.1 i x

pub handed_free : (moves : List Move) (σ : Function) (v : ℕ) → IsStill moves v → IsFree v (handed moves σ)
handed_free moves σ v still c a = ap σ (told_other moves a v c still)

told_low : (w : ℕ) (moves : List Move) (a b : Assignment) → AscendFrom w moves → ((v : ℕ) → v ≤ 4094 → a v ≡ b v) → told_by moves a ≡ told_by moves b
told_low w [] a b up agree i x = false
told_low w (m ∷ moves) a b up agree i x = if tells m.told x then agree m.variable up.1.0 i else told_low (m.variable + 1) moves a b up.1.1 agree i x

pub joint_low : (w : ℕ) (moves : List Move) (φ σ : Function) → AscendFrom w moves → IsLow φ → IsLow (joint moves φ σ)
joint_low w moves φ σ up low a b agree i = low a b agree i && σ (told_low w moves a b up agree i)

pub joint_from : (w : ℕ) (moves : List Move) (φ σ : Function) → AscendFrom w moves → IsFrom w φ → IsFrom w (joint moves φ σ)
joint_from w moves φ σ up from = from_op (λ p q. p && q) w φ (handed moves σ) from (λ u lt. handed_free moves σ u (still_before w u moves up lt))

pub joint_free : (moves : List Move) (φ σ : Function) (u : ℕ) → IsStill moves u → IsFree u φ → IsFree u (joint moves φ σ)
joint_free moves φ σ u still free = free_op (λ p q. p && q) u φ (handed moves σ) free (handed_free moves σ u still)

-- what is left of both functions at a variable that no move is at
pub joint_kept : (moves : List Move) (φ σ : Function) (v : ℕ) (b : Bool) → IsStill moves v → fixed v b (joint moves φ σ) ≡ joint moves (fixed v b φ) σ
joint_kept moves φ σ v b still i a = φ (with_var a v b) && handed_free moves σ v still b a i

handed_taken : (told : Option ℕ) (b : Bool) (σ : Function) (rest : Assignment) → σ (λ x. if tells told x then b else rest x) ≡ taken told b σ rest
handed_taken None b σ rest = refl
handed_taken (Some y) b σ rest = refl

-- and at that of the first move
pub joint_moved : (m : Move) (moves : List Move) (b : Bool) (φ σ : Function) → IsStill moves m.variable → fixed m.variable b (joint (m ∷ moves) φ σ) ≡ part_of m moves b φ σ
joint_moved m moves b φ σ still i a = φ (with_var a m.variable b) && handed_moved i
  where
    at : told_by (m ∷ moves) (with_var a m.variable b) ≡ (λ x. if tells m.told x then b else told_by moves a x)
    at j x = if tells m.told x then with_var_here a m.variable b j else told_other moves a m.variable b still j x

    handed_moved : σ (told_by (m ∷ moves) (with_var a m.variable b)) ≡ taken m.told b σ (told_by moves a)
    handed_moved = ap σ at ∙ handed_taken m.told b σ (told_by moves a)

-- a node that means what is left stands for it
pub joint_taken : (k : Words) (told : Option ℕ) (moves : List Move) (b : Bool) (φ : Function) (g n : ℕ) → TellFrom (behind_told 0 told) moves → IsTaken k told b g n → joint moves φ (meaning k n) ≡ joint moves φ (taken told b (meaning k g))
joint_taken k None moves b φ g n up is i a = φ a && meaning k (is i) (told_by moves a)
joint_taken k (Some x) moves b φ g n up is i a = φ a && is.1 (told_by moves a) (λ y lt. told_clear (x + 1) moves a up y (omega arith)) i

pub taken_known : (k : Words) (told : Option ℕ) (b : Bool) (g n : ℕ) → Knows k g → IsTaken k told b g n → Knows k n
taken_known k None b g n known is = subst (Knows k) (sym is) known
taken_known k (Some x) b g n known is = is.0

pub taken_still : (k l : Words) → Keeps k l → (told : Option ℕ) (b : Bool) (g n : ℕ) → Knows k g → IsTaken k told b g n → IsTaken l told b g n
taken_still k l keeps None b g n known is = is
taken_still k l keeps (Some x) b g n known is = ((keeps n is.0).0, λ a clear. ap (λ (φ : Function). φ a) (keeps n is.0).1 ∙ is.1 a clear ∙ ap (λ φ. fixed x b φ a) (sym (keeps g known).1))

-- with a function that is true everywhere, the other one is left
pub joint_true : (moves : List Move) (φ : Function) → joint moves φ (λ a. true) ≡ φ
joint_true moves φ i a = with_true (φ a) i
  where
    with_true : (b : Bool) → (b && true) ≡ b
    with_true true = refl
    with_true false = refl

-- a node that is cut at the variable has both parts
pub taken_here : (k : Words) (v g lo hi : ℕ) → IsHalved k v g lo hi → IsTaken k (Some v) false g lo × IsTaken k (Some v) true g hi
taken_here k v g lo hi halved = ((halved.low.0, λ a clear. ap (λ (φ : Function). φ a) halved.low.1), (halved.high.0, λ a clear. ap (λ (φ : Function). φ a) halved.high.1))

-- where it is cut before, its part for false stands for it
pub taken_past : (k : Words) (v x : ℕ) (b : Bool) (g lo hi n : ℕ) → v < x → IsHalved k v g lo hi → IsTaken k (Some x) b lo n → IsTaken k (Some x) b g n
taken_past k v x b g lo hi n lt halved is = (
  is.0,
  λ a clear.
      is.1 a clear ∙ ap (λ (φ : Function). φ (with_var a x b)) halved.low.1 ∙ ap (meaning k g) (with_own (with_var a x b) v false (with_var_other a x b v (λ e. absurd (omega arith)) ∙ clear v lt)),
)

-- the value of a node where no variable is true
pub none_constant : (k : Words) → Sound k → (n : ℕ) → n < 2 → nat_eq n 1 ≡ meaning k n (λ v. false)
none_constant k sound zero lt = sym (ap (λ (φ : Function). φ (λ v. false)) (meaning_constant k sound false))
none_constant k sound (suc zero) lt = sym (ap (λ (φ : Function). φ (λ v. false)) (meaning_constant k sound true))
none_constant k sound (suc (suc n)) lt = absurd (omega arith)

pub none_low : (k : Words) (v g lo hi : ℕ) → IsHalved k v g lo hi → meaning k lo (λ u. false) ≡ meaning k g (λ u. false)
none_low k v g lo hi halved = ap (λ (φ : Function). φ (λ u. false)) halved.low.1 ∙ ap (meaning k g) (with_own (λ u. false) v false refl)

-- the part for false of a node that is cut looks at later variables
pub cut_from : (k : Words) (v g lo hi : ℕ) → IsHalved k v g lo hi → IsFrom (v + 1) (meaning k lo)
cut_from k v g lo hi halved = subst (IsFrom (v + 1)) (sym halved.low.1) (λ u lt. from_fixed v false (meaning k g) halved.from u (omega arith))
