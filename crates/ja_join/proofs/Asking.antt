-- What a part of a pass asks of the next, and what it leaves.
use Rattle.std.proofs.Common.{◌≡◌, ◌≢◌, ℕ, suc, ◌+◌, ◌<◌, ◌≤◌, Bool, true, false, length, get_or, drop, refl, sym, ap, ◌∙◌, subst, arith, List, ◌∷◌}
use Rattle.std.proofs.Math.Seq.{drop-cons}
use Rattle.std.proofs.lemmas.Bool.{or_left, or_right}
use mathlib.Core.Logic.{dite}
use native.Mathlib.Decide.{dec_lt}
use Rattle.ja_node_core.specs.declared.aim.Aim.{Ghosts}
use Rattle.ja_node_core.specs.Tree.{Tree}
use Rattle.ja_node_core.specs.Node.{Words, Knows}
use Rattle.ja_node_table.specs.declared.table.NodeTable.{NodeTable}
use Rattle.ja_node_table.specs.declared.full.Full.{Full}
use Rattle.ja_bdd.specs.declared.worker.Worker.{Worker}
use Rattle.ja_bdd.specs.Functions.{Function, fixed, either, chosen, IsFree, IsFrom, IsAimed}
use Rattle.ja_bdd.specs.Meaning.{meaning, IsMeant, Keeps, IsHalved}
use Rattle.ja_bdd.specs.Workers.{IsWorkerOf, seen}
use Rattle.ja_bdd.proofs.Fixing.{fixed_free, from_fixed}
use Rattle.ja_bdd.proofs.Named.{Falls}
use Rattle.ja_bdd.proofs.Sound.{Sound, seat_sound, meaning_one, meaning_small}
use Rattle.ja_bdd.proofs.Joining.{AreMade}
use Rattle.ja_join.specs.declared.rule.States.{States}
use Rattle.ja_join.specs.declared.rule.Move.{Move}
use Rattle.ja_join.specs.declared.rule.Rule.{Rule}
use Rattle.ja_join.specs.declared.memo.Memo.{Memo}
use Rattle.ja_join.specs.Ascending.{AscendFrom, behind_told, TellFrom}
use Rattle.ja_join.specs.Moves.{next_states}
use Rattle.ja_join.specs.Steps.{IsStill, IsGone, LacksRoomAmong, joint}
use Rattle.ja_join.specs.Inner.{stepped, passed, passed_from, part_of, parted, IsTaken, IsGoneForBoth, AreAimed, AreRight, IsAsked, IsMade}
use Rattle.ja_join.proofs.Stepping.{ascend_later, tell_less, from_stepped, kept_stepped, moved_stepped, still_before}
use Rattle.ja_join.proofs.Handing.{joint_from, joint_kept, joint_taken, taken_known}
use Rattle.ja_join.proofs.Aiming.{small_low, later_aimed, within_more}
use Rattle.ja_join.proofs.Passing.{one_more, parted_joint, parted_whole, whole_aimed, kept_child, moved_child, low_child, high_child, both_children, parted_from, kept_within, moved_within, lacks_more}
use Rattle.ja_join.proofs.Remembering.{meant_still, keeps_chain, right_still}

pub keeps_same : (k l : Words) → l ≡ k → Keeps k l
keeps_same k l same = subst (Keeps k) (sym same) (λ n x. (x, refl))

-- the moves from one on are that one and the moves after it
pub next_at : (moves : List Move) (at : ℕ) (m : Move) → at < length moves → m ≡ get_or moves at m → drop at moves ≡ m ∷ drop (at + 1) moves
next_at moves at m lt is = drop-cons moves at m lt ∙ (λ i. sym is i ∷ drop (one_more at i) moves)

-- where the parts of a node differ, it looks at the variable of the cut
pub looks_there : (k : Words) → Sound k → (v r lo hi : ℕ) → IsHalved k v r lo hi → lo ≢ hi → ¬ IsFree v (meaning k r)
looks_there k sound v r lo hi halved ne free =
    ne (meaning_one k sound lo hi halved.low.0 halved.high.0 (halved.low.1 ∙ fixed_free v false (meaning k r) free ∙ sym (fixed_free v true (meaning k r) free) ∙ sym halved.high.1))

-- a cut comes not before the variables that a node may look at
pub cut_later : (k : Words) → Sound k → (from v now r lo hi : ℕ) → IsFrom from (meaning k r) → from ≤ now → IsHalved k v r lo hi → (v < now → lo ≢ hi) → from ≤ v
cut_later k sound from v now r lo hi looks le halved apart = dite (dec_lt v from)
    (λ lt. absurd (looks_there k sound v r lo hi halved (apart (omega arith)) (looks v lt)))
    (λ not. omega arith)

pub halved_still : (k l : Words) → Keeps k l → (v r lo hi : ℕ) → Knows k r → IsHalved k v r lo hi → IsHalved l v r lo hi
halved_still k l keeps v r lo hi known halved =
    let same = (keeps r known).1 in
    record {
      from = subst (IsFrom v) (sym same) halved.from;
      low = subst (λ φ. IsMeant l lo (fixed v false φ)) (sym same) (meant_still k l keeps lo (fixed v false (meaning k r)) halved.low);
      high = subst (λ φ. IsMeant l hi (fixed v true φ)) (sym same) (meant_still k l keeps hi (fixed v true (meaning k r)) halved.high);
    }

-- the moves behind one, as the rule has them
module _ (rule : Rule) (at : ℕ) (step : Move) (next : drop at rule.moves.items ≡ step ∷ drop (at + 1) rule.moves.items) where
  abbrev rest : List Move
  rest = drop (at + 1) rule.moves.items

  pub up_behind : (from : ℕ) → AscendFrom from (drop at rule.moves.items) → AscendFrom (step.variable + 1) (drop (at + 1) rule.moves.items)
  up_behind from up = (subst (AscendFrom from) next up).1.1

  pub still_behind : (from : ℕ) → AscendFrom from (drop at rule.moves.items) → IsStill (drop (at + 1) rule.moves.items) step.variable
  still_behind from up = still_before (step.variable + 1) step.variable rest (up_behind from up) (omega arith)

  pub tell_behind : TellFrom 0 (drop at rule.moves.items) → TellFrom (behind_told 0 step.told) (drop (at + 1) rule.moves.items)
  tell_behind up = (subst (TellFrom 0) next up).1

  -- nodes that mean what is left stand for the part of both functions
  pub part_is : (k : Words) (b : Bool) (r g n gn : ℕ) → TellFrom 0 (drop at rule.moves.items) → meaning k n ≡ fixed step.variable b (meaning k r) → IsTaken k step.told b g gn
      → joint (drop (at + 1) rule.moves.items) (meaning k n) (meaning k gn) ≡ part_of step (drop (at + 1) rule.moves.items) b (meaning k r) (meaning k g)
  part_is k b r g n gn up same is = (λ i. joint rest (same i) (meaning k gn)) ∙ joint_taken k step.told rest b (fixed step.variable b (meaning k r)) g gn (tell_behind up) is

  -- so do they where more is known
  pub part_later : (k l : Words) → Keeps k l → (b : Bool) (r g n gn : ℕ) → Knows k g → TellFrom 0 (drop at rule.moves.items) → IsMeant k n (fixed step.variable b (meaning k r)) → IsTaken k step.told b g gn
      → joint (drop (at + 1) rule.moves.items) (meaning l n) (meaning l gn) ≡ part_of step (drop (at + 1) rule.moves.items) b (meaning k r) (meaning k g)
  part_later k l keeps b r g n gn known up same is = (λ i. joint rest ((keeps n same.0).1 i) ((keeps gn (taken_known k step.told b g gn known is)).1 i)) ∙ part_is k b r g n gn up same.1 is

module _ {A : Type 0} {G : Ghosts A} (t : NodeTable A) (rule : Rule) where
  pub made_none : (w w1 : Worker A G) (m : Memo) → IsWorkerOf t w1 → seen w1 ≡ seen w → AreRight rule (seen w) m → IsMade t rule w w1 m
  made_none w w1 m of same right =
      let keeps = keeps_same (seen w) (seen w1) same in
      record { worker = of; keeps = keeps; right = right_still rule (seen w) (seen w1) m keeps right }

  pub made_more : (w w1 w2 : Worker A G) (m1 m2 : Memo) → IsMade t rule w w1 m1 → IsMade t rule w1 w2 m2 → IsMade t rule w w2 m2
  made_more w w1 w2 m1 m2 first second = record { worker = second.worker; keeps = keeps_chain (seen w) (seen w1) (seen w2) first.keeps second.keeps; right = second.right }

  pub made_then : (w w1 w2 : Worker A G) (m : Memo) → IsMade t rule w w1 m → IsWorkerOf t w2 → Keeps (seen w1) (seen w2) → IsMade t rule w w2 m
  made_then w w1 w2 m first of keeps = record { worker = of; keeps = keeps_chain (seen w) (seen w1) (seen w2) first.keeps keeps; right = right_still rule (seen w1) (seen w2) m keeps first.right }

  -- why there is no room for a part is why there is none for the whole
  module _ (l : Words) (e : Full A G) where
    pub kept_lacks : (at : ℕ) (s : States) (v : ℕ) (φ σ ψ τ : Function) (c : Bool) → AscendFrom (suc v) (drop at rule.moves.items) → ψ ≡ fixed v c φ → τ ≡ σ
        → LacksRoomAmong t l (passed_from rule at s ψ τ) e → LacksRoomAmong t l (passed_from rule at s φ σ) e
    kept_lacks at s v φ σ ψ τ c up same told lacks = lacks_more t l e (passed_from rule at s φ σ) (passed_from rule at s (fixed v c φ) σ)
        (λ ξ inner. kept_within rule.accepted v (drop at rule.moves.items) s φ σ ξ c up inner)
        (subst (λ (z : Function × Function). LacksRoomAmong t l (passed_from rule at s z.0 z.1) e) (λ i. (same i, told i)) lacks)

    pub moved_lacks : (at : ℕ) (s : States) (step : Move) (φ σ ψ τ : Function) (c : Bool) → drop at rule.moves.items ≡ step ∷ drop (at + 1) rule.moves.items → AscendFrom step.variable (drop at rule.moves.items)
        → (step.forgets ≡ true → c ≡ false) → ψ ≡ φ → τ ≡ σ
        → LacksRoomAmong t l (parted rule.accepted step (drop (at + 1) rule.moves.items) s c ψ τ) e → LacksRoomAmong t l (passed_from rule at s φ σ) e
    moved_lacks at s step φ σ ψ τ c next up suits same told lacks =
        let rest = drop (at + 1) rule.moves.items in
        subst (λ moves. LacksRoomAmong t l (passed rule.accepted moves s φ σ) e) (sym next)
        (lacks_more t l e (passed rule.accepted (step ∷ rest) s φ σ) (parted rule.accepted step rest s c φ σ)
        (λ ξ inner. moved_within rule.accepted step rest s φ σ ξ c (up_behind rule at step next step.variable up) suits inner)
        (subst (λ (z : Function × Function). LacksRoomAmong t l (parted rule.accepted step rest s c z.0 z.1) e) (λ i. (same i, told i)) lacks))

    pub low_lacks : (at : ℕ) (s s' : States) (step : Move) (φ σ ψ τ : Function) (c : Bool) → s' ≡ next_states step false c s → joint (drop (at + 1) rule.moves.items) ψ τ ≡ part_of step (drop (at + 1) rule.moves.items) false φ σ
        → LacksRoomAmong t l (passed_from rule (at + 1) s' ψ τ) e → LacksRoomAmong t l (parted rule.accepted step (drop (at + 1) rule.moves.items) s c φ σ) e
    low_lacks at s s' step φ σ ψ τ c is same lacks =
        let rest = drop (at + 1) rule.moves.items in
        let low = stepped rule.accepted rest (next_states step false c s) (part_of step rest false φ σ) in
        let high = stepped rule.accepted rest (next_states step true c s) (part_of step rest true φ σ) in
        lacks_more t l e (either low high) low
        (λ ξ inner. within_more low ξ (either low high) inner (λ a. or_left (low a) (high a)))
        (subst (λ (z : States × Function). LacksRoomAmong t l (stepped rule.accepted rest z.0 z.1) e) (λ i. (is i, same i)) lacks)

    pub high_lacks : (at : ℕ) (s s' : States) (step : Move) (φ σ ψ τ : Function) (c : Bool) → s' ≡ next_states step true c s → joint (drop (at + 1) rule.moves.items) ψ τ ≡ part_of step (drop (at + 1) rule.moves.items) true φ σ
        → LacksRoomAmong t l (passed_from rule (at + 1) s' ψ τ) e → LacksRoomAmong t l (parted rule.accepted step (drop (at + 1) rule.moves.items) s c φ σ) e
    high_lacks at s s' step φ σ ψ τ c is same lacks =
        let rest = drop (at + 1) rule.moves.items in
        let low = stepped rule.accepted rest (next_states step false c s) (part_of step rest false φ σ) in
        let high = stepped rule.accepted rest (next_states step true c s) (part_of step rest true φ σ) in
        lacks_more t l e (either low high) high
        (λ ξ inner. within_more high ξ (either low high) inner (λ a. or_right (low a) (high a)))
        (subst (λ (z : States × Function). LacksRoomAmong t l (stepped rule.accepted rest z.0 z.1) e) (λ i. (is i, same i)) lacks)

-- the moves that are left rise from behind a cut that comes before them
pub kept_up : (v : ℕ) (moves rest : List Move) (m : Move) → moves ≡ m ∷ rest → v < m.variable → AscendFrom v moves → AscendFrom (suc v) moves
kept_up v moves rest m next lt up = subst (AscendFrom (suc v)) (sym next) (ascend_later v (suc v) m rest (subst (AscendFrom v) next up) (omega arith))

-- where the next move forgets its variable, both truths before it make the whole
pub forgot_whole : (rule : Rule) (at : ℕ) (s : States) (from : ℕ) (step : Move) (φ σ : Function) → drop at rule.moves.items ≡ step ∷ drop (at + 1) rule.moves.items → step.forgets ≡ true → AscendFrom from (drop at rule.moves.items)
    → parted rule.accepted step (drop (at + 1) rule.moves.items) s false φ σ ≡ passed_from rule at s φ σ
forgot_whole rule at s from step φ σ next forgets up = parted_whole rule.accepted step (drop (at + 1) rule.moves.items) s φ σ (still_behind rule at step next from up) forgets ∙ ap (λ moves. passed rule.accepted moves s φ σ) (sym next)

module _ {A : Type 0} {G : Ghosts A} (t : NodeTable A) (aim : Tree → Type 0) (falls : Falls aim) (rule : Rule) where
  asked_of : (at : ℕ) (s : States) (v : ℕ) (w : Worker A G) (m : Memo) (r g : ℕ) (φ σ : Function) → IsWorkerOf t w → AreRight rule (seen w) m → IsMeant (seen w) r φ → IsMeant (seen w) g σ → IsFrom v φ → AscendFrom v (drop at rule.moves.items)
      → TellFrom 0 (drop at rule.moves.items) → AreAimed aim (IsGone (drop at rule.moves.items) φ) v (passed_from rule at s φ σ) → IsAsked t aim rule at s v w m r g
  asked_of at s v w m r g φ σ of right is told from up telling aimed = record {
    worker = of;
    known = is.0;
    told = told.0;
    later = subst (IsFrom v) (sym is.1) from;
    ascending = up;
    telling = telling;
    right = right;
    aimed = subst (λ (z : Function × Function). AreAimed aim (IsGone (drop at rule.moves.items) z.0) v (passed_from rule at s z.0 z.1)) (λ i. (sym is.1 i, sym told.1 i)) aimed;
  }

  pub asked_still : (at : ℕ) (s : States) (v : ℕ) (w w1 : Worker A G) (m m1 : Memo) (r g : ℕ) → IsAsked t aim rule at s v w m r g → IsMade t rule w w1 m1 → IsAsked t aim rule at s v w1 m1 r g
  asked_still at s v w w1 m m1 r g asked made = asked_of at s v w1 m1 r g (meaning (seen w) r) (meaning (seen w) g) made.worker made.right (made.keeps r asked.known) (made.keeps g asked.told) asked.later asked.ascending asked.telling asked.aimed

  -- of the same nodes, once the worker has looked at some
  pub asked_same : (at : ℕ) (s : States) (v : ℕ) (w w1 : Worker A G) (m : Memo) (r g : ℕ) → IsWorkerOf t w1 → seen w1 ≡ seen w → IsAsked t aim rule at s v w m r g → IsAsked t aim rule at s v w1 m r g
  asked_same at s v w w1 m r g of same asked = asked_still at s v w w1 m m r g asked (made_none t rule w w1 m of same asked.right)

  -- of a node that was cut, before the next move or at it
  pub asked_cut : (at : ℕ) (s : States) (from v : ℕ) (step : Move) (w w1 : Worker A G) (m : Memo) (r g lo hi : ℕ) → drop at rule.moves.items ≡ step ∷ drop (at + 1) rule.moves.items → IsWorkerOf t w1 → seen w1 ≡ seen w
      → IsHalved (seen w) v r lo hi → v ≤ step.variable → (v < step.variable → lo ≢ hi) → IsAsked t aim rule at s from w m r g → (from ≤ v) × IsAsked t aim rule at s v w1 m r g
  asked_cut at s from v step w w1 m r g lo hi next of same halved le apart asked =
      let rest = drop (at + 1) rule.moves.items in
      let up = subst (AscendFrom from) next asked.ascending in
      let keeps = keeps_same (seen w) (seen w1) same in
      let later = cut_later (seen w) (seat_sound w.seat) from v step.variable r lo hi asked.later up.0 halved apart in (
        later,
        asked_of at s v w1 m r g (meaning (seen w) r) (meaning (seen w) g) of (right_still rule (seen w) (seen w1) m keeps asked.right) (keeps r asked.known) (keeps g asked.told) halved.from
            (subst (AscendFrom v) (sym next) (ascend_later from v step rest up le)) asked.telling
            (later_aimed aim (IsGone (drop at rule.moves.items) (meaning (seen w) r)) from v (passed_from rule at s (meaning (seen w) r) (meaning (seen w) g)) later asked.aimed),
      )

  -- of either part of a node that was cut before the next move
  pub asked_kept : (at : ℕ) (s : States) (v : ℕ) (step : Move) (w : Worker A G) (m : Memo) (r g lo hi : ℕ) → drop at rule.moves.items ≡ step ∷ drop (at + 1) rule.moves.items → v ≤ 4094 → v < step.variable → lo ≢ hi
      → IsHalved (seen w) v r lo hi → IsAsked t aim rule at s v w m r g → IsAsked t aim rule at s (v + 1) w m lo g × IsAsked t aim rule at s (v + 1) w m hi g
  asked_kept at s v step w m r g lo hi next small lt ne halved asked = (part false lo halved.low, part true hi halved.high)
    where
      φ : Function
      φ = meaning (seen w) r

      moves : List Move
      moves = drop at rule.moves.items

      up : AscendFrom (suc v) moves
      up = kept_up v moves (drop (at + 1) rule.moves.items) step next lt asked.ascending

      part : (c : Bool) (n : ℕ) → IsMeant (seen w) n (fixed v c φ) → IsAsked t aim rule at s (v + 1) w m n g
      part c n is = asked_of at s (v + 1) w m n g (fixed v c φ) (meaning (seen w) g) asked.worker asked.right is (asked.told, refl) (subst (λ u. IsFrom u (fixed v c φ)) (one_more v) (from_fixed v c φ asked.later))
          (subst (λ u. AscendFrom u moves) (one_more v) up) asked.telling
          (kept_child rule.accepted aim falls v moves s φ (meaning (seen w) g) c small (looks_there (seen w) (seat_sound w.seat) v r lo hi halved ne) up asked.aimed)

  -- of either part of a node that was cut at the next move
  pub asked_moved : (at : ℕ) (s s' : States) (from : ℕ) (step : Move) (w : Worker A G) (m : Memo) (r g n gn : ℕ) (before after : Bool) → drop at rule.moves.items ≡ step ∷ drop (at + 1) rule.moves.items → from ≡ step.variable + 1
      → s' ≡ next_states step before after s → (step.forgets ≡ true → after ≡ false) → IsMeant (seen w) n (fixed step.variable before (meaning (seen w) r)) → IsTaken (seen w) step.told before g gn
      → IsAsked t aim rule at s step.variable w m r g → IsAsked t aim rule (at + 1) s' from w m n gn
  asked_moved at s s' from step w m r g n gn before after next from_is s_is suits is told asked =
      subst (λ (z : ℕ × States). IsAsked t aim rule (at + 1) z.1 z.0 w m n gn) (λ i. (sym from_is i, sym s_is i))
      (asked_of (at + 1) (next_states step before after s) (v + 1) w m n gn (fixed v before φ) (meaning (seen w) gn) asked.worker asked.right is (taken_known (seen w) step.told before g gn asked.told told, refl)
      (subst (λ u. IsFrom u (fixed v before φ)) (one_more v) (from_fixed v before φ asked.later)) up.1.1 (tell_less (behind_told 0 step.told) 0 rest (omega arith) (tell_behind rule at step next asked.telling))
      (subst (λ χ. AreAimed aim (IsGone rest (fixed v before φ)) (v + 1) (stepped rule.accepted rest (next_states step before after s) χ)) (sym (joint_taken (seen w) step.told rest before (fixed v before φ) g gn (tell_behind rule at step next asked.telling) told)) (part before)))
    where
      v : ℕ
      v = step.variable

      φ : Function
      φ = meaning (seen w) r

      σ : Function
      σ = meaning (seen w) g

      rest : List Move
      rest = drop (at + 1) rule.moves.items

      up : AscendFrom v (step ∷ rest)
      up = subst (AscendFrom v) next asked.ascending

      both : AreAimed aim (IsGoneForBoth rest (fixed v false φ) (fixed v true φ)) (v + 1) (parted rule.accepted step rest s after φ σ)
      both = moved_child rule.accepted aim falls step rest s φ σ after up.1.0 up.1.1 suits (subst (λ moves. AreAimed aim (IsGone moves φ) v (passed rule.accepted moves s φ σ)) next asked.aimed)

      part : (b : Bool) → AreAimed aim (IsGone rest (fixed v b φ)) (v + 1) (stepped rule.accepted rest (next_states step b after s) (part_of step rest b φ σ))
      part false = low_child rule.accepted aim falls (v + 1) step rest s after φ σ both
      part true = high_child rule.accepted aim falls (v + 1) step rest s after φ σ both

  -- what is made of a node from a variable on is of the aim
  whole_of : (at : ℕ) (s : States) (v : ℕ) (w : Worker A G) (m : Memo) (r g : ℕ) → IsAsked t aim rule at s v w m r g → IsAimed aim (passed_from rule at s (meaning (seen w) r) (meaning (seen w) g))
  whole_of at s v w m r g asked = whole_aimed rule.accepted aim falls v (drop at rule.moves.items) s (meaning (seen w) r) (meaning (seen w) g)
      (small_low (meaning (seen w) r) (meaning_small (seen w) (seat_sound w.seat) r asked.known)) asked.later asked.ascending asked.aimed

  -- what both parts of a node make, where it was cut before the next move, makes the whole
  pub kept_whole : (at : ℕ) (s : States) (v : ℕ) (step : Move) (w w1 w2 : Worker A G) (m : Memo) (r g lo hi low high : ℕ) → drop at rule.moves.items ≡ step ∷ drop (at + 1) rule.moves.items → v < step.variable
      → IsHalved (seen w) v r lo hi → IsAsked t aim rule at s v w m r g → Keeps (seen w) (seen w1) → Keeps (seen w1) (seen w2)
      → IsMeant (seen w1) low (passed_from rule at s (meaning (seen w) lo) (meaning (seen w) g)) → IsMeant (seen w2) high (passed_from rule at s (meaning (seen w1) hi) (meaning (seen w1) g))
      → AreMade aim (seen w2) v low high (passed_from rule at s (meaning (seen w) r) (meaning (seen w) g))
  kept_whole at s v step w w1 w2 m r g lo hi low high next lt halved asked first second low_is high_is = record {
    known = (below.0, above.0);
    later = (subst (IsFrom (suc v)) (sym below.1) (later false), subst (IsFrom (suc v)) (sym above.1) (later true));
    aimed = subst (IsAimed aim) (sym is) (whole_of at s v w m r g asked);
    is = is;
  }
    where
      φ : Function
      φ = meaning (seen w) r

      σ : Function
      σ = meaning (seen w) g

      moves : List Move
      moves = drop at rule.moves.items

      up : AscendFrom (suc v) moves
      up = kept_up v moves (drop (at + 1) rule.moves.items) step next lt asked.ascending

      still : IsStill moves v
      still = still_before (suc v) v moves up (omega arith)

      part : Bool → Function
      part c = stepped rule.accepted moves s (fixed v c (joint moves φ σ))

      below : IsMeant (seen w2) low (part false)
      below = meant_still (seen w1) (seen w2) second low (part false)
          (subst (IsMeant (seen w1) low) ((λ i. passed_from rule at s (halved.low.1 i) σ) ∙ sym (λ i. stepped rule.accepted moves s (joint_kept moves φ σ v false still i))) low_is)

      above : IsMeant (seen w2) high (part true)
      above = subst (IsMeant (seen w2) high)
          ((λ i. passed_from rule at s ((meant_still (seen w) (seen w1) first hi (fixed v true φ) halved.high).1 i) ((first g asked.told).1 i)) ∙ sym (λ i. stepped rule.accepted moves s (joint_kept moves φ σ v true still i))) high_is

      later : (c : Bool) → IsFrom (suc v) (part c)
      later c = from_stepped rule.accepted (suc v) moves s (fixed v c (joint moves φ σ)) up (from_fixed v c (joint moves φ σ) (joint_from v moves φ σ asked.ascending asked.later))

      is : chosen v (meaning (seen w2) low) (meaning (seen w2) high) ≡ passed_from rule at s φ σ
      is = (λ i. chosen v (below.1 i) (above.1 i)) ∙ kept_stepped rule.accepted moves s (joint moves φ σ) v still

  -- where it was cut at the next move
  pub moved_whole : (at : ℕ) (s : States) (step : Move) (w w1 w2 : Worker A G) (m : Memo) (r g low high : ℕ) → drop at rule.moves.items ≡ step ∷ drop (at + 1) rule.moves.items → step.forgets ≡ false
      → IsAsked t aim rule at s step.variable w m r g → Keeps (seen w) (seen w1) → Keeps (seen w1) (seen w2)
      → IsMeant (seen w1) low (parted rule.accepted step (drop (at + 1) rule.moves.items) s false (meaning (seen w) r) (meaning (seen w) g)) → IsMeant (seen w2) high (parted rule.accepted step (drop (at + 1) rule.moves.items) s true (meaning (seen w1) r) (meaning (seen w1) g))
      → AreMade aim (seen w2) step.variable low high (passed_from rule at s (meaning (seen w) r) (meaning (seen w) g))
  moved_whole at s step w w1 w2 m r g low high next stays asked first second low_is high_is = record {
    known = (below.0, above.0);
    later = (subst (IsFrom (suc v)) (sym below.1) (later false), subst (IsFrom (suc v)) (sym above.1) (later true));
    aimed = subst (IsAimed aim) (sym is) (whole_of at s v w m r g asked);
    is = is;
  }
    where
      v : ℕ
      v = step.variable

      φ : Function
      φ = meaning (seen w) r

      σ : Function
      σ = meaning (seen w) g

      rest : List Move
      rest = drop (at + 1) rule.moves.items

      up : AscendFrom (suc v) rest
      up = let all = subst (AscendFrom v) next asked.ascending in subst (λ u. AscendFrom u rest) (sym (one_more v)) all.1.1

      still : IsStill rest v
      still = still_before (suc v) v rest up (omega arith)

      below : IsMeant (seen w2) low (parted rule.accepted step rest s false φ σ)
      below = meant_still (seen w1) (seen w2) second low (parted rule.accepted step rest s false φ σ) low_is

      above : IsMeant (seen w2) high (parted rule.accepted step rest s true φ σ)
      above = subst (IsMeant (seen w2) high) (λ i. parted rule.accepted step rest s true ((first r asked.known).1 i) ((first g asked.told).1 i)) high_is

      later : (c : Bool) → IsFrom (suc v) (parted rule.accepted step rest s c φ σ)
      later c = parted_from rule.accepted aim falls (suc v) step rest s c φ σ (from_fixed v false φ asked.later) (from_fixed v true φ asked.later) up

      is : chosen v (meaning (seen w2) low) (meaning (seen w2) high) ≡ passed_from rule at s φ σ
      is = (λ i. chosen v (below.1 i) (above.1 i)) ∙ (λ i. chosen v (parted_joint rule.accepted step rest s φ σ false still i) (parted_joint rule.accepted step rest s φ σ true still i))
          ∙ moved_stepped rule.accepted step rest s (joint (step ∷ rest) φ σ) stays ∙ ap (λ moves. passed rule.accepted moves s φ σ) (sym next)

  -- what both truths before make, for one truth after
  pub parts_joined : (at : ℕ) (s s1 s2 : States) (step : Move) (w w1 w2 : Worker A G) (m : Memo) (r g lo hi gl gh first second : ℕ) (after : Bool) → drop at rule.moves.items ≡ step ∷ drop (at + 1) rule.moves.items
      → s1 ≡ next_states step false after s → s2 ≡ next_states step true after s → (step.forgets ≡ true → after ≡ false) → IsHalved (seen w) step.variable r lo hi → IsTaken (seen w) step.told false g gl → IsTaken (seen w) step.told true g gh
      → IsAsked t aim rule at s step.variable w m r g → Keeps (seen w) (seen w1) → Keeps (seen w1) (seen w2)
      → IsMeant (seen w1) first (passed_from rule (at + 1) s1 (meaning (seen w) lo) (meaning (seen w) gl)) → IsMeant (seen w2) second (passed_from rule (at + 1) s2 (meaning (seen w1) hi) (meaning (seen w1) gh))
      → Knows (seen w2) first × Knows (seen w2) second × IsAimed aim (either (meaning (seen w2) first) (meaning (seen w2) second))
      × (either (meaning (seen w2) first) (meaning (seen w2) second) ≡ parted rule.accepted step (drop (at + 1) rule.moves.items) s after (meaning (seen w) r) (meaning (seen w) g))
  parts_joined at s s1 s2 step w w1 w2 m r g lo hi gl gh first second after next s1_is s2_is suits halved gl_is gh_is asked keeps more first_is second_is = (below.0, above.0, subst (IsAimed aim) (sym is) aimed, is)
    where
      v : ℕ
      v = step.variable

      φ : Function
      φ = meaning (seen w) r

      σ : Function
      σ = meaning (seen w) g

      rest : List Move
      rest = drop (at + 1) rule.moves.items

      up : AscendFrom v (step ∷ rest)
      up = subst (AscendFrom v) next asked.ascending

      low : (c : Bool) → IsFrom (v + 1) (fixed v c φ)
      low c = subst (λ u. IsFrom u (fixed v c φ)) (one_more v) (from_fixed v c φ asked.later)

      below : IsMeant (seen w2) first (stepped rule.accepted rest (next_states step false after s) (part_of step rest false φ σ))
      below = meant_still (seen w1) (seen w2) more first (stepped rule.accepted rest (next_states step false after s) (part_of step rest false φ σ))
          (subst (λ (z : States × Function). IsMeant (seen w1) first (stepped rule.accepted rest z.0 z.1)) (λ i. (s1_is i, part_is rule at step next (seen w) false r g lo gl asked.telling halved.low.1 gl_is i)) first_is)

      high_part : joint rest (meaning (seen w1) hi) (meaning (seen w1) gh) ≡ part_of step rest true φ σ
      high_part = part_later rule at step next (seen w) (seen w1) keeps true r g hi gh asked.told asked.telling halved.high gh_is

      above : IsMeant (seen w2) second (stepped rule.accepted rest (next_states step true after s) (part_of step rest true φ σ))
      above = subst (λ (z : States × Function). IsMeant (seen w2) second (stepped rule.accepted rest z.0 z.1)) (λ i. (s2_is i, high_part i)) second_is

      is : either (meaning (seen w2) first) (meaning (seen w2) second) ≡ parted rule.accepted step rest s after φ σ
      is i = either (below.1 i) (above.1 i)

      aimed : IsAimed aim (parted rule.accepted step rest s after φ σ)
      aimed = both_children rule.accepted aim falls (v + 1) step rest s after φ σ (small_low φ (meaning_small (seen w) (seat_sound w.seat) r asked.known)) (low false) (low true) up.1.1
          (moved_child rule.accepted aim falls step rest s φ σ after up.1.0 up.1.1 suits (subst (λ moves. AreAimed aim (IsGone moves φ) v (passed rule.accepted moves s φ σ)) next asked.aimed))
