-- Outside a frame that has room for it no end makes anything true; and whole exceptional ends hold exactly where some way does.
use Rattle.std.proofs.Common.{◌≡◌, ℕ, zero, suc, ◌+◌, ◌-◌, ◌<◌, ◌≤◌, Bool, true, false, refl, sym, ap, ◌∙◌, subst, arith, ⊎_elim, Some, None}
use Rattle.std.specs.Prelude.{◌||◌, ◌&&◌, nat_lt, nat_eq, if◌then◌else◌}
use Rattle.std.proofs.lemmas.Bool.{or_cases, or_left, or_right, and_parts, and_from, false≢true, eqb-true, ne_eqb, ltb-true, ltb-false, lt-ltb}
use Rattle.ja_ir.specs.declared.op.Op.{Op}
use Rattle.ja_ir.specs.declared.op.Op.TheVariants.{Store, ArrStore, PutField, Call}
use Rattle.ja_ir.specs.declared.op.CallOp.{CallOp}
use Rattle.ja_ir.specs.Operations.{arguments, pops, height_after, UsesLocals}
use Rattle.ja_facts.specs.Slots.{Slot, Local as InLocal, OnStack as InStack}
use Rattle.ja_facts.specs.Formulas.{Summary}
use Rattle.ja_node_core.specs.Tree.{Assignment as Variables}
use Rattle.ja_work.specs.declared.clause.Spot.{Spot}
use Rattle.ja_work.specs.declared.clause.Spot.TheVariants.{Local, OnStack, Dirt, Exc}
use Rattle.ja_work.specs.declared.clause.Clause.{Clause}
use Rattle.ja_work.specs.declared.way.Way.{Way}
use Rattle.ja_work.specs.declared.way.Way.TheVariants.{Clean, Thrown, InLibrary}
use Rattle.ja_work.specs.declared.frame.Frame.{Frame}
use Rattle.ja_work.specs.Clauses.{bound, fits_as, fits, spot_of, moved, constant, never, AllFit}
use Rattle.ja_work.specs.Ends.{Tests, meets_by, taking, changed, local_after, pushed, stacked_after, normal_clauses, may_end, library_local, exceptional_clauses, affected_after, returned_stack, return_clauses, throw_clauses, caught_clauses}
use Rattle.ja_work.specs.Orders.{IsOrder}
use Rattle.ja_work.specs.Frames.{size, is_inside, read, whole, KeepsOutside}
use Rattle.ja_work.specs.Thrown.{HasRoom, ends_by, ends_thrown}
use Rattle.ja_work.specs.Work.{end_clauses, leave_clauses}
use Rattle.ja_work.proofs.Fitting.{moved_fits, constant_fits}
use Rattle.ja_work.proofs.Framing.{read_outside, whole_fits, fits_whole}

-- what is said at most lets a spot be false
at_most_false : (p : Bool) → fits_as false p false ≡ true
at_most_false true = refl
at_most_false false = refl

module _ (frame : Frame) where
  -- what lies outside is false at present, and so may its copies be
  moved_outside : (s : Spot) (a : Variables) → is_inside frame s ≡ false → fits (moved s) (read frame 1 a) false ≡ true
  moved_outside s a e = moved_fits (read frame 1 a) s false (sym (read_outside frame 1 a s e))

  never_outside : (a : Variables) → fits never (read frame 1 a) false ≡ true
  never_outside a = constant_fits false (read frame 1 a) false refl

  -- a clause of the lowest value alone says nothing of those above it
  upper_outside : (s : Spot) (k : ℕ) (a : Variables) → fits (if nat_eq (suc k) 0 then moved s else never) (read frame 1 a) false ≡ true
  upper_outside s k a = subst (λ c. fits (if c then moved s else never) (read frame 1 a) false ≡ true) (sym (ne_eqb (suc k) 0 (λ e. absurd (omega arith)))) (never_outside a)

  -- a slot that an operation leaves where it is
  changed_outside : (tests : Tests) (op : Op) (height : ℕ) (y : Slot) (a : Variables) → is_inside frame (spot_of y) ≡ false → fits (changed tests op height y) (read frame 1 a) false ≡ true
  changed_outside tests op height y a e = go op
    where
      still : fits (moved (spot_of y)) (read frame 1 a) false ≡ true
      still = moved_outside (spot_of y) a e

      write : (reaches : Bool) → fits (if reaches then (record { exact = false; always = false; one = Some (spot_of y); first = height - 1; count = 1 }) else moved (spot_of y)) (read frame 1 a) false ≡ true
      write true = at_most_false (bound (record { exact = false; always = false; one = Some (spot_of y); first = height - 1; count = 1 }) (read frame 1 a))
      write false = still

      take : (call : CallOp) (meets : Bool) → fits (if meets then taking false call (height - arguments call) (spot_of y) else moved (spot_of y)) (read frame 1 a) false ≡ true
      take call true = at_most_false (bound (taking false call (height - arguments call) (spot_of y)) (read frame 1 a))
      take call false = still

      go : (o : Op) → fits (changed tests o height y) (read frame 1 a) false ≡ true
      go (PutField f) = write (tests.reaches y (InStack (height - 2)))
      go (ArrStore kind) = write (tests.reaches y (InStack (height - 3)))
      go (Call call) = take call (meets_by call.row.effect tests call (height - arguments call) y)
      go _ = still

  -- a local that is outside is not stored to
  stored_outside : (height l local : ℕ) (a : Variables) → local < frame.locals → is_inside frame (Local l) ≡ false → fits (if nat_eq l local then moved (OnStack (height - 1)) else moved (Local l)) (read frame 1 a) false ≡ true
  stored_outside height l local a lt e = by_test (nat_eq l local) refl
    where
      by_test : (c : Bool) → nat_eq l local ≡ c → fits (if c then moved (OnStack (height - 1)) else moved (Local l)) (read frame 1 a) false ≡ true
      by_test true same = let is = eqb-true l local same in let high = ltb-false l frame.locals e in absurd (omega arith)
      by_test false other = moved_outside (Local l) a e

  local_outside : (tests : Tests) (op : Op) (height l : ℕ) (a : Variables) → UsesLocals op frame.locals → is_inside frame (Local l) ≡ false → fits (local_after tests op height l) (read frame 1 a) false ≡ true
  local_outside tests op height l a uses e = go op uses
    where
      go : (o : Op) → UsesLocals o frame.locals → fits (local_after tests o height l) (read frame 1 a) false ≡ true
      go (Store kind local) lt = stored_outside height l local a lt e
      go o u = changed_outside tests o height (InLocal l) a e

  pub normal_outside : (tests : Tests) (op : Op) (height : ℕ) → HasRoom frame op height → KeepsOutside frame (normal_clauses tests op height)
  normal_outside tests op height room (Local l) a e = local_outside tests op height l a room.locals e
  normal_outside tests op height room (OnStack k) a e = by_place (nat_lt k (height - pops op)) (nat_lt k (height_after op height)) refl refl
    where
      high : frame.stack ≤ k
      high = ltb-false k frame.stack e

      by_place : (left top : Bool) → nat_lt k (height - pops op) ≡ left → nat_lt k (height_after op height) ≡ top → fits (stacked_after left top tests op height k) (read frame 1 a) false ≡ true
      by_place true top is_left is_top = let lt = ltb-true k (height - pops op) is_left in let before = room.before in absurd (omega (arith, high))
      by_place false true is_left is_top = let lt = ltb-true k (height_after op height) is_top in let after = room.after in absurd (omega (arith, high))
      by_place false false is_left is_top = never_outside a
  normal_outside tests op height room Dirt a e = absurd (false≢true (sym e))
  normal_outside tests op height room Exc a e = absurd (false≢true (sym e))

  pub exceptional_outside : (way : Way) (tests : Tests) (op : Op) (height : ℕ) → KeepsOutside frame (exceptional_clauses way tests op height)
  exceptional_outside Clean tests op height (Local l) a e = moved_outside (Local l) a e
  exceptional_outside Clean tests op height (OnStack k) a e = never_outside a
  exceptional_outside Thrown tests op height (Local l) a e = moved_outside (Local l) a e
  exceptional_outside Thrown tests op height (OnStack k) a e = never_outside a
  exceptional_outside InLibrary tests op height (Local l) a e = go op
    where
      go : (o : Op) → fits (library_local tests o height l) (read frame 1 a) false ≡ true
      go (Call call) = changed_outside tests (Call call) height (InLocal l) a e
      go _ = moved_outside (Local l) a e
  exceptional_outside InLibrary tests op height (OnStack k) a e = never_outside a
  exceptional_outside way tests op height Dirt a e = absurd (false≢true (sym e))
  exceptional_outside way tests op height Exc a e = absurd (false≢true (sym e))

  affected_outside : (affected : Slot → Bool) (dirt : Bool) (y : Slot) (a : Variables) → is_inside frame (spot_of y) ≡ false → fits (affected_after affected dirt y) (read frame 1 a) false ≡ true
  affected_outside affected dirt y a e = go (affected y)
    where
      go : (c : Bool) → fits (if c then (record { exact = false; always = dirt; one = Some (spot_of y); first = 0; count = 0 }) else moved (spot_of y)) (read frame 1 a) false ≡ true
      go true = at_most_false (bound (record { exact = false; always = dirt; one = Some (spot_of y); first = 0; count = 0 }) (read frame 1 a))
      go false = moved_outside (spot_of y) a e

  pub return_outside : (affected : Slot → Bool) (under : ℕ) (answers : Bool) (s : Summary) → (answers ≡ true → under < frame.stack) → KeepsOutside frame (return_clauses affected under answers s)
  return_outside affected under answers s room (Local l) a e = affected_outside affected s.dirt (InLocal l) a e
  return_outside affected under answers s room (OnStack k) a e = by_place (nat_lt k under) (answers && nat_eq k under) refl refl
    where
      high : frame.stack ≤ k
      high = ltb-false k frame.stack e

      by_place : (left top : Bool) → nat_lt k under ≡ left → (answers && nat_eq k under) ≡ top → fits (returned_stack left top affected s k) (read frame 1 a) false ≡ true
      by_place true top is_left is_top = affected_outside affected s.dirt (InStack k) a e
      by_place false true is_left is_top =
          let parts = and_parts answers (nat_eq k under) is_top in let same = eqb-true k under parts.1 in let lt = room parts.0 in absurd (omega (arith, high))
      by_place false false is_left is_top = never_outside a
  return_outside affected under answers s room Dirt a e = absurd (false≢true (sym e))
  return_outside affected under answers s room Exc a e = absurd (false≢true (sym e))

  pub throw_outside : (affected : Slot → Bool) (s : Summary) → KeepsOutside frame (throw_clauses affected s)
  throw_outside affected s (Local l) a e = affected_outside affected s.dirt (InLocal l) a e
  throw_outside affected s (OnStack k) a e = never_outside a
  throw_outside affected s Dirt a e = absurd (false≢true (sym e))
  throw_outside affected s Exc a e = absurd (false≢true (sym e))

  pub caught_outside : 0 < frame.stack → KeepsOutside frame caught_clauses
  caught_outside room (Local l) a e = moved_outside (Local l) a e
  caught_outside room (OnStack zero) a e = let high : frame.stack ≤ 0 = ltb-false 0 frame.stack e in absurd (omega arith)
  caught_outside room (OnStack (suc k)) a e = upper_outside Exc k a
  caught_outside room Dirt a e = absurd (false≢true (sym e))
  caught_outside room Exc a e = absurd (false≢true (sym e))

  pub value_outside : (top : ℕ) → top < frame.stack → KeepsOutside frame (end_clauses (Some top))
  value_outside top lt (Local l) a e = never_outside a
  value_outside top lt (OnStack zero) a e = let high : frame.stack ≤ 0 = ltb-false 0 frame.stack e in absurd (omega arith)
  value_outside top lt (OnStack (suc k)) a e = upper_outside (OnStack top) k a
  value_outside top lt Dirt a e = absurd (false≢true (sym e))
  value_outside top lt Exc a e = absurd (false≢true (sym e))

  pub nothing_outside : KeepsOutside frame (end_clauses None)
  nothing_outside (Local l) a e = never_outside a
  nothing_outside (OnStack k) a e = never_outside a
  nothing_outside Dirt a e = absurd (false≢true (sym e))
  nothing_outside Exc a e = absurd (false≢true (sym e))

  pub leave_outside : KeepsOutside frame leave_clauses
  leave_outside (Local l) a e = never_outside a
  leave_outside (OnStack k) a e = never_outside a
  leave_outside Dirt a e = absurd (false≢true (sym e))
  leave_outside Exc a e = absurd (false≢true (sym e))

  module _ (tests : Tests) (op : Op) (height : ℕ) (a : Variables) (order : IsOrder (size frame) frame.places frame.slots) where
    by_fits : (way : Way) → ends_by frame tests op height way a ≡ true → (way : Way) × (may_end tests op way ≡ true) × AllFit (exceptional_clauses way tests op height) (read frame 1 a) (read frame 2 a)
    by_fits way e =
        let parts = and_parts (may_end tests op way) (whole frame (exceptional_clauses way tests op height) a) e in
        (way, parts.0, whole_fits frame (exceptional_clauses way tests op height) a order (exceptional_outside way tests op height) parts.1)

    -- a whole exceptional end holds where some way does
    pub thrown_fits : ends_thrown frame tests op height a ≡ true → (way : Way) × (may_end tests op way ≡ true) × AllFit (exceptional_clauses way tests op height) (read frame 1 a) (read frame 2 a)
    thrown_fits e = ⊎_elim
        (λ h. by_fits Clean h)
        (λ h. ⊎_elim (λ g. by_fits Thrown g) (λ g. by_fits InLibrary g) (or_cases (ends_by frame tests op height Thrown a) (ends_by frame tests op height InLibrary a) h))
        (or_cases (ends_by frame tests op height Clean a) (ends_by frame tests op height Thrown a || ends_by frame tests op height InLibrary a) e)

    pub fits_thrown : (way : Way) → may_end tests op way ≡ true → AllFit (exceptional_clauses way tests op height) (read frame 1 a) (read frame 2 a) → ends_thrown frame tests op height a ≡ true
    fits_thrown way ends all = by_way way
        (and_from (may_end tests op way) (whole frame (exceptional_clauses way tests op height) a) ends (fits_whole frame (exceptional_clauses way tests op height) a order (exceptional_outside way tests op height) all))
      where
        by_way : (w : Way) → ends_by frame tests op height w a ≡ true → ends_thrown frame tests op height a ≡ true
        by_way Clean h = or_left (ends_by frame tests op height Clean a) (ends_by frame tests op height Thrown a || ends_by frame tests op height InLibrary a) h
        by_way Thrown h = or_right (ends_by frame tests op height Clean a) (ends_by frame tests op height Thrown a || ends_by frame tests op height InLibrary a) (or_left (ends_by frame tests op height Thrown a) (ends_by frame tests op height InLibrary a) h)
        by_way InLibrary h = or_right (ends_by frame tests op height Clean a) (ends_by frame tests op height Thrown a || ends_by frame tests op height InLibrary a) (or_right (ends_by frame tests op height Thrown a) (ends_by frame tests op height InLibrary a) h)
