-- The clauses of the ends of an operation look at spots of a frame alone that has room for it.
use Rattle.std.proofs.Common.{◌≡◌, ℕ, ◌+◌, ◌-◌, ◌<◌, ◌≤◌, Bool, true, false, refl, subst, arith, List, length, Some, None}
use Rattle.std.specs.Prelude.{nat_lt, nat_eq, min, if◌then◌else◌, slice_index, All, Option}
use Rattle.std.proofs.lemmas.Bool.{false≢true, ltb-true, ltb-false, lt-ltb}
use Rattle.std.proofs.Math.Nat.{min-le_right}
use Rattle.ja_base.specs.declared.java_type.Kind.{Kind}
use Rattle.ja_base.specs.declared.java_type.Kind.TheVariants.{R}
use Rattle.ja_base.specs.declared.java_type.JavaType.{JavaType}
use Rattle.ja_ir.specs.declared.row.RowFlow.{RowFlow}
use Rattle.ja_ir.specs.declared.row.RowFlow.TheVariants.{Always, Never, Args}
use Rattle.ja_ir.specs.declared.row.RowEffect.{RowEffect}
use Rattle.ja_ir.specs.declared.row.RowEffect.TheVariants.{Quiet, Absorb, Blend}
use Rattle.ja_ir.specs.declared.row.RowResult.{RowResult}
use Rattle.ja_ir.specs.declared.row.RowResult.TheVariants.{Fresh, Argument, Member, Any}
use Rattle.ja_ir.specs.declared.op.CallOp.{CallOp}
use Rattle.ja_ir.specs.declared.op.Op.{Op}
use Rattle.ja_ir.specs.declared.op.Op.TheVariants.{Load, Store, ArrLoad, ArrStore, Shuffle, Mix, GetStatic, PutField, GetField, Call, Throw, Cast}
use Rattle.ja_ir.specs.Operations.{arguments, pops, pushes, height_after, FindsOperands, UsesLocals}
use Rattle.ja_facts.specs.Slots.{Slot, Local as InLocal, OnStack as InStack}
use Rattle.ja_work.specs.declared.clause.Spot.{Spot}
use Rattle.ja_work.specs.declared.clause.Spot.TheVariants.{Local, OnStack, Dirt, Exc}
use Rattle.ja_work.specs.declared.frame.Frame.{Frame}
use Rattle.ja_work.specs.declared.way.Way.{Way}
use Rattle.ja_work.specs.declared.way.Way.TheVariants.{Clean, Thrown, InLibrary}
use Rattle.ja_work.specs.Clauses.{spot_of, never, moved, at_most}
use Rattle.ja_work.specs.Ends.{Tests, is_always, deciding, by_flow, taking, meets_by, changed, local_after, member_count, answer_by, answer_of, answer, pushed, stacked_after, dirt_by, dirt_after, normal_clauses, may_end, library_local, library_exc, exceptional_clauses}
use Rattle.ja_work.specs.Frames.{is_inside}
use Rattle.ja_work.specs.Thrown.{HasRoom}
use Rattle.ja_work.proofs.NormalEnds.{takes}
use Rattle.ja_formula.specs.declared.rule.End.{End}
use Rattle.ja_formula.specs.declared.rule.End.TheVariants.{Normal, Exceptional}
use Rattle.ja_formula.specs.Inner.{LooksWithin, AllLookWithin, clauses_by, has_end}

-- no more arguments decide than there are
deciding_few : (flow : RowFlow) (count : ℕ) → deciding flow count ≤ count
deciding_few Always count = omega arith
deciding_few Never count = omega arith
deciding_few Args count = omega arith

member_few : (flow : RowFlow) (count : ℕ) → member_count flow count ≤ count
member_few Always count = omega arith
member_few Never count = min-le_right 1 count
member_few Args count = omega arith

module _ (frame : Frame) where
  -- clauses of one spot and some values on the stack, and of such values alone
  with_spot : (exact always : Bool) (s : Spot) (first count : ℕ) → is_inside frame s ≡ true → first + count ≤ frame.stack → LooksWithin frame (record { exact = exact; always = always; one = Some s; first = first; count = count })
  with_spot exact always s first count e le = record { one = λ r same. let is : s ≡ r = cc same in subst (λ x. is_inside frame x ≡ true) is e; stacked = le }

  of_stack : (exact always : Bool) (first count : ℕ) → first + count ≤ frame.stack → LooksWithin frame (record { exact = exact; always = always; one = None; first = first; count = count })
  of_stack exact always first count le = record { one = λ r same. absurd (cc same); stacked = le }

  never_within : LooksWithin frame never
  never_within = of_stack true false 0 0 (omega arith)

  moved_within : (s : Spot) → is_inside frame s ≡ true → LooksWithin frame (moved s)
  moved_within s e = with_spot true false s 0 0 e (omega arith)

  at_most_within : (s : Spot) → is_inside frame s ≡ true → LooksWithin frame (at_most s)
  at_most_within s e = with_spot false false s 0 0 e (omega arith)

  -- a value on the stack is a spot of the frame
  stacked_inside : (k : ℕ) → k < frame.stack → is_inside frame (OnStack k) ≡ true
  stacked_inside k lt = lt-ltb k frame.stack lt

  -- clauses of a library call whose arguments lie below a height of the frame
  module _ (call : CallOp) (under : ℕ) (le : under + arguments call ≤ frame.stack) where
    flow_within : LooksWithin frame (by_flow call under)
    flow_within = of_stack false (is_always call.row.flow) under (deciding call.row.flow (arguments call)) (let few = deciding_few call.row.flow (arguments call) in omega (arith, few))

    taking_within : (exact : Bool) (s : Spot) → is_inside frame s ≡ true → LooksWithin frame (taking exact call under s)
    taking_within exact s e = with_spot exact (is_always call.row.flow) s under (arguments call) e le

    all_within : (always : Bool) → LooksWithin frame (record { exact = false; always = always; one = None; first = under; count = arguments call })
    all_within always = of_stack false always under (arguments call) le

    answer_within : (result : RowResult) (effect : RowEffect) → LooksWithin frame (answer_by result effect call under)
    answer_within Fresh effect = flow_within
    answer_within Argument Quiet = of_stack false false under (min 1 (arguments call)) (let few = min-le_right 1 (arguments call) in omega (arith, few))
    answer_within Argument Absorb = all_within (is_always call.row.flow)
    answer_within Argument Blend = all_within (is_always call.row.flow)
    answer_within Member Quiet = of_stack false (is_always call.row.flow) under (member_count call.row.flow (arguments call)) (let few = member_few call.row.flow (arguments call) in omega (arith, few))
    answer_within Member Absorb = all_within (is_always call.row.flow)
    answer_within Member Blend = all_within (is_always call.row.flow)
    answer_within Any effect = all_within (is_always call.row.flow)

    kind_within : (kind : Kind) → LooksWithin frame (answer_of kind call under)
    kind_within R = answer_within call.row.result call.row.effect
    kind_within _ = flow_within

    result_within : (result : Option JavaType) → LooksWithin frame (answer result call under)
    result_within None = never_within
    result_within (Some type) = kind_within type.kind

    dirty_within : (effect : RowEffect) → LooksWithin frame (dirt_by effect call under)
    dirty_within Quiet = moved_within Dirt refl
    dirty_within Absorb = taking_within true Dirt refl
    dirty_within Blend = taking_within true Dirt refl

  -- a slot that an operation leaves where it is
  changed_within : (tests : Tests) (op : Op) (height : ℕ) (y : Slot) → is_inside frame (spot_of y) ≡ true → pops op ≤ height → height ≤ frame.stack → LooksWithin frame (changed tests op height y)
  changed_within tests op height y e pop room = go op pop
    where
      write : (reaches : Bool) → 1 ≤ height → LooksWithin frame (if reaches then (record { exact = false; always = false; one = Some (spot_of y); first = height - 1; count = 1 }) else moved (spot_of y))
      write true le = with_spot false false (spot_of y) (height - 1) 1 e (omega arith)
      write false le = moved_within (spot_of y) e

      take : (call : CallOp) (meets : Bool) → arguments call ≤ height → LooksWithin frame (if meets then taking false call (height - arguments call) (spot_of y) else moved (spot_of y))
      take call true le = taking_within call (height - arguments call) (omega arith) false (spot_of y) e
      take call false le = moved_within (spot_of y) e

      go : (o : Op) → pops o ≤ height → LooksWithin frame (changed tests o height y)
      go (PutField f) le = write (tests.reaches y (InStack (height - 2))) (omega arith)
      go (ArrStore kind) le = write (tests.reaches y (InStack (height - 3))) (omega arith)
      go (Call call) le = take call (meets_by call.row.effect tests call (height - arguments call) y) le
      go _ le = moved_within (spot_of y) e

  -- a local after an operation
  local_within : (tests : Tests) (op : Op) (height l : ℕ) → is_inside frame (Local l) ≡ true → pops op ≤ height → height ≤ frame.stack → LooksWithin frame (local_after tests op height l)
  local_within tests op height l e pop room = go op pop
    where
      store : (same : Bool) → 1 ≤ height → LooksWithin frame (if same then moved (OnStack (height - 1)) else moved (Local l))
      store true le = moved_within (OnStack (height - 1)) (stacked_inside (height - 1) (omega arith))
      store false le = moved_within (Local l) e

      go : (o : Op) → pops o ≤ height → LooksWithin frame (local_after tests o height l)
      go (Store kind local) le = store (nat_eq l local) le
      go o le = changed_within tests o height (InLocal l) e le room

  -- what a shuffle pushes is what it popped
  shuffled_within : (n height j : ℕ) (values : List ℕ) → n ≤ height → All (λ k. k < n) values → j < length values → height ≤ frame.stack → LooksWithin frame (moved (OnStack (height - n + slice_index values j)))
  shuffled_within n height j values le all lt room =
      let below : slice_index values j < n = all j 0 lt in
      moved_within (OnStack (height - n + slice_index values j)) (stacked_inside (height - n + slice_index values j) (omega (arith, below)))

  -- a value that an operation pushes
  pushed_within : (op : Op) (height j : ℕ) → FindsOperands op height → UsesLocals op frame.locals → height ≤ frame.stack → j < pushes op → LooksWithin frame (pushed op height j)
  pushed_within (Load kind l) height j finds uses room lt = moved_within (Local l) (lt-ltb l frame.locals uses)
  pushed_within (Shuffle n values) height j finds uses room lt = shuffled_within n height j values finds.0 finds.1 lt room
  pushed_within (Cast target) height j finds uses room lt = moved_within (OnStack (height - 1)) (stacked_inside (height - 1) (omega arith))
  pushed_within (Mix n kind throws) height j finds uses room lt = of_stack true false (height - n) n (omega arith)
  pushed_within (GetField f) height j finds uses room lt = at_most_within (OnStack (height - 1)) (stacked_inside (height - 1) (omega arith))
  pushed_within (ArrLoad kind) height j finds uses room lt = at_most_within (OnStack (height - 2)) (stacked_inside (height - 2) (omega arith))
  pushed_within (GetStatic f) height j finds uses room lt = of_stack false true 0 0 (omega arith)
  pushed_within (Call call) height j finds uses room lt = result_within call (height - arguments call) (omega arith) call.result
  pushed_within _ height j finds uses room lt = never_within

  -- whether something tainted was stored
  stored_within : (op : Op) (height : ℕ) → pops op ≤ height → height ≤ frame.stack → LooksWithin frame (dirt_after op height)
  stored_within (PutField f) height pop room = with_spot true false Dirt (height - 1) 1 refl (omega arith)
  stored_within (ArrStore kind) height pop room = with_spot true false Dirt (height - 1) 1 refl (omega arith)
  stored_within (Call call) height pop room = dirty_within call (height - arguments call) (omega arith) call.row.effect
  stored_within _ height pop room = moved_within Dirt refl

  module _ (tests : Tests) (op : Op) (height : ℕ) (finds : FindsOperands op height) (room : HasRoom frame op height) where
    normal_within : AllLookWithin frame (normal_clauses tests op height)
    normal_within (Local l) e = local_within tests op height l e (takes op height finds) room.before
    normal_within (OnStack k) e = by_place (nat_lt k (height - pops op)) (nat_lt k (height_after op height)) refl refl
      where
        by_place : (left top : Bool) → nat_lt k (height - pops op) ≡ left → nat_lt k (height_after op height) ≡ top → LooksWithin frame (stacked_after left top tests op height k)
        by_place true top is_left is_top = changed_within tests op height (InStack k) e (takes op height finds) room.before
        by_place false true is_left is_top =
            let low = ltb-false k (height - pops op) is_left in
            let lt = ltb-true k (height_after op height) is_top in
            pushed_within op height (k - (height - pops op)) finds room.locals room.before (omega (arith, low, lt))
        by_place false false is_left is_top = never_within
    normal_within Dirt e = stored_within op height (takes op height finds) room.before
    normal_within Exc e = moved_within Exc refl

    -- what is thrown lies on the stack
    value_within : may_end tests op Thrown ≡ true → LooksWithin frame (moved (OnStack (height - 1)))
    value_within ends = go op finds ends
      where
        go : (o : Op) → FindsOperands o height → may_end tests o Thrown ≡ true → LooksWithin frame (moved (OnStack (height - 1)))
        go Throw le is = moved_within (OnStack (height - 1)) (stacked_inside (height - 1) (let before = room.before in omega (arith, le, before)))
        go _ le is = absurd (false≢true is)

    library_local_within : (l : ℕ) → is_inside frame (Local l) ≡ true → LooksWithin frame (library_local tests op height l)
    library_local_within l e = go op (takes op height finds)
      where
        go : (o : Op) → pops o ≤ height → LooksWithin frame (library_local tests o height l)
        go (Call call) le = changed_within tests (Call call) height (InLocal l) e le room.before
        go _ le = moved_within (Local l) e

    library_exc_within : LooksWithin frame (library_exc op height)
    library_exc_within = go op (takes op height finds)
      where
        go : (o : Op) → pops o ≤ height → LooksWithin frame (library_exc o height)
        go (Call call) le = flow_within call (height - arguments call) (let before = room.before in omega (arith, le, before))
        go _ le = never_within

    exceptional_within : (way : Way) → may_end tests op way ≡ true → AllLookWithin frame (exceptional_clauses way tests op height)
    exceptional_within Clean ends (Local l) e = moved_within (Local l) e
    exceptional_within Clean ends (OnStack k) e = never_within
    exceptional_within Clean ends Dirt e = moved_within Dirt refl
    exceptional_within Clean ends Exc e = never_within
    exceptional_within Thrown ends (Local l) e = moved_within (Local l) e
    exceptional_within Thrown ends (OnStack k) e = never_within
    exceptional_within Thrown ends Dirt e = moved_within Dirt refl
    exceptional_within Thrown ends Exc e = value_within ends
    exceptional_within InLibrary ends (Local l) e = library_local_within l e
    exceptional_within InLibrary ends (OnStack k) e = never_within
    exceptional_within InLibrary ends Dirt e = stored_within op height (takes op height finds) room.before
    exceptional_within InLibrary ends Exc e = library_exc_within

    -- the clauses of an end that the operation has
    pub end_within : (end : End) → has_end tests op end ≡ true → AllLookWithin frame (clauses_by end tests op height)
    end_within Normal there = normal_within
    end_within (Exceptional way) there = exceptional_within way there
