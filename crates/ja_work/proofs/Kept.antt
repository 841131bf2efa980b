-- A slot that an operation leaves where it is: what its clause says is what the definition of the end says.
use Rattle.std.proofs.Common.{◌≡◌, ℕ, suc, ◌-◌, ◌<◌, ◌≤◌, Bool, true, false, refl, sym, ap, ◌∙◌, subst, arith}
use Rattle.std.specs.Prelude.{◌||◌, if◌then◌else◌, Some}
use Rattle.std.proofs.lemmas.Bool.{or_left, and_parts, and_from, false≢true}
use Rattle.ja_ir.specs.declared.row.RowFlow.{RowFlow}
use Rattle.ja_ir.specs.declared.row.RowFlow.TheVariants.{Always, Never, Args}
use Rattle.ja_ir.specs.declared.row.RowEffect.{RowEffect}
use Rattle.ja_ir.specs.declared.row.RowEffect.TheVariants.{Quiet, Absorb, Blend}
use Rattle.ja_ir.specs.declared.op.CallOp.{CallOp}
use Rattle.ja_ir.specs.declared.op.Op.{Op}
use Rattle.ja_ir.specs.declared.op.Op.TheVariants.{ArrStore, PutField, Call}
use Rattle.ja_ir.specs.Operations.{arguments, count_of, has_receiver, pops}
use Rattle.ja_facts.specs.Slots.{Slot, OnStack as InStack, Copies, argument}
use Rattle.ja_facts.specs.ClassSets.{IsSource}
use Rattle.ja_facts.specs.Sharing.{OfSlot, Writes, writes_field, writes_element}
use Rattle.ja_facts.specs.Reaching.{ReachAt}
use Rattle.ja_facts.specs.Analyses.{Analyses}
use Rattle.ja_facts.specs.Formulas.{Assignment, Implies, any_stacked, flow_by, put_in, MeetsSource, Turns, copied, written, absorbed}
use Rattle.ja_work.specs.Clauses.{value, spot_of, bound, fits, moved}
use Rattle.ja_work.specs.Ends.{Tests, AreTests, meets_by, is_always, taking, changed}
use Rattle.ja_work.proofs.Fitting.{implied_fits, fits_implied, moved_fits, fits_moved, any_one, value_spot, any_some, some_any}

-- what a row puts in is always there, or an argument
pub put_is : (flow : RowFlow) (any : Bool) → (flow_by flow any || any) ≡ (is_always flow || any)
put_is Always any = refl
put_is Never any = refl
put_is Args true = refl
put_is Args false = refl

-- a value or one more, with what is always there first
pub or_moved : (f y a : Bool) → (f || (y || a)) ≡ (y || (f || a))
or_moved true true a = refl
or_moved true false a = refl
or_moved false y a = refl

-- a slot may become true by a write where its clause says so
pub write_bound : (b : Assignment) (y : Slot) (v : ℕ) → (value b (spot_of y) || any_stacked b v 1) ≡ (b.slot y || b.slot (InStack v))
write_bound b y v = ap (λ p. p || any_stacked b v 1) (value_spot b y) ∙ ap (λ p. b.slot y || p) (any_one b v)

pub take_bound : (b : Assignment) (call : CallOp) (under : ℕ) (y : Slot) → bound (taking false call under (spot_of y)) b ≡ (b.slot y || put_in b call under)
take_bound b call under y =
    let any = any_stacked b under (arguments call) in
    ap (λ p. is_always call.row.flow || (p || any)) (value_spot b y)
    ∙ or_moved (is_always call.row.flow) (b.slot y) any
    ∙ ap (λ p. b.slot y || p) (sym (put_is call.row.flow any))

-- the number of arguments is at least one where there is a receiver
pub receiver_counts : (call : CallOp) → has_receiver call.kind ≡ true → 0 < arguments call
receiver_counts call e = let one : count_of (has_receiver call.kind) ≡ 1 = ap count_of e in omega arith

module _ (A : Analyses) (m i : ℕ) (tests : Tests) (told : AreTests A m i tests) where
  -- the test that a slot shares with a source is what it is named for
  pub meets_source : (call : CallOp) (under : ℕ) (y : Slot) → meets_by call.row.effect tests call under y ≡ true → MeetsSource A m i call under y
  meets_source call under y = by_effect call.row.effect refl
    where
      by_effect : (e : RowEffect) → call.row.effect ≡ e → meets_by e tests call under y ≡ true → MeetsSource A m i call under y
      by_effect Quiet is meets = absurd (false≢true meets)
      by_effect Absorb is meets =
          let parts = and_parts (has_receiver call.kind) (tests.shares y (argument under 0)) meets in
          record { x = 0; source = subst (IsSource call 0) (sym is) (parts.0, refl); pair = (told.shares y (argument under 0)).0 parts.1 }
      by_effect Blend is meets =
          let r = any_some (λ k. tests.shares y (argument under k)) (arguments call) meets in
          record { x = r.0; source = subst (IsSource call r.0) (sym is) r.1; pair = (told.shares y (argument under r.0)).0 r.2 }

  pub source_meets : (call : CallOp) (under : ℕ) (y : Slot) → MeetsSource A m i call under y → meets_by call.row.effect tests call under y ≡ true
  source_meets call under y s = by_effect call.row.effect s.source
    where
      shares : (k : ℕ) → s.x ≡ k → tests.shares y (argument under k) ≡ true
      shares k e = subst (λ j. tests.shares y (argument under j) ≡ true) e ((told.shares y (argument under s.x)).1 s.pair)

      by_effect : (e : RowEffect) → IsSource call s.x e → meets_by e tests call under y ≡ true
      by_effect Quiet none = absurd none
      by_effect Absorb is = and_from (has_receiver call.kind) (tests.shares y (argument under 0)) is.0 (shares 0 is.1)
      by_effect Blend is = some_any (λ k. tests.shares y (argument under k)) (arguments call) s.x is (shares s.x refl)

  module _ (b : Assignment) where
    -- a slot that keeps its truth fits its clause
    pub keeps_fit : (op : Op) (height : ℕ) (y : Slot) → fits (changed tests op height y) b (b.slot y) ≡ true
    keeps_fit op height y = go op
      where
        still : fits (moved (spot_of y)) b (b.slot y) ≡ true
        still = moved_fits b (spot_of y) (b.slot y) (sym (value_spot b y))

        write : (reaches : Bool) → fits (if reaches then (record { exact = false; always = false; one = Some (spot_of y); first = height - 1; count = 1 }) else moved (spot_of y)) b (b.slot y) ≡ true
        write true = implied_fits (value b (spot_of y) || any_stacked b (height - 1) 1) (b.slot y) (λ e. or_left (value b (spot_of y)) (any_stacked b (height - 1) 1) (value_spot b y ∙ e))
        write false = still

        take : (call : CallOp) (meets : Bool) → fits (if meets then taking false call (height - arguments call) (spot_of y) else moved (spot_of y)) b (b.slot y) ≡ true
        take call true = implied_fits (bound (taking false call (height - arguments call) (spot_of y)) b) (b.slot y)
            (λ e. take_bound b call (height - arguments call) y ∙ or_left (b.slot y) (put_in b call (height - arguments call)) e)
        take call false = still

        go : (o : Op) → fits (changed tests o height y) b (b.slot y) ≡ true
        go (PutField f) = write (tests.reaches y (InStack (height - 2)))
        go (ArrStore kind) = write (tests.reaches y (InStack (height - 3)))
        go (Call call) = take call (meets_by call.row.effect tests call (height - arguments call) y)
        go _ = still

    -- one that is written, or that takes what a library call puts in, fits it too
    pub written_fits : (height : ℕ) (y : Slot) (t : Bool) (x v : ℕ) → (height - 1) ≡ v → tests.reaches y (InStack x) ≡ true → Implies t (b.slot y || b.slot (InStack v))
        → fits (if tests.reaches y (InStack x) then (record { exact = false; always = false; one = Some (spot_of y); first = height - 1; count = 1 }) else moved (spot_of y)) b t ≡ true
    written_fits height y t x v at reaches i =
        subst (λ r. fits (if r then (record { exact = false; always = false; one = Some (spot_of y); first = height - 1; count = 1 }) else moved (spot_of y)) b t ≡ true) (sym reaches)
        (implied_fits (value b (spot_of y) || any_stacked b (height - 1) 1) t (λ e. ap (λ j. value b (spot_of y) || any_stacked b j 1) at ∙ write_bound b y v ∙ i e))

    pub absorbed_fits : (call : CallOp) (height : ℕ) (y : Slot) (t : Bool) → MeetsSource A m i call (height - arguments call) y → Implies t (b.slot y || put_in b call (height - arguments call))
        → fits (changed tests (Call call) height y) b t ≡ true
    absorbed_fits call height y t meets i =
        subst (λ r. fits (if r then taking false call (height - arguments call) (spot_of y) else moved (spot_of y)) b t ≡ true) (sym (source_meets call (height - arguments call) y meets))
        (implied_fits (bound (taking false call (height - arguments call) (spot_of y)) b) t (λ e. take_bound b call (height - arguments call) y ∙ i e))

    -- what the clause of a slot that stays allows, the definition does
    pub fit_turns : (op : Op) (height : ℕ) (y : Slot) (t : Bool) → pops op ≤ height → Copies op height y y → fits (changed tests op height y) b t ≡ true → Turns A m i b op height y t
    fit_turns op height y t finds copy f = go op finds copy f
      where
        same : (o : Op) → Copies o height y y → fits (moved (spot_of y)) b t ≡ true → Turns A m i b o height y t
        same o c g = subst (Turns A m i b o height y) (sym (fits_moved b (spot_of y) t g ∙ value_spot b y)) (copied c)

        write : (o : Op) (x v : ℕ) → Writes o height (InStack x) (InStack v) → (height - 1) ≡ v → Copies o height y y → (reaches : Bool) → (reaches ≡ true → A.reach (ReachAt m i (OfSlot y) (InStack x)))
            → fits (if reaches then (record { exact = false; always = false; one = Some (spot_of y); first = height - 1; count = 1 }) else moved (spot_of y)) b t ≡ true → Turns A m i b o height y t
        write o x v w at c true is g = written w c (is refl)
            (λ e. sym (write_bound b y v) ∙ ap (λ j. value b (spot_of y) || any_stacked b j 1) (sym at) ∙ fits_implied (value b (spot_of y) || any_stacked b (height - 1) 1) t g e)
        write o x v w at c false is g = same o c g

        take : (call : CallOp) → arguments call ≤ height → Copies (Call call) height y y → (meets : Bool) → (meets ≡ true → MeetsSource A m i call (height - arguments call) y)
            → fits (if meets then taking false call (height - arguments call) (spot_of y) else moved (spot_of y)) b t ≡ true → Turns A m i b (Call call) height y t
        take call le c true is g = absorbed (height - arguments call) (omega arith) c (is refl)
            (λ e. sym (take_bound b call (height - arguments call) y) ∙ fits_implied (bound (taking false call (height - arguments call) (spot_of y)) b) t g e)
        take call le c false is g = same (Call call) c g

        go : (o : Op) → pops o ≤ height → Copies o height y y → fits (changed tests o height y) b t ≡ true → Turns A m i b o height y t
        go (PutField f) le c g = write (PutField f) (height - 2) (suc (height - 2)) (writes_field (omega arith)) (omega arith) c (tests.reaches y (InStack (height - 2))) (told.reaches y (InStack (height - 2))).0 g
        go (ArrStore kind) le c g = write (ArrStore kind) (height - 3) (suc (suc (height - 3))) (writes_element (omega arith)) (omega arith) c (tests.reaches y (InStack (height - 3))) (told.reaches y (InStack (height - 3))).0 g
        go (Call call) le c g = take call le c (meets_by call.row.effect tests call (height - arguments call) y) (meets_source call (height - arguments call) y) g
        go o le c g = same o c g
