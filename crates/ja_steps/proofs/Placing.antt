-- The spots of a frame by their places.
use Rattle.std.proofs.Common.{◌≡◌, ℕ, ◌+◌, ◌-◌, ◌*◌, ◌<◌, Bool, true, false, refl, sym, ap, ◌∙◌, arith}
use Rattle.std.specs.Prelude.{◌&&◌, nat_lt, nat_eq, if◌then◌else◌, slice_index}
use Rattle.std.proofs.Math.Logic.{∥∥₁_elim}
use Rattle.std.proofs.Math.Nat.{ℕ_set}
use Rattle.std.proofs.Math.Bridge.{le_prop}
use Rattle.std.proofs.lemmas.Bool.{lt-ltb, le-ltb, ltb-true, ltb-false, eq-eqb, ne_eqb, eqb-true, eqb-false}
use Rattle.ja_node_core.specs.Tree.{Assignment as Variables}
use Rattle.ja_work.specs.declared.clause.Spot.{Spot}
use Rattle.ja_work.specs.declared.clause.Spot.TheVariants.{Local, OnStack, Dirt, Exc}
use Rattle.ja_work.specs.declared.frame.Frame.{Frame}
use Rattle.ja_work.specs.Clauses.{value}
use Rattle.ja_work.specs.Orders.{IsOrder}
use Rattle.ja_work.specs.Frames.{number, size, numbered, spot_at, variable, is_inside, read}

-- that a frame's slots are in an order is a fact of at most one proof
pub frame_order : (frame : Frame) → IsOrder (size frame) frame.places frame.slots
frame_order frame = ∥∥₁_elim frame.order (hlevel (ℕ_set, le_prop)) (λ (o : IsOrder (size frame) frame.places frame.slots). o)

module _ (frame : Frame) where
  -- a number below the size is that of a spot of the frame
  inside_number : (n : ℕ) → n < size frame → (is_inside frame (numbered frame n) ≡ true) × (number frame (numbered frame n) ≡ n)
  inside_number n lt = by_local (nat_lt n frame.locals) refl
    where
      by_local : (c : Bool) → nat_lt n frame.locals ≡ c
          → (is_inside frame (if c then Local n else (if nat_lt n (frame.locals + frame.stack) then OnStack (n - frame.locals) else (if nat_eq n (frame.locals + frame.stack) then Dirt else Exc))) ≡ true)
          × (number frame (if c then Local n else (if nat_lt n (frame.locals + frame.stack) then OnStack (n - frame.locals) else (if nat_eq n (frame.locals + frame.stack) then Dirt else Exc))) ≡ n)
      by_local true e = (e, refl)
      by_local false e = by_stack (nat_lt n (frame.locals + frame.stack)) refl
        where
          by_last : (c : Bool) → nat_eq n (frame.locals + frame.stack) ≡ c → nat_lt n (frame.locals + frame.stack) ≡ false → (is_inside frame (if c then Dirt else Exc) ≡ true) × (number frame (if c then Dirt else Exc) ≡ n)
          by_last true f d = (refl, sym (eqb-true n (frame.locals + frame.stack) f))
          by_last false f d = let ne = eqb-false n (frame.locals + frame.stack) f in let ge = ltb-false n (frame.locals + frame.stack) d in (refl, omega (arith, ne, ge, lt))

          by_stack : (c : Bool) → nat_lt n (frame.locals + frame.stack) ≡ c
              → (is_inside frame (if c then OnStack (n - frame.locals) else (if nat_eq n (frame.locals + frame.stack) then Dirt else Exc)) ≡ true)
              × (number frame (if c then OnStack (n - frame.locals) else (if nat_eq n (frame.locals + frame.stack) then Dirt else Exc)) ≡ n)
          by_stack true d = let high = ltb-false n frame.locals e in let low = ltb-true n (frame.locals + frame.stack) d in (lt-ltb (n - frame.locals) frame.stack (omega (arith, high, low)), omega (arith, high))
          by_stack false d = by_last (nat_eq n (frame.locals + frame.stack)) refl d

  -- the spot at a place is one of the frame, with that place
  pub inside_at : (j : ℕ) → j < size frame → is_inside frame (spot_at frame j) ≡ true
  inside_at j lt = (inside_number (slice_index frame.slots j) ((frame_order frame).slot_within j lt)).0

  pub place_at : (j : ℕ) → j < size frame → slice_index frame.places (number frame (spot_at frame j)) ≡ j
  place_at j lt = ap (slice_index frame.places) (inside_number (slice_index frame.slots j) ((frame_order frame).slot_within j lt)).1 ∙ (frame_order frame).place_of_slot j lt

  number_within : (s : Spot) → is_inside frame s ≡ true → number frame s < size frame
  number_within (Local l) e = let lt = ltb-true l frame.locals e in omega (arith, lt)
  number_within (OnStack k) e = let lt = ltb-true k frame.stack e in omega (arith, lt)
  number_within Dirt e = omega arith
  number_within Exc e = omega arith

  numbered_is : (s : Spot) → is_inside frame s ≡ true → numbered frame (number frame s) ≡ s
  numbered_is (Local l) e = ap (λ c. if c then Local l else (if nat_lt l (frame.locals + frame.stack) then OnStack (l - frame.locals) else (if nat_eq l (frame.locals + frame.stack) then Dirt else Exc))) e
  numbered_is (OnStack k) e =
      let n = frame.locals + k in
      let lt : k < frame.stack = ltb-true k frame.stack e in
      ap (λ c. if c then Local n else (if nat_lt n (frame.locals + frame.stack) then OnStack (n - frame.locals) else (if nat_eq n (frame.locals + frame.stack) then Dirt else Exc))) (le-ltb n frame.locals (omega arith))
      ∙ ap (λ c. if c then OnStack (n - frame.locals) else (if nat_eq n (frame.locals + frame.stack) then Dirt else Exc)) (lt-ltb n (frame.locals + frame.stack) (omega (arith, lt)))
      ∙ ap OnStack (omega arith)
  numbered_is Dirt e =
      let n = frame.locals + frame.stack in
      ap (λ c. if c then Local n else (if nat_lt n n then OnStack (n - frame.locals) else (if nat_eq n n then Dirt else Exc))) (le-ltb n frame.locals (omega arith))
      ∙ ap (λ c. if c then OnStack (n - frame.locals) else (if nat_eq n n then Dirt else Exc)) (le-ltb n n (omega arith))
      ∙ ap (λ c. if c then Dirt else Exc) (eq-eqb n n refl)
  numbered_is Exc e =
      let n = frame.locals + frame.stack + 1 in
      let m = frame.locals + frame.stack in
      ap (λ c. if c then Local n else (if nat_lt n m then OnStack (n - frame.locals) else (if nat_eq n m then Dirt else Exc))) (le-ltb n frame.locals (omega arith))
      ∙ ap (λ c. if c then OnStack (n - frame.locals) else (if nat_eq n m then Dirt else Exc)) (le-ltb n m (omega arith))
      ∙ ap (λ c. if c then Dirt else Exc) (ne_eqb n m (λ e. absurd (omega (arith, e))))

  -- a spot of the frame stands at its place
  pub place_within : (s : Spot) → is_inside frame s ≡ true → slice_index frame.places (number frame s) < size frame
  place_within s e = (frame_order frame).place_within (number frame s) (number_within s e)

  pub spot_back : (s : Spot) → is_inside frame s ≡ true → spot_at frame (slice_index frame.places (number frame s)) ≡ s
  spot_back s e = ap (numbered frame) ((frame_order frame).slot_of_place (number frame s) (number_within s e)) ∙ numbered_is s e

  -- what a copy says of a spot of the frame
  pub read_inside : (copy : ℕ) (a : Variables) (s : Spot) → is_inside frame s ≡ true → value (read frame copy a) s ≡ a (variable frame s copy)
  read_inside copy a (Local l) e = ap (λ c. c && a (variable frame (Local l) copy)) e
  read_inside copy a (OnStack k) e = ap (λ c. c && a (variable frame (OnStack k) copy)) e
  read_inside copy a Dirt e = refl
  read_inside copy a Exc e = refl

  -- at a place
  pub value_at : (a : Variables) (j : ℕ) → j < size frame → value (read frame 1 a) (spot_at frame j) ≡ a (4 * j + 1)
  value_at a j lt = read_inside 1 a (spot_at frame j) (inside_at j lt) ∙ ap (λ x. a (4 * x + 1)) (place_at j lt)
