-- The clauses of all places of a frame hold exactly where those of all spots do.
use Rattle.std.proofs.Common.{◌≡◌, ℕ, zero, suc, ◌+◌, ◌-◌, ◌<◌, ◌≤◌, Bool, true, false, refl, sym, ap, ◌∙◌, subst, arith, ⊎_elim}
use Rattle.std.specs.Prelude.{◌&&◌, nat_lt, nat_eq, if◌then◌else◌, slice_index}
use Rattle.std.proofs.lemmas.Bool.{and_parts, and_from, cases_eq, lt-ltb, le-ltb, ltb-true, ltb-false, eq-eqb, ne_eqb}
use Rattle.ja_node_core.specs.Tree.{Assignment as Variables}
use Rattle.ja_work.specs.declared.clause.Spot.{Spot}
use Rattle.ja_work.specs.declared.clause.Spot.TheVariants.{Local, OnStack, Dirt, Exc}
use Rattle.ja_work.specs.declared.clause.Clause.{Clause}
use Rattle.ja_work.specs.declared.frame.Frame.{Frame}
use Rattle.ja_work.specs.Clauses.{value, fits, AllFit}
use Rattle.ja_work.specs.Orders.{IsOrder}
use Rattle.ja_work.specs.Frames.{number, size, numbered, spot_at, variable, is_inside, read, clause_function, clauses_from, whole, KeepsOutside}

-- a spot of the frame has a number of its own
numbered_is : (frame : Frame) (s : Spot) → is_inside frame s ≡ true → numbered frame (number frame s) ≡ s
numbered_is frame (Local l) e = ap (λ c. if c then Local l else (if nat_lt l (frame.locals + frame.stack) then OnStack (l - frame.locals) else (if nat_eq l (frame.locals + frame.stack) then Dirt else Exc))) e
numbered_is frame (OnStack k) e =
    let n = frame.locals + k in
    let lt : k < frame.stack = ltb-true k frame.stack e in
    let first : nat_lt n frame.locals ≡ false = le-ltb n frame.locals (omega arith) in
    let second : nat_lt n (frame.locals + frame.stack) ≡ true = lt-ltb n (frame.locals + frame.stack) (omega arith) in
    ap (λ c. if c then Local n else (if nat_lt n (frame.locals + frame.stack) then OnStack (n - frame.locals) else (if nat_eq n (frame.locals + frame.stack) then Dirt else Exc))) first
    ∙ ap (λ c. if c then OnStack (n - frame.locals) else (if nat_eq n (frame.locals + frame.stack) then Dirt else Exc)) second
    ∙ ap OnStack (omega arith)
numbered_is frame Dirt e =
    let n = frame.locals + frame.stack in
    let first : nat_lt n frame.locals ≡ false = le-ltb n frame.locals (omega arith) in
    let second : nat_lt n n ≡ false = le-ltb n n (omega arith) in
    ap (λ c. if c then Local n else (if nat_lt n n then OnStack (n - frame.locals) else (if nat_eq n n then Dirt else Exc))) first
    ∙ ap (λ c. if c then OnStack (n - frame.locals) else (if nat_eq n n then Dirt else Exc)) second
    ∙ ap (λ c. if c then Dirt else Exc) (eq-eqb n n refl)
numbered_is frame Exc e =
    let n = frame.locals + frame.stack + 1 in
    let m = frame.locals + frame.stack in
    let first : nat_lt n frame.locals ≡ false = le-ltb n frame.locals (omega arith) in
    let second : nat_lt n m ≡ false = le-ltb n m (omega arith) in
    ap (λ c. if c then Local n else (if nat_lt n m then OnStack (n - frame.locals) else (if nat_eq n m then Dirt else Exc))) first
    ∙ ap (λ c. if c then OnStack (n - frame.locals) else (if nat_eq n m then Dirt else Exc)) second
    ∙ ap (λ c. if c then Dirt else Exc) (ne_eqb n m (λ e. absurd (omega arith)))

number_within : (frame : Frame) (s : Spot) → is_inside frame s ≡ true → number frame s < size frame
number_within frame (Local l) e = let lt = ltb-true l frame.locals e in omega arith
number_within frame (OnStack k) e = let lt = ltb-true k frame.stack e in omega arith
number_within frame Dirt e = omega arith
number_within frame Exc e = omega arith

-- what a copy says of a spot of the frame, and of one outside
read_inside : (frame : Frame) (copy : ℕ) (a : Variables) (s : Spot) → is_inside frame s ≡ true → value (read frame copy a) s ≡ a (variable frame s copy)
read_inside frame copy a (Local l) e = ap (λ c. c && a (variable frame (Local l) copy)) e
read_inside frame copy a (OnStack k) e = ap (λ c. c && a (variable frame (OnStack k) copy)) e
read_inside frame copy a Dirt e = refl
read_inside frame copy a Exc e = refl

pub read_outside : (frame : Frame) (copy : ℕ) (a : Variables) (s : Spot) → is_inside frame s ≡ false → value (read frame copy a) s ≡ false
read_outside frame copy a (Local l) e = ap (λ c. c && a (variable frame (Local l) copy)) e
read_outside frame copy a (OnStack k) e = ap (λ c. c && a (variable frame (OnStack k) copy)) e
read_outside frame copy a Dirt e = absurd (cc e)
read_outside frame copy a Exc e = absurd (cc e)

module _ (frame : Frame) (clauses : Spot → Clause) (a : Variables) where
  at_place : ℕ → Bool
  at_place j = clause_function frame (clauses (spot_at frame j)) (spot_at frame j) a

  -- the clauses from a place on are those of each place
  each_of : (count place j : ℕ) → clauses_from frame clauses place count a ≡ true → place ≤ j → j < place + count → at_place j ≡ true
  unfolding at_place
  each_of zero place j e le lt = absurd (omega arith)
  each_of (suc count) place j e le lt =
      let parts = and_parts (clause_function frame (clauses (spot_at frame place)) (spot_at frame place) a) (clauses_from frame clauses (suc place) count a) e in
      ⊎_elim
      (λ same. subst (λ x. clause_function frame (clauses (spot_at frame x)) (spot_at frame x) a ≡ true) same parts.0)
      (λ other. each_of count (suc place) j parts.1 (omega arith) (omega arith))
      (cases_eq place j)

  of_each : (count place : ℕ) → ((j : ℕ) → place ≤ j → j < place + count → at_place j ≡ true) → clauses_from frame clauses place count a ≡ true
  unfolding at_place
  of_each zero place each = refl
  of_each (suc count) place each = and_from (clause_function frame (clauses (spot_at frame place)) (spot_at frame place) a) (clauses_from frame clauses (suc place) count a)
      (each place (omega arith) (omega arith)) (of_each count (suc place) (λ j le lt. each j (omega arith) (omega arith)))

  module _ (order : IsOrder (size frame) frame.places frame.slots) (outside : KeepsOutside frame clauses) where
    pub whole_fits : whole frame clauses a ≡ true → AllFit clauses (read frame 1 a) (read frame 2 a)
    unfolding at_place
    whole_fits e s = by_place (is_inside frame s) refl
      where
        by_place : (c : Bool) → is_inside frame s ≡ c → fits (clauses s) (read frame 1 a) (value (read frame 2 a) s) ≡ true
        by_place true here =
            let n = number frame s in
            let lt = number_within frame s here in
            let j = slice_index frame.places n in
            let back : spot_at frame j ≡ s = ap (numbered frame) (order.slot_of_place n lt) ∙ numbered_is frame s here in
            let at = each_of (size frame) 0 j e (omega arith) (let within = order.place_within n lt in omega arith) in
            ap (λ t. fits (clauses s) (read frame 1 a) t) (read_inside frame 2 a s here) ∙ subst (λ x. clause_function frame (clauses x) x a ≡ true) back at
        by_place false there = ap (λ t. fits (clauses s) (read frame 1 a) t) (read_outside frame 2 a s there) ∙ outside s a there

    pub fits_whole : AllFit clauses (read frame 1 a) (read frame 2 a) → whole frame clauses a ≡ true
    unfolding at_place
    fits_whole all = of_each (size frame) 0 (λ j le lt. at_spot (spot_at frame j) (inside_at j (order.slot_within j (omega arith))))
      where
        at_spot : (s : Spot) → is_inside frame s ≡ true → clause_function frame (clauses s) s a ≡ true
        at_spot s here = ap (λ t. fits (clauses s) (read frame 1 a) t) (sym (read_inside frame 2 a s here)) ∙ all s

        inside_number : (n : ℕ) → n < size frame → is_inside frame (numbered frame n) ≡ true
        inside_number n lt = by_local (nat_lt n frame.locals) refl
          where
            by_local : (c : Bool) → nat_lt n frame.locals ≡ c → is_inside frame (if c then Local n else (if nat_lt n (frame.locals + frame.stack) then OnStack (n - frame.locals) else (if nat_eq n (frame.locals + frame.stack) then Dirt else Exc))) ≡ true
            by_local true e = e
            by_local false e = by_stack (nat_lt n (frame.locals + frame.stack)) refl
              where
                by_last : (c : Bool) → is_inside frame (if c then Dirt else Exc) ≡ true
                by_last true = refl
                by_last false = refl

                by_stack : (c : Bool) → nat_lt n (frame.locals + frame.stack) ≡ c → is_inside frame (if c then OnStack (n - frame.locals) else (if nat_eq n (frame.locals + frame.stack) then Dirt else Exc)) ≡ true
                by_stack true d = let high = ltb-false n frame.locals e in let low = ltb-true n (frame.locals + frame.stack) d in lt-ltb (n - frame.locals) frame.stack (omega arith)
                by_stack false d = by_last (nat_eq n (frame.locals + frame.stack))

        inside_at : (j : ℕ) → slice_index frame.slots j < size frame → is_inside frame (spot_at frame j) ≡ true
        inside_at j lt = inside_number (slice_index frame.slots j) lt
