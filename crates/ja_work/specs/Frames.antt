-- The variables of a frame, and what they say.
use Rattle.std.specs.Prelude.{◌≡◌, ℕ, ◌+◌, ◌-◌, ◌*◌, ◌&&◌, nat_lt, nat_eq, Bool, true, false, zero, suc, slice_index, if◌then◌else◌}
use Rattle.ja_node_core.specs.Tree.{Assignment as Variables}
use Rattle.ja_bdd.specs.Functions.{Function}
use Rattle.ja_facts.specs.Formulas.{Assignment}
use Rattle.ja_work.specs.declared.clause.Spot.{Spot}
use Rattle.ja_work.specs.declared.clause.Spot.TheVariants.{Local, OnStack, Dirt, Exc}
use Rattle.ja_work.specs.declared.clause.Clause.{Clause}
use Rattle.ja_work.specs.declared.frame.Frame.{Frame}
use Rattle.ja_work.specs.Clauses.{spot_of, fits}

-- the number of a spot among the slots of the frame
abbrev pub number : Frame → Spot → ℕ
number frame (Local l) = l
number frame (OnStack k) = frame.locals + k
number frame Dirt = frame.locals + frame.stack
number frame Exc = frame.locals + frame.stack + 1

-- how many slots the frame has
abbrev pub size : Frame → ℕ
size frame = frame.locals + frame.stack + 2

-- the spot of a number
abbrev pub numbered : Frame → ℕ → Spot
numbered frame n =
    if nat_lt n frame.locals then Local n
    else (if nat_lt n (frame.locals + frame.stack) then OnStack (n - frame.locals) else (if nat_eq n (frame.locals + frame.stack) then Dirt else Exc))

-- the spot that stands at a place
abbrev pub spot_at : Frame → ℕ → Spot
spot_at frame j = numbered frame (slice_index frame.slots j)

-- the variable of a spot in a copy: 0 at the entry of the method, 1 at present, 2 next, 3 of a callee
abbrev pub variable : Frame → Spot → (copy : ℕ) → ℕ
variable frame s copy = 4 * slice_index frame.places (number frame s) + copy

-- the spot is one of the frame
abbrev pub is_inside : Frame → Spot → Bool
is_inside frame (Local l) = nat_lt l frame.locals
is_inside frame (OnStack k) = nat_lt k frame.stack
is_inside frame Dirt = true
is_inside frame Exc = true

-- the assignment of the frame that the variables of a copy say; outside the frame nothing is true
abbrev pub read : Frame → (copy : ℕ) → Variables → Assignment
read frame copy a = record {
  slot = λ z. is_inside frame (spot_of z) && a (variable frame (spot_of z) copy);
  dirt = a (variable frame Dirt copy);
  exc = a (variable frame Exc copy);
}

-- a clause as a function of the variables: of its spot next, by the assignment at present
abbrev pub clause_function : Frame → Clause → Spot → Function
clause_function frame clause s a = fits clause (read frame 1 a) (a (variable frame s 2))

-- the clauses of the spots at so many places from a place on
abbrev pub clauses_from : Frame → (Spot → Clause) → (place count : ℕ) → Function
clauses_from frame clauses place zero a = true
clauses_from frame clauses place (suc count) a = clause_function frame (clauses (spot_at frame place)) (spot_at frame place) a && clauses_from frame clauses (suc place) count a

-- the clauses of all spots of the frame
abbrev pub whole : Frame → (Spot → Clause) → Function
whole frame clauses = clauses_from frame clauses 0 (size frame)

-- outside the frame, a spot that is false everywhere there may stay false
abbrev pub KeepsOutside : Frame → (Spot → Clause) → Type 0
KeepsOutside frame clauses = (s : Spot) (a : Variables) → is_inside frame s ≡ false → fits (clauses s) (read frame 1 a) false ≡ true
