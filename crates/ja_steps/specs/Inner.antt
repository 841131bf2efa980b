-- Words of the private functions: clauses by places, cases, and the moves that are made of them.
use Rattle.std.specs.Prelude.{◌≡◌, ◌≢◌, ◌⊎◌, ◌-◌, ◌^◌, length, slice_get, ℕ, suc, ◌+◌, ◌*◌, ◌/◌, ◌%◌, ◌<◌, ◌&&◌, ◌||◌, ◌==◌, not, nat_lt, nat_eq, Bool, true, false, List, [], ◌∷◌, ◌++◌, Option, Some, None, slice_index, if◌then◌else◌}
use Rattle.std.specs.Int.{bit_at}
use Rattle.std.specs.List.{list_any}
use Rattle.ja_join.specs.declared.rule.Masks.{Masks}
use Rattle.ja_join.specs.declared.rule.Move.{Move}
use Rattle.ja_work.specs.declared.clause.Spot.{Spot}
use Rattle.ja_work.specs.declared.clause.Spot.TheVariants.{OnStack}
use Rattle.ja_work.specs.declared.clause.Clause.{Clause}
use Rattle.ja_work.specs.declared.frame.Frame.{Frame}
use Rattle.ja_work.specs.Clauses.{fits_as}
use Rattle.ja_work.specs.Frames.{size, number, spot_at, is_inside}
use Rattle.ja_join.specs.declared.rule.Rule.{Rule}
use Rattle.ja_steps.specs.Wide.{AreDistinct}
use Rattle.ja_steps.specs.declared.parts.Part.{Part}
use Rattle.ja_steps.specs.declared.make.Range.{Range}

-- the place of a spot, if it is one of the frame
abbrev pub place_if : Frame → Option Spot → Option ℕ
place_if frame None = None
place_if frame (Some s) = if is_inside frame s then Some (slice_index frame.places (number frame s)) else None

-- the spot is one of so many values on the stack
abbrev pub is_counted : (first count : ℕ) → Spot → Bool
is_counted first count (OnStack k) = not (nat_lt k first) && nat_lt k (first + count)
is_counted first count _ = false

-- what a clause says of the spot at a place, by places; so many values from one on are those that some clauses of the end look at
abbrev pub part_of : Frame → (first count place : ℕ) → Clause → Part
part_of frame first count place clause = record {
  place = place;
  exact = clause.exact;
  always = clause.always;
  one = place_if frame clause.one;
  ranged = not (nat_eq clause.count 0);
  counted = is_counted first count (spot_at frame place);
}

-- both truths are the same
abbrev pub is_same : Bool → Bool → Bool
is_same true b = b
is_same false b = not b

-- the place is listed
abbrev pub is_listed : List ℕ → ℕ → Bool
is_listed sources place = list_any (λ q. nat_eq q place) sources

-- the truth that a case says of one of the listed places
abbrev pub guessed : List ℕ → (code place : ℕ) → Bool
guessed [] code place = false
guessed (q ∷ sources) code place = if nat_eq q place then code % 2 == 1 else guessed sources (code / 2) place

-- whether in a case one of the counted values is true
abbrev pub is_any : (case : ℕ) → Bool
is_any case = case % 2 == 1

-- in a case, the truth that the clause's one spot had, where the spot of the place itself had this one
abbrev pub one_value : List ℕ → (case place : ℕ) → Option ℕ → (before : Bool) → Bool
one_value sources case place None before = false
one_value sources case place (Some q) before = if nat_eq q place then before else guessed sources (case / 2) q

-- in a case, where the clause lets its spot be true
abbrev pub bound_in : List ℕ → Part → (case : ℕ) → (before : Bool) → Bool
bound_in sources part case before = part.always || (one_value sources case part.place part.one before || (part.ranged && is_any case))

-- what the case says of a place is so
abbrev pub agrees : List ℕ → Part → (case : ℕ) → (before : Bool) → Bool
agrees sources part case before =
    (if is_listed sources part.place then is_same before (guessed sources (case / 2) part.place) else true) && (not (part.counted && before) || is_any case)

-- in a case, a place may have these truths
abbrev pub allows_in : List ℕ → Part → (case : ℕ) → (before after : Bool) → Bool
allows_in sources part case before after = agrees sources part case before && fits_as part.exact (bound_in sources part case before) after

-- whether a mask has a case
abbrev pub has : (mask case : ℕ) → Bool
has mask case = bit_at mask case == 1

-- the mask has the cases in which the place may have these truths
abbrev pub HasAllowed : List ℕ → Part → (cases : ℕ) → (before after : Bool) → (mask : ℕ) → Type 0
HasAllowed sources part cases before after mask = (case : ℕ) → has mask case ≡ (nat_lt case cases && allows_in sources part case before after)

-- the masks are those of a place where it has these truths: a case that waits for a true value among those that are counted sees it here
pub record AreMasks (sources : List ℕ) (part : Part) (cases : ℕ) (before after : Bool) (masks : Masks) : Type 0 where
  pub waiting : (case : ℕ) → has masks.waiting case ≡ (not (part.counted && before) && (nat_lt case cases && allows_in sources part case before after))
  pub seen : HasAllowed sources part cases before after masks.seen
  pub sees : (case : ℕ) → has masks.sees case ≡ ((part.counted && before) && (nat_lt case cases && allows_in sources part case before after))

-- the move is that of a place
pub record IsMoveOf (sources : List ℕ) (cases : ℕ) (part : Part) (m : Move) : Type 0 where
  pub variable : m.variable ≡ 4 * part.place + 1
  pub kept : m.forgets ≡ false
  pub told : m.told ≡ None
  pub low_low : AreMasks sources part cases false false m.low_low
  pub low_high : AreMasks sources part cases false true m.low_high
  pub high_low : AreMasks sources part cases true false m.high_low
  pub high_high : AreMasks sources part cases true true m.high_high

-- the clause keeps its spot, of which nothing else is asked
pub record IsKept (sources : List ℕ) (part : Part) : Type 0 where
  pub exact : part.exact ≡ true
  pub sometimes : part.always ≡ false
  pub one : part.one ≡ Some part.place
  pub alone : part.ranged ≡ false
  pub uncounted : part.counted ≡ false
  pub unlisted : is_listed sources part.place ≡ false

-- moves of the first so many places: each is that of its place, or there is none and the place is kept
pub data AreMoves (sources : List ℕ) (cases : ℕ) (parts : ℕ → Part) : (count : ℕ) → List Move → Type 0 where
  none : AreMoves sources cases parts 0 []
  moved : {n : ℕ} {moves : List Move} (m : Move) → AreMoves sources cases parts n moves → IsMoveOf sources cases (parts n) m → AreMoves sources cases parts (suc n) (moves ++ m ∷ [])
  kept : {n : ℕ} {moves : List Move} → AreMoves sources cases parts n moves → IsKept sources (parts n) → AreMoves sources cases parts (suc n) moves

-- these are the clauses by places
pub record AreClauses (frame : Frame) (clauses : Spot → Clause) (list : List Clause) : Type 0 where
  pub counted : length list ≡ size frame
  pub each : (j : ℕ) (clause : Clause) → slice_get list j ≡ Some clause → clause ≡ clauses (spot_at frame j)

-- what is added to the listed places for the clause at a place
abbrev pub IsNewSource : Frame → List ℕ → (place : ℕ) → Clause → Option ℕ → Type 0
IsNewSource frame sources place clause None = (q : ℕ) → place_if frame clause.one ≡ Some q → (q ≡ place) ⊎ (is_listed sources q ≡ true)
IsNewSource frame sources place clause (Some source) = (place_if frame clause.one ≡ Some source) × (source ≢ place) × (is_listed sources source ≡ false)

-- some clause looks at this other place
pub record IsNeeded (frame : Frame) (list : List Clause) (q : ℕ) : Type 0 where
  pub from : ℕ
  pub clause : Clause
  pub there : slice_get list from ≡ Some clause
  pub one : place_if frame clause.one ≡ Some q
  pub other : q ≢ from

-- places at which some clauses look from others, each listed once
pub record AreNeeded (frame : Frame) (list : List Clause) (sources : List ℕ) : Type 0 where
  pub each : (k : ℕ) → k < length sources → IsNeeded frame list (slice_index sources k)
  pub once : AreDistinct sources

-- each other place that the clauses look at is listed, and no other one
pub record AreListed (frame : Frame) (list : List Clause) (sources : List ℕ) : Type 0 where
  pub all : (j q : ℕ) (clause : Clause) → slice_get list j ≡ Some clause → place_if frame clause.one ≡ Some q → (q ≡ j) ⊎ (is_listed sources q ≡ true)
  pub needed : AreNeeded frame list sources

-- the values are those that some clause looks at, if any does
abbrev pub IsRange : Range → List Clause → Type 0
IsRange range list = ((j : ℕ) (clause : Clause) → slice_get list j ≡ Some clause → clause.count ≡ 0) ⊎ ((j : ℕ) × (clause : Clause) × (slice_get list j ≡ Some clause) × (clause.count ≢ 0) × (clause.first ≡ range.first) × (clause.count ≡ range.count))

-- some clause looks at other values together
abbrev pub LacksRange : Range → List Clause → Type 0
LacksRange range list = (j : ℕ) × (clause : Clause) × (slice_get list j ≡ Some clause) × (clause.count ≢ 0) × ((clause.first ≡ range.first) → (clause.count ≡ range.count) → ⊥)

-- the clause looks at no values of the stack together, or at these
abbrev pub HasRange : Range → Clause → Type 0
HasRange range clause = (clause.count ≡ 0) ⊎ ((clause.first ≡ range.first) × (clause.count ≡ range.count))

abbrev pub HaveRange : Range → List Clause → Type 0
HaveRange range list = (j : ℕ) (clause : Clause) → slice_get list j ≡ Some clause → HasRange range clause

-- what the clause at a place says, if there is one
abbrev pub part_if : Frame → Range → (place : ℕ) → Option Clause → Part
part_if frame range place None = record { place = place; exact = true; always = false; one = Some place; ranged = false; counted = false }
part_if frame range place (Some clause) = part_of frame range.first range.count place clause

-- what the clauses say, by places
abbrev pub parts_of : Frame → Range → List Clause → ℕ → Part
parts_of frame range list j = part_if frame range j (slice_get list j)

-- the rule is made of the clauses
pub record IsMadeOf (frame : Frame) (list : List Clause) (sources : List ℕ) (range : Range) (cases : ℕ) (rule : Rule) : Type 0 where
  pub moves : AreMoves sources cases (parts_of frame range list) (size frame) rule.moves.items
  pub waiting : (case : ℕ) → has rule.start.waiting case ≡ (nat_lt case cases && is_any case)
  pub seen : (case : ℕ) → has rule.start.seen case ≡ (nat_lt case cases && not (is_any case))
  pub accepted_waiting : rule.accepted.waiting ≡ 0
  pub accepted_seen : rule.accepted.seen ≡ 2 ^ 32 - 1
