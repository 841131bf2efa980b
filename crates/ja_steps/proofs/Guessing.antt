-- A case says what was true before; where all places are allowed in some case, the clauses of all spots hold.
use Rattle.std.proofs.Common.{◌≡◌, ℕ, zero, suc, ◌+◌, ◌*◌, ◌-◌, ◌^◌, ◌/◌, ◌%◌, ◌<◌, ◌≤◌, Bool, true, false, cond, refl, sym, ap, ◌∙◌, subst, arith, List, [], ◌∷◌, length, get_or, ◌⊎◌, inl, inr}
use Rattle.std.specs.Prelude.{◌&&◌, ◌||◌, ◌==◌, not, nat_lt, nat_eq, Option, Some, None, slice_get, slice_index, if◌then◌else◌}
use Rattle.std.proofs.Math.Nat.{pow-succ'}
use Rattle.std.proofs.lemmas.Bool.{and_parts, and_from, eq-eqb, eqb-true, eqb-false, ltb-true, ltb-false, lt-ltb, le-ltb}
use Rattle.std.proofs.lemmas.Option.{slice_get-get_or}
use mathlib.Core.Logic.{dite}
use native.Mathlib.Decide.{ℕ_discrete}
use Rattle.ja_node_core.specs.Tree.{Assignment as Variables}
use Rattle.ja_facts.specs.Formulas.{Assignment, any_below, any_stacked}
use Rattle.ja_facts.specs.Slots.{OnStack as InStack}
use Rattle.ja_work.specs.declared.clause.Spot.{Spot}
use Rattle.ja_work.specs.declared.clause.Spot.TheVariants.{Local, OnStack, Dirt, Exc}
use Rattle.ja_work.specs.declared.clause.Clause.{Clause}
use Rattle.ja_work.specs.declared.frame.Frame.{Frame}
use Rattle.ja_work.specs.Clauses.{value, value_if, bound, fits_as, fits}
use Rattle.ja_work.specs.Frames.{number, size, spot_at, variable, is_inside, read, KeepsOutside}
use Rattle.ja_work.proofs.Framing.{read_outside}
use Rattle.ja_join.specs.declared.rule.Rule.{Rule}
use Rattle.ja_join.specs.declared.rule.Move.{Move}
use Rattle.ja_join.specs.Moves.{allows}
use Rattle.ja_join.specs.Steps.{IsStill, Leads}
use Rattle.ja_steps.specs.declared.parts.Part.{Part}
use Rattle.ja_steps.specs.declared.make.Range.{Range}
use Rattle.ja_steps.specs.Led.{is_present, IsLed}
use Rattle.ja_steps.specs.Inner.{place_if, is_counted, part_of, is_same, is_listed, guessed, is_any, one_value, bound_in, agrees, allows_in, AreClauses, AreListed, HasRange, HaveRange, part_if, parts_of, AreMoves, IsMadeOf}
use Rattle.ja_steps.proofs.Moving.{part_place}
use Rattle.ja_steps.proofs.Placing.{place_within, spot_back, read_inside, value_at}
use Rattle.ja_steps.proofs.Leaving.{some_below, still_behind, still_other, still_kept, stays_kept, all_allowed, some_counted, IsLeft, left_case, case_left}

one_truth : (p q : Bool) → (p ≡ true → q ≡ true) → (q ≡ true → p ≡ true) → p ≡ q
one_truth true q there back = sym (there refl)
one_truth false true there back = back refl
one_truth false false there back = refl

same_is : (p q : Bool) → is_same p q ≡ true → q ≡ p
same_is true q e = e
same_is false true e = sym e
same_is false false e = refl

is_same_own : (p q : Bool) → q ≡ p → is_same p q ≡ true
is_same_own true q e = e
is_same_own false q e = ap not e

not_counted : (p q : Bool) → (p ≡ true → q ≡ true) → (not p || q) ≡ true
not_counted true q f = f refl
not_counted false q f = refl

any_from : (test : ℕ → Bool) (n k : ℕ) → k < n → test k ≡ true → any_below test n ≡ true
any_from test zero k lt e = absurd (omega (arith, lt))
any_from test (suc n) k lt e = dite (ℕ_discrete k n)
    (λ same. ap (λ x. any_below test n || x) (sym (ap test same) ∙ e) ∙ or_true (any_below test n))
    (λ ne. ap (λ x. x || test n) (any_from test n k (omega (arith, lt, ne)) e))
  where
    or_true : (x : Bool) → (x || true) ≡ true
    or_true true = refl
    or_true false = refl

-- the code that says what is true at the listed places
abbrev code : List ℕ → (ℕ → Bool) → ℕ
code [] b = 0
code (q ∷ sources) b = cond (b q) 1 0 + 2 * code sources b

code_bit : (b : Bool) (n : ℕ) → (((cond b 1 0 + 2 * n) % 2 == 1) ≡ b) × ((cond b 1 0 + 2 * n) / 2 ≡ n)
code_bit true n = let odd : (1 + 2 * n) % 2 ≡ 1 = omega arith in (ap (λ x. x == 1) odd, omega arith)
code_bit false n = let even : (0 + 2 * n) % 2 ≡ 0 = omega arith in (ap (λ x. x == 1) even, omega arith)

code_guess : (sources : List ℕ) (b : ℕ → Bool) (q : ℕ) → is_listed sources q ≡ true → guessed sources (code sources b) q ≡ b q
code_guess [] b q e = absurd (cc e)
code_guess (x ∷ sources) b q e = by_test (nat_eq x q) refl (code_guess sources b q)
  where
    by_test : (c : Bool) → nat_eq x q ≡ c → (is_listed sources q ≡ true → guessed sources (code sources b) q ≡ b q)
        → (if c then (code (x ∷ sources) b % 2 == 1) else guessed sources (code (x ∷ sources) b / 2) q) ≡ b q
    by_test true same rest = (code_bit (b x) (code sources b)).0 ∙ ap b (eqb-true x q same)
    by_test false other rest = ap (λ n. guessed sources n q) (code_bit (b x) (code sources b)).1 ∙ rest (ap (λ c. c || is_listed sources q) (sym other) ∙ e)

code_below : (sources : List ℕ) (b : ℕ → Bool) → code sources b < 2 ^ length sources
code_below [] b = omega arith
code_below (x ∷ sources) b = by_bit (b x) (code_below sources b)
  where
    by_bit : (c : Bool) → code sources b < 2 ^ length sources → cond c 1 0 + 2 * code sources b < 2 ^ suc (length sources)
    by_bit true lt = let e = pow-succ' 2 (length sources) in omega (arith, lt, e)
    by_bit false lt = let e = pow-succ' 2 (length sources) in omega (arith, lt, e)

-- moves of the places of a frame are for its variables at present alone
pub moves_still : (sources : List ℕ) (cases : ℕ) (parts : ℕ → Part) → ((j : ℕ) → (parts j).place ≡ j) → (n : ℕ) (moves : List Move) (v : ℕ) → AreMoves sources cases parts n moves → (nat_eq (v % 4) 1 && nat_lt (v / 4) n) ≡ false → IsStill moves v
moves_still sources cases parts placed n moves v are out = dite (ℕ_discrete (v % 4) 1)
    (λ e. let apart = ltb-false (v / 4) n (sym (ap (λ c. c && nat_lt (v / 4) n) (eq-eqb (v % 4) 1 e)) ∙ out) in still_behind sources cases parts placed n moves v are (omega (arith, apart)))
    (λ ne. still_other sources cases parts placed n moves v are ne)

module _ (frame : Frame) (clauses : Spot → Clause) (list : List Clause) (sources : List ℕ) (range : Range) (cases : ℕ)
    (are : AreClauses frame clauses list) (listed : AreListed frame list sources) (ranged : HaveRange range list) where
  abbrev pub parts : ℕ → Part
  parts = parts_of frame range list

  placed : (j : ℕ) → (parts j).place ≡ j
  placed = part_place frame range list

  -- the clause of each place
  clause_there : (j : ℕ) → j < size frame → slice_get list j ≡ Some (clauses (spot_at frame j))
  clause_there j lt =
      let d = clauses (spot_at frame j) in
      let there = slice_get-get_or list j d (let count = are.counted in omega (arith, lt, count)) in there ∙ ap Some (are.each j (get_or list j d) there)

  part_at : (j : ℕ) → j < size frame → parts j ≡ part_of frame range.first range.count j (clauses (spot_at frame j))
  part_at j lt = ap (part_if frame range j) (clause_there j lt)

  module _ (before after : Variables) where
    abbrev pub B : Assignment
    B = read frame 1 before

    abbrev pub A : Assignment
    A = read frame 1 after

    abbrev pub at : ℕ → Bool
    at j = before (4 * j + 1)

    -- a case says of the listed places what was true, and whether some counted value was
    pub record Guesses (case : ℕ) : Type 0 where
      pub places : (q : ℕ) → is_listed sources q ≡ true → q < size frame → guessed sources (case / 2) q ≡ at q
      pub any : is_any case ≡ any_stacked B range.first range.count

    -- some counted place was true where some counted value was
    counted_slot : (s : Spot) → is_counted range.first range.count s ≡ true → value B s ≡ true → any_stacked B range.first range.count ≡ true
    counted_slot (OnStack k) e t =
        let both = and_parts (not (nat_lt k range.first)) (nat_lt k (range.first + range.count)) e in
        let low = ltb-false k range.first (not_true (nat_lt k range.first) both.0) in
        let high = ltb-true k (range.first + range.count) both.1 in
        any_from (λ i. B.slot (InStack (range.first + i))) range.count (k - range.first) (omega (arith, low, high))
        (ap (λ i. B.slot (InStack i)) (omega (arith, low)) ∙ t)
      where
        not_true : (x : Bool) → not x ≡ true → x ≡ false
        not_true true f = sym f
        not_true false f = refl
    counted_slot (Local l) e t = absurd (cc e)
    counted_slot Dirt e t = absurd (cc e)
    counted_slot Exc e t = absurd (cc e)

    counted_stacked : some_counted sources cases parts placed before after (size frame) ≡ any_stacked B range.first range.count
    counted_stacked = one_truth (any_below (λ j. (parts j).counted && at j) (size frame)) (any_stacked B range.first range.count)
        (λ e.
        let found = some_below (λ j. (parts j).counted && at j) (size frame) e in
        let lt = found.1 in
        let both = and_parts (parts found.0).counted (at found.0) found.2 in
        counted_slot (spot_at frame found.0) (ap (λ (p : Part). p.counted) (sym (part_at found.0 lt)) ∙ both.0) (value_at frame before found.0 lt ∙ both.1))
        (λ e.
        let found = some_below (λ i. B.slot (InStack (range.first + i))) range.count e in
        let k = range.first + found.0 in
        let s = OnStack k in
        let here = (and_parts (is_inside frame s) (before (variable frame s 1)) found.2).0 in
        let j = slice_index frame.places (number frame s) in
        let lt = place_within frame s here in
        let back = spot_back frame s here in
        let count : is_counted range.first range.count s ≡ true = and_from (not (nat_lt k range.first)) (nat_lt k (range.first + range.count)) (ap not (le-ltb k range.first (omega arith))) (lt-ltb k (range.first + range.count) (let f = found.1 in omega (arith, f))) in
        any_from (λ j. (parts j).counted && at j) (size frame) j lt
        (and_from (parts j).counted (at j) (ap (λ (p : Part). p.counted) (part_at j lt) ∙ ap (is_counted range.first range.count) back ∙ count) (sym (value_at frame before j lt) ∙ ap (value B) back ∙ found.2)))

    -- the clause's one spot
    one_is : (case j : ℕ) (clause : Clause) → Guesses case → j < size frame → slice_get list j ≡ Some clause → one_value sources case j (place_if frame clause.one) (at j) ≡ value_if B clause.one
    one_is case j clause guess lt there = by_one clause.one refl
      where
        by_inside : (s : Spot) (c : Bool) → clause.one ≡ Some s → is_inside frame s ≡ c → one_value sources case j (if c then Some (slice_index frame.places (number frame s)) else None) (at j) ≡ value B s
        by_inside s false one out = sym (read_outside frame 1 before s out)
        by_inside s true one here =
            let q = slice_index frame.places (number frame s) in
            let is : place_if frame clause.one ≡ Some q = ap (place_if frame) one ∙ ap (λ c. if c then Some q else None) here in
            let real : value B s ≡ at q = read_inside frame 1 before s here in
            by_place (nat_eq q j) refl real (listed.all j q clause there is)
          where
            by_place : (c : Bool) → nat_eq (slice_index frame.places (number frame s)) j ≡ c → value B s ≡ at (slice_index frame.places (number frame s))
                → ((slice_index frame.places (number frame s)) ≡ j) ⊎ (is_listed sources (slice_index frame.places (number frame s)) ≡ true)
                → (if c then at j else guessed sources (case / 2) (slice_index frame.places (number frame s))) ≡ value B s
            by_place true same real known = ap at (sym (eqb-true (slice_index frame.places (number frame s)) j same)) ∙ sym real
            by_place false other real (inl same) = absurd (eqb-false (slice_index frame.places (number frame s)) j other same)
            by_place false other real (inr known) = guess.places (slice_index frame.places (number frame s)) known (place_within frame s here) ∙ sym real

        by_one : (o : Option Spot) → clause.one ≡ o → one_value sources case j (place_if frame o) (at j) ≡ value_if B o
        by_one None e = refl
        by_one (Some s) e = by_inside s (is_inside frame s) e refl

    -- the values that a clause looks at together
    range_is : (case : ℕ) (clause : Clause) → Guesses case → HasRange range clause → (not (nat_eq clause.count 0) && is_any case) ≡ any_stacked B clause.first clause.count
    range_is case clause guess (inl no_values) = ap (λ n. not (nat_eq n 0) && is_any case) no_values ∙ sym (ap (any_stacked B clause.first) no_values)
    range_is case clause guess (inr (first, count)) = by_count (nat_eq clause.count 0) refl
      where
        by_count : (c : Bool) → nat_eq clause.count 0 ≡ c → (not c && is_any case) ≡ any_stacked B clause.first clause.count
        by_count true e = sym (ap (any_stacked B clause.first) (eqb-true clause.count 0 e))
        by_count false e = guess.any ∙ sym (ap (λ f. any_stacked B f clause.count) first ∙ ap (any_stacked B range.first) count)

    bound_is : (case j : ℕ) → Guesses case → (lt : j < size frame) → bound_in sources (parts j) case (at j) ≡ bound (clauses (spot_at frame j)) B
    bound_is case j guess lt =
        let clause = clauses (spot_at frame j) in
        let there = clause_there j lt in
        ap (λ (p : Part). bound_in sources p case (at j)) (part_at j lt)
        ∙ ap (λ x. clause.always || (x || (not (nat_eq clause.count 0) && is_any case))) (one_is case j clause guess lt there)
        ∙ ap (λ x. clause.always || (value_if B clause.one || x)) (range_is case clause guess (ranged j clause there))

    -- where the clause of a place holds, and where it is allowed
    pub fits_is : (case j : ℕ) → Guesses case → (lt : j < size frame) → fits_as (parts j).exact (bound_in sources (parts j) case (at j)) (after (4 * j + 1)) ≡ fits (clauses (spot_at frame j)) B (value A (spot_at frame j))
    fits_is case j guess lt =
        ap (λ x. fits_as (parts j).exact x (after (4 * j + 1))) (bound_is case j guess lt)
        ∙ ap (λ (p : Part). fits_as p.exact (bound (clauses (spot_at frame j)) B) (after (4 * j + 1))) (part_at j lt)
        ∙ ap (fits_as (clauses (spot_at frame j)).exact (bound (clauses (spot_at frame j)) B)) (sym (value_at frame after j lt))

    all_at : (case n j : ℕ) → all_allowed sources cases parts placed before after case n ≡ true → j < n → allows_in sources (parts j) case (at j) (after (4 * j + 1)) ≡ true
    all_at case zero j e lt = absurd (omega (arith, lt))
    all_at case (suc n) j e lt =
        let both = and_parts (all_allowed sources cases parts placed before after case n) (allows_in sources (parts n) case (at n) (after (4 * n + 1))) e in
        dite (ℕ_discrete j n) (λ same. subst (λ x. allows_in sources (parts x) case (at x) (after (4 * x + 1)) ≡ true) (sym same) both.1) (λ ne. all_at case n j both.0 (omega (arith, lt, ne)))

    all_from : (case n : ℕ) → ((j : ℕ) → j < n → allows_in sources (parts j) case (at j) (after (4 * j + 1)) ≡ true) → all_allowed sources cases parts placed before after case n ≡ true
    all_from case zero each = refl
    all_from case (suc n) each = and_from (all_allowed sources cases parts placed before after case n) (allows_in sources (parts n) case (at n) (after (4 * n + 1))) (all_from case n (λ j lt. each j (omega (arith, lt)))) (each n (omega arith))

    -- what a place that agrees with a case says
    listed_agrees : (case q : ℕ) → is_listed sources q ≡ true → agrees sources (parts q) case (at q) ≡ true → guessed sources (case / 2) q ≡ at q
    listed_agrees case q known e =
        let first = (and_parts (if is_listed sources (parts q).place then is_same (at q) (guessed sources (case / 2) (parts q).place) else true) (not ((parts q).counted && at q) || is_any case) e).0 in
        let here : (if is_listed sources q then is_same (at q) (guessed sources (case / 2) q) else true) ≡ true = subst (λ x. (if is_listed sources x then is_same (at q) (guessed sources (case / 2) x) else true) ≡ true) (placed q) first in
        same_is (at q) (guessed sources (case / 2) q) (sym (ap (λ c. if c then is_same (at q) (guessed sources (case / 2) q) else true) known) ∙ here)

    agrees_listed : (case q : ℕ) → (is_listed sources q ≡ true → guessed sources (case / 2) q ≡ at q) → ((parts q).counted && at q ≡ true → is_any case ≡ true) → agrees sources (parts q) case (at q) ≡ true
    agrees_listed case q guess any = and_from (if is_listed sources (parts q).place then is_same (at q) (guessed sources (case / 2) (parts q).place) else true) (not ((parts q).counted && at q) || is_any case)
        (subst (λ x. (if is_listed sources x then is_same (at q) (guessed sources (case / 2) x) else true) ≡ true) (sym (placed q)) (by_test (is_listed sources q) refl))
        (not_counted ((parts q).counted && at q) (is_any case) any)
      where
        by_test : (c : Bool) → is_listed sources q ≡ c → (if c then is_same (at q) (guessed sources (case / 2) q) else true) ≡ true
        by_test true e = is_same_own (at q) (guessed sources (case / 2) q) (guess e)
        by_test false e = refl

    module _ (rule : Rule) (made : IsMadeOf frame list sources range cases rule) where
      -- the rule leads where the clauses do
      pub leads_led : KeepsOutside frame clauses → Leads rule before after → IsLed frame clauses before after
      leads_led outside leads = record { fits = λ s. by_place s (is_inside frame s) refl; others = others }
        where
          left : IsLeft sources cases parts placed before after (size frame) rule.moves.items rule.start rule.accepted made.moves made.waiting made.seen made.accepted_waiting made.accepted_seen (λ j lt still. leads.others (4 * j + 1) still)
          left = left_case sources cases parts placed before after (size frame) rule.moves.items rule.start rule.accepted made.moves made.waiting made.seen made.accepted_waiting made.accepted_seen (λ j lt still. leads.others (4 * j + 1) still) leads.allowed

          parts_at : (j : ℕ) → j < size frame → (agrees sources (parts j) left.case (at j) ≡ true) × (fits_as (parts j).exact (bound_in sources (parts j) left.case (at j)) (after (4 * j + 1)) ≡ true)
          parts_at j lt = and_parts (agrees sources (parts j) left.case (at j)) (fits_as (parts j).exact (bound_in sources (parts j) left.case (at j)) (after (4 * j + 1))) (all_at left.case (size frame) j left.all lt)

          guess : Guesses left.case
          guess = record { places = λ q known lt. listed_agrees left.case q known (parts_at q lt).0; any = left.any ∙ counted_stacked }

          by_place : (s : Spot) (c : Bool) → is_inside frame s ≡ c → fits (clauses s) B (value A s) ≡ true
          by_place s true here =
              let j = slice_index frame.places (number frame s) in
              let lt = place_within frame s here in
              subst (λ x. fits (clauses x) B (value A x) ≡ true) (spot_back frame s here) (sym (fits_is left.case j guess lt) ∙ (parts_at j lt).1)
          by_place s false out = ap (fits (clauses s) B) (read_outside frame 1 after s out) ∙ outside s before out

          others : (v : ℕ) → is_present frame v ≡ false → before v ≡ after v
          others v out = leads.others v (moves_still sources cases parts placed (size frame) rule.moves.items v made.moves out)

      pub led_leads : cases ≤ 32 → 2 * 2 ^ length sources ≤ cases → IsLed frame clauses before after → Leads rule before after
      led_leads few enough led = by_case (cond (any_stacked B range.first range.count) 1 0 + 2 * code sources at)
          (record {
            places = λ q known lt. ap (λ n. guessed sources n q) (code_bit (any_stacked B range.first range.count) (code sources at)).1 ∙ code_guess sources at q known;
            any = (code_bit (any_stacked B range.first range.count) (code sources at)).0;
          })
          (below (any_stacked B range.first range.count))
        where
          below : (c : Bool) → cond c 1 0 + 2 * code sources at < cases
          below true = let lt = code_below sources at in omega (arith, lt, enough)
          below false = let lt = code_below sources at in omega (arith, lt, enough)

          by_case : (case : ℕ) → Guesses case → case < cases → Leads rule before after
          by_case case guess lt = record { allowed = allowed; others = others }
            where
              each : (j : ℕ) → j < size frame → allows_in sources (parts j) case (at j) (after (4 * j + 1)) ≡ true
              each j within = and_from (agrees sources (parts j) case (at j)) (fits_as (parts j).exact (bound_in sources (parts j) case (at j)) (after (4 * j + 1)))
                  (agrees_listed case j (λ known. guess.places j known within)
                  (λ hit. guess.any ∙ sym counted_stacked ∙ any_from (λ k. (parts k).counted && at k) (size frame) j within hit))
                  (fits_is case j guess within ∙ led.fits (spot_at frame j))

              stay : (j : ℕ) → j < size frame → IsStill rule.moves.items (4 * j + 1) → before (4 * j + 1) ≡ after (4 * j + 1)
              stay j within still = stays_kept sources (parts j) case (at j) (after (4 * j + 1)) (still_kept sources cases parts placed (size frame) rule.moves.items j made.moves within still) (each j within)

              allowed : allows rule.accepted rule.moves.items rule.start before after ≡ true
              allowed = case_left sources cases parts placed before after (size frame) rule.moves.items rule.start rule.accepted made.moves made.waiting made.seen made.accepted_waiting made.accepted_seen stay few
                  (record { case = case; within = lt-ltb case cases lt; all = all_from case (size frame) each; any = guess.any ∙ sym counted_stacked })

              others : (v : ℕ) → IsStill rule.moves.items v → before v ≡ after v
              others v still = by_test (is_present frame v) refl
                where
                  by_test : (c : Bool) → is_present frame v ≡ c → before v ≡ after v
                  by_test false out = led.others v out
                  by_test true here =
                      let both = and_parts (nat_eq (v % 4) 1) (nat_lt (v / 4) (size frame)) here in
                      let one = eqb-true (v % 4) 1 both.0 in
                      let is : 4 * (v / 4) + 1 ≡ v = omega (arith, one) in
                      subst (λ x. before x ≡ after x) is (stay (v / 4) (ltb-true (v / 4) (size frame) both.1) (subst (IsStill rule.moves.items) (sym is) still))
