-- What the moves of a rule leave of each case.
use Rattle.std.proofs.Common.{◌≡◌, ◌≢◌, ℕ, zero, suc, ◌+◌, ◌*◌, ◌-◌, ◌^◌, ◌/◌, ◌%◌, ◌<◌, ◌≤◌, Bool, true, false, refl, sym, ap, ◌∙◌, subst, arith, List, [], ◌∷◌, ◌++◌, bit_and, ⊎_elim}
use Rattle.std.specs.Prelude.{◌&&◌, ◌||◌, ◌==◌, not, nat_lt, nat_eq, Some, if◌then◌else◌}
use Rattle.std.specs.Int.Bits.{and_zero_r}
use Rattle.std.proofs.lemmas.Bool.{and_parts, and_from, cases_lt, eq-eqb, ne_eqb, ltb-true}
use Rattle.std.proofs.lemmas.Nat.Bits.{bit_at_ones_above}
use mathlib.Core.Logic.{dite}
use native.Mathlib.Decide.{ℕ_discrete}
use Rattle.ja_node_core.specs.Tree.{Assignment as Variables}
use Rattle.ja_facts.specs.Formulas.{any_below}
use Rattle.ja_join.specs.declared.rule.States.{States}
use Rattle.ja_join.specs.declared.rule.Move.{Move}
use Rattle.ja_join.specs.Moves.{masks_of, next_states, accepts, truth_after, allows}
use Rattle.ja_join.specs.Steps.{IsStill}
use Rattle.ja_work.specs.Clauses.{fits_as}
use Rattle.ja_steps.specs.declared.parts.Part.{Part}
use Rattle.ja_steps.specs.Inner.{is_same, is_listed, guessed, is_any, bound_in, agrees, allows_in, has, AreMasks, IsMoveOf, IsKept, AreMoves, none, moved, kept}
use Rattle.ja_steps.proofs.Masking.{has_and, has_or, has_zero, has_ones, has_none}

-- one of so many is true, or none is
pub some_below : (test : ℕ → Bool) (n : ℕ) → any_below test n ≡ true → (k : ℕ) × (k < n) × (test k ≡ true)
some_below test zero e = absurd (cc e)
some_below test (suc n) e = by_last (any_below test n) refl (some_below test n)
  where
    by_last : (b : Bool) → any_below test n ≡ b → (any_below test n ≡ true → (k : ℕ) × (k < n) × (test k ≡ true)) → (k : ℕ) × (k < suc n) × (test k ≡ true)
    by_last true f before = let rest = before f in let lt = rest.1 in (rest.0, omega (arith, lt), rest.2)
    by_last false f before = (n, omega arith, ap (λ b. b || test n) (sym f) ∙ e)

pub none_below : (test : ℕ → Bool) (n k : ℕ) → any_below test n ≡ false → k < n → test k ≡ false
none_below test zero k e lt = absurd (omega arith)
none_below test (suc n) k e lt = dite (ℕ_discrete k n) (λ same. ap test same ∙ (or_false (any_below test n) (test n) e).1) (λ ne. none_below test n k (or_false (any_below test n) (test n) e).0 (omega (arith, ne, lt)))
  where
    or_false : (a b : Bool) → (a || b) ≡ false → (a ≡ false) × (b ≡ false)
    or_false true b f = absurd (cc f)
    or_false false b f = (refl, f)

-- a clause that keeps its spot allows it to stay, and nothing else
abbrev plain : ℕ → Part
plain q = record { place = q; exact = true; always = false; one = Some q; ranged = false; counted = false }

allows_plain : (sources : List ℕ) (case q : ℕ) (b a : Bool) → is_listed sources q ≡ false → allows_in sources (plain q) case b a ≡ fits_as true (b || false) a
allows_plain sources case q b a e =
    ap (λ c. ((if c then is_same b (guessed sources (case / 2) q) else true) && true) && fits_as true ((if nat_eq q q then b else guessed sources (case / 2) q) || false) a) e
    ∙ ap (λ c. fits_as true ((if c then b else guessed sources (case / 2) q) || false) a) (eq-eqb q q refl)

kept_is : (sources : List ℕ) (part : Part) → IsKept sources part → part ≡ plain part.place
kept_is sources part k i = record { place = part.place; exact = k.exact i; always = k.sometimes i; one = k.one i; ranged = k.alone i; counted = k.uncounted i }

kept_allows : (sources : List ℕ) (part : Part) (case : ℕ) (b a : Bool) → IsKept sources part → allows_in sources part case b a ≡ fits_as true (b || false) a
kept_allows sources part case b a k = ap (λ (p : Part). allows_in sources p case b a) (kept_is sources part k) ∙ allows_plain sources case part.place b a k.unlisted

same_fits : (b a : Bool) → b ≡ a → fits_as true (b || false) a ≡ true
same_fits true a e = sym e
same_fits false a e = ap not (sym e)

fits_same : (b a : Bool) → fits_as true (b || false) a ≡ true → b ≡ a
fits_same true a e = sym e
fits_same false true e = e
fits_same false false e = refl

pub kept_stays : (sources : List ℕ) (part : Part) (case : ℕ) (b a : Bool) → IsKept sources part → b ≡ a → allows_in sources part case b a ≡ true
kept_stays sources part case b a k e = kept_allows sources part case b a k ∙ same_fits b a e

pub stays_kept : (sources : List ℕ) (part : Part) (case : ℕ) (b a : Bool) → IsKept sources part → allows_in sources part case b a ≡ true → b ≡ a
stays_kept sources part case b a k e = fits_same b a (sym (kept_allows sources part case b a k) ∙ e)

-- which moves a variable is not of
still_push : (moves : List Move) (m : Move) (v : ℕ) → IsStill moves v → v ≢ m.variable → IsStill (moves ++ m ∷ []) v
still_push [] m v still ne = (ne, tt)
still_push (x ∷ moves) m v still ne = (still.0, still_push moves m v still.1 ne)

still_front : (moves : List Move) (m : Move) (v : ℕ) → IsStill (moves ++ m ∷ []) v → IsStill moves v
still_front [] m v still = tt
still_front (x ∷ moves) m v still = (still.0, still_front moves m v still.1)

still_last : (moves : List Move) (m : Move) (v : ℕ) → IsStill (moves ++ m ∷ []) v → v ≢ m.variable
still_last [] m v still = still.0
still_last (x ∷ moves) m v still = still_last moves m v still.1

module _ (sources : List ℕ) (cases : ℕ) (parts : ℕ → Part) (placed : (j : ℕ) → (parts j).place ≡ j) where
  -- a variable behind those of all places is that of no move
  pub still_behind : (n : ℕ) (moves : List Move) (v : ℕ) → AreMoves sources cases parts n moves → 4 * n ≤ v → IsStill moves v
  still_behind _ _ v none le = tt
  still_behind _ _ v (moved {n = k} {moves = rest} m are is) le = still_push rest m v (still_behind k rest v are (omega (arith, le))) (λ e. let at = is.variable in let p = placed k in absurd (omega (arith, le, e, at, p)))
  still_behind _ _ v (kept {n = k} {moves = rest} are is) le = still_behind k rest v are (omega (arith, le))

  -- and so is one that is not of the copy at present
  pub still_other : (n : ℕ) (moves : List Move) (v : ℕ) → AreMoves sources cases parts n moves → v % 4 ≢ 1 → IsStill moves v
  still_other _ _ v none ne = tt
  still_other _ _ v (moved {n = k} {moves = rest} m are is) ne = still_push rest m v (still_other k rest v are ne) (λ e. let at = is.variable in absurd (ne (omega (arith, e, at))))
  still_other _ _ v (kept {n = k} {moves = rest} are is) ne = still_other k rest v are ne

  -- a place without a move is kept
  pub still_kept : (n : ℕ) (moves : List Move) (j : ℕ) → AreMoves sources cases parts n moves → j < n → IsStill moves (4 * j + 1) → IsKept sources (parts j)
  still_kept _ _ j none lt still = absurd (omega (arith, lt))
  still_kept _ _ j (moved {n = k} {moves = rest} m are is) lt still = dite (ℕ_discrete j k)
      (λ e. let at = is.variable in let p = placed k in absurd (still_last rest m (4 * j + 1) still (omega (arith, e, at, p))))
      (λ ne. still_kept k rest j are (omega (arith, lt, ne)) (still_front rest m (4 * j + 1) still))
  still_kept _ _ j (kept {n = k} {moves = rest} are is) lt still = dite (ℕ_discrete j k) (λ e. subst (λ x. IsKept sources (parts x)) (sym e) is) (λ ne. still_kept k rest j are (omega (arith, lt, ne)) still)

  module _ (before after : Variables) where
    abbrev pub allowed_at : (case j : ℕ) → Bool
    allowed_at case j = allows_in sources (parts j) case (before (4 * j + 1)) (after (4 * j + 1))

    abbrev pub counted_at : ℕ → Bool
    counted_at j = (parts j).counted && before (4 * j + 1)

    -- all of the first so many places are allowed in the case, and some of the counted ones is true
    abbrev pub all_allowed : (case n : ℕ) → Bool
    all_allowed case zero = true
    all_allowed case (suc n) = all_allowed case n && allowed_at case n

    abbrev pub some_counted : ℕ → Bool
    some_counted n = any_below counted_at n

    -- the states that moves leave
    abbrev pub run : List Move → States → States
    run [] s = s
    run (m ∷ moves) s = run moves (next_states m (before m.variable) (truth_after m after) s)

    pub allows_run : (accepted : States) (moves : List Move) (s : States) → allows accepted moves s before after ≡ accepts accepted (run moves s)
    allows_run accepted [] s = refl
    allows_run accepted (m ∷ moves) s = allows_run accepted moves (next_states m (before m.variable) (truth_after m after) s)

    run_push : (moves : List Move) (m : Move) (s : States) → run (moves ++ m ∷ []) s ≡ next_states m (before m.variable) (truth_after m after) (run moves s)
    run_push [] m s = refl
    run_push (x ∷ moves) m s = run_push moves m (next_states x (before x.variable) (truth_after x after) s)

    -- places without a move are as before
    abbrev pub Stay : (n : ℕ) → List Move → Type 0
    Stay n moves = (j : ℕ) → j < n → IsStill moves (4 * j + 1) → before (4 * j + 1) ≡ after (4 * j + 1)

    masks_are : (n : ℕ) (m : Move) → IsMoveOf sources cases (parts n) m → (b a : Bool) → AreMasks sources (parts n) cases b a (masks_of m b a)
    masks_are n m is false false = is.low_low
    masks_are n m is false true = is.low_high
    masks_are n m is true false = is.high_low
    masks_are n m is true true = is.high_high

    module _ (case : ℕ) (start : States) where
      -- the case waits where it waited at first, all was allowed and none of the counted values was true; it has seen where it had at first, or
      -- waited and some of them was
      pub record Runs (n : ℕ) (s : States) : Type 0 where
        pub waiting : has s.waiting case ≡ (has start.waiting case && (all_allowed case n && not (some_counted n)))
        pub seen : has s.seen case ≡ (all_allowed case n && (has start.seen case || (has start.waiting case && some_counted n)))

      waits : (w oks hits ok hit : Bool) → ((w && (oks && not hits)) && (not hit && ok)) ≡ (w && ((oks && ok) && not (hits || hit)))
      waits false oks hits ok hit = refl
      waits true false hits ok hit = refl
      waits true true true ok true = and_false ok
        where
          and_false : (x : Bool) → false ≡ (x && false)
          and_false true = refl
          and_false false = refl
      waits true true true ok false = and_false ok
        where
          and_false : (x : Bool) → false ≡ (x && false)
          and_false true = refl
          and_false false = refl
      waits true true false true true = refl
      waits true true false false true = refl
      waits true true false true false = refl
      waits true true false false false = refl

      sees : (w s oks hits ok hit : Bool) → (((oks && (s || (w && hits))) && ok) || ((w && (oks && not hits)) && (hit && ok))) ≡ ((oks && ok) && (s || (w && (hits || hit))))
      sees true s false hits ok hit = refl
      sees false s false hits ok hit = refl
      sees true true true true true hit = refl
      sees true true true true false true = refl
      sees true true true true false false = refl
      sees true true true false true hit = refl
      sees true true true false false true = refl
      sees true true true false false false = refl
      sees true false true true true hit = refl
      sees true false true true false true = refl
      sees true false true true false false = refl
      sees true false true false true true = refl
      sees true false true false true false = refl
      sees true false true false false true = refl
      sees true false true false false false = refl
      sees false true true hits true hit = refl
      sees false true true hits false hit = refl
      sees false false true hits true hit = refl
      sees false false true hits false hit = refl

      pub runs : (n : ℕ) (moves : List Move) → nat_lt case cases ≡ true → AreMoves sources cases parts n moves → Stay n moves → Runs n (run moves start)
      runs _ _ within none stay = record { waiting = and_true (has start.waiting case); seen = or_none (has start.seen case) (has start.waiting case) }
        where
          and_true : (x : Bool) → x ≡ (x && true)
          and_true true = refl
          and_true false = refl

          or_none : (x y : Bool) → x ≡ (x || (y && false))
          or_none true y = refl
          or_none false true = refl
          or_none false false = refl
      runs _ _ within (moved {n = k} {moves = rest} m are is) stay =
          let old = runs k rest within are (λ j lt still. stay j (omega (arith, lt)) (still_push rest m (4 * j + 1) still (λ e. let at = is.variable in let p = placed k in absurd (omega (arith, lt, e, at, p))))) in
          let s = run rest start in
          let b = before m.variable in
          let a = truth_after m after in
          let at : m.variable ≡ 4 * k + 1 = is.variable ∙ ap (λ x. 4 * x + 1) (placed k) in
          let b_is : b ≡ before (4 * k + 1) = ap before at in
          let a_is : a ≡ after (4 * k + 1) = ap (λ f. not f && after m.variable) is.kept ∙ ap after at in
          let masks = masks_are k m is b a in
          let ok_is : (nat_lt case cases && allows_in sources (parts k) case b a) ≡ allowed_at case k = ap (λ c. c && allows_in sources (parts k) case b a) within ∙ ap (λ x. allows_in sources (parts k) case x a) b_is ∙ ap (allows_in sources (parts k) case (before (4 * k + 1))) a_is in
          let hit_is : ((parts k).counted && b) ≡ counted_at k = ap (λ x. (parts k).counted && x) b_is in
          let mw : has (masks_of m b a).waiting case ≡ (not (counted_at k) && allowed_at case k) = masks.waiting case ∙ ap (λ x. not x && (nat_lt case cases && allows_in sources (parts k) case b a)) hit_is ∙ ap (λ x. not (counted_at k) && x) ok_is in
          let ms : has (masks_of m b a).seen case ≡ allowed_at case k = masks.seen case ∙ ok_is in
          let mq : has (masks_of m b a).sees case ≡ (counted_at k && allowed_at case k) = masks.sees case ∙ ap (λ x. x && (nat_lt case cases && allows_in sources (parts k) case b a)) hit_is ∙ ap (λ x. counted_at k && x) ok_is in
          let w0 = has start.waiting case in
          let s0 = has start.seen case in
          let oks = all_allowed case k in
          let hits = some_counted k in
          let ok = allowed_at case k in
          let hit = counted_at k in
          record {
            waiting = ap (λ (x : States). has x.waiting case) (run_push rest m start) ∙ has_and s.waiting (masks_of m b a).waiting case
                ∙ ap (λ x. x && has (masks_of m b a).waiting case) old.waiting ∙ ap (λ x. (w0 && (oks && not hits)) && x) mw ∙ waits w0 oks hits ok hit;
            seen = ap (λ (x : States). has x.seen case) (run_push rest m start) ∙ has_or (bit_and s.seen (masks_of m b a).seen) (bit_and s.waiting (masks_of m b a).sees) case
                ∙ ap (λ x. x || has (bit_and s.waiting (masks_of m b a).sees) case) (has_and s.seen (masks_of m b a).seen case)
                ∙ ap (λ x. (has s.seen case && has (masks_of m b a).seen case) || x) (has_and s.waiting (masks_of m b a).sees case)
                ∙ ap (λ x. (x && has (masks_of m b a).seen case) || (has s.waiting case && has (masks_of m b a).sees case)) old.seen
                ∙ ap (λ x. ((oks && (s0 || (w0 && hits))) && x) || (has s.waiting case && has (masks_of m b a).sees case)) ms
                ∙ ap (λ x. ((oks && (s0 || (w0 && hits))) && ok) || (x && has (masks_of m b a).sees case)) old.waiting
                ∙ ap (λ x. ((oks && (s0 || (w0 && hits))) && ok) || ((w0 && (oks && not hits)) && x)) mq
                ∙ sees w0 s0 oks hits ok hit;
          }
      runs _ _ within (kept {n = k} {moves = rest} are is) stay =
          let old = runs k rest within are (λ j lt still. stay j (omega (arith, lt)) still) in
          let same = stay k (omega arith) (still_behind k rest (4 * k + 1) are (omega arith)) in
          let ok : allowed_at case k ≡ true = kept_stays sources (parts k) case (before (4 * k + 1)) (after (4 * k + 1)) is same in
          let hit : counted_at k ≡ false = ap (λ x. x && before (4 * k + 1)) is.uncounted in
          let oks : all_allowed case k ≡ all_allowed case (suc k) = and_kept (all_allowed case k) ∙ ap (λ x. all_allowed case k && x) (sym ok) in
          let hits : some_counted k ≡ some_counted (suc k) = or_kept (some_counted k) ∙ ap (λ x. some_counted k || x) (sym hit) in
          record {
            waiting = old.waiting ∙ ap (λ x. has start.waiting case && (x && not (some_counted k))) oks ∙ ap (λ x. has start.waiting case && (all_allowed case (suc k) && not x)) hits;
            seen = old.seen ∙ ap (λ x. x && (has start.seen case || (has start.waiting case && some_counted k))) oks ∙ ap (λ x. all_allowed case (suc k) && (has start.seen case || (has start.waiting case && x))) hits;
          }
        where
          and_kept : (x : Bool) → x ≡ (x && true)
          and_kept true = refl
          and_kept false = refl

          or_kept : (x : Bool) → x ≡ (x || false)
          or_kept true = refl
          or_kept false = refl

      -- a case that is not one of the rule's is not there
      runs_none : (moves : List Move) (s : States) → has s.waiting case ≡ false → has s.seen case ≡ false → has (run moves s).seen case ≡ false
      runs_none [] s w e = e
      runs_none (m ∷ moves) s w e =
          let masks = masks_of m (before m.variable) (truth_after m after) in
          runs_none moves (next_states m (before m.variable) (truth_after m after) s)
          (has_and s.waiting masks.waiting case ∙ ap (λ x. x && has masks.waiting case) w)
          (has_or (bit_and s.seen masks.seen) (bit_and s.waiting masks.sees) case ∙ ap (λ x. x || has (bit_and s.waiting masks.sees) case) (has_and s.seen masks.seen case ∙ ap (λ x. x && has masks.seen case) e)
          ∙ has_and s.waiting masks.sees case ∙ ap (λ x. x && has masks.sees case) w)

    -- some case may be left where the states are accepted that have seen
    accepted_some : (accepted s : States) → accepted.waiting ≡ 0 → accepted.seen ≡ 2 ^ 32 - 1 → accepts accepted s ≡ true → (case : ℕ) × (case < 32) × (has s.seen case ≡ true)
    accepted_some accepted s quiet ones e = by_search (any_below (has s.seen) 32) refl
      where
        shown : not (bit_and s.seen (2 ^ 32 - 1) == 0) ≡ true
        shown = sym (ap (λ x. not (x == 0) || not (bit_and s.seen accepted.seen == 0)) (ap (bit_and s.waiting) quiet ∙ and_zero_r s.waiting) ∙ ap (λ x. not (bit_and s.seen x == 0)) ones) ∙ e

        empty : any_below (has s.seen) 32 ≡ false → (j : ℕ) → has (bit_and s.seen (2 ^ 32 - 1)) j ≡ false
        empty f j = has_and s.seen (2 ^ 32 - 1) j ∙ ⊎_elim
            (λ lt. ap (λ x. x && has (2 ^ 32 - 1) j) (none_below (has s.seen) 32 j f lt))
            (λ ge. ap (λ x. has s.seen j && (x == 1)) (bit_at_ones_above 32 j ge) ∙ and_false (has s.seen j))
            (cases_lt j 32)
          where
            and_false : (x : Bool) → (x && false) ≡ false
            and_false true = refl
            and_false false = refl

        by_search : (b : Bool) → any_below (has s.seen) 32 ≡ b → (case : ℕ) × (case < 32) × (has s.seen case ≡ true)
        by_search true f = some_below (has s.seen) 32 f
        by_search false f = let clash : false ≡ true = sym (ap (λ x. not (x == 0)) (has_none (bit_and s.seen (2 ^ 32 - 1)) (empty f))) ∙ shown in absurd (cc clash)

    some_accepted : (accepted s : States) (case : ℕ) → accepted.waiting ≡ 0 → accepted.seen ≡ 2 ^ 32 - 1 → case < 32 → has s.seen case ≡ true → accepts accepted s ≡ true
    some_accepted accepted s case quiet ones lt e = ap (λ x. not (x == 0) || not (bit_and s.seen accepted.seen == 0)) (ap (bit_and s.waiting) quiet ∙ and_zero_r s.waiting)
        ∙ ap (λ x. not (bit_and s.seen x == 0)) ones ∙ ap not (ne_eqb (bit_and s.seen (2 ^ 32 - 1)) 0 (λ zero'.
        let clash : false ≡ true = sym (has_zero case) ∙ sym (ap (λ x. has x case) zero') ∙ has_and s.seen (2 ^ 32 - 1) case ∙ and_from (has s.seen case) (has (2 ^ 32 - 1) case) e (has_ones case lt) in cc clash))

    -- a counted value that is true is so in the case
    pub counted_any : (case n : ℕ) → all_allowed case n ≡ true → some_counted n ≡ true → is_any case ≡ true
    counted_any case zero all some = absurd (cc some)
    counted_any case (suc n) all some =
        let parts' = and_parts (all_allowed case n) (allowed_at case n) all in
        by_last (some_counted n) refl (counted_any case n parts'.0) (and_parts (agrees sources (parts n) case (before (4 * n + 1))) (fits_as (parts n).exact (bound_in sources (parts n) case (before (4 * n + 1))) (after (4 * n + 1))) parts'.1).0
      where
        seen_any : (c d : Bool) (b : Bool) → c ≡ true → (b && (not c || d)) ≡ true → d ≡ true
        seen_any true d true f e = e
        seen_any true d false f e = absurd (cc e)
        seen_any false d b f e = absurd (cc f)

        by_last : (b : Bool) → some_counted n ≡ b → (some_counted n ≡ true → is_any case ≡ true) → agrees sources (parts n) case (before (4 * n + 1)) ≡ true → is_any case ≡ true
        by_last true f rest agree = rest f
        by_last false f rest agree = seen_any (counted_at n) (is_any case) (if is_listed sources (parts n).place then is_same (before (4 * n + 1)) (guessed sources (case / 2) (parts n).place) else true)
            (ap (λ x. x || counted_at n) (sym f) ∙ some) agree

    module _ (size : ℕ) (moves : List Move) (start accepted : States) (are : AreMoves sources cases parts size moves)
        (waiting : (case : ℕ) → has start.waiting case ≡ (nat_lt case cases && is_any case)) (seen : (case : ℕ) → has start.seen case ≡ (nat_lt case cases && not (is_any case)))
        (accepts_none : accepted.waiting ≡ 0) (accepts_seen : accepted.seen ≡ 2 ^ 32 - 1) (stay : Stay size moves) where
      -- a case of the rule in which all places are allowed, and in which some counted value is true exactly where it says so
      pub record IsLeft : Type 0 where
        pub case : ℕ
        pub within : nat_lt case cases ≡ true
        pub all : all_allowed case size ≡ true
        pub any : is_any case ≡ some_counted size

      left_parts : (all any some : Bool) → (all && (not any || (any && some))) ≡ true → (some ≡ true → any ≡ true) → (all ≡ true) × (any ≡ some)
      left_parts true true true e f = (refl, refl)
      left_parts true true false e f = absurd (cc e)
      left_parts true false true e f = absurd (cc (f refl))
      left_parts true false false e f = (refl, refl)
      left_parts false any some e f = absurd (cc e)

      start_seen : (case : ℕ) → nat_lt case cases ≡ true → (has start.seen case ≡ not (is_any case)) × (has start.waiting case ≡ is_any case)
      start_seen case within = (seen case ∙ ap (λ x. x && not (is_any case)) within, waiting case ∙ ap (λ x. x && is_any case) within)

      seen_is : (case : ℕ) → nat_lt case cases ≡ true → has (run moves start).seen case ≡ (all_allowed case size && (not (is_any case) || (is_any case && some_counted size)))
      seen_is case within =
          let first = start_seen case within in
          (runs case start size moves within are stay).seen ∙ ap (λ x. all_allowed case size && (x || (has start.waiting case && some_counted size))) first.0 ∙ ap (λ x. all_allowed case size && (not (is_any case) || (x && some_counted size))) first.1

      pub left_case : allows accepted moves start before after ≡ true → IsLeft
      left_case e =
          let found = accepted_some accepted (run moves start) accepts_none accepts_seen (sym (allows_run accepted moves start) ∙ e) in
          by_test found.0 found.2 (nat_lt found.0 cases) refl
        where
          by_test : (case : ℕ) → has (run moves start).seen case ≡ true → (b : Bool) → nat_lt case cases ≡ b → IsLeft
          by_test case there true within =
              let shown = sym (seen_is case within) ∙ there in
              let all = (and_parts (all_allowed case size) (not (is_any case) || (is_any case && some_counted size)) shown).0 in
              let parts' = left_parts (all_allowed case size) (is_any case) (some_counted size) shown (counted_any case size all) in
              record { case = case; within = within; all = parts'.0; any = parts'.1 }
          by_test case there false out =
              let clash : false ≡ true = sym (runs_none case start moves start (waiting case ∙ ap (λ x. x && is_any case) out) (seen case ∙ ap (λ x. x && not (is_any case)) out)) ∙ there in absurd (cc clash)

      pub case_left : cases ≤ 32 → IsLeft → allows accepted moves start before after ≡ true
      case_left few left =
          let lt = ltb-true left.case cases left.within in
          allows_run accepted moves start ∙ some_accepted accepted (run moves start) left.case accepts_none accepts_seen (omega (arith, few, lt))
          (seen_is left.case left.within ∙ all_seen (all_allowed left.case size) (is_any left.case) (some_counted size) left.all left.any)
        where
          all_seen : (all any some : Bool) → all ≡ true → any ≡ some → (all && (not any || (any && some))) ≡ true
          all_seen true true some e f = sym f
          all_seen true false some e f = refl
          all_seen false any some e f = absurd (cc e)
