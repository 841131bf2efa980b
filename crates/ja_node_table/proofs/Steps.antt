-- Each step of a seat is an event of the table machine, so it keeps the rule.
use Rattle.std.proofs.Common.{◌≡◌, ℕ, zero, suc, ◌<◌, Bool, true, false, eqb, List, [], ◌∷◌, ◌++◌, map, length, set, refl, sym, ap, ◌∙◌, subst, ⊎_elim, arith, get_or-set_same}
use Rattle.std.specs.Prelude.{slice_index, slice_index_or, Some, if◌then◌else◌, ◌==◌}
use Rattle.std.proofs.lemmas.List.{set-get_or}
use mathlib.Core.Option.{none, some, some-injective, some-ne-none}
use mathlib.Core.List.{map-append}
use lib.ListN.{get_elem?}
use lib.Seq.{map-set}
use prog.Atomic.{either}
use Rattle.atomic_table.specs.Table.{State, Me, step, keeps, Allows, Splits, Joins}
use Rattle.atomic_table.proofs.Lists.{at_set, at_snoc, set_again, set_here}
use Rattle.ja_node_core.specs.Tree.{Tree}
use Rattle.ja_node_core.specs.Word.{place}
use Rattle.ja_node_core.specs.Machine.{Known, word_at, learned, AllStand, Actor, gone, active, Event, looks, claims, forks, meets, start, MayClaim, claimed, seen, Does, Runs}
use Rattle.ja_node_core.specs.Machine as machine
use Rattle.ja_node_core.proofs.Words.{place_below}
use Rattle.ja_node_core.proofs.Runs.{run_kept, runs_on}
use Rattle.ja_node_table.specs.declared.view.View.{View}
use Rattle.ja_node_table.specs.declared.view.Plan.{Plan}
use Rattle.ja_node_table.specs.Rule.{acting, actor_of, with_word, with_both, spent_view, IsReached, HasSeen, Looked, Claimed}
use Rattle.ja_node_table.proofs.Seen.{learned_here, stands_before}

within : {B : Type 0} (l : List B) (i : ℕ) (b : B) → get_elem? l i ≡ some b → i < length l
within [] i b e = absurd (some-ne-none b (sym e))
within (x ∷ xs) zero b e = omega arith
within (x ∷ xs) (suc i) b e = let rest = within xs i b e in omega arith

-- the words after an exchange of 0 for w at p, and what stands there then
exchanged_words : (words : List ℕ) (p w : ℕ) → set words p (either (eqb (slice_index words p) 0) w (slice_index words p)) ≡ claimed words p w
exchanged_words words p w = by_test (eqb (slice_index words p) 0)
  where
    by_test : (b : Bool) → set words p (either b w (slice_index words p)) ≡ (if b then set words p w else words)
    by_test true = refl
    by_test false = set-get_or words p 0

exchanged_here : (words : List ℕ) (p w : ℕ) → p < length words → slice_index (claimed words p w) p ≡ (if slice_index words p == 0 then w else slice_index words p)
exchanged_here words p w lt = by_test (slice_index words p == 0)
  where
    by_test : (b : Bool) → slice_index (if b then set words p w else words) p ≡ (if b then w else slice_index words p)
    by_test true = get_or-set_same words p w 0 lt
    by_test false = refl

module _ {A : Type 0} (aims : A → Tree → Type 0) (x : Plan A) where
  -- the actor of a seat
  actor_at : (views : List (View A)) (id : ℕ) (v : View A) → get_elem? views id ≡ some v → v.plan ≡ Some x → slice_index_or (map actor_of views) id gone ≡ active v.known
  actor_at [] id v e plan = absurd (some-ne-none v (sym e))
  actor_at (u ∷ us) zero v e plan = ap actor_of (some-injective u v e) ∙ ap (λ p. acting p v.known) plan
  actor_at (u ∷ us) (suc id) v e plan = actor_at us id v e plan

  abbrev HasPlan : View A → Type 0
  HasPlan v = (y : Plan A) → v.plan ≡ Some y → y ≡ x

  abbrev AllHavePlan : List (View A) → Type 0
  AllHavePlan views = (id : ℕ) (v : View A) → get_elem? views id ≡ some v → HasPlan v

  all_have : (views : List (View A)) (id : ℕ) (w : View A) → AllHavePlan views → HasPlan w → AllHavePlan (set views id w)
  all_have views id w all mine j v e = ⊎_elim (λ t. subst HasPlan t.1 mine) (λ t. all j v t.1) (at_set views id j w v e)

  abbrev state_of : List ℕ → List (View A) → machine.State
  state_of words views = record { words = words; actors = map actor_of views }

  -- one event more
  go_on : (s t : State (Unit {0}) (View A)) (e : Event) → IsReached aims x s → Does x.slots (aims x.aim) e (state_of s.words s.views) (state_of t.words t.views) → AllHavePlan t.views → IsReached aims x t
  go_on s t e reached does all = record {
    events = reached.events ++ e ∷ [];
    run = runs_on x.slots (aims x.aim) reached.events e (start x.slots) (state_of s.words s.views) (state_of t.words t.views) reached.run does;
    one_plan = all;
  }

  -- the state after the seat has seen what stands at p, as the machine has it
  seen_state : (words : List ℕ) (views : List (View A)) (id : ℕ) (v : View A) (p : ℕ) → v.plan ≡ Some x
      → state_of words (set views id (with_word v p (slice_index words p))) ≡ seen words (map actor_of views) id v.known p
  seen_state words views id v p plan =
      let w = with_word v p (slice_index words p) in
      let actors : map actor_of (set views id w) ≡ set (map actor_of views) id (active (learned v.known p (slice_index words p))) =
      map-set actor_of views id w ∙ ap (λ q. set (map actor_of views) id (acting q (learned v.known p (slice_index words p)))) plan in
      λ i. record { words = words; actors = actors i }

  -- what a seat knows in a state that events made stands there
  stands : (s : State (Unit {0}) (View A)) (id : ℕ) (v : View A) → IsReached aims x s → get_elem? s.views id ≡ some v → v.plan ≡ Some x → AllStand (slice_index s.words) v.known
  stands s id v reached at plan =
      let kept = run_kept x.slots (aims x.aim) reached.events (state_of s.words s.views) reached.run in
      kept.stands id v.known (actor_at s.views id v at plan)

  -- the rule after the seat has seen what stands at p now, and what the seat is told
  sees : (s : State (Unit {0}) (View A)) (words : List ℕ) (e : Event) (id : ℕ) (v : View A) (p : ℕ) → v.plan ≡ Some x → IsReached aims x s → get_elem? s.views id ≡ some v
      → Does x.slots (aims x.aim) e (state_of s.words s.views) (seen words (map actor_of s.views) id v.known p)
      → IsReached aims x record { words = words; homes = s.homes; views = set s.views id (with_word v p (slice_index words p)) } × HasSeen aims v p (slice_index words p) (with_word v p (slice_index words p))
  sees s words e id v p plan reached at does =
      let w = with_word v p (slice_index words p) in
      let t : State (Unit {0}) (View A) = record { words = words; homes = s.homes; views = set s.views id w } in
      let now = go_on s t e reached
      (subst (Does x.slots (aims x.aim) e (state_of s.words s.views)) (sym (seen_state words s.views id v p plan)) does)
      (all_have s.views id w reached.one_plan (reached.one_plan id v at)) in
      let kept = run_kept x.slots (aims x.aim) now.events (state_of t.words t.views) now.run in
      let mine = stands t id w now (set_here s.views id w (within s.views id v at)) plan in (
        now,
        record {
          is = refl;
          here = learned_here (slice_index words) v.known p (stands_before (slice_index words) v.known p (slice_index words p) mine);
          view = (x, plan, record { words = slice_index words; canonical = kept.canonical; stands = mine });
        },
      )

  -- a load is the event that looks
  pub looks_allowed : (slots id : ℕ) (me : Me (Unit {0}) (View A)) (p : ℕ) → me.0.plan ≡ Some x → Allows (IsReached aims x) slots id me p (λ n. n) (Looked aims (step slots p 0 0 none) me)
  looks_allowed slots id me p plan s reached _ at _ =
      let found = slice_index s.words p in
      let w = with_word me.0 p found in
      let r = sees s s.words (looks id p) id me.0 p plan reached at (me.0.known, actor_at s.views id me.0 at plan, refl) in
      (w, keeps, tt, subst (λ words. IsReached aims x record { words = words; homes = s.homes; views = set s.views id w }) (sym (set-get_or s.words p 0)) r.0, (refl, r.1))

  -- an exchange is the event that claims
  pub claims_allowed : (slots id : ℕ) (me : Me (Unit {0}) (View A)) (w i : ℕ) → me.0.plan ≡ Some x → MayClaim x.slots (aims x.aim) (word_at me.0.known) w i
      → Allows (IsReached aims x) slots id me (place x.slots w i) (λ n. either (eqb n 0) w n) (Claimed aims (step slots (place x.slots w i) 0 w none) me)
  claims_allowed slots id me w i plan may s reached _ at _ =
      let p = place x.slots w i in
      let found = slice_index s.words p in
      let words = claimed s.words p w in
      let now = with_word me.0 p (slice_index words p) in
      let r = sees s words (claims id w i) id me.0 p plan reached at (me.0.known, actor_at s.views id me.0 at plan, may, refl) in
      let kept = run_kept x.slots (aims x.aim) reached.events (state_of s.words s.views) reached.run in
      let lt : p < length s.words = subst (λ n. p < n) (sym kept.counted) (place_below x.slots w i i may.within) in (
        now,
        keeps,
        tt,
        subst (λ ws. IsReached aims x record { words = ws; homes = s.homes; views = set s.views id now }) (sym (exchanged_words s.words p w)) r.0,
        (refl, subst (λ u. HasSeen aims me.0 p u now) (exchanged_here s.words p w lt) r.1),
      )

  -- a split is the event that forks
  pub splits_allowed : (id : ℕ) (v : View A) → v.plan ≡ Some x → Splits (IsReached aims x) id v v v
  splits_allowed id v plan s reached at =
      let same : set s.views id v ≡ s.views = set_again s.views id v at in
      let t : State (Unit {0}) (View A) = record { words = s.words; homes = s.homes; views = s.views ++ v ∷ [] } in
      let actors : map actor_of (s.views ++ v ∷ []) ≡ map actor_of s.views ++ active v.known ∷ [] = map-append actor_of s.views (v ∷ []) ∙ ap (λ p. map actor_of s.views ++ acting p v.known ∷ []) plan in
      let now : IsReached aims x t = go_on s t (forks id) reached
      (v.known, actor_at s.views id v at plan, λ i. record { words = s.words; actors = actors i })
      (λ j u e. ⊎_elim (λ was. reached.one_plan j u was) (λ is. subst HasPlan is (reached.one_plan id v at)) (at_snoc s.views v u j e)) in
      subst (λ views. IsReached aims x record { words = s.words; homes = s.homes; views = views ++ v ∷ [] }) (sym same) now

  -- a join is the event that meets
  pub joins_allowed : (id other : ℕ) (v u : View A) → v.plan ≡ Some x → u.plan ≡ Some x → Joins (IsReached aims x) id v other u (with_both v u) spent_view
  joins_allowed id other v u plan plan' s reached at apart there =
      let both = with_both v u in
      let mine = reached.one_plan id v at in
      let before : get_elem? s.views other ≡ some u = ⊎_elim (λ t. absurd (apart t.0)) (λ t. t.1) (at_set s.views id other both u there) in
      let views = set (set s.views id both) other spent_view in
      let actors : map actor_of views ≡ set (set (map actor_of s.views) id (active (v.known ++ u.known))) other gone =
      map-set actor_of (set s.views id both) other spent_view
      ∙ ap (λ l. set l other gone) (map-set actor_of s.views id both ∙ ap (λ p. set (map actor_of s.views) id (acting p (v.known ++ u.known))) plan) in
      go_on s record { words = s.words; homes = s.homes; views = views } (meets id other) reached
      (v.known, u.known, actor_at s.views id v at plan, actor_at s.views other u before plan', (λ e. apart (sym e)), λ i. record { words = s.words; actors = actors i })
      (all_have (set s.views id both) other spent_view (all_have s.views id both reached.one_plan mine) (λ y e. absurd (cc)))

  -- the same at a place that is the path's
  pub claims_at : (slots id : ℕ) (me : Me (Unit {0}) (View A)) (w i p : ℕ) → p ≡ place x.slots w i → me.0.plan ≡ Some x → MayClaim x.slots (aims x.aim) (word_at me.0.known) w i
      → Allows (IsReached aims x) slots id me p (λ n. either (eqb n 0) w n) (Claimed aims (step slots p 0 w none) me)
  claims_at slots id me w i p e plan may = subst (λ q. Allows (IsReached aims x) slots id me q (λ n. either (eqb n 0) w n) (Claimed aims (step slots q 0 w none) me)) (sym e) (claims_allowed slots id me w i plan may)
