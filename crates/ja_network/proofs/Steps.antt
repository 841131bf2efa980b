-- What a network keeps where one cell changes, and what it then tells.
use Rattle.std.proofs.Common.{◌≡◌, ◌⊎◌, ◌↔◌, inl, inr, ℕ, zero, suc, ◌+◌, ◌-◌, ◌<◌, ◌≤◌, Bool, true, false, ◌||◌, List, [], ◌∷◌, ◌++◌, Option, Some, None, unwrap_or, length, take, drop, get_or, replicate, refl, sym, ap, subst, ◌∙◌, true≢false, arith}
use Rattle.std.specs.Prelude.{Contains, slice_get, if◌then◌else◌}
use Rattle.std.specs.HashMap.{get}
use Rattle.std.proofs.lemmas.Bool.{cases_Bool}
use Rattle.std.proofs.lemmas.List.{take-append-le, drop-append-le, length-append, length-drop, append-nil, take_more, drop_more, take_all}
use Rattle.std.proofs.Math.ListN.{length-replicate}
use Rattle.std.specs.List.{list_any}
use Rattle.std.proofs.lemmas.List.Elements.{Contains-append_left, Contains-push, Contains-push_cases}
use Rattle.std.proofs.lemmas.Option.{slice_get_within, get_or_from_slice_get, same_Some}
use Rattle.indexmap.proofs.CallerLemmas.{Contains-insert_key}
use Rattle.ja_sets.specs.Sets.{Has, Lacks}
use Rattle.ja_network.specs.declared.cell.Cell.{Cell}
use Rattle.ja_network.specs.declared.cell.Action.{Action}
use Rattle.ja_network.specs.declared.cell.Event.{Event}
use Rattle.ja_network.specs.declared.cell.Event.TheVariants.{Linked}
use Rattle.ja_network.specs.declared.state.CellState.{CellState}
use Rattle.ja_network.specs.declared.network.Network.{Network}
use Rattle.ja_network.specs.Cells.{empty_state, Gains}
use Rattle.ja_network.specs.Facts.{Fact, HasToken, Happens, same_cell, same_event, state_of, events_of, Tells, IsSettled, IsNetwork, Extends, Settles, IsIn, IsNext, IsQuiet, SameOutside, Puts, KeepsLink, with_turn}
use Rattle.ja_network.proofs.Same.{cell_decides, event_decides}

-- an item of a list stays where the list grows
pub get_front : {A : Type 0} (xs ys : List A) (i : ℕ) (x : A) → slice_get xs i ≡ Some x → slice_get (xs ++ ys) i ≡ Some x
get_front [] ys i x h = absurd (cc h)
get_front (y ∷ xs) ys zero x h = h
get_front (y ∷ xs) ys (suc i) x h = get_front xs ys i x h

-- the front of a list is no longer than the list
pub take-shorter : {A : Type 0} (n : ℕ) (xs : List A) → length (take n xs) ≤ length xs
take-shorter zero xs = omega arith
take-shorter (suc n) [] = omega arith
take-shorter (suc n) (x ∷ xs) = omega (arith, take-shorter n xs)

-- ---- truth values

-- what is not lacking is there
pub has_or_lacks : (set : List Bool) (t : ℕ) → Has set t ⊎ Lacks set t
has_or_lacks set t = cases_Bool (get_or set t false)

pub not_both : {A : Type 0} (set : List Bool) (t : ℕ) → Has set t → Lacks set t → A
not_both set t h l = absurd (true≢false (sym h ∙ l))

pub lacks : (set : List Bool) (t : ℕ) → (Has set t → ⊥) → Lacks set t
lacks set t nay = elim (has_or_lacks set t) [ inl h ↦ absurd (nay h) | inr l ↦ l ]

-- whether two cells are the same
pub same_or_not : (c d : Cell) → (d ≡ c) ⊎ (d ≡ c → ⊥)
same_or_not c d = elim (cases_Bool (same_cell c d)) [
  | inl is ↦ inl (sym ((cell_decides c d).0 is))
  | inr nay ↦ inr (λ e. true≢false (sym ((cell_decides c d).1 (sym e)) ∙ nay))
]

-- two different cells are told apart
pub told_apart : (c d : Cell) → (d ≡ c → ⊥) → same_cell c d ≡ false
told_apart c d ne = elim (cases_Bool (same_cell c d)) [ inl is ↦ absurd (ne (sym ((cell_decides c d).0 is))) | inr nay ↦ nay ]

-- ---- a cell that changes, and nothing else

pub record Changes (old new : Network) (c : Cell) (state : CellState) : Type 0 where
  pub here : state_of new c ≡ state
  pub elsewhere : (d : Cell) → (d ≡ c → ⊥) → state_of new d ≡ state_of old d
  pub outside : SameOutside old new

pub changes : (old mid new : Network) (c : Cell) (state : CellState) → ((d : Cell) → (d ≡ c → ⊥) → state_of mid d ≡ state_of old d) → SameOutside old mid → Puts mid new c state → Changes old new c state
changes old mid new c state apart outside puts = record {
  here = puts.here;
  elsewhere = λ d ne. puts.elsewhere d ne ∙ apart d ne;
  outside = record {
    tokens = puts.outside.tokens ∙ outside.tokens;
    events = puts.outside.events ∙ outside.events;
    seen = puts.outside.seen ∙ outside.seen;
    turned = puts.outside.turned ∙ outside.turned;
  };
}

-- what waited waits
still : (turned : ℕ) (turns : List Cell) (c d : Cell) (waits queued : Bool) → turned ≤ length turns → Contains (drop turned turns) d → Contains (drop turned (with_turn turns c waits queued)) d
still turned turns c d false queued le h = h
still turned turns c d true true le h = h
still turned turns c d true false le h = subst (λ (ts : List Cell). Contains ts d) (sym (drop-append-le turned turns (c ∷ []) le)) (Contains-append_left (drop turned turns) (c ∷ []) d h)

-- and the cell that is said to wait does
waiting : (turned : ℕ) (turns : List Cell) (c : Cell) (waits queued : Bool) → turned ≤ length turns → (queued ≡ true → Contains (drop turned turns) c) → (waits || queued) ≡ true
    → Contains (drop turned (with_turn turns c waits queued)) c
waiting turned turns c false queued le there h = there h
waiting turned turns c true true le there h = there refl
waiting turned turns c true false le there h = subst (λ (ts : List Cell). Contains ts c) (sym (drop-append-le turned turns (c ∷ []) le)) (Contains-push (drop turned turns) c)

longer : (turned : ℕ) (turns : List Cell) (c : Cell) (waits queued : Bool) → turned ≤ length turns → turned ≤ length (with_turn turns c waits queued)
longer turned turns c false queued le = le
longer turned turns c true true le = le
longer turned turns c true false le = let e = length-append turns (c ∷ []) in omega arith

kept-turn : (turns : List Cell) (c d : Cell) (waits queued : Bool) (k : ℕ) → slice_get turns k ≡ Some d → slice_get (with_turn turns c waits queued) k ≡ Some d
kept-turn turns c d false queued k h = h
kept-turn turns c d true true k h = h
kept-turn turns c d true false k h = get_front turns (c ∷ []) k d h

either-true : (a b : Bool) → b ≡ true → (a || b) ≡ true
either-true true b h = refl
either-true false b h = h

first-true : (a b : Bool) → a ≡ true → (a || b) ≡ true
first-true true b h = refl
first-true false b h = absurd (true≢false (sym h))

-- ---- a cell that gains tokens

module _ (old new : Network) (c : Cell) (state : CellState) (S : ℕ → Type 0) (fresh : Bool)
    (net : IsNetwork old) (gains : Gains (state_of old c) state S) (none : fresh ≡ false → (t : ℕ) → S t → Has (state_of old c).has t)
    (ch : Changes old new c (record state { queued = fresh || state.queued })) (turns : new.turns.items ≡ with_turn old.turns.items c fresh state.queued) where
  abbrev final : CellState
  final = record state { queued = fresh || state.queued }

  -- a property of each cell's state, from that of the changed one and those of the others
  each : (P : Cell → CellState → Type 0) → P c final → ((d : Cell) → P d (state_of old d)) → (d : Cell) → P d (state_of new d)
  each P here others d = elim (same_or_not c d) [
    | inl e ↦ subst (λ (x : Cell). P x (state_of new x)) (sym e) (subst (P c) (sym ch.here) here)
    | inr ne ↦ subst (P d) (sym (ch.elsewhere d ne)) (others d)
  ]

  was_queued : state.queued ≡ (state_of old c).queued
  was_queued = gains.queued

  now_waits : (t : ℕ) → Has state.fresh t → (fresh || state.queued) ≡ true
  now_waits t h = elim ((gains.fresh t).0 h) [
    | inl before ↦ either-true fresh state.queued (gains.queued ∙ net.waits c t before)
    | inr came ↦ first-true fresh state.queued (elim (cases_Bool fresh) [ inl aye ↦ aye | inr nay ↦ not_both (state_of old c).has t (none nay t came.0) came.1 ])
  ]

  events_same : (P : List Event → Type 0) → P (take old.seen (events_of old)) → P (take new.seen (events_of new))
  events_same P h = subst (λ (n : ℕ). P (take n (events_of new))) (sym ch.outside.seen) (subst (λ (es : List Event). P (take old.seen es)) (sym ch.outside.events) h)

  events_back : (P : List Event → Type 0) → P (take new.seen (events_of new)) → P (take old.seen (events_of old))
  events_back P h = subst (λ (es : List Event). P (take old.seen es)) ch.outside.events (subst (λ (n : ℕ). P (take n (events_of new))) ch.outside.seen h)

  turns_same : (d : Cell) → Contains (drop old.turned (with_turn old.turns.items c fresh state.queued)) d → Contains (drop new.turned new.turns.items) d
  turns_same d h = subst (λ (n : ℕ). Contains (drop n new.turns.items) d) (sym ch.outside.turned) (subst (λ (ts : List Cell). Contains (drop old.turned ts) d) (sym turns) h)

  pub gained_network : IsNetwork new
  gained_network = record {
    has_size = each (λ d s. length s.has ≡ new.tokens) (gains.has_size ∙ net.has_size c ∙ sym ch.outside.tokens) (λ d. net.has_size d ∙ sym ch.outside.tokens);
    fresh_size = each (λ d s. length s.fresh ≡ new.tokens) (gains.fresh_size ∙ net.fresh_size c ∙ sym ch.outside.tokens) (λ d. net.fresh_size d ∙ sym ch.outside.tokens);
    within = each (λ d s. (t : ℕ) → Has s.fresh t → Has s.has t)
        (λ t h. (gains.has t).1 (elim ((gains.fresh t).0 h) [ inl before ↦ inl (net.within c t before) | inr came ↦ inr came.0 ]))
        net.within;
    links = each (λ d s. (a : Action) → Contains s.links a ↔ Contains (take new.seen (events_of new)) (Linked d a))
        (λ a. (
          λ h. events_same (λ es. Contains es (Linked c a)) ((net.links c a).0 (subst (λ (ls : List Action). Contains ls a) gains.links h)),
          λ h. subst (λ (ls : List Action). Contains ls a) (sym gains.links) ((net.links c a).1 (events_back (λ es. Contains es (Linked c a)) h)),
        ))
        (λ d a. (
          λ h. events_same (λ es. Contains es (Linked d a)) ((net.links d a).0 h),
          λ h. (net.links d a).1 (events_back (λ es. Contains es (Linked d a)) h),
        ));
    waits = each (λ d s. (t : ℕ) → Has s.fresh t → s.queued ≡ true) now_waits net.waits;
    queued = each (λ d s. s.queued ≡ true → Contains (drop new.turned new.turns.items) d)
        (λ h. turns_same c (waiting old.turned old.turns.items c fresh state.queued net.turned (λ q. net.queued c (sym gains.queued ∙ q)) h))
        (λ d h. turns_same d (still old.turned old.turns.items c d fresh state.queued net.turned (net.queued d h)));
    seen = subst (λ (n : ℕ). n ≤ length (events_of new)) (sym ch.outside.seen) (subst (λ (es : List Event). old.seen ≤ length es) (sym ch.outside.events) net.seen);
    turned = subst (λ (n : ℕ). n ≤ length new.turns.items) (sym ch.outside.turned) (subst (λ (ts : List Cell). old.turned ≤ length ts) (sym turns) (longer old.turned old.turns.items c fresh state.queued net.turned));
  }

  told_events : (e : Event) → Contains (events_of new) e ↔ Contains (events_of old) e
  told_events e = (λ h. subst (λ (es : List Event). Contains es e) ch.outside.events h, λ h. subst (λ (es : List Event). Contains es e) (sym ch.outside.events) h)

  tells : (f : Fact) → Tells new f ↔ (Tells old f ⊎ IsIn c S f)
  tells (HasToken d t) = elim (same_or_not c d) [
    | inl e ↦ subst (λ (x : Cell). Has (state_of new x).has t ↔ (Has (state_of old x).has t ⊎ ((x ≡ c) × S t))) (sym e)
        (subst (λ (s : CellState). Has s.has t ↔ (Has (state_of old c).has t ⊎ ((c ≡ c) × S t))) (sym ch.here) (
          λ h. elim ((gains.has t).0 h) [ inl before ↦ inl before | inr came ↦ inr (refl, came) ],
          λ either. (gains.has t).1 (elim either [ inl before ↦ inl before | inr came ↦ inr came.1 ]),
        ))
    | inr ne ↦ subst (λ (s : CellState). Has s.has t ↔ (Has (state_of old d).has t ⊎ ((d ≡ c) × S t))) (sym (ch.elsewhere d ne)) (
      λ h. inl h,
      λ either. elim either [ inl before ↦ before | inr came ↦ absurd (ne came.0) ],
    )
  ]
  tells (Happens e) = (λ h. inl ((told_events e).0 h), λ either. (told_events e).1 (elim either [ inl h ↦ h | inr nay ↦ absurd nay ]))

  here_settled : (t : ℕ) → (Has final.has t × Lacks final.fresh t) ↔ (Has (state_of old c).has t × Lacks (state_of old c).fresh t)
  here_settled t = (
    λ h. elim (has_or_lacks (state_of old c).has t) [
      | inl had ↦ (had, lacks (state_of old c).fresh t (λ before. not_both state.fresh t ((gains.fresh t).1 (inl before)) h.1))
      | inr not ↦ elim ((gains.has t).0 h.0) [
        | inl had ↦ not_both (state_of old c).has t had not
        | inr came ↦ not_both state.fresh t ((gains.fresh t).1 (inr (came, not))) h.1
      ]
    ],
    λ h. (
      (gains.has t).1 (inl h.0),
      lacks state.fresh t (λ now. elim ((gains.fresh t).0 now) [ inl before ↦ not_both (state_of old c).fresh t before h.1 | inr came ↦ not_both (state_of old c).has t h.0 came.1 ]),
    ),
  )

  settled : (f : Fact) → IsSettled new f ↔ IsSettled old f
  settled (HasToken d t) = elim (same_or_not c d) [
    | inl e ↦ subst (λ (x : Cell). IsSettled new (HasToken x t) ↔ IsSettled old (HasToken x t)) (sym e)
        (subst (λ (s : CellState). (Has s.has t × Lacks s.fresh t) ↔ IsSettled old (HasToken c t)) (sym ch.here) (here_settled t))
    | inr ne ↦ subst (λ (s : CellState). (Has s.has t × Lacks s.fresh t) ↔ IsSettled old (HasToken d t)) (sym (ch.elsewhere d ne)) (λ h. h, λ h. h)
  ]
  settled (Happens e) = (λ h. events_back (λ es. Contains es e) h, λ h. events_same (λ es. Contains es e) h)

  pub gained_extends : Extends old new (IsIn c S)
  gained_extends = record {
    same_tokens = ch.outside.tokens;
    tells = tells;
    settled = settled;
    same_seen = ch.outside.seen;
    same_turned = ch.outside.turned;
    events = λ k e h. subst (λ (es : List Event). slice_get es k ≡ Some e) (sym ch.outside.events) h;
    turns = λ k d h. subst (λ (ts : List Cell). slice_get ts k ≡ Some d) (sym turns) (kept-turn old.turns.items c d fresh state.queued k h);
    links = each (λ d s. s.links ≡ (state_of old d).links) gains.links (λ d. refl);
  }

-- ---- an event is told

module _ (old new : Network) (e : Event) (net : IsNetwork old) (tokens : new.tokens ≡ old.tokens) (states : (c : Cell) → state_of new c ≡ state_of old c)
    (events : events_of new ≡ (if list_any (same_event e) (events_of old) then events_of old else events_of old ++ e ∷ [])) (seen : new.seen ≡ old.seen)
    (turned : new.turned ≡ old.turned) (turns : new.turns.items ≡ old.turns.items) where
  abbrev grown : List Event
  grown = if list_any (same_event e) (events_of old) then events_of old else events_of old ++ e ∷ []

  -- the events are those that were, and maybe more
  abbrev more : (b : Bool) → (ys : List Event) × ((if b then events_of old else events_of old ++ e ∷ []) ≡ events_of old ++ ys)
  more true = ([], sym (append-nil (events_of old)))
  more false = (e ∷ [], refl)

  abbrev rest : List Event
  rest = (more (list_any (same_event e) (events_of old))).0

  is_more : events_of new ≡ events_of old ++ rest
  is_more = events ∙ (more (list_any (same_event e) (events_of old))).1

  same_front : take new.seen (events_of new) ≡ take old.seen (events_of old)
  same_front = ap (λ (n : ℕ). take n (events_of new)) seen ∙ ap (take old.seen) is_more ∙ take-append-le old.seen (events_of old) rest net.seen

  to_new : (P : CellState → Type 0) (c : Cell) → P (state_of old c) → P (state_of new c)
  to_new P c h = subst P (sym (states c)) h

  pub told_network : IsNetwork new
  told_network = record {
    has_size = λ c. to_new (λ s. length s.has ≡ new.tokens) c (net.has_size c ∙ sym tokens);
    fresh_size = λ c. to_new (λ s. length s.fresh ≡ new.tokens) c (net.fresh_size c ∙ sym tokens);
    within = λ c. to_new (λ s. (t : ℕ) → Has s.fresh t → Has s.has t) c (net.within c);
    links = λ c. to_new (λ s. (a : Action) → Contains s.links a ↔ Contains (take new.seen (events_of new)) (Linked c a)) c
        (subst (λ (es : List Event). (a : Action) → Contains (state_of old c).links a ↔ Contains es (Linked c a)) (sym same_front) (net.links c));
    waits = λ c. to_new (λ s. (t : ℕ) → Has s.fresh t → s.queued ≡ true) c (net.waits c);
    queued = λ c. to_new (λ s. s.queued ≡ true → Contains (drop new.turned new.turns.items) c) c
        (λ h. subst (λ (n : ℕ). Contains (drop n new.turns.items) c) (sym turned) (subst (λ (ts : List Cell). Contains (drop old.turned ts) c) (sym turns) (net.queued c h)));
    seen = let e : length (events_of old ++ rest) ≡ length (events_of old) + length rest = length-append (events_of old) rest in
        let l : length (events_of new) ≡ length (events_of old ++ rest) = ap length is_more in
        let s = net.seen in omega arith;
    turned = subst (λ (n : ℕ). n ≤ length new.turns.items) (sym turned) (subst (λ (ts : List Cell). old.turned ≤ length ts) (sym turns) net.turned);
  }

  -- the event is among the events
  told : Contains (events_of new) e
  told = subst (λ (es : List Event). Contains es e) (sym events) (Contains-insert_key same_event (λ x y. (event_decides x y).0) (events_of old) e)

  -- and each other one was
  told_before : (b : Bool) (f : Event) → Contains (if b then events_of old else events_of old ++ e ∷ []) f → Contains (events_of old) f ⊎ (f ≡ e)
  told_before true f h = inl h
  told_before false f h = elim (Contains-push_cases (events_of old) e f h) [ inl before ↦ inl before | inr is ↦ inr (sym is) ]

  happens-is : {f g : Event} → Happens f ≡ Happens g → f ≡ g
  happens-is h = cc h

  pub told_extends : Extends old new (λ f. f ≡ Happens e)
  told_extends = record {
    same_tokens = tokens;
    tells = tells;
    settled = settled;
    same_seen = seen;
    same_turned = turned;
    events = λ k f h. subst (λ (es : List Event). slice_get es k ≡ Some f) (sym is_more) (get_front (events_of old) rest k f h);
    turns = λ k d h. subst (λ (ts : List Cell). slice_get ts k ≡ Some d) (sym turns) h;
    links = λ c. ap (λ (s : CellState). s.links) (states c);
  }
    where
      tells : (f : Fact) → Tells new f ↔ (Tells old f ⊎ (f ≡ Happens e))
      tells (HasToken c t) = (
        λ h. inl (subst (λ (s : CellState). Has s.has t) (states c) h),
        λ either. elim either [ inl h ↦ subst (λ (s : CellState). Has s.has t) (sym (states c)) h | inr nay ↦ absurd (cc nay) ],
      )
      tells (Happens f) = (
        λ h. elim (told_before (list_any (same_event e) (events_of old)) f (subst (λ (es : List Event). Contains es f) events h)) [ inl before ↦ inl before | inr is ↦ inr (ap Happens is) ],
        λ either. elim either [
          | inl before ↦ subst (λ (es : List Event). Contains es f) (sym is_more) (Contains-append_left (events_of old) rest f before)
          | inr is ↦ subst (Contains (events_of new)) (sym (happens-is is)) told
        ],
      )

      settled : (f : Fact) → IsSettled new f ↔ IsSettled old f
      settled (HasToken c t) = subst (λ (s : CellState). (Has s.has t × Lacks s.fresh t) ↔ IsSettled old (HasToken c t)) (sym (states c)) (λ h. h, λ h. h)
      settled (Happens f) = subst (λ (es : List Event). Contains es f ↔ IsSettled old (Happens f)) (sym same_front) (λ h. h, λ h. h)

-- ---- an event is settled

take_more-cases : {A : Type 0} (n : ℕ) (xs : List A) (e x : A) → slice_get xs n ≡ Some e → Contains (take (n + 1) xs) x ↔ (Contains (take n xs) x ⊎ (x ≡ e))
take_more-cases n xs e x found =
    let lt : n < length xs = slice_get_within xs n e found in
    let is : take (n + 1) xs ≡ take n xs ++ e ∷ [] = take_more xs n e lt ∙ ap (λ y. take n xs ++ y ∷ []) (get_or_from_slice_get xs n e e found) in
    subst (λ (ys : List _). Contains ys x ↔ (Contains (take n xs) x ⊎ (x ≡ e))) (sym is) (
      λ h. elim (Contains-push_cases (take n xs) e x h) [ inl before ↦ inl before | inr same ↦ inr (sym same) ],
      λ either. elim either [
        | inl before ↦ Contains-append_left (take n xs) (e ∷ []) x before
        | inr same ↦ subst (Contains (take n xs ++ e ∷ [])) (sym same) (Contains-push (take n xs) e)
      ],
    )

module _ (old new : Network) (e : Event) (net : IsNetwork old) (found : slice_get (events_of old) old.seen ≡ Some e) (tokens : new.tokens ≡ old.tokens)
    (has : (c : Cell) → (state_of new c).has ≡ (state_of old c).has) (fresh : (c : Cell) → (state_of new c).fresh ≡ (state_of old c).fresh) (waits : (c : Cell) → (state_of new c).queued ≡ (state_of old c).queued)
    (links : (c : Cell) (a : Action) → Contains (state_of new c).links a ↔ (Contains (state_of old c).links a ⊎ (Linked c a ≡ e)))
    (events : events_of new ≡ events_of old) (seen : new.seen ≡ old.seen + 1) (turned : new.turned ≡ old.turned) (turns : new.turns.items ≡ old.turns.items) where
  front : take new.seen (events_of new) ≡ take (old.seen + 1) (events_of old)
  front = ap (λ (n : ℕ). take n (events_of new)) seen ∙ ap (take (old.seen + 1)) events

  now_seen : (x : Event) → Contains (take new.seen (events_of new)) x ↔ (Contains (take old.seen (events_of old)) x ⊎ (x ≡ e))
  now_seen x = subst (λ (es : List Event). Contains es x ↔ (Contains (take old.seen (events_of old)) x ⊎ (x ≡ e))) (sym front) (take_more-cases old.seen (events_of old) e x found)

  pub seen_network : IsNetwork new
  seen_network = record {
    has_size = λ c. ap length (has c) ∙ net.has_size c ∙ sym tokens;
    fresh_size = λ c. ap length (fresh c) ∙ net.fresh_size c ∙ sym tokens;
    within = λ c t h. subst (λ (set : List Bool). Has set t) (sym (has c)) (net.within c t (subst (λ (set : List Bool). Has set t) (fresh c) h));
    links = λ c a. (
      λ h. (now_seen (Linked c a)).1 (elim ((links c a).0 h) [ inl before ↦ inl ((net.links c a).0 before) | inr is ↦ inr is ]),
      λ h. (links c a).1 (elim ((now_seen (Linked c a)).0 h) [ inl before ↦ inl ((net.links c a).1 before) | inr is ↦ inr is ]),
    );
    waits = λ c t h. waits c ∙ net.waits c t (subst (λ (set : List Bool). Has set t) (fresh c) h);
    queued = λ c h. subst (λ (n : ℕ). Contains (drop n new.turns.items) c) (sym turned) (subst (λ (ts : List Cell). Contains (drop old.turned ts) c) (sym turns) (net.queued c (sym (waits c) ∙ h)));
    seen = let lt : old.seen < length (events_of old) = slice_get_within (events_of old) old.seen e found in
        let l : length (events_of new) ≡ length (events_of old) = ap length events in omega arith;
    turned = subst (λ (n : ℕ). n ≤ length new.turns.items) (sym turned) (subst (λ (ts : List Cell). old.turned ≤ length ts) (sym turns) net.turned);
  }

  pub seen_settles : Settles old new (IsNext old)
  seen_settles = record { same_tokens = tokens; tells = tells; settled = settled }
    where
      tells : (f : Fact) → Tells new f ↔ Tells old f
      tells (HasToken c t) = subst (λ (set : List Bool). Has set t ↔ Has (state_of old c).has t) (sym (has c)) (λ h. h, λ h. h)
      tells (Happens x) = subst (λ (es : List Event). Contains es x ↔ Contains (events_of old) x) (sym events) (λ h. h, λ h. h)

      settled : (f : Fact) → IsSettled new f ↔ (IsSettled old f ⊎ IsNext old f)
      settled (HasToken c t) = (
        λ h. inl (subst (λ (set : List Bool). Has set t) (has c) h.0, subst (λ (set : List Bool). Lacks set t) (fresh c) h.1),
        λ either. elim either [
          | inl h ↦ (subst (λ (set : List Bool). Has set t) (sym (has c)) h.0, subst (λ (set : List Bool). Lacks set t) (sym (fresh c)) h.1)
          | inr nay ↦ absurd nay
        ],
      )
      settled (Happens x) = (
        λ h. elim ((now_seen x).0 h) [ inl before ↦ inl before | inr is ↦ inr (subst (λ (y : Event). slice_get (events_of old) old.seen ≡ Some y) (sym is) found) ],
        λ either. (now_seen x).1 (elim either [ inl before ↦ inl before | inr next ↦ inr (same_Some x e (sym next ∙ found)) ]),
      )

-- ---- a turn ends

behind_first : (c d : Cell) (cs : List Cell) → (d ≡ c → ⊥) → Contains (c ∷ cs) d → Contains cs d
behind_first c d cs ne (zero, below, e) = absurd (ne (sym e))
behind_first c d cs ne (suc k, below, e) = (k, omega (arith, below), e)

-- what waits and is not the first that waits is behind it
behind : (turned : ℕ) (turns : List Cell) (c d : Cell) → slice_get turns turned ≡ Some c → (d ≡ c → ⊥) → Contains (drop turned turns) d → Contains (drop (turned + 1) turns) d
behind turned turns c d found ne h =
    let lt : turned < length turns = slice_get_within turns turned c found in
    let is : drop turned turns ≡ c ∷ drop (turned + 1) turns = drop_more turns turned c lt ∙ ap (λ y. y ∷ drop (turned + 1) turns) (get_or_from_slice_get turns turned c c found) in
    behind_first c d (drop (turned + 1) turns) ne (subst (λ (ts : List Cell). Contains ts d) is h)

false-or : (b : Bool) → (b || false) ≡ true → b ≡ true
false-or true h = refl
false-or false h = h

module _ (old new : Network) (c : Cell) (done : List Bool) (state : CellState) (waits : Bool) (net : IsNetwork old) (found : slice_get old.turns.items old.turned ≡ Some c)
    (has : state.has ≡ (state_of old c).has) (links : state.links ≡ (state_of old c).links) (size : length state.fresh ≡ old.tokens)
    (left : (t : ℕ) → Has state.fresh t ↔ (Has (state_of old c).fresh t × Lacks done t)) (none : waits ≡ false → (t : ℕ) → Has state.fresh t → ⊥)
    (here : state_of new c ≡ record state { queued = waits || false }) (elsewhere : (d : Cell) → (d ≡ c → ⊥) → state_of new d ≡ state_of old d)
    (tokens : new.tokens ≡ old.tokens) (events : events_of new ≡ events_of old) (seen : new.seen ≡ old.seen) (turned : new.turned ≡ old.turned + 1)
    (turns : new.turns.items ≡ with_turn old.turns.items c waits false) where
  lasts : (P : Cell → CellState → Type 0) → P c (record state { queued = waits || false }) → ((d : Cell) → (d ≡ c → ⊥) → P d (state_of old d)) → (d : Cell) → P d (state_of new d)
  lasts P at others d = elim (same_or_not c d) [
    | inl e ↦ subst (λ (x : Cell). P x (state_of new x)) (sym e) (subst (P c) (sym here) at)
    | inr ne ↦ subst (P d) (sym (elsewhere d ne)) (others d ne)
  ]

  within_turns : old.turned + 1 ≤ length old.turns.items
  within_turns = let lt : old.turned < length old.turns.items = slice_get_within old.turns.items old.turned c found in omega arith

  -- the events that have been worked on are the same
  front_same : take new.seen (events_of new) ≡ take old.seen (events_of old)
  front_same = ap (λ (n : ℕ). take n (events_of new)) seen ∙ ap (take old.seen) events

  in_turns : (d : Cell) → Contains (drop (old.turned + 1) (with_turn old.turns.items c waits false)) d → Contains (drop new.turned new.turns.items) d
  in_turns d h = subst (λ (n : ℕ). Contains (drop n new.turns.items) d) (sym turned) (subst (λ (ts : List Cell). Contains (drop (old.turned + 1) ts) d) (sym turns) h)

  again : (b : Bool) → (b || false) ≡ true → Contains (drop (old.turned + 1) (with_turn old.turns.items c b false)) c
  again true h = subst (λ (ts : List Cell). Contains ts c) (sym (drop-append-le (old.turned + 1) old.turns.items (c ∷ []) within_turns)) (Contains-push (drop (old.turned + 1) old.turns.items) c)
  again false h = absurd (true≢false (sym h))

  pub ended_network : IsNetwork new
  ended_network = record {
    has_size = lasts (λ d s. length s.has ≡ new.tokens) (ap length has ∙ net.has_size c ∙ sym tokens) (λ d ne. net.has_size d ∙ sym tokens);
    fresh_size = lasts (λ d s. length s.fresh ≡ new.tokens) (size ∙ sym tokens) (λ d ne. net.fresh_size d ∙ sym tokens);
    within = lasts (λ d s. (t : ℕ) → Has s.fresh t → Has s.has t)
        (λ t h. subst (λ (set : List Bool). Has set t) (sym has) (net.within c t ((left t).0 h).0))
        (λ d ne. net.within d);
    links = lasts (λ d s. (a : Action) → Contains s.links a ↔ Contains (take new.seen (events_of new)) (Linked d a))
        (subst (λ (es : List Event). (a : Action) → Contains state.links a ↔ Contains es (Linked c a)) (sym front_same) (subst (λ (ls : List Action). (a : Action) → Contains ls a ↔ Contains (take old.seen (events_of old)) (Linked c a)) (sym links) (net.links c)))
        (λ d ne. subst (λ (es : List Event). (a : Action) → Contains (state_of old d).links a ↔ Contains es (Linked d a)) (sym front_same) (net.links d));
    waits = lasts (λ d s. (t : ℕ) → Has s.fresh t → s.queued ≡ true)
        (λ t h. first-true waits false (elim (cases_Bool waits) [ inl aye ↦ aye | inr nay ↦ absurd (none nay t h) ]))
        (λ d ne. net.waits d);
    queued = lasts (λ d s. s.queued ≡ true → Contains (drop new.turned new.turns.items) d)
        (λ h. in_turns c (again waits h))
        (λ d ne h. in_turns d (still (old.turned + 1) old.turns.items c d waits false within_turns (behind old.turned old.turns.items c d found ne (net.queued d h))));
    seen = subst (λ (n : ℕ). n ≤ length (events_of new)) (sym seen) (subst (λ (es : List Event). old.seen ≤ length es) (sym events) net.seen);
    turned = subst (λ (n : ℕ). n ≤ length new.turns.items) (sym turned) (subst (λ (ts : List Cell). old.turned + 1 ≤ length ts) (sym turns) (longer (old.turned + 1) old.turns.items c waits false within_turns));
  }

  pub ended_settles : Settles old new (λ f. Tells old f × IsIn c (Has done) f)
  ended_settles = record { same_tokens = tokens; tells = tells_same; settled = settled_more }
    where
      tells_same : (f : Fact) → Tells new f ↔ Tells old f
      tells_same (HasToken d t) = lasts (λ x s. Has s.has t ↔ Has (state_of old x).has t)
          (subst (λ (set : List Bool). Has set t ↔ Has (state_of old c).has t) (sym has) (λ h. h, λ h. h)) (λ x ne. (λ h. h, λ h. h)) d
      tells_same (Happens e) = subst (λ (es : List Event). Contains es e ↔ Contains (events_of old) e) (sym events) (λ h. h, λ h. h)

      at_cell : (t : ℕ) → (Has state.has t × Lacks state.fresh t) ↔ ((Has (state_of old c).has t × Lacks (state_of old c).fresh t) ⊎ (Has (state_of old c).has t × ((c ≡ c) × Has done t)))
      at_cell t = (
        λ h.
            let had : Has (state_of old c).has t = subst (λ (set : List Bool). Has set t) has h.0 in
            elim (has_or_lacks (state_of old c).fresh t) [
              | inr old_done ↦ inl (had, old_done)
              | inl was ↦ elim (has_or_lacks done t) [
                | inl now ↦ inr (had, (refl, now))
                | inr not ↦ not_both state.fresh t ((left t).1 (was, not)) h.1
              ]
            ],
        λ either. elim either [
          | inl h ↦ (subst (λ (set : List Bool). Has set t) (sym has) h.0, lacks state.fresh t (λ f. not_both (state_of old c).fresh t ((left t).0 f).0 h.1))
          | inr h ↦ (subst (λ (set : List Bool). Has set t) (sym has) h.0, lacks state.fresh t (λ f. not_both done t h.1.1 ((left t).0 f).1))
        ],
      )

      settled_more : (f : Fact) → IsSettled new f ↔ (IsSettled old f ⊎ (Tells old f × IsIn c (Has done) f))
      settled_more (HasToken d t) = lasts (λ x s. (Has s.has t × Lacks s.fresh t) ↔ ((Has (state_of old x).has t × Lacks (state_of old x).fresh t) ⊎ (Has (state_of old x).has t × ((x ≡ c) × Has done t))))
          (at_cell t) (λ x ne. (λ h. inl h, λ either. elim either [ inl h ↦ h | inr h ↦ absurd (ne h.1.0) ])) d
      settled_more (Happens e) = subst (λ (es : List Event). Contains es e ↔ (IsSettled old (Happens e) ⊎ (Contains (events_of old) e × ⊥))) (sym front_same) (
        λ h. inl h,
        λ either. elim either [ inl h ↦ h | inr nay ↦ absurd nay.1 ],
      )

-- ---- a network that is quiet

pub quiet : (net : Network) → IsNetwork net → net.seen ≡ length (events_of net) → net.turned ≡ length net.turns.items → IsQuiet net
quiet net is seen turned (HasToken c t) h = (h, lacks (state_of net c).fresh t (λ f. nothing_waits (is.queued c (is.waits c t f))))
  where
    nothing_waits : Contains (drop net.turned net.turns.items) c → ⊥
    nothing_waits (k, below, e) =
        let none : length (drop net.turned net.turns.items) ≡ length net.turns.items - net.turned = length-drop net.turned net.turns.items in
        omega (arith, below)
quiet net is seen turned (Happens e) h = subst (λ (es : List Event). Contains es e) (sym (take_all net.seen (events_of net) (omega arith))) h

-- ---- the empty network

pub nothing : {A : Type 0} (n t : ℕ) → Has (replicate n false) t → A
nothing n t h = absurd (true≢false (sym h ∙ copies n t))
  where
    copies : (n t : ℕ) → get_or (replicate n false) t false ≡ false
    copies zero t = refl
    copies (suc n) zero = refl
    copies (suc n) (suc t) = copies n t

module _ (net : Network) (cells : (c : Cell) → get same_cell net.cells c ≡ None) (events : events_of net ≡ []) (seen : net.seen ≡ 0) (turned : net.turned ≡ 0) where
  state_is : (c : Cell) → state_of net c ≡ empty_state net.tokens
  state_is c = ap (λ (o : Option CellState). unwrap_or o (empty_state net.tokens)) (cells c)

  at_empty : (P : CellState → Type 0) (c : Cell) → P (empty_state net.tokens) → P (state_of net c)
  at_empty P c h = subst P (sym (state_is c)) h

  no_event : {A : Type 0} (n : ℕ) (e : Event) → Contains (take n (events_of net)) e → A
  no_event n e (k, below, is) =
      let empty : length (take n (events_of net)) ≤ length (events_of net) = take-shorter n (events_of net) in
      let zero_long : length (events_of net) ≡ 0 = ap length events in
      absurd (omega (arith, below))

  pub empty_network : IsNetwork net
  empty_network = record {
    has_size = λ c. at_empty (λ s. length s.has ≡ net.tokens) c (length-replicate net.tokens false);
    fresh_size = λ c. at_empty (λ s. length s.fresh ≡ net.tokens) c (length-replicate net.tokens false);
    within = λ c. at_empty (λ s. (t : ℕ) → Has s.fresh t → Has s.has t) c (λ t h. h);
    links = λ c. at_empty (λ s. (a : Action) → Contains s.links a ↔ Contains (take net.seen (events_of net)) (Linked c a)) c
        (λ a. (λ h. absurd (omega (arith, h.1)), λ h. no_event net.seen (Linked c a) h));
    waits = λ c. at_empty (λ s. (t : ℕ) → Has s.fresh t → s.queued ≡ true) c (λ t h. nothing net.tokens t h);
    queued = λ c. at_empty (λ s. s.queued ≡ true → Contains (drop net.turned net.turns.items) c) c (λ h. absurd (true≢false (sym h)));
    seen = omega arith;
    turned = omega arith;
  }

  pub empty_tells : (f : Fact) → Tells net f → ⊥
  empty_tells (HasToken c t) h = nothing net.tokens t (subst (λ (s : CellState). Has s.has t) (state_is c) h)
  empty_tells (Happens e) (k, below, is) = let zero_long : length (events_of net) ≡ 0 = ap length events in omega (arith, below)

-- ---- from what functions ensure

-- a cell's state is taken, gains tokens, and is put back
pub added : (old mid before new : Network) (c : Cell) (taken state waiting_state : CellState) (S : ℕ → Type 0) (fresh : Bool) → IsNetwork old → taken ≡ state_of old c
    → ((d : Cell) → (d ≡ c → ⊥) → state_of mid d ≡ state_of old d) → SameOutside old mid → mid.turns.items ≡ old.turns.items
    → Gains taken state S → (fresh ≡ false → (t : ℕ) → S t → Has taken.has t)
    → waiting_state ≡ record state { queued = fresh || state.queued }
    → ((d : Cell) → state_of before d ≡ state_of mid d) → SameOutside mid before → before.turns.items ≡ with_turn mid.turns.items c fresh state.queued
    → Puts before new c waiting_state → new.turns.items ≡ before.turns.items → IsNetwork new × Extends old new (IsIn c S)
added old mid before new c taken state waiting_state S fresh net is apart outside turns gains none waits same same_outside with puts kept = (
  gained_network old new c state S fresh net gains_old none_old ch all_turns,
  gained_extends old new c state S fresh net gains_old none_old ch all_turns,
)
  where
    gains_old : Gains (state_of old c) state S
    gains_old = subst (λ (s : CellState). Gains s state S) is gains

    none_old : fresh ≡ false → (t : ℕ) → S t → Has (state_of old c).has t
    none_old e t s = subst (λ (x : CellState). Has x.has t) is (none e t s)

    ch : Changes old new c (record state { queued = fresh || state.queued })
    ch = record {
      here = puts.here ∙ waits;
      elsewhere = λ d ne. puts.elsewhere d ne ∙ same d ∙ apart d ne;
      outside = record {
        tokens = puts.outside.tokens ∙ same_outside.tokens ∙ outside.tokens;
        events = puts.outside.events ∙ same_outside.events ∙ outside.events;
        seen = puts.outside.seen ∙ same_outside.seen ∙ outside.seen;
        turned = puts.outside.turned ∙ same_outside.turned ∙ outside.turned;
      };
    }

    all_turns : new.turns.items ≡ with_turn old.turns.items c fresh state.queued
    all_turns = kept ∙ with ∙ ap (λ (ts : List Cell). with_turn ts c fresh state.queued) turns

-- a cell's state is taken, gets a link, and is put back
pub linked : (old mid new : Network) (c : Cell) (a : Action) (taken state : CellState) → taken ≡ state_of old c → ((d : Cell) → (d ≡ c → ⊥) → state_of mid d ≡ state_of old d) → SameOutside old mid
    → mid.turns.items ≡ old.turns.items → state ≡ record taken { links = taken.links ++ a ∷ [] } → Puts mid new c state → new.turns.items ≡ mid.turns.items → KeepsLink old new (Linked c a)
linked old mid new c a taken state is apart outside turns links puts kept = record {
  outside = record {
    tokens = puts.outside.tokens ∙ outside.tokens;
    events = puts.outside.events ∙ outside.events;
    seen = puts.outside.seen ∙ outside.seen;
    turned = puts.outside.turned ∙ outside.turned;
  };
  turns = kept ∙ turns;
  has = λ d. either (λ x s. s.has ≡ (state_of old x).has) (ap (λ (s : CellState). s.has) is) (λ x. refl) d;
  fresh = λ d. either (λ x s. s.fresh ≡ (state_of old x).fresh) (ap (λ (s : CellState). s.fresh) is) (λ x. refl) d;
  queued = λ d. either (λ x s. s.queued ≡ (state_of old x).queued) (ap (λ (s : CellState). s.queued) is) (λ x. refl) d;
  links = λ d. more_links d;
}
  where
    either : (P : Cell → CellState → Type 0) → P c (record taken { links = taken.links ++ a ∷ [] }) → ((d : Cell) → P d (state_of old d)) → (d : Cell) → P d (state_of new d)
    either P at others d = elim (same_or_not c d) [
      | inl e ↦ subst (λ (x : Cell). P x (state_of new x)) (sym e) (subst (P c) (sym (puts.here ∙ links)) at)
      | inr ne ↦ subst (P d) (sym (puts.elsewhere d ne ∙ apart d ne)) (others d)
    ]

    same_cells : {d : Cell} {b : Action} → Linked d b ≡ Linked c a → d ≡ c
    same_cells h = cc h

    same_actions : {d : Cell} {b : Action} → Linked d b ≡ Linked c a → b ≡ a
    same_actions h = cc h

    here_links : (b : Action) → Contains (taken.links ++ a ∷ []) b ↔ (Contains (state_of old c).links b ⊎ (Linked c b ≡ Linked c a))
    here_links b = (
      λ h. elim (Contains-push_cases taken.links a b h) [
        | inl before ↦ inl (subst (λ (s : CellState). Contains s.links b) is before)
        | inr e ↦ inr (ap (Linked c) (sym e))
      ],
      λ h. elim h [
        | inl before ↦ Contains-append_left taken.links (a ∷ []) b (subst (λ (s : CellState). Contains s.links b) (sym is) before)
        | inr e ↦ subst (Contains (taken.links ++ a ∷ [])) (sym (same_actions e)) (Contains-push taken.links a)
      ],
    )

    more_links : (d : Cell) (b : Action) → Contains (state_of new d).links b ↔ (Contains (state_of old d).links b ⊎ (Linked d b ≡ Linked c a))
    more_links d b = elim (same_or_not c d) [
      | inl e ↦ subst (λ (x : Cell). Contains (state_of new x).links b ↔ (Contains (state_of old x).links b ⊎ (Linked x b ≡ Linked c a))) (sym e)
          (subst (λ (s : CellState). Contains s.links b ↔ (Contains (state_of old c).links b ⊎ (Linked c b ≡ Linked c a))) (sym (puts.here ∙ links)) (here_links b))
      | inr ne ↦ subst (λ (s : CellState). Contains s.links b ↔ (Contains (state_of old d).links b ⊎ (Linked d b ≡ Linked c a))) (sym (puts.elsewhere d ne ∙ apart d ne))
          (λ h. inl h, λ h. elim h [ inl before ↦ before | inr e ↦ absurd (ne (same_cells e)) ])
    ]

-- what is in a list is found there
pub any-contains : (es : List Event) (e : Event) → Contains es e → list_any (same_event e) es ≡ true
any-contains [] e (k, below, is) = absurd (omega (arith, below))
any-contains (x ∷ es) e (zero, below, is) = first-true (same_event e x) (list_any (same_event e) es) ((event_decides e x).1 (sym is))
any-contains (x ∷ es) e (suc k, below, is) = either-true (same_event e x) (list_any (same_event e) es) (any-contains es e (k, omega (arith, below), is))

-- an event that is no link leaves the links
pub unlinked : (net : Network) (e : Event) → ((c : Cell) (a : Action) → Linked c a ≡ e → ⊥) → KeepsLink net net e
unlinked net e none = record {
  outside = record { tokens = refl; events = refl; seen = refl; turned = refl };
  turns = refl;
  has = λ c. refl;
  fresh = λ c. refl;
  queued = λ c. refl;
  links = λ c a. (λ h. inl h, λ h. elim h [ inl before ↦ before | inr is ↦ absurd (none c a is) ]);
}
