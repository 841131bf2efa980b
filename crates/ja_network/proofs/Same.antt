-- `==` tells whether cells, actions and events are the same.
use Rattle.std.proofs.Common.{◌≡◌, Bool, true, ◌&&◌, eqb, Decides, refl, ap, subst}
use Rattle.std.proofs.lemmas.Bool.{and_parts, and_from, false≢true, eqb-true, eq-eqb}
use Rattle.ja_network.specs.declared.cell.Cell.{Cell}
use Rattle.ja_network.specs.declared.cell.Cell.TheVariants.{Nothing, Environment, Single, Field, Bag, Span, Param, Answer, Out, Thrown, Takers, Pushed, Before}
use Rattle.ja_network.specs.declared.cell.Action.{Action}
use Rattle.ja_network.specs.declared.cell.Action.TheVariants.{Copy, Check, Enter, Return, Dispatch, Throw, Source, Take, Fill, Lead, Expand, Stock}
use Rattle.ja_network.specs.declared.cell.Event.{Event}
use Rattle.ja_network.specs.declared.cell.Event.TheVariants.{Reached, Calls, CallsAbstract, CallsLibrary, Spanned, Linked}
use Rattle.ja_network.specs.Facts.{same_cell, same_action, same_event}

three_parts : (a b c : Bool) → (a && (b && c)) ≡ true → (a ≡ true) × (b ≡ true) × (c ≡ true)
three_parts a b c h = let p = and_parts a (b && c) h in let q = and_parts b c p.1 in (p.0, q.0, q.1)

cell_is : (c d : Cell) → same_cell c d ≡ true → c ≡ d
cell_is Nothing Nothing h = refl
cell_is Environment Environment h = refl
cell_is (Single a) (Single x) h = let e : a ≡ x = eqb-true a x h in cc
cell_is (Field a) (Field x) h = let e : a ≡ x = eqb-true a x h in cc
cell_is (Bag a) (Bag x) h = let e : a ≡ x = eqb-true a x h in cc
cell_is (Span a) (Span x) h = let e : a ≡ x = eqb-true a x h in cc
cell_is (Param a b) (Param x y) h = let p = and_parts (eqb a x) (eqb b y) h in let e : a ≡ x = eqb-true a x p.0 in let f : b ≡ y = eqb-true b y p.1 in cc
cell_is (Answer a) (Answer x) h = let e : a ≡ x = eqb-true a x h in cc
cell_is (Out a) (Out x) h = let e : a ≡ x = eqb-true a x h in cc
cell_is (Thrown a b) (Thrown x y) h = let p = and_parts (eqb a x) (eqb b y) h in let e : a ≡ x = eqb-true a x p.0 in let f : b ≡ y = eqb-true b y p.1 in cc
cell_is (Takers a b) (Takers x y) h = let p = and_parts (eqb a x) (eqb b y) h in let e : a ≡ x = eqb-true a x p.0 in let f : b ≡ y = eqb-true b y p.1 in cc
cell_is (Pushed a b) (Pushed x y) h = let p = and_parts (eqb a x) (eqb b y) h in let e : a ≡ x = eqb-true a x p.0 in let f : b ≡ y = eqb-true b y p.1 in cc
cell_is (Before a b c) (Before x y z) h = let p = three_parts (eqb a x) (eqb b y) (eqb c z) h in let e : a ≡ x = eqb-true a x p.0 in let f : b ≡ y = eqb-true b y p.1 in let g : c ≡ z = eqb-true c z p.2 in cc
cell_is Nothing other h = absurd (false≢true h)
cell_is Environment other h = absurd (false≢true h)
cell_is (Single a) other h = absurd (false≢true h)
cell_is (Field a) other h = absurd (false≢true h)
cell_is (Bag a) other h = absurd (false≢true h)
cell_is (Span a) other h = absurd (false≢true h)
cell_is (Param a b) other h = absurd (false≢true h)
cell_is (Answer a) other h = absurd (false≢true h)
cell_is (Out a) other h = absurd (false≢true h)
cell_is (Thrown a b) other h = absurd (false≢true h)
cell_is (Takers a b) other h = absurd (false≢true h)
cell_is (Pushed a b) other h = absurd (false≢true h)
cell_is (Before a b c) other h = absurd (false≢true h)

cell_same : (c : Cell) → same_cell c c ≡ true
cell_same Nothing = refl
cell_same Environment = refl
cell_same (Single a) = eq-eqb a a refl
cell_same (Field a) = eq-eqb a a refl
cell_same (Bag a) = eq-eqb a a refl
cell_same (Span a) = eq-eqb a a refl
cell_same (Param a b) = and_from (eqb a a) (eqb b b) (eq-eqb a a refl) (eq-eqb b b refl)
cell_same (Answer a) = eq-eqb a a refl
cell_same (Out a) = eq-eqb a a refl
cell_same (Thrown a b) = and_from (eqb a a) (eqb b b) (eq-eqb a a refl) (eq-eqb b b refl)
cell_same (Takers a b) = and_from (eqb a a) (eqb b b) (eq-eqb a a refl) (eq-eqb b b refl)
cell_same (Pushed a b) = and_from (eqb a a) (eqb b b) (eq-eqb a a refl) (eq-eqb b b refl)
cell_same (Before a b c) = and_from (eqb a a) (eqb b b && eqb c c) (eq-eqb a a refl) (and_from (eqb b b) (eqb c c) (eq-eqb b b refl) (eq-eqb c c refl))

pub cell_decides : (c d : Cell) → Decides (same_cell c d) (c ≡ d)
cell_decides c d = (cell_is c d, λ e. subst (λ (x : Cell). same_cell c x ≡ true) e (cell_same c))

action_is : (c d : Action) → same_action c d ≡ true → c ≡ d
action_is (Copy c) (Copy d) h = ap Copy (cell_is c d h)
action_is (Check a b) (Check x y) h = let p = and_parts (eqb a x) (eqb b y) h in let e : a ≡ x = eqb-true a x p.0 in let f : b ≡ y = eqb-true b y p.1 in cc
action_is (Enter a b) (Enter x y) h = let p = and_parts (eqb a x) (eqb b y) h in let e : a ≡ x = eqb-true a x p.0 in let f : b ≡ y = eqb-true b y p.1 in cc
action_is (Return a b) (Return x y) h = let p = and_parts (eqb a x) (eqb b y) h in let e : a ≡ x = eqb-true a x p.0 in let f : b ≡ y = eqb-true b y p.1 in cc
action_is (Dispatch a b) (Dispatch x y) h = let p = and_parts (eqb a x) (eqb b y) h in let e : a ≡ x = eqb-true a x p.0 in let f : b ≡ y = eqb-true b y p.1 in cc
action_is (Throw a b) (Throw x y) h = let p = and_parts (eqb a x) (eqb b y) h in let e : a ≡ x = eqb-true a x p.0 in let f : b ≡ y = eqb-true b y p.1 in cc
action_is (Source a b) (Source x y) h = let p = and_parts (eqb a x) (eqb b y) h in let e : a ≡ x = eqb-true a x p.0 in let f : b ≡ y = eqb-true b y p.1 in cc
action_is (Take a b) (Take x y) h = let p = and_parts (eqb a x) (eqb b y) h in let e : a ≡ x = eqb-true a x p.0 in let f : b ≡ y = eqb-true b y p.1 in cc
action_is (Fill a b) (Fill x y) h = let p = and_parts (eqb a x) (eqb b y) h in let e : a ≡ x = eqb-true a x p.0 in let f : b ≡ y = eqb-true b y p.1 in cc
action_is (Lead a b) (Lead x y) h = let p = and_parts (eqb a x) (eqb b y) h in let e : a ≡ x = eqb-true a x p.0 in let f : b ≡ y = eqb-true b y p.1 in cc
action_is (Expand a) (Expand x) h = let e : a ≡ x = eqb-true a x h in cc
action_is Stock Stock h = refl
action_is (Copy c) other h = absurd (false≢true h)
action_is (Check a b) other h = absurd (false≢true h)
action_is (Enter a b) other h = absurd (false≢true h)
action_is (Return a b) other h = absurd (false≢true h)
action_is (Dispatch a b) other h = absurd (false≢true h)
action_is (Throw a b) other h = absurd (false≢true h)
action_is (Source a b) other h = absurd (false≢true h)
action_is (Take a b) other h = absurd (false≢true h)
action_is (Fill a b) other h = absurd (false≢true h)
action_is (Lead a b) other h = absurd (false≢true h)
action_is (Expand a) other h = absurd (false≢true h)
action_is Stock other h = absurd (false≢true h)

action_same : (c : Action) → same_action c c ≡ true
action_same (Copy c) = cell_same c
action_same (Check a b) = and_from (eqb a a) (eqb b b) (eq-eqb a a refl) (eq-eqb b b refl)
action_same (Enter a b) = and_from (eqb a a) (eqb b b) (eq-eqb a a refl) (eq-eqb b b refl)
action_same (Return a b) = and_from (eqb a a) (eqb b b) (eq-eqb a a refl) (eq-eqb b b refl)
action_same (Dispatch a b) = and_from (eqb a a) (eqb b b) (eq-eqb a a refl) (eq-eqb b b refl)
action_same (Throw a b) = and_from (eqb a a) (eqb b b) (eq-eqb a a refl) (eq-eqb b b refl)
action_same (Source a b) = and_from (eqb a a) (eqb b b) (eq-eqb a a refl) (eq-eqb b b refl)
action_same (Take a b) = and_from (eqb a a) (eqb b b) (eq-eqb a a refl) (eq-eqb b b refl)
action_same (Fill a b) = and_from (eqb a a) (eqb b b) (eq-eqb a a refl) (eq-eqb b b refl)
action_same (Lead a b) = and_from (eqb a a) (eqb b b) (eq-eqb a a refl) (eq-eqb b b refl)
action_same (Expand a) = eq-eqb a a refl
action_same Stock = refl

event_is : (c d : Event) → same_event c d ≡ true → c ≡ d
event_is (Reached a b) (Reached x y) h = let p = and_parts (eqb a x) (eqb b y) h in let e : a ≡ x = eqb-true a x p.0 in let f : b ≡ y = eqb-true b y p.1 in cc
event_is (Calls a b c) (Calls x y z) h = let p = three_parts (eqb a x) (eqb b y) (eqb c z) h in let e : a ≡ x = eqb-true a x p.0 in let f : b ≡ y = eqb-true b y p.1 in let g : c ≡ z = eqb-true c z p.2 in cc
event_is (CallsAbstract a b c) (CallsAbstract x y z) h = let p = three_parts (eqb a x) (eqb b y) (eqb c z) h in let e : a ≡ x = eqb-true a x p.0 in let f : b ≡ y = eqb-true b y p.1 in let g : c ≡ z = eqb-true c z p.2 in cc
event_is (CallsLibrary a b) (CallsLibrary x y) h = let p = and_parts (eqb a x) (eqb b y) h in let e : a ≡ x = eqb-true a x p.0 in let f : b ≡ y = eqb-true b y p.1 in cc
event_is (Spanned a) (Spanned x) h = let e : a ≡ x = eqb-true a x h in cc
event_is (Linked c a) (Linked d b) h = let p = and_parts (same_cell c d) (same_action a b) h in let e : c ≡ d = cell_is c d p.0 in let f : a ≡ b = action_is a b p.1 in cc
event_is (Reached a b) other h = absurd (false≢true h)
event_is (Calls a b c) other h = absurd (false≢true h)
event_is (CallsAbstract a b c) other h = absurd (false≢true h)
event_is (CallsLibrary a b) other h = absurd (false≢true h)
event_is (Spanned a) other h = absurd (false≢true h)
event_is (Linked c a) other h = absurd (false≢true h)

event_same : (e : Event) → same_event e e ≡ true
event_same (Reached a b) = and_from (eqb a a) (eqb b b) (eq-eqb a a refl) (eq-eqb b b refl)
event_same (Calls a b c) = and_from (eqb a a) (eqb b b && eqb c c) (eq-eqb a a refl) (and_from (eqb b b) (eqb c c) (eq-eqb b b refl) (eq-eqb c c refl))
event_same (CallsAbstract a b c) = and_from (eqb a a) (eqb b b && eqb c c) (eq-eqb a a refl) (and_from (eqb b b) (eqb c c) (eq-eqb b b refl) (eq-eqb c c refl))
event_same (CallsLibrary a b) = and_from (eqb a a) (eqb b b) (eq-eqb a a refl) (eq-eqb b b refl)
event_same (Spanned a) = eq-eqb a a refl
event_same (Linked c a) = and_from (same_cell c c) (same_action a a) (cell_same c) (action_same a)

pub event_decides : (c d : Event) → Decides (same_event c d) (c ≡ d)
event_decides c d = (event_is c d, λ e. subst (λ (x : Event). same_event c x ≡ true) e (event_same c))
