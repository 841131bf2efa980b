-- Where a thrown object goes: to one of the places of its exception table.
use Rattle.std.proofs.Common.{ℕ, suc, List, [], ◌∷◌, refl, arith}
use Rattle.std.specs.Prelude.{Contains, slice_get, ◌==◌, if◌then◌else◌}
use Rattle.ja_ir.specs.declared.program.Parts.{Parts}
use Rattle.ja_ir.specs.declared.method.Handler.{Handler}
use Rattle.ja_ir.specs.declared.method.Catch.{Catch}
use Rattle.ja_ir.specs.declared.method.Catch.TheVariants.{All as Everything, Program as InClass, Library as InLibrary}
use Rattle.ja_ir.specs.Lookup.{at_or_below}
use Rattle.ja_ir.specs.Handlers.{Place, Inside, Outside, in_range, dest_at, dest_among, handlers_of, dest}
use Rattle.ja_machine.specs.State.{Frame, Store, World, Point, Outcome, Threw}
use Rattle.ja_machine.specs.Run.{Continue, at_index, handling, goes_to_place, leaves}
use Rattle.ja_machine.proofs.Kept.{if-keeps, decide-keeps}

-- there is a place
data IsSome : List Place → Type 0 where
  some : (d : Place) (ds : List Place) → IsSome (d ∷ ds)

at-some : (p : Parts) (t target : ℕ) (c : Catch) (further : List Place) → IsSome further → IsSome (dest_at p t target c further)
at-some p t target Everything further x = some (Inside target) []
at-some p t target (InClass c) further x = if-keeps IsSome (at_or_below p t c.0) (Inside target ∷ []) further (some (Inside target) []) x
at-some p t target InLibrary further x = some (Inside target) further

among-some : (p : Parts) (i t : ℕ) (handlers : List Handler) → IsSome (dest_among p i t handlers)
among-some p i t [] = some Outside []
among-some p i t (h ∷ handlers) =
    if-keeps IsSome (in_range h i) (dest_at p t h.target h.catch (dest_among p i t handlers)) (dest_among p i t handlers) (at-some p t h.target h.catch (dest_among p i t handlers) (among-some p i t handlers)) (among-some p i t handlers)

-- what a thrown object comes to, where it may go to these places
pub record Ways (Good : Outcome → Type 0) (S : Store → Type 0) (go : Continue) (x : Point) (place : ℕ) (frame : Frame) (left : ℕ) (ds : List Place) : Type 0 where
  pub inside : (target : ℕ) (world : World) → Contains ds (Inside target) → S world.store → Good (go (at_index x target (handling place frame)) world left)
  pub outside : (world : World) → Contains ds Outside → S world.store → Good (Threw place (at_index x x.index frame) world left)

module _ (Good : Outcome → Type 0) (S : Store → Type 0) (go : Continue) (x : Point) (r : ℕ) (f : Frame) (l : ℕ) where
  first-contains : (d : Place) (ds : List Place) → Contains (d ∷ ds) d
  first-contains d ds = (0, omega arith, refl)

  rest-contains : (d c : Place) (ds : List Place) → Contains ds c → Contains (d ∷ ds) c
  rest-contains d c ds (k, lt, e) = (suc k, omega (arith, lt), e)

  fewer-ways : (d : Place) (ds : List Place) → Ways Good S go x r f l (d ∷ ds) → Ways Good S go x r f l ds
  fewer-ways d ds w = record {
    inside = λ t u c h. w.inside t u (rest-contains d (Inside t) ds c) h;
    outside = λ u c h. w.outside u (rest-contains d Outside ds c) h;
  }

  place-good : (d : Place) (ds : List Place) → Ways Good S go x r f l (d ∷ ds) → (u : World) → S u.store → Good (goes_to_place go x r f u l d)
  place-good (Inside t) ds w u h = w.inside t u (first-contains (Inside t) ds) h
  place-good Outside ds w u h = w.outside u (first-contains Outside ds) h

  some-good : (d : Place) (ds : List Place) → Ways Good S go x r f l (d ∷ ds) → (u : World) → S u.store → Good (leaves go x r f (d ∷ ds) u l)
  some-good d [] w u h = place-good d [] w u h
  some-good d (c ∷ ds) w u h =
      decide-keeps Good S 2 u (λ k v. if k == 0 then goes_to_place go x r f v l d else leaves go x r f (c ∷ ds) v l) h
      (λ k v q. if-keeps Good (k == 0) (goes_to_place go x r f v l d) (leaves go x r f (c ∷ ds) v l) (place-good d (c ∷ ds) w v q) (some-good c ds (fewer-ways d (c ∷ ds) w) v q))

  these-good : (ds : List Place) → IsSome ds → Ways Good S go x r f l ds → (u : World) → S u.store → Good (leaves go x r f ds u l)
  these-good _ (some d ds) w u h = some-good d ds w u h

  -- a thrown object goes to a place of its exception table, and the store is as it was
  pub leaves-good : (p : Parts) (t : ℕ) → Ways Good S go x r f l (dest p x.method x.index t) → (u : World) → S u.store → Good (leaves go x r f (dest p x.method x.index t) u l)
  leaves-good p t w u h = these-good (dest p x.method x.index t) (among-some p x.index t (handlers_of (slice_get p.methods x.method))) w u h
