-- What a library call's effect does: each object is as it was, or it is a candidate that grew.
use Rattle.std.proofs.Common.{◌≡◌, ℕ, zero, suc, ◌⊎◌, inl, inr, Bool, true, false, ◌&&◌, List, [], ◌∷◌, ◌++◌, length, Contains, refl, sym, ◌∙◌, ap, subst, append_assoc, append-nil, arith, length-set, ◌+◌}
use Rattle.std.specs.Prelude.{Option, Some, None, slice_get, if◌then◌else◌}
use Rattle.std.proofs.lemmas.List.Elements.{Contains-append_cases}
use Rattle.std.proofs.lemmas.Option.{same_Some}
use Rattle.ja_ir.specs.declared.program.Parts.{Parts}
use Rattle.ja_ir.specs.Tokens.{absorbs, fits}
use Rattle.ja_machine.specs.declared.heap.Object.{Object}
use Rattle.ja_machine.specs.Marks.{has, none}
use Rattle.ja_machine.specs.Reach.{Path, is_reached, places_from}
use Rattle.ja_machine.specs.State.{Store, World, way, after_choice, either}
use Rattle.ja_machine.specs.Step.{object_grown, with_object_at}
use Rattle.ja_machine.specs.Library.{is_reached_from, absorbing_places, fitting_places, Picked, picked_or_not, picked, grown, all_grown, affected}
use Rattle.ja_machine.proofs.Marks.{has-none, union-left, union-split}
use Rattle.ja_machine.proofs.Later.{get-set, get-others, same-or-not}
use Rattle.ja_machine.proofs.Finds.{is_reached-says, any-in}

-- what an object has become that took some of these places into its bag and some of these marks
pub record GrewBy (flow : ℕ) (places : List ℕ) (old new : Object) : Type 0 where
  pub token : new.token ≡ old.token
  pub fields : new.fields ≡ old.fields
  pub keeps : (c : ℕ) → has old.mark c ≡ true → has new.mark c ≡ true
  pub mark : (c : ℕ) → has new.mark c ≡ true → (has old.mark c ≡ true) ⊎ (has flow c ≡ true)
  pub took : List ℕ
  pub bag : new.bag ≡ old.bag ++ took
  pub from : (r : ℕ) → Contains took r → Contains places r

-- an object is as it was, or it is one of the candidates and grew
pub data IsOrGrew (flow : ℕ) (places candidates : List ℕ) (heap : List Object) (r : ℕ) (old : Object) : Type 0 where
  is : slice_get heap r ≡ Some old → IsOrGrew flow places candidates heap r old
  grew : (new : Object) → Contains candidates r → slice_get heap r ≡ Some new → GrewBy flow places old new → IsOrGrew flow places candidates heap r old

-- what the effect does to a store
pub record Affects (flow : ℕ) (places candidates : List ℕ) (before after : Store) : Type 0 where
  pub objects : (r : ℕ) (old : Object) → slice_get before.heap r ≡ Some old → IsOrGrew flow places candidates after.heap r old
  pub size : length after.heap ≡ length before.heap
  pub statics : after.statics ≡ before.statics
  pub set : after.set ≡ before.set
  pub events : after.events ≡ before.events
  pub writes : List ℕ
  pub written : after.written ≡ before.written ++ writes
  pub among : (r : ℕ) → Contains writes r → Contains candidates r

empty-contains : (r : ℕ) → Contains {X = ℕ} [] r → ⊥
empty-contains r (k, lt, e) = omega (arith, lt)

-- what is picked is one of what could be
pub picked-among : (places choices : List ℕ) (r : ℕ) → Contains (picked places choices).places r → Contains places r
picked-among [] choices r c = c
picked-among (a ∷ places) choices r c = by (way 2 choices) c (λ q. picked-among places (after_choice choices) r q)
  where
    rest : Picked
    rest = picked places (after_choice choices)

    later : Contains places r → Contains (a ∷ places) r
    later (k, lt, e) = (suc k, omega (arith, lt), e)

    by : (w : ℕ) → Contains (picked_or_not w a rest).places r → (Contains rest.places r → Contains places r) → Contains (a ∷ places) r
    by zero c among = later (among c)
    by (suc w) (zero, lt, e) among = (0, omega arith, e)
    by (suc w) (suc k, lt, e) among = later (among (k, omega (arith, lt), e))

grew-by : (m : ℕ) (rise : ℕ) (places took : List ℕ) (o : Object) → ((c : ℕ) → has rise c ≡ true → has m c ≡ true) → ((r : ℕ) → Contains took r → Contains places r) → GrewBy m places o (object_grown rise took o)
grew-by m rise places took o within from = record {
  token = refl;
  fields = refl;
  keeps = λ c h. union-left o.mark rise c h;
  mark = λ c h. elim (union-split o.mark rise c h) [ inl q ↦ inl q | inr q ↦ inr (within c q) ];
  took = took;
  bag = refl;
  from = from;
}

grew-more : (m : ℕ) (places : List ℕ) (a b c : Object) → GrewBy m places a b → GrewBy m places b c → GrewBy m places a c
grew-more m places a b c x y = record {
  token = y.token ∙ x.token;
  fields = y.fields ∙ x.fields;
  keeps = λ k h. y.keeps k (x.keeps k h);
  mark = λ k h. elim (y.mark k h) [ inl q ↦ x.mark k q | inr q ↦ inr q ];
  took = x.took ++ y.took;
  bag = y.bag ∙ (ap (λ (l : List ℕ). l ++ y.took) x.bag ∙ append_assoc a.bag x.took y.took);
  from = λ r q. elim (Contains-append_cases x.took y.took r q) [ inl h ↦ x.from r h | inr h ↦ y.from r h ];
}

rise-within : (w m c : ℕ) → has (either w none m) c ≡ true → has m c ≡ true
rise-within zero m c h = let no-one : has none c ≡ false = has-none c in cc
rise-within (suc w) m c h = h

affects-nothing : (m : ℕ) (places candidates : List ℕ) (s : Store) → Affects m places candidates s s
affects-nothing m places candidates s = record {
  objects = λ r o e. is e;
  size = refl;
  statics = refl;
  set = refl;
  events = refl;
  writes = [];
  written = sym (append-nil s.written);
  among = λ r c. absurd (empty-contains r c);
}

-- one candidate grows
grown-affects : (m : ℕ) (places : List ℕ) (a : ℕ) (o : Option Object) (w : World) → slice_get w.store.heap a ≡ o → Affects m places (a ∷ []) w.store (grown m places a o w).store
grown-affects m places a None w e = affects-nothing m places (a ∷ []) w.store
grown-affects m places a (Some o) w e = record {
  objects = λ r old q. by r old q (same-or-not r a);
  size = length-set w.store.heap a new;
  statics = refl;
  set = refl;
  events = refl;
  writes = a ∷ [];
  written = refl;
  among = λ r c. c;
}
  where
    took : List ℕ
    took = (picked places (after_choice w.choices)).places

    new : Object
    new = object_grown (either (way 2 w.choices) none m) took o

    by : (r : ℕ) (old : Object) → slice_get w.store.heap r ≡ Some old → (r ≡ a) ⊎ (r ≡ a → ⊥) → IsOrGrew m places (a ∷ []) (grown m places a (Some o) w).store.heap r old
    by r old q (inr n) = is (get-others w.store.heap a r new n ∙ q)
    by r old q (inl s) =
        let same : o ≡ old = same_Some o old (sym e ∙ (ap (slice_get w.store.heap) (sym s) ∙ q)) in
        grew new (0, omega arith, sym s) (ap (slice_get (with_object_at a new w.store).heap) s ∙ get-set w.store.heap a o new e)
        (subst (λ (x : Object). GrewBy m places x new) same
        (grew-by m (either (way 2 w.choices) none m) places took o (rise-within (way 2 w.choices) m) (picked-among places (after_choice w.choices))))

first-of : (a : ℕ) (cs : List ℕ) (r : ℕ) → Contains (a ∷ []) r → Contains (a ∷ cs) r
first-of a cs r (zero, lt, e) = (0, omega arith, e)
first-of a cs r (suc k, lt, e) = absurd (omega (arith, lt))

rest-of : (a : ℕ) (cs : List ℕ) (r : ℕ) → Contains cs r → Contains (a ∷ cs) r
rest-of a cs r (k, lt, e) = (suc k, omega (arith, lt), e)

affects-both : (m : ℕ) (places : List ℕ) (a : ℕ) (cs : List ℕ) (s t u : Store) → Affects m places (a ∷ []) s t → Affects m places cs t u → Affects m places (a ∷ cs) s u
affects-both m places a cs s t u x y = record {
  objects = λ r old e. onward r old (x.objects r old e);
  size = y.size ∙ x.size;
  statics = y.statics ∙ x.statics;
  set = y.set ∙ x.set;
  events = y.events ∙ x.events;
  writes = x.writes ++ y.writes;
  written = y.written ∙ (ap (λ (l : List ℕ). l ++ y.writes) x.written ∙ append_assoc s.written x.writes y.writes);
  among = λ r c. elim (Contains-append_cases x.writes y.writes r c) [ inl h ↦ first-of a cs r (x.among r h) | inr h ↦ rest-of a cs r (y.among r h) ];
}
  where
    last : (r : ℕ) (old mid : Object) → Contains (a ∷ []) r → GrewBy m places old mid → IsOrGrew m places cs u.heap r mid → IsOrGrew m places (a ∷ cs) u.heap r old
    last r old mid c g (is e) = grew mid (first-of a cs r c) e g
    last r old mid c g (grew new d e h) = grew new (rest-of a cs r d) e (grew-more m places old mid new g h)

    only : (r : ℕ) (old : Object) → IsOrGrew m places cs u.heap r old → IsOrGrew m places (a ∷ cs) u.heap r old
    only r old (is e) = is e
    only r old (grew new d e h) = grew new (rest-of a cs r d) e h

    onward : (r : ℕ) (old : Object) → IsOrGrew m places (a ∷ []) t.heap r old → IsOrGrew m places (a ∷ cs) u.heap r old
    onward r old (is e) = only r old (y.objects r old e)
    onward r old (grew mid c e g) = last r old mid c g (y.objects r mid e)

all_grown-affects : (m : ℕ) (places cs : List ℕ) (w : World) → Affects m places cs w.store (all_grown m places cs w).store
all_grown-affects m places [] w = affects-nothing m places [] w.store
all_grown-affects m places (a ∷ cs) w =
    affects-both m places a cs w.store (grown m places a (slice_get w.store.heap a) w).store (all_grown m places (a ∷ cs) w).store
    (grown-affects m places a (slice_get w.store.heap a) w refl) (all_grown-affects m places cs (grown m places a (slice_get w.store.heap a) w))

-- the effect of a library call
pub effect-affects : (m : ℕ) (places : List ℕ) (it : Picked) (w : World) → Affects m places it.places w.store (affected m places it w).store
effect-affects m places it w = all_grown-affects m places it.places (record { choices = it.choices; store = w.store })

-- an object at a listed place, which passed the test
record Passed (test : ℕ → Object → Bool) (k : ℕ) (heap : List Object) (r : ℕ) : Type 0 where
  index : ℕ
  is_place : r ≡ k + index
  object : Object
  found : slice_get heap index ≡ Some object
  passes : test r object ≡ true

later-passed : (test : ℕ → Object → Bool) (k : ℕ) (o : Object) (heap : List Object) (r : ℕ) → Passed test (k + 1) heap r → Passed test k (o ∷ heap) r
later-passed test k o heap r q = record { index = suc q.index; is_place = omega (arith, q.is_place); object = q.object; found = q.found; passes = q.passes }

listed-passed : (test : ℕ → Object → Bool) (k : ℕ) (heap : List Object) (r : ℕ) → Contains (places_from k test heap) r → Passed test k heap r
listed-passed test k [] r c = absurd (empty-contains r c)
listed-passed test k (o ∷ heap) r c = by (test k o) refl c (λ q. later-passed test k o heap r (listed-passed test (k + 1) heap r q))
  where
    by : (b : Bool) → test k o ≡ b → Contains (if b then k ∷ places_from (k + 1) test heap else places_from (k + 1) test heap) r → (Contains (places_from (k + 1) test heap) r → Passed test k (o ∷ heap) r) → Passed test k (o ∷ heap) r
    by false q c further = further c
    by true q (zero, lt, e) further = record { index = 0; is_place = omega (arith, e); object = o; found = refl; passes = subst (λ (n : ℕ). test n o ≡ true) e q }
    by true q (suc j, lt, e) further = further (j, omega (arith, lt), e)

and-left : (a b : Bool) → (a && b) ≡ true → a ≡ true
and-left true b e = refl
and-left false b e = e

and-right : (a b : Bool) → (a && b) ≡ true → b ≡ true
and-right true b e = e
and-right false b e = cc

-- an object that passes a test of its token is reached from one of the starts
pub record ReachedFrom (test : ℕ → Bool) (out : Object → List ℕ) (heap : List Object) (starts : List ℕ) (r : ℕ) : Type 0 where
  pub object : Object
  pub found : slice_get heap r ≡ Some object
  pub passes : test object.token.0 ≡ true
  pub start : ℕ
  pub is_start : Contains starts start
  pub path : Path out heap start r

reached-from : (test : ℕ → Bool) (out : Object → List ℕ) (heap : List Object) (starts : List ℕ) (r : ℕ) → Contains (places_from 0 (λ place object. test object.token.0 && is_reached_from out heap starts place) heap) r → ReachedFrom test out heap starts r
reached-from test out heap starts r c =
    let q : Passed (λ place object. test object.token.0 && is_reached_from out heap starts place) 0 heap r = listed-passed (λ place object. test object.token.0 && is_reached_from out heap starts place) 0 heap r c in
    let same : q.index ≡ r = omega (arith, q.is_place) in
    let s : (x : ℕ) × Contains starts x × (is_reached out heap x r ≡ true) = any-in (λ start. is_reached out heap start r) starts (and-right (test q.object.token.0) (is_reached_from out heap starts r) q.passes) in
    record {
      object = q.object;
      found = subst (λ (n : ℕ). slice_get heap n ≡ Some q.object) same q.found;
      passes = and-left (test q.object.token.0) (is_reached_from out heap starts r) q.passes;
      start = s.0;
      is_start = s.1;
      path = (is_reached-says out heap s.0 r).0 s.2;
    }

-- the candidates of an effect are absorbing objects that a start reaches
pub absorbing-reached : (p : Parts) (out : Object → List ℕ) (heap : List Object) (starts : List ℕ) (r : ℕ) → Contains (absorbing_places p out heap starts) r → ReachedFrom (absorbs p) out heap starts r
absorbing-reached p out heap starts r c = reached-from (absorbs p) out heap starts r c

-- the places from which a result is picked are those of fitting objects that a start reaches
pub fitting-reached : (p : Parts) (name : List ℕ) (out : Object → List ℕ) (heap : List Object) (starts : List ℕ) (r : ℕ) → Contains (fitting_places p name out heap starts) r → ReachedFrom (λ token. fits p token name) out heap starts r
fitting-reached p name out heap starts r c = reached-from (λ token. fits p token name) out heap starts r c
