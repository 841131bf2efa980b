-- A search sees exactly what is reached.
use Rattle.std.proofs.Common.{◌≡◌, ℕ, zero, suc, ◌+◌, ◌<◌, ◌⊎◌, inl, inr, Bool, true, false, List, [], ◌∷◌, ◌++◌, length, refl, sym, ◌∙◌, subst, arith, length-append, replicate}
use Rattle.std.specs.Prelude.{Some, All, Contains, slice_get}
use Rattle.std.proofs.lemmas.List.{length-replicate}
use Rattle.std.proofs.lemmas.List.Elements.{Contains-append_left, Contains-push, Contains-push_cases}
use Rattle.ja_machine.specs.declared.heap.Object.{Object}
use Rattle.ja_machine.specs.Reach.{links, Linked, Path, here, along, Reaches, IsClosed}
use Rattle.ja_machine.specs.InnerSearch.{Seen, meets_place, meets_object, begun, Tells}
use Rattle.ja_machine.proofs.Meets.{has, missing, Met, object-met, begun-met}

-- a link more at the end of a path
path-more : {out : Object → List ℕ} {heap : List Object} (a b c : ℕ) → Path out heap a b → Linked out heap b c → Path out heap a c
path-more a b c here l = along l here
path-more a b c (along k p) l = along k (path-more _ b c p l)

-- the search so far: what was seen is reached, and leads to what was seen or is still to be looked at
pub record Explores (heap : List Object) (start : ℕ) (s : Seen) : Type 0 where
  pub size : length s.flags ≡ length heap
  pub starts : has s.flags start ≡ true
  pub sound : (j : ℕ) → has s.flags j ≡ true → Reaches heap start j
  pub led : (i j : ℕ) → has s.flags i ≡ true → Linked links heap i j → (has s.flags j ≡ true) ⊎ Contains s.work i
  pub waits : (i : ℕ) → Contains s.work i → has s.flags i ≡ true

-- an element of a list whose elements all have a property has it
all-at : {X : Type 0} (P : X → Type 0) (xs : List X) → All P xs → (k : ℕ) (x : X) → slice_get xs k ≡ Some x → P x
all-at P [] all k x e = cc
all-at P (y ∷ xs) all zero x e = let same : y ≡ x = cc in subst P same (all 0 y (omega arith))
all-at P (y ∷ xs) all (suc k) x e = all-at P xs (λ i d lt. all (suc i) d (omega arith)) k x e

contains-all : (P : ℕ → Type 0) (xs : List ℕ) → All P xs → (j : ℕ) → Contains xs j → P j
contains-all P xs all j (k, lt, e) = subst P e (all k j lt)

-- where the links of an object of a closed heap lead there is an object
pub link-inside : (heap : List Object) → IsClosed heap → (a b : ℕ) → Linked links heap a b → b < length heap
link-inside heap closed a b l =
    contains-all (λ b. b < length heap) (links l.object) (all-at (λ (object : Object). All (λ b. b < length heap) (links object)) heap closed a l.object l.found) b l.listed

-- a flag that is set is that of a place
pub has-inside : (flags : List Bool) (j : ℕ) → has flags j ≡ true → j < length flags
has-inside [] j e = cc
has-inside (b ∷ flags) zero e = omega arith
has-inside (b ∷ flags) (suc j) e = omega (arith, has-inside flags j e)

-- the object at the last waiting place is looked at
pub looked : (heap : List Object) (start : ℕ) → IsClosed heap → (flags : List Bool) (rest : List ℕ) (place : ℕ) (object : Object)
    → Explores heap start (record { flags = flags; work = rest ++ place ∷ [] }) → slice_get heap place ≡ Some object
    → Explores heap start (meets_object object (record { flags = flags; work = rest }))
looked heap start closed flags rest place object x at =
    let s : Seen = record { flags = flags; work = rest } in
    let m : Met (Contains (links object)) s (meets_object object s) = object-met object s in
    record {
      size = m.size ∙ x.size;
      starts = m.kept start x.starts;
      sound = λ j h. elim (m.only j h) [
        | inl o ↦ x.sound j o
        | inr l ↦ path-more start place j (x.sound place (x.waits place (Contains-push rest place))) (record { object = object; found = at; listed = l })
      ];
      led = λ i j h l. elim (m.queued i h) [
        | inl o ↦ elim (x.led i j o l) [
          | inl k ↦ inl (m.kept j k)
          | inr w ↦ elim (Contains-push_cases rest place i w) [
            | inl w ↦ inr (m.work_kept i w)
            | inr e ↦ inl (m.added j (from i j e l) (subst (λ (n : ℕ). j < n) (sym x.size) (link-inside heap closed i j l)))
          ]
        ]
        | inr w ↦ inr w
      ];
      waits = λ i w. elim (m.work_only i w) [
        | inl w ↦ m.kept i (x.waits i (Contains-append_left rest (place ∷ []) i w))
        | inr h ↦ h
      ];
    }
  where
    from : (i j : ℕ) → place ≡ i → Linked links heap i j → Contains (links object) j
    from i j e l =
        let found : slice_get heap i ≡ Some object = subst (λ (n : ℕ). slice_get heap n ≡ Some object) e at in
        let there : slice_get heap i ≡ Some l.object = l.found in
        let same : l.object ≡ object = cc in
        subst (λ (o : Object). Contains (links o) j) same l.listed

-- the measure falls
pub falls : (flags : List Bool) (rest : List ℕ) (place : ℕ) (object : Object)
    → missing (meets_object object (record { flags = flags; work = rest })).flags + length (meets_object object (record { flags = flags; work = rest })).work < missing flags + length (rest ++ place ∷ [])
falls flags rest place object =
    let m : Met (Contains (links object)) (record { flags = flags; work = rest }) (meets_object object (record { flags = flags; work = rest })) = object-met object (record { flags = flags; work = rest }) in
    omega (arith, m.less, length-append rest (place ∷ []))

has-replicate : (n j : ℕ) → has (replicate n false) j ≡ false
has-replicate zero j = refl
has-replicate (suc n) zero = refl
has-replicate (suc n) (suc j) = has-replicate n j

-- the search at its beginning
pub begins : (heap : List Object) (start : ℕ) → start < length heap → Explores heap start (begun (length heap) start)
begins heap start lt =
    let s : Seen = record { flags = replicate (length heap) false; work = [] } in
    let m : Met (λ j. start ≡ j) s (meets_place start s) = begun-met (length heap) start s in
    record {
      size = m.size ∙ length-replicate (length heap) false;
      starts = m.added start refl (omega (arith, length-replicate (length heap) false));
      sound = λ j h. elim (m.only j h) [ inl o ↦ unseen j o | inr e ↦ subst (λ (k : ℕ). Reaches heap start k) e here ];
      led = λ i j h l. elim (m.queued i h) [ inl o ↦ unseen i o | inr w ↦ inr w ];
      waits = λ i w. elim (m.work_only i w) [ inl w ↦ empty i w | inr h ↦ h ];
    }
  where
    unseen : {X : Type 0} (j : ℕ) → has (replicate (length heap) false) j ≡ true → X
    unseen j h = let no-one : has (replicate (length heap) false) j ≡ false = has-replicate (length heap) j in cc

    empty : {X : Type 0} (j : ℕ) → Contains [] j → X
    empty j (k, lt, e) = absurd (omega arith)

all-seen : (heap : List Object) (start : ℕ) (flags : List Bool) → Explores heap start (record { flags = flags; work = [] }) → (a b : ℕ) → has flags a ≡ true → Reaches heap a b → has flags b ≡ true
all-seen heap start flags x a b h here = h
all-seen heap start flags x a b h (along {c = c} l p) = elim (x.led a c h l) [
  | inl k ↦ all-seen heap start flags x c b k p
  | inr w ↦ (let lt : w.0 < 0 = w.1 in absurd (omega arith))
]

-- at its end the search has seen exactly what is reached
pub tells : (heap : List Object) (start : ℕ) (flags : List Bool) → Explores heap start (record { flags = flags; work = [] }) → Tells heap start flags
tells heap start flags x b lt = (λ h. x.sound b h, λ p. all-seen heap start flags x start b x.starts p)
