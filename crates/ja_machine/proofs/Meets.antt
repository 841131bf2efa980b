-- What a search has seen after it met places.
use Rattle.std.proofs.Common.{◌≡◌, ◌≢◌, ℕ, zero, suc, ◌+◌, ◌<◌, ◌⊎◌, inl, inr, Bool, true, false, List, [], ◌∷◌, ◌++◌, length, refl, sym, ◌∙◌, ap, subst, arith, length-append, get_or-set_same, get_or-set_other}
use Rattle.std.specs.Prelude.{Contains, slice_set, slice_index_or, if◌then◌else◌}
use Rattle.std.proofs.lemmas.List.{length-set}
use Rattle.std.proofs.lemmas.List.Elements.{Contains-append_left, Contains-append_right, Contains-append_cases, Contains-push, Contains-push_cases}
use Rattle.ja_machine.specs.declared.heap.Value.{Value}
use Rattle.ja_machine.specs.declared.heap.Value.TheVariants.{Prim, Null, Ref}
use Rattle.ja_machine.specs.declared.heap.FieldValue.{FieldValue}
use Rattle.ja_machine.specs.declared.heap.Object.{Object}
use Rattle.ja_machine.specs.Reach.{reference_of, field_references, links}
use Rattle.ja_machine.specs.InnerSearch.{Seen, meets_place, meets_value, meets_fields, meets_places, meets_object}

-- the flag of a place is set
abbrev pub has : List Bool → ℕ → Bool
has flags j = slice_index_or flags j false

-- how many flags are not set
pub missing : List Bool → ℕ
missing [] = 0
missing (true ∷ flags) = missing flags
missing (false ∷ flags) = suc (missing flags)

-- the search met the places in P
pub record Met (P : ℕ → Type 0) (s t : Seen) : Type 0 where
  pub size : length t.flags ≡ length s.flags
  pub less : missing t.flags + length t.work ≡ missing s.flags + length s.work
  pub kept : (j : ℕ) → has s.flags j ≡ true → has t.flags j ≡ true
  pub added : (j : ℕ) → P j → j < length s.flags → has t.flags j ≡ true
  pub only : (j : ℕ) → has t.flags j ≡ true → (has s.flags j ≡ true) ⊎ P j
  pub queued : (j : ℕ) → has t.flags j ≡ true → (has s.flags j ≡ true) ⊎ Contains t.work j
  pub work_kept : (j : ℕ) → Contains s.work j → Contains t.work j
  pub work_only : (j : ℕ) → Contains t.work j → Contains s.work j ⊎ (has t.flags j ≡ true)

none-met : (s : Seen) → Met (λ j. ⊥) s s
none-met s = record { size = refl; less = refl; kept = λ j h. h; added = λ j h lt. absurd h; only = λ j h. inl h; queued = λ j h. inl h; work_kept = λ j h. h; work_only = λ j h. inl h }

both-met : (P Q : ℕ → Type 0) (a b c : Seen) → Met P a b → Met Q b c → Met (λ j. P j ⊎ Q j) a c
both-met P Q a b c x y = record {
  size = y.size ∙ x.size;
  less = y.less ∙ x.less;
  kept = λ j h. y.kept j (x.kept j h);
  added = λ j h lt. elim h [ inl p ↦ y.kept j (x.added j p lt) | inr q ↦ y.added j q (subst (λ (n : ℕ). j < n) (sym x.size) lt) ];
  only = λ j h. elim (y.only j h) [ inl o ↦ elim (x.only j o) [ inl o ↦ inl o | inr p ↦ inr (inl p) ] | inr q ↦ inr (inr q) ];
  queued = λ j h. elim (y.queued j h) [ inl o ↦ elim (x.queued j o) [ inl o ↦ inl o | inr w ↦ inr (y.work_kept j w) ] | inr w ↦ inr w ];
  work_kept = λ j h. y.work_kept j (x.work_kept j h);
  work_only = λ j h. elim (y.work_only j h) [ inl w ↦ elim (x.work_only j w) [ inl w ↦ inl w | inr s ↦ inr (y.kept j s) ] | inr s ↦ inr s ];
}

as-met : (P Q : ℕ → Type 0) (a b : Seen) → ((j : ℕ) → P j → Q j) → ((j : ℕ) → Q j → P j) → Met P a b → Met Q a b
as-met P Q a b to back x = record {
  size = x.size;
  less = x.less;
  kept = x.kept;
  added = λ j h lt. x.added j (back j h) lt;
  only = λ j h. elim (x.only j h) [ inl o ↦ inl o | inr p ↦ inr (to j p) ];
  queued = x.queued;
  work_kept = x.work_kept;
  work_only = x.work_only;
}

missing-set : (flags : List Bool) (place : ℕ) → slice_index_or flags place true ≡ false → suc (missing (slice_set flags place true)) ≡ missing flags
unfolding missing
missing-set [] place e = cc
missing-set (true ∷ flags) zero e = cc
missing-set (false ∷ flags) zero e = refl
missing-set (true ∷ flags) (suc place) e = missing-set flags place e
missing-set (false ∷ flags) (suc place) e = ap suc (missing-set flags place e)

-- a flag that is not set is that of a place
inside : (flags : List Bool) (place : ℕ) → slice_index_or flags place true ≡ false → place < length flags
inside [] place e = cc
inside (b ∷ flags) zero e = omega arith
inside (b ∷ flags) (suc place) e = omega (arith, inside flags place e)

-- whatever stands for a missing flag
any-default : (flags : List Bool) (place : ℕ) (b c : Bool) → place < length flags → slice_index_or flags place b ≡ slice_index_or flags place c
any-default [] place b c lt = absurd (omega arith)
any-default (f ∷ flags) zero b c lt = refl
any-default (f ∷ flags) (suc place) b c lt = any-default flags place b c (omega arith)

same-or : (a b : ℕ) → (a ≡ b) ⊎ (a ≢ b)
same-or zero zero = inl refl
same-or zero (suc b) = inr (λ e. cc)
same-or (suc a) zero = inr (λ e. cc)
same-or (suc a) (suc b) = elim (same-or a b) [ inl e ↦ inl (ap suc e) | inr n ↦ inr (λ e. n (omega arith)) ]

new-met : (place : ℕ) (s : Seen) → slice_index_or s.flags place true ≡ false → Met (λ j. place ≡ j) s (record { flags = slice_set s.flags place true; work = s.work ++ place ∷ [] })
new-met place s e = record {
  size = length-set s.flags place true;
  less = omega (arith, missing-set s.flags place e, length-append s.work (place ∷ []));
  kept = λ j h. elim (same-or j place) [ inl q ↦ here j (sym q) | inr n ↦ other j n ∙ h ];
  added = λ j q lt. here j q;
  only = λ j h. elim (same-or j place) [ inl q ↦ inr (sym q) | inr n ↦ inl (sym (other j n) ∙ h) ];
  queued = λ j h. elim (same-or j place) [ inl q ↦ inr (subst (λ (k : ℕ). Contains (s.work ++ place ∷ []) k) (sym q) (Contains-push s.work place)) | inr n ↦ inl (sym (other j n) ∙ h) ];
  work_kept = λ j h. Contains-append_left s.work (place ∷ []) j h;
  work_only = λ j h. elim (Contains-push_cases s.work place j h) [ inl w ↦ inl w | inr q ↦ inr (here j q) ];
}
  where
    here : (j : ℕ) → place ≡ j → has (slice_set s.flags place true) j ≡ true
    here j q = subst (λ (k : ℕ). has (slice_set s.flags place true) k ≡ true) q (get_or-set_same s.flags place true false (inside s.flags place e))

    other : (j : ℕ) → j ≢ place → has (slice_set s.flags place true) j ≡ has s.flags j
    other j n = get_or-set_other s.flags place j true false n

old-met : (place : ℕ) (s : Seen) → slice_index_or s.flags place true ≡ true → Met (λ j. place ≡ j) s s
old-met place s e = record {
  size = refl;
  less = refl;
  kept = λ j h. h;
  added = λ j q lt. subst (λ (k : ℕ). k < length s.flags → has s.flags k ≡ true) q (λ l. any-default s.flags place false true l ∙ e) lt;
  only = λ j h. inl h;
  queued = λ j h. inl h;
  work_kept = λ j h. h;
  work_only = λ j h. inl h;
}

place-met : (place : ℕ) (s : Seen) → Met (λ j. place ≡ j) s (meets_place place s)
place-met place s =
    let by : (b : Bool) → slice_index_or s.flags place true ≡ b → Met (λ j. place ≡ j) s (if b then s else record { flags = slice_set s.flags place true; work = s.work ++ place ∷ [] }) =
    elim [ true ↦ λ e. old-met place s e | false ↦ λ e. new-met place s e ] in
    by (slice_index_or s.flags place true) refl

cons-contains : (p : ℕ) (ps : List ℕ) (j : ℕ) → (p ≡ j) ⊎ Contains ps j → Contains (p ∷ ps) j
cons-contains p ps j (inl e) = (0, omega arith, e)
cons-contains p ps j (inr (k, lt, e)) = (suc k, omega arith, e)

contains-cons : (p : ℕ) (ps : List ℕ) (j : ℕ) → Contains (p ∷ ps) j → (p ≡ j) ⊎ Contains ps j
contains-cons p ps j (zero, lt, e) = inl e
contains-cons p ps j (suc k, lt, e) = inr (k, omega arith, e)

nil-contains : (j : ℕ) → Contains [] j → ⊥
nil-contains j (k, lt, e) = omega arith

places-met : (places : List ℕ) (s : Seen) → Met (Contains places) s (meets_places places s)
places-met [] s = as-met (λ j. ⊥) (Contains []) s s (λ j h. absurd h) (λ j h. nil-contains j h) (none-met s)
places-met (place ∷ places) s =
    as-met (λ j. (place ≡ j) ⊎ Contains places j) (Contains (place ∷ places)) s _ (λ j h. cons-contains place places j h) (λ j h. contains-cons place places j h)
    (both-met (λ j. place ≡ j) (Contains places) s _ _ (place-met place s) (places-met places (meets_place place s)))

value-met : (value : Value) (others : List ℕ) (s t : Seen) → Met (Contains others) (meets_value value s) t → Met (Contains (reference_of value others)) s t
value-met (Prim mark) others s t m = m
value-met Null others s t m = m
value-met (Ref place) others s t m =
    as-met (λ j. (place ≡ j) ⊎ Contains others j) (Contains (place ∷ others)) s t (λ j h. cons-contains place others j h) (λ j h. contains-cons place others j h)
    (both-met (λ j. place ≡ j) (Contains others) s (meets_place place s) t (place-met place s) m)

fields-met : (fields : List FieldValue) (s : Seen) → Met (Contains (field_references fields)) s (meets_fields fields s)
fields-met [] s = as-met (λ j. ⊥) (Contains []) s s (λ j h. absurd h) (λ j h. nil-contains j h) (none-met s)
fields-met (field ∷ fields) s = value-met field.value (field_references fields) s _ (fields-met fields (meets_value field.value s))

-- looking at an object meets the places to which its links lead
pub object-met : (object : Object) (s : Seen) → Met (Contains (links object)) s (meets_object object s)
object-met object s =
    as-met (λ j. Contains (field_references object.fields) j ⊎ Contains object.bag j) (Contains (links object)) s _
    (λ j h. elim h [ inl f ↦ Contains-append_left (field_references object.fields) object.bag j f | inr b ↦ Contains-append_right (field_references object.fields) object.bag j b ])
    (λ j h. Contains-append_cases (field_references object.fields) object.bag j h)
    (both-met (Contains (field_references object.fields)) (Contains object.bag) s _ _ (fields-met object.fields s) (places-met object.bag (meets_fields object.fields s)))

-- a first place is met
pub begun-met : (size place : ℕ) (s : Seen) → Met (λ j. place ≡ j) s (meets_place place s)
begun-met size place s = place-met place s
