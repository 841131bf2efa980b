-- Ways up on which there is no choice, and the search for a field along them.
use Rattle.std.proofs.Common.{◌≡◌, ℕ, zero, suc, ◌<◌, ◌⊎◌, inl, inr, List, [], ◌∷◌, ◌++◌, length, get_or, refl, sym, ap, ◌∙◌, subst, arith}
use Rattle.std.specs.Prelude.{Option, Some, None, Contains, slice_get}
use Rattle.std.proofs.lemmas.Option.{get_or_from_slice_get}
use Rattle.std.proofs.lemmas.List.Elements.{Contains-get_or}
use Rattle.ja_ir.specs.declared.head.ClassHead.{ClassHead}
use Rattle.ja_base.specs.Index.{numbers_at}
use Rattle.ja_base.specs.declared.index.NumbersByName.{NumbersByName}
use Rattle.ja_hier.specs.declared.starts.Member.TheVariants.{Field}
use Rattle.ja_hier.specs.InnerIndex.{AreForks, Covers, IsBelow, IsIndexOf, IsNowhereOn, IsStraight, stays, upwards, Meets}
use Rattle.ja_hier.specs.LookUps.{field_in, field_number, FieldSearch, here, further}
use Rattle.ja_hier.specs.InnerIndex.{IsDeclaredAbove}
use Rattle.ja_supertypes.specs.Faults.{IsCyclic, IsNowhere}
use Rattle.ja_supertypes.specs.Supertypes.{supertypes_of, IsAtOrAbove, IsDirect, IsSupertype, direct, through}
use Rattle.ja_supertypes.proofs.Falls.{first-step, step-above, supertype-target}
use Rattle.ja_supertypes.proofs.Ranks.{rank_of, rank-falls}
use Rattle.ja_hier.proofs.FieldWays.{none-from}
use Rattle.ja_hier.proofs.Indexed.{field-noted}
use Rattle.ja_hier.proofs.Lowest.{IsNotLower}

-- ---- at or above

pub at-or-above-through : (heads : List ClassHead) (a b c : ℕ) → IsAtOrAbove heads a b → IsAtOrAbove heads b c → IsAtOrAbove heads a c
at-or-above-through heads a b c (inl same) t = subst (λ (x : ℕ). IsAtOrAbove heads x c) (sym same) t
at-or-above-through heads a b c (inr s) (inl same) = inr (subst (IsSupertype heads a) same s)
at-or-above-through heads a b c (inr s) (inr t) = inr (through b s t)

pub above-inside : (heads : List ClassHead) (c d : ℕ) → c < length heads → IsAtOrAbove heads c d → d < length heads
above-inside heads c d lt (inl same) = subst (λ (x : ℕ). x < length heads) same lt
above-inside heads c d lt (inr s) = supertype-target heads c d s

above-above : (heads : List ClassHead) (c d e : ℕ) → IsAtOrAbove heads c d → IsSupertype heads d e → IsSupertype heads c e
above-above heads c d e (inl same) t = subst (λ (x : ℕ). IsSupertype heads x e) (sym same) t
above-above heads c d e (inr s) t = through d s t

-- what stands for the listed classes at a class stands for them above it
pub covers-above : (heads : List ClassHead) (c d : ℕ) (noted listed : List ℕ) → IsAtOrAbove heads c d → Covers heads c noted listed → Covers heads d noted listed
covers-above heads c d noted listed up covers = record { inside = covers.inside; complete = λ e above. covers.complete e (above-above heads c d e up above) }

pub covers-next : (heads : List ClassHead) (c : ℕ) (xs : List ℕ) (i : ℕ) (noted listed : List ℕ) → xs ≡ supertypes_of heads c → i < length xs → Covers heads c noted listed → Covers heads (get_or xs i 0) noted listed
covers-next heads c xs i noted listed e lt covers =
    covers-above heads c (get_or xs i 0) noted listed (inr (direct (subst (λ (ds : List ℕ). Contains ds (get_or xs i 0)) e (Contains-get_or xs i 0 lt)))) covers

-- ---- the way

pub only-direct : (heads : List ClassHead) (c d : ℕ) → supertypes_of heads c ≡ d ∷ [] → IsDirect heads c d
only-direct heads c d x = subst (λ (xs : List ℕ). Contains xs d) (sym x) (0, omega arith, refl)

pub straight-above : (heads : List ClassHead) (c t : ℕ) → IsStraight heads c t → IsAtOrAbove heads c t
straight-above heads c t stays = inl refl
straight-above heads c t (upwards d x s) = inr (step-above heads c d t (only-direct heads c d x) (straight-above heads d t s))

is-only : (heads : List ClassHead) (c d e : ℕ) → supertypes_of heads c ≡ d ∷ [] → IsDirect heads c e → d ≡ e
is-only heads c d e x y = single d e (subst (λ (xs : List ℕ). Contains xs e) x y)
  where
    single : (a b : ℕ) → Contains (a ∷ []) b → a ≡ b
    single a b (zero, lt, same) = same
    single a b (suc k, lt, same) = absurd (omega arith)

-- what is above a class with one direct supertype is at or above that
up-step : (heads : List ClassHead) (c d e : ℕ) → supertypes_of heads c ≡ d ∷ [] → IsSupertype heads c e → IsAtOrAbove heads d e
up-step heads c d e x s =
    let first : (m : ℕ) × IsDirect heads c m × IsAtOrAbove heads m e = first-step heads c e s in
    subst (λ (m : ℕ). IsAtOrAbove heads m e) (sym (is-only heads c d first.0 x first.1)) first.2

-- a class above is on the way, or above its end
pub on-or-past : (heads : List ClassHead) (c t e : ℕ) → IsStraight heads c t → IsAtOrAbove heads c e → IsAtOrAbove heads e t ⊎ IsAtOrAbove heads t e
on-or-past heads c t e stays up = inr up
on-or-past heads c t e (upwards d x s) (inl same) = inl (subst (λ (y : ℕ). IsAtOrAbove heads y t) same (straight-above heads c t (upwards d x s)))
on-or-past heads c t e (upwards d x s) (inr up) = on-or-past heads d t e s (up-step heads c d e x up)

-- of two classes on the way one is at or above the other
pub ordered : (heads : List ClassHead) (c t e f : ℕ) → IsStraight heads c t → IsAtOrAbove heads c e → IsAtOrAbove heads e t → IsAtOrAbove heads c f → IsAtOrAbove heads f t → IsAtOrAbove heads e f ⊎ IsAtOrAbove heads f e
ordered heads c t e f stays ce et cf ft = inl (at-or-above-through heads e c f et cf)
ordered heads c t e f (upwards d x s) (inl same) et cf ft = inl (subst (λ (y : ℕ). IsAtOrAbove heads y f) same cf)
ordered heads c t e f (upwards d x s) (inr ce) et (inl same) ft = inr (subst (λ (y : ℕ). IsAtOrAbove heads y e) same (inr ce))
ordered heads c t e f (upwards d x s) (inr ce) et (inr cf) ft = ordered heads d t e f s (up-step heads c d e x ce) et (up-step heads c d f x cf) ft

-- a class on the way that does not have the lowest so far above it is not lower
pub not-lower : (heads : List ClassHead) (name desc : List ℕ) (c t e : ℕ) (lowest : Option ℕ) → IsStraight heads c t → ((d : ℕ) → lowest ≡ Some d → Meets heads name desc c t d)
    → (IsBelow (IsSupertype heads) lowest e → Meets heads name desc c t e → ⊥) → Meets heads name desc c t e → IsNotLower (IsSupertype heads) lowest e
not-lower heads name desc c t e None way so-far none at = none tt at
not-lower heads name desc c t e (Some d) way so-far none at =
    let found : Meets heads name desc c t d = so-far d refl in
    elim (ordered heads c t d e way (inr found.between.above) found.between.below (inr at.between.above) at.between.below) [
      | inl up ↦ up
      | inr down ↦ elim down [ inl same ↦ inl (sym same) | inr s ↦ absurd (none s at) ]
    ]

-- what is met is among those that stand for the noted classes
pub meets-listed : (heads : List ClassHead) (index : NumbersByName) (name desc : List ℕ) (c t : ℕ) (listed : List ℕ) → IsIndexOf Field heads index → Covers heads c (numbers_at index name) listed
    → (e : ℕ) → Meets heads name desc c t e → Contains listed e
meets-listed heads index name desc c t listed are covers e at = covers.complete e at.between.above (field-noted heads index name desc e at.declared.0 are at.declared.1)

-- ---- the search

onwards : (heads : List ClassHead) (name desc : List ℕ) (c d : ℕ) (found : Option ℕ) → supertypes_of heads c ≡ d ∷ [] → field_in heads name desc c ≡ None → FieldSearch heads name desc (d ∷ []) found → FieldSearch heads name desc (c ∷ []) found
onwards heads name desc c d found x none s =
    further none (subst (λ (xs : List ℕ). FieldSearch heads name desc xs found) (sym (ap (λ (xs : List ℕ). xs ++ []) x)) s)

-- the search goes along a way on which no class declares the field
pub goes-along : (heads : List ClassHead) (name desc : List ℕ) (c t : ℕ) (found : Option ℕ) → IsStraight heads c t → IsNowhereOn heads name desc c t → FieldSearch heads name desc (t ∷ []) found → FieldSearch heads name desc (c ∷ []) found
goes-along heads name desc c t found stays none s = s
goes-along heads name desc c t found (upwards d x way) none s =
    onwards heads name desc c d found x
    (none-from (field_in heads name desc c) (λ k e. none c (inl refl) (straight-above heads c t (upwards d x way)) (k, e)))
    (goes-along heads name desc d t found way (λ e up below place. none e (inr (step-above heads c d e (only-direct heads c d x) up)) below place) s)

-- it finds what the lowest class on the way declares
pub finds-lowest : (heads : List ClassHead) (name desc : List ℕ) → IsNowhere (IsCyclic heads) → (c t b k : ℕ) → IsStraight heads c t → IsSupertype heads c b → IsAtOrAbove heads b t → field_in heads name desc c ≡ None
    → field_in heads name desc b ≡ Some k → ((e : ℕ) → Meets heads name desc c t e → (b ≡ e) ⊎ IsSupertype heads b e) → FieldSearch heads name desc (c ∷ []) (Some (field_number heads b k))
finds-lowest heads name desc acyclic c t b k stays cb bt none at lowest = absurd (acyclic c (back bt))
  where
    back : IsAtOrAbove heads b c → IsSupertype heads c c
    back (inl same) = subst (IsSupertype heads c) same cb
    back (inr s) = through b cb s
finds-lowest heads name desc acyclic c t b k (upwards d x way) cb bt none at lowest =
    onwards heads name desc c d (Some (field_number heads b k)) x none (elim (up-step heads c d b x cb) [
      | inl same ↦ here-at same
      | inr db ↦
          finds-lowest heads name desc acyclic d t b k way db bt
          (none-from (field_in heads name desc d) (λ j e. elim (lowest d (record { between = record { above = direct (only-direct heads c d x); below = straight-above heads d t way }; declared = (j, e) })) [
            | inl same ↦ acyclic d (subst (IsSupertype heads d) same db)
            | inr bd ↦ acyclic d (through b db bd)
          ]))
          at (λ e met. lowest e (record { between = record { above = through d (direct (only-direct heads c d x)) met.between.above; below = met.between.below }; declared = met.declared }))
    ])
  where
    here-at : d ≡ b → FieldSearch heads name desc (d ∷ []) (Some (field_number heads b k))
    here-at same = subst (λ (y : ℕ). FieldSearch heads name desc (y ∷ []) (Some (field_number heads b k))) (sym same) (here at)

-- where no class on the way declares the field, but one above does, one at or above its end does
pub declared-past : (heads : List ClassHead) (name desc : List ℕ) (c t : ℕ) → IsStraight heads c t → IsNowhereOn heads name desc c t → IsDeclaredAbove heads name desc c → IsDeclaredAbove heads name desc t
declared-past heads name desc c t way none above =
    elim (on-or-past heads c t above.0 way above.2) [
      | inl on ↦ absurd (none above.0 above.2 on (above.1, above.3))
      | inr past ↦ (above.0, above.1, past, above.3)
    ]

-- the end of the way does not declare the field itself
pub end-lacks : (heads : List ClassHead) (name desc : List ℕ) (c t : ℕ) → IsStraight heads c t → IsNowhereOn heads name desc c t → field_in heads name desc t ≡ None
end-lacks heads name desc c t way none = none-from (field_in heads name desc t) (λ k e. none t (straight-above heads c t way) (inl refl) (k, e))

-- nothing is met, and the class itself does not declare the field
pub nowhere-on : (heads : List ClassHead) (name desc : List ℕ) (c t : ℕ) → field_in heads name desc c ≡ None → ((e : ℕ) → Meets heads name desc c t e → ⊥) → IsNowhereOn heads name desc c t
nowhere-on heads name desc c t none met e up below place = elim up [
  | inl same ↦ let at : field_in heads name desc c ≡ Some place.0 = ap (field_in heads name desc) same ∙ place.1 in absurd (cc (at, none))
  | inr s ↦ met e (record { between = record { above = s; below = below }; declared = place })
]

-- on the way the number of supertypes does not rise
pub straight-falls : (heads : List ClassHead) (c t d : ℕ) → IsNowhere (IsCyclic heads) → IsStraight heads c t → IsDirect heads t d → rank_of heads d < rank_of heads c
straight-falls heads c t d acyclic stays e = rank-falls heads acyclic c d e
straight-falls heads c t d acyclic (upwards m x way) e =
    omega (arith, straight-falls heads m t d acyclic way e, rank-falls heads acyclic c m (only-direct heads c m x))

-- ---- how the ways are found

pub straight-more : (heads : List ClassHead) (c t d : ℕ) → IsStraight heads c t → supertypes_of heads t ≡ d ∷ [] → IsStraight heads c d
straight-more heads c t d stays e = upwards d e stays
straight-more heads c t d (upwards m x way) e = upwards m x (straight-more heads m t d way e)

pub fork-read : (heads : List ClassHead) (forks : List ℕ) (c t : ℕ) → AreForks heads forks → slice_get forks c ≡ Some t → c < length heads → IsStraight heads c t
fork-read heads forks c t are read lt = subst (IsStraight heads c) (get_or_from_slice_get forks c t 0 read) (are.each c lt)

pub fork-inside : (heads : List ClassHead) (forks : List ℕ) (c t : ℕ) → AreForks heads forks → slice_get forks c ≡ Some t → c < length heads → t < length heads
fork-inside heads forks c t are read lt = above-inside heads c t lt (straight-above heads c t (fork-read heads forks c t are read lt))
