-- What is left of the superinterfaces of a class.
use Rattle.std.proofs.Common.{◌≡◌, ℕ, zero, suc, ◌<◌, ◌⊎◌, inl, inr, true, List, [], refl, sym, ap, ◌∙◌, subst, arith}
use Rattle.std.specs.Prelude.{Option, Some, None, Contains, is_some}
use Rattle.ja_ir.specs.declared.head.ClassHead.{ClassHead}
use Rattle.ja_base.specs.Index.{numbers_at}
use Rattle.ja_base.specs.declared.index.NumbersByName.{NumbersByName}
use Rattle.ja_hier.specs.declared.skip.Skip.TheVariants.{NoDefault}
use Rattle.ja_hier.specs.declared.starts.Member.TheVariants.{Method}
use Rattle.ja_hier.proofs.Indexed.{method-noted}
use Rattle.ja_hier.specs.InnerIndex.{Covers, Inherits, IsBelow, IsSomePlace, IsIndexOf, IsSomeCandidate, Overrides, IsOverridden, IsSomeLeft, IsOtherLeft, IsLeftNumber}
use Rattle.ja_hier.specs.LookUps.{method_in, answer_at, IsLeft, FindsDefault, one, nothing_left, several, ClassSearch, declared as declared-in, inherited, at_end, Finds, in_no_class}
use Rattle.ja_ir.specs.declared.class.MethodAt.TheVariants.{Library as AtLibrary}
use Rattle.ja_supertypes.specs.Faults.{IsCyclic, IsNowhere}
use Rattle.ja_supertypes.specs.Supertypes.{superclass_of, IsSuperclass, next, further, IsSupertype, direct, through, IsSuperinterface, declared}
use Rattle.ja_supertypes.proofs.Falls.{superclass-direct, interface-direct}
use Rattle.ja_supertypes.proofs.Up.{superclass-supertype}
use Rattle.ja_supertypes.proofs.Ranks.{rank_of, rank-falls}
use Rattle.ja_hier.specs.declared.skip.Skip.{Skip}
use Rattle.ja_hier.proofs.FieldWays.{none-from}
use Rattle.ja_hier.proofs.Lowest.{IsNotLower}

same-place : (o : Option ℕ) (j k : ℕ) → o ≡ Some j → o ≡ Some k → j ≡ k
same-place o j k e f = let g : Some j ≡ Some k = sym e ∙ f in cc g

-- a method is left where no candidate overrides it
pub left-from : (heads : List ClassHead) (name desc : List ℕ) (c i : ℕ) → IsSomeCandidate heads name desc c i → (IsOverridden heads name desc c i → ⊥) → IsSomeLeft heads name desc c i
left-from heads name desc c i candidate none = (
  candidate.0,
  record {
    candidate = candidate.1;
    least = λ j l other sub. none (j, record { candidate = (l, other); below = sub });
  },
)

pub left-candidate : (heads : List ClassHead) (name desc : List ℕ) (c i : ℕ) → IsSomeLeft heads name desc c i → IsSomeCandidate heads name desc c i
left-candidate heads name desc c i left = (left.0, left.1.candidate)

pub left-alone : (heads : List ClassHead) (name desc : List ℕ) (c i : ℕ) → IsSomeLeft heads name desc c i → IsOverridden heads name desc c i → ⊥
left-alone heads name desc c i left over = left.1.least over.0 over.1.candidate.0 over.1.candidate.1 over.1.below

pub left-above : (heads : List ClassHead) (name desc : List ℕ) (c i : ℕ) → IsSomeLeft heads name desc c i → IsSuperinterface heads c i
left-above heads name desc c i left = left.1.candidate.above

-- the one method that is left
pub one-left : (heads : List ClassHead) (name desc : List ℕ) (c i m : ℕ) → IsSomeLeft heads name desc c i → ((j : ℕ) → IsSomeLeft heads name desc c j → j ≡ i) → IsLeftNumber heads name desc i m → FindsDefault heads name desc c (Some m)
one-left heads name desc c i m left alone number =
    let same : left.0 ≡ number.0 = same-place (method_in heads NoDefault name desc i) left.0 number.0 left.1.candidate.declared number.1 in
    subst (λ (n : ℕ). FindsDefault heads name desc c (Some n)) (sym number.2)
    (one i number.0 (subst (λ (l : ℕ). IsLeft heads name desc c i l) same left.1) (λ j l other. alone j (l, other)))

pub none-left : (heads : List ClassHead) (name desc : List ℕ) (c : ℕ) → ((i : ℕ) → IsSomeLeft heads name desc c i → ⊥) → FindsDefault heads name desc c None
none-left heads name desc c none = nothing_left (λ j l left. none j (l, left))

pub two-left : (heads : List ClassHead) (name desc : List ℕ) (c i : ℕ) → IsSomeLeft heads name desc c i → IsOtherLeft heads name desc c i → FindsDefault heads name desc c None
two-left heads name desc c i left other = several i left.0 other.0 other.1.0 left.1 other.1.1 other.2

-- where no class declares a method of the name, a class declares none
pub none-declared : (heads : List ClassHead) (index : NumbersByName) (skip : Skip) (name desc : List ℕ) → IsIndexOf Method heads index → numbers_at index name ≡ [] → (c : ℕ) → method_in heads skip name desc c ≡ None
none-declared heads index skip name desc are none c =
    none-from (method_in heads skip name desc c) (λ k e.
    let in' : Contains {X = ℕ} [] c = subst (λ (xs : List ℕ). Contains xs c) none (method-noted heads index skip name desc c k are e) in
    omega (arith, in'.1))

-- ---- the way up through superclasses

pub superclass-through : (heads : List ClassHead) (a b c : ℕ) → IsSuperclass heads a b → IsSuperclass heads b c → IsSuperclass heads a c
superclass-through heads a b c (next e) t = further b e t
superclass-through heads a b c (further m e s) t = further m e (superclass-through heads m b c s t)

-- of two superclasses of one class one is above the other
pub comparable : (heads : List ClassHead) (c d e : ℕ) → IsSuperclass heads c d → IsSuperclass heads c e → (d ≡ e) ⊎ (IsSuperclass heads d e ⊎ IsSuperclass heads e d)
comparable heads c d e (next x) (next y) = inl (same-place (superclass_of heads c) d e x y)
comparable heads c d e (next x) (further m y t) = inr (inl (subst (λ (z : ℕ). IsSuperclass heads z e) (same-place (superclass_of heads c) m d y x) t))
comparable heads c d e (further m x s) (next y) = inr (inr (subst (λ (z : ℕ). IsSuperclass heads z d) (same-place (superclass_of heads c) m e x y) s))
comparable heads c d e (further m x s) (further n y t) = comparable heads m d e s (subst (λ (z : ℕ). IsSuperclass heads z e) (same-place (superclass_of heads c) n m y x) t)

-- a superinterface is a supertype
pub superinterface-supertype : (heads : List ClassHead) (c i : ℕ) → IsSuperinterface heads c i → IsSupertype heads c i
superinterface-supertype heads c i (declared d at in') = elim at [
  | inl same ↦ subst (λ (x : ℕ). IsSupertype heads x i) (sym same) (direct (interface-direct heads d i in'))
  | inr s ↦ through d s (direct (interface-direct heads d i in'))
]

-- a class that lies above another one and declares the method is among those that stand for the noted ones
pub covers-method : (heads : List ClassHead) (index : NumbersByName) (skip : Skip) (name desc : List ℕ) (c d : ℕ) (listed : List ℕ) → IsIndexOf Method heads index → Covers heads c (numbers_at index name) listed
    → IsSupertype heads c d → IsSomePlace (method_in heads skip name desc d) → Contains listed d
covers-method heads index skip name desc c d listed are covers above place = covers.complete d above (method-noted heads index skip name desc d place.0 are place.1)

-- an interface of which a method is left is among those that stand for the noted ones, and so is one that overrides
pub left-listed : (heads : List ClassHead) (index : NumbersByName) (name desc : List ℕ) (c i : ℕ) (listed : List ℕ) → IsIndexOf Method heads index → Covers heads c (numbers_at index name) listed
    → IsSomeLeft heads name desc c i → Contains listed i
left-listed heads index name desc c i listed are covers left =
    covers-method heads index NoDefault name desc c i listed are covers (superinterface-supertype heads c i left.1.candidate.above) (left.0, left.1.candidate.declared)

pub overriding-listed : (heads : List ClassHead) (index : NumbersByName) (name desc : List ℕ) (c j i : ℕ) (listed : List ℕ) → IsIndexOf Method heads index → Covers heads c (numbers_at index name) listed
    → Overrides heads name desc c j i → Contains listed j
overriding-listed heads index name desc c j i listed are covers over =
    covers-method heads index NoDefault name desc c j listed are covers (superinterface-supertype heads c j over.candidate.1.above) (over.candidate.0, over.candidate.1.declared)

pub inherits-listed : (heads : List ClassHead) (index : NumbersByName) (skip : Skip) (name desc : List ℕ) (c : ℕ) (listed : List ℕ) → IsIndexOf Method heads index → Covers heads c (numbers_at index name) listed
    → (d : ℕ) → Inherits heads skip name desc c d → Contains listed d
inherits-listed heads index skip name desc c listed are covers d from =
    covers-method heads index skip name desc c d listed are covers (superclass-supertype heads c d from.superclass) from.declared

-- a superclass that is not below the nearest so far is not nearer
pub not-nearer : (heads : List ClassHead) (skip : Skip) (name desc : List ℕ) (c e : ℕ) (nearest : Option ℕ) → ((d : ℕ) → nearest ≡ Some d → Inherits heads skip name desc c d)
    → (IsBelow (IsSuperclass heads) nearest e → Inherits heads skip name desc c e → ⊥) → Inherits heads skip name desc c e → IsNotLower (IsSuperclass heads) nearest e
not-nearer heads skip name desc c e None so-far none from = none tt from
not-nearer heads skip name desc c e (Some d) so-far none from =
    elim (comparable heads c d e (so-far d refl).superclass from.superclass) [
      | inl same ↦ inl same
      | inr other ↦ elim other [ inl up ↦ inr up | inr down ↦ absurd (none down from) ]
    ]

-- what the nearest superclass declares is what the search finds
pub found-above : (heads : List ClassHead) (skip : Skip) (name desc : List ℕ) → IsNowhere (IsCyclic heads) → (c d k : ℕ) → IsSuperclass heads c d → method_in heads skip name desc c ≡ None → method_in heads skip name desc d ≡ Some k
    → ((e : ℕ) → Inherits heads skip name desc c e → (d ≡ e) ⊎ IsSuperclass heads d e) → ClassSearch heads skip name desc c (Some (answer_at heads d k))
found-above heads skip name desc acyclic c d k (next x) none at lowest = inherited none x (declared-in at)
found-above heads skip name desc acyclic c d k (further m x s) none at lowest =
    let round : IsSuperclass heads m m → ⊥ = λ t. acyclic m (superclass-supertype heads m m t) in
    let none-there : method_in heads skip name desc m ≡ None =
    none-from (method_in heads skip name desc m) (λ j e. elim (lowest m (record { superclass = next x; declared = (j, e) })) [
      | inl same ↦ round (subst (λ (z : ℕ). IsSuperclass heads m z) same s)
      | inr up ↦ round (superclass-through heads m d m s up)
    ]) in
    inherited none x
    (found-above heads skip name desc acyclic m d k s none-there at (λ e from. lowest e (record { superclass = further m x from.superclass; declared = from.declared })))

nothing-by : (heads : List ClassHead) (skip : Skip) (name desc : List ℕ) (c : ℕ) (o : Option ℕ) → superclass_of heads c ≡ o → method_in heads skip name desc c ≡ None
    → ((d : ℕ) → superclass_of heads c ≡ Some d → ClassSearch heads skip name desc d None) → ClassSearch heads skip name desc c None
nothing-by heads skip name desc c None e none up = at_end none e
nothing-by heads skip name desc c (Some d) e none up = inherited none e (up d e)

nothing-below : (heads : List ClassHead) (skip : Skip) (name desc : List ℕ) → IsNowhere (IsCyclic heads) → (n c : ℕ) → rank_of heads c < n → method_in heads skip name desc c ≡ None
    → ((e : ℕ) → Inherits heads skip name desc c e → ⊥) → ClassSearch heads skip name desc c None
nothing-below heads skip name desc acyclic zero c lt none above = absurd (omega arith)
nothing-below heads skip name desc acyclic (suc n) c lt none above =
    nothing-by heads skip name desc c (superclass_of heads c) refl none
    (λ d e. nothing-below heads skip name desc acyclic n d (omega (arith, rank-falls heads acyclic c d (superclass-direct heads c d e)))
    (none-from (method_in heads skip name desc d) (λ k f. above d (record { superclass = next e; declared = (k, f) })))
    (λ x from. above x (record { superclass = further d e from.superclass; declared = from.declared })))

-- where neither a class nor a superclass declares the method, the search finds nothing
pub nothing-above : (heads : List ClassHead) (skip : Skip) (name desc : List ℕ) → IsNowhere (IsCyclic heads) → (c : ℕ) → method_in heads skip name desc c ≡ None
    → ((e : ℕ) → Inherits heads skip name desc c e → ⊥) → ClassSearch heads skip name desc c None
nothing-above heads skip name desc acyclic c none above = nothing-below heads skip name desc acyclic (suc (rank_of heads c)) c (omega arith) none above

-- then the look-up ends in the library
pub finds-library : (heads : List ClassHead) (index : NumbersByName) (skip : Skip) (name desc : List ℕ) → IsNowhere (IsCyclic heads) → IsIndexOf Method heads index → numbers_at index name ≡ [] → (c : ℕ)
    → Finds heads skip name desc c AtLibrary
finds-library heads index skip name desc acyclic are none c =
    in_no_class
    (nothing-above heads skip name desc acyclic c (none-declared heads index skip name desc are none c)
    (λ d from. let e : method_in heads skip name desc d ≡ None = none-declared heads index skip name desc are none d in let f : method_in heads skip name desc d ≡ Some from.declared.0 = from.declared.1 in cc (e, f)))
    (none-left heads name desc c (λ i left.
    let e : method_in heads NoDefault name desc i ≡ None = none-declared heads index NoDefault name desc are none i in
    let f : method_in heads NoDefault name desc i ≡ Some left.0 = left.1.candidate.declared in
    cc (e, f)))

pub place-there : (o : Option ℕ) → is_some o ≡ true → (k : ℕ) × (o ≡ Some k)
place-there None e = absurd (cc e)
place-there (Some k) e = (k, refl)

pub is-there : (o : Option ℕ) → (k : ℕ) × (o ≡ Some k) → is_some o ≡ true
is-there o place = ap (λ (p : Option ℕ). is_some p) place.1
