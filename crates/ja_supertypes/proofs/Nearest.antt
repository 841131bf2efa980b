-- The nearest library superclass.
use Rattle.std.proofs.Common.{◌≡◌, ℕ, inl, inr, Bool, true, cond, List, [], ◌∷◌, refl, sym, ap, ◌∙◌, subst}
use Rattle.std.specs.Prelude.{Option, Some, None, bytes_eq, slice_get}
use Rattle.std.proofs.lemmas.Bool.{cases_Bool}
use Rattle.std.proofs.lemmas.Slice.Eq.{bytes_eq-Decides}
use Rattle.ja_ir.specs.declared.head.ClassHead.{ClassHead}
use Rattle.ja_supertypes.specs.InnerIndex.{IsTop}
use Rattle.ja_supertypes.specs.LibraryTypes.{IsNearest, named, inherited, Begins, with_superclass, with_object, with_none}
use Rattle.ja_supertypes.specs.InnerTypes.{other_than_object}
use Rattle.ja_supertypes.specs.Supertypes.{names_of, place_of_some, class_named, superclass_name, superclass_of, object_name, IsSuperclass, next, further}

-- a superclass that is no program class is one of the library
library-name : (heads : List ClassHead) (t : ℕ) (name : List ℕ) → superclass_name (slice_get heads t) ≡ Some name → superclass_of heads t ≡ None → class_named heads name ≡ None
library-name heads t name e none = let f : place_of_some (names_of heads) (Some name) ≡ None = ap (place_of_some (names_of heads)) (sym e) ∙ none in f

lift : (heads : List ClassHead) (c t : ℕ) (name : List ℕ) → IsSuperclass heads c t → IsNearest heads t name → IsNearest heads c name
lift heads c t name (next e) n = inherited t e n
lift heads c t name (further m e s) n = inherited m e (lift heads m t name s n)

-- it is that of the direct program superclass
pub nearest-down : (heads : List ClassHead) (c d : ℕ) (name : List ℕ) → superclass_of heads c ≡ Some d → IsNearest heads c name → IsNearest heads d name
nearest-down heads c d name e (named f none) =
    let g : superclass_of heads c ≡ None = ap (place_of_some (names_of heads)) f ∙ none in absurd (cc (e, g))
nearest-down heads c d name e (inherited m f n) =
    let g : Some m ≡ Some d = sym f ∙ e in
    let same : m ≡ d = cc g in
    subst (λ (x : ℕ). IsNearest heads x name) same n

nearest-top : (heads : List ClassHead) (c t : ℕ) (name : List ℕ) → IsSuperclass heads c t → IsNearest heads c name → IsNearest heads t name
nearest-top heads c t name (next e) n = nearest-down heads c t name e n
nearest-top heads c t name (further m e s) n = nearest-top heads m t name s (nearest-down heads c m name e n)

nearest-none : (heads : List ClassHead) (t : ℕ) → superclass_name (slice_get heads t) ≡ None → (name : List ℕ) → IsNearest heads t name → ⊥
nearest-none heads t none name (named f g) = cc (none, f)
nearest-none heads t none name (inherited m f n) = let g : superclass_of heads t ≡ None = ap (place_of_some (names_of heads)) none in cc (g, f)

pub top-nearest : (heads : List ClassHead) (c t : ℕ) (name : List ℕ) → IsTop heads c t → superclass_name (slice_get heads t) ≡ Some name → IsNearest heads c name
top-nearest heads c t name top e =
    let own : IsNearest heads t name = named e (library-name heads t name e top.last) in
    elim top.above [
      | inl same ↦ subst (λ (x : ℕ). IsNearest heads x name) (sym same) own
      | inr super ↦ lift heads c t name super own
    ]

pub top-none : (heads : List ClassHead) (c t : ℕ) → IsTop heads c t → superclass_name (slice_get heads t) ≡ None → (name : List ℕ) → IsNearest heads c name → ⊥
top-none heads c t top none name n =
    nearest-none heads t none name (elim top.above [
      | inl same ↦ subst (λ (x : ℕ). IsNearest heads x name) same n
      | inr super ↦ nearest-top heads c t name super n
    ])

pub nearest-one : (heads : List ClassHead) (c : ℕ) (a b : List ℕ) → IsNearest heads c a → IsNearest heads c b → a ≡ b
nearest-one heads c a b (named e none) (named f other) = let g : Some a ≡ Some b = sym e ∙ f in cc g
nearest-one heads c a b (named e none) (inherited m f n) =
    let g : superclass_of heads c ≡ None = ap (place_of_some (names_of heads)) e ∙ none in absurd (cc (f, g))
nearest-one heads c a b (inherited m f n) other = nearest-one heads m a b n (nearest-down heads c m b f other)

begins-by : (heads : List ClassHead) (c t : ℕ) (o : Option (List ℕ)) → IsTop heads c t → superclass_name (slice_get heads t) ≡ o → Begins heads c (other_than_object o)
begins-by heads c t None top e = with_none (top-none heads c t top e)
begins-by heads c t (Some name) top e =
    elim (cases_Bool (bytes_eq name object_name)) [
      | inl is ↦
          let same : name ≡ object_name = (bytes_eq-Decides name object_name).0 is in
          subst (λ (b : Bool). Begins heads c (cond b [] (name ∷ []))) (sym is) (with_object (subst (λ (n : List ℕ). IsNearest heads c n) same (top-nearest heads c t name top e)))
      | inr other ↦
          subst (λ (b : Bool). Begins heads c (cond b [] (name ∷ []))) (sym other)
          (with_superclass (top-nearest heads c t name top e) (λ same. let is : bytes_eq name object_name ≡ true = (bytes_eq-Decides name object_name).1 same in cc (is, other)))
    ]

-- how the library types of a class begin, by the class at the top of its superclasses
pub begins-from-top : (heads : List ClassHead) (c t : ℕ) → IsTop heads c t → Begins heads c (other_than_object (superclass_name (slice_get heads t)))
begins-from-top heads c t top = begins-by heads c t (superclass_name (slice_get heads t)) top refl

pub begins-one : (heads : List ClassHead) (c : ℕ) (a b : List (List ℕ)) → Begins heads c a → Begins heads c b → a ≡ b
begins-one heads c a b (with_superclass {name = x} n other) (with_superclass {name = y} m another) = ap (λ (name : List ℕ). name ∷ []) (nearest-one heads c x y n m)
begins-one heads c a b (with_superclass {name = x} n other) (with_object m) = absurd (other (nearest-one heads c x object_name n m))
begins-one heads c a b (with_superclass {name = x} n other) (with_none none) = absurd (none x n)
begins-one heads c a b (with_object n) (with_superclass {name = y} m another) = absurd (another (nearest-one heads c y object_name m n))
begins-one heads c a b (with_object n) (with_object m) = refl
begins-one heads c a b (with_object n) (with_none none) = refl
begins-one heads c a b (with_none none) (with_superclass {name = y} m another) = absurd (none y m)
begins-one heads c a b (with_none none) (with_object m) = refl
begins-one heads c a b (with_none none) (with_none other) = refl

-- they begin as those of the direct superclass
pub begins-up : (heads : List ClassHead) (c d : ℕ) (names : List (List ℕ)) → superclass_of heads c ≡ Some d → Begins heads d names → Begins heads c names
begins-up heads c d names e (with_superclass n other) = with_superclass (inherited d e n) other
begins-up heads c d names e (with_object n) = with_object (inherited d e n)
begins-up heads c d names e (with_none none) = with_none (λ name n. none name (nearest-down heads c d name e n))
