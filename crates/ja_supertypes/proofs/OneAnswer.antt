-- The nearest library superclass is one, and so are the library types.
use Rattle.std.proofs.Common.{◌≡◌, ℕ, ◌⊎◌, inl, inr, List, [], ◌∷◌, ◌++◌, refl, sym, ap, ◌∙◌, subst}
use Rattle.std.specs.Prelude.{Some, None, slice_get}
use Rattle.ja_ir.specs.declared.head.ClassHead.{ClassHead}
use Rattle.ja_supertypes.specs.LibraryTypes.{first_places, Expands, nothing, of_library, of_program, ExpandsUp, at_top, upwards, AreLibraryTypes}
use Rattle.ja_supertypes.specs.Supertypes.{class_named, interface_names}
use Rattle.ja_supertypes.proofs.Nearest.{begins-one}

-- a program interface gives way to its own
record Replaced (heads : List ClassHead) (name : List ℕ) (names expanded : List (List ℕ)) : Type 0 where
  pub i : ℕ
  pub is : class_named heads name ≡ Some i
  pub own : List (List ℕ)
  pub rest : List (List ℕ)
  pub inner : Expands heads (interface_names (slice_get heads i)) own
  pub outer : Expands heads names rest
  pub are : expanded ≡ own ++ rest

-- how an expansion begins
abbrev ExpandsCase : List ClassHead → (names expanded : List (List ℕ)) → Type 0
ExpandsCase heads [] expanded = expanded ≡ []
ExpandsCase heads (name ∷ names) expanded =
    ((rest : List (List ℕ)) × (class_named heads name ≡ None) × Expands heads names rest × (expanded ≡ name ∷ rest)) ⊎ Replaced heads name names expanded

expands-case : (heads : List ClassHead) (names expanded : List (List ℕ)) → Expands heads names expanded → ExpandsCase heads names expanded
expands-case heads names expanded nothing = refl
expands-case heads names expanded (of_library {expanded = rest} e x) = inl (rest, e, x, refl)
expands-case heads names expanded (of_program {own = own} {expanded = rest} i e x y) = inr (record { i = i; is = e; own = own; rest = rest; inner = x; outer = y; are = refl })

expands-one : (heads : List ClassHead) (names a b : List (List ℕ)) → Expands heads names a → Expands heads names b → a ≡ b
expands-one heads names a b nothing y = sym (expands-case heads [] b y)
expands-one heads names a b (of_library {name = name} {names = more} {expanded = rest} e x) y =
    elim (expands-case heads (name ∷ more) b y) [
      | inl same ↦ ap (λ (l : List (List ℕ)). name ∷ l) (expands-one heads more rest same.0 x same.2) ∙ sym same.3
      | inr other ↦ let f : class_named heads name ≡ Some other.i = other.is in absurd (cc (e, f))
    ]
expands-one heads names a b (of_program {name = name} {names = more} {own = own} {expanded = rest} i e x z) y =
    elim (expands-case heads (name ∷ more) b y) [
      | inl other ↦ let f : class_named heads name ≡ None = other.1 in absurd (cc (e, f))
      | inr same ↦
          let f : Some i ≡ Some same.i = sym e ∙ same.is in
          let g : i ≡ same.i = cc f in
          ap (λ (l : List (List ℕ)). l ++ rest) (expands-one heads (interface_names (slice_get heads i)) own same.own x (subst (λ (j : ℕ). Expands heads (interface_names (slice_get heads j)) same.own) (sym g) same.inner))
          ∙ ap (λ (l : List (List ℕ)). same.own ++ l) (expands-one heads more rest same.rest z same.outer)
          ∙ sym same.are
    ]

up-one : (heads : List ClassHead) (c : ℕ) (a b : List (List ℕ)) → ExpandsUp heads c a → ExpandsUp heads c b → a ≡ b
up-one heads c a b (at_top x none) (at_top y other) = expands-one heads (interface_names (slice_get heads c)) a b x y
up-one heads c a b (at_top x none) (upwards d y e u) = absurd (cc (none, e))
up-one heads c a b (upwards d x e u) (at_top y none) = absurd (cc (none, e))
up-one heads c a b (upwards {own = own} {above = above} d x e u) (upwards {own = other} {above = higher} f y g v) =
    let h : Some d ≡ Some f = sym e ∙ g in
    let same : d ≡ f = cc h in
    ap (λ (l : List (List ℕ)). l ++ above) (expands-one heads (interface_names (slice_get heads c)) own other x y)
    ∙ ap (λ (l : List (List ℕ)). other ++ l) (up-one heads d above higher u (subst (λ (z : ℕ). ExpandsUp heads z higher) (sym same) v))

pub types-one : (heads : List ClassHead) (c : ℕ) (a b : List (List ℕ)) → AreLibraryTypes heads c a → AreLibraryTypes heads c b → a ≡ b
types-one heads c a b x y =
    x.are ∙ ap (λ (l : List (List ℕ)). first_places (l ++ x.interfaces)) (begins-one heads c x.superclass y.superclass x.begins y.begins)
    ∙ ap (λ (l : List (List ℕ)). first_places (y.superclass ++ l)) (up-one heads c x.interfaces y.interfaces x.expands y.expands) ∙ sym y.are
