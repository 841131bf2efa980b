-- The search for a field through the supertypes of a class.
use Rattle.std.proofs.Common.{◌≡◌, ℕ, zero, suc, ◌<◌, inl, inr, List, [], ◌∷◌, ◌++◌, length, get_or, refl, sym, ap, ◌∙◌, subst, arith, append_assoc}
use Rattle.std.specs.Prelude.{Option, Some, None, Contains}
use Rattle.std.proofs.lemmas.List.{get_or_default}
use Rattle.std.proofs.lemmas.List.Elements.{Contains-get_or}
use Rattle.ja_ir.specs.declared.head.ClassHead.{ClassHead}
use Rattle.ja_hier.specs.InnerIndex.{LeadsOn}
use Rattle.ja_hier.specs.LookUps.{field_in, FieldSearch, nowhere, here, further}
use Rattle.ja_hier.specs.InnerIndex.{IsDeclaredAbove}
use Rattle.ja_supertypes.specs.Supertypes.{supertypes_of, IsDirect, IsAtOrAbove}
use Rattle.ja_supertypes.proofs.Falls.{first-step, step-above, direct-target}

pub none-from : (o : Option ℕ) → ((k : ℕ) → o ≡ Some k → ⊥) → o ≡ None
none-from None h = refl
none-from (Some k) h = absurd (h k refl)

-- what is found among some classes is found where more follow
longer : (heads : List ClassHead) (name desc : List ℕ) (classes : List ℕ) (found : Option ℕ) → FieldSearch heads name desc classes found → (f : ℕ) → found ≡ Some f → (more : List ℕ)
    → FieldSearch heads name desc (classes ++ more) (Some f)
longer heads name desc classes found nowhere f e more = absurd (cc e)
longer heads name desc classes found (here {c = c} {k = k} {classes = rest} at) f e more =
    subst (λ (o : Option ℕ). FieldSearch heads name desc (c ∷ (rest ++ more)) o) e (here at)
longer heads name desc classes found (further {c = c} {classes = rest} none s) f e more =
    further none (subst (λ (l : List ℕ). FieldSearch heads name desc l (Some f)) (append_assoc (supertypes_of heads c) rest more)
    (longer heads name desc (supertypes_of heads c ++ rest) found s f e more))

-- the search passes over a class where it finds nothing above it
abbrev pub Passes : List ClassHead → (name desc : List ℕ) → (c : ℕ) → Type 0
Passes heads name desc c = (classes : List ℕ) (found : Option ℕ) → FieldSearch heads name desc classes found → FieldSearch heads name desc (c ∷ classes) found

pass-all : (heads : List ClassHead) (name desc : List ℕ) (ds : List ℕ) → ((d : ℕ) → Contains ds d → Passes heads name desc d) → (classes : List ℕ) (found : Option ℕ)
    → FieldSearch heads name desc classes found → FieldSearch heads name desc (ds ++ classes) found
pass-all heads name desc [] each classes found s = s
pass-all heads name desc (d ∷ ds) each classes found s =
    each d (0, omega arith, refl) (ds ++ classes) found (pass-all heads name desc ds (λ x in'. each x (suc in'.0, omega (arith, in'.1), in'.2)) classes found s)

lifted : (heads : List ClassHead) (name desc : List ℕ) (c d : ℕ) → IsDirect heads c d → IsDeclaredAbove heads name desc d → IsDeclaredAbove heads name desc c
lifted heads name desc c d e above = (above.0, above.1, inr (step-above heads c d above.0 e above.2), above.3)

passes-below : (heads : List ClassHead) (name desc : List ℕ) (rank : ℕ → ℕ) → ((c d : ℕ) → IsDirect heads c d → rank d < rank c) → (n c : ℕ) → rank c < n
    → (IsDeclaredAbove heads name desc c → ⊥) → Passes heads name desc c
passes-below heads name desc rank falls zero c lt none classes found s = absurd (omega arith)
passes-below heads name desc rank falls (suc n) c lt none classes found s =
    further (none-from (field_in heads name desc c) (λ k e. none (c, k, inl refl, e)))
    (pass-all heads name desc (supertypes_of heads c)
    (λ d in'. passes-below heads name desc rank falls n d (omega (arith, falls c d in')) (λ above. none (lifted heads name desc c d in' above)))
    classes found s)

pub passes : (heads : List ClassHead) (name desc : List ℕ) (rank : ℕ → ℕ) → ((c d : ℕ) → IsDirect heads c d → rank d < rank c) → (c : ℕ)
    → (IsDeclaredAbove heads name desc c → ⊥) → Passes heads name desc c
passes heads name desc rank falls c none = passes-below heads name desc rank falls (suc (rank c)) c (omega arith) none

-- nothing is found where nothing is declared
pub finds-nothing : (heads : List ClassHead) (name desc : List ℕ) (rank : ℕ → ℕ) → ((c d : ℕ) → IsDirect heads c d → rank d < rank c) → (c : ℕ)
    → (IsDeclaredAbove heads name desc c → ⊥) → FieldSearch heads name desc (c ∷ []) None
finds-nothing heads name desc rank falls c none = passes heads name desc rank falls c none [] None nowhere

-- what is found at the first class of a list under which the field is declared is what is found in the list
pass-to : (heads : List ClassHead) (name desc : List ℕ) (rank : ℕ → ℕ) → ((c d : ℕ) → IsDirect heads c d → rank d < rank c) → (ds : List ℕ) (i : ℕ) → i < length ds
    → ((j : ℕ) → j < i → IsDeclaredAbove heads name desc (get_or ds j 0) → ⊥) → (f : ℕ) → FieldSearch heads name desc (get_or ds i 0 ∷ []) (Some f) → FieldSearch heads name desc (ds ++ []) (Some f)
pass-to heads name desc rank falls [] i lt none f s = absurd (omega arith)
pass-to heads name desc rank falls (d ∷ ds) zero lt none f s = longer heads name desc (d ∷ []) (Some f) s f refl (ds ++ [])
pass-to heads name desc rank falls (d ∷ ds) (suc i) lt none f s =
    passes heads name desc rank falls d (none 0 (omega arith)) (ds ++ []) (Some f)
    (pass-to heads name desc rank falls ds i (omega arith) (λ j below. none (suc j) (omega arith)) f s)

pub goes-on : (heads : List ClassHead) (name desc : List ℕ) (rank : ℕ → ℕ) → ((c d : ℕ) → IsDirect heads c d → rank d < rank c) → (c i : ℕ) → field_in heads name desc c ≡ None → i < length (supertypes_of heads c)
    → ((j : ℕ) → j < i → IsDeclaredAbove heads name desc (get_or (supertypes_of heads c) j 0) → ⊥) → (f : ℕ) → FieldSearch heads name desc (get_or (supertypes_of heads c) i 0 ∷ []) (Some f) → FieldSearch heads name desc (c ∷ []) (Some f)
goes-on heads name desc rank falls c i none lt before f s = further none (pass-to heads name desc rank falls (supertypes_of heads c) i lt before f s)

-- where a class does not declare the field itself, but one above it does, the field is declared at or above a direct supertype
pub next-above : (heads : List ClassHead) (name desc : List ℕ) (c : ℕ) → field_in heads name desc c ≡ None → IsDeclaredAbove heads name desc c
    → (d : ℕ) × IsDirect heads c d × IsDeclaredAbove heads name desc d
next-above heads name desc c none above =
    elim above.2 [
      | inl same ↦
          let at : field_in heads name desc c ≡ Some above.1 = ap (field_in heads name desc) same ∙ above.3 in
          absurd (cc (at, none))
      | inr s ↦
          let first : (d : ℕ) × IsDirect heads c d × IsAtOrAbove heads d above.0 = first-step heads c above.0 s in
          (first.0, first.1, (above.0, above.1, first.2, above.3))
    ]

-- the search goes on at the first direct supertype at or above which the field is declared
pub leads-on : (heads : List ClassHead) (name desc : List ℕ) (rank : ℕ → ℕ) → ((c d : ℕ) → IsDirect heads c d → rank d < rank c) → (c i : ℕ) (xs : List ℕ) → xs ≡ supertypes_of heads c → field_in heads name desc c ≡ None
    → i < length xs → ((j : ℕ) → j < i → IsDeclaredAbove heads name desc (get_or xs j 0) → ⊥) → IsDeclaredAbove heads name desc (get_or xs i 0) → LeadsOn heads name desc c (get_or xs i 0)
leads-on heads name desc rank falls c i xs e none lt before above =
    subst (λ (ys : List ℕ). i < length ys → ((j : ℕ) → j < i → IsDeclaredAbove heads name desc (get_or ys j 0) → ⊥) → IsDeclaredAbove heads name desc (get_or ys i 0) → LeadsOn heads name desc c (get_or ys i 0)) (sym e)
    (λ lt' before' above'. record {
      direct = Contains-get_or (supertypes_of heads c) i 0 lt';
      declared = above';
      finds = goes-on heads name desc rank falls c i none lt' before';
    }) lt before above

pub no-next : (heads : List ClassHead) (name desc : List ℕ) (c : ℕ) (xs : List ℕ) → xs ≡ supertypes_of heads c → field_in heads name desc c ≡ None
    → ((j : ℕ) → j < length xs → IsDeclaredAbove heads name desc (get_or xs j 0) → ⊥) → IsDeclaredAbove heads name desc c → ⊥
no-next heads name desc c xs e none each above =
    let next : (d : ℕ) × IsDirect heads c d × IsDeclaredAbove heads name desc d = next-above heads name desc c none above in
    let in' : Contains xs next.0 = subst (λ (ys : List ℕ). Contains ys next.0) (sym e) next.1 in
    each in'.0 in'.1 (subst (λ (d : ℕ). IsDeclaredAbove heads name desc d) (sym (get_or_default xs in'.0 0 next.0 in'.1 ∙ in'.2)) next.2)

-- a direct supertype that is read is a class
pub next-inside : (heads : List ClassHead) (c : ℕ) (xs : List ℕ) (i : ℕ) → xs ≡ supertypes_of heads c → i < length xs → get_or xs i 0 < length heads
next-inside heads c xs i e lt = direct-target heads c (get_or xs i 0) (subst (λ (ds : List ℕ). Contains ds (get_or xs i 0)) e (Contains-get_or xs i 0 lt))
