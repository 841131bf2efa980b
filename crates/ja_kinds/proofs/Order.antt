-- The order of states, and merging.
use Rattle.std.proofs.Common.{◌≡◌, ℕ, suc, ◌+◌, ◌<◌, ◌≤◌, ◌⊎◌, inl, inr, Bool, true, false, ◌&&◌, ◌||◌, List, [], ◌∷◌, length, refl, ap, sym, ◌∙◌, arith, eq-eqb, if◌then◌else◌}
use Rattle.std.specs.Prelude.{◌==◌}
use Rattle.std.proofs.lemmas.Bool.{and_parts, and_from, eqb-true}
use Rattle.ja_base.specs.declared.java_type.Kind.{Kind}
use Rattle.ja_base.specs.declared.java_type.Kind.TheVariants.{P1, P2, R, T}
use Rattle.ja_kinds.specs.declared.state.State.{State}
use Rattle.ja_kinds.specs.declared.state.State.TheVariants.{Unreached, Known, Clash}
use Rattle.ja_kinds.specs.Frame.{same_kind, same_kinds, IsBelow, AreBelow, Below}
use Rattle.ja_kinds.specs.InnerMerge.{are_below, is_below, met_kind, met, merge}
use Rattle.ja_kinds.specs.InnerSolving.{IsWide, usable, usables, room_of}

-- ---- kinds

pub same_kind_is : (k l : Kind) → same_kind k l ≡ true → k ≡ l
same_kind_is P1 P1 e = refl
same_kind_is P2 P2 e = refl
same_kind_is R R e = refl
same_kind_is T T e = refl
same_kind_is k l e = absurd cc

pub same_kind_self : (k : Kind) → same_kind k k ≡ true
same_kind_self P1 = refl
same_kind_self P2 = refl
same_kind_self R = refl
same_kind_self T = refl

pub same_kinds_are : (ks ls : List Kind) → same_kinds ks ls ≡ true → ks ≡ ls
same_kinds_are [] [] e = refl
same_kinds_are [] (l ∷ ls) e = absurd cc
same_kinds_are (k ∷ ks) [] e = absurd cc
same_kinds_are (k ∷ ks) (l ∷ ls) e =
    let parts : (same_kind k l ≡ true) × (same_kinds ks ls ≡ true) = and_parts (same_kind k l) (same_kinds ks ls) e in
    let head : k ≡ l = same_kind_is k l parts.0 in
    let tail : ks ≡ ls = same_kinds_are ks ls parts.1 in
    cc

same_kinds_self : (ks : List Kind) → same_kinds ks ks ≡ true
same_kinds_self [] = refl
same_kinds_self (k ∷ ks) = and_from (same_kind k k) (same_kinds ks ks) (same_kind_self k) (same_kinds_self ks)

pub equal_kinds : (ks ls : List Kind) → ks ≡ ls → same_kinds ks ls ≡ true
equal_kinds ks ls e = ap (λ (ms : List Kind). same_kinds ks ms) (sym e) ∙ same_kinds_self ks

-- ---- below

or_cases : (x y : Bool) → (x || y) ≡ true → (x ≡ true) ⊎ (y ≡ true)
or_cases true y e = inl refl
or_cases false y e = inr e

below_one : (k l : Kind) → (same_kind k l || same_kind l T) ≡ true → IsBelow k l
below_one k l e = elim (or_cases (same_kind k l) (same_kind l T) e) [ inl p ↦ inl (same_kind_is k l p) | inr q ↦ inr (same_kind_is l T q) ]

are_below_is : (ks ls : List Kind) → are_below ks ls ≡ true → AreBelow ks ls
are_below_is [] [] e = tt
are_below_is [] (l ∷ ls) e = absurd cc
are_below_is (k ∷ ks) [] e = absurd cc
are_below_is (k ∷ ks) (l ∷ ls) e =
    let parts : ((same_kind k l || same_kind l T) ≡ true) × (are_below ks ls ≡ true) = and_parts (same_kind k l || same_kind l T) (are_below ks ls) e in
    (below_one k l parts.0, are_below_is ks ls parts.1)

-- what the test says
pub is_below_is : (s t : State) → is_below s t ≡ true → Below s t
is_below_is Unreached t e = tt
is_below_is (Known f) Unreached e = absurd cc
is_below_is (Known f) (Known g) e =
    let parts : (are_below f.locals g.locals ≡ true) × (same_kinds f.stack g.stack ≡ true) = and_parts (are_below f.locals g.locals) (same_kinds f.stack g.stack) e in
    (are_below_is f.locals g.locals parts.0, same_kinds_are f.stack g.stack parts.1)
is_below_is (Known f) Clash e = tt
is_below_is Clash Unreached e = absurd cc
is_below_is Clash (Known g) e = absurd cc
is_below_is Clash Clash e = tt

are_below_self : (ks : List Kind) → AreBelow ks ks
are_below_self [] = tt
are_below_self (k ∷ ks) = (inl refl, are_below_self ks)

pub below_self : (s : State) → Below s s
below_self Unreached = tt
below_self (Known f) = (are_below_self f.locals, refl)
below_self Clash = tt

pub to_clash : (s : State) → Below s Clash
to_clash Unreached = tt
to_clash (Known f) = tt
to_clash Clash = tt

one_trans : (j k l : Kind) → IsBelow j k → IsBelow k l → IsBelow j l
one_trans j k l (inl e) (inl f) = inl (e ∙ f)
one_trans j k l (inl e) (inr f) = inr f
one_trans j k l (inr e) (inl f) = inr (sym f ∙ e)
one_trans j k l (inr e) (inr f) = inr f

are_below_trans : (js ks ls : List Kind) → AreBelow js ks → AreBelow ks ls → AreBelow js ls
are_below_trans [] [] ls p q = q
are_below_trans [] (k ∷ ks) ls p q = absurd p
are_below_trans (j ∷ js) [] ls p q = absurd p
are_below_trans (j ∷ js) (k ∷ ks) [] p q = absurd q
are_below_trans (j ∷ js) (k ∷ ks) (l ∷ ls) p q = (one_trans j k l p.0 q.0, are_below_trans js ks ls p.1 q.1)

pub below_trans : (s t u : State) → Below s t → Below t u → Below s u
below_trans Unreached t u p q = tt
below_trans (Known f) Unreached u p q = absurd p
below_trans (Known f) (Known g) Unreached p q = absurd q
below_trans (Known f) (Known g) (Known h) p q = (are_below_trans f.locals g.locals h.locals p.0 q.0, p.1 ∙ q.1)
below_trans (Known f) (Known g) Clash p q = tt
below_trans (Known f) Clash Unreached p q = absurd q
below_trans (Known f) Clash (Known h) p q = absurd q
below_trans (Known f) Clash Clash p q = tt
below_trans Clash Unreached u p q = absurd p
below_trans Clash (Known g) u p q = absurd p
below_trans Clash Clash u p q = q

pub below_length : (ks ls : List Kind) → AreBelow ks ls → length ks ≡ length ls
below_length [] [] p = refl
below_length [] (l ∷ ls) p = absurd p
below_length (k ∷ ks) [] p = absurd p
below_length (k ∷ ks) (l ∷ ls) p = ap suc (below_length ks ls p.1)

-- ---- merged locals

pub pick : {A : Type 0} (P : A → Type 0) (b : Bool) (x y : A) → (b ≡ true → P x) → (b ≡ false → P y) → P (if b then x else y)
pick P true x y p q = p refl
pick P false x y p q = q refl

met_left : (ks ls : List Kind) → length ks ≡ length ls → AreBelow ks (met ks ls)
met_left [] ls e = tt
met_left (k ∷ ks) [] e = absurd (omega arith)
met_left (k ∷ ks) (l ∷ ls) e =
    (pick (λ (m : Kind). IsBelow k m) (same_kind k l) k T (λ same. inl refl) (λ other. inr refl), met_left ks ls (omega arith))

met_right : (ks ls : List Kind) → length ks ≡ length ls → AreBelow ls (met ks ls)
met_right [] [] e = tt
met_right [] (l ∷ ls) e = absurd (omega arith)
met_right (k ∷ ks) [] e = absurd (omega arith)
met_right (k ∷ ks) (l ∷ ls) e =
    (pick (λ (m : Kind). IsBelow l m) (same_kind k l) k T (λ same. inl (sym (same_kind_is k l same))) (λ other. inr refl), met_right ks ls (omega arith))

unequal : (k l m : Kind) → same_kind k l ≡ false → k ≡ m → l ≡ m → ⊥
unequal k l m other e f =
    let self : same_kind k k ≡ true = same_kind_self k in
    let same : k ≡ l = e ∙ sym f in
    let both : same_kind k k ≡ same_kind k l = ap (same_kind k) same in
    cc

other_least : (k l m : Kind) → same_kind k l ≡ false → IsBelow k m → IsBelow l m → IsBelow T m
other_least k l m other (inl e) (inl f) = absurd (unequal k l m other e f)
other_least k l m other (inl e) (inr f) = inr f
other_least k l m other (inr e) q = inr e

met_least : (ks ls ms : List Kind) → AreBelow ks ms → AreBelow ls ms → AreBelow (met ks ls) ms
met_least [] ls [] p q = tt
met_least [] ls (m ∷ ms) p q = absurd p
met_least (k ∷ ks) ls [] p q = absurd p
met_least (k ∷ ks) [] (m ∷ ms) p q = absurd q
met_least (k ∷ ks) (l ∷ ls) (m ∷ ms) p q =
    (pick (λ (n : Kind). IsBelow n m) (same_kind k l) k T (λ same. p.0) (λ other. other_least k l m other p.0 q.0), met_least ks ls ms p.1 q.1)

met_length : (ks ls : List Kind) → length ks ≡ length ls → length (met ks ls) ≡ length ks
met_length [] ls e = refl
met_length (k ∷ ks) [] e = absurd (omega arith)
met_length (k ∷ ks) (l ∷ ls) e = ap suc (met_length ks ls (omega arith))

-- ---- merged states

pub merge_left : (s t : State) → Below s (merge s t)
merge_left Unreached t = tt
merge_left (Known f) Unreached = below_self (Known f)
merge_left (Known f) (Known g) =
    pick (λ (u : State). Below (Known f) u) (length f.locals == length g.locals && same_kinds f.stack g.stack) (Known (record { locals = met f.locals g.locals; stack = f.stack })) Clash
    (λ same. let parts : ((length f.locals == length g.locals) ≡ true) × (same_kinds f.stack g.stack ≡ true) = and_parts (length f.locals == length g.locals) (same_kinds f.stack g.stack) same in
    (met_left f.locals g.locals (eqb-true (length f.locals) (length g.locals) parts.0), refl))
    (λ other. tt)
merge_left (Known f) Clash = tt
merge_left Clash t = tt

pub merge_right : (s t : State) → Below t (merge s t)
merge_right Unreached t = below_self t
merge_right (Known f) Unreached = tt
merge_right (Known f) (Known g) =
    pick (λ (u : State). Below (Known g) u) (length f.locals == length g.locals && same_kinds f.stack g.stack) (Known (record { locals = met f.locals g.locals; stack = f.stack })) Clash
    (λ same. let parts : ((length f.locals == length g.locals) ≡ true) × (same_kinds f.stack g.stack ≡ true) = and_parts (length f.locals == length g.locals) (same_kinds f.stack g.stack) same in
    (met_right f.locals g.locals (eqb-true (length f.locals) (length g.locals) parts.0), sym (same_kinds_are f.stack g.stack parts.1)))
    (λ other. tt)
merge_right (Known f) Clash = tt
merge_right Clash t = to_clash t

pub merge_least : (s t u : State) → Below s u → Below t u → Below (merge s t) u
merge_least Unreached t u p q = q
merge_least (Known f) Unreached u p q = p
merge_least (Known f) (Known g) Unreached p q = absurd p
merge_least (Known f) (Known g) (Known h) p q =
    let test : (length f.locals == length g.locals && same_kinds f.stack g.stack) ≡ true =
    and_from (length f.locals == length g.locals) (same_kinds f.stack g.stack)
    (eq-eqb (length f.locals) (length g.locals) (below_length f.locals h.locals p.0 ∙ sym (below_length g.locals h.locals q.0)))
    (equal_kinds f.stack g.stack (p.1 ∙ sym q.1)) in
    pick (λ (v : State). Below v (Known h)) (length f.locals == length g.locals && same_kinds f.stack g.stack) (Known (record { locals = met f.locals g.locals; stack = f.stack })) Clash
    (λ same. (met_least f.locals g.locals h.locals p.0 q.0, p.1))
    (λ other. absurd cc)
merge_least (Known f) (Known g) Clash p q = to_clash (merge (Known f) (Known g))
merge_least (Known f) Clash u p q = q
merge_least Clash t u p q = p

pub merge_wide : (count : ℕ) (s t : State) → IsWide count s → IsWide count t → IsWide count (merge s t)
merge_wide count Unreached t p q = q
merge_wide count (Known f) Unreached p q = p
merge_wide count (Known f) (Known g) p q =
    pick (IsWide count) (length f.locals == length g.locals && same_kinds f.stack g.stack) (Known (record { locals = met f.locals g.locals; stack = f.stack })) Clash
    (λ same. met_length f.locals g.locals (p ∙ sym q) ∙ p) (λ other. tt)
merge_wide count (Known f) Clash p q = tt
merge_wide count Clash t p q = tt

-- ---- how far states may rise

one_falls : (k l : Kind) → (same_kind l k || same_kind k T) ≡ false → usable (met_kind k l) < usable k
one_falls P1 P1 e = absurd cc
one_falls P1 P2 e = omega arith
one_falls P1 R e = omega arith
one_falls P1 T e = omega arith
one_falls P2 P1 e = omega arith
one_falls P2 P2 e = absurd cc
one_falls P2 R e = omega arith
one_falls P2 T e = omega arith
one_falls R P1 e = omega arith
one_falls R P2 e = omega arith
one_falls R R e = absurd cc
one_falls R T e = omega arith
one_falls T P1 e = absurd cc
one_falls T P2 e = absurd cc
one_falls T R e = absurd cc
one_falls T T e = absurd cc

one_more : (k l : Kind) → usable (met_kind k l) ≤ usable k
one_more k l = pick (λ (m : Kind). usable m ≤ usable k) (same_kind k l) k T (λ same. omega arith) (λ other. omega arith)

and_cases : (x y : Bool) → (x && y) ≡ false → (x ≡ false) ⊎ (y ≡ false)
and_cases true y e = inr e
and_cases false y e = inl refl

met_more : (ks ls : List Kind) → usables (met ks ls) ≤ usables ks
met_more [] ls = omega arith
met_more (k ∷ ks) [] = omega arith
met_more (k ∷ ks) (l ∷ ls) = omega (arith, one_more k l, met_more ks ls)

met_falls : (ks ls : List Kind) → length ks ≡ length ls → are_below ls ks ≡ false → usables (met ks ls) < usables ks
met_falls [] [] e above = absurd cc
met_falls [] (l ∷ ls) e above = absurd (omega arith)
met_falls (k ∷ ks) [] e above = absurd (omega arith)
met_falls (k ∷ ks) (l ∷ ls) e above =
    let shorter : length ks ≡ length ls = omega arith in
    elim (and_cases (same_kind l k || same_kind k T) (are_below ls ks) above) [
      | inl here ↦ omega (arith, one_falls k l here, met_more ks ls)
      | inr later ↦ omega (arith, one_more k l, met_falls ks ls shorter later)
    ]

usables_few : (ks : List Kind) → usables ks ≤ length ks
usables_few [] = omega arith
usables_few (P1 ∷ ks) = omega (arith, usables_few ks)
usables_few (P2 ∷ ks) = omega (arith, usables_few ks)
usables_few (R ∷ ks) = omega (arith, usables_few ks)
usables_few (T ∷ ks) = omega (arith, usables_few ks)

second_false : (x y : Bool) → (x && y) ≡ false → y ≡ true → x ≡ false
second_false true y e f = absurd cc
second_false false y e f = refl

-- a state that rises has less room
pub merge_falls : (count : ℕ) (s t : State) → is_below t s ≡ false → IsWide count s → IsWide count t → room_of count (merge s t) < room_of count s
merge_falls count Unreached Unreached e p q = absurd cc
merge_falls count Unreached (Known g) e p q = omega (arith, usables_few g.locals, q)
merge_falls count Unreached Clash e p q = omega arith
merge_falls count (Known f) Unreached e p q = absurd cc
merge_falls count (Known f) (Known g) e p q =
    pick (λ (u : State). room_of count u < usables f.locals + 1) (length f.locals == length g.locals && same_kinds f.stack g.stack) (Known (record { locals = met f.locals g.locals; stack = f.stack })) Clash
    (λ same. let parts : ((length f.locals == length g.locals) ≡ true) × (same_kinds f.stack g.stack ≡ true) = and_parts (length f.locals == length g.locals) (same_kinds f.stack g.stack) same in
    let stacks : same_kinds g.stack f.stack ≡ true = equal_kinds g.stack f.stack (sym (same_kinds_are f.stack g.stack parts.1)) in
    let above : are_below g.locals f.locals ≡ false = second_false (are_below g.locals f.locals) (same_kinds g.stack f.stack) e stacks in
    omega (arith, met_falls f.locals g.locals (eqb-true (length f.locals) (length g.locals) parts.0) above))
    (λ other. omega arith)
merge_falls count (Known f) Clash e p q = omega arith
merge_falls count Clash Unreached e p q = absurd cc
merge_falls count Clash (Known g) e p q = absurd cc
merge_falls count Clash Clash e p q = absurd cc
