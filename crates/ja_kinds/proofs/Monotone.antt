-- What an instruction hands on is below, where what is known before is.
use Rattle.std.proofs.Common.{◌≡◌, ℕ, zero, suc, ◌+◌, ◌-◌, inl, inr, Bool, true, false, ◌&&◌, not, leb, List, [], ◌∷◌, ◌++◌, length, set, Option, Some, None, refl, ap, sym, subst, ◌∙◌, if◌then◌else◌}
use Rattle.std.specs.Prelude.{◌==◌}
use Rattle.std.proofs.lemmas.Bool.{and_parts, and_from}
use Rattle.std.proofs.lemmas.List.{length-set}
use Rattle.ja_base.specs.Kind.{words_of}
use Rattle.ja_base.specs.declared.java_type.Kind.{Kind}
use Rattle.ja_base.specs.declared.java_type.Kind.TheVariants.{P1, P2, R, T}
use Rattle.ja_kinds.specs.declared.effect.Effect.{Effect}
use Rattle.ja_kinds.specs.declared.effect.Effect.TheVariants.{Loads, Stores, Counts, Moves, Exchanges, Leaves}
use Rattle.ja_kinds.specs.declared.frame.Frame.{Frame}
use Rattle.ja_kinds.specs.declared.state.KindState.{KindState}
use Rattle.ja_kinds.specs.declared.state.State.{State}
use Rattle.ja_kinds.specs.declared.state.State.TheVariants.{Unreached, Known, Clash}
use Rattle.ja_kinds.specs.Frame.{same_kind, IsBelow, AreBelow, Below, local_at, cut_kind, cut, written, stored}
use Rattle.ja_kinds.specs.Effect.{kinds_in, holds, exchanged, rearranged, with_stack, may_return, turned, is_wrong_depth}
use Rattle.ja_kinds.specs.Solution.{accepted, handed, after, thrown_with, thrown}
use Rattle.ja_kinds.specs.InnerSolving.{IsWide}
use Rattle.ja_kinds.proofs.Order.{to_clash, below_length, pick}

-- ---- locals

local_below : (ks ls : List Kind) (n : ℕ) → AreBelow ks ls → IsBelow (local_at ks n) (local_at ls n)
local_below [] [] n p = inl refl
local_below [] (l ∷ ls) n p = absurd p
local_below (k ∷ ks) [] n p = absurd p
local_below (k ∷ ks) (l ∷ ls) zero p = p.0
local_below (k ∷ ks) (l ∷ ls) (suc n) p = local_below ks ls n p.1

set_below : (ks ls : List Kind) (n : ℕ) (j m : Kind) → AreBelow ks ls → IsBelow j m → AreBelow (set ks n j) (set ls n m)
set_below [] [] n j m p q = tt
set_below [] (l ∷ ls) n j m p q = absurd p
set_below (k ∷ ks) [] n j m p q = absurd p
set_below (k ∷ ks) (l ∷ ls) zero j m p q = (q, p.1)
set_below (k ∷ ks) (l ∷ ls) (suc n) j m p q = (p.0, set_below ks ls n j m p.1 q)

cut_kind_below : (k l : Kind) → IsBelow k l → IsBelow (cut_kind k) (cut_kind l)
cut_kind_below k l (inl e) = inl (ap cut_kind e)
cut_kind_below k l (inr e) = inr (ap cut_kind e)

either_below : (b : Bool) (js ks ls ms : List Kind) → AreBelow js ls → AreBelow ks ms → AreBelow (if b then js else ks) (if b then ls else ms)
either_below true js ks ls ms p q = p
either_below false js ks ls ms p q = q

cut_below : (n : ℕ) (ks ls : List Kind) → AreBelow ks ls → AreBelow (cut n ks) (cut n ls)
cut_below n ks ls p =
    either_below (n == 0) ks (set ks (n - 1) (cut_kind (local_at ks (n - 1)))) ls (set ls (n - 1) (cut_kind (local_at ls (n - 1)))) p
    (set_below ks ls (n - 1) (cut_kind (local_at ks (n - 1))) (cut_kind (local_at ls (n - 1))) p
    (cut_kind_below (local_at ks (n - 1)) (local_at ls (n - 1)) (local_below ks ls (n - 1) p)))

written_below : (n : ℕ) (kind : Kind) (ks ls : List Kind) → AreBelow ks ls → AreBelow (written n kind ks) (written n kind ls)
written_below n P1 ks ls p = set_below ks ls n P1 P1 p (inl refl)
written_below n P2 ks ls p = set_below (set ks n P2) (set ls n P2) (n + 1) T T (set_below ks ls n P2 P2 p (inl refl)) (inl refl)
written_below n R ks ls p = set_below ks ls n R R p (inl refl)
written_below n T ks ls p = set_below ks ls n T T p (inl refl)

stored_below : (n : ℕ) (kind : Kind) (ks ls : List Kind) → AreBelow ks ls → AreBelow (stored n kind ks) (stored n kind ls)
stored_below n kind ks ls p = written_below n kind (cut n ks) (cut n ls) (cut_below n ks ls p)

cut_length : (n : ℕ) (ks : List Kind) → length (cut n ks) ≡ length ks
cut_length n ks =
    pick (λ (ls : List Kind). length ls ≡ length ks) (n == 0) ks (set ks (n - 1) (cut_kind (local_at ks (n - 1)))) (λ e. refl) (λ e. length-set ks (n - 1) (cut_kind (local_at ks (n - 1))))

written_length : (n : ℕ) (kind : Kind) (ks : List Kind) → length (written n kind ks) ≡ length ks
written_length n P1 ks = length-set ks n P1
written_length n P2 ks = length-set (set ks n P2) (n + 1) T ∙ length-set ks n P2
written_length n R ks = length-set ks n R
written_length n T ks = length-set ks n T

stored_length : (n : ℕ) (kind : Kind) (ks : List Kind) → length (stored n kind ks) ≡ length ks
stored_length n kind ks = written_length n kind (cut n ks) ∙ cut_length n ks

not_usable : (kind : Kind) → (same_kind T kind && not (same_kind kind T)) ≡ true → ⊥
not_usable P1 t = cc
not_usable P2 t = cc
not_usable R t = cc
not_usable T t = cc

-- a usable value is there in locals that are below
usable_below : (j l kind : Kind) → IsBelow j l → (same_kind l kind && not (same_kind kind T)) ≡ true → (same_kind j kind && not (same_kind kind T)) ≡ true
usable_below j l kind (inl e) t = ap (λ (k : Kind). same_kind k kind && not (same_kind kind T)) e ∙ t
usable_below j l kind (inr e) t = absurd (not_usable kind (sym (ap (λ (k : Kind). same_kind k kind && not (same_kind kind T)) e) ∙ t))

holds_below : (ks ls : List Kind) (n : ℕ) (kind : Kind) → AreBelow ks ls → holds ls n kind ≡ true → holds ks n kind ≡ true
holds_below ks ls n kind p t =
    let parts : (leb (n + words_of kind) (length ls) ≡ true) × ((same_kind (local_at ls n) kind && not (same_kind kind T)) ≡ true) =
    and_parts (leb (n + words_of kind) (length ls)) (same_kind (local_at ls n) kind && not (same_kind kind T)) t in
    and_from (leb (n + words_of kind) (length ks)) (same_kind (local_at ks n) kind && not (same_kind kind T))
    (ap (leb (n + words_of kind)) (below_length ks ls p) ∙ parts.0)
    (usable_below (local_at ks n) (local_at ls n) kind (local_below ks ls n p) parts.1)

-- ---- what is handed on

-- what one way gives says as much as what another gives, or more
abbrev Beneath : Option KindState → Option KindState → Type 0
Beneath o p = Below (handed o) (handed p)

guarded : (b c : Bool) (x y : Option KindState) → (c ≡ true → b ≡ true) → Beneath x y → Beneath (if b then x else None) (if c then y else None)
guarded true true x y f p = p
guarded true false x y f p = to_clash (handed x)
guarded false true x y f p = absurd (cc (f refl))
guarded false false x y f p = tt

barred : (b : Bool) (x y : Option KindState) → Beneath x y → Beneath (if b then None else x) (if b then None else y)
barred true x y p = tt
barred false x y p = p

stacked : (ks ls : List Kind) (o : Option (List Kind)) → AreBelow ks ls → Beneath (with_stack ks o) (with_stack ls o)
stacked ks ls None p = tt
stacked ks ls (Some stack) p = (p, refl)

-- locals and a stack
abbrev both : List Kind → List Kind → KindState
both locals stack = record { locals = locals; stack = stack }

module _ (ks ls vs : List Kind) (p : AreBelow ks ls) where
  turned_below : (returns : Option Kind) (effect : Effect) → Beneath (turned returns effect (both ks vs)) (turned returns effect (both ls vs))
  turned_below returns (Loads kind place) =
      guarded (holds ks place kind) (holds ls place kind) (with_stack ks (Some (vs ++ kind ∷ []))) (with_stack ls (Some (vs ++ kind ∷ [])))
      (holds_below ks ls place kind p) (stacked ks ls (Some (vs ++ kind ∷ [])) p)
  turned_below returns (Stores kind place) =
      guarded (leb (place + words_of kind) (length ks)) (leb (place + words_of kind) (length ls))
      (with_stack (stored place kind ks) (exchanged (kind ∷ []) [] vs)) (with_stack (stored place kind ls) (exchanged (kind ∷ []) [] vs))
      (λ t. ap (leb (place + words_of kind)) (below_length ks ls p) ∙ t)
      (stacked (stored place kind ks) (stored place kind ls) (exchanged (kind ∷ []) [] vs) (stored_below place kind ks ls p))
  turned_below returns (Counts place) =
      guarded (holds ks place P1) (holds ls place P1) (with_stack ks (Some vs)) (with_stack ls (Some vs)) (holds_below ks ls place P1 p) (stacked ks ls (Some vs) p)
  turned_below returns (Moves how) = stacked ks ls (rearranged how vs) p
  turned_below returns (Exchanges taken pushed) = stacked ks ls (exchanged taken pushed vs) p
  turned_below returns (Leaves kind) =
      guarded (may_return returns kind) (may_return returns kind) (with_stack ks (exchanged (kinds_in kind) [] vs)) (with_stack ls (exchanged (kinds_in kind) [] vs))
      (λ t. t) (stacked ks ls (exchanged (kinds_in kind) [] vs) p)

  accepted_below : (frame : Frame) (effect : Effect) → Beneath (accepted frame effect (both ks vs)) (accepted frame effect (both ls vs))
  accepted_below frame effect =
      barred (is_wrong_depth frame.max_stack effect vs) (turned frame.returns effect (both ks vs)) (turned frame.returns effect (both ls vs))
      (turned_below frame.returns effect)

  thrown_beneath : (o q : Option KindState) → Beneath o q → Below (thrown_with ks o) (thrown_with ls q)
  thrown_beneath None None b = tt
  thrown_beneath None (Some g) b = absurd b
  thrown_beneath (Some f) None b = tt
  thrown_beneath (Some f) (Some g) b = (p, refl)

-- what is known after an instruction
pub after_below : (frame : Frame) (effect : Effect) (s t : State) → Below s t → Below (after frame effect s) (after frame effect t)
after_below frame effect Unreached t p = tt
after_below frame effect (Known f) Unreached p = absurd p
after_below frame effect (Known f) (Known g) p =
    subst (λ (stack : List Kind). Below (handed (accepted frame effect f)) (handed (accepted frame effect (both g.locals stack)))) p.1
    (accepted_below f.locals g.locals f.stack p.0 frame effect)
after_below frame effect (Known f) Clash p = to_clash (handed (accepted frame effect f))
after_below frame effect Clash Unreached p = absurd p
after_below frame effect Clash (Known g) p = absurd p
after_below frame effect Clash Clash p = tt

-- what is known where it throws
pub thrown_below : (frame : Frame) (effect : Effect) (s t : State) → Below s t → Below (thrown frame effect s) (thrown frame effect t)
thrown_below frame effect Unreached t p = tt
thrown_below frame effect (Known f) Unreached p = absurd p
thrown_below frame effect (Known f) (Known g) p =
    subst (λ (stack : List Kind). Below (thrown_with f.locals (accepted frame effect f)) (thrown_with g.locals (accepted frame effect (both g.locals stack)))) p.1
    (thrown_beneath f.locals g.locals f.stack p.0 (accepted frame effect f) (accepted frame effect (both g.locals f.stack))
    (accepted_below f.locals g.locals f.stack p.0 frame effect))
thrown_below frame effect (Known f) Clash p = to_clash (thrown_with f.locals (accepted frame effect f))
thrown_below frame effect Clash Unreached p = absurd p
thrown_below frame effect Clash (Known g) p = absurd p
thrown_below frame effect Clash Clash p = tt

-- ---- the number of locals stays

module _ (count : ℕ) where
  stacked_wide : (ks : List Kind) (o : Option (List Kind)) → length ks ≡ count → IsWide count (handed (with_stack ks o))
  stacked_wide ks None e = tt
  stacked_wide ks (Some stack) e = e

  kept_wide : (b : Bool) (x : Option KindState) → IsWide count (handed x) → IsWide count (handed (if b then x else None))
  kept_wide true x w = w
  kept_wide false x w = tt

  barred_wide : (b : Bool) (x : Option KindState) → IsWide count (handed x) → IsWide count (handed (if b then None else x))
  barred_wide true x w = tt
  barred_wide false x w = w

  turned_wide : (returns : Option Kind) (effect : Effect) (f : KindState) → length f.locals ≡ count → IsWide count (handed (turned returns effect f))
  turned_wide returns (Loads kind place) f e =
      kept_wide (holds f.locals place kind) (with_stack f.locals (Some (f.stack ++ kind ∷ []))) (stacked_wide f.locals (Some (f.stack ++ kind ∷ [])) e)
  turned_wide returns (Stores kind place) f e =
      kept_wide (leb (place + words_of kind) (length f.locals)) (with_stack (stored place kind f.locals) (exchanged (kind ∷ []) [] f.stack))
      (stacked_wide (stored place kind f.locals) (exchanged (kind ∷ []) [] f.stack) (stored_length place kind f.locals ∙ e))
  turned_wide returns (Counts place) f e = kept_wide (holds f.locals place P1) (with_stack f.locals (Some f.stack)) (stacked_wide f.locals (Some f.stack) e)
  turned_wide returns (Moves how) f e = stacked_wide f.locals (rearranged how f.stack) e
  turned_wide returns (Exchanges taken pushed) f e = stacked_wide f.locals (exchanged taken pushed f.stack) e
  turned_wide returns (Leaves kind) f e =
      kept_wide (may_return returns kind) (with_stack f.locals (exchanged (kinds_in kind) [] f.stack)) (stacked_wide f.locals (exchanged (kinds_in kind) [] f.stack) e)

  pub after_wide : (frame : Frame) (effect : Effect) (s : State) → IsWide count s → IsWide count (after frame effect s)
  after_wide frame effect Unreached w = tt
  after_wide frame effect (Known f) w =
      barred_wide (is_wrong_depth frame.max_stack effect f.stack) (turned frame.returns effect f) (turned_wide frame.returns effect f w)
  after_wide frame effect Clash w = tt

  thrown_with_wide : (ks : List Kind) (o : Option KindState) → length ks ≡ count → IsWide count (thrown_with ks o)
  thrown_with_wide ks None e = tt
  thrown_with_wide ks (Some f) e = e

  pub thrown_wide : (frame : Frame) (effect : Effect) (s : State) → IsWide count s → IsWide count (thrown frame effect s)
  thrown_wide frame effect Unreached w = tt
  thrown_wide frame effect (Known f) w = thrown_with_wide f.locals (accepted frame effect f) w
  thrown_wide frame effect Clash w = tt
