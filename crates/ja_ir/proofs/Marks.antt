-- Which flags are set after marking.
use Rattle.std.proofs.Common.{◌≡◌, ◌≢◌, ℕ, zero, suc, ◌+◌, ◌<◌, ◌⊎◌, inl, inr, Bool, true, false, List, [], ◌∷◌, length, refl, sym, ◌∙◌, ap, subst, arith, get_or-set_same, get_or-set_other}
use Rattle.std.specs.Prelude.{Some, All, Contains, slice_get, slice_set, slice_index_or, nat_lt, if◌then◌else◌}
use Rattle.std.proofs.lemmas.Bool.{ltb-true, lt-ltb}
use Rattle.std.proofs.Math.ListN.{length-set}
use Rattle.ja_ir.specs.declared.method.Instr.{Instr}
use Rattle.ja_ir.specs.declared.method.Handler.{Handler}
use Rattle.ja_ir.specs.Blocks.{is_branch, ends_block, may_initialize}
use Rattle.ja_ir.specs.InnerLeaders.{with_places, with_place, with_targets, with_initializing, with_instr, with_code, with_handlers}

-- the flag of the place is set
abbrev pub has : List Bool → ℕ → Bool
has flags j = slice_index_or flags j false

-- the new flags are the old ones and, as far as they have places, those in P
pub record Adds (old new : List Bool) (P : ℕ → Type 0) : Type 0 where
  pub size : length new ≡ length old
  pub kept : (j : ℕ) → has old j ≡ true → has new j ≡ true
  pub added : (j : ℕ) → j < length old → P j → has new j ≡ true
  pub only : (j : ℕ) → has new j ≡ true → (has old j ≡ true) ⊎ P j

none-adds : (s : List Bool) → Adds s s (λ j. ⊥)
none-adds s = record { size = refl; kept = λ j h. h; added = λ j lt h. absurd h; only = λ j h. inl h }

both-add : (a b c : List Bool) (P Q : ℕ → Type 0) → Adds a b P → Adds b c Q → Adds a c (λ j. P j ⊎ Q j)
both-add a b c P Q x y = record {
  size = y.size ∙ x.size;
  kept = λ j h. y.kept j (x.kept j h);
  added = λ j lt h. elim h [ inl p ↦ y.kept j (x.added j lt p) | inr q ↦ y.added j (subst (λ (n : ℕ). j < n) (sym x.size) lt) q ];
  only = λ j h. elim (y.only j h) [
    | inl o ↦ elim (x.only j o) [ inl o ↦ inl o | inr p ↦ inr (inl p) ]
    | inr q ↦ inr (inr q)
  ];
}

as-add : (a b : List Bool) (P Q : ℕ → Type 0) → ((j : ℕ) → P j → Q j) → ((j : ℕ) → Q j → P j) → Adds a b P → Adds a b Q
as-add a b P Q to back x = record {
  size = x.size;
  kept = x.kept;
  added = λ j lt h. x.added j lt (back j h);
  only = λ j h. elim (x.only j h) [ inl o ↦ inl o | inr p ↦ inr (to j p) ];
}

-- two numbers are equal or not
same-or : (a b : ℕ) → (a ≡ b) ⊎ (a ≢ b)
same-or zero zero = inl refl
same-or zero (suc b) = inr (λ e. cc)
same-or (suc a) zero = inr (λ e. cc)
same-or (suc a) (suc b) = elim (same-or a b) [ inl e ↦ inl (ap suc e) | inr n ↦ inr (λ e. n (omega arith)) ]

pub set-adds : (s : List Bool) (p : ℕ) → p < length s → Adds s (slice_set s p true) (λ j. p ≡ j)
set-adds s p lt = record {
  size = length-set s p true;
  kept = λ j h. elim (same-or j p) [
    | inl e ↦ (subst (λ (n : ℕ). has (slice_set s p true) n ≡ true) (sym e) (get_or-set_same s p true false lt))
    | inr n ↦ (get_or-set_other s p j true false n ∙ h)
  ];
  added = λ j at e. subst (λ (n : ℕ). has (slice_set s p true) n ≡ true) e (get_or-set_same s p true false lt);
  only = λ j h. elim (same-or j p) [ inl e ↦ inr (sym e) | inr n ↦ inl (sym (get_or-set_other s p j true false n) ∙ h) ];
}

contains-cons : (p : ℕ) (ps : List ℕ) (j : ℕ) → Contains (p ∷ ps) j → (p ≡ j) ⊎ Contains ps j
contains-cons p ps j (zero, lt, e) = inl e
contains-cons p ps j (suc k, lt, e) = inr (k, omega arith, e)

cons-contains : (p : ℕ) (ps : List ℕ) (j : ℕ) → (p ≡ j) ⊎ Contains ps j → Contains (p ∷ ps) j
cons-contains p ps j (inl e) = (0, omega arith, e)
cons-contains p ps j (inr (k, lt, e)) = (suc k, omega arith, e)

nil-contains : (j : ℕ) → Contains [] j → ⊥
nil-contains j (k, lt, e) = omega arith

-- what holds of each element of a list that is not empty holds of the first and of each other
all-head : {X : Type 0} (P : X → Type 0) (x : X) (xs : List X) → All P (x ∷ xs) → P x
all-head P x xs all = all 0 x (omega arith)

all-tail : {X : Type 0} (P : X → Type 0) (x : X) (xs : List X) → All P (x ∷ xs) → All P xs
all-tail P x xs all k d lt = all (suc k) d (omega arith)

all-below : (n n' : ℕ) (ps : List ℕ) → n ≡ n' → All (λ p. p < n) ps → All (λ p. p < n') ps
all-below n n' ps e all = subst (λ (k : ℕ). All (λ p. p < k) ps) e all

places-add : (ps : List ℕ) (s : List Bool) → All (λ p. p < length s) ps → Adds s (with_places ps s) (Contains ps)
places-add [] s all = as-add s s (λ j. ⊥) (Contains []) (λ j h. absurd h) (λ j h. nil-contains j h) (none-adds s)
places-add (p ∷ ps) s all =
    let one : Adds s (slice_set s p true) (λ j. p ≡ j) = set-adds s p (all-head (λ q. q < length s) p ps all) in
    let others : Adds (slice_set s p true) (with_places ps (slice_set s p true)) (Contains ps) =
    places-add ps (slice_set s p true) (all-below (length s) (length (slice_set s p true)) ps (sym one.size) (all-tail (λ q. q < length s) p ps all)) in
    as-add s _ (λ j. (p ≡ j) ⊎ Contains ps j) (Contains (p ∷ ps)) (λ j h. cons-contains p ps j h) (λ j h. contains-cons p ps j h) (both-add s _ _ (λ j. p ≡ j) (Contains ps) one others)

place-add : (p : ℕ) (s : List Bool) → Adds s (with_place p s) (λ j. p ≡ j)
place-add p s =
    let by : (b : Bool) → nat_lt p (length s) ≡ b → Adds s (if b then slice_set s p true else s) (λ j. p ≡ j) =
    elim [
      | true ↦ λ e. set-adds s p (ltb-true p (length s) e)
      | false ↦ λ e. record {
        size = refl;
        kept = λ j h. h;
        added = λ j lt h. (let in' : nat_lt p (length s) ≡ true = lt-ltb p (length s) (omega arith) in cc);
        only = λ j h. inl h;
      }
    ] in
    by (nat_lt p (length s)) refl

-- a branch asks for its targets
abbrev pub AsksTarget : Instr → ℕ → Type 0
AsksTarget x j = (is_branch x.op ≡ true) × Contains x.next j

-- an instruction that may initialise a class asks for its own place
abbrev pub AsksHere : ℕ → Instr → ℕ → Type 0
AsksHere i x j = (may_initialize x.op ≡ true) × (i ≡ j)

-- an instruction that ends a block asks for the place after it
abbrev pub AsksAfter : ℕ → Instr → ℕ → Type 0
AsksAfter i x j = (ends_block x.op ≡ true) × (suc i ≡ j)

-- instruction i asks that the flag of j be set
abbrev pub Asks : ℕ → Instr → ℕ → Type 0
Asks i x j = (AsksTarget x j ⊎ AsksHere i x j) ⊎ AsksAfter i x j

targets-add : (x : Instr) (s : List Bool) → All (λ p. p < length s) x.next → Adds s (with_targets x s) (AsksTarget x)
targets-add x s all =
    let by : (b : Bool) → is_branch x.op ≡ b → Adds s (if b then with_places x.next s else s) (AsksTarget x) =
    elim [
      | true ↦ λ e. as-add s _ (Contains x.next) _ (λ j h. (e, h)) (λ j h. h.1) (places-add x.next s all)
      | false ↦ λ e. as-add s s (λ j. ⊥) _ (λ j h. absurd h) (λ j h. cc) (none-adds s)
    ] in
    by (is_branch x.op) refl

-- a place is asked for where a test holds
place-where : (test : Bool) (p : ℕ) (s : List Bool) → Adds s (if test then with_place p s else s) (λ j. (test ≡ true) × (p ≡ j))
place-where true p s = as-add s _ (λ j. p ≡ j) _ (λ j h. (refl, h)) (λ j h. h.1) (place-add p s)
place-where false p s = as-add s s (λ j. ⊥) _ (λ j h. absurd h) (λ j h. cc) (none-adds s)

instr-adds : (i : ℕ) (x : Instr) (s : List Bool) → All (λ p. p < length s) x.next → Adds s (with_instr i x s) (Asks i x)
instr-adds i x s all =
    let first : Adds s (with_targets x s) (AsksTarget x) = targets-add x s all in
    let second : Adds (with_targets x s) (with_initializing i x (with_targets x s)) (AsksHere i x) = place-where (may_initialize x.op) i (with_targets x s) in
    let both : Adds s (with_initializing i x (with_targets x s)) (λ j. AsksTarget x j ⊎ AsksHere i x j) =
    both-add s _ _ (AsksTarget x) (AsksHere i x) first second in
    let third : Adds (with_initializing i x (with_targets x s)) (with_instr i x s) (AsksAfter i x) =
    as-add (with_initializing i x (with_targets x s)) (with_instr i x s) (λ j. (ends_block x.op ≡ true) × (i + 1 ≡ j)) (AsksAfter i x)
    (λ j h. (h.0, (let q : i + 1 ≡ j = h.1 in omega arith)))
    (λ j h. (h.0, (let q : suc i ≡ j = h.1 in omega arith)))
    (place-where (ends_block x.op) (i + 1) (with_initializing i x (with_targets x s))) in
    both-add s _ _ (λ j. AsksTarget x j ⊎ AsksHere i x j) (AsksAfter i x) both third

-- some instruction of the list, the first of which has index i, asks for j
abbrev pub CodeAsks : ℕ → List Instr → ℕ → Type 0
CodeAsks i code j = (k : ℕ) × (x : Instr) × (slice_get code k ≡ Some x) × Asks (i + k) x j

pub code-adds : (i : ℕ) (code : List Instr) (s : List Bool) → All (λ (x : Instr). All (λ p. p < length s) x.next) code → Adds s (with_code i code s) (CodeAsks i code)
code-adds i [] s all = as-add s s (λ j. ⊥) (CodeAsks i []) (λ j h. absurd h) (λ j h. cc) (none-adds s)
code-adds i (x ∷ code) s all =
    let one : Adds s (with_instr i x s) (Asks i x) = instr-adds i x s (all-head (λ (x : Instr). All (λ p. p < length s) x.next) x code all) in
    let rest : All (λ (y : Instr). All (λ p. p < length s) y.next) code = all-tail (λ (x : Instr). All (λ p. p < length s) x.next) x code all in
    let others : Adds (with_instr i x s) (with_code (i + 1) code (with_instr i x s)) (CodeAsks (i + 1) code) =
    code-adds (i + 1) code (with_instr i x s) (subst (λ (n : ℕ). All (λ (y : Instr). All (λ p. p < n) y.next) code) (sym one.size) rest) in
    as-add s _ (λ j. Asks i x j ⊎ CodeAsks (i + 1) code j) (CodeAsks i (x ∷ code))
    (λ j h. elim h [
      | inl a ↦ (0, x, refl, subst (λ (n : ℕ). Asks n x j) (omega arith) a)
      | inr b ↦ (suc b.0, b.1, b.2, subst (λ (n : ℕ). Asks n b.1 j) (omega arith) b.3)
    ])
    (λ j h. back j h)
    (both-add s _ _ (Asks i x) (CodeAsks (i + 1) code) one others)
  where
    back : (j : ℕ) → CodeAsks i (x ∷ code) j → Asks i x j ⊎ CodeAsks (i + 1) code j
    back j (zero, y, at, a) = inl (let same : x ≡ y = cc in subst (λ (n : ℕ). Asks n x j) (omega arith) (subst (λ (z : Instr). Asks (i + 0) z j) (sym same) a))
    back j (suc k, y, at, a) = inr (k, y, at, subst (λ (n : ℕ). Asks n y j) (omega arith) a)

-- some handler of the list leads to j
abbrev pub LedTo : List Handler → ℕ → Type 0
LedTo handlers j = (k : ℕ) × (h : Handler) × (slice_get handlers k ≡ Some h) × (h.target ≡ j)

pub handlers-add : (handlers : List Handler) (s : List Bool) → All (λ (h : Handler). h.target < length s) handlers → Adds s (with_handlers handlers s) (LedTo handlers)
handlers-add [] s all = as-add s s (λ j. ⊥) (LedTo []) (λ j h. absurd h) (λ j h. cc) (none-adds s)
handlers-add (x ∷ handlers) s all =
    let one : Adds s (slice_set s x.target true) (λ j. x.target ≡ j) = set-adds s x.target (all-head (λ (h : Handler). h.target < length s) x handlers all) in
    let rest : All (λ (h : Handler). h.target < length s) handlers = all-tail (λ (h : Handler). h.target < length s) x handlers all in
    let others : Adds (slice_set s x.target true) (with_handlers handlers (slice_set s x.target true)) (LedTo handlers) =
    handlers-add handlers (slice_set s x.target true) (subst (λ (n : ℕ). All (λ (h : Handler). h.target < n) handlers) (sym one.size) rest) in
    as-add s _ (λ j. (x.target ≡ j) ⊎ LedTo handlers j) (LedTo (x ∷ handlers))
    (λ j h. elim h [ inl a ↦ (0, x, refl, a) | inr b ↦ (suc b.0, b.1, b.2, b.3) ])
    (λ j h. back j h)
    (both-add s _ _ (λ j. x.target ≡ j) (LedTo handlers) one others)
  where
    back : (j : ℕ) → LedTo (x ∷ handlers) j → (x.target ≡ j) ⊎ LedTo handlers j
    back j (zero, y, at, a) = inl (let same : x ≡ y = cc in ap (λ (z : Handler). z.target) same ∙ a)
    back j (suc k, y, at, a) = inr (k, y, at, a)
