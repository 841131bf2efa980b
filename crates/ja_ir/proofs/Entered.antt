-- The tests for the methods of the environment answer the relations.
use Rattle.std.proofs.Common.{◌≡◌, ℕ, zero, suc, ◌+◌, ◌<◌, ◌==◌, ◌&&◌, Bool, true, false, List, [], ◌∷◌, length, refl, sym, ◌∙◌, ap, subst, arith}
use Rattle.std.specs.Prelude.{◌↔◌, Option, Some, None, codes, bytes_eq, nat_lt, slice_get, cond}
use Rattle.std.specs.List.{position_from}
use Rattle.std.proofs.lemmas.Bool.{eqb-true, eq-eqb, ltb-true, lt-ltb}
use Rattle.std.proofs.lemmas.Slice.Eq.{bytes_eq-Decides}
use Rattle.ja_ir.specs.declared.program.Parts.{Parts}
use Rattle.ja_ir.specs.declared.method.Method.{Method}
use Rattle.ja_ir.specs.Lookup.{is_member}
use Rattle.ja_ir.specs.Entries.{is_plain, is_constructor, constructor_of, IsPlain, Constructs, IsConstructorOf}

and-both : (a b : Bool) → a ≡ true → b ≡ true → (a && b) ≡ true
and-both true b e f = f
and-both false b e f = cc

and-left : (a b : Bool) → (a && b) ≡ true → a ≡ true
and-left true b e = refl
and-left false b e = e

and-right : (a b : Bool) → (a && b) ≡ true → b ≡ true
and-right true b e = e
and-right false b e = cc

plain-from : (name : List ℕ) (m : Method) → is_plain name m ≡ true → IsPlain name m
plain-from name m e =
    let rest : (bytes_eq m.desc (codes "()V") && nat_lt 0 (length m.code)) ≡ true = and-right (bytes_eq m.name name) _ e in
    record {
      is_name = (bytes_eq-Decides m.name name).0 (and-left (bytes_eq m.name name) _ e);
      is_desc = (bytes_eq-Decides m.desc (codes "()V")).0 (and-left (bytes_eq m.desc (codes "()V")) (nat_lt 0 (length m.code)) rest);
      code = ltb-true 0 (length m.code) (and-right (bytes_eq m.desc (codes "()V")) (nat_lt 0 (length m.code)) rest);
    }

from-plain : (name : List ℕ) (m : Method) → IsPlain name m → is_plain name m ≡ true
from-plain name m x =
    and-both (bytes_eq m.name name) (bytes_eq m.desc (codes "()V") && nat_lt 0 (length m.code)) ((bytes_eq-Decides m.name name).1 x.is_name)
    (and-both (bytes_eq m.desc (codes "()V")) (nat_lt 0 (length m.code)) ((bytes_eq-Decides m.desc (codes "()V")).1 x.is_desc) (lt-ltb 0 (length m.code) x.code))

constructs-from : (c : ℕ) (m : Method) → is_constructor c m ≡ true → Constructs c m
constructs-from c m e =
    let rest : (is_member m.flags && is_plain (codes "<init>") m) ≡ true = and-right (m.class.0 == c) _ e in
    record {
      declared = eqb-true m.class.0 c (and-left (m.class.0 == c) _ e);
      member = and-left (is_member m.flags) (is_plain (codes "<init>") m) rest;
      plain = plain-from (codes "<init>") m (and-right (is_member m.flags) (is_plain (codes "<init>") m) rest);
    }

from-constructs : (c : ℕ) (m : Method) → Constructs c m → is_constructor c m ≡ true
from-constructs c m x =
    and-both (m.class.0 == c) (is_member m.flags && is_plain (codes "<init>") m) (eq-eqb m.class.0 c x.declared)
    (and-both (is_member m.flags) (is_plain (codes "<init>") m) x.member (from-plain (codes "<init>") m x.plain))

-- the first element that passes a test, at the place j
pub record IsFirst {X : Type 0} (t : X → Bool) (xs : List X) (j : ℕ) : Type 0 where
  pub item : X
  pub found : slice_get xs j ≡ Some item
  pub passes : t item ≡ true
  pub earlier : (n : ℕ) (y : X) → n < j → slice_get xs n ≡ Some y → t y ≡ false

first-later : {X : Type 0} (t : X → Bool) (x : X) (xs : List X) (j : ℕ) → t x ≡ false → IsFirst t xs j → IsFirst t (x ∷ xs) (suc j)
first-later {X} t x xs j e f = record { item = f.item; found = f.found; passes = f.passes; earlier = earlier }
  where
    earlier : (n : ℕ) (y : X) → n < suc j → slice_get (x ∷ xs) n ≡ Some y → t y ≡ false
    earlier zero y lt q = let same : x ≡ y = cc in subst (λ (z : X). t z ≡ false) same e
    earlier (suc n) y lt q = f.earlier n y (omega arith) q

position-first : {X : Type 0} (t : X → Bool) (k : ℕ) (xs : List X) (m : ℕ) → position_from t k xs ≡ Some m → (j : ℕ) × (k + j ≡ m) × IsFirst t xs j
position-first t k [] m e = cc
position-first {X} t k (x ∷ xs) m e = by (t x) refl e (λ q. position-first t (k + 1) xs m q)
  where
    by : (b : Bool) → t x ≡ b → cond b (Some k) (position_from t (k + 1) xs) ≡ Some m → (position_from t (k + 1) xs ≡ Some m → (j : ℕ) × (k + 1 + j ≡ m) × IsFirst t xs j) → (j : ℕ) × (k + j ≡ m) × IsFirst t (x ∷ xs) j
    by true q e further = (0, (let same : k ≡ m = cc in omega arith), record { item = x; found = refl; passes = q; earlier = λ n y lt. absurd (omega arith) })
    by false q e further = let r : (j : ℕ) × (k + 1 + j ≡ m) × IsFirst t xs j = further e in (suc r.0, omega (arith, r.1), first-later t x xs r.0 q r.2)

first-position : {X : Type 0} (t : X → Bool) (k : ℕ) (xs : List X) (j : ℕ) → IsFirst t xs j → position_from t k xs ≡ Some (k + j)
first-position t k [] j f = let e : _ = f.found in cc
first-position {X} t k (x ∷ xs) zero f =
    let same : x ≡ f.item = (let e : Some x ≡ Some f.item = f.found in cc) in
    let passes : t x ≡ true = ap t same ∙ f.passes in
    rw passes (ap Some (let q : k ≡ k + 0 = omega arith in q))
first-position {X} t k (x ∷ xs) (suc j) f =
    let fails : t x ≡ false = f.earlier 0 x (omega arith) refl in
    let rest : IsFirst t xs j = record { item = f.item; found = f.found; passes = f.passes; earlier = λ n y lt e. f.earlier (suc n) y (omega arith) e } in
    rw fails (first-position t (k + 1) xs j rest ∙ ap Some (let q : k + 1 + j ≡ k + suc j = omega arith in q))

not-both : (b : Bool) → b ≡ true → b ≡ false → ⊥
not-both true e f = cc
not-both false e f = cc

fails-or : (b : Bool) → (b ≡ true → ⊥) → b ≡ false
fails-or true h = absurd (h refl)
fails-or false h = refl

pub constructor-says : (p : Parts) (c m : ℕ) → (constructor_of p c ≡ Some m) ↔ IsConstructorOf p c m
constructor-says p c m = (
  λ e. (let r : (j : ℕ) × (0 + j ≡ m) × IsFirst (is_constructor c) p.methods j = position-first (is_constructor c) 0 p.methods m e in
      subst (λ (n : ℕ). IsConstructorOf p c n) (let q : r.0 ≡ m = omega (arith, r.1) in q) (record {
        method = r.2.item;
        found = r.2.found;
        constructs = constructs-from c r.2.item r.2.passes;
        first = λ n x lt at k. not-both (is_constructor c x) (from-constructs c x k) (r.2.earlier n x lt at);
      })),
  λ x. first-position (is_constructor c) 0 p.methods m (record {
    item = x.method;
    found = x.found;
    passes = from-constructs c x.method x.constructs;
    earlier = λ n y lt at. fails-or (is_constructor c y) (λ e. x.first n y lt at (constructs-from c y e));
  }) ∙ ap Some (let q : 0 + m ≡ m = omega arith in q),
)
