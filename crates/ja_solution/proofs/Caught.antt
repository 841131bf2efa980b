-- Where an exception goes inside a method, there is a handler.
use Rattle.std.proofs.Common.{◌≡◌, ◌⊎◌, ℕ, zero, suc, Bool, true, false, List, [], ◌∷◌, refl, subst, inl, inr, ⊎_elim, arith}
use Rattle.std.specs.Prelude.{Option, Some, Contains, slice_get, if◌then◌else◌}
use Rattle.ja_ir.specs.declared.program.Parts.{Parts}
use Rattle.ja_ir.specs.declared.method.Method.{Method}
use Rattle.ja_ir.specs.declared.method.Handler.{Handler}
use Rattle.ja_ir.specs.declared.method.Catch.{Catch}
use Rattle.ja_ir.specs.declared.method.Catch.TheVariants.{All as Everything, Program as InClass, Library as InLibrary}
use Rattle.ja_ir.specs.Lookup.{at_or_below}
use Rattle.ja_ir.specs.Handlers.{Inside, Outside, in_range, dest_at, dest_among, handlers_of, dest}

cons_of : {X : Type 0} (y : X) (ys : List X) (z : X) → Contains (y ∷ ys) z → (y ≡ z) ⊎ Contains ys z
cons_of y ys z (zero, lt, is) = inl is
cons_of y ys z (suc k, lt, is) = inr (k, omega arith, is)

pub none_of : {X : Type 0} (z : X) → Contains [] z → ⊥
none_of z (k, lt, is) = absurd (omega arith)

-- one of the handlers has the target
pub record HasTarget (handlers : List Handler) (j : ℕ) : Type 0 where
  pub k : ℕ
  pub handler : Handler
  pub at : slice_get handlers k ≡ Some handler
  pub is_target : handler.target ≡ j

module _ (p : Parts) (i token j : ℕ) where
  later : (h : Handler) (handlers : List Handler) → HasTarget handlers j → HasTarget (h ∷ handlers) j
  later h handlers has = record { k = suc has.k; handler = has.handler; at = has.at; is_target = has.is_target }

  first : (h : Handler) (handlers : List Handler) → Inside h.target ≡ Inside j → HasTarget (h ∷ handlers) j
  first h handlers is = record { k = 0; handler = h; at = refl; is_target = cc is }

  alone : (h : Handler) (handlers : List Handler) → Contains (Inside h.target ∷ []) (Inside j) → HasTarget (h ∷ handlers) j
  alone h handlers has = ⊎_elim (λ is. first h handlers is) (λ rest. absurd (none_of (Inside j) rest)) (cons_of (Inside h.target) [] (Inside j) has)

  pub among : (handlers : List Handler) → Contains (dest_among p i token handlers) (Inside j) → HasTarget handlers j
  among [] has = ⊎_elim (λ is. absurd (cc is)) (λ rest. absurd (none_of (Inside j) rest)) (cons_of Outside [] (Inside j) has)
  among (h ∷ handlers) has = by_range (in_range h i) (among handlers) has
    where
      by_class : (b : Bool) → (Contains (dest_among p i token handlers) (Inside j) → HasTarget handlers j) → Contains (if b then Inside h.target ∷ [] else dest_among p i token handlers) (Inside j) → HasTarget (h ∷ handlers) j
      by_class true rest is = alone h handlers is
      by_class false rest is = later h handlers (rest is)

      by_catch : (c : Catch) → (Contains (dest_among p i token handlers) (Inside j) → HasTarget handlers j) → Contains (dest_at p token h.target c (dest_among p i token handlers)) (Inside j) → HasTarget (h ∷ handlers) j
      by_catch Everything rest is = alone h handlers is
      by_catch (InClass c) rest is = by_class (at_or_below p token c.0) rest is
      by_catch InLibrary rest is = ⊎_elim (λ e. first h handlers e) (λ more. later h handlers (rest more)) (cons_of (Inside h.target) (dest_among p i token handlers) (Inside j) is)

      by_range : (b : Bool) → (Contains (dest_among p i token handlers) (Inside j) → HasTarget handlers j)
          → Contains (if b then dest_at p token h.target h.catch (dest_among p i token handlers) else dest_among p i token handlers) (Inside j) → HasTarget (h ∷ handlers) j
      by_range true rest is = by_catch h.catch rest is
      by_range false rest is = later h handlers (rest is)

-- a place inside method m to which an exception goes is the target of a handler of it
pub caught_at : (p : Parts) (m i token j : ℕ) (method : Method) → slice_get p.methods m ≡ Some method → Contains (dest p m i token) (Inside j) → HasTarget method.handlers j
caught_at p m i token j method found has = among p i token j method.handlers (subst (λ (o : Option Method). Contains (dest_among p i token (handlers_of o)) (Inside j)) found has)
