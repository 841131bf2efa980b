-- What parameters a call gives, where exceptions go, and cells by their numbers.
use Rattle.std.proofs.Common.{◌≡◌, ◌⊎◌, inl, inr, ℕ, zero, suc, ◌+◌, ◌-◌, ◌<◌, ◌≤◌, Bool, true, false, List, [], ◌∷◌, Some, None, refl, sym, ap, subst, ◌∙◌, arith, length}
use Rattle.std.specs.Prelude.{◌&&◌, nat_lt, nat_eq, Contains, slice_get, Option, if◌then◌else◌}
use Rattle.std.specs.Int.{bit_at}
use Rattle.std.proofs.lemmas.Nat.Bits.{bit_at-zero}
use Rattle.std.proofs.lemmas.Bool.{and_parts, and_from, false≢true, eqb-true, eq-eqb, ltb-true, ltb-false, lt-ltb, le-ltb, cases_Bool, cases_order}
use Rattle.ja_ir.specs.declared.program.Parts.{Parts}
use Rattle.ja_ir.specs.declared.method.Method.{Method}
use Rattle.ja_ir.specs.declared.method.Handler.{Handler}
use Rattle.ja_ir.specs.declared.method.Catch.{Catch}
use Rattle.ja_ir.specs.declared.method.Catch.TheVariants.{All as Everything, Program as InClass, Library as InLibrary}
use Rattle.ja_ir.specs.declared.op.CallOp.{CallOp}
use Rattle.ja_ir.specs.Lookup.{is_member, at_or_below}
use Rattle.ja_ir.specs.Operations.{arguments}
use Rattle.ja_ir.specs.Params.{param_local, param_count, param_types}
use Rattle.ja_ir.specs.Handlers.{Place, Inside, Outside, in_range, dest_at, dest_among}
use Rattle.ja_facts.specs.Slots.{Slot, Local as InLocal, OnStack as InStack, argument}
use Rattle.ja_facts.specs.Held.{Cell, OfField, OfBag}
use Rattle.ja_facts.specs.Told.{IsCell, cell_number}
use Rattle.ja_facts.specs.FactTables.{cell_count}
use Rattle.ja_facts.specs.Formulas.{Assignment, any_below}
use Rattle.ja_facts.specs.Equations.{HandsOver, IsNothing}
use Rattle.ja_work.specs.declared.clause.Spot.{Spot}
use Rattle.ja_work.specs.declared.clause.Spot.TheVariants.{Local, OnStack, Dirt, Exc}
use Rattle.ja_work.specs.Clauses.{value, fits, never, constant, AllFit}
use Rattle.ja_work.proofs.Fitting.{constant_fits, fits_constant, any_some, some_any}
use Rattle.ja_order.proofs.Locals.{locals-rise}
use Rattle.ja_explicit.specs.InnerWords.{bit, bit_if, says, handed_clauses}
use Rattle.ja_explicit.specs.InnerRounds.{says_in, says_of, cell_of}
use Rattle.ja_explicit.proofs.Lists.{cons_cases, here, there, nothing_in}
use Rattle.ja_explicit.proofs.Worded.{the_one}
use Rattle.ja_work.specs.Told.{number_of}
use Rattle.ja_explicit.proofs.Quiet.{is_false}

-- ---- the word 0

bit_nothing : (n : ℕ) → bit 0 n ≡ false
bit_nothing n = ap (λ d. nat_eq d 1) (bit_at-zero n)

pub says_nothing : (p : Parts) (m : ℕ) → IsNothing (says_of p m 0)
says_nothing p m = go (slice_get p.methods m)
  where
    go : (o : Option Method) → IsNothing (says_in o 0)
    go None = record { slots = λ z. refl; dirt = refl; exc = refl }
    go (Some method) = record { slots = λ z. of_number (number_of method z); dirt = bit_nothing (method.locals + method.stack); exc = bit_nothing (method.locals + method.stack + 1) }
      where
        of_number : (n : Option ℕ) → bit_if 0 n ≡ false
        of_number None = refl
        of_number (Some n) = bit_nothing n

-- nothing is true in one assignment alone
pub same_nothing : (a b : Assignment) → IsNothing a → IsNothing b → a ≡ b
same_nothing a b x y = λ j. record { slot = λ z. (x.slots z ∙ sym (y.slots z)) j; dirt = (x.dirt ∙ sym y.dirt) j; exc = (x.exc ∙ sym y.exc) j }

-- ---- parameters

pub local_apart : (method : Method) (k l : ℕ) → k < param_count method → l < param_count method → param_local method k ≡ param_local method l → k ≡ l
local_apart method k l klt llt e = elim (cases_order k l) [
  | inl same ↦ same
  | inr other ↦ (elim other [
    | inl lt ↦ absurd (omega (arith, locals-rise (is_member method.flags) (param_types method) k l lt llt, e))
    | inr gt ↦ absurd (omega (arith, locals-rise (is_member method.flags) (param_types method) l k gt klt, e))
  ])
]

module _ (callee : Method) (call : CallOp) (under : ℕ) (b a : Assignment) (counted : param_count callee ≡ arguments call) where
  same_test : (k : ℕ) → k < arguments call → any_below (λ j. nat_eq (param_local callee j) (param_local callee k) && b.slot (argument under j)) (arguments call) ≡ b.slot (argument under k)
  same_test k lt = elim (cases_Bool (b.slot (argument under k))) [
    | inl t ↦
        some_any (λ j. nat_eq (param_local callee j) (param_local callee k) && b.slot (argument under j)) (arguments call) k lt
        (and_from (nat_eq (param_local callee k) (param_local callee k)) (b.slot (argument under k)) (eq-eqb (param_local callee k) (param_local callee k) refl) t)
        ∙ sym t
    | inr f ↦
        is_false (any_below (λ j. nat_eq (param_local callee j) (param_local callee k) && b.slot (argument under j)) (arguments call)) (λ e.
        let r = any_some (λ j. nat_eq (param_local callee j) (param_local callee k) && b.slot (argument under j)) (arguments call) e in
        let parts = and_parts (nat_eq (param_local callee r.0) (param_local callee k)) (b.slot (argument under r.0)) r.2 in
        let same : r.0 ≡ k = local_apart callee r.0 k (omega (arith, r.1, counted)) (omega (arith, lt, counted)) (eqb-true (param_local callee r.0) (param_local callee k) parts.0) in
        false≢true (sym f ∙ subst (λ j. b.slot (argument under j) ≡ true) same parts.1))
        ∙ sym f
  ]

  pub fit_hands : AllFit (handed_clauses callee (arguments call) under b) b a → HandsOver callee call under b a
  fit_hands all = record {
    each = λ k lt. fits_constant (any_below (λ j. nat_eq (param_local callee j) (param_local callee k) && b.slot (argument under j)) (arguments call)) b (a.slot (InLocal (param_local callee k))) (all (Local (param_local callee k))) ∙ same_test k lt;
    others = other;
    dirt = fits_constant false b a.dirt (all Dirt);
    exc = fits_constant false b a.exc (all Exc);
  }
    where
      other : (z : Slot) → ((k : ℕ) → k < arguments call → z ≡ InLocal (param_local callee k) → ⊥) → a.slot z ≡ false
      other (InLocal l) none =
          fits_constant (any_below (λ j. nat_eq (param_local callee j) l && b.slot (argument under j)) (arguments call)) b (a.slot (InLocal l)) (all (Local l))
          ∙ is_false (any_below (λ j. nat_eq (param_local callee j) l && b.slot (argument under j)) (arguments call)) (λ e.
          let r = any_some (λ j. nat_eq (param_local callee j) l && b.slot (argument under j)) (arguments call) e in
          let parts = and_parts (nat_eq (param_local callee r.0) l) (b.slot (argument under r.0)) r.2 in
          none r.0 r.1 (ap InLocal (sym (eqb-true (param_local callee r.0) l parts.0))))
      other (InStack k) none = fits_constant false b (a.slot (InStack k)) (all (OnStack k))

  pub hands_fit : HandsOver callee call under b a → AllFit (handed_clauses callee (arguments call) under b) b a
  hands_fit h (Local l) = constant_fits (any_below (λ j. nat_eq (param_local callee j) l && b.slot (argument under j)) (arguments call)) b (a.slot (InLocal l)) (is l)
    where
      is : (l : ℕ) → a.slot (InLocal l) ≡ any_below (λ j. nat_eq (param_local callee j) l && b.slot (argument under j)) (arguments call)
      is l = elim (cases_Bool (any_below (λ j. nat_eq (param_local callee j) l && b.slot (argument under j)) (arguments call))) [
        | inl e ↦ from_test l e ∙ sym e
        | inr f ↦ from_none l f ∙ sym f
      ]
        where
          from_test : (l : ℕ) → any_below (λ j. nat_eq (param_local callee j) l && b.slot (argument under j)) (arguments call) ≡ true → a.slot (InLocal l) ≡ true
          from_test l e =
              let r = any_some (λ j. nat_eq (param_local callee j) l && b.slot (argument under j)) (arguments call) e in
              let parts = and_parts (nat_eq (param_local callee r.0) l) (b.slot (argument under r.0)) r.2 in
              subst (λ n. a.slot (InLocal n) ≡ true) (eqb-true (param_local callee r.0) l parts.0) (h.each r.0 r.1 ∙ parts.1)

          same_local : (k l : ℕ) → InLocal l ≡ InLocal (param_local callee k) → param_local callee k ≡ l
          same_local k l z = sym (cc z)

          from_none : (l : ℕ) → any_below (λ j. nat_eq (param_local callee j) l && b.slot (argument under j)) (arguments call) ≡ false → a.slot (InLocal l) ≡ false
          from_none l f = is_false (a.slot (InLocal l)) (λ t.
              let none : (k : ℕ) → k < arguments call → InLocal l ≡ InLocal (param_local callee k) → ⊥ =
              λ k lt z. false≢true (sym f ∙ some_any (λ j. nat_eq (param_local callee j) l && b.slot (argument under j)) (arguments call) k lt
              (and_from (nat_eq (param_local callee k) l) (b.slot (argument under k)) (eq-eqb (param_local callee k) l (same_local k l z)) (sym (h.each k lt) ∙ ap a.slot (sym z) ∙ t))) in
              false≢true (sym (h.others (InLocal l) none) ∙ t))
  hands_fit h (OnStack k) = constant_fits false b (a.slot (InStack k)) (h.others (InStack k) (λ j lt z. absurd (cc z)))
  hands_fit h Dirt = constant_fits false b a.dirt h.dirt
  hands_fit h Exc = constant_fits false b a.exc h.exc

-- ---- places

module _ (p : Parts) (i t : ℕ) where
  abbrev Handled : List Handler → ℕ → Type 0
  Handled handlers j = (h : Handler) × Contains handlers h × (in_range h i ≡ true) × (h.target ≡ j)

  one_handler : (h : Handler) (handlers : List Handler) (j : ℕ) → (Contains (dest_among p i t handlers) (Inside j) → Handled handlers j) → Contains (dest_among p i t (h ∷ handlers)) (Inside j) → Handled (h ∷ handlers) j
  one_handler h handlers j rest c = by_range (in_range h i) refl c
    where
      later : Handled handlers j → Handled (h ∷ handlers) j
      later r = (r.0, there h handlers r.0 r.1, r.2, r.3)

      first : in_range h i ≡ true → Inside h.target ≡ Inside j → Handled (h ∷ handlers) j
      first e is = (h, here h handlers, e, cc is)

      by_class : in_range h i ≡ true → (b : Bool) → Contains (if b then Inside h.target ∷ [] else dest_among p i t handlers) (Inside j) → Handled (h ∷ handlers) j
      by_class e true g = first e (the_one (Inside h.target) (Inside j) g)
      by_class e false g = later (rest g)

      by_catch : in_range h i ≡ true → (k : Catch) → Contains (dest_at p t h.target k (dest_among p i t handlers)) (Inside j) → Handled (h ∷ handlers) j
      by_catch e Everything d = first e (the_one (Inside h.target) (Inside j) d)
      by_catch e (InClass k) d = by_class e (at_or_below p t k.0) d
      by_catch e InLibrary d = elim (cons_cases (Inside h.target) (dest_among p i t handlers) (Inside j) d) [ inl is ↦ first e is | inr g ↦ later (rest g) ]

      by_range : (b : Bool) → in_range h i ≡ b → Contains (if b then dest_at p t h.target h.catch (dest_among p i t handlers) else dest_among p i t handlers) (Inside j) → Handled (h ∷ handlers) j
      by_range true e d = by_catch e h.catch d
      by_range false e d = later (rest d)

  pub dest_handler : (handlers : List Handler) (j : ℕ) → Contains (dest_among p i t handlers) (Inside j) → (h : Handler) × Contains handlers h × (in_range h i ≡ true) × (h.target ≡ j)
  dest_handler [] j c = absurd (cc (the_one Outside (Inside j) c))
  dest_handler (h ∷ handlers) j c = one_handler h handlers j (λ d. dest_handler handlers j d) c

-- ---- cells

module _ (p : Parts) where
  pub field_cell : (n : ℕ) → n < length p.fields → cell_of p n ≡ OfField n
  field_cell n lt = ap (λ c. if c then OfField n else OfBag (n - length p.fields)) (lt-ltb n (length p.fields) lt)

  pub bag_cell : (t : ℕ) → cell_of p (length p.fields + t) ≡ OfBag t
  bag_cell t =
      ap (λ c. if c then OfField (length p.fields + t) else OfBag (length p.fields + t - length p.fields)) (le-ltb (length p.fields + t) (length p.fields) (omega arith))
      ∙ ap OfBag (sub_back t)
    where
      sub_back : (t : ℕ) → length p.fields + t - length p.fields ≡ t
      sub_back t = omega arith

  pub cell_known : (n : ℕ) → n < cell_count p → IsCell p (cell_of p n) × (cell_number p (cell_of p n) ≡ n)
  cell_known n lt = elim (cases_Bool (nat_lt n (length p.fields))) [
    | inl low ↦ (let l = ltb-true n (length p.fields) low in subst (λ c. IsCell p c × (cell_number p c ≡ n)) (sym (field_cell n l)) (l, refl))
    | inr high ↦ (let h = ltb-false n (length p.fields) high in
        let e : cell_of p n ≡ OfBag (n - length p.fields) = ap (λ c. if c then OfField n else OfBag (n - length p.fields)) high in
        subst (λ c. IsCell p c × (cell_number p c ≡ n)) (sym e) (omega (arith, h, lt), omega (arith, h)))
  ]

  pub cell_back : (c : Cell) → IsCell p c → cell_of p (cell_number p c) ≡ c
  cell_back (OfField f) lt = field_cell f lt
  cell_back (OfBag t) lt = bag_cell t

  pub cell_low : (c : Cell) → IsCell p c → cell_number p c < cell_count p
  cell_low (OfField f) lt = omega (arith, lt)
  cell_low (OfBag t) lt = omega (arith, lt)
