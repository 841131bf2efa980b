-- What a composition looks at, and its renaming.
use Rattle.std.proofs.Common.{◌≡◌, ◌≢◌, ℕ, zero, suc, ◌+◌, ◌-◌, ◌*◌, ◌<◌, ◌≤◌, Bool, true, false, refl, sym, ap, ◌∙◌, subst, arith, ◌⊎◌, inl, inr, ⊎_elim}
use Rattle.std.specs.Prelude.{◌&&◌, not, ◌%◌, ◌==◌, nat_lt, if◌then◌else◌}
use Rattle.std.proofs.lemmas.Bool.{and_parts, and_from, cases_eq, cases_lt, eq-eqb, ne_eqb, eqb-true, eqb-false, ltb-true, ltb-false, lt-ltb}
use mathlib.Core.Logic.{dite}
use native.Mathlib.Decide.{ℕ_discrete}
use Rattle.ja_node_core.specs.Tree.{Assignment}
use Rattle.ja_node_core.specs.Node.{Words}
use Rattle.ja_node_core.proofs.Reduced.{with_var_other}
use Rattle.ja_bdd.specs.Functions.{Function, with_var, both, renamed, IsFree, KeepsOrder}
use Rattle.ja_bdd.specs.Meaning.{Keeps}
use Rattle.ja_bdd.specs.declared.copies.Copies.{Copies}
use Rattle.ja_bdd.specs.Copies.{in_copies, forgotten_if, forgotten_below, all_forgotten}
use Rattle.ja_bdd.proofs.Fixing.{fixed_free, forgotten_free, free_op}
use Rattle.ja_bdd.proofs.Named.{IsSmall}
use Rattle.ja_bdd.proofs.Quantified.{left_fixed}
use Rattle.ja_bdd.proofs.Existing.{left_true}
use Rattle.ja_join.specs.Composed.{others_of, present_alone, entry_and_present, present_and_next, LooksIn, earlier, composed}

one_truth : (p q : Bool) → (p ≡ true → q ≡ true) → (q ≡ true → p ≡ true) → p ≡ q
one_truth true q there back = sym (there refl)
one_truth false true there back = back refl
one_truth false false there back = refl

-- what is forgotten is not looked at
pub left_gone : (goes : ℕ → Bool) (φ : Function) (u : ℕ) → goes u ≡ true → u ≤ 4094 → IsFree u (all_forgotten goes φ)
left_gone goes φ u gone le c a = one_truth (all_forgotten goes φ (with_var a u c)) (all_forgotten goes φ a)
    (λ t. let x = (left_true goes φ (with_var a u c)).0 t in (left_true goes φ a).1 (x.0, (λ w stays. x.1 w stays ∙ with_var_other a u c w (apart w stays)), x.2))
    (λ t. let x = (left_true goes φ a).0 t in (left_true goes φ (with_var a u c)).1 (x.0, (λ w stays. x.1 w stays ∙ sym (with_var_other a u c w (apart w stays))), x.2))
  where
    apart : (w : ℕ) → (w ≤ 4094 → goes w ≡ false) → w ≢ u
    apart w stays e = let clash : true ≡ false = sym gone ∙ ap goes (sym e) ∙ stays (subst (λ x. x ≤ 4094) (sym e) le) in cc clash

-- what is not looked at is still not
left_still : (goes : ℕ → Bool) (φ : Function) (u : ℕ) → goes u ≡ false → IsFree u φ → IsFree u (all_forgotten goes φ)
left_still goes φ u stays free c a = ap (λ (χ : Function). χ a) (sym (left_fixed goes u c φ stays)) ∙ ap (λ (χ : Function). all_forgotten goes χ a) (fixed_free u c φ free)

-- a function of low variables looks at no high one
pub small_free : (φ : Function) → IsSmall φ → (u : ℕ) → 4094 < u → IsFree u φ
small_free φ small u high c a = small (with_var a u c) a (λ w ge lt. with_var_other a u c w (λ e. absurd (omega arith)))

-- a variable at the entry, or a next one, that is less than a next one is less than the one before it
apart_zero : (u v pu pv : ℕ) → pu ≤ u → pv ≡ v - 1 → u < v → u % 4 ≡ 0 → v % 4 ≡ 2 → pu < pv
apart_zero u v pu pv left right lt even next = omega arith

apart_two : (u v pu pv : ℕ) → pu ≤ u → pv ≡ v - 1 → u < v → u % 4 ≡ 2 → v % 4 ≡ 2 → pu < pv
apart_two u v pu pv left right lt even next = omega arith

-- a copy is among those that others are not
others_in : (c : Copies) (v : ℕ) → in_copies (others_of c) v ≡ not (in_copies c v)
others_in c v = by_tests (v % 4 == 0) (v % 4 == 1) (v % 4 == 2)
  where
    by_tests : (p q r : Bool) → (if p then not c.at_entry else (if q then not c.at_present else (if r then not c.at_next else not c.at_callee)))
        ≡ not (if p then c.at_entry else (if q then c.at_present else (if r then c.at_next else c.at_callee)))
    by_tests true q r = refl
    by_tests false true r = refl
    by_tests false false true = refl
    by_tests false false false = refl

-- a function that is not changed where all other copies are forgotten looks at these alone
pub rest_looks : (c : Copies) (φ : Function) → IsSmall φ → all_forgotten (in_copies (others_of c)) φ ≡ φ → LooksIn c φ
rest_looks c φ small same v out = ⊎_elim
    (λ high. small_free φ small v high)
    (λ low. subst (IsFree v) same (left_gone (in_copies (others_of c)) φ v (others_in c v ∙ ap not out) low))
    (cases_lt 4094 v)

-- what a function does not look at can be forgotten
below_free : (goes : ℕ → Bool) (φ : Function) → ((v : ℕ) → goes v ≡ true → IsFree v φ) → (n : ℕ) → forgotten_below n goes φ ≡ φ
unfolding forgotten_below
below_free goes φ free zero = refl
below_free goes φ free (suc n) = ap (forgotten_if (goes n) n) (below_free goes φ free n) ∙ by_case (goes n) (free n)
  where
    by_case : (b : Bool) → (b ≡ true → IsFree n φ) → forgotten_if b n φ ≡ φ
    by_case true is_free = forgotten_free n φ (is_free refl)
    by_case false is_free = refl

not_true : (b : Bool) → not b ≡ true → b ≡ false
not_true false e = refl
not_true true e = sym e

pub looks_rest : (c : Copies) (φ : Function) → LooksIn c φ → all_forgotten (in_copies (others_of c)) φ ≡ φ
unfolding all_forgotten
looks_rest c φ looks = below_free (in_copies (others_of c)) φ (λ v gone. looks v (not_true (in_copies c v) (sym (others_in c v) ∙ gone))) 4095

module _ (φ ρ : Function) (φ_in : LooksIn entry_and_present φ) (ρ_in : LooksIn present_and_next ρ) where
  joined : Function
  joined = all_forgotten (in_copies present_alone) (both φ ρ)

  -- the variables that are looked at after the present is forgotten: those at the entry and those next
  looked : (u : ℕ) → IsSmall (all_forgotten (in_copies present_alone) (both φ ρ)) → ¬ IsFree u (all_forgotten (in_copies present_alone) (both φ ρ)) → (u ≤ 4094) × ((u % 4 ≡ 0) ⊎ (u % 4 ≡ 2))
  looked u small looks = ⊎_elim (λ high. absurd (looks (small_free (all_forgotten (in_copies present_alone) (both φ ρ)) small u high))) (λ le. (le, by_copy le)) (cases_lt 4094 u)
    where
      at_present : u ≤ 4094 → u % 4 ≡ 1 → ⊥
      at_present le e = looks (left_gone (in_copies present_alone) (both φ ρ) u (ap (λ r. if r == 0 then false else (if r == 1 then true else (if r == 2 then false else false))) e) le)

      at_callee : u % 4 ≡ 3 → ⊥
      at_callee e = looks (left_still (in_copies present_alone) (both φ ρ) u (ap (λ r. if r == 0 then false else (if r == 1 then true else (if r == 2 then false else false))) e)
          (free_op (λ p q. p && q) u φ ρ (φ_in u (ap (λ r. if r == 0 then true else (if r == 1 then true else (if r == 2 then false else false))) e)) (ρ_in u (ap (λ r. if r == 0 then false else (if r == 1 then true else (if r == 2 then true else false))) e))))

      by_copy : u ≤ 4094 → (u % 4 ≡ 0) ⊎ (u % 4 ≡ 2)
      by_copy le = ⊎_elim inl (λ first. ⊎_elim inr (λ third. ⊎_elim (λ e. absurd (at_present le e)) (λ second. absurd (at_callee (omega arith))) (cases_eq (u % 4) 1)) (cases_eq (u % 4) 2)) (cases_eq (u % 4) 0)

  pub composed_order : (partner : ℕ → ℕ) → ((v : ℕ) → v ≤ 4094 → partner v ≡ earlier v) → IsSmall (all_forgotten (in_copies present_alone) (both φ ρ)) → KeepsOrder partner (all_forgotten (in_copies present_alone) (both φ ρ))
  composed_order partner is small u v u_looks v_looks lt =
      let x = looked u small u_looks in
      let y = looked v small v_looks in
      let left : partner u ≤ u = subst (λ w. w ≤ u) (sym (is u x.0)) (below u) in
      ⊎_elim
      (λ none. let right : partner v ≡ v = is v y.0 ∙ ap (λ r. if r == 2 then v - 1 else v) none in omega arith)
      (λ next. let right : partner v ≡ v - 1 = is v y.0 ∙ ap (λ r. if r == 2 then v - 1 else v) next in ⊎_elim (λ even. apart_zero u v (partner u) (partner v) left right lt even next) (λ even. apart_two u v (partner u) (partner v) left right lt even next) x.1)
      y.1
    where
      below : (w : ℕ) → earlier w ≤ w
      below w = by_test (w % 4 == 2)
        where
          by_test : (c : Bool) → (if c then w - 1 else w) ≤ w
          by_test true = omega arith
          by_test false = omega arith

-- a renaming that is the same at low variables makes the same
pub renamed_same : (partner other : ℕ → ℕ) (φ : Function) → IsSmall φ → ((v : ℕ) → v ≤ 4094 → partner v ≡ other v) → renamed partner φ ≡ renamed other φ
renamed_same partner other φ small same i a = small (λ v. a (partner v)) (λ v. a (other v)) (λ v ge lt. ap a (same v (omega arith))) i

-- the renaming of the first so many places
abbrev pub earlier_below : (places v : ℕ) → ℕ
earlier_below places v = if v % 4 == 2 then (if nat_lt v (4 * places) then v - 1 else v) else v

pub none_earlier : (v : ℕ) → v ≡ earlier_below 0 v
none_earlier v = by_test (v % 4 == 2) (nat_lt v (4 * 0)) refl
  where
    by_test : (c d : Bool) → nat_lt v (4 * 0) ≡ d → v ≡ (if c then (if d then v - 1 else v) else v)
    by_test true true e = let lt = ltb-true v (4 * 0) e in absurd (omega arith)
    by_test true false e = refl
    by_test false d e = refl

pub all_earlier : (v : ℕ) → v ≤ 4094 → earlier_below 1024 v ≡ earlier v
all_earlier v le = ap (λ d. if v % 4 == 2 then (if d then v - 1 else v) else v) (lt-ltb v (4 * 1024) (omega arith))

pub more_earlier : (n : ℕ) (old new : ℕ → ℕ) → ((v : ℕ) → v ≤ 4094 → old v ≡ earlier_below n v) → new (4 * n + 2) ≡ 4 * n + 1 → ((v : ℕ) → v ≢ 4 * n + 2 → new v ≡ old v) → (v : ℕ) → v ≤ 4094 → new v ≡ earlier_below (n + 1) v
more_earlier n old new is here others v le = dite (ℕ_discrete v (4 * n + 2))
    (λ e. ap new e ∙ here ∙ sym (at_place v e))
    (λ ne. others v ne ∙ is v le ∙ elsewhere ne (v % 4 == 2) refl (nat_lt v (4 * n)) refl (nat_lt v (4 * (n + 1))) refl)
  where
    at_place : (w : ℕ) → w ≡ 4 * n + 2 → earlier_below (n + 1) w ≡ 4 * n + 1
    at_place w e =
        ap (λ c. if c then (if nat_lt w (4 * (n + 1)) then w - 1 else w) else w) (eq-eqb (w % 4) 2 (omega arith))
        ∙ ap (λ d. if d then w - 1 else w) (lt-ltb w (4 * (n + 1)) (omega arith))
        ∙ omega arith

    elsewhere : v ≢ 4 * n + 2 → (c : Bool) → (v % 4 == 2) ≡ c → (d : Bool) → nat_lt v (4 * n) ≡ d → (d' : Bool) → nat_lt v (4 * (n + 1)) ≡ d'
        → (if c then (if d then v - 1 else v) else v) ≡ (if c then (if d' then v - 1 else v) else v)
    elsewhere ne false p d q d' r = refl
    elsewhere ne true p true q true r = refl
    elsewhere ne true p false q false r = refl
    elsewhere ne true p true q false r = let low = ltb-true v (4 * n) q in let high = ltb-false v (4 * (n + 1)) r in absurd (omega arith)
    elsewhere ne true p false q true r =
        let two : v % 4 ≡ 2 = eqb-true (v % 4) 2 p in let low = ltb-false v (4 * n) q in let high = ltb-true v (4 * (n + 1)) r in absurd (ne (omega arith))

-- what is known stays known, from one worker to the next and on
pub keeps_chain : (k l m : Words) → Keeps k l → Keeps l m → Keeps k m
keeps_chain k l m first second n x = let once = first n x in let twice = second n once.0 in (twice.0, twice.1 ∙ once.1)

-- the present alone goes
goes_is : (v : ℕ) → in_copies present_alone v ≡ (v % 4 == 1)
goes_is v = by_test (v % 4 == 0) refl (v % 4 == 1) refl
  where
    by_test : (c : Bool) → (v % 4 == 0) ≡ c → (d : Bool) → (v % 4 == 1) ≡ d → (if c then false else (if d then true else (if v % 4 == 2 then false else false))) ≡ d
    by_test true e true f = let zero' = eqb-true (v % 4) 0 e in let one' = eqb-true (v % 4) 1 f in absurd (omega arith)
    by_test true e false f = refl
    by_test false e true f = refl
    by_test false e false f = neither (v % 4 == 2)
      where
        neither : (x : Bool) → (if x then false else false) ≡ false
        neither true = refl
        neither false = refl

module _ (φ ρ : Function) (a : Assignment) where
  pub composed_some : composed φ ρ a ≡ true → (b : Assignment) × ((v : ℕ) → (v ≤ 4094 → v % 4 ≢ 1) → b v ≡ a (earlier v)) × (φ b ≡ true) × (ρ b ≡ true)
  composed_some t =
      let x = (left_true (in_copies present_alone) (both φ ρ) (λ v. a (earlier v))).0 t in
      let parts = and_parts (φ x.0) (ρ x.0) x.2 in
      (x.0, (λ v stays. x.1 v (λ le. goes_is v ∙ ne_eqb (v % 4) 1 (stays le))), parts.0, parts.1)

  pub some_composed : ((b : Assignment) × ((v : ℕ) → (v ≤ 4094 → v % 4 ≢ 1) → b v ≡ a (earlier v)) × (φ b ≡ true) × (ρ b ≡ true)) → composed φ ρ a ≡ true
  some_composed (b, agrees, first, second) = (left_true (in_copies present_alone) (both φ ρ) (λ v. a (earlier v))).1
      (b, (λ v stays. agrees v (λ le. eqb-false (v % 4) 1 (sym (goes_is v) ∙ stays le))), and_from (φ b) (ρ b) first second)
