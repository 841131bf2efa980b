-- A function that looks at some variables alone has one value where these have one.
use Rattle.std.proofs.Common.{◌≡◌, ℕ, zero, suc, ◌+◌, ◌-◌, ◌*◌, ◌/◌, ◌%◌, ◌<◌, Bool, true, false, refl, sym, ap, ◌∙◌, subst, arith}
use Rattle.std.specs.Prelude.{◌&&◌, ◌||◌, nat_lt, nat_eq, if◌then◌else◌, slice_index}
use Rattle.std.proofs.lemmas.Bool.{and_parts, lt-ltb, le-ltb, ltb-true, eqb-true, eq-eqb, ne_eqb}
use Rattle.std.proofs.Math.Logic.{∥∥₁_elim}
use Rattle.std.proofs.Math.Nat.{ℕ_set}
use Rattle.std.proofs.Math.Bridge.{le_prop}
use mathlib.Core.Logic.{dite}
use native.Mathlib.Decide.{ℕ_discrete, dec_lt}
use Rattle.ja_base.specs.Limit.{max_variables}
use Rattle.ja_ir.specs.declared.method.Method.{Method}
use Rattle.ja_node_core.specs.Tree.{Assignment as Variables}
use Rattle.ja_bdd.specs.Functions.{Function, with_var, IsFree}
use Rattle.ja_bdd.specs.Meaning.{with_below}
use Rattle.ja_join.specs.Steps.{IsLow}
use Rattle.ja_facts.specs.Slots.{Local as InLocal}
use Rattle.ja_facts.specs.Formulas.{Assignment}
use Rattle.ja_work.specs.declared.clause.Spot.{Spot}
use Rattle.ja_work.specs.declared.clause.Spot.TheVariants.{Local, OnStack, Dirt, Exc}
use Rattle.ja_work.specs.declared.frame.Frame.{Frame}
use Rattle.ja_work.specs.Clauses.{value}
use Rattle.ja_work.specs.Orders.{IsOrder}
use Rattle.ja_work.specs.Frames.{number, size, numbered, spot_at, variable, is_inside, read}
use Rattle.ja_work.specs.Work.{is_param, is_param_spot, is_own, entry_of}

module _ (φ : Function) (own : ℕ → Bool) (low : IsLow φ) (free : (v : ℕ) → own v ≡ false → IsFree v φ) (a b : Variables) (same : (v : ℕ) → own v ≡ true → a v ≡ b v) where
  mix_more : (k u : ℕ) → with_below (suc k) b a u ≡ with_var (with_below k b a) k (b k) u
  mix_more k u = dite (ℕ_discrete u k)
      (λ e.
      ap (λ c. if c then b u else a u) (lt-ltb u (suc k) (omega arith)) ∙ ap b e ∙ sym (ap (λ c. if c then b k else with_below k b a u) (eq-eqb u k e)))
      (λ ne. sym (ap (λ c. if c then b k else with_below k b a u) (ne_eqb u k ne) ∙ dite (dec_lt u k)
      (λ lt. ap (λ c. if c then b u else a u) (lt-ltb u k lt) ∙ sym (ap (λ c. if c then b u else a u) (lt-ltb u (suc k) (omega arith))))
      (λ not. ap (λ c. if c then b u else a u) (le-ltb u k (omega arith)) ∙ sym (ap (λ c. if c then b u else a u) (le-ltb u (suc k) (omega arith))))))

  mix_same : (k u : ℕ) → a k ≡ b k → with_below (suc k) b a u ≡ with_below k b a u
  mix_same k u e = dite (ℕ_discrete u k)
      (λ is. ap (λ c. if c then b u else a u) (lt-ltb u (suc k) (omega arith)) ∙ ap b is ∙ sym e ∙ sym (ap a is) ∙ sym (ap (λ c. if c then b u else a u) (le-ltb u k (omega arith))))
      (λ ne. dite (dec_lt u k)
      (λ lt. ap (λ c. if c then b u else a u) (lt-ltb u (suc k) (omega arith)) ∙ sym (ap (λ c. if c then b u else a u) (lt-ltb u k lt)))
      (λ not. ap (λ c. if c then b u else a u) (le-ltb u (suc k) (omega arith)) ∙ sym (ap (λ c. if c then b u else a u) (le-ltb u k (omega arith)))))

  mix_step : (k : ℕ) (o : Bool) → own k ≡ o → φ (with_below (suc k) b a) ≡ φ (with_below k b a)
  mix_step k true e = ap φ (λ i u. mix_same k u (same k e) i)
  mix_step k false e = ap φ (λ i u. mix_more k u i) ∙ free k e (b k) (with_below k b a)

  mixed : (k : ℕ) → φ (with_below k b a) ≡ φ a
  mixed zero = ap φ (λ i u. ap (λ c. if c then b u else a u) (le-ltb u 0 (omega arith)) i)
  mixed (suc k) = mix_step k (own k) refl ∙ mixed k

  pub looks_at_own : φ a ≡ φ b
  looks_at_own = sym (mixed max_variables) ∙ low (with_below max_variables b a) b (λ v le. ap (λ c. if c then b v else a v) (lt-ltb v max_variables (omega (arith, le))))

-- the spot of a number is one of the frame, and has it
numbered_at : (frame : Frame) (n : ℕ) → n < size frame → (is_inside frame (numbered frame n) ≡ true) × (number frame (numbered frame n) ≡ n)
numbered_at frame n lt = dite (dec_lt n frame.locals)
    (λ less.
    let is : numbered frame n ≡ Local n = ap (λ c. if c then Local n else (if nat_lt n (frame.locals + frame.stack) then OnStack (n - frame.locals) else (if nat_eq n (frame.locals + frame.stack) then Dirt else Exc))) (lt-ltb n frame.locals less) in
    (ap (is_inside frame) is ∙ lt-ltb n frame.locals less, ap (number frame) is))
    (λ not.
    let first : numbered frame n ≡ (if nat_lt n (frame.locals + frame.stack) then OnStack (n - frame.locals) else (if nat_eq n (frame.locals + frame.stack) then Dirt else Exc)) =
    ap (λ c. if c then Local n else (if nat_lt n (frame.locals + frame.stack) then OnStack (n - frame.locals) else (if nat_eq n (frame.locals + frame.stack) then Dirt else Exc))) (le-ltb n frame.locals (omega arith)) in
    dite (dec_lt n (frame.locals + frame.stack))
    (λ less.
    let is : numbered frame n ≡ OnStack (n - frame.locals) = first ∙ ap (λ c. if c then OnStack (n - frame.locals) else (if nat_eq n (frame.locals + frame.stack) then Dirt else Exc)) (lt-ltb n (frame.locals + frame.stack) less) in
    (ap (is_inside frame) is ∙ lt-ltb (n - frame.locals) frame.stack (omega arith), ap (number frame) is ∙ omega arith))
    (λ past.
    let second : numbered frame n ≡ (if nat_eq n (frame.locals + frame.stack) then Dirt else Exc) =
    first ∙ ap (λ c. if c then OnStack (n - frame.locals) else (if nat_eq n (frame.locals + frame.stack) then Dirt else Exc)) (le-ltb n (frame.locals + frame.stack) (omega arith)) in
    dite (ℕ_discrete n (frame.locals + frame.stack))
    (λ e.
    let is : numbered frame n ≡ Dirt = second ∙ ap (λ c. if c then Dirt else Exc) (eq-eqb n (frame.locals + frame.stack) e) in
    (ap (is_inside frame) is, ap (number frame) is ∙ sym e))
    (λ ne.
    let is : numbered frame n ≡ Exc = second ∙ ap (λ c. if c then Dirt else Exc) (ne_eqb n (frame.locals + frame.stack) ne) in
    (ap (is_inside frame) is, ap (number frame) is ∙ omega arith))))

inside_value : (frame : Frame) (copy : ℕ) (a : Variables) (s : Spot) → is_inside frame s ≡ true → value (read frame copy a) s ≡ a (variable frame s copy)
inside_value frame copy a (Local l) e = ap (λ c. c && a (variable frame (Local l) copy)) e
inside_value frame copy a (OnStack k) e = ap (λ c. c && a (variable frame (OnStack k) copy)) e
inside_value frame copy a Dirt e = refl
inside_value frame copy a Exc e = refl

-- the variable of a place, and what a copy says there
module _ (frame : Frame) (j copy : ℕ) (lt : j < size frame) where
  slot_lt : slice_index frame.slots j < size frame
  slot_lt = ∥∥₁_elim frame.order le_prop (λ (o : IsOrder (size frame) frame.places frame.slots). o.slot_within j lt)

  place_variable : variable frame (spot_at frame j) copy ≡ 4 * j + copy
  place_variable = ap (λ n. 4 * slice_index frame.places n + copy) (numbered_at frame (slice_index frame.slots j) slot_lt).1
      ∙ ap (λ n. 4 * n + copy) (∥∥₁_elim frame.order (ℕ_set _ _) (λ (o : IsOrder (size frame) frame.places frame.slots). o.place_of_slot j lt))

  pub value_at_place : (a : Variables) → value (read frame copy a) (spot_at frame j) ≡ a (4 * j + copy)
  value_at_place a = inside_value frame copy a (spot_at frame j) (numbered_at frame (slice_index frame.slots j) slot_lt).0 ∙ ap a place_variable

-- a variable of facts that is not of the copy at the entry is of that at present
pub present_copy : (method : Method) (frame : Frame) (v : ℕ) → is_own method frame v ≡ true → nat_eq (v % 4) 0 ≡ false → v % 4 ≡ 1
present_copy method frame v own not_entry =
    let parts = and_parts (nat_lt (v / 4) (size frame)) (nat_eq (v % 4) 1 || (nat_eq (v % 4) 0 && is_param_spot method (spot_at frame (v / 4)))) own in
    by (nat_eq (v % 4) 1) refl (sym (ap (λ c. nat_eq (v % 4) 1 || (c && is_param_spot method (spot_at frame (v / 4)))) not_entry) ∙ parts.1)
  where
    by : (c : Bool) → nat_eq (v % 4) 1 ≡ c → (c || false) ≡ true → v % 4 ≡ 1
    by true e _ = eqb-true (v % 4) 1 e
    by false e never = absurd (cc never)

module _ (method : Method) (frame : Frame) (a b : Variables) (entries : entry_of method frame a ≡ entry_of method frame b) where
  entry_value : (c : Variables) (s : Spot) → is_param_spot method s ≡ true → (l : ℕ) → s ≡ Local l → (entry_of method frame c).slot (InLocal l) ≡ value (read frame 0 c) s
  entry_value c s param l is =
      let at : is_param method l ≡ true = subst (λ (t : Spot). is_param_spot method t ≡ true) is param in
      ap (λ p. p && (read frame 0 c).slot (InLocal l)) at ∙ ap (value (read frame 0 c)) (sym is)

  param_local : (s : Spot) → is_param_spot method s ≡ true → (l : ℕ) × (s ≡ Local l)
  param_local (Local l) e = (l, refl)
  param_local (OnStack k) e = absurd (cc e)
  param_local Dirt e = absurd (cc e)
  param_local Exc e = absurd (cc e)

  same_entry : (v : ℕ) → v / 4 < size frame → v % 4 ≡ 0 → is_param_spot method (spot_at frame (v / 4)) ≡ true → a v ≡ b v
  same_entry v lt zeroth param =
      let s = spot_at frame (v / 4) in
      let is : (l : ℕ) × (s ≡ Local l) = param_local s param in
      let at : 4 * (v / 4) + 0 ≡ v = omega arith in
      ap a (sym at) ∙ sym (value_at_place frame (v / 4) 0 lt a) ∙ sym (entry_value a s param is.0 is.1) ∙ ap (λ (x : Assignment). x.slot (InLocal is.0)) entries ∙ entry_value b s param is.0 is.1 ∙ value_at_place frame (v / 4) 0 lt b ∙ ap b at

  -- of the copy at the entry alone
  pub same_zeroth : (v : ℕ) → is_own method frame v ≡ true → v % 4 ≡ 0 → a v ≡ b v
  same_zeroth v own zeroth =
      let parts = and_parts (nat_lt (v / 4) (size frame)) (nat_eq (v % 4) 1 || (nat_eq (v % 4) 0 && is_param_spot method (spot_at frame (v / 4)))) own in
      let no : nat_eq (v % 4) 1 ≡ false = ne_eqb (v % 4) 1 (λ e. absurd (omega arith)) in
      let rest : (nat_eq (v % 4) 0 && is_param_spot method (spot_at frame (v / 4))) ≡ true = sym (ap (λ c. c || (nat_eq (v % 4) 0 && is_param_spot method (spot_at frame (v / 4)))) no) ∙ parts.1 in
      same_entry v (ltb-true (v / 4) (size frame) parts.0) zeroth (and_parts (nat_eq (v % 4) 0) (is_param_spot method (spot_at frame (v / 4))) rest).1

  pub same_own : read frame 1 a ≡ read frame 1 b → (v : ℕ) → is_own method frame v ≡ true → a v ≡ b v
  same_own present v own =
      let parts = and_parts (nat_lt (v / 4) (size frame)) (nat_eq (v % 4) 1 || (nat_eq (v % 4) 0 && is_param_spot method (spot_at frame (v / 4)))) own in
      let lt : v / 4 < size frame = ltb-true (v / 4) (size frame) parts.0 in
      by (nat_eq (v % 4) 1) refl lt parts.1
    where
      by : (c : Bool) → nat_eq (v % 4) 1 ≡ c → v / 4 < size frame → (c || (nat_eq (v % 4) 0 && is_param_spot method (spot_at frame (v / 4)))) ≡ true → a v ≡ b v
      by true e lt _ =
          let one : v % 4 ≡ 1 = eqb-true (v % 4) 1 e in
          let at : 4 * (v / 4) + 1 ≡ v = omega arith in
          ap a (sym at) ∙ sym (value_at_place frame (v / 4) 1 lt a) ∙ ap (λ (x : Assignment). value x (spot_at frame (v / 4))) present ∙ value_at_place frame (v / 4) 1 lt b ∙ ap b at
      by false e lt rest =
          let parts = and_parts (nat_eq (v % 4) 0) (is_param_spot method (spot_at frame (v / 4))) rest in
          same_entry v lt (eqb-true (v % 4) 0 parts.0) parts.1
