-- The flags of the pass are the verdicts of the least solution.
use Rattle.std.proofs.Common.{◌≡◌, ◌≢◌, ℕ, zero, suc, ◌+◌, ◌-◌, ◌<◌, ◌≤◌, ◌⊎◌, inl, inr, lit<, Bool, true, false, List, [], ◌∷◌, ◌++◌, Some, length, drop, replicate, get_or, refl, sym, ap, subst, arith, ◌∙◌}
use Rattle.std.specs.Prelude.{slice_get, ◌↔◌, IsTrue, Contains}
use Rattle.std.proofs.lemmas.List.{length-replicate, get_or-replicate, get_or_past, append-nil}
use Rattle.std.proofs.Math.ListN.{drop_of_length-le}
use Rattle.std.proofs.lemmas.Bool.{cases_lt}
use Rattle.ja_class.specs.declared.first.FirstOp.{FirstOp}
use Rattle.ja_class.specs.declared.first.FirstOp.TheVariants.{Load as FLoad, Store as FStore, Text as FText, Pop as FPop, Source, Sink, Return as FReturn}
use Rattle.ja_class.specs.declared.first.FirstInstr.{FirstInstr}
use Rattle.ja_class.specs.declared.first.FirstMethod.{FirstMethod}
use Rattle.ja_class.specs.Runnable.{pops, height_after, RunsFrom, IsRunnable, set_after}
use Rattle.ja_plain.specs.Least.{Each, Least}
use Rattle.ja_plain.specs.Token.{Token}
use Rattle.ja_plain.specs.Operation.{Call, Effect, LibraryCall, sink_call, operation, listed, height_from, IsAt}
use Rattle.ja_plain.specs.Equations.{Slot, Local, OnStack, Dirt, Exc, Entry, Assignment, Cell, AtMost, IsTaker, AfterNormal, GoesOn, Fact, Context, At, Stored, Rule, called, called_with_stored, begins, goes_on, library_stores, on_entry}
use Rattle.ja_plain.specs.Verdict.{IsWarned, with_site, sites_from, AreVerdictsAt, AreVerdicts}
use Rattle.ja_plain.specs.InnerPass.{UsesWithin, top_of, locals_after, stack_after, with_flag, flags_from}
use Rattle.ja_plain.proofs.Passing.{Passing, length-locals, length-stack, uses-within}
use Rattle.ja_plain.proofs.Rounds.{least-solves, comes-by}
use Rattle.ja_plain.proofs.Greatest.{truths, leaves, bounded, quiet}

-- the instruction at a place, and what comes after it
pub found-at : (xs : List FirstInstr) (i : ℕ) (x : FirstInstr) (ys : List FirstInstr) → drop i xs ≡ x ∷ ys → slice_get xs i ≡ Some x
found-at [] zero x ys e = cc
found-at [] (suc i) x ys e = cc
found-at (z ∷ zs) zero x ys e = cc
found-at (z ∷ zs) (suc i) x ys e = found-at zs i x ys e

pub next-rest : (xs : List FirstInstr) (i : ℕ) (x : FirstInstr) (ys : List FirstInstr) → drop i xs ≡ x ∷ ys → drop (suc i) xs ≡ ys
next-rest [] zero x ys e = cc
next-rest [] (suc i) x ys e = cc
next-rest (z ∷ zs) zero x ys e = cc
next-rest (z ∷ zs) (suc i) x ys e = next-rest zs i x ys e

pub next-height : (h : ℕ) (xs : List FirstInstr) (i : ℕ) (x : FirstInstr) (ys : List FirstInstr) → drop i xs ≡ x ∷ ys → height_from h xs (suc i) ≡ height_after x.op (height_from h xs i)
next-height h [] zero x ys e = cc
next-height h [] (suc i) x ys e = cc
next-height h (z ∷ []) zero x ys e = let same : z ≡ x = cc in rw same refl
next-height h (z ∷ (w ∷ ws)) zero x ys e = let same : z ≡ x = cc in rw same refl
next-height h (z ∷ zs) (suc i) x ys e = next-height (height_after z.op h) zs i x ys e

abbrev pub nothing : Entry
nothing k = false

module _ (m : FirstMethod) where
  -- nothing is ever stored
  pub none-stored : (cell : Cell) → Least (Rule m) (Stored cell) → ⊥
  none-stored cell f = by cell (comes-by (Rule m) (Stored cell) f) where
    taken : (x : FirstInstr) (c : LibraryCall) (t : Token) → operation x.op ≡ Call c → IsTaker c c.row.effect t → ⊥
    taken x c t o i = subst (λ (e : Effect). IsTaker c e t) (quiet x.op c o) i

    by : (cell : Cell) → (premises : List Fact) × Rule m premises (Stored cell) × Each (Least (Rule m)) premises → ⊥
    by cell (ps, library_stores {c = c} {t = t} under at room i brings, all) = taken at.instr c t at.does i

  pub none-at-first : (entry : Entry) → Least (Rule m) (Context entry) → (k : ℕ) → entry k ≡ false
  none-at-first entry f = by entry (comes-by (Rule m) (Context entry) f) where
    by : (entry : Entry) → (premises : List Fact) × Rule m premises (Context entry) × Each (Least (Rule m)) premises → (k : ℕ) → entry k ≡ false
    by entry (ps, called none, all) = none
    by entry (ps, called_with_stored {cell = cell} one holds, all) = absurd (none-stored cell all.0)

  -- before an instruction the pass has the greatest of all facts, and it is a fact
  pub record Standing (i : ℕ) (locals stack : List Bool) (xs : List FirstInstr) : Type 0 where
    pub rest : drop i m.code ≡ xs
    pub height : height_from 0 m.code i ≡ length stack
    pub fact : Least (Rule m) (At i nothing (truths locals stack))
    pub most : (entry : Entry) (present : Assignment) → Least (Rule m) (At i entry present) → (y : Slot) → AtMost (present y) (truths locals stack y)

  at-instr : {i : ℕ} {locals stack : List Bool} {x : FirstInstr} {xs : List FirstInstr} → Standing i locals stack (x ∷ xs) → IsAt m i (operation x.op) (length stack)
  at-instr {i} {locals} {stack} {x} {xs} s = record { instr = x; found = found-at m.code i x xs s.rest; does = refl; finds = s.height }

  height-zero : (xs : List FirstInstr) → height_from 0 xs 0 ≡ 0
  height-zero [] = refl
  height-zero (x ∷ xs) = refl

  all-false : (n : ℕ) (y : Slot) → truths (replicate n false) [] y ≡ false
  all-false n (Local l) =
      let go : ((l < n) ⊎ (n ≤ l)) → get_or (replicate n false) l false ≡ false =
      elim [ inl h ↦ get_or-replicate n l false false h | inr h ↦ get_or_past (replicate n false) l false (omega (arith, length-replicate n false)) ] in
      go (cases_lt l n)
  all-false n (OnStack k) = refl
  all-false n Dirt = refl
  all-false n Exc = refl

  first-false : (entry : Entry) → ((k : ℕ) → entry k ≡ false) → (y : Slot) → on_entry entry y ≡ false
  first-false entry none (Local l) = none l
  first-false entry none (OnStack k) = refl
  first-false entry none Dirt = refl
  first-false entry none Exc = refl

  stands-first : Standing 0 (replicate m.locals false) [] m.code
  stands-first = record {
    rest = refl;
    height = height-zero m.code;
    fact = least-solves (Rule m) (Context nothing ∷ []) _ (begins (λ y. all-false m.locals y ∙ sym (first-false nothing (λ k. refl) y))) (least-solves (Rule m) [] _ (called (λ k. refl)) tt, tt);
    most = λ entry present f. by entry present (comes-by (Rule m) (At 0 entry present) f);
  } where
    by : (entry : Entry) (present : Assignment) → (premises : List Fact) × Rule m premises (At 0 entry present) × Each (Least (Rule m)) premises → (y : Slot) → AtMost (present y) (truths (replicate m.locals false) [] y)
    by entry present (ps, begins is, all) y h =
        let e : present y ≡ false = is y ∙ first-false entry (none-at-first entry all.0) y in
        cc

  stands-next : (i : ℕ) (locals stack : List Bool) (x : FirstInstr) (xs : List FirstInstr) → Standing i locals stack (x ∷ xs) → GoesOn (operation x.op) → pops x.op ≤ length stack → UsesWithin (length locals) x.op → Standing (suc i) (locals_after x.op locals stack) (stack_after x.op locals stack) xs
  stands-next i locals stack x xs s go p u = record {
    rest = next-rest m.code i x xs s.rest;
    height = next-height 0 m.code i x xs s.rest ∙ (ap (height_after x.op) s.height ∙ sym (length-stack x.op locals stack));
    fact = least-solves (Rule m) (At i nothing (truths locals stack) ∷ []) _ (goes_on (at-instr s) go (leaves x.op locals stack p u go)) (s.fact, tt);
    most = λ entry present f. by entry present (comes-by (Rule m) (At (suc i) entry present) f);
  } where
    by : (entry : Entry) (after : Assignment) → (premises : List Fact) × Rule m premises (At (suc i) entry after) × Each (Least (Rule m)) premises → (y : Slot) → AtMost (after y) (truths (locals_after x.op locals stack) (stack_after x.op locals stack) y)
    by entry after (ps, goes_on {height = height} {op = op} {present = present} at on a, all) y =
        let found : slice_get m.code i ≡ Some x = found-at m.code i x xs s.rest in
        let same : at.instr ≡ x = cc (found, at.found) in
        let is : operation x.op ≡ op = subst (λ (z : FirstInstr). operation z.op ≡ op) same at.does in
        let high : height ≡ length stack = sym at.finds ∙ s.height in
        let b : AfterNormal present (length stack) op y (after y) = subst (λ (n : ℕ). AfterNormal present n op y (after y)) high (a y) in
        bounded locals stack present (s.most entry present all.0) x.op op y (after y) b is p u

  lists-zero : (position : ℕ) → Contains (0 ∷ []) position → position ≡ 0
  lists-zero position (zero, inside, e) = sym e
  lists-zero position (suc k, inside, e) = absurd (omega arith)

  only-zero : (x : FirstOp) (c : LibraryCall) (position : ℕ) → x ≡ Sink → operation x ≡ Call c → Contains (listed (Call c)) position → (c.arguments ≡ 1) × (position ≡ 0)
  only-zero x c position e o l =
      let is : operation x ≡ Call sink_call = ap operation e in
      let same : sink_call ≡ c = cc in
      let P : LibraryCall → Type 0 = λ d. Contains (listed (Call d)) position in
      (ap (λ (d : LibraryCall). d.arguments) (sym same), lists-zero position (subst P (sym same) l))

  sink-verdict : (i : ℕ) (locals stack : List Bool) (x : FirstInstr) (xs : List FirstInstr) → Standing i locals stack (x ∷ xs) → x.op ≡ Sink → 1 ≤ length stack → IsTrue (top_of stack) ↔ IsWarned m i
  sink-verdict i locals stack x xs s e p = (
    λ h. record {
      call = sink_call;
      under = length stack - 1;
      calls = record { instr = x; found = found-at m.code i x xs s.rest; does = ap operation e; finds = s.height ∙ omega arith };
      position = 0;
      lists = (0, lit< tt, refl);
      entry = nothing;
      present = truths locals stack;
      fact = s.fact;
      is_tainted = top-at (length stack - 1 + 0) (omega arith) h;
    },
    λ w. (
        let found : slice_get m.code i ≡ Some x = found-at m.code i x xs s.rest in
        let same : w.calls.instr ≡ x = cc (found, w.calls.found) in
        let is : operation x.op ≡ Call w.call = subst (λ (z : FirstInstr). operation z.op ≡ Call w.call) same w.calls.does in
        let only : (w.call.arguments ≡ 1) × (w.position ≡ 0) = only-zero x.op w.call w.position e is w.lists in
        let high : w.under + w.call.arguments ≡ length stack = sym w.calls.finds ∙ s.height in
        let at : w.under + w.position ≡ length stack - 1 = omega (arith, high, only.0, only.1) in
        subst (λ (k : ℕ). get_or stack k false ≡ true) at (s.most w.entry w.present w.fact (OnStack (w.under + w.position)) w.is_tainted)),
  ) where
    top-at : (k : ℕ) → k ≡ length stack - 1 → top_of stack ≡ true → get_or stack k false ≡ true
    top-at k at h = subst (λ (j : ℕ). get_or stack j false ≡ true) (sym at) h

  verdict-one : (op : FirstOp) (i : ℕ) (places : List ℕ) (flags : List Bool) (top : Bool) → (op ≡ Sink → IsTrue top ↔ IsWarned m i) → AreVerdictsAt m places flags → AreVerdictsAt m (with_site (listed (operation op)) i places) (with_flag op top flags)
  verdict-one (FLoad n) i places flags top one rest = rest
  verdict-one (FStore n) i places flags top one rest = rest
  verdict-one FText i places flags top one rest = rest
  verdict-one FPop i places flags top one rest = rest
  verdict-one Source i places flags top one rest = rest
  verdict-one Sink i places flags top one rest = (one refl, rest)
  verdict-one FReturn i places flags top one rest = rest

  on : (op : FirstOp) → op ≢ FReturn → GoesOn (operation op)
  on (FLoad n) h = tt
  on (FStore n) h = tt
  on FText h = tt
  on FPop h = tt
  on Source h = tt
  on Sink h = tt
  on FReturn h = absurd (h refl)

  pops-sink : (op : FirstOp) → op ≡ Sink → pops op ≡ 1
  pops-sink op e = ap pops e

  verdicts-from : (limit : ℕ) (xs : List FirstInstr) (i : ℕ) (locals stack : List Bool) (set : List ℕ) → length locals ≡ m.locals → Standing i locals stack xs → RunsFrom m.locals limit (length stack) set xs → AreVerdictsAt m (sites_from i xs) (flags_from locals stack xs)
  verdicts-from limit [] i locals stack set long s r = absurd r
  verdicts-from limit (x ∷ []) i locals stack set long s r =
      verdict-one x.op i [] [] (top_of stack) (λ e. sink-verdict i locals stack x [] s e (let one : pops x.op ≡ 1 = pops-sink x.op e in omega (arith, r.1.takes))) tt
  verdicts-from limit (x ∷ (y ∷ ys)) i locals stack set long s r =
      let u : UsesWithin (length locals) x.op = subst (λ (n : ℕ). UsesWithin n x.op) (sym long) (uses-within m.locals set x.op r.1.local) in
      let next : Standing (suc i) (locals_after x.op locals stack) (stack_after x.op locals stack) (y ∷ ys) = stands-next i locals stack x (y ∷ ys) s (on x.op r.0) r.1.takes u in
      let runs : RunsFrom m.locals limit (length (stack_after x.op locals stack)) (set_after x.op set) (y ∷ ys) =
      subst (λ (n : ℕ). RunsFrom m.locals limit n (set_after x.op set) (y ∷ ys)) (sym (length-stack x.op locals stack)) r.2 in
      verdict-one x.op i (sites_from (suc i) (y ∷ ys)) _ (top_of stack) (λ e. sink-verdict i locals stack x (y ∷ ys) s e (let one : pops x.op ≡ 1 = pops-sink x.op e in omega (arith, r.1.takes)))
      (verdicts-from limit (y ∷ ys) (suc i) (locals_after x.op locals stack) (stack_after x.op locals stack) (set_after x.op set) (length-locals x.op locals stack ∙ long) next runs)

  pub verdicts : IsRunnable m → AreVerdicts m (flags_from (replicate m.locals false) [] m.code)
  verdicts r = verdicts-from m.stack m.code 0 (replicate m.locals false) [] (0 ∷ []) (length-replicate m.locals false) stands-first r.runs

-- at the end all is flagged
pub ends : (m : FirstMethod) (warned ls ss : List Bool) (xs : List FirstInstr) (i : ℕ) → length xs ≤ i → Passing (flags_from (replicate m.locals false) [] m.code) warned ls ss (drop i xs) → AreVerdicts m (flags_from (replicate m.locals false) [] m.code) → AreVerdicts m warned
ends m warned ls ss xs i past p v =
    let none : drop i xs ≡ [] = drop_of_length-le xs past in
    let shown : warned ++ flags_from ls ss [] ≡ flags_from (replicate m.locals false) [] m.code = subst (λ (ys : List FirstInstr). warned ++ flags_from ls ss ys ≡ flags_from (replicate m.locals false) [] m.code) none p.shown in
    subst (AreVerdicts m) (sym (sym (append-nil warned) ∙ shown)) v
