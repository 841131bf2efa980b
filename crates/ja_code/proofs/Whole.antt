-- Each code array has exactly one answer: what it spells, or its fault.
use Rattle.std.proofs.Common.{◌≡◌, ℕ, zero, suc, ◌+◌, ◌≤◌, ◌<◌, Bool, true, not, List, [], ◌∷◌, ◌++◌, length, take, drop, Option, Some, None, Result, Ok, Err, refl, sym, ap, subst, ◌∙◌, arith, append_assoc, add-zero, zero-add}
use Rattle.std.specs.List.{list_all}
use Rattle.std.proofs.lemmas.Bool.{not-false, not_from_true, and_parts, and_from}
use Rattle.std.proofs.lemmas.List.{take-append-drop, length-append, length-take, length-drop, drop_at}
use Rattle.ja_code.specs.declared.instr.RawInstr.{RawInstr}
use Rattle.ja_code.specs.declared.handler.RawHandler.{RawHandler}
use Rattle.ja_code.specs.declared.code.Code.{Code}
use Rattle.ja_code.specs.declared.fault.CodeFault.{CodeFault}
use Rattle.ja_code.specs.declared.fault.CodeFault.TheVariants.{BadBranch, BadHandler}
use Rattle.ja_code.specs.Grammar.{IsInstr, AreInstrs, is_start, leads_to_starts, is_handler, Spells}
use Rattle.ja_code.specs.Faults.{Check, first_failing, instr_checks, branch_checks, handler_checks, IsFault}
use Rattle.ja_code.specs.InnerReading.{instr_at}
use Rattle.ja_code.proofs.Passing.{pass}
use Rattle.ja_code.proofs.Sound.{instr_is}
use Rattle.ja_code.proofs.Complete.{goes, instr_reads, instr_length}

-- the instructions behind one
abbrev with_first : RawInstr → Result (List RawInstr) CodeFault → Result (List RawInstr) CodeFault
with_first i (Ok is) = Ok (i ∷ is)
with_first i (Err f) = Err f

-- the instructions from pc on, or the first fault: found is the fault of the first one, and others are those behind it
abbrev step : Option CodeFault → RawInstr → Result (List RawInstr) CodeFault → Result (List RawInstr) CodeFault
step None i others = with_first i others
step (Some f) i others = Err f

module _ (tags dims : List ℕ) where
  walk : ℕ → ℕ → List ℕ → Result (List RawInstr) CodeFault
  walk fuel pc [] = Ok []
  walk zero pc (b ∷ bytes) = Ok []
  walk (suc fuel) pc (b ∷ bytes) =
      step (first_failing (instr_checks tags dims pc (b ∷ bytes))) (instr_at pc (b ∷ bytes))
      (walk fuel (pc + (instr_at pc (b ∷ bytes)).length) (drop (instr_at pc (b ∷ bytes)).length (b ∷ bytes)))

  walk_more : (pc : ℕ) (text : List ℕ) (i : RawInstr) → IsInstr tags dims pc text i → (rest : List ℕ) (fuel : ℕ)
      → walk (suc fuel) pc (text ++ rest) ≡ with_first i (walk fuel (pc + length text) rest)
  unfolding walk
  walk_more pc [] i one rest fuel = absurd (omega (arith, (instr_length tags dims pc [] i one).1))
  walk_more pc (t ∷ ts) i one rest fuel =
      let r = instr_reads tags dims pc (t ∷ ts) i one rest in
      let l : length (t ∷ ts) ≡ i.length = (instr_length tags dims pc (t ∷ ts) i one).0 in
      let others : drop i.length ((t ∷ ts) ++ rest) ≡ rest = drop_at (t ∷ ts) rest i.length l in
      rw (r.passes, r.value) (ap (λ (k : ℕ). with_first i (walk fuel (pc + k) (drop i.length ((t ∷ ts) ++ rest)))) (sym l)
      ∙ ap (λ (bs : List ℕ). with_first i (walk fuel (pc + length (t ∷ ts)) bs)) others)

  spells_walk : (pc : ℕ) (bytes : List ℕ) (is : List RawInstr) → AreInstrs tags dims pc bytes is → (fuel : ℕ) → length bytes ≤ fuel → walk fuel pc bytes ≡ Ok is
  unfolding walk
  spells_walk pc bytes is AreInstrs.none fuel enough = refl
  spells_walk pc bytes is (AreInstrs.next text rest {i} {is = others} one more) zero enough =
      absurd (omega (arith, length-append text rest, (instr_length tags dims pc text i one).1))
  spells_walk pc bytes is (AreInstrs.next text rest {i} {is = others} one more) (suc fuel) enough =
      let less : length rest ≤ fuel = omega (arith, length-append text rest, (instr_length tags dims pc text i one).1) in
      walk_more pc text i one rest fuel ∙ ap (with_first i) (spells_walk (pc + length text) rest others more fuel less)

  stops_walk : (pc : ℕ) (before : List ℕ) (is : List RawInstr) → AreInstrs tags dims pc before is → (bytes : List ℕ) (f : CodeFault) → 0 < length bytes
      → first_failing (instr_checks tags dims (pc + length before) bytes) ≡ Some f → (fuel : ℕ) → length (before ++ bytes) ≤ fuel
      → walk fuel pc (before ++ bytes) ≡ Err f
  unfolding walk
  stops_walk pc before is AreInstrs.none [] f some fails fuel enough = absurd (omega arith)
  stops_walk pc before is AreInstrs.none (b ∷ bytes) f some fails zero enough = absurd (omega arith)
  stops_walk pc before is AreInstrs.none (b ∷ bytes) f some fails (suc fuel) enough =
      let here : first_failing (instr_checks tags dims pc (b ∷ bytes)) ≡ Some f = rw add-zero at fails in
      rw here refl
  stops_walk pc before is (AreInstrs.next text rest {i} {is = others} one more) bytes f some fails zero enough =
      absurd (omega (arith, length-append (text ++ rest) bytes, length-append text rest, (instr_length tags dims pc text i one).1))
  stops_walk pc before is (AreInstrs.next text rest {i} {is = others} one more) bytes f some fails (suc fuel) enough =
      let place : pc + length (text ++ rest) ≡ pc + length text + length rest = omega (arith, length-append text rest) in
      let less : length (rest ++ bytes) ≤ fuel = omega (arith, length-append (text ++ rest) bytes, length-append rest bytes, length-append text rest, (instr_length tags dims pc text i one).1) in
      let there : first_failing (instr_checks tags dims (pc + length text + length rest) bytes) ≡ Some f = rw place at fails in
      ap (walk (suc fuel) pc) (append_assoc text rest bytes) ∙ walk_more pc text i one (rest ++ bytes) fuel
      ∙ ap (with_first i) (stops_walk (pc + length text) rest others more bytes f some there fuel less)

  -- the bytes are spelled up to an instruction whose first failing check has this fault
  record Stops (pc : ℕ) (bytes : List ℕ) (fault : CodeFault) : Type 0 where
    before : List ℕ
    rest : List ℕ
    instrs : List RawInstr
    parts : bytes ≡ before ++ rest
    some : 0 < length rest
    spelled : AreInstrs tags dims pc before instrs
    fails : first_failing (instr_checks tags dims (pc + length before) rest) ≡ Some fault

  abbrev Walked : ℕ → List ℕ → Result (List RawInstr) CodeFault → Type 0
  Walked pc bytes (Ok is) = AreInstrs tags dims pc bytes is
  Walked pc bytes (Err f) = Stops pc bytes f

  -- an instruction that passes, and those behind it
  onward : (pc : ℕ) (bytes : List ℕ) (before : List ℕ) (is : List RawInstr) → first_failing (instr_checks tags dims pc bytes) ≡ None
      → AreInstrs tags dims (pc + (instr_at pc bytes).length) before is
      → AreInstrs tags dims pc (take (instr_at pc bytes).length bytes ++ before) (instr_at pc bytes ∷ is)
  onward pc bytes before is e more =
      let one = instr_is tags dims pc bytes e in
      let n : ℕ = (instr_at pc bytes).length in
      let len : length (take n bytes) ≡ n = omega (arith, length-take n bytes, one.1) in
      AreInstrs.next (take n bytes) before one.0 (subst (λ (k : ℕ). AreInstrs tags dims (pc + k) before is) (sym len) more)

  walked_step : (pc : ℕ) (bytes : List ℕ) (w : Result (List RawInstr) CodeFault) → first_failing (instr_checks tags dims pc bytes) ≡ None
      → Walked (pc + (instr_at pc bytes).length) (drop (instr_at pc bytes).length bytes) w
      → Walked pc bytes (with_first (instr_at pc bytes) w)
  walked_step pc bytes (Ok is) e others =
      let n : ℕ = (instr_at pc bytes).length in
      subst (λ (bs : List ℕ). AreInstrs tags dims pc bs (instr_at pc bytes ∷ is)) (take-append-drop n bytes) (onward pc bytes (drop n bytes) is e others)
  walked_step pc bytes (Err f) e others =
      let n : ℕ = (instr_at pc bytes).length in
      let fits : n ≤ length bytes = (instr_is tags dims pc bytes e).1 in
      let place : pc + n + length others.before ≡ pc + length (take n bytes ++ others.before) =
      omega (arith, length-append (take n bytes) others.before, length-take n bytes) in
      record {
        before = take n bytes ++ others.before;
        rest = others.rest;
        instrs = instr_at pc bytes ∷ others.instrs;
        parts = sym (take-append-drop n bytes) ∙ ap (λ (bs : List ℕ). take n bytes ++ bs) others.parts ∙ sym (append_assoc (take n bytes) others.before others.rest);
        some = others.some;
        spelled = onward pc bytes others.before others.instrs e others.spelled;
        fails = subst (λ (k : ℕ). first_failing (instr_checks tags dims k others.rest) ≡ Some f) place others.fails;
      }

  walked_some : (fuel pc : ℕ) (bytes : List ℕ) → 0 < length bytes → length bytes ≤ suc fuel
      → ((place : ℕ) (rest : List ℕ) → length rest ≤ fuel → Walked place rest (walk fuel place rest))
      → (o : Option CodeFault) → first_failing (instr_checks tags dims pc bytes) ≡ o
      → Walked pc bytes (step o (instr_at pc bytes) (walk fuel (pc + (instr_at pc bytes).length) (drop (instr_at pc bytes).length bytes)))
  walked_some fuel pc bytes some enough others None e =
      let n : ℕ = (instr_at pc bytes).length in
      let one = instr_is tags dims pc bytes e in
      let less : length (drop n bytes) ≤ fuel = omega (arith, length-drop n bytes, one.2) in
      walked_step pc bytes (walk fuel (pc + n) (drop n bytes)) e (others (pc + n) (drop n bytes) less)
  walked_some fuel pc bytes some enough others (Some f) e =
      record { before = []; rest = bytes; instrs = []; parts = refl; some = some; spelled = AreInstrs.none; fails = rw add-zero e }

  walked : (fuel pc : ℕ) (bytes : List ℕ) → length bytes ≤ fuel → Walked pc bytes (walk fuel pc bytes)
  unfolding walk
  walked fuel pc [] enough = AreInstrs.none
  walked zero pc (b ∷ bytes) enough = absurd (omega arith)
  walked (suc fuel) pc (b ∷ bytes) enough =
      walked_some fuel pc (b ∷ bytes) (omega arith) enough (walked fuel) (first_failing (instr_checks tags dims pc (b ∷ bytes))) refl

-- ---- branches and exception tables

branches_pass : (starts : ℕ → Bool) (is : List RawInstr) (cs : List Check) → list_all (leads_to_starts starts) is ≡ true → first_failing cs ≡ None
    → first_failing (branch_checks starts is ++ cs) ≡ None
branches_pass starts [] cs e more = more
branches_pass starts (i ∷ is) cs e more =
    let a = and_parts (leads_to_starts starts i) (list_all (leads_to_starts starts) is) e in
    goes (record { fails = not (leads_to_starts starts i); fault = BadBranch i.pc }) (branch_checks starts is ++ cs) (not_from_true _ a.0) (branches_pass starts is cs a.1 more)

pub branches_hold : (starts : ℕ → Bool) (is : List RawInstr) (cs : List Check) → first_failing (branch_checks starts is ++ cs) ≡ None
    → (list_all (leads_to_starts starts) is ≡ true) × (first_failing cs ≡ None)
branches_hold starts [] cs e = (refl, e)
branches_hold starts (i ∷ is) cs e =
    let a = pass (record { fails = not (leads_to_starts starts i); fault = BadBranch i.pc }) (branch_checks starts is ++ cs) e in
    let b = branches_hold starts is cs a.1 in
    (and_from _ _ (not-false _ a.0) b.0, b.1)

handlers_pass : (tags : List ℕ) (starts : ℕ → Bool) (size number : ℕ) (rows : List RawHandler) → list_all (is_handler tags starts size) rows ≡ true
    → first_failing (handler_checks tags starts size number rows) ≡ None
handlers_pass tags starts size number [] e = refl
handlers_pass tags starts size number (row ∷ rows) e =
    let a = and_parts (is_handler tags starts size row) (list_all (is_handler tags starts size) rows) e in
    goes (record { fails = not (is_handler tags starts size row); fault = BadHandler number }) (handler_checks tags starts size (number + 1) rows)
    (not_from_true _ a.0) (handlers_pass tags starts size (number + 1) rows a.1)

pub handlers_hold : (tags : List ℕ) (starts : ℕ → Bool) (size number : ℕ) (rows : List RawHandler) → first_failing (handler_checks tags starts size number rows) ≡ None
    → list_all (is_handler tags starts size) rows ≡ true
handlers_hold tags starts size number [] e = refl
handlers_hold tags starts size number (row ∷ rows) e =
    let a = pass (record { fails = not (is_handler tags starts size row); fault = BadHandler number }) (handler_checks tags starts size (number + 1) rows) e in
    and_from _ _ (not-false _ a.0) (handlers_hold tags starts size (number + 1) rows a.1)

-- ---- the one answer

module _ (code tags dims : List ℕ) (rows : List RawHandler) where
  abbrev later : List RawInstr → List Check
  later is = branch_checks (is_start is) is ++ handler_checks tags (is_start is) (length code) 0 rows

  abbrev finish : List RawInstr → Option CodeFault → Result Code CodeFault
  finish is None = Ok (record { instrs = is; handlers = rows })
  finish is (Some f) = Err f

  abbrev conclude : Result (List RawInstr) CodeFault → Result Code CodeFault
  conclude (Ok is) = finish is (first_failing (later is))
  conclude (Err f) = Err f

  pub answer : Result Code CodeFault
  answer = conclude (walk tags dims (length code) 0 code)

  pub answer_spelled : (c : Code) → Spells code tags dims rows c → answer ≡ Ok c
  unfolding answer
  answer_spelled c s =
      let w : walk tags dims (length code) 0 code ≡ Ok c.instrs = spells_walk tags dims 0 code c.instrs s.instrs (length code) (omega arith) in
      let l : first_failing (later c.instrs) ≡ None =
      branches_pass (is_start c.instrs) c.instrs (handler_checks tags (is_start c.instrs) (length code) 0 rows) s.branches (handlers_pass tags (is_start c.instrs) (length code) 0 rows s.handlers) in
      ap conclude w ∙ ap (finish c.instrs) l ∙ ap (λ (hs : List RawHandler). Ok (record { instrs = c.instrs; handlers = hs })) (sym s.same_rows)

  pub answer_fault : (f : CodeFault) → IsFault code tags dims rows f → answer ≡ Err f
  unfolding answer
  answer_fault f (IsFault.in_instr before bytes instrs parts some spelled fails) =
      let w : walk tags dims (length code) 0 (before ++ bytes) ≡ Err f =
      stops_walk tags dims 0 before instrs spelled bytes f some (rw zero-add fails) (length code) (omega (arith, ap length parts)) in
      ap conclude (ap (walk tags dims (length code) 0) parts ∙ w)
  answer_fault f (IsFault.behind instrs spelled fails) =
      let w : walk tags dims (length code) 0 code ≡ Ok instrs = spells_walk tags dims 0 code instrs spelled (length code) (omega arith) in
      ap conclude w ∙ ap (finish instrs) fails

  -- the answer is what the code spells, or its fault
  abbrev pub Due : Result Code CodeFault → Type 0
  Due (Ok c) = Spells code tags dims rows c
  Due (Err f) = IsFault code tags dims rows f

  pub due : Due answer
  unfolding answer
  due = concluded (walk tags dims (length code) 0 code) (walked tags dims (length code) 0 code (omega arith))
    where
      finished : (is : List RawInstr) → AreInstrs tags dims 0 code is → (o : Option CodeFault) → first_failing (later is) ≡ o → Due (finish is o)
      finished is spelled None e =
          let a = branches_hold (is_start is) is (handler_checks tags (is_start is) (length code) 0 rows) e in
          record { instrs = spelled; branches = a.0; handlers = handlers_hold tags (is_start is) (length code) 0 rows a.1; same_rows = refl }
      finished is spelled (Some f) e = IsFault.behind is spelled e

      concluded : (w : Result (List RawInstr) CodeFault) → Walked tags dims 0 code w → Due (conclude w)
      concluded (Ok is) spelled = finished is spelled (first_failing (later is)) refl
      concluded (Err f) stops = IsFault.in_instr stops.before stops.rest stops.instrs stops.parts stops.some stops.spelled (rw zero-add at stops.fails)
