-- The checks behind the decoding, and the answer of the whole.
use Rattle.std.proofs.Common.{◌≡◌, ℕ, Bool, true, false, cond, List, [], ◌∷◌, ◌++◌, length, Option, Some, None, Result, Ok, Err, refl, sym, ap, subst, ◌∙◌, inl, inr, ◌⊎◌}
use Rattle.std.specs.Prelude.{IfOk, IfErr}
use Rattle.ja_code.specs.declared.instr.RawInstr.{RawInstr}
use Rattle.ja_code.specs.declared.handler.RawHandler.{RawHandler}
use Rattle.ja_code.specs.declared.code.Code.{Code}
use Rattle.ja_code.specs.declared.fault.CodeFault.{CodeFault}
use Rattle.ja_code.specs.declared.fault.CodeFault.TheVariants.{BadOpcode, RefusedOpcode, CodeEnd, BadOperand, BadBranch, BadHandler, Memory}
use Rattle.ja_code.specs.Grammar.{AreInstrs, is_start, Spells}
use Rattle.ja_code.specs.Faults.{Check, first_failing, branch_checks, handler_checks, IsFault, IsCause, Answers}
use Rattle.ja_code.specs.InnerReading.{marked, Fails}
use Rattle.ja_code.proofs.Passing.{pass}
use Rattle.ja_code.proofs.Whole.{branches_hold, handlers_hold, answer, answer_spelled, answer_fault, Due, due}
use Rattle.ja_code.proofs.Decoding.{cause_from}

-- the first failing check of two lists
first_of_both : (a b : List Check) (f : CodeFault) → first_failing a ≡ Some f → first_failing (a ++ b) ≡ Some f
first_of_both [] b f e = absurd cc
first_of_both (c ∷ cs) b f e = by_cases c.fails c.fault (first_failing cs) (first_failing (cs ++ b)) e (first_of_both cs b f)
  where
    by_cases : (t : Bool) (g : CodeFault) (o p : Option CodeFault) → cond t (Some g) o ≡ Some f → (o ≡ Some f → p ≡ Some f) → cond t (Some g) p ≡ Some f
    by_cases true g o p e h = e
    by_cases false g o p e h = h e

second_of_both : (a b : List Check) → first_failing a ≡ None → first_failing (a ++ b) ≡ first_failing b
second_of_both [] b e = refl
second_of_both (c ∷ cs) b e =
    let p = pass c cs e in
    ap (λ (t : Bool). cond t (Some c.fault) (first_failing (cs ++ b))) p.0 ∙ second_of_both cs b p.1

module _ (code tags dims : List ℕ) (rows : List RawHandler) (is : List RawInstr) (spelled : AreInstrs tags dims 0 code is)
    (starts : List Bool) (marks : (place : ℕ) → marked starts place ≡ is_start is place) (size : length starts ≡ length code) where
  same : marked starts ≡ is_start is
  same = λ i place. marks place i

  pub branch_cause : (e : CodeFault) → Fails e (first_failing (branch_checks (marked starts) is)) → IsCause code tags dims rows e
  branch_cause e fails =
      cause_from code tags dims rows (first_failing (branch_checks (marked starts) is)) e
      (λ fault found. IsFault.behind is spelled (first_of_both (branch_checks (is_start is) is) (handler_checks tags (is_start is) (length code) 0 rows) fault
      (subst (λ (s : ℕ → Bool). first_failing (branch_checks s is) ≡ Some fault) same found)))
      fails

  pub handler_cause : (e : CodeFault) → first_failing (branch_checks (marked starts) is) ≡ None
      → Fails e (first_failing (handler_checks tags (marked starts) (length starts) 0 rows)) → IsCause code tags dims rows e
  handler_cause e pass fails =
      cause_from code tags dims rows (first_failing (handler_checks tags (marked starts) (length starts) 0 rows)) e
      (λ fault found. IsFault.behind is spelled
      (second_of_both (branch_checks (is_start is) is) (handler_checks tags (is_start is) (length code) 0 rows)
      (subst (λ (s : ℕ → Bool). first_failing (branch_checks s is) ≡ None) same pass)
      ∙ subst (λ (s : ℕ → Bool). first_failing (handler_checks tags s (length code) 0 rows) ≡ Some fault) same
      (subst (λ (n : ℕ). first_failing (handler_checks tags (marked starts) n 0 rows) ≡ Some fault) size found)))
      fails

  pub whole : (handlers : List RawHandler) → handlers ≡ rows → first_failing (branch_checks (marked starts) is) ≡ None
      → first_failing (handler_checks tags (marked starts) (length starts) 0 rows) ≡ None
      → Spells code tags dims rows (record { instrs = is; handlers = handlers })
  whole handlers e branches_pass handlers_pass =
      let a : first_failing (branch_checks (is_start is) is ++ []) ≡ None = second_of_both (branch_checks (is_start is) is) [] (subst (λ (s : ℕ → Bool). first_failing (branch_checks s is) ≡ None) same branches_pass) in
      record {
        instrs = spelled;
        branches = (branches_hold (is_start is) is [] a).0;
        handlers = handlers_hold tags (is_start is) (length code) 0 rows
            (subst (λ (s : ℕ → Bool). first_failing (handler_checks tags s (length code) 0 rows) ≡ None) same
            (subst (λ (n : ℕ). first_failing (handler_checks tags (marked starts) n 0 rows) ≡ None) size handlers_pass));
        same_rows = e;
      }

-- ---- what is found and what causes an error settle the answer

module _ (code tags dims : List ℕ) (rows : List RawHandler) where
  settled : (result : Result Code CodeFault) → IfOk result (Spells code tags dims rows) → IfErr result (IsCause code tags dims rows) → Answers result (answer code tags dims rows)
  settled (Ok c) found cause = sym (answer_spelled code tags dims rows c found)
  settled (Err Memory) found cause = tt
  settled (Err (BadOpcode pc op)) found cause = sym (answer_fault code tags dims rows (BadOpcode pc op) cause)
  settled (Err (RefusedOpcode pc op)) found cause = sym (answer_fault code tags dims rows (RefusedOpcode pc op) cause)
  settled (Err (CodeEnd pc)) found cause = sym (answer_fault code tags dims rows (CodeEnd pc) cause)
  settled (Err (BadOperand pc)) found cause = sym (answer_fault code tags dims rows (BadOperand pc) cause)
  settled (Err (BadBranch pc)) found cause = sym (answer_fault code tags dims rows (BadBranch pc) cause)
  settled (Err (BadHandler n)) found cause = sym (answer_fault code tags dims rows (BadHandler n) cause)

  pub only_spelled : (result : Result Code CodeFault) → IfOk result (Spells code tags dims rows) → IfErr result (IsCause code tags dims rows)
      → (c : Code) → Spells code tags dims rows c → Answers result (Ok c)
  only_spelled result found cause c s =
      subst (λ (due : Result Code CodeFault). Answers result due) (answer_spelled code tags dims rows c s) (settled result found cause)

  pub only_fault : (result : Result Code CodeFault) → IfOk result (Spells code tags dims rows) → IfErr result (IsCause code tags dims rows)
      → (fault : CodeFault) → IsFault code tags dims rows fault → Answers result (Err fault)
  only_fault result found cause fault f =
      subst (λ (due : Result Code CodeFault). Answers result due) (answer_fault code tags dims rows fault f) (settled result found cause)

-- ---- one answer

pub either_spelled : (code tags dims : List ℕ) (rows : List RawHandler) → ((c : Code) × Spells code tags dims rows c) ⊎ ((fault : CodeFault) × IsFault code tags dims rows fault)
either_spelled code tags dims rows = by_answer (answer code tags dims rows) (due code tags dims rows)
  where
    by_answer : (a : Result Code CodeFault) → Due code tags dims rows a → ((c : Code) × Spells code tags dims rows c) ⊎ ((fault : CodeFault) × IsFault code tags dims rows fault)
    by_answer (Ok c) d = inl (c, d)
    by_answer (Err f) d = inr (f, d)

pub not_both : (code tags dims : List ℕ) (rows : List RawHandler) (c : Code) (fault : CodeFault) → Spells code tags dims rows c → IsFault code tags dims rows fault → ⊥
not_both code tags dims rows c fault s f =
    let a = answer_spelled code tags dims rows c s in
    let b = answer_fault code tags dims rows fault f in
    cc

pub one_meaning : (code tags dims : List ℕ) (rows : List RawHandler) (c d : Code) → Spells code tags dims rows c → Spells code tags dims rows d → c ≡ d
one_meaning code tags dims rows c d s t =
    let a = answer_spelled code tags dims rows c s in
    let b = answer_spelled code tags dims rows d t in
    cc

pub one_fault : (code tags dims : List ℕ) (rows : List RawHandler) (fault other : CodeFault) → IsFault code tags dims rows fault → IsFault code tags dims rows other → fault ≡ other
one_fault code tags dims rows fault other f g =
    let a = answer_fault code tags dims rows fault f in
    let b = answer_fault code tags dims rows other g in
    cc
