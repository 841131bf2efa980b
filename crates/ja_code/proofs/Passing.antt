-- What checks that pass say.
use Rattle.std.proofs.Common.{◌≡◌, ℕ, ◌≤◌, ◌<◌, Bool, true, false, not, cond, ltb, leb, eqb, List, [], ◌∷◌, length, Option, Some, None, refl, arith, slice_index}
use Rattle.std.proofs.lemmas.Bool.{ltb-false}
use Rattle.ja_code.specs.declared.form.Form.{Form}
use Rattle.ja_code.specs.declared.form.Form.TheVariants.{Increment, TableSwitch, LookupSwitch, Wide}
use Rattle.ja_code.specs.declared.fault.CodeFault.{CodeFault}
use Rattle.ja_code.specs.Number.{ret}
use Rattle.ja_code.specs.Opcode.{form_at}
use Rattle.ja_code.specs.InnerReading.{opcode_at}
use Rattle.ja_code.proofs.Rows.{has_form}
use Rattle.ja_code.specs.Faults.{Check, first_failing, has, right, unless, front_size, size_at, least_key, greatest_key, pair_count, can_widen, wide_size, operand_checks}

-- a check that passes, and those behind it
pub pass : (c : Check) (cs : List Check) → first_failing (c ∷ cs) ≡ None → (c.fails ≡ false) × (first_failing cs ≡ None)
pass c cs e = by_cases c.fails c.fault (first_failing cs) e
  where
    by_cases : (b : Bool) (f : CodeFault) (o : Option CodeFault) → cond b (Some f) o ≡ None → (b ≡ false) × (o ≡ None)
    by_cases true f o e = absurd cc
    by_cases false f o e = (refl, e)

-- the bytes that are asked for are there
pub has_there : (pc : ℕ) (bytes : List ℕ) (n : ℕ) (cs : List Check) → first_failing (has pc bytes n ∷ cs) ≡ None → n ≤ length bytes
has_there pc bytes n cs e = ltb-false _ _ (pass (has pc bytes n) cs e).0

-- what passes is there to its end
pub size_there : (form : Form) (tags dims : List ℕ) (pc : ℕ) (bytes : List ℕ) → front_size form pc ≤ length bytes
    → first_failing (operand_checks form tags dims pc bytes) ≡ None → size_at form pc bytes ≤ length bytes
unfolding size_at operand_checks
size_there TableSwitch tags dims pc bytes front e =
    has_there pc bytes (size_at TableSwitch pc bytes) []
    (pass (right pc (leb (least_key pc bytes) (greatest_key pc bytes))) (has pc bytes (size_at TableSwitch pc bytes) ∷ []) e).1
size_there LookupSwitch tags dims pc bytes front e =
    has_there pc bytes (size_at LookupSwitch pc bytes) []
    (pass (right pc (ltb (pair_count pc bytes) 2147483648)) (has pc bytes (size_at LookupSwitch pc bytes) ∷ []) e).1
size_there Wide tags dims pc bytes front e =
    let there = has pc bytes (size_at Wide pc bytes) in
    let widens = right pc (can_widen (form_at (slice_index bytes 1))) in
    let a = pass (unless pc (slice_index bytes 0) (eqb (slice_index bytes 1) ret)) (widens ∷ there ∷ []) e in
    has_there pc bytes (size_at Wide pc bytes) [] (pass widens (there ∷ []) a.1).1
size_there form tags dims pc bytes front e = front

-- what can be widened is an opcode
widened_below : (op : ℕ) (o : Option Form) → form_at op ≡ o → not (can_widen o) ≡ false → op < 202
widened_below op None e h = absurd cc
widened_below op (Some form) e h = has_form op form e

-- what passes has an opcode
pub opcode_there : (form : Form) (tags dims : List ℕ) (pc : ℕ) (bytes : List ℕ) → form_at (slice_index bytes 0) ≡ Some form
    → first_failing (operand_checks form tags dims pc bytes) ≡ None → opcode_at form bytes < 202
unfolding operand_checks
opcode_there Wide tags dims pc bytes at e =
    let there = has pc bytes (size_at Wide pc bytes) in
    let widens = right pc (can_widen (form_at (slice_index bytes 1))) in
    let a = pass (unless pc (slice_index bytes 0) (eqb (slice_index bytes 1) ret)) (widens ∷ there ∷ []) e in
    widened_below (slice_index bytes 1) (form_at (slice_index bytes 1)) refl (pass widens (there ∷ []) a.1).0
opcode_there form tags dims pc bytes at e = has_form (slice_index bytes 0) form at

-- an instruction has a byte
pub size_some : (form : Form) (pc : ℕ) (bytes : List ℕ) → 0 < size_at form pc bytes
unfolding size_at
size_some TableSwitch pc bytes = omega arith
size_some LookupSwitch pc bytes = omega arith
size_some Wide pc bytes = wide_some (form_at (slice_index bytes 1))
  where
    wide_some : (o : Option Form) → 0 < wide_size o
    wide_some (Some Increment) = omega arith
    wide_some _ = omega arith
size_some form pc bytes = omega arith
