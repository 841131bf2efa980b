-- Sets of joins grow, and what they say of the ways to an instruction.
use Rattle.std.proofs.Common.{◌≡◌, inl, inr, ℕ, zero, suc, ◌+◌, ◌<◌, Bool, true, List, [], ◌∷◌, Some, length, get_or, set, refl, sym, ap, subst, ◌∙◌, arith}
use Rattle.std.specs.Prelude.{◌==◌, Contains, slice_get, slice_index}
use Rattle.std.specs.List.{list_any}
use Rattle.std.proofs.lemmas.Bool.{cases_lt, or_cases}
use Rattle.std.proofs.lemmas.Bool.Decides.{nat_tests}
use Rattle.std.proofs.lemmas.Option.{slice_get_within, get_or_from_slice_get, slice_get-get_or}
use Rattle.ja_sets.specs.Sets.{Has}
use Rattle.ja_ir.specs.declared.program.Parts.{Parts}
use Rattle.ja_ir.specs.declared.method.Method.{Method}
use Rattle.ja_ir.specs.declared.method.Instr.{Instr}
use Rattle.ja_ir.specs.declared.method.Handler.{Handler}
use Rattle.ja_ir.specs.Lookup.{code_of, instr_at}
use Rattle.ja_cells.specs.Joins.{HasJumps, HasAllJumps, Keeps, AreJoins, GoesOn}
use Rattle.ja_cells.specs.Names.{IsOnlyWay}

-- a number that was there is there after another one was added
pub set_keeps : (flags : List Bool) (at x : ℕ) → Has flags x → Has (set flags at true) x
set_keeps [] at x has = has
set_keeps (flag ∷ flags) zero zero has = refl
set_keeps (flag ∷ flags) zero (suc x) has = has
set_keeps (flag ∷ flags) (suc at) zero has = has
set_keeps (flag ∷ flags) (suc at) (suc x) has = set_keeps flags at x has

-- the number that is added is there
pub set_marks : (flags : List Bool) (at : ℕ) → at < length flags → Has (set flags at true) at
set_marks [] at lt = absurd (omega arith)
set_marks (flag ∷ flags) zero lt = refl
set_marks (flag ∷ flags) (suc at) lt = set_marks flags at (omega arith)

-- what was kept twice
pub keeps-twice : (a b c : List Bool) → Keeps a b → Keeps b c → Keeps a c
keeps-twice a b c first second = record { size = second.size ∙ first.size; has = λ x h. second.has x (first.has x h) }

pub keeps-all : (a : List Bool) → Keeps a a
keeps-all a = record { size = refl; has = λ x h. h }

-- of a method's instructions and handlers
pub later-jumps : (a b : List Bool) (code : List Instr) (count : ℕ) → Keeps a b → HasAllJumps a code count → HasAllJumps b code count
later-jumps a b code count keeps jumps i instr lt found k inside away = keeps.has (slice_index instr.next k) (jumps i instr lt found k inside away)

-- the jumps of one more instruction
pub more-jumps : (a b : List Bool) (code : List Instr) (i : ℕ) (instr : Instr) → Keeps a b → HasAllJumps a code i → slice_get code i ≡ Some instr → HasJumps b i instr.next → HasAllJumps b code (i + 1)
more-jumps a b code i instr keeps before found here j other lt at = elim (cases_lt j i) [
  | inl less ↦ later-jumps a b code i keeps before j other less at
  | inr past ↦
      let same : j ≡ i = omega arith in
      let is : instr ≡ other = cc in
      subst (λ (x : ℕ). HasJumps b x other.next) (sym same) (subst (λ (x : Instr). HasJumps b i x.next) is here)
]

same-number : (x y : ℕ) → (x == y) ≡ true → x ≡ y
same-number x y e = grind (arith, nat_tests)

-- what a search among numbers finds
pub found-there : (xs : List ℕ) (x : ℕ) → list_any (λ y. y == x) xs ≡ true → Contains xs x
found-there [] x e = absurd (cc e)
found-there (y ∷ ys) x e = elim (or_cases (y == x) (list_any (λ z. z == x) ys) e) [
  | inl here ↦ (zero, omega arith, same-number y x here)
  | inr later ↦ let there = found-there ys x later in (suc there.0, omega (arith, there.1), later-same ys x y there)
]
  where
    later-same : (ys : List ℕ) (x y : ℕ) (there : Contains ys x) → get_or (y ∷ ys) (suc there.0) x ≡ x
    later-same ys x y there = there.2

-- an instruction that goes on to one that is no join is the only way to it
pub only_way : (p : Parts) (m : ℕ) (method : Method) (set : List Bool) (i j : ℕ) (before : Instr) → slice_get p.methods m ≡ Some method → AreJoins method set
    → slice_get method.code i ≡ Some before → suc i ≡ j → GoesOn before set j → IsOnlyWay p m method i j
only_way p m method set i j before found joins at next goes =
    let in_code : (k : ℕ) → instr_at p m k ≡ slice_get method.code k = λ k. ap (λ o. slice_get (code_of o) k) found in
    record {
      leads = record { instr = before; found = in_code i ∙ at; listed = goes.listed };
      only = λ k way. only k way.instr (sym (in_code k) ∙ way.found) way.listed;
      unhandled = λ handler there same. handled handler there same;
    }
  where
    clash : Has set j → ⊥
    clash has = absurd (cc (has, goes.single))

    only : (k : ℕ) (instr : Instr) → slice_get method.code k ≡ Some instr → Contains instr.next j → k ≡ i
    only k instr here listed =
        let inside : k < length method.code = slice_get_within method.code k instr here in
        let away : (k < i → ⊥) = λ lt. apart (omega arith) in
        let beyond : (i < k → ⊥) = λ lt. apart (omega arith) in
        elim (cases_lt k i) [
          | inl less ↦ absurd (away less)
          | inr not_less ↦ elim (cases_lt i k) [ inl more ↦ absurd (beyond more) | inr not_more ↦ omega arith ]
        ]
      where
        at-j : slice_index instr.next listed.0 ≡ j
        at-j = get_or_from_slice_get instr.next listed.0 j 0 (slice_get-get_or instr.next listed.0 j listed.1 ∙ ap Some listed.2)

        apart : (j ≡ k + 1 → ⊥) → ⊥
        apart ne = clash (subst (λ (x : ℕ). Has set x) at-j (joins.jumps k instr (slice_get_within method.code k instr here) here listed.0 listed.1 (λ e. ne (sym at-j ∙ e))))

    handled : (handler : Handler) → Contains method.handlers handler → handler.target ≡ j → ⊥
    handled handler there same =
        let at_there = slice_get-get_or method.handlers there.0 handler there.1 ∙ ap Some there.2 in
        clash (subst (λ (x : ℕ). Has set x) same (joins.targets there.0 handler at_there))
