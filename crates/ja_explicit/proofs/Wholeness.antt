-- What whole programs keep, where a method or an instruction was found.
use Rattle.std.proofs.Common.{◌≡◌, ℕ, zero, suc, ◌+◌, ◌<◌, ◌≤◌, ◌^◌, true, false, Some, List, length, get_or, refl, sym, ap, subst, ◌∙◌, arith}
use Rattle.std.specs.Prelude.{All, Contains, slice_get}
use Rattle.std.proofs.lemmas.Option.{get_or_from_slice_get, slice_get_within}
use Rattle.std.proofs.lemmas.List.Sums.{get_or-le-sum_by}
use Rattle.std.proofs.lemmas.List.Elements.{All-contains}
use Rattle.ja_ir.specs.declared.program.Parts.{Parts}
use Rattle.ja_ir.specs.declared.method.Method.{Method}
use Rattle.ja_ir.specs.declared.method.Instr.{Instr}
use Rattle.ja_ir.specs.declared.method.Handler.{Handler}
use Rattle.ja_ir.specs.Lookup.{HasCode}
use Rattle.ja_ir.specs.Handlers.{in_range}
use Rattle.ja_ir.specs.Operations.{height_after, ends_method}
use Rattle.ja_ir.specs.Whole.{IsWhole, Runs, Starts, IsReachedAt, NamesAll}

-- what all items of a list have, the one at a place has
pub all_at : {A : Type 0} (P : A → Type 0) (xs : List A) (k : ℕ) (x : A) → All P xs → slice_get xs k ≡ Some x → P x
all_at P xs k x all e = subst P (get_or_from_slice_get xs k x x e) (all k x (slice_get_within xs k x e))

module _ (p : Parts) (whole : IsWhole p) (m : ℕ) (method : Method) (found : slice_get p.methods m ≡ Some method) where
  pub code_small : length method.code ≤ 2 ^ 26
  code_small =
      let there : m < length p.methods = slice_get_within p.methods m method found in
      let one = get_or-le-sum_by (λ (x : Method). length x.code) p.methods m method there in
      let same : get_or p.methods m method ≡ method = get_or_from_slice_get p.methods m method method found in
      let count : length (get_or p.methods m method).code ≡ length method.code = ap (λ (x : Method). length x.code) same in
      let few = whole.small.instructions in
      omega (arith, one, count, few)

  pub starts_there : HasCode method → Starts method
  starts_there = all_at (λ (x : Method). HasCode x → Starts x) p.methods m method whole.starts found

  pub names_there : (i : ℕ) (instr : Instr) → slice_get method.code i ≡ Some instr → NamesAll p (length method.code) instr
  names_there i instr e =
      all_at (NamesAll p (length method.code)) method.code i instr
      (all_at (λ (x : Method). All (NamesAll p (length x.code)) x.code) p.methods m method whole.instructions found) e

  module _ (i : ℕ) (instr : Instr) (at : slice_get method.code i ≡ Some instr) (reached : instr.reached ≡ true) where
    pub runs_there : Runs method i instr
    runs_there = all_at (λ (x : Method). (j : ℕ) (other : Instr) → slice_get x.code j ≡ Some other → other.reached ≡ true → Runs x j other) p.methods m method whole.runs found i instr at reached

    pub next_there : (j : ℕ) → Contains instr.next j → IsReachedAt method j (height_after instr.op instr.height)
    next_there j h = All-contains (λ k. IsReachedAt method k (height_after instr.op instr.height)) instr.next j runs_there.next h

    pub handler_there : (handler : Handler) → Contains method.handlers handler → in_range handler i ≡ true → IsReachedAt method handler.target 1
    handler_there handler h = All-contains (λ (x : Handler). in_range x i ≡ true → IsReachedAt method x.target 1) method.handlers handler runs_there.handlers h
