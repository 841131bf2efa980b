use Rattle.std.proofs.Common.{◌≡◌, ◌⊎◌, ◌≤◌, List, length, sym, ap, subst}
use Rattle.std.specs.Prelude.{All}
use Rattle.std.specs.List.Sorted.{IsNonDecreasingBy}
use Rattle.std.proofs.lemmas.Result.{err_from_is_err_and}
use Rattle.ja_pool.specs.Table.{Table}
use Rattle.ja_code.specs.declared.instr.RawInstr.{RawInstr}
use Rattle.ja_code.specs.declared.handler.RawHandler.{RawHandler}
use Rattle.ja_class.specs.Meaning.{ClassSpelled}
use Rattle.ja_class.specs.ClassFile.{IsSpelled}
use Rattle.ja_operations.specs.Profile.{IsProfiled}
use Rattle.ja_methods.specs.declared.fault.MethodFault.TheVariants as faults
use Rattle.ja_methods.specs.Handlers.{NamesCaught}
use Rattle.ja_methods.specs.Method.{IsCodeOf}
use Rattle.ja_methods.specs.Refusal.{IsFirstRefusal}
use Rattle.ja_methods.proofs.Profile.{decoded, rows-caught}
use Rattle.ja_methods.proofs.InstrSteps.{all-one}
use Rattle.ja_methods.proofs.Heights.{kinds-low}
use Rattle.ja_methods.proofs.Coded.{code-ordered, code-few, kinds-refused, instr-refused}
use Rattle.ja_methods.proofs.method.coded.Goals as goal

pub returns-in-Err-clause-refused : goal.returns-in-Err-clause-refused
returns-in-Err-clause-refused c = kinds-refused c.args.hier.now c.args.class.now c.args.c.0 c.args.m c.in-Err.fault c.kind_refusal.result c.kind_refusal.ensures c.in-Err.ensures.fault

pub instrs_of-requires-clause-order : goal.instrs_of-requires-clause-order
instrs_of-requires-clause-order c =
    let inside : ClassSpelled = record { head = c.class.inside.head; pool = c.class.inside.pool; methods = c.class.inside.methods } in
    let is : IsCodeOf inside c.args.m c.args.code.now = subst (λ (x : ClassSpelled). IsCodeOf x c.args.m c.args.code.now) (sym c.class.view_is) c.requires.code in
    subst (λ (list : List RawInstr). IsNonDecreasingBy (λ (i : RawInstr). i.pc) list) (sym c.as_slice-instrs.ensures)
    (code-ordered inside.pool c.args.code.now (decoded inside c.class.invariant c.args.m c.args.code.now is))

pub instrs_of-requires-clause-profiled : goal.instrs_of-requires-clause-profiled
instrs_of-requires-clause-profiled c =
    let inside : ClassSpelled = record { head = c.class.inside.head; pool = c.class.inside.pool; methods = c.class.inside.methods } in
    let is : IsCodeOf inside c.args.m c.args.code.now = subst (λ (x : ClassSpelled). IsCodeOf x c.args.m c.args.code.now) (sym c.class.view_is) c.requires.code in
    subst (λ (list : List RawInstr). All (IsProfiled inside.pool) list) (sym c.as_slice-instrs.ensures)
    (all-one (IsProfiled inside.pool) c.args.code.now.instrs
    (λ i there. c.law_each_is_profiled.ensures inside c.class.invariant c.args.m is.body c.args.code.now is.body_at is.code_is i there))

pub instrs_of-requires-clause-few : goal.instrs_of-requires-clause-few
instrs_of-requires-clause-few c =
    let inside : ClassSpelled = record { head = c.class.inside.head; pool = c.class.inside.pool; methods = c.class.inside.methods } in
    let is : IsCodeOf inside c.args.m c.args.code.now = subst (λ (x : ClassSpelled). IsCodeOf x c.args.m c.args.code.now) (sym c.class.view_is) c.requires.code in
    subst (λ (list : List RawInstr). length list ≤ 65535) (sym c.as_slice-instrs.ensures) (code-few inside.pool c.args.code.now (decoded inside c.class.invariant c.args.m c.args.code.now is))

pub instrs_of-requires-clause-low : goal.instrs_of-requires-clause-low
instrs_of-requires-clause-low c =
    kinds-low c.args.class.now (subst IsSpelled c.class.view_is c.class.invariant) c.args.m c.in-Ok.kinds c.in-Ok.ensures.ok

pub returns-in_err-list-clause-refused : goal.returns-in_err-list-clause-refused
returns-in_err-list-clause-refused c =
    let p = err_from_is_err_and c.from_residual.result c.from_residual.ensures.1 in
    let pool : c.class.inside.pool ≡ c.args.class.now.pool = ap (λ (x : ClassSpelled). x.pool) c.class.view_is in
    rw (p.1, p.2)
    (instr-refused c.args.hier.now c.args.class.now c.args.c.0 c.args.m c.args.code.now c.in-Ok.kinds c.in_err-list.field-0.0 c.requires.code c.in-Ok.ensures.ok
    (subst (λ (t : Table). (c.in_err-list.field-0.0 ≡ faults.Memory) ⊎ IsFirstRefusal c.args.hier.now c.args.c.0 t c.args.code.now.instrs c.in_err-list.field-0.0) pool
    (subst (λ (list : List RawInstr). (c.in_err-list.field-0.0 ≡ faults.Memory) ⊎ IsFirstRefusal c.args.hier.now c.args.c.0 c.class.inside.pool list c.in_err-list.field-0.0) c.as_slice-instrs.ensures c.in_err-list.ensures.refused)))

pub handlers_of-requires-clause-order : goal.handlers_of-requires-clause-order
handlers_of-requires-clause-order c =
    let inside : ClassSpelled = record { head = c.class.inside.head; pool = c.class.inside.pool; methods = c.class.inside.methods } in
    let is : IsCodeOf inside c.args.m c.args.code.now = subst (λ (x : ClassSpelled). IsCodeOf x c.args.m c.args.code.now) (sym c.class.view_is) c.requires.code in
    subst (λ (list : List RawInstr). IsNonDecreasingBy (λ (i : RawInstr). i.pc) list) (sym c.as_slice-instrs.ensures)
    (code-ordered inside.pool c.args.code.now (decoded inside c.class.invariant c.args.m c.args.code.now is))

pub handlers_of-requires-clause-few : goal.handlers_of-requires-clause-few
handlers_of-requires-clause-few c =
    let inside : ClassSpelled = record { head = c.class.inside.head; pool = c.class.inside.pool; methods = c.class.inside.methods } in
    let is : IsCodeOf inside c.args.m c.args.code.now = subst (λ (x : ClassSpelled). IsCodeOf x c.args.m c.args.code.now) (sym c.class.view_is) c.requires.code in
    subst (λ (list : List RawInstr). length list ≤ 65535) (sym c.as_slice-instrs.ensures) (code-few inside.pool c.args.code.now (decoded inside c.class.invariant c.args.m c.args.code.now is))

pub handlers_of-requires-clause-caught : goal.handlers_of-requires-clause-caught
handlers_of-requires-clause-caught c =
    let inside : ClassSpelled = record { head = c.class.inside.head; pool = c.class.inside.pool; methods = c.class.inside.methods } in
    let is : IsCodeOf inside c.args.m c.args.code.now = subst (λ (x : ClassSpelled). IsCodeOf x c.args.m c.args.code.now) (sym c.class.view_is) c.requires.code in
    subst (λ (list : List RawHandler). All (λ (row : RawHandler). NamesCaught inside.pool row.catch_type) list) (sym c.as_slice.ensures)
    (rows-caught inside.pool c.args.code.now (decoded inside c.class.invariant c.args.m c.args.code.now is))
