use Rattle.std.proofs.Common.{◌≡◌, ◌⊎◌, inl, inr, subst}
use Rattle.std.proofs.lemmas.Result.{err_from_is_err_and}
use Rattle.ja_bytes.specs.Reading.{Reading}
use Rattle.ja_class.specs.declared.fault.ClassFault.TheVariants.{Memory}
use Rattle.ja_class.specs.Meaning.{ClassSpelled}
use Rattle.ja_class.specs.ClassFault.{class_file}
use Rattle.ja_class.proofs.PartsExact.{class_file_exact}
use Rattle.ja_class.proofs.FileSpelled.{begin, passed_is_class, class_is_passed}
use Rattle.ja_class.proofs.class_file.read_class.Goals as goal
use Rattle.ja_class.proofs.class_file.read_class.Goals.{In_err-pool, In_ok-pool}

abbrev found : In_ok-pool → ClassSpelled
found c = record { head = c.in_ok-pool.body.head; pool = c.in_ok-pool.pool; methods = c.in_ok-pool.body.methods }

read : (c : In_ok-pool) → class_file.passes (begin c.args.bytes.now) (found c) c.class_file.new.c
read c = subst (λ (r : Reading). class_file.passes r (found c) c.class_file.new.c) c.new-c.ensures c.in_ok-pool.ensures

wrong : (c : In_err-pool) → (c.in_err-pool.field-0.0 ≡ Memory) ⊎ class_file.fault (begin c.args.bytes.now) c.in_err-pool.field-0.0
wrong c = subst (λ (r : Reading). (c.in_err-pool.field-0.0 ≡ Memory) ⊎ class_file.fault r c.in_err-pool.field-0.0) c.new-c.ensures c.in_err-pool.ensures

pub returns-in_err-pool-clause-only : goal.returns-in_err-pool-clause-only
returns-in_err-pool-clause-only c =
    let p = err_from_is_err_and c.from_residual.result c.from_residual.ensures.1 in
    let bytes = c.args.bytes.now in
    rw (p.1, p.2) (λ class is.
    let q = class_is_passed bytes class is in
    elim (wrong (goal.at.returns-in_err-pool-clause-only c).In_err-pool) [ inl e ↦ e | inr h ↦ absurd (class_file_exact.not_both (begin bytes) class q.0 c.in_err-pool.field-0.0 q.1 h) ])

pub returns-in_err-pool-clause-fault : goal.returns-in_err-pool-clause-fault
returns-in_err-pool-clause-fault c =
    let p = err_from_is_err_and c.from_residual.result c.from_residual.ensures.1 in
    rw (p.1, p.2) (wrong (goal.at.returns-in_err-pool-clause-fault c).In_err-pool)

pub returns-in_err-pool-clause-first : goal.returns-in_err-pool-clause-first
returns-in_err-pool-clause-first c =
    let p = err_from_is_err_and c.from_residual.result c.from_residual.ensures.1 in
    let bytes = c.args.bytes.now in
    rw (p.1, p.2) (λ fault due.
    elim (wrong (goal.at.returns-in_err-pool-clause-first c).In_err-pool) [ inl e ↦ inl e | inr h ↦ inr (class_file_exact.one_fault (begin bytes) c.in_err-pool.field-0.0 fault h due) ])

pub invariant_of-result : goal.invariant_of-result
invariant_of-result c =
    let at = (goal.at.invariant_of-result c).In_ok-pool in
    let bytes = c.args.bytes.now in
    record { bytes = bytes; is = passed_is_class bytes (found at) c.class_file.new.c (read at) }

pub returns-clause-ok : goal.returns-clause-ok
returns-clause-ok c =
    let at = (goal.at.returns-clause-ok c).In_ok-pool in
    passed_is_class c.args.bytes.now (found at) c.class_file.new.c (read at)

pub returns-clause-only : goal.returns-clause-only
returns-clause-only c = λ class is.
    let at = (goal.at.returns-clause-only c).In_ok-pool in
    let bytes = c.args.bytes.now in
    let q = class_is_passed bytes class is in
    (class_file_exact.one_value (begin bytes) (found at) class c.class_file.new.c q.0 (read at) q.1).0

pub returns-clause-first : goal.returns-clause-first
returns-clause-first c = λ fault due.
    let at = (goal.at.returns-clause-first c).In_ok-pool in
    let bytes = c.args.bytes.now in
    class_file_exact.not_both (begin bytes) (found at) c.class_file.new.c fault (read at) due
