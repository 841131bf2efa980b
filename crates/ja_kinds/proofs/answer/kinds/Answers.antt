use Rattle.std.proofs.Common.{◌≡◌, ◌⊎◌, ℕ, ◌+◌, ◌<◌, ◌^◌, length, IfOk, ap, sym, subst}
use Rattle.std.specs.Prelude.{IfErr}
use Rattle.ja_pool.specs.Table.{Table}
use Rattle.ja_class.specs.Meaning.{ClassSpelled}
use Rattle.ja_kinds.specs.declared.fault.KindFault.TheVariants.{Memory}
use Rattle.ja_kinds.specs.Solution.{IsFault}
use Rattle.ja_kinds.specs.Answer.{HasFrame}
use Rattle.ja_kinds.specs.InnerSolving.{AreKindsIn}
use Rattle.ja_kinds.proofs.Visits.{deed_law}
use Rattle.ja_kinds.proofs.OfClass.{IsFound, is_found, head_within, method_within, has_frame}
use Rattle.ja_kinds.proofs.OneAnswer.{only_kinds, first_fault_of, answers_kinds, answers_fault}
use Rattle.ja_kinds.proofs.answer.kinds.Goals as goal

pub at-head-requires : goal.at-head-requires
at-head-requires c =
    let inside : ClassSpelled = record { head = c.class.inside.head; pool = c.class.inside.pool; methods = c.class.inside.methods } in
    subst (λ (n : ℕ). n < length c.class.inside.head.methods) (sym c.from.ensures)
    (head_within inside c.args.class.now c.class.view_is c.class.invariant c.args.m c.requires)

pub at-method-requires : goal.at-method-requires
at-method-requires c =
    let inside : ClassSpelled = record { head = c.class.inside.head; pool = c.class.inside.pool; methods = c.class.inside.methods } in
    subst (λ (n : ℕ). n < length c.class.inside.methods) (sym c.from-2.ensures)
    (method_within inside c.args.class.now c.class.view_is c.class.invariant c.args.m c.requires)

pub frame_of-requires-clause-descriptor : goal.frame_of-requires-clause-descriptor
frame_of-requires-clause-descriptor c =
    let inside : ClassSpelled = record { head = c.class.inside.head; pool = c.class.inside.pool; methods = c.class.inside.methods } in
    (is_found inside c.args.class.now c.class.view_is c.class.invariant c.args.m c.requires c.at-head.result.now c.at-method.result.now c.in-Some.code
    c.from.result c.from-2.result c.from.ensures c.from-2.ensures c.at-head.ensures c.at-method.ensures c.in-Some.is).descriptor

pub frame_of-requires-clause-short : goal.frame_of-requires-clause-short
frame_of-requires-clause-short c =
    let inside : ClassSpelled = record { head = c.class.inside.head; pool = c.class.inside.pool; methods = c.class.inside.methods } in
    (is_found inside c.args.class.now c.class.view_is c.class.invariant c.args.m c.requires c.at-head.result.now c.at-method.result.now c.in-Some.code
    c.from.result c.from-2.result c.from.ensures c.from-2.ensures c.at-head.ensures c.at-method.ensures c.in-Some.is).short

pub judged-requires-clause-some : goal.judged-requires-clause-some
judged-requires-clause-some c =
    let inside : ClassSpelled = record { head = c.class.inside.head; pool = c.class.inside.pool; methods = c.class.inside.methods } in
    let found : IsFound inside c.args.m c.at-head.result.now c.at-method.result.now c.in-Some.code =
    is_found inside c.args.class.now c.class.view_is c.class.invariant c.args.m c.requires c.at-head.result.now c.at-method.result.now c.in-Some.code
    c.from.result c.from-2.result c.from.ensures c.from-2.ensures c.at-head.ensures c.at-method.ensures c.in-Some.is in
    subst (λ (n : ℕ). 0 < n) (sym c.in_ok-frame.ensures.size) found.some

pub judged-requires-clause-fits : goal.judged-requires-clause-fits
judged-requires-clause-fits c =
    let inside : ClassSpelled = record { head = c.class.inside.head; pool = c.class.inside.pool; methods = c.class.inside.methods } in
    let found : IsFound inside c.args.m c.at-head.result.now c.at-method.result.now c.in-Some.code =
    is_found inside c.args.class.now c.class.view_is c.class.invariant c.args.m c.requires c.at-head.result.now c.at-method.result.now c.in-Some.code
    c.from.result c.from-2.result c.from.ensures c.from-2.ensures c.at-head.ensures c.at-method.ensures c.in-Some.is in
    subst (λ (n : ℕ). n + c.in_ok-frame.frame.max_stack < 2 ^ 32) (sym c.in_ok-frame.ensures.locals)
    (subst (λ (n : ℕ). c.at-method.result.now.max_locals + n < 2 ^ 32) (sym c.in_ok-frame.ensures.stack) found.fits)

pub judged-requires-clause-apart : goal.judged-requires-clause-apart
judged-requires-clause-apart c =
    let inside : ClassSpelled = record { head = c.class.inside.head; pool = c.class.inside.pool; methods = c.class.inside.methods } in
    (is_found inside c.args.class.now c.class.view_is c.class.invariant c.args.m c.requires c.at-head.result.now c.at-method.result.now c.in-Some.code
    c.from.result c.from-2.result c.from.ensures c.from-2.ensures c.at-head.ensures c.at-method.ensures c.in-Some.is).profile.apart

pub returns-clause-ok : goal.returns-clause-ok
returns-clause-ok c =
    let inside : ClassSpelled = record { head = c.class.inside.head; pool = c.class.inside.pool; methods = c.class.inside.methods } in
    let found : IsFound inside c.args.m c.at-head.result.now c.at-method.result.now c.in-Some.code =
    is_found inside c.args.class.now c.class.view_is c.class.invariant c.args.m c.requires c.at-head.result.now c.at-method.result.now c.in-Some.code
    c.from.result c.from-2.result c.from.ensures c.from-2.ensures c.at-head.ensures c.at-method.ensures c.in-Some.is in
    let has : HasFrame c.args.class.now c.args.m c.in-Some.code c.in_ok-frame.frame =
    has_frame inside c.args.class.now c.class.view_is c.class.invariant c.args.m c.requires c.at-head.result.now c.at-method.result.now c.in-Some.code
    c.in_ok-frame.frame c.in-Some.is found c.in_ok-frame.ensures in
    let pool_is : c.class.inside.pool ≡ c.args.class.now.pool = ap (λ (k : ClassSpelled). k.pool) c.class.view_is in
    let ok : IfOk c.judged.result (AreKindsIn c.args.class.now.pool c.in-Some.code c.in_ok-frame.frame) =
    subst (λ (t : Table). IfOk c.judged.result (AreKindsIn t c.in-Some.code c.in_ok-frame.frame)) pool_is c.judged.ensures.ok in
    let fault : IfErr c.judged.result (λ f. (f ≡ Memory) ⊎ IsFault c.args.class.now.pool c.in-Some.code c.in_ok-frame.frame f) =
    subst (λ (t : Table). IfErr c.judged.result (λ f. (f ≡ Memory) ⊎ IsFault t c.in-Some.code c.in_ok-frame.frame f)) pool_is c.judged.ensures.fault in
    answers_kinds deed_law c.args.class.now c.args.m c.in-Some.code c.in_ok-frame.frame has c.judged.result ok fault

pub returns-clause-only : goal.returns-clause-only
returns-clause-only c =
    let inside : ClassSpelled = record { head = c.class.inside.head; pool = c.class.inside.pool; methods = c.class.inside.methods } in
    let found : IsFound inside c.args.m c.at-head.result.now c.at-method.result.now c.in-Some.code =
    is_found inside c.args.class.now c.class.view_is c.class.invariant c.args.m c.requires c.at-head.result.now c.at-method.result.now c.in-Some.code
    c.from.result c.from-2.result c.from.ensures c.from-2.ensures c.at-head.ensures c.at-method.ensures c.in-Some.is in
    let has : HasFrame c.args.class.now c.args.m c.in-Some.code c.in_ok-frame.frame =
    has_frame inside c.args.class.now c.class.view_is c.class.invariant c.args.m c.requires c.at-head.result.now c.at-method.result.now c.in-Some.code
    c.in_ok-frame.frame c.in-Some.is found c.in_ok-frame.ensures in
    let pool_is : c.class.inside.pool ≡ c.args.class.now.pool = ap (λ (k : ClassSpelled). k.pool) c.class.view_is in
    let ok : IfOk c.judged.result (AreKindsIn c.args.class.now.pool c.in-Some.code c.in_ok-frame.frame) =
    subst (λ (t : Table). IfOk c.judged.result (AreKindsIn t c.in-Some.code c.in_ok-frame.frame)) pool_is c.judged.ensures.ok in
    let fault : IfErr c.judged.result (λ f. (f ≡ Memory) ⊎ IsFault c.args.class.now.pool c.in-Some.code c.in_ok-frame.frame f) =
    subst (λ (t : Table). IfErr c.judged.result (λ f. (f ≡ Memory) ⊎ IsFault t c.in-Some.code c.in_ok-frame.frame f)) pool_is c.judged.ensures.fault in
    only_kinds deed_law c.args.class.now c.args.m c.in-Some.code c.in_ok-frame.frame has c.judged.result ok fault

pub returns-clause-fault : goal.returns-clause-fault
returns-clause-fault c =
    let inside : ClassSpelled = record { head = c.class.inside.head; pool = c.class.inside.pool; methods = c.class.inside.methods } in
    let found : IsFound inside c.args.m c.at-head.result.now c.at-method.result.now c.in-Some.code =
    is_found inside c.args.class.now c.class.view_is c.class.invariant c.args.m c.requires c.at-head.result.now c.at-method.result.now c.in-Some.code
    c.from.result c.from-2.result c.from.ensures c.from-2.ensures c.at-head.ensures c.at-method.ensures c.in-Some.is in
    let has : HasFrame c.args.class.now c.args.m c.in-Some.code c.in_ok-frame.frame =
    has_frame inside c.args.class.now c.class.view_is c.class.invariant c.args.m c.requires c.at-head.result.now c.at-method.result.now c.in-Some.code
    c.in_ok-frame.frame c.in-Some.is found c.in_ok-frame.ensures in
    let pool_is : c.class.inside.pool ≡ c.args.class.now.pool = ap (λ (k : ClassSpelled). k.pool) c.class.view_is in
    let ok : IfOk c.judged.result (AreKindsIn c.args.class.now.pool c.in-Some.code c.in_ok-frame.frame) =
    subst (λ (t : Table). IfOk c.judged.result (AreKindsIn t c.in-Some.code c.in_ok-frame.frame)) pool_is c.judged.ensures.ok in
    let fault : IfErr c.judged.result (λ f. (f ≡ Memory) ⊎ IsFault c.args.class.now.pool c.in-Some.code c.in_ok-frame.frame f) =
    subst (λ (t : Table). IfErr c.judged.result (λ f. (f ≡ Memory) ⊎ IsFault t c.in-Some.code c.in_ok-frame.frame f)) pool_is c.judged.ensures.fault in
    answers_fault deed_law c.args.class.now c.args.m c.in-Some.code c.in_ok-frame.frame has c.judged.result ok fault

pub returns-clause-first : goal.returns-clause-first
returns-clause-first c =
    let inside : ClassSpelled = record { head = c.class.inside.head; pool = c.class.inside.pool; methods = c.class.inside.methods } in
    let found : IsFound inside c.args.m c.at-head.result.now c.at-method.result.now c.in-Some.code =
    is_found inside c.args.class.now c.class.view_is c.class.invariant c.args.m c.requires c.at-head.result.now c.at-method.result.now c.in-Some.code
    c.from.result c.from-2.result c.from.ensures c.from-2.ensures c.at-head.ensures c.at-method.ensures c.in-Some.is in
    let has : HasFrame c.args.class.now c.args.m c.in-Some.code c.in_ok-frame.frame =
    has_frame inside c.args.class.now c.class.view_is c.class.invariant c.args.m c.requires c.at-head.result.now c.at-method.result.now c.in-Some.code
    c.in_ok-frame.frame c.in-Some.is found c.in_ok-frame.ensures in
    let pool_is : c.class.inside.pool ≡ c.args.class.now.pool = ap (λ (k : ClassSpelled). k.pool) c.class.view_is in
    let ok : IfOk c.judged.result (AreKindsIn c.args.class.now.pool c.in-Some.code c.in_ok-frame.frame) =
    subst (λ (t : Table). IfOk c.judged.result (AreKindsIn t c.in-Some.code c.in_ok-frame.frame)) pool_is c.judged.ensures.ok in
    let fault : IfErr c.judged.result (λ f. (f ≡ Memory) ⊎ IsFault c.args.class.now.pool c.in-Some.code c.in_ok-frame.frame f) =
    subst (λ (t : Table). IfErr c.judged.result (λ f. (f ≡ Memory) ⊎ IsFault t c.in-Some.code c.in_ok-frame.frame f)) pool_is c.judged.ensures.fault in
    first_fault_of deed_law c.args.class.now c.args.m c.in-Some.code c.in_ok-frame.frame has c.judged.result ok fault
