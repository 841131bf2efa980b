use Rattle.std.proofs.Common.{◌⊎◌, inl, inr, List, ℕ}
use Rattle.ja_bytes.specs.Reading.{Reading}
use Rattle.ja_class.specs.declared.fault.ClassFault.{ClassFault}
use Rattle.ja_class.specs.Meaning.{ClassSpelled}
use Rattle.ja_class.specs.ClassFile.{IsClass}
use Rattle.ja_class.specs.ClassFault.{class_file, IsFault}
use Rattle.ja_class.proofs.PartsExact.{class_file_exact}
use Rattle.ja_class.proofs.FileSpelled.{begin, passed_is_class, class_is_passed}
use Rattle.ja_class.proofs.law.law_spelled_or_refused.Goals as goal

seen : (bytes : List ℕ) → ((class : ClassSpelled) × (new : Reading) × class_file.passes (begin bytes) class new) ⊎ ((fault : ClassFault) × class_file.fault (begin bytes) fault)
    → ((class : ClassSpelled) × IsClass bytes class) ⊎ ((fault : ClassFault) × IsFault bytes fault)
seen bytes (inl r) = inl (r.0, passed_is_class bytes r.0 r.1 r.2)
seen bytes (inr r) = inr r

pub returns-clause-either : goal.returns-clause-either
returns-clause-either c = λ bytes each. seen bytes (class_file_exact.either (begin bytes) each)

pub returns-clause-not_both : goal.returns-clause-not_both
returns-clause-not_both c = λ bytes class fault is wrong.
    let p = class_is_passed bytes class is in
    class_file_exact.not_both (begin bytes) class p.0 fault p.1 wrong

pub returns-clause-one_class : goal.returns-clause-one_class
returns-clause-one_class c = λ bytes class other is also.
    let p = class_is_passed bytes class is in
    let q = class_is_passed bytes other also in
    (class_file_exact.one_value (begin bytes) class other p.0 q.0 p.1 q.1).0

pub returns-clause-one_fault : goal.returns-clause-one_fault
returns-clause-one_fault c = λ bytes fault other p q. class_file_exact.one_fault (begin bytes) fault other p q
