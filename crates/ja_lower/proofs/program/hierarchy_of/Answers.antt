use Rattle.std.proofs.Common.{◌≡◌, List, length, sym, ap, ◌∙◌}
use Rattle.std.proofs.lemmas.List.{length-map}
use Rattle.ja_ir.specs.declared.head.ClassHead.{ClassHead}
use Rattle.ja_class.specs.Meaning.{ClassSpelled}
use Rattle.ja_lower.specs.Program.{heads_of}
use Rattle.ja_lower.proofs.Faults.{hierarchy-refused, names-one}
use Rattle.ja_lower.proofs.program.hierarchy_of.Goals as goal

pub hier_fault-requires : goal.hier_fault-requires
hier_fault-requires c =
    let same : c.as_slice.result.now ≡ heads_of c.args.classes.now = c.as_slice.ensures ∙ c.in_ok-heads.ensures.heads in
    let size : length c.args.names.now ≡ length c.as_slice.result.now =
    c.requires.files ∙ sym (ap (λ (l : List ClassHead). length l) same ∙ length-map c.args.classes.now (λ (class : ClassSpelled). class.head)) in
    names-one c.as_slice.result.now (length c.args.names.now) c.in-Err.fault size c.in-Err.ensures.fault

pub returns-clause-refused : goal.returns-clause-refused
returns-clause-refused c =
    hierarchy-refused c.args.names.now c.args.classes.now c.as_slice.result.now c.in-Err.fault c.hier_fault.result (c.as_slice.ensures ∙ c.in_ok-heads.ensures.heads) c.in-Err.ensures.fault c.hier_fault.ensures
