use Rattle.std.proofs.Common.{◌≡◌, ◌∙◌, Some, ap, sym}
use Rattle.ja_ir.specs.declared.method.Instr.{Instr}
use Rattle.ja_ir.specs.declared.op.Op.TheVariants.{Load}
use Rattle.ja_facts.specs.Analyses.{analyses_of}
use Rattle.ja_facts.specs.Slots.{OnStack}
use Rattle.ja_facts.proofs.Loads.{load-turns}
use Rattle.ja_facts.proofs.law.law_load_moves.Goals as goal

pub returns : goal.returns
returns c p m i l height kind b after at ends =
    let found : Some at.instr ≡ Some ends.instr = sym at.found ∙ ends.found in
    let same : at.instr ≡ ends.instr = cc found in
    let is_op : ends.instr.op ≡ Load kind l = sym (ap (λ (x : Instr). x.op) same) ∙ at.is_op in
    let is_height : ends.instr.height ≡ height = sym (ap (λ (x : Instr). x.height) same) ∙ at.is_height in
    load-turns (analyses_of p) m i b kind l is_op (ap OnStack (sym is_height)) (ends.slots (OnStack height))
