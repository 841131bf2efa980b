use Rattle.std.proofs.Common.{◌≡◌, ◌⊎◌, refl, subst, ◌∙◌}
use Rattle.std.specs.Prelude.{Option, Some, None, is_some, option_copied}
use Rattle.std.proofs.Common.{Bor}
use Rattle.std.proofs.lemmas.Option.{slice_get_read}
use Rattle.ja_code.specs.declared.instr.RawInstr.{RawInstr}
use Rattle.ja_methods.specs.declared.fault.MethodFault.TheVariants.{Memory}
use Rattle.ja_methods.specs.Method.{IsInstrOf}
use Rattle.ja_methods.specs.Refusal.{IsUnrefused, IsRefusalOf}
use Rattle.ja_methods.proofs.InstrSteps.{same-item, refusal-of}
use Rattle.ja_methods.proofs.instr.instr_of.Goals as goal

pub returns-in-Err-clause-refused : goal.returns-in-Err-clause-refused
returns-in-Err-clause-refused c = λ raw at.
    let read = slice_get_read c.args.instrs.now _ c.args.k c.index-instrs-k.result refl c.requires.there c.index-instrs-k.is in
    let same : c.index-instrs-k.result ≡ raw = same-item c.args.instrs.now c.args.k c.args.k c.index-instrs-k.result raw refl read at in
    subst (λ (x : RawInstr). (c.instr_refusal.result ≡ Memory) ⊎ IsRefusalOf c.args.scene.now.hier.now c.args.scene.now.class.0 c.args.scene.now.pool.now x c.instr_refusal.result) same
    (refusal-of c.args.scene.now.hier.now c.args.scene.now.class.0 c.args.scene.now.pool.now c.index-instrs-k.result c.in-Err.fault c.instr_refusal.result c.instr_refusal.ensures c.in-Err.ensures.refused)

pub returns-clause-ok : goal.returns-clause-ok
returns-clause-ok c = λ raw at.
    let read = slice_get_read c.args.instrs.now _ c.args.k c.index-instrs-k.result refl c.requires.there c.index-instrs-k.is in
    let same : c.index-instrs-k.result ≡ raw = same-item c.args.instrs.now c.args.k c.args.k c.index-instrs-k.result raw refl read at in
    subst (λ (x : RawInstr). IsInstrOf c.args.scene.now.hier.now c.args.scene.now.table.now c.args.scene.now.class.0 c.args.scene.now.pool.now c.args.instrs.now (option_copied c.args.before) c.args.k x
    (record { pc = c.index-instrs-k.result.pc; op = c.in-Ok.op; next = c.in_ok-next.next; height = c.height_of.result; reached = c.is_some.result }))
    same (record {
      pc_is = refl;
      operation = c.in-Ok.ensures.ok;
      next_is = c.in_ok-next.ensures c.index-instrs-k.result read;
      height_is = c.height_of.ensures;
      reached_is = c.is_some.ensures ∙ copied c.args.before;
    })
  where
    copied : {A : Type 0} (o : Option (Bor A)) → is_some o ≡ is_some (option_copied o)
    copied None = refl
    copied (Some x) = refl

pub returns-clause-clean : goal.returns-clause-clean
returns-clause-clean c = λ raw at.
    let read = slice_get_read c.args.instrs.now _ c.args.k c.index-instrs-k.result refl c.requires.there c.index-instrs-k.is in
    let same : c.index-instrs-k.result ≡ raw = same-item c.args.instrs.now c.args.k c.args.k c.index-instrs-k.result raw refl read at in
    subst (λ (x : RawInstr). IsUnrefused c.args.scene.now.hier.now c.args.scene.now.class.0 c.args.scene.now.pool.now x) same
    (λ fault. c.law_one_operation.ensures.not_both c.args.scene.now.hier.now c.args.scene.now.table.now c.args.scene.now.class.0 c.args.scene.now.pool.now c.index-instrs-k.result (option_copied c.args.before) c.in-Ok.op fault c.in-Ok.ensures.ok)
