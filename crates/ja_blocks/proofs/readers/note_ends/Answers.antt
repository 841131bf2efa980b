use Rattle.std.proofs.Common.{◌≡◌, ℕ, List, Some, inl, inr, sym, ap, ◌∙◌, subst, ⊎_elim}
use Rattle.std.specs.Prelude.{Contains}
use Rattle.ja_base.specs.declared.id.MethodId.{MethodId}
use Rattle.ja_ir.specs.declared.method.Instr.{Instr}
use Rattle.ja_ir.specs.Initializing.{InitAt, inits_of}
use Rattle.ja_facts.specs.declared.targets.Targets.{Targets}
use Rattle.ja_facts.specs.FactTables.{targets_at}
use Rattle.ja_blocks.specs.Readers.{ReadsEnd}
use Rattle.ja_blocks.proofs.More.{noted_then}
use Rattle.ja_blocks.proofs.readers.note_ends.Goals as goal

pub returns : goal.returns
returns c = noted_then c.args.lists.now.items c.note_all.new.lists.items c.note_inits.new.lists.items
    (λ k x. Contains c.as_slice.result.now k × (x ≡ c.args.block)) (λ k x. Contains c.inits_of.result.now (record { 0 = k }) × (x ≡ c.args.block)) (λ k x. ReadsEnd c.args.p.now c.args.graph.now c.args.m.0 c.args.i k × (x ≡ c.args.block))
    c.in_ok-note_all.ensures c.in_ok-note_inits.ensures
    (λ k x. (
      (λ e. ⊎_elim (λ r. (inl (subst (λ (ns : List ℕ). Contains ns k) methods r.0), r.1)) (λ r. (inr (init k (subst (λ (ns : List MethodId). Contains ns (record { 0 = k })) inits r.0)), r.1)) e),
      (λ r. ⊎_elim (λ target. inl (subst (λ (ns : List ℕ). Contains ns k) (sym methods) target, r.1)) (λ at. inr (subst (λ (ns : List MethodId). Contains ns (record { 0 = k })) (sym inits) (listed k at), r.1)) r.0),
    ))
  where
    methods : c.as_slice.result.now ≡ (targets_at c.args.graph.now c.args.m.0 c.args.i).methods
    methods = c.as_slice.ensures ∙ ap (λ (t : Targets). t.methods) c.targets.ensures

    inits : c.inits_of.result.now ≡ inits_of c.args.p.now c.args.instr.now.op
    inits = c.inits_of.ensures

    init : (k : ℕ) → Contains (inits_of c.args.p.now c.args.instr.now.op) (record { 0 = k }) → InitAt c.args.p.now c.args.m.0 c.args.i k
    init k has = record { instr = c.args.instr.now; found = c.requires; listed = has }

    listed : (k : ℕ) → InitAt c.args.p.now c.args.m.0 c.args.i k → Contains (inits_of c.args.p.now c.args.instr.now.op) (record { 0 = k })
    listed k at =
        let one : Some at.instr ≡ Some c.args.instr.now = sym at.found ∙ c.requires in
        let own : at.instr ≡ c.args.instr.now = cc one in
        subst (λ (instr : Instr). Contains (inits_of c.args.p.now instr.op) (record { 0 = k })) own at.listed
