use Rattle.std.proofs.Common.{◌≡◌, ◌+◌, ℕ, List, Some, refl, sym, ap, ◌∙◌, subst, arith}
use Rattle.std.specs.Prelude.{Option, slice_get}
use Rattle.ja_ir.specs.declared.method.Method.{Method}
use Rattle.ja_ir.specs.declared.method.Instr.{Instr}
use Rattle.ja_ir.specs.Lookup.{code_of, instr_at}
use Rattle.ja_blocks.specs.Readers.{ReadsEnd, Gets, GetsAt, HasInstr}
use Rattle.ja_blocks.specs.Inner.{HasInstrBelow}
use Rattle.ja_blocks.proofs.More.{noted_none, noted_then, noted_same}
use Rattle.ja_blocks.proofs.Counted.{below_none, below_more, below_all}
use Rattle.ja_blocks.proofs.Ordering.{few_instructions}
use Rattle.ja_blocks.proofs.readers.note_block.Goals as goal

pub overflow_add-i-end : goal.overflow_add-i-end
overflow_add-i-end c =
    let block = c.requires.block in
    let inside = block.is.inside in
    let few = few_instructions c.args.p.now c.args.block.method.0 block.method c.methods.ensures.whole block.found in
    omega (arith, inside, few)

pub loop-i-init : goal.loop-i-init
loop-i-init c = (
  refl,
  noted_none c.args.readers.now.ends.items (λ k x. HasInstrBelow c.args.block c.args.block.first (λ m i. ReadsEnd c.args.p.now c.args.graph.now m i k) × (x ≡ c.args.number))
      (below_none c.args.block (λ m i k. ReadsEnd c.args.p.now c.args.graph.now m i k) c.args.number),
  noted_none c.args.readers.now.fields.items (λ k x. HasInstrBelow c.args.block c.args.block.first (λ m i. GetsAt c.args.p.now m i k) × (x ≡ c.args.number))
      (below_none c.args.block (λ m i k. GetsAt c.args.p.now m i k) c.args.number),
)

pub loop-i-preserved : goal.loop-i-preserved
loop-i-preserved c = (
  c.loop-i.invariant.0,
  noted_then c.args.readers.now.ends.items c.loop-i.readers.ends.items c.note_ends.new.lists.items
      (λ k x. HasInstrBelow c.args.block c.loop-i.i (λ m i. ReadsEnd c.args.p.now c.args.graph.now m i k) × (x ≡ c.args.number))
      (λ k x. ReadsEnd c.args.p.now c.args.graph.now c.args.block.method.0 c.loop-i.i k × (x ≡ c.args.number))
      (λ k x. HasInstrBelow c.args.block (c.loop-i.i + 1) (λ m i. ReadsEnd c.args.p.now c.args.graph.now m i k) × (x ≡ c.args.number))
      c.loop-i.invariant.1 c.in_ok-note_ends.ensures
      (below_more c.args.block (λ m i k. ReadsEnd c.args.p.now c.args.graph.now m i k) c.args.number c.loop-i.i c.loop-i.auto.i),
  noted_then c.args.readers.now.fields.items c.loop-i.readers.fields.items c.note_field.new.lists.items
      (λ k x. HasInstrBelow c.args.block c.loop-i.i (λ m i. GetsAt c.args.p.now m i k) × (x ≡ c.args.number))
      (λ k x. GetsAt c.args.p.now c.args.block.method.0 c.loop-i.i k × (x ≡ c.args.number))
      (λ k x. HasInstrBelow c.args.block (c.loop-i.i + 1) (λ m i. GetsAt c.args.p.now m i k) × (x ≡ c.args.number))
      c.loop-i.invariant.2
      (noted_same c.loop-i.readers.fields.items c.note_field.new.lists.items (λ k x. Gets c.at-instr.result.now.op k × (x ≡ c.args.number)) (λ k x. GetsAt c.args.p.now c.args.block.method.0 c.loop-i.i k × (x ≡ c.args.number))
      c.in_ok-note_field.ensures (λ k x. ((λ r. (gets k r.0, r.1)), (λ r. (got k r.0, r.1)))))
      (below_more c.args.block (λ m i k. GetsAt c.args.p.now m i k) c.args.number c.loop-i.i c.loop-i.auto.i),
)
  where
    method_at : slice_get c.args.p.now.methods c.args.block.method.0 ≡ Some c.at-method.result.now
    method_at = ap (λ (xs : List Method). slice_get xs c.args.block.method.0) (sym c.methods.ensures.same) ∙ ap (slice_get c.methods.result.now) (sym c.from.ensures) ∙ c.at-method.ensures

    found : instr_at c.args.p.now c.args.block.method.0 c.loop-i.i ≡ Some c.at-instr.result.now
    found = ap (λ (o : Option Method). slice_get (code_of o) c.loop-i.i) method_at ∙ ap (slice_get c.at-method.result.now.code) (sym c.from-in-loop-i.ensures) ∙ c.at-instr.ensures

    gets : (k : ℕ) → Gets c.at-instr.result.now.op k → GetsAt c.args.p.now c.args.block.method.0 c.loop-i.i k
    gets k is = record { instr = c.at-instr.result.now; found = found; gets = is }

    got : (k : ℕ) → GetsAt c.args.p.now c.args.block.method.0 c.loop-i.i k → Gets c.at-instr.result.now.op k
    got k at =
        let one : Some at.instr ≡ Some c.at-instr.result.now = sym at.found ∙ found in
        let own : at.instr ≡ c.at-instr.result.now = cc one in
        subst (λ (instr : Instr). Gets instr.op k) own at.gets

pub returns-clause-ends : goal.returns-clause-ends
returns-clause-ends c = noted_same c.args.readers.now.ends.items c.loop-i.readers.ends.items
    (λ k x. HasInstrBelow c.args.block c.loop-i.i (λ m i. ReadsEnd c.args.p.now c.args.graph.now m i k) × (x ≡ c.args.number))
    (λ k x. HasInstr c.args.block (λ m i. ReadsEnd c.args.p.now c.args.graph.now m i k) × (x ≡ c.args.number))
    c.loop-i.invariant.1
    (below_all c.args.block (λ m i k. ReadsEnd c.args.p.now c.args.graph.now m i k) c.args.number c.loop-i.i (let past = c.loop-i-test.false in let upto = c.loop-i.auto.i-end in let ordered = c.requires.block.is.ordered in omega arith))

pub returns-clause-fields : goal.returns-clause-fields
returns-clause-fields c = noted_same c.args.readers.now.fields.items c.loop-i.readers.fields.items
    (λ k x. HasInstrBelow c.args.block c.loop-i.i (λ m i. GetsAt c.args.p.now m i k) × (x ≡ c.args.number))
    (λ k x. HasInstr c.args.block (λ m i. GetsAt c.args.p.now m i k) × (x ≡ c.args.number))
    c.loop-i.invariant.2
    (below_all c.args.block (λ m i k. GetsAt c.args.p.now m i k) c.args.number c.loop-i.i (let past = c.loop-i-test.false in let upto = c.loop-i.auto.i-end in let ordered = c.requires.block.is.ordered in omega arith))
