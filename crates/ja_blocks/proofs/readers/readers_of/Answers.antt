use Rattle.std.proofs.Common.{◌≡◌, ◌+◌, List, Some, get_or, length, refl, sym, ap, ◌∙◌, subst, arith}
use Rattle.std.specs.Prelude.{slice_get}
use Rattle.std.proofs.lemmas.Option.{slice_get-get_or}
use Rattle.ja_ir.specs.declared.method.Method.{Method}
use Rattle.ja_ir.specs.declared.class.Field.{Field}
use Rattle.ja_blocks.specs.declared.blocks.ProgramBlock.{ProgramBlock}
use Rattle.ja_blocks.specs.Index.{IsIndex}
use Rattle.ja_blocks.specs.Readers.{ReadsEnd, GetsAt, HasInstr, BlockReadsEnd, BlockGets, BlockBegins}
use Rattle.ja_blocks.specs.Inner.{UpTo}
use Rattle.ja_blocks.proofs.More.{index_same, index_noted}
use Rattle.ja_blocks.proofs.Counted.{up_none, up_more, up_all}
use Rattle.ja_blocks.proofs.readers.readers_of.Goals as goal

pub loop-block-init : goal.loop-block-init
loop-block-init c = (
  refl,
  index_same (length c.args.p.now.methods) c.in_ok-empty_lists.field-0.items (λ k x. ⊥) (UpTo 0 (BlockBegins c.args.blocks.now))
      (subst (λ n. IsIndex n c.in_ok-empty_lists.field-0.items (λ k x. ⊥)) (c.len.ensures ∙ ap (λ (xs : List Method). length xs) c.methods.ensures.same) c.in_ok-empty_lists.ensures) (up_none c.args.blocks.now (λ k block. (block.method.0 ≡ k) × (block.first ≡ 0))),
  index_same (length c.args.p.now.methods) c.in_ok-empty_lists-2.field-0.items (λ k x. ⊥) (UpTo 0 (BlockReadsEnd c.args.p.now c.args.graph.now c.args.blocks.now))
      (subst (λ n. IsIndex n c.in_ok-empty_lists-2.field-0.items (λ k x. ⊥)) (c.len-2.ensures ∙ ap (λ (xs : List Method). length xs) c.methods-2.ensures.same) c.in_ok-empty_lists-2.ensures) (up_none c.args.blocks.now (λ k block. HasInstr block (λ m i. ReadsEnd c.args.p.now c.args.graph.now m i k))),
  index_same (length c.args.p.now.fields) c.in_ok-empty_lists-3.field-0.items (λ k x. ⊥) (UpTo 0 (BlockGets c.args.p.now c.args.blocks.now))
      (subst (λ n. IsIndex n c.in_ok-empty_lists-3.field-0.items (λ k x. ⊥)) (c.len-3.ensures ∙ ap (λ (xs : List Field). length xs) c.fields.ensures.same) c.in_ok-empty_lists-3.ensures) (up_none c.args.blocks.now (λ k block. HasInstr block (λ m i. GetsAt c.args.p.now m i k))),
)

pub loop-block-preserved : goal.loop-block-preserved
loop-block-preserved c =
    let none : ProgramBlock = record { method = record { 0 = 0 }; first = 0; last = 0 } in
    let block : ProgramBlock = get_or c.args.blocks.now c.loop-block.block-index none in
    let number : c.loop-block.number ≡ c.loop-block.block-index = c.loop-block.invariant.0 in
    let at : slice_get c.args.blocks.now c.loop-block.number ≡ Some block = ap (slice_get c.args.blocks.now) number ∙ slice_get-get_or c.args.blocks.now c.loop-block.block-index none c.loop-block-test.true in (
      (omega arith),
      subst (λ lists. IsIndex (length c.args.p.now.methods) lists.items (UpTo (c.loop-block.number + 1) (BlockBegins c.args.blocks.now))) (sym c.in_ok-note_block.ensures.begins)
          (index_noted (length c.args.p.now.methods) c.loop-block.readers.begins.items c.note_beginning.new.lists.items (UpTo c.loop-block.number (BlockBegins c.args.blocks.now))
          (λ k x. ((block.method.0 ≡ k) × (block.first ≡ 0)) × (x ≡ c.loop-block.number)) (UpTo (c.loop-block.number + 1) (BlockBegins c.args.blocks.now)) c.loop-block.invariant.1 c.in_ok-note_beginning.ensures
          (up_more c.args.blocks.now (λ k block. (block.method.0 ≡ k) × (block.first ≡ 0)) c.loop-block.number block at)),
      index_noted (length c.args.p.now.methods) c.loop-block.readers.ends.items c.note_block.new.readers.ends.items (UpTo c.loop-block.number (BlockReadsEnd c.args.p.now c.args.graph.now c.args.blocks.now))
          (λ k x. HasInstr block (λ m i. ReadsEnd c.args.p.now c.args.graph.now m i k) × (x ≡ c.loop-block.number)) (UpTo (c.loop-block.number + 1) (BlockReadsEnd c.args.p.now c.args.graph.now c.args.blocks.now)) c.loop-block.invariant.2 c.in_ok-note_block.ensures.ends
          (up_more c.args.blocks.now (λ k block. HasInstr block (λ m i. ReadsEnd c.args.p.now c.args.graph.now m i k)) c.loop-block.number block at),
      index_noted (length c.args.p.now.fields) c.loop-block.readers.fields.items c.note_block.new.readers.fields.items (UpTo c.loop-block.number (BlockGets c.args.p.now c.args.blocks.now))
          (λ k x. HasInstr block (λ m i. GetsAt c.args.p.now m i k) × (x ≡ c.loop-block.number)) (UpTo (c.loop-block.number + 1) (BlockGets c.args.p.now c.args.blocks.now)) c.loop-block.invariant.3 c.in_ok-note_block.ensures.fields
          (up_more c.args.blocks.now (λ k block. HasInstr block (λ m i. GetsAt c.args.p.now m i k)) c.loop-block.number block at),
    )

pub returns-clause-begins : goal.returns-clause-begins
returns-clause-begins c = index_same (length c.args.p.now.methods) c.loop-block.readers.begins.items (UpTo c.loop-block.number (BlockBegins c.args.blocks.now)) (BlockBegins c.args.blocks.now) c.loop-block.invariant.1
    (up_all c.args.blocks.now (λ k block. (block.method.0 ≡ k) × (block.first ≡ 0)) c.loop-block.number (let past = c.loop-block-test.false in let number = c.loop-block.invariant.0 in omega arith))

pub returns-clause-ends : goal.returns-clause-ends
returns-clause-ends c = index_same (length c.args.p.now.methods) c.loop-block.readers.ends.items (UpTo c.loop-block.number (BlockReadsEnd c.args.p.now c.args.graph.now c.args.blocks.now)) (BlockReadsEnd c.args.p.now c.args.graph.now c.args.blocks.now) c.loop-block.invariant.2
    (up_all c.args.blocks.now (λ k block. HasInstr block (λ m i. ReadsEnd c.args.p.now c.args.graph.now m i k)) c.loop-block.number (let past = c.loop-block-test.false in let number = c.loop-block.invariant.0 in omega arith))

pub returns-clause-fields : goal.returns-clause-fields
returns-clause-fields c = index_same (length c.args.p.now.fields) c.loop-block.readers.fields.items (UpTo c.loop-block.number (BlockGets c.args.p.now c.args.blocks.now)) (BlockGets c.args.p.now c.args.blocks.now) c.loop-block.invariant.3
    (up_all c.args.blocks.now (λ k block. HasInstr block (λ m i. GetsAt c.args.p.now m i k)) c.loop-block.number (let past = c.loop-block-test.false in let number = c.loop-block.invariant.0 in omega arith))
