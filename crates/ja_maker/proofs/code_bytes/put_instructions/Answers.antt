use Rattle.std.proofs.Common.{◌≡◌, ◌+◌, [], ◌∷◌, ◌++◌, refl, sym, ap, ◌∙◌, append_assoc}
use Rattle.std.proofs.lemmas.List.{append-nil}
use Rattle.ja_code.specs.Opcode.{form_at}
use Rattle.ja_assembly.specs.Members.{size_of_opcode, instructions_in}
use Rattle.ja_assembly.specs.InnerLabels.{places}
use Rattle.ja_assembly.specs.Assembled.{operand_bytes, instruction_bytes}
use Rattle.ja_maker.specs.InnerWriting.{pool_in}
use Rattle.ja_maker.proofs.code_bytes.put_instructions.Goals as goal

pub returns-in-Method : goal.returns-in-Method
returns-in-Method c = λ superclass.
    let h : instruction_bytes (pool_in c.args.pool.now) (places c.args.labels.now) c.loop-item.place (instructions_in superclass c.loop-item.rest.now) ≡ [] = rw (c.in-Some.ensures, c.in-Method.is) refl in
    sym (append-nil c.loop-item.out) ∙ ap (λ bytes. c.loop-item.out ++ bytes) (sym h) ∙ c.loop-item.invariant superclass

pub returns-in-Initializer : goal.returns-in-Initializer
returns-in-Initializer c = λ superclass.
    let h : instruction_bytes (pool_in c.args.pool.now) (places c.args.labels.now) c.loop-item.place (instructions_in superclass c.loop-item.rest.now) ≡ [] = rw (c.in-Some.ensures, c.in-Initializer.is) refl in
    sym (append-nil c.loop-item.out) ∙ ap (λ bytes. c.loop-item.out ++ bytes) (sym h) ∙ c.loop-item.invariant superclass

pub returns : goal.returns
returns c = λ superclass.
    let h : instruction_bytes (pool_in c.args.pool.now) (places c.args.labels.now) c.loop-item.place (instructions_in superclass c.loop-item.rest.now) ≡ [] = rw c.in_default.ensures refl in
    sym (append-nil c.loop-item.out) ∙ ap (λ bytes. c.loop-item.out ++ bytes) (sym h) ∙ c.loop-item.invariant superclass

pub loop-item-preserved-in-Field : goal.loop-item-preserved-in-Field
loop-item-preserved-in-Field c = λ superclass.
    let bytes = instruction_bytes (pool_in c.args.pool.now) (places c.args.labels.now) c.loop-item.place in
    let h : bytes (instructions_in superclass c.loop-item.rest.now) ≡ bytes (instructions_in superclass c.in-Some.behind.now) = rw (c.in-Some.ensures, c.in-Field.is) refl in
    ap (λ more. c.loop-item.out ++ more) (sym h) ∙ c.loop-item.invariant superclass

pub loop-item-preserved : goal.loop-item-preserved
loop-item-preserved c = λ superclass.
    let bytes = instruction_bytes (pool_in c.args.pool.now) (places c.args.labels.now) c.loop-item.place in
    let h : bytes (instructions_in superclass c.loop-item.rest.now) ≡ bytes (instructions_in superclass c.in-Some.behind.now) = rw (c.in-Some.ensures, c.in-Try.is) refl in
    ap (λ more. c.loop-item.out ++ more) (sym h) ∙ c.loop-item.invariant superclass

pub loop-item-preserved-in_ok-place-in-Instruction : goal.loop-item-preserved-in_ok-place-in-Instruction
loop-item-preserved-in_ok-place-in-Instruction c = λ superclass.
    let pool = pool_in c.args.pool.now in
    let labels = places c.args.labels.now in
    let pc = c.loop-item.place in
    let next = c.in_ok-place-in-Instruction.place in
    let op = c.in-Instruction.opcode in
    let here = op ∷ operand_bytes pool labels pc (form_at op) c.in-Instruction.operand in
    let others = instruction_bytes pool labels next (instructions_in superclass c.in-Some.behind.now) in
    let size : next ≡ pc + size_of_opcode op = c.in_ok-place-in-Instruction.ensures ∙ ap (λ n. pc + n) c.size_of.ensures.size in
    let h : instruction_bytes pool labels pc (instructions_in superclass c.loop-item.rest.now) ≡ here ++ others = rw (c.in-Some.ensures, c.in-Instruction.is, size) refl in
    ap (λ out. out ++ others) c.in_ok-put_instruction-in-Instruction.ensures ∙ append_assoc c.loop-item.out here others ∙ ap (λ more. c.loop-item.out ++ more) (sym h) ∙ c.loop-item.invariant superclass
