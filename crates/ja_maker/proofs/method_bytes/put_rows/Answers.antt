use Rattle.std.proofs.Common.{◌≡◌, [], ◌++◌, refl, sym, ap, ◌∙◌, append_assoc}
use Rattle.std.proofs.lemmas.List.{append-nil}
use Rattle.ja_attributes.specs.Attribute.{handler_bytes}
use Rattle.ja_assembly.specs.InnerLabels.{places}
use Rattle.ja_assembly.specs.Assembled.{row_of}
use Rattle.ja_assembly.specs.Members.{ranges_in}
use Rattle.ja_maker.specs.InnerWriting.{pool_in, rows_in}
use Rattle.ja_maker.proofs.method_bytes.put_rows.Goals as goal

pub returns-in-Method : goal.returns-in-Method
returns-in-Method c = λ superclass.
    let h : rows_in (pool_in c.args.pool.now) (places c.args.labels.now) (ranges_in superclass c.loop-item.rest.now) ≡ [] = rw (c.in-Some.ensures, c.in-Method.is) refl in
    sym (append-nil c.loop-item.out) ∙ ap (λ bytes. c.loop-item.out ++ bytes) (sym h) ∙ c.loop-item.invariant superclass

pub returns-in-Initializer : goal.returns-in-Initializer
returns-in-Initializer c = λ superclass.
    let h : rows_in (pool_in c.args.pool.now) (places c.args.labels.now) (ranges_in superclass c.loop-item.rest.now) ≡ [] = rw (c.in-Some.ensures, c.in-Initializer.is) refl in
    sym (append-nil c.loop-item.out) ∙ ap (λ bytes. c.loop-item.out ++ bytes) (sym h) ∙ c.loop-item.invariant superclass

pub returns : goal.returns
returns c = λ superclass.
    let h : rows_in (pool_in c.args.pool.now) (places c.args.labels.now) (ranges_in superclass c.loop-item.rest.now) ≡ [] = rw c.in_default.ensures refl in
    sym (append-nil c.loop-item.out) ∙ ap (λ bytes. c.loop-item.out ++ bytes) (sym h) ∙ c.loop-item.invariant superclass

pub loop-item-preserved-in-Field : goal.loop-item-preserved-in-Field
loop-item-preserved-in-Field c = λ superclass.
    let rows = rows_in (pool_in c.args.pool.now) (places c.args.labels.now) in
    let h : rows (ranges_in superclass c.loop-item.rest.now) ≡ rows (ranges_in superclass c.in-Some.behind.now) = rw (c.in-Some.ensures, c.in-Field.is) refl in
    ap (λ more. c.loop-item.out ++ more) (sym h) ∙ c.loop-item.invariant superclass

pub loop-item-preserved : goal.loop-item-preserved
loop-item-preserved c = λ superclass.
    let rows = rows_in (pool_in c.args.pool.now) (places c.args.labels.now) in
    let h : rows (ranges_in superclass c.loop-item.rest.now) ≡ rows (ranges_in superclass c.in-Some.behind.now) = rw (c.in-Some.ensures, c.in-Instruction.is) refl in
    ap (λ more. c.loop-item.out ++ more) (sym h) ∙ c.loop-item.invariant superclass

pub loop-item-preserved-in_ok-put_range-in-Try : goal.loop-item-preserved-in_ok-put_range-in-Try
loop-item-preserved-in_ok-put_range-in-Try c = λ superclass.
    let pool = pool_in c.args.pool.now in
    let labels = places c.args.labels.now in
    let here = handler_bytes (row_of pool labels (record { start = c.in-Try.start; end = c.in-Try.end; handler = c.in-Try.handler; catch = c.in-Try.catch })) in
    let others = rows_in pool labels (ranges_in superclass c.in-Some.behind.now) in
    let h : rows_in pool labels (ranges_in superclass c.loop-item.rest.now) ≡ here ++ others = rw (c.in-Some.ensures, c.in-Try.is) refl in
    ap (λ out. out ++ others) c.in_ok-put_range-in-Try.ensures ∙ append_assoc c.loop-item.out here others ∙ ap (λ more. c.loop-item.out ++ more) (sym h) ∙ c.loop-item.invariant superclass
