use Rattle.std.proofs.Common.{◌≡◌, suc, length, refl, arith}
use Rattle.ja_assembly.specs.Members.{ranges_in}
use Rattle.ja_maker.proofs.method_bytes.count_rows.Goals as goal

pub returns-in-Method : goal.returns-in-Method
returns-in-Method c = λ superclass.
    let h : length (ranges_in superclass c.loop-item.rest.now) ≡ 0 = rw (c.in-Some.ensures, c.in-Method.is) refl in
    omega (arith, h, c.loop-item.invariant superclass)

pub returns-in-Initializer : goal.returns-in-Initializer
returns-in-Initializer c = λ superclass.
    let h : length (ranges_in superclass c.loop-item.rest.now) ≡ 0 = rw (c.in-Some.ensures, c.in-Initializer.is) refl in
    omega (arith, h, c.loop-item.invariant superclass)

pub returns : goal.returns
returns c = λ superclass.
    let h : length (ranges_in superclass c.loop-item.rest.now) ≡ 0 = rw c.in_default.ensures refl in
    omega (arith, h, c.loop-item.invariant superclass)

pub loop-item-preserved-in-Field : goal.loop-item-preserved-in-Field
loop-item-preserved-in-Field c = λ superclass.
    let h : length (ranges_in superclass c.loop-item.rest.now) ≡ length (ranges_in superclass c.in-Some.behind.now) = rw (c.in-Some.ensures, c.in-Field.is) refl in
    omega (arith, h, c.loop-item.invariant superclass)

pub loop-item-preserved : goal.loop-item-preserved
loop-item-preserved c = λ superclass.
    let h : length (ranges_in superclass c.loop-item.rest.now) ≡ length (ranges_in superclass c.in-Some.behind.now) = rw (c.in-Some.ensures, c.in-Instruction.is) refl in
    omega (arith, h, c.loop-item.invariant superclass)

pub loop-item-preserved-in_ok-count-in-Try : goal.loop-item-preserved-in_ok-count-in-Try
loop-item-preserved-in_ok-count-in-Try c = λ superclass.
    let h : length (ranges_in superclass c.loop-item.rest.now) ≡ suc (length (ranges_in superclass c.in-Some.behind.now)) = rw (c.in-Some.ensures, c.in-Try.is) refl in
    omega (arith, h, c.loop-item.invariant superclass, c.in_ok-count-in-Try.ensures)
