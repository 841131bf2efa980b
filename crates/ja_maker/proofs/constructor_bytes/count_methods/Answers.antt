use Rattle.std.proofs.Common.{◌≡◌, suc, length, refl, arith}
use Rattle.std.specs.List.{flat_map}
use Rattle.ja_assembly.specs.Members.{expanded, methods}
use Rattle.ja_maker.proofs.constructor_bytes.count_methods.Goals as goal

pub returns : goal.returns
returns c = λ superclass.
    let h : length (methods (flat_map (expanded superclass) c.loop-item.rest.now)) ≡ 0 = rw c.in_default.ensures refl in
    omega (arith, h, c.loop-item.invariant superclass)

pub loop-item-preserved-in-Field : goal.loop-item-preserved-in-Field
loop-item-preserved-in-Field c = λ superclass.
    let h : length (methods (flat_map (expanded superclass) c.loop-item.rest.now)) ≡ length (methods (flat_map (expanded superclass) c.in-Some.behind.now)) = rw (c.in-Some.ensures, c.in-Field.is) refl in
    omega (arith, h, c.loop-item.invariant superclass)

pub loop-item-preserved-in-Try : goal.loop-item-preserved-in-Try
loop-item-preserved-in-Try c = λ superclass.
    let h : length (methods (flat_map (expanded superclass) c.loop-item.rest.now)) ≡ length (methods (flat_map (expanded superclass) c.in-Some.behind.now)) = rw (c.in-Some.ensures, c.in-Try.is) refl in
    omega (arith, h, c.loop-item.invariant superclass)

pub loop-item-preserved : goal.loop-item-preserved
loop-item-preserved c = λ superclass.
    let h : length (methods (flat_map (expanded superclass) c.loop-item.rest.now)) ≡ length (methods (flat_map (expanded superclass) c.in-Some.behind.now)) = rw (c.in-Some.ensures, c.in-Instruction.is) refl in
    omega (arith, h, c.loop-item.invariant superclass)

pub loop-item-preserved-in_ok-count-in-Method : goal.loop-item-preserved-in_ok-count-in-Method
loop-item-preserved-in_ok-count-in-Method c = λ superclass.
    let h : length (methods (flat_map (expanded superclass) c.loop-item.rest.now)) ≡ suc (length (methods (flat_map (expanded superclass) c.in-Some.behind.now))) = rw (c.in-Some.ensures, c.in-Method.is) refl in
    omega (arith, h, c.loop-item.invariant superclass, c.in_ok-count-in-Method.ensures)

pub loop-item-preserved-in_ok-count-in-Initializer : goal.loop-item-preserved-in_ok-count-in-Initializer
loop-item-preserved-in_ok-count-in-Initializer c = λ superclass.
    let h : length (methods (flat_map (expanded superclass) c.loop-item.rest.now)) ≡ suc (length (methods (flat_map (expanded superclass) c.in-Some.behind.now))) = rw (c.in-Some.ensures, c.in-Initializer.is) refl in
    omega (arith, h, c.loop-item.invariant superclass, c.in_ok-count-in-Initializer.ensures)
