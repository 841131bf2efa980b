use Rattle.std.proofs.Common.{◌≡◌, List, [], ◌++◌, map, refl, sym, ap, ◌∙◌, append_assoc}
use Rattle.std.specs.List.{flat_map}
use Rattle.std.proofs.lemmas.List.{append-nil}
use Rattle.ja_class.specs.ClassFile.{member_bytes}
use Rattle.ja_assembly.specs.Members.{Body, expanded, methods, instructions_in, ranges_in}
use Rattle.ja_assembly.specs.Assembled.{method_info}
use Rattle.ja_maker.specs.InnerWriting.{pool_in}
use Rattle.ja_maker.specs.InnerConstructor.{constructor_body}
use Rattle.ja_maker.proofs.constructor_bytes.put_methods.Goals as goal

pub returns : goal.returns
returns c =
    let bytes = λ (bs : List Body). flat_map member_bytes (map (method_info (pool_in c.args.pool.now)) bs) in
    let h : methods (flat_map (expanded c.args.superclass.now) c.loop-item.rest.now) ≡ [] = rw c.in_default.ensures refl in
    sym (append-nil c.loop-item.out) ∙ ap (λ bs. c.loop-item.out ++ bytes bs) (sym h) ∙ c.loop-item.invariant

pub loop-item-preserved-in-Field : goal.loop-item-preserved-in-Field
loop-item-preserved-in-Field c =
    let bytes = λ (bs : List Body). flat_map member_bytes (map (method_info (pool_in c.args.pool.now)) bs) in
    let h : methods (flat_map (expanded c.args.superclass.now) c.loop-item.rest.now) ≡ methods (flat_map (expanded c.args.superclass.now) c.in-Some.behind.now) = rw (c.in-Some.ensures, c.in-Field.is) refl in
    ap (λ bs. c.loop-item.out ++ bytes bs) (sym h) ∙ c.loop-item.invariant

pub loop-item-preserved-in-Try : goal.loop-item-preserved-in-Try
loop-item-preserved-in-Try c =
    let bytes = λ (bs : List Body). flat_map member_bytes (map (method_info (pool_in c.args.pool.now)) bs) in
    let h : methods (flat_map (expanded c.args.superclass.now) c.loop-item.rest.now) ≡ methods (flat_map (expanded c.args.superclass.now) c.in-Some.behind.now) = rw (c.in-Some.ensures, c.in-Try.is) refl in
    ap (λ bs. c.loop-item.out ++ bytes bs) (sym h) ∙ c.loop-item.invariant

pub loop-item-preserved : goal.loop-item-preserved
loop-item-preserved c =
    let bytes = λ (bs : List Body). flat_map member_bytes (map (method_info (pool_in c.args.pool.now)) bs) in
    let h : methods (flat_map (expanded c.args.superclass.now) c.loop-item.rest.now) ≡ methods (flat_map (expanded c.args.superclass.now) c.in-Some.behind.now) = rw (c.in-Some.ensures, c.in-Instruction.is) refl in
    ap (λ bs. c.loop-item.out ++ bytes bs) (sym h) ∙ c.loop-item.invariant

pub loop-item-preserved-in_ok-put_method-in-Method : goal.loop-item-preserved-in_ok-put_method-in-Method
loop-item-preserved-in_ok-put_method-in-Method c =
    let s = c.args.superclass.now in
    let pool = pool_in c.args.pool.now in
    let bytes = λ (bs : List Body). flat_map member_bytes (map (method_info pool) bs) in
    let b : Body = record { member = record { flags = c.in-Method.flags; name = c.in-Method.name; desc = c.in-Method.desc }; frame = c.in-Method.frame; instructions = instructions_in s c.in-Some.behind.now; ranges = ranges_in s c.in-Some.behind.now } in
    let others = methods (flat_map (expanded s) c.in-Some.behind.now) in
    let h : bytes (methods (flat_map (expanded s) c.loop-item.rest.now)) ≡ member_bytes (method_info pool b) ++ bytes others = rw (c.in-Some.ensures, c.in-Method.is) refl in
    ap (λ out. out ++ bytes others) (c.in_ok-put_method-in-Method.ensures s) ∙ append_assoc c.loop-item.out (member_bytes (method_info pool b)) (bytes others)
    ∙ ap (λ more. c.loop-item.out ++ more) (sym h) ∙ c.loop-item.invariant

pub loop-item-preserved-in_ok-put_constructor-in-Initializer : goal.loop-item-preserved-in_ok-put_constructor-in-Initializer
loop-item-preserved-in_ok-put_constructor-in-Initializer c =
    let s = c.args.superclass.now in
    let pool = pool_in c.args.pool.now in
    let bytes = λ (bs : List Body). flat_map member_bytes (map (method_info pool) bs) in
    let b : Body = constructor_body s s c.in-Some.behind.now in
    let others = methods (flat_map (expanded s) c.in-Some.behind.now) in
    let h : bytes (methods (flat_map (expanded s) c.loop-item.rest.now)) ≡ member_bytes (method_info pool b) ++ bytes others = rw (c.in-Some.ensures, c.in-Initializer.is) refl in
    ap (λ out. out ++ bytes others) (c.in_ok-put_constructor-in-Initializer.ensures s) ∙ append_assoc c.loop-item.out (member_bytes (method_info pool b)) (bytes others)
    ∙ ap (λ more. c.loop-item.out ++ more) (sym h) ∙ c.loop-item.invariant
