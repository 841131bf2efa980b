use Rattle.std.proofs.Common.{◌≡◌, List, [], ◌++◌, map, refl, sym, ap, ◌∙◌, append_assoc}
use Rattle.std.specs.List.{flat_map}
use Rattle.std.proofs.lemmas.List.{append-nil}
use Rattle.ja_class.specs.ClassFile.{member_bytes}
use Rattle.ja_assembly.specs.Members.{Member, expanded, fields}
use Rattle.ja_assembly.specs.Assembled.{field_info}
use Rattle.ja_maker.specs.InnerWriting.{pool_in}
use Rattle.ja_maker.proofs.class_bytes.put_fields.Goals as goal

pub returns : goal.returns
returns c = λ superclass.
    let bytes = λ (ms : List Member). flat_map member_bytes (map (field_info (pool_in c.args.pool.now)) ms) in
    let h : fields (flat_map (expanded superclass) c.loop-item.rest.now) ≡ [] = rw c.in_default.ensures refl in
    sym (append-nil c.loop-item.out) ∙ ap (λ ms. c.loop-item.out ++ bytes ms) (sym h) ∙ c.loop-item.invariant superclass

pub loop-item-preserved-in-Method : goal.loop-item-preserved-in-Method
loop-item-preserved-in-Method c = λ superclass.
    let bytes = λ (ms : List Member). flat_map member_bytes (map (field_info (pool_in c.args.pool.now)) ms) in
    let h : fields (flat_map (expanded superclass) c.loop-item.rest.now) ≡ fields (flat_map (expanded superclass) c.in-Some.behind.now) = rw (c.in-Some.ensures, c.in-Method.is) refl in
    ap (λ ms. c.loop-item.out ++ bytes ms) (sym h) ∙ c.loop-item.invariant superclass

pub loop-item-preserved-in-Initializer : goal.loop-item-preserved-in-Initializer
loop-item-preserved-in-Initializer c = λ superclass.
    let bytes = λ (ms : List Member). flat_map member_bytes (map (field_info (pool_in c.args.pool.now)) ms) in
    let h : fields (flat_map (expanded superclass) c.loop-item.rest.now) ≡ fields (flat_map (expanded superclass) c.in-Some.behind.now) = rw (c.in-Some.ensures, c.in-Initializer.is) refl in
    ap (λ ms. c.loop-item.out ++ bytes ms) (sym h) ∙ c.loop-item.invariant superclass

pub loop-item-preserved-in-Try : goal.loop-item-preserved-in-Try
loop-item-preserved-in-Try c = λ superclass.
    let bytes = λ (ms : List Member). flat_map member_bytes (map (field_info (pool_in c.args.pool.now)) ms) in
    let h : fields (flat_map (expanded superclass) c.loop-item.rest.now) ≡ fields (flat_map (expanded superclass) c.in-Some.behind.now) = rw (c.in-Some.ensures, c.in-Try.is) refl in
    ap (λ ms. c.loop-item.out ++ bytes ms) (sym h) ∙ c.loop-item.invariant superclass

pub loop-item-preserved : goal.loop-item-preserved
loop-item-preserved c = λ superclass.
    let bytes = λ (ms : List Member). flat_map member_bytes (map (field_info (pool_in c.args.pool.now)) ms) in
    let h : fields (flat_map (expanded superclass) c.loop-item.rest.now) ≡ fields (flat_map (expanded superclass) c.in-Some.behind.now) = rw (c.in-Some.ensures, c.in-Instruction.is) refl in
    ap (λ ms. c.loop-item.out ++ bytes ms) (sym h) ∙ c.loop-item.invariant superclass

pub loop-item-preserved-in_ok-put_field-in-Field : goal.loop-item-preserved-in_ok-put_field-in-Field
loop-item-preserved-in_ok-put_field-in-Field c = λ superclass.
    let pool = pool_in c.args.pool.now in
    let bytes = λ (ms : List Member). flat_map member_bytes (map (field_info pool) ms) in
    let m : Member = record { flags = c.in-Field.flags; name = c.in-Field.name; desc = c.in-Field.desc } in
    let others = fields (flat_map (expanded superclass) c.in-Some.behind.now) in
    let h : bytes (fields (flat_map (expanded superclass) c.loop-item.rest.now)) ≡ member_bytes (field_info pool m) ++ bytes others = rw (c.in-Some.ensures, c.in-Field.is) refl in
    ap (λ out. out ++ bytes others) c.in_ok-put_field-in-Field.ensures ∙ append_assoc c.loop-item.out (member_bytes (field_info pool m)) (bytes others)
    ∙ ap (λ more. c.loop-item.out ++ more) (sym h) ∙ c.loop-item.invariant superclass
