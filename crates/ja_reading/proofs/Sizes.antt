-- A class declares no more fields, methods and instructions than its file has bytes.
use Rattle.std.proofs.Common.{◌≡◌, ℕ, ◌+◌, ◌≤◌, Bool, true, false, cond, List, [], ◌∷◌, ◌++◌, length, codes, Option, Some, None, refl, ap, arith, length-append}
use Rattle.std.specs.Prelude.{sum_by}
use Rattle.std.specs.List.{filter, flat_map}
use Rattle.std.proofs.lemmas.List.{map-append}
use Rattle.std.proofs.lemmas.List.Sums.{sum_by-append}
use Rattle.ja_attributes.specs.Attribute.{AttributeInfo, attribute_bytes, code_bytes, IsCode, named, SayCode}
use Rattle.ja_attributes.specs.declared.code.MethodCode.{MethodCode}
use Rattle.ja_class.specs.ClassFile.{AreFields, AreMethods, ClassFile, IsClass, member_bytes, MemberInfo, spelling}
use Rattle.ja_class.specs.Meaning.{ClassSpelled, code_said, needs_code}
use Rattle.ja_class.specs.declared.class.ClassMethod.{ClassMethod}
use Rattle.ja_code.specs.Grammar.{AreInstrs}
use Rattle.ja_code.specs.declared.instr.RawInstr.{RawInstr}
use Rattle.ja_code.proofs.Complete.{instr_length}
use Rattle.ja_hier.specs.declared.starts.Member.TheVariants.{Field, Method}
use Rattle.ja_hier.specs.Members.{count_of}
use Rattle.ja_ir.specs.declared.head.HeadField.{HeadField}
use Rattle.ja_ir.specs.declared.head.HeadMethod.{HeadMethod}
use Rattle.ja_lower.specs.Program.{AreFew, code_length, heads_of}
use Rattle.ja_pool.specs.Table.{Table}
use Rattle.ja_reading.specs.Sizes.{AreWithin}

rest_within : (xs ys : List ℕ) → length ys ≤ length (xs ++ ys)
rest_within xs ys = omega (arith, length-append xs ys)

front_within : (xs ys : List ℕ) → length xs ≤ length (xs ++ ys)
front_within xs ys = omega (arith, length-append xs ys)

-- instructions have a byte each
instr_count : (tags dims : List ℕ) (pc : ℕ) (text : List ℕ) (instrs : List RawInstr) → AreInstrs tags dims pc text instrs → length instrs ≤ length text
instr_count tags dims pc _ _ AreInstrs.none = omega arith
instr_count tags dims pc _ _ (AreInstrs.next text rest {i} {is} one others) =
    let some = (instr_length tags dims pc text i one).1 in
    let more = instr_count tags dims (pc + length text) rest is others in
    omega (arith, length-append text rest)

-- the code of a method has no more instructions than the content of its attribute has bytes
code_count : (table : Table) (info : List ℕ) (spelled : MethodCode) → IsCode table info spelled → length spelled.code.instrs ≤ length info
code_count table info spelled is =
    let a = is.attribute in
    let instrs = instr_count _ _ 0 a.code spelled.code.instrs is.spells.instrs in
    let size : length info ≡ length (code_bytes a) = ap length is.bytes in
    let within : length a.code ≤ length (code_bytes a) = simp length-append (omega arith) in
    omega arith

-- the content of one of the attributes that pass a test
content_step : (x : AttributeInfo) (xs kept_items : List AttributeInfo) (a : AttributeInfo) (rest : List AttributeInfo)
    → (kept_items ≡ a ∷ rest → length a.info ≤ length (flat_map attribute_bytes xs)) → (b : Bool) → cond b (x ∷ kept_items) kept_items ≡ a ∷ rest
    → length a.info ≤ length (flat_map attribute_bytes (x ∷ xs))
content_step x xs kept_items a rest inner true here =
    let same : x ≡ a = cc in
    let content : length x.info ≤ length (attribute_bytes x) = simp length-append (omega arith) in
    let same_content : length x.info ≡ length a.info = ap (λ (y : AttributeInfo). length y.info) same in
    omega (arith, length-append (attribute_bytes x) (flat_map attribute_bytes xs))
content_step x xs kept_items a rest inner false there =
    let within = inner there in omega (arith, length-append (attribute_bytes x) (flat_map attribute_bytes xs))

content_within : (p : AttributeInfo → Bool) (attributes : List AttributeInfo) (a : AttributeInfo) (rest : List AttributeInfo) → filter p attributes ≡ a ∷ rest
    → length a.info ≤ length (flat_map attribute_bytes attributes)
content_within p [] a rest is = cc
content_within p (x ∷ xs) a rest is = content_step x xs (filter p xs) a rest (content_within p xs a rest) (p x) is

-- a method has no more instructions than its attributes have bytes
said_count : (table : Table) (needs : Bool) (p : AttributeInfo → Bool) (attributes codes_named : List AttributeInfo) (found : Option MethodCode)
    → filter p attributes ≡ codes_named → SayCode table needs codes_named found → code_length (code_said found).code ≤ length (flat_map attribute_bytes attributes)
said_count table false p attributes [] None is say = omega arith
said_count table false p attributes [] (Some code) is say = absurd say
said_count table false p attributes (a ∷ rest) found is say = absurd say
said_count table true p attributes [] found is say = absurd say
said_count table true p attributes (a ∷ []) None is say = absurd say
said_count table true p attributes (a ∷ []) (Some code) is say =
    let content = content_within p attributes a [] is in
    let count = code_count table a.info code say in
    omega arith
said_count table true p attributes (a ∷ b ∷ rest) found is say = absurd say

-- a member has a byte, and its attributes lie within its bytes
member_size : (m : MemberInfo) → (1 ≤ length (member_bytes m)) × (length (flat_map attribute_bytes m.attributes) ≤ length (member_bytes m))
member_size m = (simp length-append (omega arith), simp length-append (omega arith))

-- fields one after another
fields_count : (table : Table) (members : List MemberInfo) (said : List HeadField) → AreFields table members said → length said ≤ length (flat_map member_bytes members)
fields_count table [] [] are = omega arith
fields_count table [] (f ∷ said) are = absurd are
fields_count table (m ∷ members) [] are = absurd are
fields_count table (m ∷ members) (f ∷ said) are =
    let some = (member_size m).0 in
    let others = fields_count table members said are.1 in
    omega (arith, length-append (member_bytes m) (flat_map member_bytes members))

-- methods one after another, and their instructions
methods_count : (table : Table) (members : List MemberInfo) (said : List HeadMethod) (bodies : List ClassMethod) → AreMethods table members said bodies
    → (length said ≤ length (flat_map member_bytes members)) × (sum_by (λ (body : ClassMethod). code_length body.code) bodies ≤ length (flat_map member_bytes members))
methods_count table [] [] [] are = (omega arith, omega arith)
methods_count table [] [] (b ∷ bodies) are = absurd are
methods_count table [] (h ∷ said) bodies are = absurd are
methods_count table (m ∷ members) [] bodies are = absurd are
methods_count table (m ∷ members) (h ∷ said) [] are = absurd are
methods_count table (m ∷ members) (h ∷ said) (b ∷ bodies) are =
    let some = member_size m in
    let one = are.0 in
    let others = methods_count table members said bodies are.1 in
    let instrs : code_length (code_said one.found).code ≤ length (flat_map attribute_bytes m.attributes) =
    said_count table (needs_code m.access_flags) _ m.attributes (named table (codes "Code") m.attributes) one.found refl one.say in
    let body : code_length b.code ≡ code_length (code_said one.found).code = ap (λ (x : ClassMethod). code_length x.code) one.code_is in
    let whole = length-append (member_bytes m) (flat_map member_bytes members) in
    let sums = sum_by-append (λ (x : ClassMethod). code_length x.code) (b ∷ []) bodies in
    (omega (arith, whole), omega (arith, whole, sums))

-- the sizes of a class, by the bytes of its file
pub record IsSized (class : ClassSpelled) (bytes : ℕ) : Type 0 where
  pub some : 1 ≤ bytes
  pub fields : length class.head.fields ≤ bytes
  pub methods : length class.head.methods ≤ bytes
  pub instructions : sum_by (λ (body : ClassMethod). code_length body.code) class.methods ≤ bytes

-- both lists of members lie within the bytes of a class file
spelled_size : (c : ClassFile) → (1 ≤ length (spelling c)) × (length (flat_map member_bytes c.fields) ≤ length (spelling c)) × (length (flat_map member_bytes c.methods) ≤ length (spelling c))
spelled_size c = (simp length-append (omega arith), simp length-append (omega arith), simp length-append (omega arith))

pub sized : (bytes : List ℕ) (class : ClassSpelled) → IsClass bytes class → IsSized class (length bytes)
sized bytes class is =
    let size : length bytes ≡ length (spelling is.file) = ap length is.whole in
    let within = spelled_size is.file in
    let fields = fields_count _ is.file.fields class.head.fields is.says.fields in
    let methods = methods_count _ is.file.methods class.head.methods class.methods is.says.methods in
    record { some = omega arith; fields = omega arith; methods = omega arith; instructions = omega arith }

-- no class declares anything
pub nothing_within : AreWithin [] 0
nothing_within = record { classes = omega arith; fields = omega arith; methods = omega arith; instructions = omega arith }

-- one class more
pub within_more : (classes : List ClassSpelled) (class : ClassSpelled) (total bytes : ℕ) → AreWithin classes total → IsSized class bytes
    → AreWithin (classes ++ class ∷ []) (total + bytes)
within_more classes class total bytes within is =
    let heads : heads_of (classes ++ class ∷ []) ≡ heads_of classes ++ class.head ∷ [] = map-append (λ (x : ClassSpelled). x.head) classes (class ∷ []) in
    record {
      classes = rw heads (simp length-append (omega (arith, within.classes, is.some)));
      fields = rw heads (rw (sum_by-append (count_of Field) (heads_of classes) (class.head ∷ [])) (omega (arith, within.fields, is.fields)));
      methods = rw heads (rw (sum_by-append (count_of Method) (heads_of classes) (class.head ∷ [])) (omega (arith, within.methods, is.methods)));
      instructions = rw (sum_by-append (λ (x : ClassSpelled). sum_by (λ (body : ClassMethod). code_length body.code) x.methods) classes (class ∷ []))
          (omega (arith, within.instructions, is.instructions));
    }

-- more bytes
pub within_later : (classes : List ClassSpelled) (total more : ℕ) → AreWithin classes total → total ≤ more → AreWithin classes more
within_later classes total more within later = record {
  classes = omega (arith, within.classes);
  fields = omega (arith, within.fields);
  methods = omega (arith, within.methods);
  instructions = omega (arith, within.instructions);
}

-- classes of 64 MiB at most can be lowered
pub few_classes : (classes : List ClassSpelled) (total : ℕ) → AreWithin classes total → total ≤ 67108864 → AreFew classes
few_classes classes total within short = record {
  numbered = record { classes = omega (arith, within.classes); fields = omega (arith, within.fields); methods = omega (arith, within.methods) };
  instructions = omega (arith, within.instructions);
}
