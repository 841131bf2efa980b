-- What each program keeps.
use Rattle.std.specs.Prelude.{◌≡◌, ℕ, ◌+◌, ◌<◌, ◌≤◌, ◌^◌, ◌⊎◌, ◌↔◌, true, false, List, [], ◌∷◌, Option, Some, None, All, codes, length, slice_get, sum_by}
use Rattle.ja_base.specs.Limit.{max_categories, max_frame_values, max_numbered}
use Rattle.ja_base.specs.declared.java_type.JavaType.{JavaType}
use Rattle.ja_base.specs.Descriptor.{AreTypes, IsField, IsMethod, words_of_all}
use Rattle.ja_ir.specs.declared.program.Parts.{Parts}
use Rattle.ja_ir.specs.declared.class.Selection.{Selection}
use Rattle.ja_ir.specs.declared.class.MethodAt.{MethodAt}
use Rattle.ja_ir.specs.declared.class.MethodAt.TheVariants.{Program, Abstract, Library}
use Rattle.ja_ir.specs.declared.method.Method.{Method}
use Rattle.ja_ir.specs.declared.method.Instr.{Instr}
use Rattle.ja_ir.specs.declared.method.Handler.{Handler}
use Rattle.ja_ir.specs.declared.method.Catch.{Catch}
use Rattle.ja_ir.specs.declared.method.Catch.TheVariants.{All as Everything, Program as InClass, Library as InLibrary}
use Rattle.ja_ir.specs.declared.entry.Entry.{Entry}
use Rattle.ja_ir.specs.declared.entry.Site.{Site}
use Rattle.ja_ir.specs.declared.row.LibRow.{LibRow}
use Rattle.ja_ir.specs.declared.op.CallOp.{CallOp}
use Rattle.ja_ir.specs.declared.op.CallKind.{CallKind}
use Rattle.ja_ir.specs.declared.op.CallKind.TheVariants.{StaticField, MemberField}
use Rattle.ja_ir.specs.declared.op.Op.{Op}
use Rattle.ja_ir.specs.declared.op.Op.TheVariants.{New, Return, GetStatic, PutStatic, GetField, PutField, Call, NewArray}
use Rattle.ja_ir.specs.Lookup.{is_member, is_abstract, is_static, HasCode, instr_at}
use Rattle.ja_ir.specs.Categories.{category_count}
use Rattle.ja_ir.specs.Operations.{arguments, count_of, ends_method, height_after, FindsOperands, UsesLocals}
use Rattle.ja_ir.specs.Handlers.{in_range}

-- the number names a class
abbrev pub NamesClass : Parts → ℕ → Type 0
NamesClass p c = c < length p.classes

-- the number names a field
abbrev pub NamesField : Parts → ℕ → Type 0
NamesField p f = f < length p.fields

-- the number is one of a token
abbrev pub NamesToken : Parts → ℕ → Type 0
NamesToken p t = t < length p.classes + 4

-- what an operation names is there
abbrev pub NamesOperands : Parts → Op → Type 0
NamesOperands p (New token) = NamesToken p token.0
NamesOperands p (NewArray last _) = NamesToken p last.0
NamesOperands p (GetStatic field) = NamesField p field.0
NamesOperands p (PutStatic field) = NamesField p field.0
NamesOperands p (GetField field) = NamesField p field.0
NamesOperands p (PutField field) = NamesField p field.0
NamesOperands p _ = Unit {0}

-- the class that a handler names is there
abbrev pub NamesCaught : Parts → Catch → Type 0
NamesCaught p Everything = Unit {0}
NamesCaught p (InClass class) = NamesClass p class.0
NamesCaught p InLibrary = Unit {0}

-- the range and the target of a handler lie in a method of so many instructions
pub record LiesIn (p : Parts) (size : ℕ) (handler : Handler) : Type 0 where
  pub start : handler.start < size
  pub end : handler.end ≤ size
  pub target : handler.target < size
  pub class : NamesCaught p handler.catch

-- what an instruction of a method of so many instructions names is there
pub record NamesAll (p : Parts) (size : ℕ) (instr : Instr) : Type 0 where
  pub next : All (λ j. j < size) instr.next
  pub operands : NamesOperands p instr.op

-- method m has this name and descriptor
pub record IsNamed (p : Parts) (m : ℕ) (name desc : List ℕ) (method : Method) : Type 0 where
  pub found : slice_get p.methods m ≡ Some method
  pub is_name : method.name ≡ name
  pub is_desc : method.desc ≡ desc

-- the class declares a constructor without parameters that has code
pub record HasConstructor (p : Parts) (c : ℕ) : Type 0 where
  pub m : ℕ
  pub method : Method
  pub named : IsNamed p m (codes "<init>") (codes "()V") method
  pub declared : method.class.0 ≡ c
  pub member : is_member method.flags ≡ true
  pub code : HasCode method

-- the method of an entry has code; where it has a receiver, the entry's class declares a constructor for it; and the entry says of each
-- category whether marks of it may be given
pub record IsWholeEntry (p : Parts) (entry : Entry) : Type 0 where
  pub class : NamesClass p entry.class.0
  pub method : Method
  pub found : slice_get p.methods entry.method.0 ≡ Some method
  pub code : HasCode method
  pub receiver : is_member method.flags ≡ true → HasConstructor p entry.class.0
  pub marks : length entry.marks ≡ category_count p

-- where a look-up of a name and descriptor ended in a method, that method has them, and code or none as the answer says
abbrev pub IsAnswer : Parts → (name desc : List ℕ) → MethodAt → Type 0
IsAnswer p name desc (Program m) = (method : Method) × IsNamed p m.0 name desc method × HasCode method
IsAnswer p name desc (Abstract m) = (method : Method) × IsNamed p m.0 name desc method × (method.code ≡ [])
IsAnswer p name desc Library = Unit {0}

-- a method that a look-up ended in is not static
abbrev pub IsMember : Parts → MethodAt → Type 0
IsMember p (Program m) = (method : Method) → slice_get p.methods m.0 ≡ Some method → is_member method.flags ≡ true
IsMember p (Abstract m) = (method : Method) → slice_get p.methods m.0 ≡ Some method → is_member method.flags ≡ true
IsMember p Library = Unit {0}

-- the bytes are a field descriptor (JVM specification 4.3.2)
abbrev pub SpellsField : List ℕ → Type 0
SpellsField desc = (type : JavaType) × IsField desc type

-- the bytes are a method descriptor (JVM specification 4.3.3)
abbrev pub SpellsMethod : List ℕ → Type 0
SpellsMethod desc = (params : List JavaType) × (result : Option JavaType) × IsMethod desc params result

-- a selection answers a method of its name and descriptor that is not static
pub record IsWholeSelection (p : Parts) (selection : Selection) : Type 0 where
  pub spelled : SpellsMethod selection.desc
  pub answer : IsAnswer p selection.name selection.desc selection.target
  pub member : IsMember p selection.target

-- the arguments and the result of a call are those of its descriptor; of a field access, a read has the field's type as its
-- result, and a write has it as its one argument
abbrev pub HasTypes : CallKind → (desc : List ℕ) (params : List JavaType) (result : Option JavaType) → Type 0
HasTypes StaticField desc params result = (type : JavaType) × IsField desc type × (params ≡ []) × (result ≡ Some type)
HasTypes MemberField desc params result =
    (type : JavaType) × IsField desc type × (((params ≡ []) × (result ≡ Some type)) ⊎ ((params ≡ type ∷ []) × (result ≡ None)))
HasTypes _ desc params result = IsMethod desc params result

-- what a call found has its name and descriptor
abbrev pub IsFound : Parts → CallOp → Option MethodAt → Type 0
IsFound p call None = Unit {0}
IsFound p call (Some target) = IsAnswer p call.name call.desc target

-- a row says of each category of marks whether it makes them, and its sinks are about one of them
pub record IsWholeRow (p : Parts) (row : LibRow) : Type 0 where
  pub marks : length row.marks ≡ category_count p
  pub category : row.category < category_count p

-- a call agrees with its descriptor and with what it found, and its row is about the categories that there are; other operations say nothing
-- here
abbrev pub IsDescribed : Parts → Op → Type 0
IsDescribed p (Call call) = HasTypes call.kind call.desc call.params call.result × IsFound p call call.found × IsWholeRow p call.row
IsDescribed p _ = Unit {0}

-- a return takes a value exactly where the method has a result
abbrev pub ReturnsAs : Option JavaType → Op → Type 0
ReturnsAs result (Return None) = result ≡ None
ReturnsAs result (Return (Some _)) = (type : JavaType) × (result ≡ Some type)
ReturnsAs result _ = Unit {0}

-- a method's types are those of its descriptor, it has code exactly where it is not abstract, and its calls and returns agree with their types
pub record IsWholeMethod (p : Parts) (method : Method) : Type 0 where
  pub spelled : AreTypes method.desc method.types
  pub code : HasCode method ↔ (is_abstract method.flags ≡ false)
  pub calls : All (λ instr. IsDescribed p instr.op) method.code
  pub returns : All (λ instr. instr.reached ≡ true → ReturnsAs method.types.result instr.op) method.code

-- the number names a class initialiser: a static method <clinit> with the descriptor ()V and code (JVM specification 2.9)
pub record NamesInitializer (p : Parts) (m : ℕ) : Type 0 where
  pub method : Method
  pub named : IsNamed p m (codes "<clinit>") (codes "()V") method
  pub belongs : is_static method.flags ≡ true
  pub code : HasCode method

-- a site names a call, its positions are below the number of that call's arguments, and it is about a category that is there
pub record IsWholeSite (p : Parts) (site : Site) : Type 0 where
  pub instr : Instr
  pub call : CallOp
  pub found : instr_at p site.method.0 site.index ≡ Some instr
  pub is_call : instr.op ≡ Call call
  pub positions : All (λ k. k < arguments call) site.positions
  pub category : site.category < category_count p

-- the number of instructions in all methods together
abbrev pub instruction_count : Parts → ℕ
instruction_count p = sum_by (λ (method : Method). length method.code) p.methods

-- 67,108,864 classes, fields, methods and instructions at most, and no more sites than instructions
pub record IsSmall (p : Parts) : Type 0 where
  pub classes : length p.classes ≤ max_numbered
  pub fields : length p.fields ≤ max_numbered
  pub methods : length p.methods ≤ max_numbered
  pub instructions : instruction_count p ≤ max_numbered
  pub sites : length p.sites ≤ instruction_count p

-- instruction j is reached with so many values on the stack
pub record IsReachedAt (method : Method) (j height : ℕ) : Type 0 where
  pub instr : Instr
  pub found : slice_get method.code j ≡ Some instr
  pub reached : instr.reached ≡ true
  pub is_height : instr.height ≡ height

-- a method with code has room for its parameters, and its first instruction is reached with an empty stack
pub record Starts (method : Method) : Type 0 where
  pub room : count_of (is_member method.flags) + words_of_all method.types.params ≤ method.locals
  pub first : IsReachedAt method 0 0

-- a reached instruction i finds its operands and locals, and leads to reached instructions of the resulting height, a handler of
-- its range to one of height 1; it leads somewhere unless it ends the method
pub record Runs (method : Method) (i : ℕ) (instr : Instr) : Type 0 where
  pub height : instr.height ≤ method.stack
  pub operands : FindsOperands instr.op instr.height
  pub locals : UsesLocals instr.op method.locals
  pub next : All (λ j. IsReachedAt method j (height_after instr.op instr.height)) instr.next
  pub handlers : All (λ handler. in_range handler i ≡ true → IsReachedAt method handler.target 1) method.handlers
  pub goes_on : ends_method instr.op ≡ false → 0 < length instr.next

-- a whole program
pub record IsWhole (p : Parts) : Type 0 where
  -- each class that a class, a field or a method names is there
  pub supers : All (λ class. All (λ c. NamesClass p c.0) class.supers) p.classes
  pub field_classes : All (λ field. NamesClass p field.class.0) p.fields
  pub method_classes : All (λ method. NamesClass p method.class.0) p.methods
  -- each number and index of an instruction and of a handler names something
  pub instructions : All (λ method. All (NamesAll p (length method.code)) method.code) p.methods
  pub handlers : All (λ method. All (LiesIn p (length method.code)) method.handlers) p.methods
  -- each class initialiser that a class names is one
  pub inits : All (λ class. All (λ m. NamesInitializer p m.0) class.inits) p.classes
  -- there are few categories of marks
  pub categories : length p.categories ≤ max_categories
  -- each entry can be called
  pub entries : All (IsWholeEntry p) p.entries
  -- descriptors are descriptors, and agree with what they describe
  pub selections : All (λ class. All (IsWholeSelection p) class.selections) p.classes
  pub described : All (λ field. SpellsField field.desc) p.fields
  pub methods : All (IsWholeMethod p) p.methods
  -- each site names a call and some of its arguments
  pub sites : All (IsWholeSite p) p.sites
  -- the numbers of things are bounded
  pub small : IsSmall p
  -- a frame has at most 512 values
  pub frames : All (λ method. method.locals + method.stack ≤ max_frame_values) p.methods
  -- each method with code can begin
  pub starts : All (λ method. HasCode method → Starts method) p.methods
  -- each reached instruction can go on
  pub runs : All (λ method. (i : ℕ) (instr : Instr) → slice_get method.code i ≡ Some instr → instr.reached ≡ true → Runs method i instr) p.methods
