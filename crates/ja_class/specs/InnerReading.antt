-- How the functions of the reader go, as functions on lists. Nothing here has to be believed:
-- `read_first` is held to `FirstForm` alone.
use Rattle.std.specs.Prelude.{◌≡◌, ℕ, zero, suc, ◌+◌, ◌-◌, Bool, true, false, ◌&&◌, List, [], ◌∷◌, length, take, drop, Option, Some, None, Result, Ok, Err, nat_lt, nat_le, nat_eq, is_some, not, bytes_eq, bit_and, codes, slice_index_or, slice_set, ◌==◌, if◌then◌else◌}
use Rattle.std.specs.Int.{Width, w16, w32, byte_len, from_be_bytes}
use Rattle.std.specs.List.{list_all, starts_with}
use Rattle.ja_base.specs.Tag as pool_tag
use Rattle.ja_base.specs.AccessFlags.{acc_interface, acc_abstract}
use Rattle.ja_code.specs.Number.{ldc, aload, aload_0, aload_3, astore, astore_0, astore_3, pop, return, invokestatic}
use Rattle.ja_class.specs.declared.first.FirstOp.{FirstOp}
use Rattle.ja_class.specs.declared.first.FirstOp.TheVariants as op
use Rattle.ja_class.specs.declared.first.FirstInstr.{FirstInstr}
use Rattle.ja_class.specs.declared.first.FirstMethod.{FirstMethod}
use Rattle.ja_class.specs.declared.first.frame.Frame.{Frame}
use Rattle.ja_class.specs.declared.first.FirstFault.{FirstFault}
use Rattle.ja_class.specs.declared.first.FirstFault.TheVariants.{Unbuilt, Memory}
use Rattle.ja_class.specs.Pool.{PoolEntry, Utf8, Class, String, Methodref, NameAndType, entry_at}
use Rattle.ja_class.specs.FirstForm.{ClassFile, MethodInfo, CodeAttribute}

infixl 10 ◌>>=◌
abbrev pub ◌>>=◌ : {A B : Type 0} → Option A → (A → Option B) → Option B
(Some x) >>= f = f x
None >>= f = None

-- what a function returned, seen by view, is what reading gives, unless memory ran out
abbrev pub Fails : {Y : Type 0} → FirstFault → Option Y → Type 0
Fails Unbuilt read = read ≡ None
Fails Memory read = Unit {0}

abbrev pub Gives : {X Y : Type 0} → (X → Y) → Result X FirstFault → Option Y → Type 0
Gives view (Ok x) read = read ≡ Some (view x)
Gives view (Err e) read = Fails e read

-- a number, and the bytes after it
abbrev pub number_at : Width → List ℕ → Option (ℕ × List ℕ)
number_at w bytes = if nat_lt (length bytes) (byte_len w) then None else Some (from_be_bytes w (take (byte_len w) bytes), drop (byte_len w) bytes)

-- the bytes after a number that must be this one
unfoldable pub after_number : Width → ℕ → List ℕ → Option (List ℕ)
after_number w expected bytes = do
  n ← number_at w bytes
  if n.0 == expected then Some n.1 else None

-- this many bytes, and the bytes after them
abbrev pub bytes_at : ℕ → List ℕ → Option (List ℕ × List ℕ)
bytes_at n bytes = if nat_lt (length bytes) n then None else Some (take n bytes, drop n bytes)

-- bytes behind their number
unfoldable pub sized_at : Width → List ℕ → Option (List ℕ × List ℕ)
sized_at w bytes = do
  n ← number_at w bytes
  bytes_at n.0 n.1

-- two numbers
unfoldable pub pair_at : List ℕ → Option ((ℕ × ℕ) × List ℕ)
pair_at bytes = do
  a ← number_at w16 bytes
  b ← number_at w16 a.1
  Some ((a.0, b.0), b.1)

-- what stands behind a tag
unfoldable pub tagged_at : ℕ → List ℕ → Option (PoolEntry × List ℕ)
tagged_at tag bytes =
    if tag == pool_tag.utf8 then (do
      text ← sized_at w16 bytes
      Some (Utf8 text.0, text.1))
    else if tag == pool_tag.class then (do
      name ← number_at w16 bytes
      Some (Class name.0, name.1))
    else if tag == pool_tag.string then (do
      text ← number_at w16 bytes
      Some (String text.0, text.1))
    else if tag == pool_tag.method then (do
      parts ← pair_at bytes
      Some (Methodref parts.0.0 parts.0.1, parts.1))
    else if tag == pool_tag.name_and_type then (do
      parts ← pair_at bytes
      Some (NameAndType parts.0.0 parts.0.1, parts.1))
    else None

unfoldable pub entry_from : List ℕ → Option (PoolEntry × List ℕ)
entry_from [] = None
entry_from (tag ∷ bytes) = tagged_at tag bytes

unfoldable pub entries_from : ℕ → List ℕ → Option (List PoolEntry × List ℕ)
entries_from zero bytes = Some ([], bytes)
entries_from (suc n) bytes = do
  first ← entry_from bytes
  others ← entries_from n first.1
  Some (first.0 ∷ others.0, others.1)

unfoldable pub pool_from : List ℕ → Option (List PoolEntry × List ℕ)
pool_from bytes = do
  count ← number_at w16 bytes
  if count.0 == 0 then None else entries_from (count.0 - 1) count.1

-- the version, behind the magic number
unfoldable pub version_from : List ℕ → Option ((ℕ × ℕ) × List ℕ)
version_from bytes = do
  rest ← after_number w32 0xcafebabe bytes
  pair_at rest

-- the flags, the class and its superclass; no interface, no field and one method follow
unfoldable pub class_from : List ℕ → Option ((ℕ × (ℕ × ℕ)) × List ℕ)
class_from bytes = do
  flags ← number_at w16 bytes
  names ← pair_at flags.1
  interfaces ← after_number w16 0 names.1
  fields ← after_number w16 0 interfaces
  methods ← after_number w16 1 fields
  Some ((flags.0, names.0), methods)

-- the frame and the code; no exception entry and no attribute follow
unfoldable pub content_from : List ℕ → Option (((ℕ × ℕ) × List ℕ) × List ℕ)
content_from bytes = do
  frame ← pair_at bytes
  code ← sized_at w32 frame.1
  handlers ← after_number w16 0 code.1
  attributes ← after_number w16 0 handlers
  Some ((frame.0, code.0), attributes)

-- a Code attribute
unfoldable pub attribute_from : List ℕ → Option (CodeAttribute × List ℕ)
attribute_from bytes = do
  name ← number_at w16 bytes
  len ← number_at w32 name.1
  content ← content_from len.1
  if len.0 == length content.0.1 + 12 then Some (record { attribute_name_index = name.0; max_stack = content.0.0.0; max_locals = content.0.0.1; code = content.0.1 }, content.1) else None

-- a method
unfoldable pub method_from : List ℕ → Option (MethodInfo × List ℕ)
method_from bytes = do
  flags ← after_number w16 9 bytes
  names ← pair_at flags
  attributes ← after_number w16 1 names.1
  code ← attribute_from attributes
  Some (record { name_index = names.0.0; descriptor_index = names.0.1; code = code.0 }, code.1)

-- a class file, all of the bytes
unfoldable pub file_from : List ℕ → Option ClassFile
file_from bytes = do
  version ← version_from bytes
  pool ← pool_from version.1
  class ← class_from pool.1
  method ← method_from class.1
  end ← after_number w16 0 method.1
  if length end == 0 then Some (record { minor_version = version.0.0; major_version = version.0.1; constant_pool = pool.0; access_flags = class.0.0; this_class = class.0.1.0; super_class = class.0.1.1; method = method.0 }) else None

-- the text of an entry
abbrev pub text_in : PoolEntry → Option (List ℕ)
text_in (Utf8 text) = Some text
text_in (Class name) = None
text_in (String text) = None
text_in (Methodref class name_and_type) = None
text_in (NameAndType name descriptor) = None

-- the text with an index
unfoldable pub text_at : List PoolEntry → ℕ → Option (List ℕ)
text_at pool i = entry_at pool i >>= text_in

-- the name of a class
abbrev pub name_in : List PoolEntry → PoolEntry → Option (List ℕ)
name_in pool (Utf8 text) = None
name_in pool (Class name) = text_at pool name
name_in pool (String text) = None
name_in pool (Methodref class name_and_type) = None
name_in pool (NameAndType name descriptor) = None

-- the name of the class with an index
unfoldable pub class_at : List PoolEntry → ℕ → Option (List ℕ)
class_at pool i = entry_at pool i >>= name_in pool

-- it is there, and has the property
abbrev pub holds_of : {A : Type 0} → Option A → (A → Bool) → Bool
holds_of None p = false
holds_of (Some x) p = p x

-- it is there, and is this text
abbrev pub is_this : Option (List ℕ) → List ℕ → Bool
is_this None text = false
is_this (Some found) text = bytes_eq found text

-- how many bytes of a character are left after a byte, where more were left before it
unfoldable pub left_after : (more byte : ℕ) → Option ℕ
left_after more byte =
    if more == 0 then
    (if nat_le 0x01 byte && nat_le byte 0x7f then Some 0
    else if nat_le 0xc0 byte && nat_le byte 0xdf then Some 1
    else if nat_le 0xe0 byte && nat_le byte 0xef then Some 2
    else None)
    else if nat_le 0x80 byte && nat_le byte 0xbf then Some (more - 1)
    else None

-- the bytes are whole characters, of the first of which this many bytes are left
unfoldable pub is_utf8 : ℕ → List ℕ → Bool
is_utf8 more [] = more == 0
is_utf8 more (byte ∷ bytes) = holds_of (left_after more byte) (λ left. is_utf8 left bytes)

-- the method of `demo/Taint` with this name and descriptor
abbrev pub member_named : (class name descriptor : List ℕ) → Option FirstOp
member_named class name descriptor =
    if bytes_eq class (codes "demo/Taint") then
    (if bytes_eq name (codes "source") && bytes_eq descriptor (codes "()Ljava/lang/String;") then Some op.Source
    else if bytes_eq name (codes "sink") && bytes_eq descriptor (codes "(Ljava/lang/String;)V") then Some op.Sink
    else None)
    else None

-- the method of a class that a name and a descriptor's entry names
abbrev pub member_in : List PoolEntry → List ℕ → PoolEntry → Option FirstOp
member_in pool class (Utf8 text) = None
member_in pool class (Class name) = None
member_in pool class (String text) = None
member_in pool class (Methodref a b) = None
member_in pool class (NameAndType name descriptor) = do
  n ← text_at pool name
  d ← text_at pool descriptor
  member_named class n d

-- the method that a class's and a name and type's index name
unfoldable pub member_at : List PoolEntry → ℕ → ℕ → Option FirstOp
member_at pool class name_and_type = do
  c ← class_at pool class
  e ← entry_at pool name_and_type
  member_in pool c e

-- the entry is one that the first form allows
unfoldable pub is_allowed : List PoolEntry → PoolEntry → Bool
is_allowed pool (Utf8 text) = is_utf8 0 text
is_allowed pool (Class name) = is_some (text_at pool name)
is_allowed pool (String text) = is_some (text_at pool text)
is_allowed pool (Methodref class name_and_type) = is_some (member_at pool class name_and_type)
is_allowed pool (NameAndType name descriptor) = is_some (text_at pool name) && is_some (text_at pool descriptor)

-- the call of a method
abbrev pub call_in : List PoolEntry → PoolEntry → Option FirstOp
call_in pool (Utf8 text) = None
call_in pool (Class name) = None
call_in pool (String text) = None
call_in pool (Methodref class name_and_type) = member_at pool class name_and_type
call_in pool (NameAndType name descriptor) = None

-- the operation that pushes a constant
abbrev pub constant_in : PoolEntry → Option FirstOp
constant_in (Utf8 text) = None
constant_in (Class name) = None
constant_in (String text) = Some op.Text
constant_in (Methodref class name_and_type) = None
constant_in (NameAndType name descriptor) = None

-- the operation that pushes the constant with an index
unfoldable pub constant_at : List PoolEntry → ℕ → Option FirstOp
constant_at pool i = entry_at pool i >>= constant_in

-- the call of the method with an index
unfoldable pub call_at : List PoolEntry → ℕ → Option FirstOp
call_at pool i = entry_at pool i >>= call_in pool

-- the first byte, and those after it
abbrev pub byte_at : List ℕ → Option (ℕ × List ℕ)
byte_at [] = None
byte_at (b ∷ bytes) = Some (b, bytes)

-- the operation behind its opcode, and the code after it
unfoldable pub operation_at : List PoolEntry → ℕ → List ℕ → Option (FirstOp × List ℕ)
operation_at pool opcode code =
    if opcode == ldc then (do
      index ← byte_at code
      text ← constant_at pool index.0
      Some (text, index.1))
    else if opcode == aload then (do
      local ← byte_at code
      Some (op.Load local.0, local.1))
    else if nat_le aload_0 opcode && nat_le opcode aload_3 then Some (op.Load (opcode - aload_0), code)
    else if opcode == astore then (do
      local ← byte_at code
      Some (op.Store local.0, local.1))
    else if nat_le astore_0 opcode && nat_le opcode astore_3 then Some (op.Store (opcode - astore_0), code)
    else if opcode == pop then Some (op.Pop, code)
    else if opcode == return then Some (op.Return, code)
    else if opcode == invokestatic then (do
      index ← number_at w16 code
      call ← call_at pool index.0
      Some (call, index.1))
    else None

-- the operation at the front of the code, and the code after it
unfoldable pub step_from : List PoolEntry → List ℕ → Option (FirstOp × List ℕ)
step_from pool code = do
  opcode ← byte_at code
  operation_at pool opcode.0 opcode.1

-- the instructions of code that ends at an offset, at most this many
unfoldable pub code_from : List PoolEntry → (end most : ℕ) → List ℕ → Option (List FirstInstr)
code_from pool end most [] = Some []
code_from pool end zero (b ∷ code) = None
code_from pool end (suc most) (b ∷ code) = do
  step ← step_from pool (b ∷ code)
  others ← code_from pool end most step.1
  Some (record { pc = end - length (b ∷ code); op = step.0 } ∷ others)

-- the frame after an operation, if it finds what it needs and does not return
unfoldable pub frame_after : Frame → FirstOp → Option Frame
frame_after frame (op.Load local) =
    if nat_lt local frame.locals && slice_index_or frame.set local false && nat_lt frame.height frame.stack then Some (record frame { height = frame.height + 1 }) else None
frame_after frame (op.Store local) =
    if nat_lt local frame.locals && nat_lt 0 frame.height then Some (record frame { height = frame.height - 1; set = slice_set frame.set local true }) else None
frame_after frame op.Text = if nat_lt frame.height frame.stack then Some (record frame { height = frame.height + 1 }) else None
frame_after frame op.Pop = if nat_lt 0 frame.height then Some (record frame { height = frame.height - 1 }) else None
frame_after frame op.Source = if nat_lt frame.height frame.stack then Some (record frame { height = frame.height + 1 }) else None
frame_after frame op.Sink = if nat_lt 0 frame.height then Some (record frame { height = frame.height - 1 }) else None
frame_after frame op.Return = None

-- the operation is the return
abbrev pub is_return : FirstOp → Bool
is_return (op.Load local) = false
is_return (op.Store local) = false
is_return op.Text = false
is_return op.Pop = false
is_return op.Source = false
is_return op.Sink = false
is_return op.Return = true

-- the instructions run from this frame to a return at their end
unfoldable pub runs : Frame → List FirstInstr → Bool
runs frame [] = false
runs frame (i ∷ []) = is_return i.op
runs frame (i ∷ (j ∷ is)) = holds_of (frame_after frame i.op) (λ next. runs next (j ∷ is))

-- the frame before the first instruction
abbrev pub first_frame : (locals stack : ℕ) → Frame
first_frame locals stack = record { locals = locals; stack = stack; height = 0; set = true ∷ false ∷ false ∷ false ∷ false ∷ false ∷ false ∷ false ∷ false ∷ false ∷ [] }

-- the method's frame is small enough, and its instructions run
unfoldable pub is_runnable : (locals stack : ℕ) → List FirstInstr → Bool
is_runnable locals stack code =
    nat_le 1 locals && nat_le (locals + stack) 10 && runs (first_frame locals stack) code

-- the numbers of a class file that are not indices
unfoldable pub has_numbers : ClassFile → Bool
has_numbers c =
    nat_le 45 c.major_version && nat_le c.major_version 52
    && (bit_and c.access_flags acc_interface == 0) && (bit_and c.access_flags acc_abstract == 0)
    && nat_lt (length c.method.code.code) 65536

-- the names of a class file, but for that of its class
unfoldable pub has_names : ClassFile → Bool
has_names c =
    is_this (class_at c.constant_pool c.super_class) (codes "java/lang/Object")
    && is_this (text_at c.constant_pool c.method.name_index) (codes "main")
    && is_this (text_at c.constant_pool c.method.descriptor_index) (codes "([Ljava/lang/String;)V")
    && is_this (text_at c.constant_pool c.method.code.attribute_name_index) (codes "Code")

-- the name may be that of a class of the program
unfoldable pub is_program_name : List ℕ → Bool
is_program_name name =
    not (starts_with nat_eq name (codes "[")) && not (starts_with nat_eq name (codes "java/"))
    && not (bytes_eq name (codes "demo/Taint"))

-- the name of a class of the program
unfoldable pub program_name : List PoolEntry → ℕ → Option (List ℕ)
program_name pool i = do
  name ← class_at pool i
  if is_program_name name then Some name else None

-- the instructions of a Code attribute, which run
unfoldable pub runnable_code : List PoolEntry → CodeAttribute → Option (List FirstInstr)
runnable_code pool a = do
  code ← code_from pool (length a.code) (length a.code) a.code
  if is_runnable a.max_locals a.max_stack code then Some code else None

-- the method of a class file
unfoldable pub method_in : ClassFile → Option FirstMethod
method_in c =
    if has_numbers c && has_names c && list_all (is_allowed c.constant_pool) c.constant_pool then (do
      name ← program_name c.constant_pool c.this_class
      code ← runnable_code c.constant_pool c.method.code
      Some (record { class = name; file = []; locals = c.method.code.max_locals; stack = c.method.code.max_stack; code = code }))
    else None

-- the method that the bytes spell
unfoldable pub method_from_bytes : List ℕ → Option FirstMethod
method_from_bytes bytes = do
  c ← file_from bytes
  method_in c
