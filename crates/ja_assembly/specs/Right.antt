-- What is right of the parts of a class whose items can all be written, and what a right pool tells: the facts between the
-- walk over the items, the pool, the code and the whole class file. A reader of the public contracts need not look here.
use Rattle.std.specs.Prelude.{◌≡◌, ℕ, ◌+◌, ◌<◌, ◌≤◌, ◌^◌, Bool, true, false, List, [], ◌∷◌, length, slice_get, slice_index, codes, Option, Some, None, ◌⊎◌}
use Rattle.std.specs.List.{AllByRecursion}
use Rattle.ja_base.specs.Tag as pool_tag
use Rattle.ja_bytes.specs.DescriptorText.{IsFieldDesc, IsMethodText}
use Rattle.ja_code.specs.Opcode.{form_at, is_refused}
use Rattle.ja_pool.specs.Table.{Table, tag_at, text_at, dims_of, brackets_of}
use Rattle.ja_listing.specs.declared.item.MemberName.{MemberName}
use Rattle.ja_listing.specs.declared.item.Frame.{Frame}
use Rattle.ja_listing.specs.Number.{has_code}
use Rattle.ja_listing.specs.Listed.{Listed}
use Rattle.ja_assembly.specs.declared.key.Key.{Key}
use Rattle.ja_assembly.specs.declared.key.Key.TheVariants as keys
use Rattle.ja_assembly.specs.Members.{fits, Member, Labelled, Range, Body, items_of_class, fields, methods, size_of_opcode, code_size, place_of_label}
use Rattle.ja_assembly.specs.Wanted.{class_keys, member_keys, operand_keys, operand_strings, catch_keys, head_keys, keys_of, pool_strings, entries}
use Rattle.ja_assembly.specs.Unwritable.{IsNoText, IsNoValue, IsNoHead, HasNoRoom, suits, is_some_of}
use Rattle.ja_assembly.specs.Assembled.{Pool, text_index, class_index, string_index, member_index, pool_for}
use Rattle.ja_assembly.specs.Written.{NamesClass, NamesText, NamesMember}

-- ---- entries that are asked for

-- one of a list
abbrev pub IsIn : {A : Type 0} → A → List A → Type 0
IsIn x xs = (place : ℕ) × (slice_get xs place ≡ Some x)

-- each of these is one of a list
abbrev pub AreIn : {A : Type 0} → List A → List A → Type 0
AreIn xs all = AllByRecursion (λ x. IsIn x all) xs

-- the descriptor that goes with the tag of a member
abbrev pub IsDescOf : ℕ → List ℕ → Type 0
IsDescOf tag desc = ((tag ≡ pool_tag.field) × IsFieldDesc desc) ⊎ (((tag ≡ pool_tag.method) ⊎ (tag ≡ pool_tag.interface_method)) × IsMethodText desc)

-- an entry that can stand in a pool
abbrev pub IsRightKey : Key → Type 0
IsRightKey (keys.Text text) = IsNoText text → ⊥
IsRightKey (keys.Class name) = Unit {0}
IsRightKey (keys.NameAndType name desc) = Unit {0}
IsRightKey (keys.Member tag class name desc) = IsDescOf tag desc

-- ---- what a pool tells by its indices

pub record TellsText (pool : Pool) (table : Table) (text : List ℕ) : Type 0 where
  pub fits : text_index pool text < 2 ^ 16
  pub tag : tag_at table (text_index pool text) ≡ pool_tag.utf8
  pub text_is : text_at table (text_index pool text) ≡ text

pub record TellsClass (pool : Pool) (table : Table) (name : List ℕ) : Type 0 where
  pub fits : class_index pool name < 2 ^ 16
  pub some : 1 ≤ class_index pool name
  pub names : NamesClass table (class_index pool name) name
  pub dims : slice_index (dims_of table) (class_index pool name) ≡ brackets_of name

pub record TellsString (pool : Pool) (table : Table) (text : List ℕ) : Type 0 where
  pub fits : string_index pool text < 256
  pub names : NamesText table (string_index pool text) text

pub record TellsMember (pool : Pool) (table : Table) (tag : ℕ) (m : MemberName) : Type 0 where
  pub fits : member_index pool tag m < 2 ^ 16
  pub names : NamesMember table tag (member_index pool tag m) m

-- each entry that is asked for stands at its index
pub record IsRightPool (pool : Pool) (table : Table) : Type 0 where
  pub texts : (text : List ℕ) → IsIn (keys.Text text) pool.keys → TellsText pool table text
  pub classes : (name : List ℕ) → AreIn (class_keys name) pool.keys → TellsClass pool table name
  pub strings : (text : List ℕ) → IsIn text pool.strings → IsIn (keys.Text text) pool.keys → TellsString pool table text
  pub members : (tag : ℕ) (m : MemberName) → AreIn (member_keys tag m) pool.keys → TellsMember pool table tag m

-- ---- methods

pub record IsRightInstruction (pool : Pool) (labels : List ℕ → Option ℕ) (pc : ℕ) (i : Labelled) : Type 0 where
  pub taken : is_refused i.opcode ≡ false
  pub suits_it : suits (form_at i.opcode) i.operand ≡ true
  pub value : IsNoValue labels pc (form_at i.opcode) i.operand → ⊥
  pub keys : AreIn (operand_keys i.opcode i.operand) pool.keys
  pub strings : AreIn (operand_strings i.operand) pool.strings

-- instructions, the first of them at pc
abbrev pub AreRightInstructions : Pool → (List ℕ → Option ℕ) → ℕ → List Labelled → Type 0
AreRightInstructions pool labels pc [] = Unit {0}
AreRightInstructions pool labels pc (i ∷ is) = IsRightInstruction pool labels pc i × AreRightInstructions pool labels (pc + size_of_opcode i.opcode) is

pub record IsRightRange (pool : Pool) (labels : List ℕ → Option ℕ) (r : Range) : Type 0 where
  pub start : ℕ
  pub end : ℕ
  pub handler : ℕ
  pub start_is : labels r.start ≡ Some start
  pub end_is : labels r.end ≡ Some end
  pub handler_is : labels r.handler ≡ Some handler
  pub some : start < end
  pub keys : AreIn (catch_keys r.catch) pool.keys

-- the instructions and the exception table of a method with code
pub record IsRightCode (pool : Pool) (is : List Labelled) (rs : List Range) (frame : Frame) : Type 0 where
  pub stack : fits 16 frame.stack ≡ true
  pub locals : fits 16 frame.locals ≡ true
  pub some : is_some_of is ≡ true
  pub short : code_size is ≤ 65535
  pub few : length rs ≤ 65535
  pub instructions : AreRightInstructions pool (place_of_label 0 is) 0 is
  pub ranges : AllByRecursion (IsRightRange pool (place_of_label 0 is)) rs
  pub name : IsIn (keys.Text (codes "Code")) pool.keys

-- the frame and what stands behind it, of a method that has code by its flags or not
abbrev pub IsRightFrame : Pool → List Labelled → List Range → Bool → Option Frame → Type 0
IsRightFrame pool is rs false None = Unit {0}
IsRightFrame pool is rs false (Some frame) = ⊥
IsRightFrame pool is rs true None = ⊥
IsRightFrame pool is rs true (Some frame) = IsRightCode pool is rs frame

-- ---- members and classes

pub record IsRightMember (pool : Pool) (m : Member) : Type 0 where
  pub flags : fits 16 m.flags ≡ true
  pub name : IsIn (keys.Text m.name) pool.keys
  pub desc : IsIn (keys.Text m.desc) pool.keys

pub record IsRightField (pool : Pool) (m : Member) : Type 0 where
  pub member : IsRightMember pool m
  pub field : IsFieldDesc m.desc

pub record IsRightMethod (pool : Pool) (b : Body) : Type 0 where
  pub member : IsRightMember pool b.member
  pub method : IsMethodText b.member.desc
  pub room : HasNoRoom b.member.flags b.member.desc → ⊥
  pub code : IsRightFrame pool b.instructions b.ranges (has_code b.member.flags) b.frame

-- a class whose items can all be written
pub record IsRightClass (c : Listed) : Type 0 where
  pub head : IsNoHead c.head → ⊥
  pub head_keys : AreIn (head_keys c.head) (pool_for c).keys
  pub right_keys : AllByRecursion IsRightKey (keys_of c.head (items_of_class c))
  pub few_strings : length (pool_strings (items_of_class c)) ≤ 255
  pub few_entries : entries c.head (items_of_class c) ≤ 65534
  pub few_fields : length (fields (items_of_class c)) ≤ 65535
  pub few_methods : length (methods (items_of_class c)) ≤ 65535
  pub fields : AllByRecursion (IsRightField (pool_for c)) (fields (items_of_class c))
  pub methods : AllByRecursion (IsRightMethod (pool_for c)) (methods (items_of_class c))
