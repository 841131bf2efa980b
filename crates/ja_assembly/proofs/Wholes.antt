-- From what is right of the parts of a class to its whole class file.
use Rattle.std.proofs.Common.{◌≡◌, ℕ, ◌+◌, ◌<◌, ◌≤◌, ◌^◌, Bool, true, false, not, inl, inr, List, [], ◌∷◌, map, codes, bit_and, Option, Some, None, refl, arith}
use Rattle.std.specs.Prelude.{slice_index, ◌==◌, ◌||◌}
use Rattle.std.specs.List.{AllByRecursion}
use Rattle.std.proofs.lemmas.Bool.{cases_Bool, eqb-true, ltb-true, and_parts}
use Rattle.std.proofs.lemmas.Slice.Eq.{bytes_eq-Decides}
use Rattle.std.proofs.lemmas.List.{length-map}
use Rattle.ja_base.specs.Descriptor.{words_of_all}
use Rattle.ja_bytes.specs.DescriptorText.{IsMethodText}
use Rattle.ja_pool.specs.Table.{Table, text_at, class_name_at}
use Rattle.ja_attributes.specs.Attribute.{AttributeInfo, IsAttribute, named, is_named, SayCode, code_bytes}
use Rattle.ja_attributes.specs.declared.code.MethodCode.{MethodCode}
use Rattle.ja_ir.specs.declared.head.HeadField.{HeadField}
use Rattle.ja_ir.specs.declared.head.HeadMethod.{HeadMethod}
use Rattle.ja_class.specs.declared.class.ClassMethod.{ClassMethod}
use Rattle.ja_class.specs.Member.{is_array, IsMethodDesc}
use Rattle.ja_class.specs.Meaning.{ClassSpelled, field_said, method_said, code_said, super_said}
use Rattle.ja_class.specs.ClassFile.{pool_of, spelling, IsPool, AreAttributes, IsMember, AreFields, AreMethods}
use Rattle.ja_listing.specs.declared.number.Number.{Number}
use Rattle.ja_listing.specs.declared.item.Frame.{Frame}
use Rattle.ja_listing.specs.Number.{has_code}
use Rattle.ja_listing.specs.Listed.{Listed}
use Rattle.ja_assembly.specs.Members.{fits, Member, Labelled, Range, Body, items_of_class, fields, methods}
use Rattle.ja_assembly.specs.Unwritable.{HasNoRoom}
use Rattle.ja_assembly.specs.Wanted.{pool_strings}
use Rattle.ja_assembly.specs.Assembled.{Pool, text_index, class_index, code_of, attributes_of, member_info, field_info, method_info, pool_for, file_of}
use Rattle.ja_assembly.specs.Written.{SaysMember, SayFields, SaysAttribute, SayAttributes, SayMethods, IsOrdered, IsWritten}
use Rattle.ja_assembly.specs.Right.{IsRightPool, IsRightCode, IsRightFrame, IsRightMember, IsRightField, IsRightMethod, IsRightClass}
use Rattle.ja_assembly.proofs.CodeFlags.{needs_code-is}

-- the attribute of a code
abbrev pub code_attribute : Pool → List Labelled → List Range → Frame → AttributeInfo
code_attribute pool is rs frame = record { attribute_name_index = text_index pool (codes "Code"); info = code_bytes (code_of pool is rs frame) }

-- the code of a method that is right is written right
abbrev pub CodeIsWritten : Pool → Table → Body → Frame → Type 0
CodeIsWritten pool table b frame =
    IsAttribute table (code_attribute pool b.instructions b.ranges frame)
    × SaysAttribute table b frame (code_attribute pool b.instructions b.ranges frame)

-- ---- fields and methods

-- a number that fits its field
fitting : (n : Number) → fits 16 n ≡ true → n.size < 2 ^ 16
fitting n h = ltb-true n.size 65536 (and_parts _ (not n.negative || n.size == 0) h).0

no_attributes : (table : Table) → AreAttributes table []
no_attributes table = record { few = omega arith; each = tt }

is_member : (pool : Pool) (table : Table) (m : Member) (attributes : List AttributeInfo) → IsRightPool pool table → IsRightMember pool m
    → AreAttributes table attributes → IsMember table (member_info pool m attributes)
is_member pool table m attributes right h are =
    let name = right.texts m.name h.name in
    let desc = right.texts m.desc h.desc in
    record {
      flags = fitting m.flags h.flags;
      name = record { fits = name.fits; names = name.tag };
      descriptor = record { fits = desc.fits; names = desc.tag };
      attributes = are;
    }

says_member : (pool : Pool) (table : Table) (m : Member) → IsRightPool pool table → IsRightMember pool m
    → SaysMember table m m.flags.size (text_index pool m.name) (text_index pool m.desc)
says_member pool table m right h =
    let name = right.texts m.name h.name in
    let desc = right.texts m.desc h.desc in
    record { flags_are = refl; name_tag = name.tag; name_is = name.text_is; desc_tag = desc.tag; desc_is = desc.text_is }

-- ---- fields

-- what a field says
said_of_field : Pool → Table → Member → HeadField
said_of_field pool table m = field_said table m.flags.size (text_index pool m.name) (text_index pool m.desc) None

fields_of : Pool → Table → List Member → List HeadField
fields_of pool table [] = []
fields_of pool table (m ∷ ms) = said_of_field pool table m ∷ fields_of pool table ms

are_fields : (pool : Pool) (table : Table) (ms : List Member) → IsRightPool pool table → AllByRecursion (IsRightField pool) ms
    → AreFields table (map (field_info pool) ms) (fields_of pool table ms)
unfolding said_of_field fields_of
are_fields pool table [] right h = tt
are_fields pool table (m ∷ ms) right h =
    let desc = right.texts m.desc h.0.member.desc in (
      record {
        member = is_member pool table m [] right h.0.member (no_attributes table);
        descriptor = rw desc.text_is (h.0.field);
        constant = None;
        say = tt;
        is = refl;
      },
      are_fields pool table ms right h.1,
    )

say_fields : (pool : Pool) (table : Table) (ms : List Member) → IsRightPool pool table → AllByRecursion (IsRightField pool) ms
    → SayFields table ms (map (field_info pool) ms)
say_fields pool table [] right h = tt
say_fields pool table (m ∷ ms) right h = (says_member pool table m right h.0.member, refl, say_fields pool table ms right h.1)

-- ---- methods

-- a descriptor that leaves room for the receiver
has_room : (flags : Number) (desc : List ℕ) → IsMethodText desc → (HasNoRoom flags desc → ⊥) → IsMethodDesc flags.size desc
has_room flags desc text room = elim (cases_Bool (bit_and flags.size 8 == 0)) [
  | inl instance ↦ record { params = text.params; result = text.result; method = text.method; words = rw instance (few instance) }
  | inr static ↦ record { params = text.params; result = text.result; method = text.method; words = rw static (omega (arith, text.method.most)) }
]
  where
    few : (bit_and flags.size 8 == 0) ≡ true → words_of_all text.params + 1 ≤ 255
    few instance =
        let roomy : 254 < words_of_all text.params → ⊥ = λ over. room (text.params, text.result, text.method, (eqb-true (bit_and flags.size 8) 0 instance, over)) in
        omega (arith, roomy)

-- what is shown of the attributes of a method
record AttributesAre (pool : Pool) (table : Table) (b : Body) (frame : Option Frame) (code : Bool) : Type 0 where
  are : AreAttributes table (attributes_of pool b.instructions b.ranges frame)
  found : Option MethodCode
  say : SayCode table code (named table (codes "Code") (attributes_of pool b.instructions b.ranges frame)) found
  says : SayAttributes table b frame code (attributes_of pool b.instructions b.ranges frame)

attributes_are : (pool : Pool) (table : Table) (b : Body) (frame : Option Frame) (code : Bool)
    → ((frame : Frame) → IsRightCode pool b.instructions b.ranges frame → CodeIsWritten pool table b frame)
    → IsRightFrame pool b.instructions b.ranges code frame → AttributesAre pool table b frame code
attributes_are pool table b None false written h = record { are = no_attributes table; found = None; say = tt; says = refl }
attributes_are pool table b (Some frame) false written h = absurd h
attributes_are pool table b None true written h = absurd h
attributes_are pool table b (Some frame) true written h =
    let w = written frame h in
    let name : is_named table (codes "Code") (text_index pool (codes "Code")) ≡ true = (bytes_eq-Decides (text_at table (text_index pool (codes "Code"))) (codes "Code")).1 w.1.name_is in
    record {
      are = record { few = omega arith; each = (w.0, tt) };
      found = Some w.1.spelled;
      say = rw name w.1.code;
      says = w.1;
    }

-- what a method says, and its code
says_of_methods : Pool → Table → List Body → List HeadMethod
says_of_methods pool table [] = []
says_of_methods pool table (b ∷ bs) = method_said table b.member.flags.size (text_index pool b.member.name) (text_index pool b.member.desc) ∷ says_of_methods pool table bs

-- what is shown of methods
record MethodsAre (pool : Pool) (table : Table) (bs : List Body) : Type 0 where
  codes_are : List ClassMethod
  are : AreMethods table (map (method_info pool) bs) (says_of_methods pool table bs) codes_are
  say : SayMethods table bs (map (method_info pool) bs)

methods_are : (pool : Pool) (table : Table) (bs : List Body) → IsRightPool pool table
    → ((b : Body) (frame : Frame) → IsRightCode pool b.instructions b.ranges frame → CodeIsWritten pool table b frame)
    → AllByRecursion (IsRightMethod pool) bs → MethodsAre pool table bs
unfolding says_of_methods
methods_are pool table [] right written h = record { codes_are = []; are = tt; say = tt }
methods_are pool table (b ∷ bs) right written h =
    let others = methods_are pool table bs right written h.1 in
    let m = h.0 in
    let desc = right.texts b.member.desc m.member.desc in
    let a = attributes_are pool table b b.frame (has_code b.member.flags) (written b) m.code in
    record {
      codes_are = code_said a.found ∷ others.codes_are;
      are = (
        record {
          member = is_member pool table b.member (attributes_of pool b.instructions b.ranges b.frame) right m.member a.are;
          descriptor = rw desc.text_is (has_room b.member.flags b.member.desc m.method m.room);
          found = a.found;
          say = rw (needs_code-is b.member.flags.size) a.say;
          is = refl;
          code_is = refl;
        },
        others.are,
      );
      say = (says_member pool table b.member right m.member, a.says, others.say);
    }

-- ---- the class

-- a name that does not begin with '[' is that of no array
no_array : (name : List ℕ) → (slice_index name 0 ≡ 91 → ⊥) → is_array name ≡ false
no_array [] h = refl
no_array (b ∷ name) h = elim (cases_Bool (b == 91)) [ inl same ↦ absurd (h (eqb-true b 91 same)) | inr other ↦ other ]

-- the class that the class file of a listed class says, where these are the codes of its methods
class_of : Listed → List ClassMethod → ClassSpelled
class_of c codes_are =
    let pool = pool_for c in
    let table = pool_of (file_of c) in
    record {
      head = record {
        name = class_name_at table (class_index pool c.head.name);
        superclass = super_said table (class_index pool c.head.superclass);
        interfaces = [];
        flags = c.head.flags.size;
        fields = fields_of pool table (fields (items_of_class c));
        methods = says_of_methods pool table (methods (items_of_class c));
      };
      pool = table;
      methods = codes_are;
    }

head_fits : (c : Listed) → IsRightClass c → fits 16 c.head.flags ≡ true
head_fits c right = elim (cases_Bool (fits 16 c.head.flags)) [ inl fit ↦ fit | inr wrong ↦ absurd (right.head (inl wrong)) ]

pub whole_is_written : (c : Listed) → IsRightClass c → IsRightPool (pool_for c) (pool_of (file_of c)) → IsPool (file_of c)
    → IsOrdered (pool_of (file_of c)) (pool_strings (items_of_class c))
    → ((b : Body) (frame : Frame) → IsRightCode (pool_for c) b.instructions b.ranges frame → CodeIsWritten (pool_for c) (pool_of (file_of c)) b frame)
    → IsWritten c (spelling (file_of c))
unfolding class_of
whole_is_written c h right is_pool ordered written =
    let pool = pool_for c in
    let table = pool_of (file_of c) in
    let ms = methods_are pool table (methods (items_of_class c)) right written h.methods in
    let this = right.classes c.head.name (h.head_keys.0, (h.head_keys.1.0, tt)) in
    let super = right.classes c.head.superclass h.head_keys.1.1 in
    record {
      file = file_of c;
      class = class_of c ms.codes_are;
      says = record {
        minor = omega arith;
        major = (omega arith, omega arith);
        pool = is_pool;
        flags = fitting c.head.flags (head_fits c h);
        this_class = record { fits = this.fits; names = this.names.tag };
        not_array = rw this.names.name_is (no_array c.head.name (λ array. h.head (inr (inr (inr array)))));
        super_fits = super.fits;
        super_class = rw super.names.tag refl;
        few_interfaces = omega arith;
        interfaces = tt;
        few_fields = rw (length-map (fields (items_of_class c)) (field_info pool)) (omega (arith, h.few_fields));
        fields = are_fields pool table (fields (items_of_class c)) right h.fields;
        few_methods = rw (length-map (methods (items_of_class c)) (method_info pool)) (omega (arith, h.few_methods));
        methods = ms.are;
        attributes = no_attributes table;
        name_is = refl;
        superclass_is = refl;
        interfaces_are = refl;
        flags_are = refl;
        pool_is = refl;
      };
      whole = refl;
      listed = record {
        minor = refl;
        major = refl;
        head = record { flags_are = refl; this_is = this.names; super_is = super.names };
        interfaces = refl;
        fields_are = say_fields pool table (fields (items_of_class c)) right h.fields;
        methods_are = ms.say;
        attributes = refl;
        order = ordered;
      };
    }
