-- The attribute that is written of a method with code is one of the profile, and says what is listed.
use Rattle.std.proofs.Common.{◌≡◌, ℕ, ◌+◌, ◌*◌, ◌^◌, ◌<◌, ◌≤◌, true, List, [], ◌∷◌, length, map, codes, Option, Some, refl, arith}
use Rattle.std.specs.List.{flat_map}
use Rattle.std.proofs.lemmas.Bool.{false≢true}
use Rattle.std.proofs.lemmas.List.{length-append, length-map}
use Rattle.ja_code.specs.declared.instr.RawInstr.{RawInstr}
use Rattle.ja_code.specs.declared.handler.RawHandler.{RawHandler}
use Rattle.ja_code.specs.declared.code.Code.{Code}
use Rattle.ja_code.specs.Grammar.{is_start, Spells}
use Rattle.ja_pool.specs.Table.{Table, tags_of, dims_of}
use Rattle.ja_attributes.specs.Attribute.{IsAttribute, handler_bytes, code_bytes, IsCodeAttribute}
use Rattle.ja_listing.specs.declared.item.Frame.{Frame}
use Rattle.ja_assembly.specs.Members.{Labelled, Body, code_size, place_of_label}
use Rattle.ja_assembly.specs.Unwritable.{is_some_of}
use Rattle.ja_assembly.specs.Assembled.{Pool, text_index, row_of, instruction_bytes, code_of}
use Rattle.ja_assembly.specs.Written.{SaysAttribute}
use Rattle.ja_assembly.specs.Right.{TellsText, IsRightPool, IsRightCode}
use Rattle.ja_assembly.proofs.Offsets.{size_fits}
use Rattle.ja_assembly.proofs.SpelledCodes.{all_decoded, label_within, label_starts, AreSpelled, instructions_spelled, instructions_lead, rows_right, rows_fit, rows_say}

-- ---- sizes

rows_length : (rows : List RawHandler) → length (flat_map handler_bytes rows) ≡ 8 * length rows
rows_length [] = refl
rows_length (row ∷ rows) = omega (arith, rows_length rows)

-- the content of the attribute of a code without attributes fits its field
content_fits : (stack locals : ℕ) (code : List ℕ) (rows : List RawHandler) → length code ≤ 65535 → length rows ≤ 65535
    → length (code_bytes (record { max_stack = stack; max_locals = locals; code = code; exception_table = rows; attributes = [] })) < 2 ^ 32
content_fits stack locals code rows short few = simp length-append (omega (arith, rows_length rows))

some_bytes : (pool : Pool) (labels : List ℕ → Option ℕ) (pc : ℕ) (is : List Labelled) → is_some_of is ≡ true → 1 ≤ length (instruction_bytes pool labels pc is)
some_bytes pool labels pc [] some = absurd (false≢true some)
some_bytes pool labels pc (i ∷ is) some = omega arith

module _ (pool : Pool) (table : Table) (b : Body) (frame : Frame) (right : IsRightPool pool table) (r : IsRightCode pool b.instructions b.ranges frame) where
  abbrev labels : List ℕ → Option ℕ
  labels = place_of_label 0 b.instructions

  abbrev instrs : List RawInstr
  instrs = all_decoded pool labels 0 b.instructions

  abbrev rows : List RawHandler
  rows = map (row_of pool labels) b.ranges

  placed : (name : List ℕ) (place : ℕ) → labels name ≡ Some place → place < 2 ^ 16
  placed name place e = let within : place ≤ 0 + code_size b.instructions = label_within 0 b.instructions name place e in omega (arith, r.short)

  started : (name : List ℕ) (place : ℕ) → labels name ≡ Some place → is_start instrs place ≡ true
  started name place e = label_starts pool labels 0 b.instructions name place e

  spelled : AreSpelled pool table right labels placed 0 b.instructions
  spelled = instructions_spelled pool table right labels placed 0 b.instructions (omega (arith, r.short)) r.instructions

  short : length (code_of pool b.instructions b.ranges frame).code ≤ 65535
  short = omega (arith, spelled.size, r.short)

  few : length rows ≤ 65535
  few = rw length-map r.few

  name_told : TellsText pool table (codes "Code")
  name_told = right.texts (codes "Code") r.name

  pub is_attribute : IsAttribute table (record { attribute_name_index = text_index pool (codes "Code"); info = code_bytes (code_of pool b.instructions b.ranges frame) })
  is_attribute =
      record {
        index = name_told.fits;
        size = content_fits frame.stack.size frame.locals.size (code_of pool b.instructions b.ranges frame).code rows short few;
        name = name_told.tag;
      }

  abbrev code : Code
  code = record { instrs = instrs; handlers = rows }

  spells : Spells (code_of pool b.instructions b.ranges frame).code (tags_of table) (dims_of table) rows code
  spells =
      record {
        instrs = spelled.are;
        branches = instructions_lead pool table right labels placed (is_start instrs) started 0 b.instructions r.instructions;
        handlers = rows_right pool table right labels placed (is_start instrs) started (length (code_of pool b.instructions b.ranges frame).code) b.ranges r.ranges;
        same_rows = refl;
      }

  is_content : IsCodeAttribute table (code_of pool b.instructions b.ranges frame)
  is_content =
      record {
        stack = size_fits 16 frame.stack r.stack;
        locals = size_fits 16 frame.locals r.locals;
        some = some_bytes pool labels 0 b.instructions r.some;
        short = short;
        few = omega (arith, few);
        handlers = rows_fit pool table right labels placed b.ranges r.ranges;
        few_attributes = omega arith;
        attributes = tt;
      }

  pub says_attribute : SaysAttribute table b frame (record { attribute_name_index = text_index pool (codes "Code"); info = code_bytes (code_of pool b.instructions b.ranges frame) })
  says_attribute =
      record {
        name_is = name_told.text_is;
        spelled = record { max_stack = frame.stack.size; max_locals = frame.locals.size; code = code };
        code = record { attribute = code_of pool b.instructions b.ranges frame; is = is_content; bytes = refl; spells = spells; stack = refl; locals = refl };
        bare = refl;
        says =
            record {
              stack_is = refl;
              locals_is = refl;
              instructions_are = spelled.say;
              ranges_are = rows_say pool table right labels placed b.ranges r.ranges;
            };
      }
