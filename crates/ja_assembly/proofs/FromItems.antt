-- What is right of the fields, the methods and the pool entries of items that can be written where they stand.
use Rattle.std.proofs.Common.{◌≡◌, ℕ, ◌+◌, ◌⊎◌, inl, inr, Bool, true, false, List, [], ◌∷◌, ◌++◌, Option, Some, None, refl, sym, ap, subst, ◌∙◌, append_assoc, append-nil, arith}
use Rattle.std.specs.Prelude.{codes}
use Rattle.std.specs.List.{AllByRecursion}
use Rattle.std.proofs.lemmas.Bool.{true_from_ne_false, false_from_ne_true}
use Rattle.ja_bytes.specs.DescriptorText.{IsFieldDesc, IsMethodText}
use Rattle.ja_bytes.proofs.Exact.{field_or_wrong, method_or_wrong}
use Rattle.ja_code.specs.declared.form.Form.{Form}
use Rattle.ja_code.specs.declared.form.Form.TheVariants as forms
use Rattle.ja_code.specs.Opcode.{form_at, is_refused}
use Rattle.ja_listing.specs.declared.number.Number.{Number}
use Rattle.ja_listing.specs.declared.item.Frame.{Frame}
use Rattle.ja_listing.specs.declared.item.Operand.{Operand}
use Rattle.ja_listing.specs.declared.item.Operand.TheVariants.{Nothing, Constant, LocalAndConstant, Label, Quotation, ClassName, FieldName, MethodName, ArrayName}
use Rattle.ja_listing.specs.declared.item.Item.{Item}
use Rattle.ja_listing.specs.declared.item.Item.TheVariants.{Field, Method, Initializer, Try, Instruction}
use Rattle.ja_listing.specs.Number.{has_code}
use Rattle.ja_assembly.specs.declared.key.Key.TheVariants.{Text}
use Rattle.ja_assembly.specs.Members.{fits, Labelled, Range, Body, fields, methods, instructions, ranges, size_of_opcode, code_size, place_of_label}
use Rattle.ja_assembly.specs.Wanted.{method_tag, item_keys, item_strings, keys_in, catch_keys, frame_keys}
use Rattle.ja_assembly.specs.Unwritable.{suits, is_some_of, IsNoItemAt, IsNoValue, IsNoRange, IsNoFrame, IsNoMethod}
use Rattle.ja_assembly.specs.Assembled.{Pool}
use Rattle.ja_assembly.specs.Right.{IsIn, AreIn, IsRightKey, IsRightInstruction, AreRightInstructions, IsRightRange, IsRightCode, IsRightFrame, IsRightField, IsRightMethod}
use Rattle.ja_assembly.proofs.Different.{all_append}
use Rattle.ja_assembly.proofs.Methods.{extended, size_append}
use Rattle.ja_assembly.proofs.Standing.{after, IsShort, AllStand, few}
use Rattle.ja_assembly.proofs.Texts.{code_text}

-- ---- descriptors

some_field : (desc : List ℕ) → ((IsFieldDesc desc → ⊥) → ⊥) → IsFieldDesc desc
some_field desc h = elim (field_or_wrong desc) [ inl right ↦ right | inr wrong ↦ absurd (h wrong.1.none) ]

some_method : (desc : List ℕ) → ((IsMethodText desc → ⊥) → ⊥) → IsMethodText desc
some_method desc h = elim (method_or_wrong desc) [ inl right ↦ right | inr wrong ↦ absurd (h wrong.1.none) ]

-- ---- the entries that items name

tag_is : (form : Option Form) → (method_tag form ≡ 10) ⊎ (method_tag form ≡ 11)
tag_is (Some forms.Interface) = inr refl
tag_is _ = inl refl

value_keys : (labels : List ℕ → Option ℕ) (pc opcode : ℕ) (operand : Operand) → (IsNoValue labels pc (form_at opcode) operand → ⊥) → AllByRecursion IsRightKey (item_keys (Instruction None opcode operand))
value_keys labels pc opcode Nothing h = tt
value_keys labels pc opcode (Constant n) h = tt
value_keys labels pc opcode (LocalAndConstant local change) h = tt
value_keys labels pc opcode (Label name) h = tt
value_keys labels pc opcode (Quotation bytes) h = (h, tt)
value_keys labels pc opcode (ClassName name) h = (h, (tt, tt))
value_keys labels pc opcode (FieldName m) h =
    ((λ none. h (inl none)), (tt, ((λ none. h (inr (inl none))), ((λ none. h (inr (inr (inl none)))), (tt, (inl (refl, some_field m.desc (λ none. h (inr (inr (inr none))))), tt))))))
value_keys labels pc opcode (MethodName m) h =
    ((λ none. h (inl (inl none))), (tt, ((λ none. h (inl (inr (inl none)))), ((λ none. h (inl (inr (inr (inl none))))), (tt, (inr (tag_is (form_at opcode), some_method m.desc (λ none. h (inl (inr (inr (inr none)))))), tt))))))
value_keys labels pc opcode (ArrayName name dimensions) h = ((λ none. h (inl none)), (tt, tt))

item_right : (code : Bool) (labels : List ℕ → Option ℕ) (pc : ℕ) (some : Bool) (i : Item) → (IsNoItemAt code labels pc some i → ⊥) → AllByRecursion IsRightKey (item_keys i)
item_right code labels pc some (Field flags name desc) h = ((λ none. h (inr (inl none))), ((λ none. h (inr (inr (inl none)))), tt))
item_right code labels pc some (Method flags name desc None) h = ((λ none. h (inr (inl none))), ((λ none. h (inr (inr (inl none)))), tt))
item_right code labels pc some (Method flags name desc (Some frame)) h = ((λ none. h (inr (inl none))), ((λ none. h (inr (inr (inl none)))), (code_text, tt)))
item_right code labels pc some Initializer h = tt
item_right code labels pc some (Try start end handler None) h = tt
item_right code labels pc some (Try start end handler (Some name)) h = ((λ none. h (inr (inr none))), (tt, tt))
item_right code labels pc some (Instruction label opcode operand) h = value_keys labels pc opcode operand (λ none. h (inr (inr (inr none))))

pub keys_right : (method : Option Body) (items : List Item) → AllStand method items → AllByRecursion IsRightKey (keys_in items)
keys_right method [] h = tt
keys_right method (i ∷ items) h = all_append IsRightKey (item_keys i) (keys_in items) (item_right _ _ _ _ i h.1) (keys_right (after method i) items h.2)

-- ---- the length of a method

short_more : (b : Body) (i : Item) (is : List Labelled) (rs : List Range)
    → IsShort (Some (record b { instructions = (b.instructions ++ instructions (i ∷ [])) ++ is; ranges = (b.ranges ++ ranges (i ∷ [])) ++ rs }))
    → IsShort (Some (record b { instructions = b.instructions ++ (instructions (i ∷ []) ++ is); ranges = b.ranges ++ (ranges (i ∷ []) ++ rs) }))
short_more b i is rs h = rw (← append_assoc b.instructions (instructions (i ∷ [])) is, ← append_assoc b.ranges (ranges (i ∷ [])) rs) h

-- with the items behind it, up to the next method
pub all_short : (b : Body) (items : List Item) → AllStand (Some b) items → IsShort (Some (extended b items))
all_short b [] h = rw (append-nil b.instructions, append-nil b.ranges) h
all_short b (Field flags name desc ∷ items) h = short_more b (Field flags name desc) (instructions items) (ranges items) (all_short (extended b (Field flags name desc ∷ [])) items h.2)
all_short b (Method flags name desc frame ∷ items) h = rw (append-nil b.instructions, append-nil b.ranges) h.0
all_short b (Initializer ∷ items) h = short_more b Initializer (instructions items) (ranges items) (all_short (extended b (Initializer ∷ [])) items h.2)
all_short b (Try start end handler catch ∷ items) h = short_more b (Try start end handler catch) (instructions items) (ranges items) (all_short (extended b (Try start end handler catch ∷ [])) items h.2)
all_short b (Instruction label opcode operand ∷ items) h = short_more b (Instruction label opcode operand) (instructions items) (ranges items) (all_short (extended b (Instruction label opcode operand ∷ [])) items h.2)

-- ---- fields and methods

-- an item whose entries and strings a pool has
abbrev pub IsNamed : Pool → Item → Type 0
IsNamed pool i = AreIn (item_keys i) pool.keys × AreIn (item_strings i) pool.strings

module _ (pool : Pool) where
  pub fields_right : (method : Option Body) (items : List Item) → AllStand method items → AllByRecursion (IsNamed pool) items → AllByRecursion (IsRightField pool) (fields items)
  fields_right method [] h named = tt
  fields_right method (Field flags name desc ∷ items) h named =
      let field : IsRightField pool (record { flags = flags; name = name; desc = desc }) =
      record {
        member = record { flags = true_from_ne_false (fits 16 flags) (λ none. h.1 (inl none)); name = named.0.0.0; desc = named.0.0.1.0 };
        field = some_field desc (λ none. h.1 (inr (inr (inr none))));
      } in
      (field, fields_right (after method (Field flags name desc)) items h.2 named.1)
  fields_right method (Method flags name desc frame ∷ items) h named = fields_right (after method (Method flags name desc frame)) items h.2 named.1
  fields_right method (Initializer ∷ items) h named = fields_right (after method Initializer) items h.2 named.1
  fields_right method (Try start end handler catch ∷ items) h named = fields_right (after method (Try start end handler catch)) items h.2 named.1
  fields_right method (Instruction label opcode operand ∷ items) h named = fields_right (after method (Instruction label opcode operand)) items h.2 named.1

  range_right : (labels : List ℕ → Option ℕ) (r : Range) → (IsNoRange (labels r.start) (labels r.end) (labels r.handler) → ⊥) → AreIn (catch_keys r.catch) pool.keys → IsRightRange pool labels r
  range_right labels r h keys = by (labels r.start) (labels r.end) (labels r.handler) refl refl refl h
    where
      by : (start end handler : Option ℕ) → labels r.start ≡ start → labels r.end ≡ end → labels r.handler ≡ handler → (IsNoRange start end handler → ⊥) → IsRightRange pool labels r
      by None end handler s e t h = absurd (h tt)
      by (Some start) None handler s e t h = absurd (h tt)
      by (Some start) (Some end) None s e t h = absurd (h tt)
      by (Some start) (Some end) (Some handler) s e t h =
          record { start = start; end = end; handler = handler; start_is = s; end_is = e; handler_is = t; some = omega (arith, few end (start + 1) (λ lt. h (inl (omega (arith, lt))))); keys = keys }

  module _ (whole : List Labelled) where
    ranges_right : (b : Body) (items : List Item) → has_code b.member.flags ≡ true → AllStand (Some b) items → AllByRecursion (IsNamed pool) items
        → b.instructions ++ instructions items ≡ whole → AllByRecursion (IsRightRange pool (place_of_label 0 whole)) (ranges items)
    ranges_right b [] code h named e = tt
    ranges_right b (Field flags name desc ∷ items) code h named e =
        ranges_right (extended b (Field flags name desc ∷ [])) items code h.2 named.1 (append_assoc b.instructions [] (instructions items) ∙ e)
    ranges_right b (Method flags name desc frame ∷ items) code h named e = tt
    ranges_right b (Initializer ∷ items) code h named e = ranges_right (extended b (Initializer ∷ [])) items code h.2 named.1 (append_assoc b.instructions [] (instructions items) ∙ e)
    ranges_right b (Try start end handler catch ∷ items) code h named e =
        let labels : List Labelled → List ℕ → Option ℕ = place_of_label 0 in
        let r : Range = record { start = start; end = end; handler = handler; catch = catch } in
        let here : IsRightRange pool (labels whole) r =
        range_right (labels whole) r (λ none. h.1 (inr (inl (subst (λ (is : List Labelled). IsNoRange (labels is start) (labels is end) (labels is handler)) (sym e) none)))) named.0.0 in
        (here, ranges_right (extended b (Try start end handler catch ∷ [])) items code h.2 named.1 (append_assoc b.instructions [] (instructions items) ∙ e))
    ranges_right b (Instruction label opcode operand ∷ items) code h named e =
        ranges_right (extended b (Instruction label opcode operand ∷ [])) items code h.2 named.1
        (append_assoc b.instructions (instructions (Instruction label opcode operand ∷ [])) (instructions items) ∙ e)

    instructions_right : (b : Body) (items : List Item) (pc : ℕ) → has_code b.member.flags ≡ true → AllStand (Some b) items → AllByRecursion (IsNamed pool) items
        → b.instructions ++ instructions items ≡ whole → pc ≡ code_size b.instructions → AreRightInstructions pool (place_of_label 0 whole) pc (instructions items)
    instructions_right b [] pc code h named e at = tt
    instructions_right b (Field flags name desc ∷ items) pc code h named e at =
        instructions_right (extended b (Field flags name desc ∷ [])) items pc code h.2 named.1 (append_assoc b.instructions [] (instructions items) ∙ e) (at ∙ ap code_size (sym (append-nil b.instructions)))
    instructions_right b (Method flags name desc frame ∷ items) pc code h named e at = tt
    instructions_right b (Initializer ∷ items) pc code h named e at =
        instructions_right (extended b (Initializer ∷ [])) items pc code h.2 named.1 (append_assoc b.instructions [] (instructions items) ∙ e) (at ∙ ap code_size (sym (append-nil b.instructions)))
    instructions_right b (Try start end handler catch ∷ items) pc code h named e at =
        instructions_right (extended b (Try start end handler catch ∷ [])) items pc code h.2 named.1 (append_assoc b.instructions [] (instructions items) ∙ e) (at ∙ ap code_size (sym (append-nil b.instructions)))
    instructions_right b (Instruction label opcode operand ∷ items) pc code h named e at =
        let added : List Labelled = instructions (Instruction label opcode operand ∷ []) in
        let here : IsRightInstruction pool (place_of_label 0 whole) pc (record { label = label; opcode = opcode; operand = operand }) =
        record {
          taken = false_from_ne_true (is_refused opcode) (λ refused. h.1 (inr (inl refused)));
          suits_it = true_from_ne_false (suits (form_at opcode) operand) (λ other. h.1 (inr (inr (inl other))));
          value = λ none. h.1 (inr (inr (inr
              (subst (λ (pc : ℕ). IsNoValue (place_of_label 0 (b.instructions ++ (added ++ instructions items))) pc (form_at opcode) operand) at
              (subst (λ (is : List Labelled). IsNoValue (place_of_label 0 is) pc (form_at opcode) operand) (sym e) none)))));
          keys = named.0.0;
          strings = named.0.1;
        } in (
          here,
          instructions_right (extended b (Instruction label opcode operand ∷ [])) items (pc + size_of_opcode opcode) code h.2 named.1
              (append_assoc b.instructions added (instructions items) ∙ e) (omega (arith, at, size_append b.instructions added)),
        )

  -- the frame of a method, where it is that of its flags
  frame_right : (is : List Labelled) (rs : List Range) (code : Bool) (frame : Option Frame) → (IsNoFrame code frame → ⊥)
      → (code ≡ true → (f : Frame) → frame ≡ Some f → fits 16 f.stack ≡ true → fits 16 f.locals ≡ true → IsRightCode pool is rs f) → IsRightFrame pool is rs code frame
  frame_right is rs false None h right = tt
  frame_right is rs false (Some f) h right = h (inl refl)
  frame_right is rs true None h right = h refl
  frame_right is rs true (Some f) h right =
      right refl f refl (true_from_ne_false (fits 16 f.stack) (λ none. h (inr (inl none)))) (true_from_ne_false (fits 16 f.locals) (λ none. h (inr (inr none))))

  frame_named : (frame : Option Frame) (f : Frame) → frame ≡ Some f → AreIn (frame_keys frame) pool.keys → IsIn (Text (codes "Code")) pool.keys
  frame_named None f e named = cc
  frame_named (Some g) f e named = named.0

  method_right : (flags : Number) (name desc : List ℕ) (frame : Option Frame) (items : List Item) → (IsNoMethod flags name desc frame (is_some_of (instructions items)) → ⊥)
      → AllStand (after None (Method flags name desc frame)) items → IsNamed pool (Method flags name desc frame) → AllByRecursion (IsNamed pool) items
      → IsRightMethod pool (record { member = record { flags = flags; name = name; desc = desc }; frame = frame; instructions = instructions items; ranges = ranges items })
  method_right flags name desc frame items none h here named =
      let begun : Body = record { member = record { flags = flags; name = name; desc = desc }; frame = frame; instructions = []; ranges = [] } in
      record {
        member = record { flags = true_from_ne_false (fits 16 flags) (λ no. none (inl no)); name = here.0.0; desc = here.0.1.0 };
        method = some_method desc (λ no. none (inr (inr (inr (inl no)))));
        room = λ no. none (inr (inr (inr (inr (inl no)))));
        code =
            frame_right (instructions items) (ranges items) (has_code flags) frame (λ no. none (inr (inr (inr (inr (inr (inl no)))))))
            (λ code f e stack locals.
            record {
              stack = stack;
              locals = locals;
              some = true_from_ne_false (is_some_of (instructions items)) (λ no. none (inr (inr (inr (inr (inr (inr (code, no))))))));
              short = (all_short begun items h).0;
              few = (all_short begun items h).1;
              instructions = instructions_right (instructions items) begun items 0 code h named refl refl;
              ranges = ranges_right (instructions items) begun items code h named refl;
              name = frame_named frame f e here.0.1.1;
            });
      }

  pub methods_right : (method : Option Body) (items : List Item) → AllStand method items → AllByRecursion (IsNamed pool) items → AllByRecursion (IsRightMethod pool) (methods items)
  methods_right method [] h named = tt
  methods_right method (Field flags name desc ∷ items) h named = methods_right (after method (Field flags name desc)) items h.2 named.1
  methods_right method (Method flags name desc frame ∷ items) h named =
      (method_right flags name desc frame items h.1 h.2 named.0 named.1, methods_right (after method (Method flags name desc frame)) items h.2 named.1)
  methods_right method (Initializer ∷ items) h named = methods_right (after method Initializer) items h.2 named.1
  methods_right method (Try start end handler catch ∷ items) h named = methods_right (after method (Try start end handler catch)) items h.2 named.1
  methods_right method (Instruction label opcode operand ∷ items) h named = methods_right (after method (Instruction label opcode operand)) items h.2 named.1
