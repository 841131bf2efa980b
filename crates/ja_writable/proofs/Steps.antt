-- What is known at an item, from one to the next.
use Rattle.std.proofs.Common.{◌≡◌, ℕ, ◌+◌, Bool, true, false, List, [], ◌∷◌, ◌++◌, length, drop, slice_get, Option, Some, refl, sym, ap, ◌∙◌, append_assoc, length-append, arith}
use Rattle.std.specs.Prelude.{codes}
use Rattle.ja_code.specs.Opcode.{form_at}
use Rattle.ja_listing.specs.declared.number.Number.{Number}
use Rattle.ja_listing.specs.declared.item.Frame.{Frame}
use Rattle.ja_listing.specs.declared.item.Operand.{Operand}
use Rattle.ja_listing.specs.declared.item.Item.{Item}
use Rattle.ja_listing.specs.declared.item.Item.TheVariants.{Field, Method, Initializer, Try, Instruction}
use Rattle.ja_listing.specs.Number.{has_code}
use Rattle.ja_listing.specs.Listed.{Listed}
use Rattle.ja_writable.specs.declared.place.Place.{Place}
use Rattle.ja_assembly.specs.Members.{Labelled, Body, expanded, fields, methods, instructions, ranges, size_of_opcode, code_size, place_of_label, instructions_in}
use Rattle.ja_assembly.specs.Unwritable.{before, method_before, body_has_code, body_ranges, body_instructions, labels_at, instructions_from}
use Rattle.ja_assembly.specs.InnerLabels.{places}
use Rattle.ja_writable.specs.InnerJudging.{IsPlace, IsBegun, IsMore}
use Rattle.ja_assembly.proofs.Methods.{size_append}
use Rattle.ja_assembly.proofs.Items.{from_step, last_step, first_step, fields_step, methods_step, code_kept, ranges_same, instructions_same, ranges_grown, instructions_grown}

-- the instructions of the whole method
abbrev whole : Listed → ℕ → List Labelled
whole c k = body_instructions (method_before c k) ++ instructions_from c k

same_labels : (c : Listed) (k : ℕ) (p q : Place) → IsPlace c k p → whole c (k + 1) ≡ whole c k → ((name : List ℕ) → places q.labels name ≡ places p.labels name)
    → (name : List ℕ) → places q.labels name ≡ labels_at c (k + 1) name
same_labels c k p q h e same name = same name ∙ h.labels_are name ∙ ap (λ is. place_of_label 0 is name) (sym e)

pub field_step : (c : Listed) (k : ℕ) (flags : Number) (name desc : List ℕ) (p q : Place) → slice_get c.items k ≡ Some (Field flags name desc)
    → IsPlace c k p → IsMore 1 0 0 p q → IsPlace c (k + 1) q
field_step c k flags name desc p q there h m =
    let item : Item = Field flags name desc in
    let last = last_step c k item there refl in
    let is : body_instructions (method_before c (k + 1)) ≡ body_instructions (method_before c k) = ap body_instructions last ∙ instructions_same (method_before c k) (item ∷ []) refl in
    let rs : body_ranges (method_before c (k + 1)) ≡ body_ranges (method_before c k) = ap body_ranges last ∙ ranges_same (method_before c k) (item ∷ []) refl in
    let w : whole c (k + 1) ≡ whole c k = ap (λ xs. xs ++ instructions_from c (k + 1)) is ∙ ap (λ xs. body_instructions (method_before c k) ++ xs) (sym (from_step c k item there)) in
    record {
      fields_are = omega (arith, m.fields_are, h.fields_are, ap length (fields_step c k item there), length-append (fields (before c k)) (fields (item ∷ [])));
      methods_are = omega (arith, m.methods_are, h.methods_are, methods_step c k item there);
      ranges_are = omega (arith, m.ranges_are, h.ranges_are, ap length rs);
      pc_is = omega (arith, m.pc_is, h.pc_is, ap code_size is);
      code_is = m.code_is ∙ h.code_is ∙ sym (ap body_has_code last ∙ code_kept (method_before c k) (item ∷ []));
      labels_are = same_labels c k p q h w m.labels_are;
    }

pub try_step : (c : Listed) (k : ℕ) (start end handler : List ℕ) (catch : Option (List ℕ)) (p q : Place) → slice_get c.items k ≡ Some (Try start end handler catch)
    → IsPlace c k p → p.has_code ≡ true → IsMore 0 1 0 p q → IsPlace c (k + 1) q
try_step c k start end handler catch p q there h code m =
    let item : Item = Try start end handler catch in
    let last = last_step c k item there refl in
    let has : body_has_code (method_before c k) ≡ true = sym h.code_is ∙ code in
    let is : body_instructions (method_before c (k + 1)) ≡ body_instructions (method_before c k) = ap body_instructions last ∙ instructions_same (method_before c k) (item ∷ []) refl in
    let rs : body_ranges (method_before c (k + 1)) ≡ body_ranges (method_before c k) ++ ranges (item ∷ []) = ap body_ranges last ∙ ranges_grown (method_before c k) (item ∷ []) has in
    let w : whole c (k + 1) ≡ whole c k = ap (λ xs. xs ++ instructions_from c (k + 1)) is ∙ ap (λ xs. body_instructions (method_before c k) ++ xs) (sym (from_step c k item there)) in
    record {
      fields_are = omega (arith, m.fields_are, h.fields_are, ap length (fields_step c k item there), length-append (fields (before c k)) (fields (item ∷ [])));
      methods_are = omega (arith, m.methods_are, h.methods_are, methods_step c k item there);
      ranges_are = omega (arith, m.ranges_are, h.ranges_are, ap length rs, length-append (body_ranges (method_before c k)) (ranges (item ∷ [])));
      pc_is = omega (arith, m.pc_is, h.pc_is, ap code_size is);
      code_is = m.code_is ∙ h.code_is ∙ sym (ap body_has_code last ∙ code_kept (method_before c k) (item ∷ []));
      labels_are = same_labels c k p q h w m.labels_are;
    }

pub instruction_step : (c : Listed) (k : ℕ) (label : Option (List ℕ)) (opcode : ℕ) (operand : Operand) (p q : Place)
    → slice_get c.items k ≡ Some (Instruction label opcode operand) → IsPlace c k p → p.has_code ≡ true → IsMore 0 0 (size_of_opcode opcode) p q → IsPlace c (k + 1) q
instruction_step c k label opcode operand p q there h code m =
    let item : Item = Instruction label opcode operand in
    let last = last_step c k item there refl in
    let has : body_has_code (method_before c k) ≡ true = sym h.code_is ∙ code in
    let is : body_instructions (method_before c (k + 1)) ≡ body_instructions (method_before c k) ++ instructions (item ∷ []) = ap body_instructions last ∙ instructions_grown (method_before c k) (item ∷ []) has in
    let rs : body_ranges (method_before c (k + 1)) ≡ body_ranges (method_before c k) = ap body_ranges last ∙ ranges_same (method_before c k) (item ∷ []) refl in
    let w : whole c (k + 1) ≡ whole c k =
    ap (λ xs. xs ++ instructions_from c (k + 1)) is ∙ append_assoc (body_instructions (method_before c k)) (instructions (item ∷ [])) (instructions_from c (k + 1))
    ∙ ap (λ xs. body_instructions (method_before c k) ++ xs) (sym (from_step c k item there)) in
    record {
      fields_are = omega (arith, m.fields_are, h.fields_are, ap length (fields_step c k item there), length-append (fields (before c k)) (fields (item ∷ [])));
      methods_are = omega (arith, m.methods_are, h.methods_are, methods_step c k item there);
      ranges_are = omega (arith, m.ranges_are, h.ranges_are, ap length rs);
      pc_is = omega (arith, m.pc_is, h.pc_is, ap code_size is, size_append (body_instructions (method_before c k)) (instructions (item ∷ [])));
      code_is = m.code_is ∙ h.code_is ∙ sym (ap body_has_code last ∙ code_kept (method_before c k) (item ∷ []));
      labels_are = same_labels c k p q h w m.labels_are;
    }

-- ---- a method begins

begun_step : (c : Listed) (k : ℕ) (item : Item) (behind : List Item) (pc : ℕ) (code : Bool) (m : Body) (p q : Place) → slice_get c.items k ≡ Some item → behind ≡ drop (k + 1) c.items
    → methods (expanded c.head.superclass item) ≡ m ∷ [] → fields (expanded c.head.superclass item) ≡ [] → m.ranges ≡ [] → pc ≡ code_size m.instructions → code ≡ has_code m.member.flags
    → ((is : List Labelled) (name : List ℕ) → place_of_label pc is name ≡ place_of_label 0 (m.instructions ++ is) name)
    → IsPlace c k p → IsBegun pc code c.head.superclass behind p q → IsPlace c (k + 1) q
begun_step c k item behind pc code m p q there behind_is one none no_ranges size flags labels h b =
    let first = first_step c k item m there one in
    record {
      fields_are = omega (arith, b.fields_are, h.fields_are, ap length (fields_step c k item there), length-append (fields (before c k)) (fields (expanded c.head.superclass item)), ap length none);
      methods_are = omega (arith, b.methods_are, h.methods_are, methods_step c k item there, ap length one);
      ranges_are = b.ranges_are ∙ sym (ap (λ o. length (body_ranges o)) first ∙ ap length no_ranges);
      pc_is = b.pc_is ∙ size ∙ sym (ap (λ o. code_size (body_instructions o)) first);
      code_is = b.code_is ∙ flags ∙ sym (ap body_has_code first);
      labels_are = λ name.
          b.labels_are name ∙ ap (λ is. place_of_label pc (instructions_in c.head.superclass is) name) behind_is ∙ labels (instructions_from c (k + 1)) name
          ∙ ap (λ o. place_of_label 0 (body_instructions o ++ instructions_from c (k + 1)) name) (sym first);
    }

-- the constructor that calls that of a superclass
abbrev body_of : List ℕ → Body
body_of superclass =
    record {
      member = record { flags = record { negative = false; size = 1 }; name = codes "<init>"; desc = codes "()V" };
      frame = Some (record { stack = record { negative = false; size = 1 }; locals = record { negative = false; size = 1 } });
      instructions = instructions (drop 1 (expanded superclass Initializer));
      ranges = [];
    }

pub method_step : (c : Listed) (k : ℕ) (flags : Number) (name desc : List ℕ) (frame : Option Frame) (behind : List Item) (p q : Place)
    → slice_get c.items k ≡ Some (Method flags name desc frame) → behind ≡ drop (k + 1) c.items → IsPlace c k p → IsBegun 0 (has_code flags) c.head.superclass behind p q → IsPlace c (k + 1) q
method_step c k flags name desc frame behind p q there behind_is h b =
    begun_step c k (Method flags name desc frame) behind 0 (has_code flags)
    (record { member = record { flags = flags; name = name; desc = desc }; frame = frame; instructions = []; ranges = [] })
    p q there behind_is refl refl refl refl refl (λ is name. refl) h b

pub initializer_step : (c : Listed) (k : ℕ) (behind : List Item) (p q : Place) → slice_get c.items k ≡ Some Initializer → behind ≡ drop (k + 1) c.items
    → IsPlace c k p → IsBegun 5 true c.head.superclass behind p q → IsPlace c (k + 1) q
unfolding form_at
initializer_step c k behind p q there behind_is h b =
    begun_step c k Initializer behind 5 true (body_of c.head.superclass) p q there behind_is refl refl refl refl refl (λ is name. refl) h b
