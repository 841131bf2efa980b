-- The parts of which attributes consist are exact.
use Rattle.std.proofs.Common.{◌≡◌, ℕ, ◌⊎◌, inl, inr, Bool, List, refl, sym, ap, ◌∙◌}
use Rattle.std.specs.Prelude.{codes, ◌==◌, is_none, Option, Some, None, Result, Ok, Err}
use Rattle.ja_bytes.specs.Reading.{Reading}
use Rattle.ja_pool.specs.Table.{Table, tag_at, tags_of, dims_of}
use Rattle.ja_code.specs.declared.code.Code.{Code}
use Rattle.ja_code.specs.declared.handler.RawHandler.{RawHandler}
use Rattle.ja_code.specs.declared.fault.CodeFault.{CodeFault}
use Rattle.ja_code.proofs.Whole.{answer, answer_spelled, answer_fault, Due, due}
use Rattle.ja_attributes.specs.declared.fault.AttributeFault.{AttributeFault}
use Rattle.ja_attributes.specs.declared.fault.AttributeFault.TheVariants.{End, BadIndex, BadAttribute, Undecodable}
use Rattle.ja_attributes.specs.declared.method.Codes.{Codes}
use Rattle.ja_attributes.specs.declared.method.Codes.TheVariants.{Absent}
use Rattle.ja_attributes.specs.Part.{Part, IsExact}
use Rattle.ja_attributes.specs.Attribute.{is_named, is_value_tag}
use Rattle.ja_attributes.specs.Faults.{name_index, attribute, passed_over, any_attribute, any_attributes, constant_value, first_constant, field_attribute, field_attributes, handler, decoded, is_code_length, code_array, code_layout, in_content, code_content, with_code, next_code, method_attribute, is_due, only_code, method_attributes}
use Rattle.ja_attributes.proofs.Parts.{both, value_exact, here_exact, left_exact, check_exact, at_end_exact, field_exact, u2_exact, u4_exact, rest_exact, stays_at, within_exact, choose_exact, times_exact, fold_exact, renamed_exact}

pub name_index_exact : (table : Table) → IsExact (name_index table)
unfolding name_index
name_index_exact table =
    both here_exact (λ at. both (u2_exact End) (λ index. both (check_exact (tag_at table index == 1) (BadIndex at)) (λ _. value_exact index)))

pub attribute_exact : {A : Type 0} (table : Table) (content : ℕ → ℕ → Part AttributeFault A) → ((at name : ℕ) → IsExact (content at name)) → IsExact (attribute table content)
unfolding attribute
attribute_exact table content each =
    both here_exact (λ at. both (name_index_exact table) (λ name. both (u4_exact End) (λ len. within_exact End len (content at name) (each at name))))

passed_over_exact : {A : Type 0} (a : A) → IsExact (passed_over a)
unfolding passed_over
passed_over_exact a = both rest_exact (λ _. value_exact a)

pub any_attribute_exact : (table : Table) → IsExact (any_attribute table)
unfolding any_attribute
any_attribute_exact table = attribute_exact table _ (λ at name. passed_over_exact tt)

pub any_attributes_exact : (table : Table) → IsExact (any_attributes table)
unfolding any_attributes
any_attributes_exact table = both (u2_exact End) (λ count. fold_exact _ (λ _. any_attribute_exact table) count tt)

-- ---- fields

constant_value_exact : (table : Table) (at : ℕ) → IsExact (constant_value table at)
unfolding constant_value
constant_value_exact table at =
    both here_exact (λ from. both left_exact (λ len. both (check_exact (len == 2) (BadAttribute at))
    (λ _. both (u2_exact End) (λ index. both (check_exact (is_value_tag (tag_at table index)) (BadIndex from)) (λ _. value_exact index)))))

first_constant_exact : (table : Table) (found : Option ℕ) (at : ℕ) → IsExact (first_constant table found at)
unfolding first_constant
first_constant_exact table found at =
    both (check_exact (is_none found) (BadAttribute at)) (λ _. both (constant_value_exact table at) (λ index. value_exact (Some index)))

pub field_attribute_exact : (table : Table) (found : Option ℕ) → IsExact (field_attribute table found)
unfolding field_attribute
field_attribute_exact table found =
    attribute_exact table _ (λ at name. choose_exact (is_named table (codes "ConstantValue") name) _ _ (first_constant_exact table found at) (passed_over_exact found))

pub field_attributes_exact : (table : Table) → IsExact (field_attributes table)
unfolding field_attributes
field_attributes_exact table = both (u2_exact End) (λ count. fold_exact (field_attribute table) (field_attribute_exact table) count None)

-- ---- methods

pub handler_exact : IsExact handler
unfolding handler
handler_exact =
    both (u2_exact End) (λ start. both (u2_exact End) (λ end. both (u2_exact End) (λ handler. both (u2_exact End) (λ catch_type. value_exact _))))

not_both_answers : (r : Result Code CodeFault) (c : Code) (f : CodeFault) → r ≡ Ok c → r ≡ Err f → ⊥
not_both_answers r c f p q = cc

one_answer : (r : Result Code CodeFault) (c d : Code) → r ≡ Ok c → r ≡ Ok d → c ≡ d
one_answer r c d p q = cc

one_error : (r : Result Code CodeFault) (f g : CodeFault) → r ≡ Err f → r ≡ Err g → f ≡ g
one_error r f g p q = cc

module _ (table : Table) (code : List ℕ) (rows : List RawHandler) where
  abbrev due_here : Result Code CodeFault → Type 0
  due_here r = Due code (tags_of table) (dims_of table) rows r

  decides : (old : Reading) (r : Result Code CodeFault) → due_here r
      → ((c : Code) × (new : Reading) × (decoded table code rows).passes old c new) ⊎ ((f : AttributeFault) × (decoded table code rows).fault old f)
  unfolding decoded
  decides old (Ok c) s = inl (c, old, (s, refl))
  decides old (Err f) h = inr (Undecodable f, (f, h, refl))

  pub decoded_exact : IsExact (decoded table code rows)
  unfolding decoded
  decoded_exact =
      let tags = tags_of table in
      let dims = dims_of table in
      let said = answer_spelled code tags dims rows in
      let fails = answer_fault code tags dims rows in
      record {
        forward = λ old c new p. stays_at old new p.1;
        either = λ old bytes. decides old (answer code tags dims rows) (due code tags dims rows);
        not_both = λ old c new f p h. not_both_answers (answer code tags dims rows) c h.0 (said c p.0) (fails h.0 h.1);
        one_value = λ old c d new other p q. (one_answer (answer code tags dims rows) c d (said c p.0) (said d q.0), p.1 ∙ sym q.1);
        one_fault = λ old f g h k. h.2 ∙ ap Undecodable (one_error (answer code tags dims rows) h.0 k.0 (fails h.0 h.1) (fails k.0 k.1)) ∙ sym k.2;
      }

pub code_array_exact : (at : ℕ) → IsExact (code_array at)
unfolding code_array
code_array_exact at =
    both (u4_exact End) (λ len. both (check_exact (is_code_length len) (BadAttribute at)) (λ _. field_exact End len))

pub code_layout_exact : (table : Table) (at : ℕ) → IsExact (code_layout table at)
unfolding code_layout
code_layout_exact table at =
    both (u2_exact End) (λ max_stack. both (u2_exact End) (λ max_locals. both (code_array_exact at) (λ code.
    both (u2_exact End) (λ count. both (times_exact count handler handler_exact) (λ rows. both (any_attributes_exact table) (λ _.
    both (at_end_exact (λ _. BadAttribute at)) (λ _. value_exact _)))))))

pub code_content_exact : (table : Table) (at : ℕ) → IsExact (code_content table at)
unfolding code_content
code_content_exact table at =
    both (renamed_exact (in_content at) (code_layout table at) (code_layout_exact table at))
    (λ layout. both (decoded_exact table layout.code layout.rows) (λ code. value_exact _))

next_code_exact : (table : Table) (found : Codes) (at : ℕ) → IsExact (next_code table found at)
unfolding next_code
next_code_exact table found at = both (code_content_exact table at) (λ code. value_exact (with_code found code))

pub method_attribute_exact : (table : Table) (found : Codes) → IsExact (method_attribute table found)
unfolding method_attribute
method_attribute_exact table found =
    attribute_exact table _ (λ at name. choose_exact (is_named table (codes "Code") name) _ _ (next_code_exact table found at) (passed_over_exact found))

pub method_attributes_exact : (table : Table) (needs_code : Bool) (flags_at : ℕ) → IsExact (method_attributes table needs_code flags_at)
unfolding method_attributes
method_attributes_exact table needs_code flags_at =
    both (u2_exact End) (λ count. both (fold_exact (method_attribute table) (method_attribute_exact table) count Absent)
    (λ found. both (check_exact (is_due needs_code found) (BadAttribute flags_at)) (λ _. value_exact (only_code found))))
