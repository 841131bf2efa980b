use Rattle.std.proofs.Common.{refl}
use Rattle.ja_ir.proofs.law.law_small_program.Goals as goal

pub returns : goal.returns
returns c = record {
  fit = record {
    class_itself = refl;
    subclass = refl;
    superclass = refl;
    library_object_in_program_class = refl;
    text = refl;
    library_object_as_text = refl;
    array_as_text = refl;
    numbers = refl;
    rows_of_numbers = refl;
    numbers_as_rows = refl;
    objects_as_numbers = refl;
    other_class = refl;
    texts_do_not_absorb = refl;
    library_objects_absorb = refl;
    program_objects_do_not_absorb = refl;
    empty_name_of_a_class = refl;
    text_in_class_of_empty_name = refl;
    empty_name_is_named = refl;
    empty_name_elsewhere = refl;
  };
  made = record {
    of_number = refl;
    of_program_class = refl;
    of_text = refl;
    of_texts = refl;
    of_rows_of_numbers = refl;
    of_program_objects = refl;
    of_class_of_empty_name = refl;
    of_object = refl;
    of_other_class = refl;
  };
  found = record {
    of_subclass = refl;
    of_class = refl;
    of_library = refl;
    past_the_range = refl;
    method_with_code = refl;
    method_without_code = refl;
    other_method = refl;
  };
}
