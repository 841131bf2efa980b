use Rattle.std.proofs.Common.{refl}
use Rattle.ja_examples.proofs.law.law_runs.Goals as goal

pub returns : goal.returns
returns c = record {
  passed_text = refl;
  caught_exception = refl;
  built_text = refl;
  unlinked_node = refl;
  entered_object = refl;
  parted_field = refl;
  chosen_subclass = refl;
  single_subclass = refl;
  initialized_class = refl;
  class_not_initialized = refl;
  class_not_named = refl;
  failed_initializer = refl;
  nothing_after_it = refl;
  aliased_object = refl;
  object_alone = refl;
  labelled_text = refl;
  array_element = refl;
}
