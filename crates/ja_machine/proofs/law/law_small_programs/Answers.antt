use Rattle.std.proofs.Common.{refl}
use Rattle.ja_machine.proofs.law.law_small_programs.Goals as goal

pub returns : goal.returns
returns c = record {
  override_taints = refl;
  override_is_clean = refl;
  builder_marked = refl;
  builder_holds = refl;
  builder_took_nothing = refl;
  unlinked_writes = refl;
  unlinked_node = refl;
  caught_exception = refl;
  caught_by_library_class = refl;
  passed_library_class = refl;
  caught_from_callee = refl;
  thrown_out = refl;
  cut_before = refl;
  mix_of_reference = refl;
  text_without_next = refl;
  initialized = refl;
  not_initialized = refl;
  initialized_twice = refl;
  initializer_dirties = refl;
  initializer_throws = refl;
  initializer_throws_last = refl;
  cut_in_initializer = refl;
  cut_before_choice = refl;
  initializing_action = refl;
  without_action = refl;
  nothing_after_failure = refl;
  marked_for_pages = refl;
  marked_for_both = refl;
  shared_object = refl;
  before_it_was_stored = refl;
  marked_is_not_given = refl;
  no_initializer = refl;
  no_receiver = refl;
  no_such_object = refl;
  noted_object = refl;
  noted_in_category = refl;
  noted_in_another = refl;
  noted_in_both = refl;
  made_round = refl;
  object_made = refl;
  null_given = refl;
}
