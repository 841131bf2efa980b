-- What the machine does with the programs of the examples.
use Rattle.std.specs.Prelude.{◌≡◌, Bool, true, false, [], ◌∷◌}
use Rattle.ja_machine.specs.Marks.{none}
use Rattle.ja_machine.specs.State.{Failed}
use Rattle.ja_machine.specs.Environment.{Create, Make, CallEntry, GiveNull, GiveObject, State, Over, program_run, events_of}
use Rattle.ja_machine.specs.Examples.{tainted_event, clean_event}
use Rattle.ja_examples.specs.Passing.{passing}
use Rattle.ja_examples.specs.Throwing.{throwing}
use Rattle.ja_examples.specs.Building.{building}
use Rattle.ja_examples.specs.Parting.{parting}
use Rattle.ja_examples.specs.Entering.{entering}
use Rattle.ja_examples.specs.Unlinking.{unlinking}
use Rattle.ja_examples.specs.Choosing.{choosing}
use Rattle.ja_examples.specs.Elements.{elements}
use Rattle.ja_examples.specs.Initializing.{initializing, resting, failing}
use Rattle.ja_examples.specs.Aliasing.{aliasing}
use Rattle.ja_examples.specs.Labelling.{labelling}

-- the run is over, since a class initialiser threw
abbrev pub has_failed : State → Bool
has_failed (Over (Failed innermost callers world)) = true
has_failed _ = false

-- runs of the environment in which the sink call of each program is met: with something tainted where the equations warn of it
pub record ProgramsRun : Type 0 where
  pub passed_text : events_of (program_run passing (CallEntry 0 [] 20 [] ∷ [])) ≡ tainted_event
  pub caught_exception : events_of (program_run throwing (Create 0 20 [] ∷ CallEntry 0 (GiveObject 0 ∷ []) 20 [] ∷ [])) ≡ tainted_event
  pub built_text : events_of (program_run building (CallEntry 0 [] 20 (0 ∷ 0 ∷ 0 ∷ 0 ∷ 1 ∷ 1 ∷ []) ∷ [])) ≡ tainted_event
  pub unlinked_node : events_of (program_run unlinking (CallEntry 0 (GiveNull ∷ []) 40 [] ∷ [])) ≡ tainted_event
  pub entered_object :
      events_of (program_run entering (Make 0 0 none [] [] ∷ CallEntry 0 (GiveObject 0 ∷ []) 20 (0 ∷ 1 ∷ 1 ∷ []) ∷ CallEntry 1 (GiveObject 0 ∷ []) 20 [] ∷ []))
      ≡ tainted_event
  pub parted_field : events_of (program_run parting (CallEntry 0 [] 20 [] ∷ [])) ≡ clean_event
  pub chosen_subclass : events_of (program_run choosing (CallEntry 0 [] 20 (1 ∷ []) ∷ [])) ≡ tainted_event
  pub single_subclass : events_of (program_run choosing (CallEntry 1 [] 20 [] ∷ [])) ≡ record { site = 1; positions = [] } ∷ []
  -- K is initialised before its field is read, or not; nothing initialises it where it is not named; and where its initialiser throws the
  -- run is over
  pub initialized_class : events_of (program_run initializing (CallEntry 0 [] 20 (1 ∷ []) ∷ [])) ≡ tainted_event
  pub class_not_initialized : events_of (program_run initializing (CallEntry 0 [] 20 [] ∷ [])) ≡ clean_event
  pub class_not_named : events_of (program_run resting (CallEntry 0 [] 20 (1 ∷ []) ∷ [])) ≡ clean_event
  pub failed_initializer : has_failed (program_run failing (CallEntry 0 [] 20 (1 ∷ []) ∷ [])) ≡ true
  pub nothing_after_it : events_of (program_run failing (CallEntry 0 [] 20 (1 ∷ []) ∷ CallEntry 0 [] 20 [] ∷ [])) ≡ []
  -- K's initialiser taints the object that main has, too; where it does not run, nothing is in the field
  pub aliased_object : events_of (program_run aliasing (CallEntry 0 [] 40 (0 ∷ 1 ∷ []) ∷ [])) ≡ tainted_event
  pub object_alone : events_of (program_run aliasing (CallEntry 0 [] 40 [] ∷ [])) ≡ clean_event
  -- the text is tainted at the sink for pages alone
  pub labelled_text : events_of (program_run labelling (CallEntry 0 [] 20 [] ∷ [])) ≡ record { site = 0; positions = [] } ∷ record { site = 1; positions = 0 ∷ [] } ∷ []
  pub array_element : events_of (program_run elements (CallEntry 0 [] 20 (0 ∷ 0 ∷ 0 ∷ 0 ∷ 1 ∷ []) ∷ [])) ≡ tainted_event
