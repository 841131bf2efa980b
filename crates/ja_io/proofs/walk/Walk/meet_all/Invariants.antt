use Rattle.std.proofs.Common.{◌≡◌, ◌+◌, ◌-◌, ◌≤◌, ◌++◌, length, take, vec_len}
use Rattle.std.specs.List.{flat_map}
use Rattle.ja_io.specs.declared.walk.TheConstants.{MAX_ENTRIES}
use Rattle.ja_io.specs.Walk.{directories_of, files_of}
use Rattle.ja_io.proofs.walk.Walk.meet_all.Given as goal

-- the entries so far are met, and what each of them gives is kept
abbrev pub invariant-loop-entry : goal.invariant-loop-entry
invariant-loop-entry l = record {
  names : l.self.names.items ≡ l.initial.self.names.items ++ flat_map (files_of l.below) (take l.entry-index l.entries);
  pending : l.self.pending.items ≡ l.initial.self.pending.items ++ flat_map (directories_of l.below) (take l.entry-index l.entries);
  counted : l.self.met ≡ l.initial.self.met + l.entry-index;
  left : vec_len l.self.pending + (MAX_ENTRIES - l.self.met) ≤ vec_len l.initial.self.pending + (MAX_ENTRIES - l.initial.self.met);
}
