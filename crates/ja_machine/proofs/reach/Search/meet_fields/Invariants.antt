use Rattle.std.proofs.Common.{◌≡◌, drop}
use Rattle.ja_machine.specs.InnerSearch.{meets_fields}
use Rattle.ja_machine.specs.InnerSeen.{seen_by}
use Rattle.ja_machine.proofs.reach.Search.meet_fields.Given as goal

-- what is left to meet makes of the search what all fields make of it at the start
abbrev pub invariant-loop-field : goal.invariant-loop-field
invariant-loop-field l = meets_fields (drop l.field-index l.fields) (seen_by l.self) ≡ meets_fields l.fields (seen_by l.initial.self)
