-- What a search of the code has seen.
use Rattle.ja_machine.specs.declared.reach.Search.{Search}
use Rattle.ja_machine.specs.InnerSearch.{Seen}

-- the flags and the places of a search
abbrev pub seen_by : Search → Seen
seen_by it = record { flags = it.flags.items; work = it.work.items }
