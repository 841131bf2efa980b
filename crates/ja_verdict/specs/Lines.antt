-- The lines that are written where there is no report, and the status of a report.
use Rattle.std.specs.Prelude.{ℕ, Bool, List, ◌++◌, ◌==◌, codes, if◌then◌else◌}
use Rattle.std.specs.Fmt.{decimal}
use Rattle.ja_facts.specs.Verdict.{warned_count}

-- the status of a report: 1 where some sink call is warned, else 0
abbrev pub status_of : (warned : List Bool) → ℕ
status_of warned = if warned_count warned == 0 then 0 else 1

-- the lines where the words are wrong
abbrev pub usage_text : List ℕ
usage_text =
    codes "usage: julia_cli analyse DIR [--workers N] [--limit SLOTS] [--witness]\n"
    ++ codes "usage: julia_cli generate NUMBER CLASSES [--workers N]\n"

-- the line where the table of nodes is full
abbrev pub full_text : (slots : ℕ) → List ℕ
full_text slots = codes "table full slots " ++ decimal slots ++ codes "\n"
