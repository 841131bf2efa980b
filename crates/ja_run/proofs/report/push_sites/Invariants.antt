use Rattle.std.proofs.Common.{◌≡◌, ◌++◌, drop, length}
use Rattle.ja_run.specs.Report.{site_lines}
use Rattle.ja_run.proofs.report.push_sites.Given as goal

-- what is written, and the lines that are left, are the text and all lines
abbrev pub invariant-loop-at : goal.invariant-loop-at
invariant-loop-at l =
    l.out.items ++ site_lines l.class (drop l.at l.pcs) (drop l.at l.warned) ≡ l.fn.out.items ++ site_lines l.class l.pcs l.warned
