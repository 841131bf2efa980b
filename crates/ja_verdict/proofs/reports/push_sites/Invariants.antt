use Rattle.std.proofs.Common.{◌≡◌, ◌++◌, drop}
use Rattle.ja_facts.specs.Verdict.{site_lines}
use Rattle.ja_verdict.proofs.reports.push_sites.Given as goal

-- what is written, and the lines that are left, are the text and all lines
abbrev pub invariant-loop-at : goal.invariant-loop-at
invariant-loop-at l =
    l.out.items ++ site_lines l.parts (drop l.at l.sites) (drop l.at l.warned) ≡ l.fn.out.items ++ site_lines l.parts l.sites l.warned
