use Rattle.std.proofs.Common.{◌≡◌, ◌++◌, drop}
use Rattle.ja_facts.specs.Verdict.{printed}
use Rattle.ja_verdict.proofs.print.push_name.Given as goal

-- what is written, and what is left to print, are the text and the name
abbrev pub invariant-loop-byte : goal.invariant-loop-byte
invariant-loop-byte l = l.out.items ++ printed (drop l.byte-index l.name) ≡ l.fn.out.items ++ printed l.name
