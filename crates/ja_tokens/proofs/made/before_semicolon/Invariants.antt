use Rattle.std.proofs.Common.{◌≡◌, ◌++◌, take, drop}
use Rattle.ja_ir.specs.Tokens as tokens
use Rattle.ja_tokens.proofs.made.before_semicolon.Given as goal

-- what is looked at lies before the first ';'
abbrev pub invariant-loop-i : goal.invariant-loop-i
invariant-loop-i l = take l.i l.bytes ++ tokens.before_semicolon (drop l.i l.bytes) ≡ tokens.before_semicolon l.bytes
