use Rattle.std.proofs.Common.{◌≡◌, ◌++◌, drop}
use Rattle.ja_ir.specs.Tokens as tokens
use Rattle.ja_tokens.proofs.made.add_element.Given as goal

-- the tokens so far, and those of the element that is left
abbrev pub invariant-loop-i : goal.invariant-loop-i
invariant-loop-i l = l.made ++ tokens.element_tokens l.p (drop l.i l.desc) ≡ l.fn.made ++ tokens.element_tokens l.p l.desc
