use Rattle.ja_holds.specs.Inner.{HasTokens}
use Rattle.ja_holds.proofs.classes.declared_tokens.Given as goal

abbrev pub invariant-loop-f : goal.invariant-loop-f
invariant-loop-f l = HasTokens l.p l.c l.f l.rows
