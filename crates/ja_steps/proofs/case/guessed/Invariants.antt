use Rattle.std.proofs.Common.{◌≡◌, drop}
use Rattle.ja_steps.specs.Inner as parts
use Rattle.ja_steps.proofs.case.guessed.Given as goal

abbrev pub invariant-loop-source : goal.invariant-loop-source
invariant-loop-source l = parts.guessed (drop l.source-index l.sources) l.left l.place ≡ parts.guessed l.sources l.code l.place
