use Rattle.std.proofs.Common.{◌≡◌, ◌++◌, ◌∷◌, [], ◌-◌}
use Rattle.ja_explicit.specs.InnerWords as words
use Rattle.ja_explicit.specs.InnerRules.{clauses_of}
use Rattle.ja_explicit.proofs.stepping.chances.Given as goal

abbrev pub invariant-loop-n : goal.invariant-loop-n
invariant-loop-n l =
    l.list ++ words.over (λ n. words.chance l.to (clauses_of l.rule) (words.says l.from l.word) n ∷ []) l.n (l.count - l.n) ≡ words.chances l.to (clauses_of l.rule) (words.says l.from l.word)
