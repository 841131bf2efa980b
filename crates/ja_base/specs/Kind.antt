-- The words that values take.
use Rattle.std.specs.Prelude.{ℕ}
use Rattle.ja_base.specs.declared.java_type.Kind.{Kind}
use Rattle.ja_base.specs.declared.java_type.Kind.TheVariants.{P1, P2, R, T}

-- the words that a value of a kind takes
abbrev pub words_of : Kind → ℕ
words_of P1 = 1
words_of P2 = 2
words_of R = 1
words_of T = 1
