use Rattle.std.proofs.Common.{◌≡◌, map, take}
use Rattle.std.specs.Prelude.{All}
use Rattle.ja_class.specs.ClassFile.{IsSpelled}
use Rattle.ja_class.specs.Meaning.{ClassSpelled}
use Rattle.ja_lower.proofs.program.heads_of.Given as goal

abbrev pub invariant-loop-class : goal.invariant-loop-class
invariant-loop-class l = record {
  heads : l.heads ≡ map (λ (class : ClassSpelled). class.head) (take l.class-index l.classes);
  spelled : All IsSpelled (take l.class-index l.classes);
}
