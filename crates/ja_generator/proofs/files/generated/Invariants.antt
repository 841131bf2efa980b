use Rattle.std.proofs.Common.{◌≡◌, ◌<◌}
use Rattle.ja_generator.specs.Drawn.{drawn}
use Rattle.ja_generator.specs.Made.{made_files}
use Rattle.ja_generator.proofs.files.generated.Given as goal

abbrev pub invariant-loop-i : goal.invariant-loop-i
invariant-loop-i l = record { below : l.x < 65537; number : l.x ≡ drawn l.number l.i; made : l.files ≡ made_files l.number l.i }
