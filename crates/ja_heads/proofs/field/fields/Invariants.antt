use Rattle.std.proofs.Common.{◌≡◌, take}
use Rattle.ja_heads.specs.Fields.{fields_from}
use Rattle.ja_heads.proofs.field.fields.Given as goal

abbrev pub invariant-loop-c : goal.invariant-loop-c
invariant-loop-c l = l.fields ≡ fields_from 0 (take l.c l.heads)
