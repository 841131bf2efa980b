use Rattle.std.proofs.Common.{◌≡◌, ◌+◌, ◌-◌, ◌*◌, ◌∷◌, ◌++◌}
use Rattle.ja_code.specs.Bytes.{far, places}
use Rattle.ja_code.proofs.operand.targets_of.Given as goal

-- the targets so far and those of the offsets that are left are all
abbrev pub invariant-loop : goal.invariant-loop
invariant-loop l =
    (l.at ≡ l.table.first + l.table.stride * l.counter)
    × (l.targets ++ places l.pc l.bytes l.table.stride l.at (l.table.count - l.counter)
    ≡ far l.pc l.table.default ∷ places l.pc l.bytes l.table.stride l.table.first l.table.count)
