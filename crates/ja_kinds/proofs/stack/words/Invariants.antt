use Rattle.std.proofs.Common.{◌≡◌, ◌≤◌, ◌*◌, take}
use Rattle.ja_kinds.specs.Frame.{words}
use Rattle.ja_kinds.proofs.stack.words.Given as goal

-- each value so far has at most two words
abbrev pub invariant-loop-kind : goal.invariant-loop-kind
invariant-loop-kind l = record { so_far : l.total ≡ words (take l.kind-index l.values); few : l.total ≤ 2 * l.kind-index }
