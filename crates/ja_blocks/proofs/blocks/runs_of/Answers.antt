use Rattle.std.proofs.Common.{◌≡◌, ℕ, List, Ok, Err, length, subst, arith}
use Rattle.std.specs.Prelude.{IfOk, Result}
use Rattle.ja_base.specs.declared.memory.Memory.{Memory}
use Rattle.ja_ir.specs.declared.method.Method.{Method}
use Rattle.ja_ir.specs.declared.block.Block.{Block}
use Rattle.ja_blocks.specs.Blocks.{IsAmong, AreRuns}
use Rattle.ja_blocks.specs.Inner.{AreSingles, GoStraight}
use Rattle.ja_blocks.proofs.Ordering.{runs_from_blocks, runs_from_singles}
use Rattle.ja_blocks.proofs.blocks.runs_of.Goals as goal

pub returns-then-are_joined : goal.returns-then-are_joined
returns-then-are_joined c = runs_from_blocks c.args.method.now c.in_ok-row.row (c.in_ok-row.ensures)
    (subst GoStraight c.as_slice.ensures (c.go_straight-is_straight.ensures c.if-is_straight.true))
    (λ i lt. subst (λ (row : List Block). IsAmong row i) c.as_slice-then-is_straight.ensures (c.are_joined.ensures c.if-are_joined.true i (let long = c.len.ensures in omega arith)))

runs_if_singles : (method : Method) (n : ℕ) (r : Result (List Block) Memory) → n ≡ length method.code → IfOk r (AreSingles n) → IfOk r (AreRuns method)
runs_if_singles method n (Ok row) same is = runs_from_singles method row (subst (λ k. AreSingles k row) same is)
runs_if_singles method n (Err e) same is = tt

pub returns-else-is_straight : goal.returns-else-is_straight
returns-else-is_straight c = runs_if_singles c.args.method.now c.len-else-is_straight.result c.singles.result c.len-else-is_straight.ensures c.singles.ensures
