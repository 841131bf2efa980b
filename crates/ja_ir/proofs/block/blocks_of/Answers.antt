use Rattle.std.proofs.Common.{rules, ◌≡◌, false, List, length, replicate, sym, subst}
use Rattle.std.specs.Prelude.{IfOk, Result, Ok, Err}
use Rattle.ja_base.specs.declared.memory.Memory.{Memory}
use Rattle.ja_ir.specs.declared.block.Block.{Block}
use Rattle.ja_ir.specs.Blocks.{AreBlocks}
use Rattle.ja_ir.specs.InnerLeaders.{blocks_after}
use Rattle.ja_ir.proofs.Cuts.{marked, are-blocks}
use Rattle.ja_ir.proofs.block.blocks_of.Goals as goal

ok-from : (P : List Block → Type 0) (list : List Block) (r : Result (List Block) Memory) → IfOk r (λ l. l ≡ list) → P list → IfOk r P
ok-from P list (Ok l) e p = subst P (sym e) p
ok-from P list (Err e) h p = h

-- the flags are those of the whole method
pub returns : goal.returns
returns c =
    let begun : c.in-Ok.starts.items ≡ replicate (length c.args.m.now.code) false = search rules in
    let flags : marked c.args.m.now ≡ c.mark_handlers.new.starts = search rules in
    ok-from (AreBlocks c.args.m.now) (blocks_after c.mark_handlers.new.starts) c.cut.result c.cut.ensures
    (are-blocks c.args.m.now c.requires.inside c.mark_handlers.new.starts flags)
