-- Where all blocks are settled, no rule gives more.
use Rattle.ja_ir.specs.Whole.{IsWhole}
use Rattle.ja_blocks.specs.Blocks.{AreProgramBlocks}
use Rattle.ja_solution.specs.Problem.{Problem}
use Rattle.ja_solution.specs.Cells.{Values}
use Rattle.ja_solution.specs.Solved.{IsClosed}
use Rattle.ja_solution.specs.Settled.{AreSettled}
use Rattle.ja_solution.proofs.Placed.{at_place, in_block, applied_in}

pub closed_from_settled : (x : Problem) (v : Values) → IsWhole x.program → AreProgramBlocks x.program x.blocks → AreSettled x (λ k. Unit {0}) v → IsClosed x v
closed_from_settled x v whole blocks settled = record {
  rules = λ ps f gives each e.
      let some = applied_in x whole blocks ps f gives e in
      let at = at_place x.blocks some.block some.listed in
      (settled at.0 some.block at.1 tt).rules ps f gives some.has each e;
  sites = λ k site at is.
      let some = in_block x whole blocks site.method.0 site.index is.at.at.instr is.at.at.found in
      let place = at_place x.blocks some.block some.listed in
      (settled place.0 some.block place.1 tt).sites k site at some.has is;
}
