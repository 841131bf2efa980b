use Rattle.ja_network.specs.declared.cell.Cell.TheVariants.{Nothing}
use Rattle.ja_class_tables.proofs.Pools.{grows-on}
use Rattle.ja_class_tables.proofs.Rows.{row-more}
use Rattle.ja_class_tables.proofs.slots.row_names.Goals as goal

pub loop-cell-preserved : goal.loop-cell-preserved
loop-cell-preserved c =
    let grown = c.in_ok-name.ensures.grows in
    let before = c.loop-cell.invariant in
    record {
      is_pool = c.in_ok-name.ensures.pool;
      grows = grows-on c.args.pool.now.sets c.loop-cell.pool.sets c.name.new.self.sets before.grows grown;
      named = row-more c.args.net.now c.loop-cell.pool.sets c.name.new.self.sets c.args.cells.now c.loop-cell.cell-index Nothing c.loop-cell.row c.push.new.self c.in_ok-name.name c.loop-cell-test.true grown
          before.named c.in_ok-name.ensures.named c.in_ok-push.ensures.ok;
    }
