use Rattle.std.proofs.Common.{false, [], get_or}
use Rattle.ja_moves.proofs.Growth.{grows-one}
use Rattle.ja_moves.proofs.Carried.{not-has}
use Rattle.ja_moves.proofs.marks.mark.Goals as goal

pub returns : goal.returns
returns c =
    grows-one c.args.rows c.args.columns c.args.table.now c.add.new.self c.args.a c.args.b c.requires.table c.requires.row c.add.ensures.gains c.add.ensures.shape
    (not-has (get_or (get_or c.args.table.now c.args.a []) c.args.b false) c.has.result c.has.ensures c.if-has.false)
