use Rattle.std.proofs.Common.{◌≡◌, ◌*◌, replicate, rules}
use Rattle.ja_matrix.proofs.Chunks.{no-pairs, shaped, zero-copies}
use Rattle.ja_matrix.proofs.matrix.Matrix.new.Goals as goal

pub returns-in-Ok-clause-shape : goal.returns-in-Ok-clause-shape
returns-in-Ok-clause-shape c = shaped c.args.rows c.args.columns c.in-Ok.words.items

pub returns-in-Ok-clause-empty : goal.returns-in-Ok-clause-empty
returns-in-Ok-clause-empty c =
    let zeros : c.in-Ok.words.items ≡ replicate (c.args.rows * c.width_of.result) 0 = search rules in
    no-pairs c.args.rows c.args.columns c.in-Ok.words.items (zero-copies c.in-Ok.words.items (c.args.rows * c.width_of.result) zeros)
