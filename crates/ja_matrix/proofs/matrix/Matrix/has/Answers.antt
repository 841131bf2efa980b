use Rattle.std.proofs.Common.{◌∙◌, sym}
use Rattle.ja_matrix.proofs.Chunks.{place-there, read}
use Rattle.ja_matrix.proofs.matrix.Matrix.has.Goals as goal

pub index-requires : goal.index-requires
index-requires c =
    rw (c.width_of.ensures, c.self.inside.words.ok.0)
    (place-there c.self.inside.rows c.self.inside.columns c.self.inside.words.items c.args.self.now c.self.invariant c.self.view_is c.args.a c.args.b c.requires.row c.requires.column)

pub returns : goal.returns
returns c =
    let same = read c.self.inside.rows c.self.inside.columns c.self.inside.words.items c.args.self.now c.self.invariant c.self.view_is c.args.a c.args.b c.index.result.now c.requires.row c.requires.column (rw c.width_of.ensures at c.index.ensures) in
    (λ t. sym same ∙ t, λ h. same ∙ h)
