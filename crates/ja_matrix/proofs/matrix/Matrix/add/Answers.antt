use Rattle.std.proofs.Common.{◌∙◌, ◌+◌, ◌*◌, ◌/◌}
use Rattle.std.proofs.lemmas.List.{get_or_default}
use Rattle.ja_sets.proofs.Flags.{one-bit}
use Rattle.ja_matrix.specs.InnerChunks.{width}
use Rattle.ja_matrix.proofs.Chunks.{place-there}
use Rattle.ja_matrix.proofs.Joining.{set-stored, set-gains, set-keeps, set-changed}
use Rattle.ja_matrix.proofs.matrix.Matrix.add.Goals as goal

pub index-word-requires : goal.index-word-requires
index-word-requires c = rw (c.width_of.ensures, c.self.inside.words.ok.0) (place-there c.self.inside.rows c.self.inside.columns c.self.inside.words.items c.args.self.now c.self.invariant c.self.view_is c.args.a c.args.b c.requires.row c.requires.column)

pub index_mut-requires : goal.index_mut-requires
index_mut-requires c = rw (c.width_of.ensures, c.self.inside.words.ok.0) (place-there c.self.inside.rows c.self.inside.columns c.self.inside.words.items c.args.self.now c.self.invariant c.self.view_is c.args.a c.args.b c.requires.row c.requires.column)

pub invariant_of-self : goal.invariant_of-self
invariant_of-self c =
    rw (one-bit c.args.b, c.width_of.ensures)
    (set-stored c.self.inside.rows c.self.inside.columns c.self.inside.words.items c.args.self.now c.self.invariant c.self.view_is c.args.a c.args.b c.requires.row c.requires.column c.index-word.result.now (rw c.width_of.ensures at c.index-word.ensures ∙ get_or_default c.self.inside.words.items (c.args.a * width c.self.inside.columns + c.args.b / 64) c.index-word.result.now 0 (place-there c.self.inside.rows c.self.inside.columns c.self.inside.words.items c.args.self.now c.self.invariant c.self.view_is c.args.a c.args.b c.requires.row c.requires.column)))

pub returns-clause-gains : goal.returns-clause-gains
returns-clause-gains c =
    rw (one-bit c.args.b, c.width_of.ensures)
    (set-gains c.self.inside.rows c.self.inside.columns c.self.inside.words.items c.args.self.now c.self.invariant c.self.view_is c.args.a c.args.b c.requires.row c.requires.column c.index-word.result.now (rw c.width_of.ensures at c.index-word.ensures ∙ get_or_default c.self.inside.words.items (c.args.a * width c.self.inside.columns + c.args.b / 64) c.index-word.result.now 0 (place-there c.self.inside.rows c.self.inside.columns c.self.inside.words.items c.args.self.now c.self.invariant c.self.view_is c.args.a c.args.b c.requires.row c.requires.column)))

pub returns-clause-shape : goal.returns-clause-shape
returns-clause-shape c =
    rw (one-bit c.args.b, c.width_of.ensures)
    (set-keeps c.self.inside.rows c.self.inside.columns c.self.inside.words.items c.args.self.now c.self.invariant c.self.view_is c.args.a c.args.b c.requires.row c.requires.column c.index-word.result.now (rw c.width_of.ensures at c.index-word.ensures ∙ get_or_default c.self.inside.words.items (c.args.a * width c.self.inside.columns + c.args.b / 64) c.index-word.result.now 0 (place-there c.self.inside.rows c.self.inside.columns c.self.inside.words.items c.args.self.now c.self.invariant c.self.view_is c.args.a c.args.b c.requires.row c.requires.column)))

pub returns-clause-changed : goal.returns-clause-changed
returns-clause-changed c =
    rw (one-bit c.args.b)
    (set-changed c.self.inside.rows c.self.inside.columns c.self.inside.words.items c.args.self.now c.self.invariant c.self.view_is c.args.a c.args.b c.requires.row c.requires.column c.index-word.result.now (rw c.width_of.ensures at c.index-word.ensures ∙ get_or_default c.self.inside.words.items (c.args.a * width c.self.inside.columns + c.args.b / 64) c.index-word.result.now 0 (place-there c.self.inside.rows c.self.inside.columns c.self.inside.words.items c.args.self.now c.self.invariant c.self.view_is c.args.a c.args.b c.requires.row c.requires.column)))
