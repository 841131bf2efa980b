use Rattle.std.proofs.Common.{◌∙◌, ◌≡◌, ◌<◌, ◌*◌, ℕ, List, [], get_or, ap, sym, subst, length, drop}
use Rattle.ja_sets.proofs.Flags.{written}
use Rattle.ja_matrix.specs.Matrices.{KeepsShape, Gains}
use Rattle.ja_matrix.specs.InnerChunks.{width, chunk, table, JoinsPiece}
use Rattle.ja_sets.specs.Sets.{HasPair}
use Rattle.ja_matrix.proofs.Chunks.{inside, full, room, joins-chunk}
use Rattle.ja_matrix.proofs.Joining.{room-other, tidy-other, row-other, joined-stored, joined-gains, joined-keeps, joined-changed}
use Rattle.ja_matrix.proofs.matrix.Matrix.join_row.Goals as goal

pub join_piece-requires-clause-room : goal.join_piece-requires-clause-room
join_piece-requires-clause-room c =
    rw (c.width_of-count.ensures, c.as_mut_slice.ensures.value) (room c.self.inside.rows c.self.inside.columns c.self.inside.words.items c.args.self.now c.self.invariant c.self.view_is c.args.to (inside c.self.inside.rows c.self.inside.columns c.self.inside.words.items c.args.self.now c.self.invariant c.self.view_is c.args.to c.requires.row))

pub join_piece-requires-clause-enough : goal.join_piece-requires-clause-enough
join_piece-requires-clause-enough c =
    rw (c.width_of-count.ensures, c.as_slice.ensures.value) (room-other c.self.inside.rows c.self.inside.columns c.self.inside.words.items c.args.self.now c.self.invariant c.self.view_is c.other.inside.rows c.other.inside.columns c.other.inside.words.items c.args.other.now c.other.invariant c.other.view_is c.args.to c.args.from c.requires.row c.requires.other c.requires.columns)

pub invariant_of-self : goal.invariant_of-self
invariant_of-self c =
    let joins : JoinsPiece c.self.inside.words.items (c.args.to * width c.self.inside.columns) c.other.inside.words.items (c.args.from * width c.self.inside.columns) (width c.self.inside.columns) c.join_piece.new.words = rw (c.width_of-count.ensures, c.as_mut_slice.ensures.value, c.as_slice.ensures.value) at c.join_piece.ensures.joined in
    let there : c.args.to < c.self.inside.rows = inside c.self.inside.rows c.self.inside.columns c.self.inside.words.items c.args.self.now c.self.invariant c.self.view_is c.args.to c.requires.row in
    let words = joins-chunk (width c.self.inside.columns) c.args.to c.args.from c.self.inside.words.items c.other.inside.words.items c.join_piece.new.words (full c.self.inside.rows c.self.inside.columns c.self.inside.words.items c.args.self.now c.self.invariant c.self.view_is c.args.to there) joins in
    rw (written c.self.inside.words.len c.join_piece.new.words (drop (length c.join_piece.new.words) c.self.inside.words.items) (c.join_piece.ensures.joined.outside.same_length ∙ ap length c.as_mut_slice.ensures.value ∙ sym c.self.inside.words.ok.0))
    (joined-stored c.self.inside.rows c.self.inside.columns c.self.inside.words.items c.args.self.now c.self.invariant c.self.view_is c.args.to c.requires.row (chunk (width c.self.inside.columns) c.args.from c.other.inside.words.items) (get_or c.args.other.now c.args.from []) (tidy-other c.self.inside.rows c.self.inside.columns c.self.inside.words.items c.args.self.now c.self.invariant c.self.view_is c.other.inside.rows c.other.inside.columns c.other.inside.words.items c.args.other.now c.other.invariant c.other.view_is c.args.to c.args.from c.requires.row c.requires.other c.requires.columns) (sym (row-other c.self.inside.rows c.self.inside.columns c.self.inside.words.items c.args.self.now c.self.invariant c.self.view_is c.other.inside.rows c.other.inside.columns c.other.inside.words.items c.args.other.now c.other.invariant c.other.view_is c.args.to c.args.from c.requires.row c.requires.other c.requires.columns)) c.join_piece.new.words joins.outside words)

pub returns-clause-gains : goal.returns-clause-gains
returns-clause-gains c =
    let joins : JoinsPiece c.self.inside.words.items (c.args.to * width c.self.inside.columns) c.other.inside.words.items (c.args.from * width c.self.inside.columns) (width c.self.inside.columns) c.join_piece.new.words = rw (c.width_of-count.ensures, c.as_mut_slice.ensures.value, c.as_slice.ensures.value) at c.join_piece.ensures.joined in
    let there : c.args.to < c.self.inside.rows = inside c.self.inside.rows c.self.inside.columns c.self.inside.words.items c.args.self.now c.self.invariant c.self.view_is c.args.to c.requires.row in
    let words = joins-chunk (width c.self.inside.columns) c.args.to c.args.from c.self.inside.words.items c.other.inside.words.items c.join_piece.new.words (full c.self.inside.rows c.self.inside.columns c.self.inside.words.items c.args.self.now c.self.invariant c.self.view_is c.args.to there) joins in
    subst (λ (ws : List ℕ). Gains c.args.self.now (table c.self.inside.rows c.self.inside.columns ws) (λ a b. (a ≡ c.args.to) × HasPair c.args.other.now c.args.from b)) (sym (written c.self.inside.words.len c.join_piece.new.words (drop (length c.join_piece.new.words) c.self.inside.words.items) (c.join_piece.ensures.joined.outside.same_length ∙ ap length c.as_mut_slice.ensures.value ∙ sym c.self.inside.words.ok.0)))
    (joined-gains c.self.inside.rows c.self.inside.columns c.self.inside.words.items c.args.self.now c.self.invariant c.self.view_is c.args.to c.requires.row (chunk (width c.self.inside.columns) c.args.from c.other.inside.words.items) (get_or c.args.other.now c.args.from []) (tidy-other c.self.inside.rows c.self.inside.columns c.self.inside.words.items c.args.self.now c.self.invariant c.self.view_is c.other.inside.rows c.other.inside.columns c.other.inside.words.items c.args.other.now c.other.invariant c.other.view_is c.args.to c.args.from c.requires.row c.requires.other c.requires.columns) (sym (row-other c.self.inside.rows c.self.inside.columns c.self.inside.words.items c.args.self.now c.self.invariant c.self.view_is c.other.inside.rows c.other.inside.columns c.other.inside.words.items c.args.other.now c.other.invariant c.other.view_is c.args.to c.args.from c.requires.row c.requires.other c.requires.columns)) c.join_piece.new.words joins.outside words)

pub returns-clause-shape : goal.returns-clause-shape
returns-clause-shape c =
    let joins : JoinsPiece c.self.inside.words.items (c.args.to * width c.self.inside.columns) c.other.inside.words.items (c.args.from * width c.self.inside.columns) (width c.self.inside.columns) c.join_piece.new.words = rw (c.width_of-count.ensures, c.as_mut_slice.ensures.value, c.as_slice.ensures.value) at c.join_piece.ensures.joined in
    let there : c.args.to < c.self.inside.rows = inside c.self.inside.rows c.self.inside.columns c.self.inside.words.items c.args.self.now c.self.invariant c.self.view_is c.args.to c.requires.row in
    let words = joins-chunk (width c.self.inside.columns) c.args.to c.args.from c.self.inside.words.items c.other.inside.words.items c.join_piece.new.words (full c.self.inside.rows c.self.inside.columns c.self.inside.words.items c.args.self.now c.self.invariant c.self.view_is c.args.to there) joins in
    subst (λ (ws : List ℕ). KeepsShape c.args.self.now (table c.self.inside.rows c.self.inside.columns ws)) (sym (written c.self.inside.words.len c.join_piece.new.words (drop (length c.join_piece.new.words) c.self.inside.words.items) (c.join_piece.ensures.joined.outside.same_length ∙ ap length c.as_mut_slice.ensures.value ∙ sym c.self.inside.words.ok.0)))
    (joined-keeps c.self.inside.rows c.self.inside.columns c.self.inside.words.items c.args.self.now c.self.invariant c.self.view_is c.args.to c.requires.row (chunk (width c.self.inside.columns) c.args.from c.other.inside.words.items) (get_or c.args.other.now c.args.from []) (tidy-other c.self.inside.rows c.self.inside.columns c.self.inside.words.items c.args.self.now c.self.invariant c.self.view_is c.other.inside.rows c.other.inside.columns c.other.inside.words.items c.args.other.now c.other.invariant c.other.view_is c.args.to c.args.from c.requires.row c.requires.other c.requires.columns) (sym (row-other c.self.inside.rows c.self.inside.columns c.self.inside.words.items c.args.self.now c.self.invariant c.self.view_is c.other.inside.rows c.other.inside.columns c.other.inside.words.items c.args.other.now c.other.invariant c.other.view_is c.args.to c.args.from c.requires.row c.requires.other c.requires.columns)) c.join_piece.new.words joins.outside words)

pub returns-clause-changed : goal.returns-clause-changed
returns-clause-changed c =
    let joins : JoinsPiece c.self.inside.words.items (c.args.to * width c.self.inside.columns) c.other.inside.words.items (c.args.from * width c.self.inside.columns) (width c.self.inside.columns) c.join_piece.new.words = rw (c.width_of-count.ensures, c.as_mut_slice.ensures.value, c.as_slice.ensures.value) at c.join_piece.ensures.joined in
    let there : c.args.to < c.self.inside.rows = inside c.self.inside.rows c.self.inside.columns c.self.inside.words.items c.args.self.now c.self.invariant c.self.view_is c.args.to c.requires.row in
    let words = joins-chunk (width c.self.inside.columns) c.args.to c.args.from c.self.inside.words.items c.other.inside.words.items c.join_piece.new.words (full c.self.inside.rows c.self.inside.columns c.self.inside.words.items c.args.self.now c.self.invariant c.self.view_is c.args.to there) joins in
    joined-changed c.self.inside.rows c.self.inside.columns c.self.inside.words.items c.args.self.now c.self.invariant c.self.view_is c.args.to c.requires.row (chunk (width c.self.inside.columns) c.args.from c.other.inside.words.items) (get_or c.args.other.now c.args.from []) (tidy-other c.self.inside.rows c.self.inside.columns c.self.inside.words.items c.args.self.now c.self.invariant c.self.view_is c.other.inside.rows c.other.inside.columns c.other.inside.words.items c.args.other.now c.other.invariant c.other.view_is c.args.to c.args.from c.requires.row c.requires.other c.requires.columns) (sym (row-other c.self.inside.rows c.self.inside.columns c.self.inside.words.items c.args.self.now c.self.invariant c.self.view_is c.other.inside.rows c.other.inside.columns c.other.inside.words.items c.args.other.now c.other.invariant c.other.view_is c.args.to c.args.from c.requires.row c.requires.other c.requires.columns)) c.join_piece.new.words joins.outside words c.join_piece.result
    (rw (c.width_of-count.ensures, c.as_mut_slice.ensures.value) at c.join_piece.ensures.changed)
    (rw c.as_mut_slice.ensures.value at c.join_piece.ensures.unchanged)
