use Rattle.std.proofs.Common.{◌∙◌, ◌≡◌, ◌<◌, ◌*◌, ◌↔◌, inl, inr, ℕ, Bool, List, [], get_or, ap, sym, subst, refl, length, drop, arith}
use Rattle.ja_sets.specs.InnerWords.{flags, IsTidy}
use Rattle.ja_sets.specs.Sets.{Has, Adds, HasPair}
use Rattle.ja_sets.proofs.Flags.{written}
use Rattle.ja_matrix.specs.Matrices.{KeepsShape, Gains, AddsKept}
use Rattle.ja_matrix.specs.InnerChunks.{width, chunk, table, KeepsPiece}
use Rattle.ja_matrix.proofs.Chunks.{inside, full, room}
use Rattle.ja_matrix.proofs.Joining.{room-other, tidy-other, row-other, both, tidy-both, Has-both, keeps-chunk, joined-stored, joined-gains, joined-keeps, joined-changed}
use Rattle.ja_matrix.proofs.matrix.Matrix.join_kept.Goals as goal

pub join_kept_piece-requires-clause-room : goal.join_kept_piece-requires-clause-room
join_kept_piece-requires-clause-room c =
    rw (c.width_of-count.ensures, c.as_mut_slice.ensures.value) (room c.self.inside.rows c.self.inside.columns c.self.inside.words.items c.args.self.now c.self.invariant c.self.view_is c.args.to (inside c.self.inside.rows c.self.inside.columns c.self.inside.words.items c.args.self.now c.self.invariant c.self.view_is c.args.to c.requires.row))

pub join_kept_piece-requires-clause-enough : goal.join_kept_piece-requires-clause-enough
join_kept_piece-requires-clause-enough c =
    rw (c.width_of-count.ensures, c.as_slice.ensures.value) (room-other c.self.inside.rows c.self.inside.columns c.self.inside.words.items c.args.self.now c.self.invariant c.self.view_is c.other.inside.rows c.other.inside.columns c.other.inside.words.items c.args.other.now c.other.invariant c.other.view_is c.args.to c.args.from c.requires.row c.requires.other c.requires.columns)

pub join_kept_piece-requires-clause-kept : goal.join_kept_piece-requires-clause-kept
join_kept_piece-requires-clause-kept c =
    let all = room-other c.self.inside.rows c.self.inside.columns c.self.inside.words.items c.args.self.now c.self.invariant c.self.view_is c.kept.inside.rows c.kept.inside.columns c.kept.inside.words.items c.args.kept.now c.kept.invariant c.kept.view_is c.args.to 0 c.requires.row c.requires.kept c.requires.kept_columns in
    rw (c.width_of-count.ensures, c.as_slice-2.ensures.value) (omega (arith, all))

pub invariant_of-self : goal.invariant_of-self
invariant_of-self c =
    let keeps : KeepsPiece c.self.inside.words.items (c.args.to * width c.self.inside.columns) c.other.inside.words.items (c.args.from * width c.self.inside.columns) c.kept.inside.words.items (width c.self.inside.columns) c.join_kept_piece.new.words = rw (c.width_of-count.ensures, c.as_mut_slice.ensures.value, c.as_slice.ensures.value, c.as_slice-2.ensures.value) at c.join_kept_piece.ensures.joined in
    let there : c.args.to < c.self.inside.rows = inside c.self.inside.rows c.self.inside.columns c.self.inside.words.items c.args.self.now c.self.invariant c.self.view_is c.args.to c.requires.row in
    let first : IsTidy c.self.inside.columns (chunk (width c.self.inside.columns) c.args.from c.other.inside.words.items) = tidy-other c.self.inside.rows c.self.inside.columns c.self.inside.words.items c.args.self.now c.self.invariant c.self.view_is c.other.inside.rows c.other.inside.columns c.other.inside.words.items c.args.other.now c.other.invariant c.other.view_is c.args.to c.args.from c.requires.row c.requires.other c.requires.columns in
    let second : IsTidy c.self.inside.columns (chunk (width c.self.inside.columns) 0 c.kept.inside.words.items) = tidy-other c.self.inside.rows c.self.inside.columns c.self.inside.words.items c.args.self.now c.self.invariant c.self.view_is c.kept.inside.rows c.kept.inside.columns c.kept.inside.words.items c.args.kept.now c.kept.invariant c.kept.view_is c.args.to 0 c.requires.row c.requires.kept c.requires.kept_columns in
    let words = keeps-chunk (width c.self.inside.columns) c.args.to c.args.from c.self.inside.words.items c.other.inside.words.items c.kept.inside.words.items c.join_kept_piece.new.words (full c.self.inside.rows c.self.inside.columns c.self.inside.words.items c.args.self.now c.self.invariant c.self.view_is c.args.to there) (first.enough ∙ sym second.enough) keeps in
    rw (written c.self.inside.words.len c.join_kept_piece.new.words (drop (length c.join_kept_piece.new.words) c.self.inside.words.items) (c.join_kept_piece.ensures.joined.outside.same_length ∙ ap length c.as_mut_slice.ensures.value ∙ sym c.self.inside.words.ok.0))
    (joined-stored c.self.inside.rows c.self.inside.columns c.self.inside.words.items c.args.self.now c.self.invariant c.self.view_is c.args.to c.requires.row (both (chunk (width c.self.inside.columns) c.args.from c.other.inside.words.items) (chunk (width c.self.inside.columns) 0 c.kept.inside.words.items)) (flags c.self.inside.columns (both (chunk (width c.self.inside.columns) c.args.from c.other.inside.words.items) (chunk (width c.self.inside.columns) 0 c.kept.inside.words.items))) (tidy-both c.self.inside.columns (chunk (width c.self.inside.columns) c.args.from c.other.inside.words.items) (chunk (width c.self.inside.columns) 0 c.kept.inside.words.items) first second) refl c.join_kept_piece.new.words keeps.outside words)

-- what both rows have
told : (old new : List (List Bool)) (to : ℕ) (ys : List Bool) (P Q : ℕ → Type 0) → Gains old new (λ a b. (a ≡ to) × Has ys b) → ((b : ℕ) → Has ys b ↔ (P b × Q b)) → Gains old new (λ a b. (a ≡ to) × P b × Q b)
told old new to ys P Q gains iff a b = (
  λ has. elim ((gains a b).0 has) [ inl before ↦ inl before | inr here ↦ inr (here.0, ((iff b).0 here.1).0, ((iff b).0 here.1).1) ],
  λ either. (gains a b).1 (elim either [ inl before ↦ inl before | inr here ↦ inr (here.0, (iff b).1 (here.1, here.2)) ]),
)

pub returns-clause-gains : goal.returns-clause-gains
returns-clause-gains c =
    let keeps : KeepsPiece c.self.inside.words.items (c.args.to * width c.self.inside.columns) c.other.inside.words.items (c.args.from * width c.self.inside.columns) c.kept.inside.words.items (width c.self.inside.columns) c.join_kept_piece.new.words = rw (c.width_of-count.ensures, c.as_mut_slice.ensures.value, c.as_slice.ensures.value, c.as_slice-2.ensures.value) at c.join_kept_piece.ensures.joined in
    let there : c.args.to < c.self.inside.rows = inside c.self.inside.rows c.self.inside.columns c.self.inside.words.items c.args.self.now c.self.invariant c.self.view_is c.args.to c.requires.row in
    let first : IsTidy c.self.inside.columns (chunk (width c.self.inside.columns) c.args.from c.other.inside.words.items) = tidy-other c.self.inside.rows c.self.inside.columns c.self.inside.words.items c.args.self.now c.self.invariant c.self.view_is c.other.inside.rows c.other.inside.columns c.other.inside.words.items c.args.other.now c.other.invariant c.other.view_is c.args.to c.args.from c.requires.row c.requires.other c.requires.columns in
    let second : IsTidy c.self.inside.columns (chunk (width c.self.inside.columns) 0 c.kept.inside.words.items) = tidy-other c.self.inside.rows c.self.inside.columns c.self.inside.words.items c.args.self.now c.self.invariant c.self.view_is c.kept.inside.rows c.kept.inside.columns c.kept.inside.words.items c.args.kept.now c.kept.invariant c.kept.view_is c.args.to 0 c.requires.row c.requires.kept c.requires.kept_columns in
    let words = keeps-chunk (width c.self.inside.columns) c.args.to c.args.from c.self.inside.words.items c.other.inside.words.items c.kept.inside.words.items c.join_kept_piece.new.words (full c.self.inside.rows c.self.inside.columns c.self.inside.words.items c.args.self.now c.self.invariant c.self.view_is c.args.to there) (first.enough ∙ sym second.enough) keeps in
    subst (λ (ws : List ℕ). Gains c.args.self.now (table c.self.inside.rows c.self.inside.columns ws) (λ a b. (a ≡ c.args.to) × HasPair c.args.other.now c.args.from b × HasPair c.args.kept.now 0 b)) (sym (written c.self.inside.words.len c.join_kept_piece.new.words (drop (length c.join_kept_piece.new.words) c.self.inside.words.items) (c.join_kept_piece.ensures.joined.outside.same_length ∙ ap length c.as_mut_slice.ensures.value ∙ sym c.self.inside.words.ok.0)))
    (told c.args.self.now (table c.self.inside.rows c.self.inside.columns c.join_kept_piece.new.words) c.args.to (flags c.self.inside.columns (both (chunk (width c.self.inside.columns) c.args.from c.other.inside.words.items) (chunk (width c.self.inside.columns) 0 c.kept.inside.words.items))) (HasPair c.args.other.now c.args.from) (HasPair c.args.kept.now 0)
    (joined-gains c.self.inside.rows c.self.inside.columns c.self.inside.words.items c.args.self.now c.self.invariant c.self.view_is c.args.to c.requires.row (both (chunk (width c.self.inside.columns) c.args.from c.other.inside.words.items) (chunk (width c.self.inside.columns) 0 c.kept.inside.words.items)) (flags c.self.inside.columns (both (chunk (width c.self.inside.columns) c.args.from c.other.inside.words.items) (chunk (width c.self.inside.columns) 0 c.kept.inside.words.items))) (tidy-both c.self.inside.columns (chunk (width c.self.inside.columns) c.args.from c.other.inside.words.items) (chunk (width c.self.inside.columns) 0 c.kept.inside.words.items) first second) refl c.join_kept_piece.new.words keeps.outside words)
    (λ b. rw (row-other c.self.inside.rows c.self.inside.columns c.self.inside.words.items c.args.self.now c.self.invariant c.self.view_is c.other.inside.rows c.other.inside.columns c.other.inside.words.items c.args.other.now c.other.invariant c.other.view_is c.args.to c.args.from c.requires.row c.requires.other c.requires.columns, row-other c.self.inside.rows c.self.inside.columns c.self.inside.words.items c.args.self.now c.self.invariant c.self.view_is c.kept.inside.rows c.kept.inside.columns c.kept.inside.words.items c.args.kept.now c.kept.invariant c.kept.view_is c.args.to 0 c.requires.row c.requires.kept c.requires.kept_columns) (Has-both c.self.inside.columns (chunk (width c.self.inside.columns) c.args.from c.other.inside.words.items) (chunk (width c.self.inside.columns) 0 c.kept.inside.words.items) b (first.enough ∙ sym second.enough))))

pub returns-clause-shape : goal.returns-clause-shape
returns-clause-shape c =
    let keeps : KeepsPiece c.self.inside.words.items (c.args.to * width c.self.inside.columns) c.other.inside.words.items (c.args.from * width c.self.inside.columns) c.kept.inside.words.items (width c.self.inside.columns) c.join_kept_piece.new.words = rw (c.width_of-count.ensures, c.as_mut_slice.ensures.value, c.as_slice.ensures.value, c.as_slice-2.ensures.value) at c.join_kept_piece.ensures.joined in
    let there : c.args.to < c.self.inside.rows = inside c.self.inside.rows c.self.inside.columns c.self.inside.words.items c.args.self.now c.self.invariant c.self.view_is c.args.to c.requires.row in
    let first : IsTidy c.self.inside.columns (chunk (width c.self.inside.columns) c.args.from c.other.inside.words.items) = tidy-other c.self.inside.rows c.self.inside.columns c.self.inside.words.items c.args.self.now c.self.invariant c.self.view_is c.other.inside.rows c.other.inside.columns c.other.inside.words.items c.args.other.now c.other.invariant c.other.view_is c.args.to c.args.from c.requires.row c.requires.other c.requires.columns in
    let second : IsTidy c.self.inside.columns (chunk (width c.self.inside.columns) 0 c.kept.inside.words.items) = tidy-other c.self.inside.rows c.self.inside.columns c.self.inside.words.items c.args.self.now c.self.invariant c.self.view_is c.kept.inside.rows c.kept.inside.columns c.kept.inside.words.items c.args.kept.now c.kept.invariant c.kept.view_is c.args.to 0 c.requires.row c.requires.kept c.requires.kept_columns in
    let words = keeps-chunk (width c.self.inside.columns) c.args.to c.args.from c.self.inside.words.items c.other.inside.words.items c.kept.inside.words.items c.join_kept_piece.new.words (full c.self.inside.rows c.self.inside.columns c.self.inside.words.items c.args.self.now c.self.invariant c.self.view_is c.args.to there) (first.enough ∙ sym second.enough) keeps in
    subst (λ (ws : List ℕ). KeepsShape c.args.self.now (table c.self.inside.rows c.self.inside.columns ws)) (sym (written c.self.inside.words.len c.join_kept_piece.new.words (drop (length c.join_kept_piece.new.words) c.self.inside.words.items) (c.join_kept_piece.ensures.joined.outside.same_length ∙ ap length c.as_mut_slice.ensures.value ∙ sym c.self.inside.words.ok.0)))
    (joined-keeps c.self.inside.rows c.self.inside.columns c.self.inside.words.items c.args.self.now c.self.invariant c.self.view_is c.args.to c.requires.row (both (chunk (width c.self.inside.columns) c.args.from c.other.inside.words.items) (chunk (width c.self.inside.columns) 0 c.kept.inside.words.items)) (flags c.self.inside.columns (both (chunk (width c.self.inside.columns) c.args.from c.other.inside.words.items) (chunk (width c.self.inside.columns) 0 c.kept.inside.words.items))) (tidy-both c.self.inside.columns (chunk (width c.self.inside.columns) c.args.from c.other.inside.words.items) (chunk (width c.self.inside.columns) 0 c.kept.inside.words.items) first second) refl c.join_kept_piece.new.words keeps.outside words)

-- what is new of both rows
adds : (set other kept ys : List Bool) → ((b : ℕ) → Has ys b ↔ (Has other b × Has kept b)) → Adds ys set ↔ AddsKept other kept set
adds set other kept ys iff = (
  λ more. (more.0, ((iff more.0).0 more.1).0, ((iff more.0).0 more.1).1, more.2),
  λ more. (more.0, (iff more.0).1 (more.1, more.2), more.3),
)

pub returns-clause-changed : goal.returns-clause-changed
returns-clause-changed c =
    let keeps : KeepsPiece c.self.inside.words.items (c.args.to * width c.self.inside.columns) c.other.inside.words.items (c.args.from * width c.self.inside.columns) c.kept.inside.words.items (width c.self.inside.columns) c.join_kept_piece.new.words = rw (c.width_of-count.ensures, c.as_mut_slice.ensures.value, c.as_slice.ensures.value, c.as_slice-2.ensures.value) at c.join_kept_piece.ensures.joined in
    let there : c.args.to < c.self.inside.rows = inside c.self.inside.rows c.self.inside.columns c.self.inside.words.items c.args.self.now c.self.invariant c.self.view_is c.args.to c.requires.row in
    let first : IsTidy c.self.inside.columns (chunk (width c.self.inside.columns) c.args.from c.other.inside.words.items) = tidy-other c.self.inside.rows c.self.inside.columns c.self.inside.words.items c.args.self.now c.self.invariant c.self.view_is c.other.inside.rows c.other.inside.columns c.other.inside.words.items c.args.other.now c.other.invariant c.other.view_is c.args.to c.args.from c.requires.row c.requires.other c.requires.columns in
    let second : IsTidy c.self.inside.columns (chunk (width c.self.inside.columns) 0 c.kept.inside.words.items) = tidy-other c.self.inside.rows c.self.inside.columns c.self.inside.words.items c.args.self.now c.self.invariant c.self.view_is c.kept.inside.rows c.kept.inside.columns c.kept.inside.words.items c.args.kept.now c.kept.invariant c.kept.view_is c.args.to 0 c.requires.row c.requires.kept c.requires.kept_columns in
    let words = keeps-chunk (width c.self.inside.columns) c.args.to c.args.from c.self.inside.words.items c.other.inside.words.items c.kept.inside.words.items c.join_kept_piece.new.words (full c.self.inside.rows c.self.inside.columns c.self.inside.words.items c.args.self.now c.self.invariant c.self.view_is c.args.to there) (first.enough ∙ sym second.enough) keeps in
    let told = joined-changed c.self.inside.rows c.self.inside.columns c.self.inside.words.items c.args.self.now c.self.invariant c.self.view_is c.args.to c.requires.row (both (chunk (width c.self.inside.columns) c.args.from c.other.inside.words.items) (chunk (width c.self.inside.columns) 0 c.kept.inside.words.items)) (flags c.self.inside.columns (both (chunk (width c.self.inside.columns) c.args.from c.other.inside.words.items) (chunk (width c.self.inside.columns) 0 c.kept.inside.words.items))) (tidy-both c.self.inside.columns (chunk (width c.self.inside.columns) c.args.from c.other.inside.words.items) (chunk (width c.self.inside.columns) 0 c.kept.inside.words.items) first second) refl c.join_kept_piece.new.words keeps.outside words c.join_kept_piece.result
    (rw (c.width_of-count.ensures, c.as_mut_slice.ensures.value) at c.join_kept_piece.ensures.changed)
    (rw c.as_mut_slice.ensures.value at c.join_kept_piece.ensures.unchanged) in
    let same = adds (get_or c.args.self.now c.args.to []) (get_or c.args.other.now c.args.from []) (get_or c.args.kept.now 0 []) (flags c.self.inside.columns (both (chunk (width c.self.inside.columns) c.args.from c.other.inside.words.items) (chunk (width c.self.inside.columns) 0 c.kept.inside.words.items)))
    (λ b. rw (row-other c.self.inside.rows c.self.inside.columns c.self.inside.words.items c.args.self.now c.self.invariant c.self.view_is c.other.inside.rows c.other.inside.columns c.other.inside.words.items c.args.other.now c.other.invariant c.other.view_is c.args.to c.args.from c.requires.row c.requires.other c.requires.columns, row-other c.self.inside.rows c.self.inside.columns c.self.inside.words.items c.args.self.now c.self.invariant c.self.view_is c.kept.inside.rows c.kept.inside.columns c.kept.inside.words.items c.args.kept.now c.kept.invariant c.kept.view_is c.args.to 0 c.requires.row c.requires.kept c.requires.kept_columns) (Has-both c.self.inside.columns (chunk (width c.self.inside.columns) c.args.from c.other.inside.words.items) (chunk (width c.self.inside.columns) 0 c.kept.inside.words.items) b (first.enough ∙ sym second.enough))) in
    (λ t. same.0 (told.0 t), λ more. told.1 (same.1 more))
