use Rattle.std.proofs.Common.{◌∙◌, ℕ, List, ap, sym, subst, length, drop}
use Rattle.ja_sets.specs.Sets.{HasPair}
use Rattle.ja_sets.proofs.Flags.{written}
use Rattle.ja_matrix.specs.InnerChunks.{table}
use Rattle.ja_matrix.proofs.Chunks.{no-pairs, same-shape}
use Rattle.ja_matrix.proofs.matrix.Matrix.clear.Goals as goal

pub returns-clause-empty : goal.returns-clause-empty
returns-clause-empty c a b =
    subst (λ (ws : List ℕ). HasPair (table c.self.inside.rows c.self.inside.columns ws) a b → ⊥) (sym (written c.self.inside.words.len c.clear_words.new.words (drop (length c.clear_words.new.words) c.self.inside.words.items) (c.clear_words.auto.words ∙ ap length c.as_mut_slice.ensures.value ∙ sym c.self.inside.words.ok.0))) (no-pairs c.self.inside.rows c.self.inside.columns c.clear_words.new.words c.clear_words.ensures a b)

pub returns-clause-shape : goal.returns-clause-shape
returns-clause-shape c =
    same-shape c.self.inside.rows c.self.inside.columns c.self.inside.words.items c.args.self.now c.self.invariant c.self.view_is _
