use Rattle.std.proofs.Common.{List, ℕ, subst}
use Rattle.std.specs.Prelude.{Contains}
use Rattle.ja_hier.proofs.Indexed.{noted-again, noted-one}
use Rattle.ja_hier.proofs.index.note_once.Goals as goal

pub returns-then-is_last : goal.returns-then-is_last
returns-then-is_last c =
    noted-again c.args.index.now c.args.name.now c.args.class (subst (λ (xs : List ℕ). Contains xs c.args.class) c.at.ensures (c.is_last.ensures c.if-is_last.true))

pub returns : goal.returns
returns c = noted-one c.args.index.now c.note.new.self c.args.name.now c.args.class c.in_ok-note.ensures
