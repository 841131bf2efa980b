use Rattle.std.proofs.Common.{sym, ◌∙◌}
use Rattle.ja_heads.specs.Entries.{concrete, other}
use Rattle.ja_heads.proofs.entry.add_class.Goals as goal

pub returns-then-not-is_concrete : goal.returns-then-not-is_concrete
returns-then-not-is_concrete c = other c.args.head.now c.requires.found (sym c.is_concrete.ensures ∙ c.if-not-is_concrete.true)

pub returns : goal.returns
returns c = concrete c.args.head.now c.requires.found (sym c.is_concrete.ensures ∙ c.if-not-is_concrete.false) c.in_ok-add_rows.ensures
