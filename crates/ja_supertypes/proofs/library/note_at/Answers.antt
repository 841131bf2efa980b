use Rattle.std.proofs.Common.{arith}
use Rattle.ja_supertypes.proofs.Falls.{direct-target}
use Rattle.ja_supertypes.proofs.library.note_at.Goals as goal

pub note_class-requires-clause-above : goal.note_class-requires-clause-above
note_class-requires-clause-above c = λ d up.
    c.requires.below d (direct-target c.args.tables.now.heads c.args.class d up)
    (omega (arith, c.requires.indexed.falling c.args.class d up, c.supertype_count.ensures))
