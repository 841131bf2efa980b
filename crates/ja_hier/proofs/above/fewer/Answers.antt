use Rattle.std.proofs.Common.{sym, subst}
use Rattle.ja_hier.proofs.Indexed.{supertypes-cover}
use Rattle.ja_hier.specs.InnerIndex.{Covers}
use Rattle.ja_hier.proofs.above.fewer.Goals as goal

pub returns-then-supertypes-listed : goal.returns-then-supertypes-listed
returns-then-supertypes-listed c =
    subst (Covers c.args.classes.now c.args.class c.args.listed.now) (sym c.as_slice-supertypes.ensures) (supertypes-cover c.args.classes.now c.args.class c.args.listed.now c.supertypes.result.now c.supertypes.ensures)
