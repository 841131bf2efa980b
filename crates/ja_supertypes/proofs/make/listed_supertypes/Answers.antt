use Rattle.std.proofs.Common.{ℕ, ◌<◌, List, [], length, get_or}
use Rattle.std.proofs.lemmas.Result.{IfOk-weaker}
use Rattle.ja_supertypes.specs.InnerIndex.{Lists}
use Rattle.ja_supertypes.specs.InnerRows.{AreMembers}
use Rattle.ja_supertypes.specs.Supertypes.{IsDirect, IsSupertype}
use Rattle.ja_supertypes.proofs.Places.{lists-supers, lists-fall}
use Rattle.ja_supertypes.proofs.Ways.{rows-widths}
use Rattle.ja_supertypes.proofs.make.listed_supertypes.Goals as goal

pub members-requires : goal.members-requires
members-requires c = rows-widths c.args.heads.now c.args.above.now c.requires.above

pub returns-clause-lists : goal.returns-clause-lists
returns-clause-lists c =
    IfOk-weaker c.members.result (AreMembers c.args.above.now) (Lists c.args.heads.now (IsSupertype c.args.heads.now))
    (λ lists are. lists-supers c.args.heads.now c.args.above.now lists c.requires.above are) c.members.ensures

pub returns-clause-falling : goal.returns-clause-falling
returns-clause-falling c =
    IfOk-weaker c.members.result (AreMembers c.args.above.now)
    (λ (lists : List (List ℕ)). (b d : ℕ) → IsDirect c.args.heads.now b d → length (get_or lists d []) < length (get_or lists b []))
    (λ lists are. lists-fall c.args.heads.now c.args.above.now lists c.requires.above are c.requires.acyclic) c.members.ensures
