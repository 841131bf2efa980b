use Rattle.std.proofs.Common.{inr}
use Rattle.std.specs.Prelude.{Some}
use Rattle.ja_supertypes.specs.Supertypes.{direct}
use Rattle.ja_supertypes.proofs.Falls.{direct-target}
use Rattle.ja_base.specs.Index.{numbers_at}
use Rattle.ja_hier.proofs.Straight.{at-or-above-through, covers-above, declared-past, end-lacks, goes-along, straight-above, straight-falls}
use Rattle.ja_hier.proofs.fields.declared_field.Goals as goal

pub returns-in-Some : goal.returns-in-Some
returns-in-Some c = c.loop-field.invariant.finds c.in-Some.field.0 c.in-Some.ensures.some

pub next_above-requires-clause-covers : goal.next_above-requires-clause-covers
next_above-requires-clause-covers c =
    covers-above c.args.tables.now.classes c.loop-field.at c.fork_at-fork.result (numbers_at c.args.tables.now.fields.classes c.args.name.now) c.args.listed.now
    (straight-above c.args.tables.now.classes c.loop-field.at c.fork_at-fork.result c.fork_at-fork.ensures.straight) c.loop-field.invariant.covers

pub next_above-requires-clause-elsewhere : goal.next_above-requires-clause-elsewhere
next_above-requires-clause-elsewhere c =
    end-lacks c.args.tables.now.classes c.args.name.now c.args.desc.now c.loop-field.at c.fork_at-fork.result c.fork_at-fork.ensures.straight c.in_default.ensures.none

pub returns-in_default-next_above : goal.returns-in_default-next_above
returns-in_default-next_above c =
    absurd (c.in_default-next_above.ensures.none
    (declared-past c.args.tables.now.classes c.args.name.now c.args.desc.now c.loop-field.at c.fork_at-fork.result c.fork_at-fork.ensures.straight c.in_default.ensures.none c.loop-field.invariant.declared))

pub loop-field-smaller : goal.loop-field-smaller
loop-field-smaller c =
    straight-falls c.args.tables.now.classes c.loop-field.at c.fork_at-fork.result c.in-Some-next_above.next c.requires.indexed.valid.acyclic c.fork_at-fork.ensures.straight c.in-Some-next_above.ensures.some.direct

pub loop-field-preserved : goal.loop-field-preserved
loop-field-preserved c = record {
  inside = direct-target c.args.tables.now.classes c.fork_at-fork.result c.in-Some-next_above.next c.in-Some-next_above.ensures.some.direct;
  covers =
      covers-above c.args.tables.now.classes c.loop-field.at c.in-Some-next_above.next (numbers_at c.args.tables.now.fields.classes c.args.name.now) c.args.listed.now
      (at-or-above-through c.args.tables.now.classes c.loop-field.at c.fork_at-fork.result c.in-Some-next_above.next
      (straight-above c.args.tables.now.classes c.loop-field.at c.fork_at-fork.result c.fork_at-fork.ensures.straight) (inr (direct c.in-Some-next_above.ensures.some.direct)))
      c.loop-field.invariant.covers;
  declared = c.in-Some-next_above.ensures.some.declared;
  finds = λ f s. c.loop-field.invariant.finds f
      (goes-along c.args.tables.now.classes c.args.name.now c.args.desc.now c.loop-field.at c.fork_at-fork.result (Some f) c.fork_at-fork.ensures.straight c.in_default.ensures.none
      (c.in-Some-next_above.ensures.some.finds f s));
}
