use Rattle.std.proofs.Common.{◌≡◌, ℕ, ◌<◌, length, get_or, true, ◌∙◌, arith, below_more}
use Rattle.ja_supertypes.specs.Supertypes.{supertypes_of}
use Rattle.ja_base.specs.Index.{numbers_at}
use Rattle.ja_hier.specs.InnerIndex.{IsDeclaredAbove}
use Rattle.ja_supertypes.proofs.Ranks.{rank_of, rank-falls}
use Rattle.ja_hier.proofs.FieldWays.{leads-on, no-next, next-inside}
use Rattle.ja_hier.proofs.Straight.{covers-next}
use Rattle.ja_hier.proofs.fields.next_above.Goals as goal

pub loop-next-init : goal.loop-next-init
loop-next-init c = λ j lt. absurd (omega arith)

pub overflow_cast-next : goal.overflow_cast-next
overflow_cast-next c =
    let lt : c.loop-next.next-index < length c.as_slice-supertypes.result.now = omega arith in
    let is : c.as_slice-supertypes.result.now ≡ supertypes_of c.args.tables.now.classes c.args.class = c.as_slice-supertypes.ensures ∙ c.direct_supertypes.ensures.value in
    omega (arith, next-inside c.args.tables.now.classes c.args.class c.as_slice-supertypes.result.now c.loop-next.next-index is lt, c.requires.indexed.numbered.classes)

pub is_declared_above-requires-clause-inside : goal.is_declared_above-requires-clause-inside
is_declared_above-requires-clause-inside c =
    let lt : c.loop-next.next-index < length c.as_slice-supertypes.result.now = omega arith in
    let is : c.as_slice-supertypes.result.now ≡ supertypes_of c.args.tables.now.classes c.args.class = c.as_slice-supertypes.ensures ∙ c.direct_supertypes.ensures.value in
    next-inside c.args.tables.now.classes c.args.class c.as_slice-supertypes.result.now c.loop-next.next-index is lt

pub overflow_cast-result : goal.overflow_cast-result
overflow_cast-result c =
    let lt : c.loop-next.next-index < length c.as_slice-supertypes.result.now = omega arith in
    let is : c.as_slice-supertypes.result.now ≡ supertypes_of c.args.tables.now.classes c.args.class = c.as_slice-supertypes.ensures ∙ c.direct_supertypes.ensures.value in
    omega (arith, next-inside c.args.tables.now.classes c.args.class c.as_slice-supertypes.result.now c.loop-next.next-index is lt, c.requires.indexed.numbered.classes)

pub returns-then-is_declared_above-clause-some : goal.returns-then-is_declared_above-clause-some
returns-then-is_declared_above-clause-some c =
    let lt : c.loop-next.next-index < length c.as_slice-supertypes.result.now = omega arith in
    leads-on c.args.tables.now.classes c.args.name.now c.args.desc.now (rank_of c.args.tables.now.classes)
    (rank-falls c.args.tables.now.classes c.requires.indexed.valid.acyclic)
    c.args.class c.loop-next.next-index c.as_slice-supertypes.result.now
    (c.as_slice-supertypes.ensures ∙ c.direct_supertypes.ensures.value)
    c.requires.elsewhere lt c.loop-next.invariant (c.is_declared_above.ensures.0 c.if-is_declared_above.true)

pub loop-next-preserved : goal.loop-next-preserved
loop-next-preserved c =
    below_more (λ (i : ℕ). IsDeclaredAbove c.args.tables.now.classes c.args.name.now c.args.desc.now (get_or c.as_slice-supertypes.result.now i 0) → ⊥) c.loop-next.next-index c.loop-next.invariant
    (λ above. let t : c.is_declared_above.result ≡ true = c.is_declared_above.ensures.1 above in cc (t, c.if-is_declared_above.false))

pub returns-clause-none : goal.returns-clause-none
returns-clause-none c =
    no-next c.args.tables.now.classes c.args.name.now c.args.desc.now c.args.class c.as_slice-supertypes.result.now
    (c.as_slice-supertypes.ensures ∙ c.direct_supertypes.ensures.value)
    c.requires.elsewhere (λ j lt. c.loop-next.invariant j (omega arith))

pub is_declared_above-requires-clause-covers : goal.is_declared_above-requires-clause-covers
is_declared_above-requires-clause-covers c =
    let lt : c.loop-next.next-index < length c.as_slice-supertypes.result.now = omega arith in
    let is : c.as_slice-supertypes.result.now ≡ supertypes_of c.args.tables.now.classes c.args.class = c.as_slice-supertypes.ensures ∙ c.direct_supertypes.ensures.value in
    covers-next c.args.tables.now.classes c.args.class c.as_slice-supertypes.result.now c.loop-next.next-index (numbers_at c.args.tables.now.fields.classes c.args.name.now) c.args.listed.now is lt c.requires.covers
