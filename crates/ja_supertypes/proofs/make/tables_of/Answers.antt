use Rattle.std.proofs.Common.{List, Bool, sym, subst}
use Rattle.ja_ir.specs.declared.head.ClassHead.{ClassHead}
use Rattle.ja_supertypes.specs.InnerIndex.{IsIndexed, Shows}
use Rattle.ja_supertypes.specs.InnerRows.{ShowsAll}
use Rattle.ja_supertypes.specs.Supertypes.{IsSuperclass, IsSuperinterface}
use Rattle.ja_supertypes.proofs.make.tables_of.Goals as goal

pub returns-clause-heads : goal.returns-clause-heads
returns-clause-heads c = c.in_ok-copies.ensures

pub returns-clause-indexed : goal.returns-clause-indexed
returns-clause-indexed c =
    subst (λ (heads : List ClassHead). IsIndexed (record {
      heads = heads;
      names = c.in_ok-names.names;
      superclasses = c.in_ok-ways.ways.superclasses;
      direct = c.in_ok-ways.ways.direct;
      above = c.from_vec.result;
      supertypes = c.in_ok-above.above.supertypes;
      above_superclasses = c.from_vec-2.result;
      superinterfaces = c.from_vec-3.result;
      foreign = c.in_ok-above.above.foreign;
      tops = c.in_ok-above.above.tops;
    })) (sym c.in_ok-copies.ensures)
    (record {
      few = c.requires;
      valid = record {
        platform = c.in_ok-names.ensures.platform;
        distinct = c.in_ok-names.ensures.distinct;
        acyclic = c.in_ok-ways.ensures.acyclic;
      };
      names = c.in_ok-names.ensures.names;
      superclasses = c.in_ok-ways.ensures.superclasses;
      direct = c.in_ok-ways.ensures.direct;
      above = subst (λ (rows : List (List Bool)). ShowsAll c.args.heads.now rows) (sym c.from_vec.ensures) c.in_ok-ways.ensures.above;
      supertypes = c.in_ok-above.ensures.supertypes;
      above_superclasses = subst (λ (sets : List (List Bool)). Shows c.args.heads.now (IsSuperclass c.args.heads.now) sets) (sym c.from_vec-2.ensures) c.in_ok-above.ensures.superclasses;
      superinterfaces = subst (λ (sets : List (List Bool)). Shows c.args.heads.now (IsSuperinterface c.args.heads.now) sets) (sym c.from_vec-3.ensures) c.in_ok-above.ensures.superinterfaces;
      foreign = c.in_ok-above.ensures.foreign;
      tops = c.in_ok-above.ensures.tops;
      falling = c.in_ok-above.ensures.falling;
    })
