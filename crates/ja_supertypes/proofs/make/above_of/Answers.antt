use Rattle.std.proofs.Common.{List, ℕ, Bool, sym, ◌∙◌, subst}
use Rattle.ja_supertypes.specs.InnerIndex.{Lists}
use Rattle.ja_supertypes.specs.InnerRows.{ShowsAll}
use Rattle.ja_supertypes.specs.Supertypes.{IsSupertype}
use Rattle.ja_supertypes.proofs.make.above_of.Goals as goal

pub listed_supertypes-requires-clause-above : goal.listed_supertypes-requires-clause-above
listed_supertypes-requires-clause-above c = subst (λ (rows : List (List Bool)). ShowsAll c.args.heads.now rows) (sym c.as_slice.ensures.value) c.requires.above

pub superclass_sets-requires-clause-superclasses : goal.superclass_sets-requires-clause-superclasses
superclass_sets-requires-clause-superclasses c = c.as_slice-2.ensures ∙ c.requires.superclasses

pub all_superinterfaces-requires-clause-supertypes : goal.all_superinterfaces-requires-clause-supertypes
all_superinterfaces-requires-clause-supertypes c =
    subst (λ (lists : List (List ℕ)). Lists c.args.heads.now (IsSupertype c.args.heads.now) lists) (sym c.as_slice-3.ensures) c.in_ok-supertypes.ensures.lists

pub all_foreign-requires-clause-supertypes : goal.all_foreign-requires-clause-supertypes
all_foreign-requires-clause-supertypes c =
    subst (λ (lists : List (List ℕ)). Lists c.args.heads.now (IsSupertype c.args.heads.now) lists) (sym c.as_slice-4.ensures) c.in_ok-supertypes.ensures.lists

pub tops-requires-clause-superclasses : goal.tops-requires-clause-superclasses
tops-requires-clause-superclasses c = c.as_slice-5.ensures ∙ c.requires.superclasses

pub returns-clause-supertypes : goal.returns-clause-supertypes
returns-clause-supertypes c = c.in_ok-supertypes.ensures.lists

pub returns-clause-falling : goal.returns-clause-falling
returns-clause-falling c = c.in_ok-supertypes.ensures.falling

pub returns-clause-superclasses : goal.returns-clause-superclasses
returns-clause-superclasses c = c.in_ok-superclasses.ensures

pub returns-clause-superinterfaces : goal.returns-clause-superinterfaces
returns-clause-superinterfaces c = c.in_ok-superinterfaces.ensures

pub returns-clause-foreign : goal.returns-clause-foreign
returns-clause-foreign c = c.in_ok-foreign.ensures

pub returns-clause-tops : goal.returns-clause-tops
returns-clause-tops c = c.in_ok-tops.ensures
