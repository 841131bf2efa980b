use Rattle.std.proofs.Common.{◌≡◌, ℕ, List, length, true, sym, ◌∙◌, subst}
use Rattle.std.specs.Prelude.{◌==◌, Contains}
use Rattle.ja_hier.proofs.Indexed.{no-items}
use Rattle.ja_hier.specs.LookUps.{in_class, as_default, in_no_class}
use Rattle.ja_hier.proofs.MethodWays.{finds-library}
use Rattle.ja_hier.proofs.methods.find.Goals as goal

pub returns-in-Some : goal.returns-in-Some
returns-in-Some c = in_class c.in-Some.ensures

pub returns-in-Some-default_method : goal.returns-in-Some-default_method
returns-in-Some-default_method c = as_default c.in-None.ensures c.in-Some-default_method.ensures.some

pub returns-in-None-default_method : goal.returns-in-None-default_method
returns-in-None-default_method c = in_no_class c.in-None.ensures c.in-None-default_method.ensures.none

pub fewer-listed-requires-clause-listed_inside : goal.fewer-listed-requires-clause-listed_inside
fewer-listed-requires-clause-listed_inside c = λ d in'.
    c.requires.indexed.methods.inside c.args.name.now d (subst (λ (xs : List ℕ). Contains xs d) c.at-declaring.ensures in')

pub returns-then-is_empty : goal.returns-then-is_empty
returns-then-is_empty c =
    let empty : (length c.at-declaring.result.now == 0) ≡ true = sym c.is_empty.ensures ∙ c.if-is_empty.true in
    finds-library c.args.tables.now.classes c.args.tables.now.methods.classes c.args.skip c.args.name.now c.args.desc.now c.requires.indexed.valid.acyclic c.requires.indexed.methods
    (sym c.at-declaring.ensures ∙ no-items c.at-declaring.result.now empty) c.args.class
