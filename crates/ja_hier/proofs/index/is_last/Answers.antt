use Rattle.std.proofs.Common.{◌≡◌, ℕ, ◌-◌, length, sym, ◌∙◌}
use Rattle.std.specs.Prelude.{Some, slice_get}
use Rattle.std.proofs.lemmas.Bool.{eqb-true}
use Rattle.std.proofs.lemmas.Option.{slice_get_within, get_or_from_slice_get}
use Rattle.ja_hier.proofs.index.is_last.Goals as goal

pub returns-in-Some : goal.returns-in-Some
returns-in-Some c = λ t.
    let k : ℕ = length c.args.classes.now - 1 in
    let at : slice_get c.args.classes.now k ≡ Some c.in-Some.last.now = sym c.in-Some.ensures.value in (
      k,
      slice_get_within c.args.classes.now k c.in-Some.last.now at,
      get_or_from_slice_get c.args.classes.now k c.in-Some.last.now c.args.class at ∙ eqb-true c.in-Some.last.now c.args.class t,
    )
