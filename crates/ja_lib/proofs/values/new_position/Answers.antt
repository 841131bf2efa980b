use Rattle.std.proofs.Common.{FitsSigned, w64, rules, sym, ◌∙◌}
use Rattle.std.proofs.lemmas.Int.{to_z-of_z}
use Rattle.toml.specs.View.{view}
use Rattle.ja_lib.proofs.Reading.{position_found}
use Rattle.ja_lib.proofs.values.new_position.Goals as goal

pub returns : goal.returns
returns c =
    let fits : FitsSigned w64 c.in_ok-as_integer.field-0 = search rules in
    let found = rw (to_z-of_z w64 c.in_ok-as_integer.field-0 fits) at c.in_ok-position.ensures in
    position_found c.args.seen.now (view c.args.value.now) c.in_ok-as_integer.field-0 c.in_ok-position.position c.in_ok-as_integer.ensures found (sym c.is_seen.ensures ∙ c.if-is_seen.false)
