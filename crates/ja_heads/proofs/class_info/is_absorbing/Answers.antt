use Rattle.std.proofs.Common.{List, ℕ, ap, ◌∙◌}
use Rattle.std.specs.Prelude.{bytes_eq, not}
use Rattle.ja_heads.proofs.Absorbing.{absorbing-named}
use Rattle.ja_heads.proofs.class_info.is_absorbing.Goals as goal

pub returns-in-Some : goal.returns-in-Some
returns-in-Some c =
    absorbing-named c.args.hier.now c.args.class.0 c.in-Some.name.now c.ne.result c.in-Some.ensures.some
    (c.ne.ensures ∙ ap (λ (l : List ℕ). not (bytes_eq l c.as_slice.result.now)) c.bytes.ensures ∙ ap (λ (l : List ℕ). not (bytes_eq c.in-Some.name.now l)) c.as_slice.ensures)
