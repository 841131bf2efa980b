use Rattle.std.proofs.Common.{append_assoc, refl}
use Rattle.ja_verdict.proofs.site.push_called.Goals as goal

pub returns : goal.returns
returns c =
    rw (c.in_ok-push_category.ensures, c.in_ok-push_name.ensures)
    (simp append_assoc (rw (c.bytes.ensures, c.as_slice.ensures) refl))
