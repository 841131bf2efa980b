use Rattle.std.proofs.Common.{append_assoc, refl}
use Rattle.ja_verdict.proofs.site.push_place.Goals as goal

pub returns : goal.returns
returns c =
    rw (c.in_ok-push_pc.ensures, c.in_ok-push_text.ensures, c.in_ok-push_method.ensures)
    (simp append_assoc (rw (c.instr_of.ensures, c.method_of-method.ensures) refl))
