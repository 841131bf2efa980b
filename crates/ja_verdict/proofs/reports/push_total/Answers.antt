use Rattle.std.proofs.Common.{append_assoc, refl}
use Rattle.ja_verdict.proofs.reports.push_total.Goals as goal

pub returns : goal.returns
returns c =
    rw (c.in_ok-push_text-3.ensures, c.in_ok-push_number-2.ensures, c.in_ok-push_text-2.ensures, c.in_ok-push_number.ensures, c.in_ok-push_text.ensures)
    (simp append_assoc (rw (c.count_warned.ensures, c.count_clean.ensures) refl))
