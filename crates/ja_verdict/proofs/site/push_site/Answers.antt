use Rattle.std.proofs.Common.{append_assoc, refl}
use Rattle.ja_verdict.proofs.site.push_site.Goals as goal

pub returns : goal.returns
returns c =
    rw (c.in_ok-push_text-4.ensures, c.in_ok-push_called.ensures, c.in_ok-push_text-3.ensures, c.in_ok-push_place.ensures, c.in_ok-push_text-2.ensures, c.in_ok-push_text.ensures)
    (simp append_assoc (rw c.verdict_word.ensures refl))
