use Rattle.std.proofs.Common.{append_assoc}
use Rattle.ja_lib.proofs.default.add_object_rows.Goals as goal

pub returns : goal.returns
returns c = simp (c.in_ok-add_rows-2.ensures, c.in_ok-add_rows.ensures, c.in_ok-push.ensures.ok, c.in_ok-names_of.ensures, c.in_ok-name_of.ensures, c.in_ok-name_of-2.ensures, c.in_ok-lib_row.ensures, append_assoc)
