use Rattle.std.proofs.Common.{append_assoc}
use Rattle.ja_lib.proofs.default.add_builder_rows.Goals as goal

pub returns : goal.returns
returns c = simp (c.in_ok-add_rows-5.ensures, c.in_ok-add_rows-4.ensures, c.in_ok-add_rows-3.ensures, c.in_ok-add_rows-2.ensures, c.in_ok-add_rows.ensures, append_assoc)
