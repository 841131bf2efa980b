use Rattle.std.proofs.Common.{append_assoc}
use Rattle.ja_lib.proofs.default.default_rows.Goals as goal

pub returns : goal.returns
returns c = simp (c.in_ok-add_object_rows.ensures, c.in_ok-add_builder_rows.ensures, c.in_ok-add_string_rows.ensures, c.in_ok-add_sink_rows.ensures, c.in_ok-add_servlet_rows.ensures, c.in_ok-add_taint_rows.ensures, c.new-rows.ensures, append_assoc)
