use Rattle.std.proofs.Common.{sym, ◌∙◌}
use Rattle.ja_operations.specs.Refused.{reflection, thread_start}
use Rattle.ja_operations.proofs.refuse.check_call.Goals as goal

pub returns-then-is_reflective-clause-refused : goal.returns-then-is_reflective-clause-refused
returns-then-is_reflective-clause-refused c = reflection (sym c.is_reflective.ensures ∙ c.if-is_reflective.true)

pub returns-then-starts_thread-clause-refused : goal.returns-then-starts_thread-clause-refused
returns-then-starts_thread-clause-refused c =
    thread_start (sym c.is_reflective.ensures ∙ c.if-is_reflective.false) (c.starts_thread.ensures.0 c.if-starts_thread.true)
