use Rattle.std.proofs.Common.{subst}
use Rattle.ja_ir.specs.declared.class.MethodAt.{MethodAt}
use Rattle.ja_ir.specs.declared.class.MethodAt.TheVariants.{Library}
use Rattle.ja_operations.specs.Targets.{LooksUp}
use Rattle.ja_operations.proofs.OneOperation.{one_look_up}
use Rattle.ja_operations.proofs.refuse.calls_library.Goals as goal

pub returns : goal.returns
returns c = (
  λ t. subst (λ (at : MethodAt). LooksUp c.args.hier.now c.args.c.0 c.args.member.now c.args.kind at) (c.is_library.ensures.0 t) c.look_up.ensures,
  λ h.
      c.is_library.ensures.1
      (one_look_up c.args.hier.now (c.law_one_answer.ensures.method c.args.hier.now) c.args.c.0 c.args.member.now c.args.kind c.look_up.result Library c.look_up.ensures h),
)
