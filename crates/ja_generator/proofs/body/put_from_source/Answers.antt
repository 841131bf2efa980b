use Rattle.std.proofs.Common.{◌≡◌, codes, ap, ◌∙◌}
use Rattle.std.proofs.lemmas.Result.{on_ok_weaker}
use Rattle.ja_generator.specs.Made.{of_taint, call}
use Rattle.ja_generator.proofs.Pushes.{two}
use Rattle.ja_generator.proofs.body.put_from_source.Goals as goal

pub returns : goal.returns
returns c =
    let first : c.call.result ≡ call (of_taint (codes "source") (codes "()Ljava/lang/String;")) = c.call.ensures ∙ ap call c.in_ok-source.ensures in
    on_ok_weaker c.push-2.result (λ pushed. two c.args.items.now c.push.new.self c.push-2.new.self _ _ _ _ c.in_ok-push.ensures.ok pushed first c.instruction.ensures) c.push-2.ensures.ok
