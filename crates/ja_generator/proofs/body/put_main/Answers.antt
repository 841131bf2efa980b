use Rattle.std.proofs.Common.{◌≡◌, ℕ, List, codes, ap, ◌∙◌}
use Rattle.std.proofs.lemmas.Result.{on_ok_weaker}
use Rattle.ja_code.specs.Number.{ldc}
use Rattle.ja_listing.specs.declared.item.Operand.TheVariants.{Quotation}
use Rattle.ja_assembly.specs.Members.{instruction}
use Rattle.ja_generator.specs.Made.{of_taint, f_of, call}
use Rattle.ja_generator.proofs.Pushes.{five}
use Rattle.ja_generator.proofs.body.put_main.Goals as goal

pub returns : goal.returns
returns c =
    let text : c.instruction.result ≡ instruction ldc (Quotation (codes "x")) = c.instruction.ensures ∙ ap (λ (t : List ℕ). instruction ldc (Quotation t)) c.in_ok-text.ensures in
    let of_f : c.call.result ≡ call (f_of c.args.class) = c.call.ensures ∙ ap call c.in_ok-member.ensures in
    let of_sink : c.call-2.result ≡ call (of_taint (codes "sink") (codes "(Ljava/lang/String;)V")) = c.call-2.ensures ∙ ap call c.in_ok-sink.ensures in
    on_ok_weaker c.push-5.result (λ pushed. five c.args.items.now c.push.new.self c.push-2.new.self c.push-3.new.self c.push-4.new.self c.push-5.new.self _ _ _ _ _ _ _ _ _ _
    c.in_ok-push.ensures.ok c.in_ok-push-2.ensures.ok c.in_ok-push-3.ensures.ok c.in_ok-push-4.ensures.ok pushed c.in_ok-static_method.ensures text of_f of_sink c.instruction-2.ensures) c.push-5.ensures.ok
