use Rattle.std.proofs.Common.{◌≡◌, ℕ, Option, Some, None, refl, sym, ap, ◌∙◌}
use Rattle.std.specs.Prelude.{bytes_eq, is_some}
use Rattle.std.specs.Option.{option_copied}
use Rattle.std.specs.HashMap.{get}
use denote.Bor.{Bor}
use Rattle.ja_tokens.proofs.Places.{already, gets}
use Rattle.ja_tokens.proofs.classes.note.Goals as goal

copied-some : {A : Type 0} (o : Option (Bor A)) → is_some (option_copied o) ≡ is_some o
copied-some (Some x) = refl
copied-some None = refl

pub returns-then-is_some : goal.returns-then-is_some
returns-then-is_some c other =
    already (get bytes_eq c.args.numbers.now) c.args.name.now other c.args.number
    (sym (ap (λ (o : Option ℕ). is_some o) c.get.ensures.value) ∙ copied-some c.get.result ∙ sym c.is_some.ensures ∙ c.if-is_some.true)

pub returns : goal.returns
returns c other =
    gets (get bytes_eq c.args.numbers.now) (get bytes_eq c.insert.new.self) c.in_ok-key.key c.args.name.now other c.args.number
    (sym (ap (λ (o : Option ℕ). is_some o) c.get.ensures.value) ∙ copied-some c.get.result ∙ sym c.is_some.ensures ∙ c.if-is_some.false)
    c.in_ok-key.ensures (c.in_ok-insert.ensures.updates.0 other)
