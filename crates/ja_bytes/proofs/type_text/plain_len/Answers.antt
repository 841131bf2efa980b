use Rattle.std.proofs.Common.{◌≡◌, List, ℕ, ◌∷◌, sym, subst, ap, ◌∙◌, add-one, arith}
use Rattle.std.proofs.lemmas.List.{nil_from_length}
use Rattle.ja_bytes.specs.Longest.{IsStuck}
use Rattle.ja_bytes.specs.DescriptorText.{IsPlainText}
use Rattle.ja_bytes.proofs.Stuck.{empty_stuck, byte_stuck, wide_stuck, class_named}
use Rattle.ja_bytes.proofs.type_text.plain_len.Goals as goal

pub returns-in_default-clause-stuck : goal.returns-in_default-clause-stuck
returns-in_default-clause-stuck c =
    subst (λ (t : List ℕ). IsStuck (IsPlainText c.args.room) t 0) (sym (nil_from_length c.args.bytes.now c.in_default.ensures.cases)) (empty_stuck c.args.room c.requires)

pub returns-in-Ok-clause-ok : goal.returns-in-Ok-clause-ok
returns-in-Ok-clause-ok c =
    let parts : c.args.bytes.now ≡ 76 ∷ c.in-Some.rest.now = c.in-Some.ensures.cases.0 ∙ ap (λ (b : ℕ). b ∷ c.in-Some.rest.now) c.if-first-eq76.true in
    rw (parts, add-one) (class_named _ c.in-Ok.ensures.ok)

pub returns-then-words-room-clause-stuck : goal.returns-then-words-room-clause-stuck
returns-then-words-room-clause-stuck c =
    rw c.in-Some.ensures.cases.0 (wide_stuck c.args.room c.in-Some.first.now c.in-Some.rest.now c.in-Some-letter_kind.kind c.requires c.in-Some-letter_kind.ensures.some (omega arith))

pub returns-in-None-clause-stuck : goal.returns-in-None-clause-stuck
returns-in-None-clause-stuck c =
    let n = c.in-None.ensures.none in
    rw c.in-Some.ensures.cases.0 (byte_stuck c.args.room c.in-Some.first.now c.in-Some.rest.now c.requires n.0 n.1 c.if-first-eq76.false)
