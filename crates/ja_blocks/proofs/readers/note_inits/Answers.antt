use Rattle.std.proofs.Common.{◌≡◌, ◌+◌, ℕ, take, get_or, sym, ap, ◌∙◌}
use Rattle.std.specs.Prelude.{Contains}
use Rattle.std.proofs.lemmas.List.{get_or_default}
use Rattle.ja_base.specs.declared.id.MethodId.{MethodId}
use Rattle.ja_blocks.proofs.More.{noted_none, noted_then, taken_none, noted_more, noted_all}
use Rattle.ja_blocks.proofs.readers.note_inits.Goals as goal

pub loop-init-init : goal.loop-init-init
loop-init-init c = noted_none c.args.lists.now.items (λ k x. Contains (take 0 c.args.inits.now) (record { 0 = k }) × (x ≡ c.args.number)) (λ k x r. taken_none c.args.inits.now (record { 0 = k }) r.0)

pub loop-init-preserved : goal.loop-init-preserved
loop-init-preserved c =
    let inits = c.args.inits.now in
    let i = c.loop-init.init-index in
    let none : MethodId = record { 0 = 0 } in
    let y : MethodId = get_or inits i none in
    noted_then c.args.lists.now.items c.loop-init.lists.items c.note.new.lists.items (λ k x. Contains (take i inits) (record { 0 = k }) × (x ≡ c.args.number)) (λ k x. (k ≡ c.from.result) × (x ≡ c.args.number)) (λ k x. Contains (take (i + 1) inits) (record { 0 = k }) × (x ≡ c.args.number))
    c.loop-init.invariant (c.in_ok-note.ensures)
    (noted_more inits i y (λ k. record { 0 = k }) c.args.number (λ k x. (k ≡ c.from.result) × (x ≡ c.args.number)) c.loop-init-test.true (sym (get_or_default inits i y none c.loop-init-test.true))
    (λ k x. ((λ r. (ap (λ (n : ℕ). let m : MethodId = record { 0 = n } in m) (r.0 ∙ c.from.ensures), r.1)), (λ r. (ap (λ (m : MethodId). m.0) r.0 ∙ sym c.from.ensures, r.1)))))

pub returns : goal.returns
returns c = noted_all c.args.inits.now c.loop-init.init-index (λ k. record { 0 = k }) c.args.number c.args.lists.now.items c.loop-init.lists.items c.loop-init-test.false c.loop-init.auto.init-index-end c.loop-init.invariant
