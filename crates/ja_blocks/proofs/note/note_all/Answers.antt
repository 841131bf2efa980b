use Rattle.std.proofs.Common.{◌≡◌, ◌+◌, take, get_or, sym}
use Rattle.std.specs.Prelude.{Contains}
use Rattle.std.proofs.lemmas.List.{get_or_default}
use Rattle.ja_blocks.proofs.More.{noted_none, noted_then, taken_none, noted_more, noted_all}
use Rattle.ja_blocks.proofs.note.note_all.Goals as goal

pub loop-key-init : goal.loop-key-init
loop-key-init c = noted_none c.args.lists.now.items (λ k x. Contains (take 0 c.args.keys.now) k × (x ≡ c.args.number)) (λ k x r. taken_none c.args.keys.now k r.0)

pub loop-key-preserved : goal.loop-key-preserved
loop-key-preserved c =
    let keys = c.args.keys.now in
    let i = c.loop-key.key-index in
    let y = get_or keys i 0 in
    noted_then c.args.lists.now.items c.loop-key.lists.items c.note.new.lists.items (λ k x. Contains (take i keys) k × (x ≡ c.args.number)) (λ k x. (k ≡ y) × (x ≡ c.args.number)) (λ k x. Contains (take (i + 1) keys) k × (x ≡ c.args.number))
    c.loop-key.invariant (c.in_ok-note.ensures)
    (noted_more keys i y (λ k. k) c.args.number (λ k x. (k ≡ y) × (x ≡ c.args.number)) c.loop-key-test.true (sym (get_or_default keys i y 0 c.loop-key-test.true)) (λ k x. ((λ r. r), (λ r. r))))

pub returns : goal.returns
returns c = noted_all c.args.keys.now c.loop-key.key-index (λ k. k) c.args.number c.args.lists.now.items c.loop-key.lists.items c.loop-key-test.false c.loop-key.auto.key-index-end c.loop-key.invariant
