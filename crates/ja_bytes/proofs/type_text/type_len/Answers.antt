use Rattle.std.proofs.Common.{◌≡◌, ◌≢◌, List, ℕ, ◌++◌, ◌<◌, get_or, length, replicate, drop, sym, subst, ap, ◌∙◌, zero-add, arith}
use Rattle.std.proofs.lemmas.Result.{IfErr-weaker}
use Rattle.ja_bytes.specs.Longest.{IsStuck}
use Rattle.ja_bytes.specs.DescriptorText.{IsPlainText, IsFieldText}
use Rattle.ja_bytes.proofs.Stuck.{type_stuck, array_found, room_for_element}
use Rattle.ja_bytes.proofs.type_text.type_len.Goals as goal

pub returns-then-dims-eq0-clause-stuck : goal.returns-then-dims-eq0-clause-stuck
returns-then-dims-eq0-clause-stuck c =
    let rest = c.split_at.result.1.now in
    let whole : c.args.bytes.now ≡ rest = sym (c.split_at.ensures.back ∙ ap (λ (d : ℕ). drop d c.args.bytes.now) c.if-dims-eq0.true) in
    IfErr-weaker c.plain_len.result (λ n. IsStuck (IsPlainText c.args.room) rest n) (λ n. IsStuck (IsFieldText c.args.room) c.args.bytes.now n)
    (λ n stuck. subst (λ (k : ℕ). IsStuck (IsFieldText c.args.room) c.args.bytes.now k) (zero-add n) (type_stuck c.args.room 0 n c.args.bytes.now rest whole c.requires (omega arith)
    (λ lt in_bytes. subst (λ (d : ℕ). d < 255 → d < length c.args.bytes.now → get_or c.args.bytes.now d 0 ≢ 91) c.if-dims-eq0.true c.dims_of-dims.ensures.last lt in_bytes) stuck))
    c.plain_len.ensures.stuck

pub returns-in-Ok-clause-ok : goal.returns-in-Ok-clause-ok
returns-in-Ok-clause-ok c =
    let rest = c.split_at.result.1.now in
    let whole : c.args.bytes.now ≡ replicate c.dims_of-dims.result 91 ++ rest =
    c.split_at.ensures.by_index.0 ∙ ap (λ (t : List ℕ). t ++ rest) (c.split_at.ensures.front ∙ c.dims_of-dims.ensures.brackets) in
    array_found c.args.bytes.now rest c.dims_of-dims.result c.in-Ok.element.len c.in-Ok.element.kind _ whole (omega arith) c.dims_of-dims.ensures.most c.in-Ok.ensures.ok

pub returns-in-Err-clause-stuck : goal.returns-in-Err-clause-stuck
returns-in-Err-clause-stuck c =
    let rest = c.split_at.result.1.now in
    let whole : c.args.bytes.now ≡ replicate c.dims_of-dims.result 91 ++ rest =
    c.split_at.ensures.by_index.0 ∙ ap (λ (t : List ℕ). t ++ rest) (c.split_at.ensures.front ∙ c.dims_of-dims.ensures.brackets) in
    type_stuck c.args.room c.dims_of-dims.result c.in-Err.n c.args.bytes.now rest whole c.requires c.dims_of-dims.ensures.most c.dims_of-dims.ensures.last
    (room_for_element c.dims_of-dims.result c.args.room c.in-Err.n rest (omega arith) c.in-Err.ensures.stuck)
