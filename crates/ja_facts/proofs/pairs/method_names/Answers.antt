use Rattle.std.proofs.Common.{◌≡◌, ℕ, ◌+◌, ◌<◌, List, [], ◌∷◌, ◌++◌, length, take, replicate, sym, ap, ◌∙◌, arith}
use Rattle.std.proofs.lemmas.List.{take_more, length-take-le}
use Rattle.ja_ir.specs.declared.method.Method.{Method}
use Rattle.ja_facts.specs.Shared.{method_names}
use Rattle.ja_facts.proofs.Shared.{method_names-more}
use Rattle.ja_facts.proofs.pairs.method_names.Goals as goal

pub loop-m-preserved : goal.loop-m-preserved
loop-m-preserved c =
    let lt : c.loop-m.m < length c.as_slice-methods.result.now = omega arith in
    let more : take (c.loop-m.m + 1) c.as_slice-methods.result.now ≡ take c.loop-m.m c.as_slice-methods.result.now ++ c.index-methods-m.result ∷ [] =
    take_more c.as_slice-methods.result.now c.loop-m.m c.index-methods-m.result lt ∙ ap (λ (x : Method). take c.loop-m.m c.as_slice-methods.result.now ++ x ∷ []) (sym c.index-methods-m.is) in
    let left = length-take-le c.loop-m.m c.as_slice-methods.result.now (omega arith) in
    let size : 0 + length (take c.loop-m.m c.as_slice-methods.result.now) ≡ c.loop-m.m = omega arith in
    c.in_ok-push.ensures.ok
    ∙ ap (λ (ns : List (List ℕ)). ns ++ c.in_ok-name_row.field-0 ∷ []) c.loop-m.invariant
    ∙ ap (λ (r : List ℕ). method_names 0 (take c.loop-m.m c.as_slice-methods.result.now) ++ r ∷ [])
    (c.in_ok-name_row.ensures ∙ ap (λ n. replicate n c.loop-m.m) c.len.ensures ∙ ap (λ (x : Method). replicate (length x.code) c.loop-m.m) (sym c.index-methods-m.is) ∙ ap (replicate (length c.index-methods-m.result.code)) (sym size))
    ∙ sym (method_names-more 0 (take c.loop-m.m c.as_slice-methods.result.now) c.index-methods-m.result)
    ∙ sym (ap (method_names 0) more)
