use Rattle.std.proofs.Common.{◌≡◌, List, ℕ, ◌+◌, ◌∷◌, ◌++◌, take, ap, subst, ◌∙◌}
use Rattle.std.proofs.lemmas.List.{take-append-drop, take_all}
use Rattle.ja_base.specs.Descriptor.{IsMethod}
use Rattle.ja_bytes.specs.Longest.{IsWrongAt, IsStuck}
use Rattle.ja_bytes.specs.DescriptorText.{IsParamsText, IsResultText, IsMethodText}
use Rattle.ja_bytes.proofs.DescParts.{bad_weaker, bad_behind, wrong_in_params, wrong_in_result, wrong_behind_method, method_found}
use Rattle.ja_bytes.proofs.descriptor.desc_behind.Goals as goal

pub returns-in-Err-clause-wrong : goal.returns-in-Err-clause-wrong
returns-in-Err-clause-wrong c =
    bad_weaker (IsStuck (IsParamsText 255) c.args.bytes.now) (λ at. IsWrongAt IsMethodText (40 ∷ c.args.bytes.now) (1 + at)) c.in-Err.fault (wrong_in_params c.args.bytes.now) c.in-Err.ensures.stuck

pub returns-then-n-rest-clause-wrong : goal.returns-then-n-rest-clause-wrong
returns-then-n-rest-clause-wrong c =
    wrong_behind_method c.args.bytes.now c.split_at.result.1.now c.in-Ok.params.len c.in-Ok-result_at.n c.in-Ok.params.types c.in-Ok-result_at.result
    c.in-Ok.ensures.within c.split_at.ensures.back c.in-Ok.ensures.ok c.in-Ok-result_at.ensures.ok c.if-n-rest.true

pub returns-in-Err-result_at-clause-wrong : goal.returns-in-Err-result_at-clause-wrong
returns-in-Err-result_at-clause-wrong c =
    let rest = c.split_at.result.1.now in
    rw c.behind.ensures
    (bad_behind (IsStuck IsResultText rest) (λ at. IsWrongAt IsMethodText (40 ∷ c.args.bytes.now) (1 + at)) c.in-Ok.params.len c.in-Err-result_at.fault
    (λ n stuck. wrong_in_result c.args.bytes.now rest c.in-Ok.params.len n c.in-Ok.params.types c.in-Ok.ensures.within c.split_at.ensures.back c.in-Ok.ensures.ok stuck) c.in-Err-result_at.ensures.stuck)

pub returns-else-n-rest-clause-ok : goal.returns-else-n-rest-clause-ok
returns-else-n-rest-clause-ok c =
    let bytes = c.args.bytes.now in
    let rest = c.split_at.result.1.now in
    let len = c.in-Ok.params.len in
    let all : take c.in-Ok-result_at.n rest ≡ rest = take_all c.in-Ok-result_at.n rest c.if-n-rest.false in
    let whole : take len bytes ++ take c.in-Ok-result_at.n rest ≡ bytes = ap (λ (t : List ℕ). take len bytes ++ t) (all ∙ c.split_at.ensures.back) ∙ take-append-drop len bytes in
    subst (λ (t : List ℕ). IsMethod (40 ∷ t) c.in-Ok.params.types c.in-Ok-result_at.result) whole
    (method_found bytes rest len c.in-Ok-result_at.n c.in-Ok.params.types c.in-Ok-result_at.result c.split_at.ensures.back c.in-Ok.ensures.ok c.in-Ok-result_at.ensures.ok)
