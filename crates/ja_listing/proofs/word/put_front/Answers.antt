use Rattle.std.proofs.Common.{◌++◌, [], ◌∷◌, drop, get_or, ap, sym, ◌∙◌, append_assoc}
use Rattle.ja_listing.specs.Word.{replaced}
use Rattle.ja_listing.proofs.Words.{short_first, byte_kept}
use Rattle.ja_listing.proofs.word.put_front.Goals as goal

pub returns-in_ok-append-in-Some-clause-put : goal.returns-in_ok-append-in-Some-clause-put
returns-in_ok-append-in-Some-clause-put c =
    let out = c.args.out.now.items in
    let rest = c.args.rest.now in
    let text = c.in-Some.text.now in
    ap (λ xs. xs ++ replaced (drop 2 rest)) (c.in_ok-append-in-Some.ensures ∙ ap (λ t. out ++ t) c.as_bytes.ensures.value)
    ∙ append_assoc out text (replaced (drop 2 rest)) ∙ ap (λ ys. out ++ ys) (sym (short_first rest text (sym c.in-Some.ensures)))

pub returns-in_ok-push-in-None-clause-put : goal.returns-in_ok-push-in-None-clause-put
returns-in_ok-push-in-None-clause-put c =
    let out = c.args.out.now.items in
    let rest = c.args.rest.now in
    ap (λ xs. xs ++ replaced (drop 1 rest)) c.in_ok-push-in-None.ensures.items
    ∙ append_assoc out (get_or rest 0 0 ∷ []) (replaced (drop 1 rest)) ∙ ap (λ ys. out ++ ys) (sym (byte_kept rest c.requires (sym c.in-None.ensures)))
