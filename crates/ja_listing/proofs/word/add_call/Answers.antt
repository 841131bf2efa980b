use Rattle.std.proofs.Common.{◌++◌, [], ◌∷◌, Some, codes, ap, sym, ◌∙◌, append_assoc}
use Rattle.ja_listing.specs.declared.word.Word.TheVariants.{Bare}
use Rattle.ja_listing.proofs.word.add_call.Goals as goal

pub returns : goal.returns
returns c =
    let words = c.args.words.now in
    let mnemonic = c.in_ok-mnemonic.mnemonic in
    let method = c.in_ok-method.method in
    ap (λ ws. Some ws)
    (sym
    (c.in_ok-push-2.ensures.ok ∙ ap (λ ws. ws ++ Bare method ∷ []) c.in_ok-push.ensures.ok
    ∙ append_assoc words (Bare mnemonic ∷ []) (Bare method ∷ []) ∙ ap (λ a. words ++ (Bare a ∷ Bare method ∷ [])) c.in_ok-mnemonic.ensures
    ∙ ap (λ b. words ++ (Bare (codes "invokestatic") ∷ Bare b ∷ [])) c.in_ok-method.ensures))
