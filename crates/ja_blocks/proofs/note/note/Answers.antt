use Rattle.std.proofs.Common.{◌≡◌, ◌<◌, ◌∷◌, ◌++◌, [], ℕ, List, length, get_or, set, sym, ap, ◌∙◌, subst, arith}
use Rattle.std.proofs.lemmas.List.{get_or_default}
use Rattle.ja_blocks.specs.Index.{IsNoted}
use Rattle.ja_blocks.proofs.More.{noted}
use Rattle.ja_blocks.proofs.note.note.Goals as goal

pub returns-in_ok-push : goal.returns-in_ok-push
returns-in_ok-push c =
    let lists = c.args.lists.now.items in
    let key = c.args.key in
    let lt : key < length lists = (let less = c.if-key-len.true in let long = c.len.ensures in omega arith) in
    let old : c.index_mut.result.now ≡ get_or lists key [] = c.index_mut.ensures.value ∙ get_or_default lists key c.index_mut.result.now [] lt in
    let is : get_or lists key [] ++ c.args.number ∷ [] ≡ c.push.new.self = sym ((c.in_ok-push.ensures).ok ∙ ap (λ xs. xs ++ c.args.number ∷ []) old) in
    subst (λ (xs : List ℕ). IsNoted lists (set lists key xs) (λ k x. (k ≡ key) × (x ≡ c.args.number))) is (noted lists key c.args.number lt)
