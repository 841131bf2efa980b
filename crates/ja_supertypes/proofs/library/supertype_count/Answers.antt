use Rattle.std.proofs.Common.{◌≡◌, ℕ, List, [], length, get_or, sym, ap, ◌∙◌}
use Rattle.std.proofs.lemmas.Option.{get_or_from_slice_get}
use Rattle.ja_supertypes.proofs.library.supertype_count.Goals as goal

pub returns : goal.returns
returns c =
    let at : get_or c.args.tables.now.supertypes c.args.class [] ≡ c.at.result.now = get_or_from_slice_get c.args.tables.now.supertypes c.args.class c.at.result.now [] c.at.ensures in
    let same : c.as_slice.result.now ≡ get_or c.args.tables.now.supertypes c.args.class [] = c.as_slice.ensures ∙ sym at in
    ap (λ (l : List ℕ). length l) same
