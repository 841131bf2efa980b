use Rattle.std.proofs.Common.{◌++◌, ◌∷◌, [], List, sym, ap, ◌∙◌, subst}
use Rattle.ja_ir.specs.declared.entry.Entry.{Entry}
use Rattle.ja_heads.specs.Entries.{enters, passes, RowAdds}
use Rattle.ja_heads.proofs.entry.add_row.Goals as goal

pub returns-in_default : goal.returns-in_default
returns-in_default c = passes c.in_default.ensures.none

pub returns : goal.returns
returns c =
    subst (λ (l : List Entry). RowAdds c.args.hier.now c.args.class.0 c.args.head.now c.args.row.now c.args.entries.now l)
    (sym (c.in_ok-push.ensures.ok ∙ ap (λ (e : Entry). c.args.entries.now ++ e ∷ []) c.in_ok-entry.ensures))
    (enters c.in-Some.method.0 c.in-Some.ensures.some)
