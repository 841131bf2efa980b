use Rattle.std.proofs.Common.{◌≡◌, ◌+◌, ◌++◌, ◌∷◌, [], ℕ, false, length, refl, ap, sym, ◌∙◌, subst, arith}
use Rattle.ja_lower.specs.Folder.{is_class_file, table_name}
use Rattle.ja_reading.specs.Judged.{IsTableRead}
use Rattle.ja_reading.specs.declared.judged.TableRead.{TableRead}
use Rattle.ja_reading.proofs.MoreFiles.{judged_table}
use Rattle.ja_reading.proofs.judging.with_next_table.Goals as goal

pub returns-in-Ok : goal.returns-in-Ok
returns-in-Ok c files next named content before =
    let same : length next.bytes ≡ length c.args.bytes.now = ap length content in
    let plain : is_class_file table_name ≡ false = refl in
    judged_table files next c.args.judged c.with_table.result (ap is_class_file named ∙ plain)
    (c.with_table.ensures.total ∙ ap (λ (n : ℕ). c.args.judged.total + n) (sym same)) c.with_table.ensures.classes
    (omega (arith, same, c.requires.short)) (omega (arith, same, c.requires.total)) before
    (subst (λ (table : TableRead). IsTableRead (files ++ next ∷ []) table) (sym c.with_table.ensures.table) (c.in-Ok.ensures files next named content))
