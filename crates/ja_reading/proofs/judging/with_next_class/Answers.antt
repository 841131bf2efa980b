use Rattle.std.proofs.Common.{◌≡◌, ◌+◌, ℕ, length, refl, ap, sym, ◌∙◌, arith}
use Rattle.ja_lower.specs.Folder.{class_files, is_class_file}
use Rattle.ja_reading.proofs.MoreFiles.{judged_class}
use Rattle.ja_reading.proofs.judging.with_next_class.Goals as goal

pub returns-in-Ok : goal.returns-in-Ok
returns-in-Ok c files next named content before =
    let same : length next.bytes ≡ length c.args.bytes.now = ap length content in
    judged_class files next c.args.judged _ (ap is_class_file named ∙ c.requires.class) (ap (λ (n : ℕ). c.args.judged.total + n) (sym same)) refl
    (omega (arith, same, c.requires.short)) (omega (arith, same, c.requires.total)) before
    (c.in-Ok.ensures.judged (class_files files) next named content before.classes)
