use Rattle.std.proofs.Common.{◌≡◌, ℕ, List, length, ap, sym, ◌∙◌, subst, arith}
use Rattle.std.specs.Prelude.{count_by}
use Rattle.std.specs.List.{find}
use Rattle.ja_base.specs.declared.refusal.Refusal.TheVariants.{Archive, TooManyFiles}
use Rattle.ja_lower.specs.Folder.{IsRefusedUnread, class_files, is_archive, is_class_file, too_many_files}
use Rattle.ja_reading.proofs.Unread.{class_count, no_archive, not_refused, refused_archive}
use Rattle.ja_reading.proofs.names.refusal_by_names.Goals as goal

pub returns-in-Some-clause-refusal : goal.returns-in-Some-clause-refusal
returns-in-Some-clause-refusal c files named =
    subst (λ (name : List ℕ). IsRefusedUnread files (Archive name)) (sym c.in_ok-file.ensures)
    (refused_archive files c.in-Some.name.now (c.in-Some.ensures ∙ ap (find is_archive) (sym named)))

pub returns-then-count-gt-MAX_CLASS_FILES-clause-refusal : goal.returns-then-count-gt-MAX_CLASS_FILES-clause-refusal
returns-then-count-gt-MAX_CLASS_FILES-clause-refusal c files named =
    let count : c.count_class_files-count.result ≡ length (class_files files) =
    c.count_class_files-count.ensures ∙ ap (count_by is_class_file) (sym named) ∙ class_count files in
    subst (λ (n : ℕ). IsRefusedUnread files (TooManyFiles n)) (sym count)
    (too_many_files (no_archive files (c.in_default.ensures ∙ ap (find is_archive) (sym named))) (omega (arith, count)))

pub returns-clause-refusal : goal.returns-clause-refusal
returns-clause-refusal c files named =
    let count : c.count_class_files-count.result ≡ length (class_files files) =
    c.count_class_files-count.ensures ∙ ap (count_by is_class_file) (sym named) ∙ class_count files in
    record { no_archive = no_archive files (c.in_default.ensures ∙ ap (find is_archive) (sym named)); few = omega (arith, count) }

pub returns-clause-refused : goal.returns-clause-refused
returns-clause-refused c refused is = not_refused c.args.names.now c.in_default.ensures (omega arith) refused
