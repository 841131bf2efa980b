use Rattle.std.proofs.Common.{◌≡◌, ◌≤◌, ℕ, List, [], length, sym, subst, arith}
use Rattle.std.specs.Prelude.{All}
use Rattle.ja_ir.specs.Categories.{count_of_names}
use Rattle.ja_lib.specs.declared.row.TableRow.{TableRow}
use Rattle.ja_lib.specs.declared.entry.EntryRow.{EntryRow}
use Rattle.ja_lib.specs.Content.{IsMeaningAbout}
use Rattle.ja_lib.proofs.Categorized.{default_rows_about, default_entries_about}
use Rattle.ja_lib.proofs.default.default_table.Goals as goal

pub new-requires : goal.new-requires
new-requires c =
    let none : c.new-categories.result ≡ [] = c.new-categories.ensures in
    let few : length {A = List ℕ} [] ≤ 8 = omega arith in
    record {
      few = subst (λ (names : List (List ℕ)). length names ≤ 8) (sym none) few;
      rows = subst (λ (names : List (List ℕ)). All (λ (row : TableRow). IsMeaningAbout names row.meaning) c.in_ok-rows.rows) (sym none)
          (subst (λ (rows : List TableRow). All (λ (row : TableRow). IsMeaningAbout [] row.meaning) rows) (sym c.in_ok-rows.ensures) default_rows_about);
      entries = subst (λ (names : List (List ℕ)). All (λ (entry : EntryRow). length entry.marks ≡ count_of_names names) c.in_ok-entries.entries) (sym none)
          (subst (λ (entries : List EntryRow). All (λ (entry : EntryRow). length entry.marks ≡ 1) entries) (sym c.in_ok-entries.ensures) default_entries_about);
    }
