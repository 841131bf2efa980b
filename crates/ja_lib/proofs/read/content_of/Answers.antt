use Rattle.std.proofs.Common.{List, ℕ, subst}
use Rattle.ja_lib.specs.File.{SpellAll, SpellsRow, SpellsEntry}
use Rattle.ja_lib.proofs.Categorized.{rows_about, entries_about}
use Rattle.ja_lib.proofs.read.content_of.Goals as goal

pub new-requires : goal.new-requires
new-requires c =
    let (ts, are_rows, at_rows) = c.in-Some.ensures in
    let (us, are_entries, at_entries) = c.in-Some-tables_at.ensures in
    let names = c.in_ok-categories.categories in
    record {
      few = c.in_ok-categories.ensures.few;
      rows = rows_about names ts c.in_ok-rows.rows
          (subst (λ (ns : List (List ℕ)). SpellAll (SpellsRow ns) ts c.in_ok-rows.rows) c.as_slice.ensures (c.in_ok-rows.ensures.rows ts are_rows));
      entries = entries_about names us c.in_ok-entries.entries
          (subst (λ (ns : List (List ℕ)). SpellAll (SpellsEntry ns) us c.in_ok-entries.entries) c.as_slice-2.ensures (c.in_ok-entries.ensures.entries us are_entries));
    }
