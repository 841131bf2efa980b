use Rattle.std.proofs.Common.{◌≡◌, ℕ, suc, ◌+◌, ◌<◌, length, refl, subst, arith}
use Rattle.std.proofs.lemmas.Option.{slice_get_read}
use Rattle.ja_heads.specs.Entries.{no_row, next_row, RowsAdd}
use Rattle.ja_heads.proofs.entry.add_rows.Goals as goal

pub loop-row-init : goal.loop-row-init
loop-row-init c = no_row

pub loop-row-preserved : goal.loop-row-preserved
loop-row-preserved c =
    let lt : c.loop-row.row-index < length c.args.rows.now = omega arith in
    let one : suc c.loop-row.row-index ≡ c.loop-row.row-index + 1 = omega arith in
    subst (λ (k : ℕ). RowsAdd c.args.hier.now c.args.rows.now c.args.class.0 c.args.head.now c.args.entries.now k c.add_row.new.entries) one
    (next_row c.row-item.result (slice_get_read c.args.rows.now (length c.args.rows.now) c.loop-row.row-index c.row-item.result refl lt c.row-item.is) c.loop-row.invariant c.in_ok-add_row.ensures)
