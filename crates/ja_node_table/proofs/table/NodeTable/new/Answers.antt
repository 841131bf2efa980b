use Rattle.std.proofs.Common.{sym, ap, subst}
use Rattle.ja_node_table.specs.Rule.{IsView}
use Rattle.ja_node_table.proofs.Views.{first_is_view}
use Rattle.ja_node_table.proofs.table.NodeTable.new.Goals as goal

pub invariant_of-result : goal.invariant_of-result
invariant_of-result g c = let me = c.in_ok-table.ensures.4 in record { bare = ap (λ m. m.1) me; part = subst (λ m. ∥ IsView g.A.Aim.aims m.0 ∥₁) (sym me) ∣ first_is_view g.A.Aim.aims _ ∣₁ }
