use Rattle.std.proofs.Common.{sym, ap, ◌∙◌, subst, arith}
use Rattle.ja_node_table.specs.Rule.{IsView}
use Rattle.ja_node_table.proofs.Steps.{splits_allowed}
use Rattle.ja_node_table.proofs.table.NodeTable.split.Goals as goal

pub split_seat-requires : goal.split_seat-requires
split_seat-requires g c =
    let t = c.args.self.now in
    let counted = t.counted in
    let bounded = t.bounded in
    (ap (λ h. h.table) c.requires, omega arith, splits_allowed g.A.Aim.aims t.table.shared.key _ _ (ap (λ h. h.plan) c.requires))

pub invariant_of-seat : goal.invariant_of-seat
invariant_of-seat g c =
    let me = c.split_seat.ensures.2 in
    record { bare = ap (λ m. m.1) me ∙ c.args.seat.now.bare; part = subst (λ m. ∥ IsView g.A.Aim.aims m.0 ∥₁) (sym me) c.args.seat.now.part }

pub invariant_of-result : goal.invariant_of-result
invariant_of-result g c =
    let me = c.split_seat.ensures.4 in
    record { bare = ap (λ m. m.1) me; part = subst (λ m. ∥ IsView g.A.Aim.aims m.0 ∥₁) (sym me) c.args.seat.now.part }
