use Rattle.std.proofs.Common.{ap, ◌∙◌, arith}
use Rattle.ja_node_table.proofs.Seen.{joined_max, joined_grows}
use Rattle.ja_node_table.proofs.Steps.{joins_allowed, looks_allowed}
use Rattle.ja_node_table.proofs.table.NodeTable.join.Goals as goal

pub join_seat-requires : goal.join_seat-requires
join_seat-requires g c =
    let t = c.args.self.now in
    let counted = t.counted in
    let bounded = t.bounded in
    let mine = c.requires.seat in
    let theirs = c.requires.other in
    (ap (λ h. h.table) mine, ap (λ h. h.table) theirs, c.args.other.bare, omega arith, joins_allowed g.A.Aim.aims t.table.shared.key _ _ _ _ (ap (λ h. h.plan) mine) (ap (λ h. h.plan) theirs))

pub load-requires : goal.load-requires
load-requires g c =
    let t = c.args.self.now in
    let counted = t.counted in
    let bounded = t.bounded in
    let both = c.join_seat.ensures in
    let mine = c.requires.seat in
    (both.0 ∙ ap (λ h. h.table) mine, omega arith, looks_allowed g.A.Aim.aims t.table.shared.key _ _ _ _ (ap (λ m. m.0.plan) both.2 ∙ ap (λ h. h.plan) mine))

pub returns-clause-both : goal.returns-clause-both
returns-clause-both g c = joined_max g.A.Aim.aims c.args.seat.now.seat.me.0 c.args.other.seat.me.0 c.join_seat.new.seat.me.0 c.load.new.seat.me.0 _ (ap (λ m. m.0) c.join_seat.ensures.2) c.load.ensures.2.1

pub returns-clause-grows : goal.returns-clause-grows
returns-clause-grows g c = joined_grows g.A.Aim.aims c.args.seat.now.seat.me.0 c.args.other.seat.me.0 c.join_seat.new.seat.me.0 c.load.new.seat.me.0 _ (ap (λ m. m.0) c.join_seat.ensures.2) c.load.ensures.2.1
