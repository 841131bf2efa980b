use Rattle.std.proofs.Common.{ap, ◌∙◌, arith}
use Rattle.ja_node_core.specs.Word.{var_of, low_of, high_of}
use Rattle.ja_node_table.specs.Seats.{known}
use Rattle.ja_bdd.proofs.Sound.{seat_sound}
use Rattle.ja_bdd.proofs.Joining.{halved_by, both_deep}
use Rattle.ja_bdd.proofs.join.cut_both.Goals as goal

pub returns-clause-f : goal.returns-clause-f
returns-clause-f g c =
    let s = c.args.seat.now in
    let p = c.parts-of_f.result in
    let e = c.parts-of_f.ensures.parts in
    let least = c.min-var.ensures in
    halved_by (known s) (seat_sound s) c.args.f.number p.var p.lo.number p.hi.number c.min-var.result c.halves.result.0.number c.halves.result.1.number
    c.requires.f.0 c.requires.f.1 e.0 e.1 e.2 (omega arith)
    (λ at. let is = c.halves.ensures.at at in (ap (λ n. n.number) is.0, ap (λ n. n.number) is.1))
    (λ lt. let is = c.halves.ensures.past lt in (ap (λ n. n.number) is.0, ap (λ n. n.number) is.1))

pub returns-clause-g : goal.returns-clause-g
returns-clause-g g c =
    let s = c.args.seat.now in
    let p = c.parts-of_g.result in
    let e = c.parts-of_g.ensures.parts in
    let same = c.parts-of_f.ensures.seat.1 in
    let least = c.min-var.ensures in
    halved_by (known s) (seat_sound s) c.args.g.number p.var p.lo.number p.hi.number c.min-var.result c.halves-2.result.0.number c.halves-2.result.1.number
    c.requires.g.0 c.requires.g.1 (e.0 ∙ ap (λ k. var_of (k c.args.g.number)) same) (e.1 ∙ ap (λ k. low_of (k c.args.g.number)) same) (e.2 ∙ ap (λ k. high_of (k c.args.g.number)) same) (omega arith)
    (λ at. let is = c.halves-2.ensures.at at in (ap (λ n. n.number) is.0, ap (λ n. n.number) is.1))
    (λ lt. let is = c.halves-2.ensures.past lt in (ap (λ n. n.number) is.0, ap (λ n. n.number) is.1))

pub returns-clause-depth : goal.returns-clause-depth
returns-clause-depth g c =
    let k = known c.args.seat.now in
    let f = c.args.f.number in
    let h = c.args.g.number in
    let w = c.parts-of_g.ensures.parts.0 ∙ ap (λ l. var_of (l h)) c.parts-of_f.ensures.seat.1 in
    let least = c.min-var.ensures in
    both_deep k f h c.parts-of_f.result.var c.parts-of_g.result.var c.min-var.result c.requires.f.0 c.requires.g.0 c.parts-of_f.ensures.parts.0 w least
