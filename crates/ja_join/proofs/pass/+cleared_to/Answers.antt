use Rattle.std.proofs.Common.{rules, ◌+◌, ◌≤◌, false, true, Some, sym, subst, arith}
use Rattle.ja_bdd.specs.Functions.{IsFrom}
use Rattle.ja_bdd.specs.Meaning.{meaning}
use Rattle.ja_bdd.specs.Workers.{seen}
use Rattle.ja_bdd.proofs.Sound.{seat_sound}
use Rattle.ja_join.specs.Inner.{IsTaken}
use Rattle.ja_join.proofs.Handing.{cut_from, taken_past}
use Rattle.ja_join.proofs.Asking.{cut_later}
use Rattle.ja_join.proofs.pass.+cleared_to.Goals as goal

pub cleared_to-requires : goal.cleared_to-requires
cleared_to-requires g t c κs within =
    let w = c.args.worker.now in
    let cut = c.cut_at-cut.result in
    let e = c.cut_at-cut.ensures in
    let later : c.args.from ≤ cut.var = cut_later (seen w) (seat_sound w.seat) c.args.from cut.var c.args.var c.args.g.number cut.low.number cut.high.number c.requires.later c.requires.from e.halved e.apart in
    let from = subst (λ k. IsFrom (cut.var + 1) (meaning k cut.low.number)) (sym e.same) (cut_from (seen w) cut.var c.args.g.number cut.low.number cut.high.number e.halved) in
    let no = c.if-cut-var.false in
    let le = e.var in
    (omega arith, (within, (search rules, (search rules, (search rules, (search rules, (from, (omega arith, c.requires.var))))))))

pub returns-clause-low : goal.returns-clause-low
returns-clause-low g t c =
    let w = c.args.worker.now in
    let cut = c.cut_at-cut.result in
    let e = c.cut_at-cut.ensures in
    let no = c.if-cut-var.false in
    let le = e.var in
    let n = c.cleared_to.result.low.number in
    taken_past (seen w) cut.var c.args.var false c.args.g.number cut.low.number cut.high.number n (omega arith) e.halved (subst (λ k. IsTaken k (Some c.args.var) false cut.low.number n) e.same c.cleared_to.ensures.low)

pub returns-clause-high : goal.returns-clause-high
returns-clause-high g t c =
    let w = c.args.worker.now in
    let cut = c.cut_at-cut.result in
    let e = c.cut_at-cut.ensures in
    let no = c.if-cut-var.false in
    let le = e.var in
    let n = c.cleared_to.result.high.number in
    taken_past (seen w) cut.var c.args.var true c.args.g.number cut.low.number cut.high.number n (omega arith) e.halved (subst (λ k. IsTaken k (Some c.args.var) true cut.low.number n) e.same c.cleared_to.ensures.high)
