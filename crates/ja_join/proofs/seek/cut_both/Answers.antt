use Rattle.std.proofs.Common.{inr, subst, arith}
use Rattle.ja_bdd.specs.Meaning.{IsHalved}
use Rattle.ja_bdd.specs.Workers.{seen}
use Rattle.ja_bdd.proofs.Sound.{seat_sound}
use Rattle.ja_bdd.proofs.Parts.{halved_past}
use Rattle.ja_join.proofs.seek.cut_both.Goals as goal

pub returns-then-second-first-clause-cut : goal.returns-then-second-first-clause-cut
returns-then-second-first-clause-cut g c =
    let w = c.args.worker.now in
    let k = seen w in
    let r = c.args.r.number in
    let d = c.args.c.number in
    let first = c.cut_at-first.result in
    let second = c.cut_at-second.result in
    let e = c.cut_at-first.ensures in
    let f = c.cut_at-second.ensures in
    let lt = c.if-second-first.true in
    let le = e.var in
    record {
      first = halved_past k (seat_sound w.seat) second.var r c.requires.known.0 (λ u before. e.halved.from u (omega arith));
      second = subst (λ l. IsHalved l second.var d second.low.number second.high.number) e.same f.halved;
      within = omega arith;
      apart = λ inside. inr (f.apart lt);
    }
