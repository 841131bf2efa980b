use Rattle.std.proofs.Common.{suc, sym, subst, refl}
use Rattle.ja_bdd.specs.Functions.{IsFrom}
use Rattle.ja_bdd.specs.Workers.{seen}
use Rattle.ja_bdd.proofs.Sound.{seat_sound}
use Rattle.ja_bdd.proofs.Parts.{halved_past}
use Rattle.ja_bdd.proofs.Forgetting.{is_constant}
use Rattle.ja_join.proofs.pass.cut_at.Goals as goal

pub returns-then-r-lt2-clause-halved : goal.returns-then-r-lt2-clause-halved
returns-then-r-lt2-clause-halved g c =
    let w = c.args.worker.now in
    let k = seen w in
    let sound = seat_sound w.seat in
    let same = is_constant k sound c.args.r.number c.if-r-lt2.true in
    halved_past k sound c.args.now c.args.r.number c.requires.known (subst (IsFrom (suc c.args.now)) (sym same.1) (λ u lt b a. refl))
