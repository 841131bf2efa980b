use Rattle.std.proofs.Common.{sym, ap, ◌∙◌, subst}
use Rattle.std.specs.Prelude.{IfOk, IfErr}
use Rattle.std.proofs.lemmas.Result.{IfOk-weaker, IfErr-weaker}
use mathlib.Core.Logic.{dite}
use native.Mathlib.Decide.{ℕ_discrete}
use Rattle.ja_node_core.specs.Word.{var_of, low_of, high_of}
use Rattle.ja_node_core.proofs.Words.{parts_of_word}
use Rattle.ja_node_table.specs.Seats.{aim_of, known, wanted_word, LacksRoom}
use Rattle.ja_bdd.specs.Functions.{chosen}
use Rattle.ja_bdd.specs.Meaning.{meaning, IsMeant}
use Rattle.ja_bdd.specs.Room.{LacksRoomUnder}
use Rattle.ja_bdd.proofs.Sound.{seat_sound}
use Rattle.ja_bdd.proofs.Parts.{may_make, made_means, one_means, under_made}
use Rattle.ja_bdd.proofs.build.build.Goals as goal

pub make-requires-clause-node : goal.make-requires-clause-node
make-requires-clause-node g c κs within =
    may_make (known c.args.seat.now) (seat_sound c.args.seat.now) (g.A.Aim.aims (aim_of c.args.table.now)) c.args.var c.args.lo.number c.args.hi.number
    c.requires.known.0 c.requires.known.1 c.requires.later.0 c.requires.later.1 c.requires.aim

pub returns-clause-ok : goal.returns-clause-ok
returns-clause-ok g c =
    let k = known c.args.seat.now in
    let sound = seat_sound c.args.seat.now in
    let lo = c.args.lo.number in
    let hi = c.args.hi.number in
    let χ = chosen c.args.var (meaning k lo) (meaning k hi) in
    dite (ℕ_discrete lo hi)
    (λ e. let one = c.make.ensures.one_child e in
    subst (λ r. IfOk r (λ n. IsMeant (known c.make.new.seat) n.number χ)) (sym one.0)
    (subst (λ s. IsMeant (known s) lo χ) (sym one.1) (one_means k sound c.args.var lo hi c.requires.known.0 e)))
    (λ ne. IfOk-weaker c.make.result _ _ (λ n made. made_means k sound (known c.make.new.seat) (seat_sound c.make.new.seat) c.args.var lo hi n.number c.requires.known.0 c.requires.known.1 made) (c.make.ensures.ok ne))

pub returns-clause-full : goal.returns-clause-full
returns-clause-full g c =
    let k = known c.args.seat.now in
    let new = known c.make.new.seat in
    let sound = seat_sound c.args.seat.now in
    let v = c.args.var in
    let lo = c.args.lo.number in
    let hi = c.args.hi.number in
    let χ = chosen v (meaning k lo) (meaning k hi) in
    let aim = g.A.Aim.aims (aim_of c.args.table.now) in
    let parts = parts_of_word v lo hi c.args.lo.small c.args.hi.small in
    dite (ℕ_discrete lo hi)
    (λ e. subst (λ r. IfErr r (LacksRoomUnder c.args.table.now new χ)) (sym (c.make.ensures.one_child e).0) tt)
    (λ ne. IfErr-weaker c.make.result _ _ (λ e room. record {
      under = under_made k new sound (seat_sound c.make.new.seat) c.make.ensures.grows aim v lo hi (wanted_word e) c.requires.var ne
          (may_make k sound aim v lo hi c.requires.known.0 c.requires.known.1 c.requires.later.0 c.requires.later.1 c.requires.aim)
          room.word (ap var_of room.word ∙ parts.0) (ap low_of room.word ∙ parts.1) (ap high_of room.word ∙ parts.2)
          c.requires.known.0 c.requires.known.1 c.requires.later.0 c.requires.later.1;
      room = subst (λ w. LacksRoom c.args.table.now new w e) (sym room.word) room;
    }) c.make.ensures.full)
