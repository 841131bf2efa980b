use Rattle.std.proofs.Common.{◌≡◌, false, refl, sym, ◌∙◌, subst}
use Rattle.std.specs.Prelude.{None}
use Rattle.std.proofs.lemmas.Result.{IfOk-weaker, IfErr-weaker}
use Rattle.ja_node_table.specs.Seats.{aim_of, known}
use Rattle.ja_bdd.specs.Functions.{IsAimed}
use Rattle.ja_bdd.specs.Meaning.{meaning, IsMeant}
use Rattle.ja_bdd.specs.Copies.{in_copies, all_forgotten}
use Rattle.ja_bdd.specs.Inner.{joined}
use Rattle.ja_bdd.specs.declared.cache.Joint.TheVariants.{And}
use Rattle.ja_bdd.specs.declared.cache.Question.TheVariants.{Product}
use Rattle.ja_bdd.proofs.Sound.{seat_sound}
use Rattle.ja_bdd.proofs.Room.{lacks_same}
use Rattle.ja_bdd.proofs.Cached.{answers}
use Rattle.ja_bdd.proofs.Producing.{stays_chosen, stays_later, goes_joined}
use Rattle.ja_bdd.proofs.worker.Worker.finish_product.Goals as goal

pub join-requires-clause-aim : goal.join-requires-clause-aim
join-requires-clause-aim g c κs within =
    let t' = c.args.table.now in
    let aim = g.A.Aim.aims (aim_of t') in
    let s = c.args.self.now.seat in
    let k = known s in
    let goes = in_copies c.args.copies in
    let f = c.args.f.number in
    let h = c.args.g.number in
    let v = c.args.var in
    let low = c.args.low.number in
    let high = c.args.high.number in
    let one = goes_joined k (seat_sound s) goes f h v low high c.requires.pieces (sym c.has.ensures ∙ c.if-has.true) c.requires.var in
    subst (IsAimed aim) (sym one) c.requires.aim

pub returns-in-Err-clause-full : goal.returns-in-Err-clause-full
returns-in-Err-clause-full g c =
    let t' = c.args.table.now in
    let aim = g.A.Aim.aims (aim_of t') in
    let s = c.args.self.now.seat in
    let k = known s in
    let goes = in_copies c.args.copies in
    let f = c.args.f.number in
    let h = c.args.g.number in
    let v = c.args.var in
    let low = c.args.low.number in
    let high = c.args.high.number in
    let one = goes_joined k (seat_sound s) goes f h v low high c.requires.pieces (sym c.has.ensures ∙ c.if-has.true) c.requires.var in
    lacks_same t' (known c.join.new.self.seat) c.in-Err.full _ _ one c.in-Err.ensures.full

pub keep-requires-after_bounds : goal.keep-requires-after_bounds
keep-requires-after_bounds g c κs within =
    let t' = c.args.table.now in
    let aim = g.A.Aim.aims (aim_of t') in
    let s = c.args.self.now.seat in
    let k = known s in
    let goes = in_copies c.args.copies in
    let f = c.args.f.number in
    let h = c.args.g.number in
    let v = c.args.var in
    let low = c.args.low.number in
    let high = c.args.high.number in
    let one = goes_joined k (seat_sound s) goes f h v low high c.requires.pieces (sym c.has.ensures ∙ c.if-has.true) c.requires.var in
    answers k (known c.join.new.self.seat) (seat_sound s) (seat_sound c.join.new.self.seat) c.join.ensures.grows None (Product c.args.f c.args.g c.args.copies) c.in-Ok.made (all_forgotten goes (joined And (meaning k f) (meaning k h)))
    (c.requires.pieces.known.0, c.requires.pieces.known.1, refl) (c.in-Ok.ensures.ok.0, c.in-Ok.ensures.ok.1 ∙ one)

pub returns-then-has-clause-ok : goal.returns-then-has-clause-ok
returns-then-has-clause-ok g c =
    let t' = c.args.table.now in
    let aim = g.A.Aim.aims (aim_of t') in
    let s = c.args.self.now.seat in
    let k = known s in
    let goes = in_copies c.args.copies in
    let f = c.args.f.number in
    let h = c.args.g.number in
    let v = c.args.var in
    let low = c.args.low.number in
    let high = c.args.high.number in
    let one = goes_joined k (seat_sound s) goes f h v low high c.requires.pieces (sym c.has.ensures ∙ c.if-has.true) c.requires.var in
    subst (λ r. IsMeant (known r) c.in-Ok.made.number (all_forgotten goes (joined And (meaning k f) (meaning k h)))) (sym c.keep.ensures.seat) (c.in-Ok.ensures.ok.0, c.in-Ok.ensures.ok.1 ∙ one)

pub finish-requires-clause-later : goal.finish-requires-clause-later
finish-requires-clause-later g c κs within =
    let t' = c.args.table.now in
    let aim = g.A.Aim.aims (aim_of t') in
    let s = c.args.self.now.seat in
    let k = known s in
    let goes = in_copies c.args.copies in
    let f = c.args.f.number in
    let h = c.args.g.number in
    let v = c.args.var in
    let low = c.args.low.number in
    let high = c.args.high.number in
    let stays : goes v ≡ false = sym c.has.ensures ∙ c.if-has.false in
    let one = stays_chosen k (seat_sound s) goes f h v low high c.requires.pieces stays in
    stays_later k (seat_sound s) goes f h v low high c.requires.pieces stays

pub finish-requires-clause-aim : goal.finish-requires-clause-aim
finish-requires-clause-aim g c κs within =
    let t' = c.args.table.now in
    let aim = g.A.Aim.aims (aim_of t') in
    let s = c.args.self.now.seat in
    let k = known s in
    let goes = in_copies c.args.copies in
    let f = c.args.f.number in
    let h = c.args.g.number in
    let v = c.args.var in
    let low = c.args.low.number in
    let high = c.args.high.number in
    let stays : goes v ≡ false = sym c.has.ensures ∙ c.if-has.false in
    let one = stays_chosen k (seat_sound s) goes f h v low high c.requires.pieces stays in
    subst (IsAimed aim) (sym one) c.requires.aim

pub finish-requires-clause-about : goal.finish-requires-clause-about
finish-requires-clause-about g c κs within =
    let t' = c.args.table.now in
    let aim = g.A.Aim.aims (aim_of t') in
    let s = c.args.self.now.seat in
    let k = known s in
    let goes = in_copies c.args.copies in
    let f = c.args.f.number in
    let h = c.args.g.number in
    let v = c.args.var in
    let low = c.args.low.number in
    let high = c.args.high.number in
    let stays : goes v ≡ false = sym c.has.ensures ∙ c.if-has.false in
    let one = stays_chosen k (seat_sound s) goes f h v low high c.requires.pieces stays in
    (c.requires.pieces.known.0, c.requires.pieces.known.1, sym one)

pub returns-clause-ok : goal.returns-clause-ok
returns-clause-ok g c =
    let t' = c.args.table.now in
    let aim = g.A.Aim.aims (aim_of t') in
    let s = c.args.self.now.seat in
    let k = known s in
    let goes = in_copies c.args.copies in
    let f = c.args.f.number in
    let h = c.args.g.number in
    let v = c.args.var in
    let low = c.args.low.number in
    let high = c.args.high.number in
    let stays : goes v ≡ false = sym c.has.ensures ∙ c.if-has.false in
    let one = stays_chosen k (seat_sound s) goes f h v low high c.requires.pieces stays in
    IfOk-weaker c.finish.result _ _ (λ n is. (is.0, is.1 ∙ one)) c.finish.ensures.ok

pub returns-clause-full : goal.returns-clause-full
returns-clause-full g c =
    let t' = c.args.table.now in
    let aim = g.A.Aim.aims (aim_of t') in
    let s = c.args.self.now.seat in
    let k = known s in
    let goes = in_copies c.args.copies in
    let f = c.args.f.number in
    let h = c.args.g.number in
    let v = c.args.var in
    let low = c.args.low.number in
    let high = c.args.high.number in
    let stays : goes v ≡ false = sym c.has.ensures ∙ c.if-has.false in
    let one = stays_chosen k (seat_sound s) goes f h v low high c.requires.pieces stays in
    IfErr-weaker c.finish.result _ _ (λ e' lacks. lacks_same t' (known c.finish.new.self.seat) e' _ _ one lacks) c.finish.ensures.full
