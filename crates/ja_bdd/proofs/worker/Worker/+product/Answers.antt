use Rattle.std.proofs.Common.{rules, sym, ap, ◌∙◌, subst, true, false}
use Rattle.std.specs.Prelude.{None}
use Rattle.std.proofs.lemmas.Bool.{eqb-true}
use Rattle.std.proofs.lemmas.Result.{IfOk-weaker, IfErr-weaker}
use Rattle.ja_node_core.specs.Node.{IsPart}
use Rattle.ja_node_table.specs.Seats.{aim_of, known}
use Rattle.ja_bdd.specs.Meaning.{meaning, IsMeant}
use Rattle.ja_bdd.specs.Copies.{in_copies, all_forgotten}
use Rattle.ja_bdd.specs.Inner.{joined}
use Rattle.ja_bdd.specs.declared.cache.Joint.TheVariants.{And}
use Rattle.ja_bdd.proofs.Sound.{seat_sound}
use Rattle.ja_bdd.proofs.Room.{lacks_same}
use Rattle.ja_bdd.proofs.Producing.{step_low, step_high, product_from, still_whole, still_aimed, decided, answers_open, pieces, within_part, within_whole}
use Rattle.ja_bdd.proofs.Learning.{seat_right, same_part, part_chain}
use Rattle.ja_bdd.proofs.worker.Worker.+product.Goals as goal

pub invariant_of-self : goal.invariant_of-self
invariant_of-self g t c =
    let t' = c.args.table.now in
    let aim = g.A.Aim.aims (aim_of t') in
    let s = c.args.self.now.seat in
    let k = known s in
    let goes = in_copies c.args.copies in
    let f = c.args.f.number in
    let h = c.args.g.number in
    let o = c.in-Err.open in
    let cut = c.cut_both-cut.result in
    let e = c.cut_both-cut.ensures in
    let s1 = c.cut_both-cut.new.seat in
    let part1 = same_part s s1 e.seat.1 in
    record { counted = c.args.self.now.counted; early = c.args.self.now.early; right = seat_right s s1 None c.args.self.now.cache.items part1 c.args.self.now.right }

pub product-requires : goal.product-requires
product-requires g t c κs within =
    let t' = c.args.table.now in
    let aim = g.A.Aim.aims (aim_of t') in
    let s = c.args.self.now.seat in
    let k = known s in
    let goes = in_copies c.args.copies in
    let f = c.args.f.number in
    let h = c.args.g.number in
    let o = c.in-Err.open in
    let cut = c.cut_both-cut.result in
    let e = c.cut_both-cut.ensures in
    let s1 = c.cut_both-cut.new.seat in
    let part1 = same_part s s1 e.seat.1 in
    let low = step_low aim goes k (seat_sound s) f h o.0.number o.1.number cut.var cut.f_low.number cut.f_high.number cut.g_low.number cut.g_high.number c.in-Err.ensures.err e.f e.g e.var e.depth c.requires.aim (known s1) (seat_sound s1) part1 in
    let near = low.near in
    (search rules, (within, (search rules, (search rules, (e.seat.0, (low.known, low.aimed))))))

pub returns-in-Err-product-clause-grows : goal.returns-in-Err-product-clause-grows
returns-in-Err-product-clause-grows g t c =
    let t' = c.args.table.now in
    let aim = g.A.Aim.aims (aim_of t') in
    let s = c.args.self.now.seat in
    let k = known s in
    let goes = in_copies c.args.copies in
    let f = c.args.f.number in
    let h = c.args.g.number in
    let o = c.in-Err.open in
    let cut = c.cut_both-cut.result in
    let e = c.cut_both-cut.ensures in
    let s1 = c.cut_both-cut.new.seat in
    let part1 = same_part s s1 e.seat.1 in
    let s2 = c.product.new.self.seat in
    let part2 = part_chain k (known s1) (known s2) part1 c.product.ensures.grows in
    part2

pub returns-in-Err-product-clause-full : goal.returns-in-Err-product-clause-full
returns-in-Err-product-clause-full g t c =
    let t' = c.args.table.now in
    let aim = g.A.Aim.aims (aim_of t') in
    let s = c.args.self.now.seat in
    let k = known s in
    let goes = in_copies c.args.copies in
    let f = c.args.f.number in
    let h = c.args.g.number in
    let o = c.in-Err.open in
    let cut = c.cut_both-cut.result in
    let e = c.cut_both-cut.ensures in
    let s1 = c.cut_both-cut.new.seat in
    let part1 = same_part s s1 e.seat.1 in
    let low = step_low aim goes k (seat_sound s) f h o.0.number o.1.number cut.var cut.f_low.number cut.f_high.number cut.g_low.number cut.g_high.number c.in-Err.ensures.err e.f e.g e.var e.depth c.requires.aim (known s1) (seat_sound s1) part1 in
    let s2 = c.product.new.self.seat in
    let part2 = part_chain k (known s1) (known s2) part1 c.product.ensures.grows in
    let from = product_from aim goes k (seat_sound s) f h o.0.number o.1.number cut.var cut.f_low.number cut.f_high.number cut.g_low.number cut.g_high.number c.in-Err.ensures.err e.f e.g e.var e.depth c.requires.aim in
    within_part t' (known s2) goes c.in-Err-product.full cut.var false (joined And (meaning k f) (meaning k h)) (joined And (meaning (known s1) cut.f_low.number) (meaning (known s1) cut.g_low.number)) from low.is c.in-Err-product.ensures.full

pub keep-requires-after_bounds : goal.keep-requires-after_bounds
keep-requires-after_bounds g t c κs within =
    let t' = c.args.table.now in
    let aim = g.A.Aim.aims (aim_of t') in
    let s = c.args.self.now.seat in
    let k = known s in
    let goes = in_copies c.args.copies in
    let f = c.args.f.number in
    let h = c.args.g.number in
    let o = c.in-Err.open in
    let cut = c.cut_both-cut.result in
    let e = c.cut_both-cut.ensures in
    let s1 = c.cut_both-cut.new.seat in
    let part1 = same_part s s1 e.seat.1 in
    let low = step_low aim goes k (seat_sound s) f h o.0.number o.1.number cut.var cut.f_low.number cut.f_high.number cut.g_low.number cut.g_high.number c.in-Err.ensures.err e.f e.g e.var e.depth c.requires.aim (known s1) (seat_sound s1) part1 in
    let s2 = c.product.new.self.seat in
    let part2 = part_chain k (known s1) (known s2) part1 c.product.ensures.grows in
    let true' = decided aim goes k (seat_sound s) f h o.0.number o.1.number cut.var cut.f_low.number cut.f_high.number cut.g_low.number cut.g_high.number c.in-Err.ensures.err e.f e.g e.var e.depth c.requires.aim
    (known s2) (seat_sound s2) c.in-Ok-product.low.number (joined And (meaning (known s1) cut.f_low.number) (meaning (known s1) cut.g_low.number)) low.is c.in-Ok-product.ensures.ok
    (eqb-true c.in-Ok-product.low.number 1 (sym c.if-eq.ensures)) (sym c.has.ensures ∙ c.if-has.true) in
    answers_open aim goes k (seat_sound s) f h o.0.number o.1.number cut.var cut.f_low.number cut.f_high.number cut.g_low.number cut.g_high.number c.in-Err.ensures.err e.f e.g e.var e.depth c.requires.aim
    (known s2) (seat_sound s2) part2 c.in-Ok-product.low.number true'

pub returns-then-has-clause-grows : goal.returns-then-has-clause-grows
returns-then-has-clause-grows g t c =
    let s = c.args.self.now.seat in
    let k = known s in
    let s1 = c.cut_both-cut.new.seat in
    let part1 = same_part s s1 c.cut_both-cut.ensures.seat.1 in
    subst (λ r. IsPart k (known r)) (sym c.keep.ensures.seat) (part_chain k (known s1) (known c.product.new.self.seat) part1 c.product.ensures.grows)

pub returns-then-has-clause-ok : goal.returns-then-has-clause-ok
returns-then-has-clause-ok g t c =
    let t' = c.args.table.now in
    let aim = g.A.Aim.aims (aim_of t') in
    let s = c.args.self.now.seat in
    let k = known s in
    let goes = in_copies c.args.copies in
    let f = c.args.f.number in
    let h = c.args.g.number in
    let o = c.in-Err.open in
    let cut = c.cut_both-cut.result in
    let e = c.cut_both-cut.ensures in
    let s1 = c.cut_both-cut.new.seat in
    let part1 = same_part s s1 e.seat.1 in
    let low = step_low aim goes k (seat_sound s) f h o.0.number o.1.number cut.var cut.f_low.number cut.f_high.number cut.g_low.number cut.g_high.number c.in-Err.ensures.err e.f e.g e.var e.depth c.requires.aim (known s1) (seat_sound s1) part1 in
    let s2 = c.product.new.self.seat in
    let part2 = part_chain k (known s1) (known s2) part1 c.product.ensures.grows in
    let true' = decided aim goes k (seat_sound s) f h o.0.number o.1.number cut.var cut.f_low.number cut.f_high.number cut.g_low.number cut.g_high.number c.in-Err.ensures.err e.f e.g e.var e.depth c.requires.aim
    (known s2) (seat_sound s2) c.in-Ok-product.low.number (joined And (meaning (known s1) cut.f_low.number) (meaning (known s1) cut.g_low.number)) low.is c.in-Ok-product.ensures.ok
    (eqb-true c.in-Ok-product.low.number 1 (sym c.if-eq.ensures)) (sym c.has.ensures ∙ c.if-has.true) in
    subst (λ r. IsMeant (known r) c.in-Ok-product.low.number (all_forgotten goes (joined And (meaning k f) (meaning k h)))) (sym c.keep.ensures.seat) true'

pub product-requires-2 : goal.product-requires-2
product-requires-2 g t c κs within =
    let t' = c.args.table.now in
    let aim = g.A.Aim.aims (aim_of t') in
    let s = c.args.self.now.seat in
    let k = known s in
    let goes = in_copies c.args.copies in
    let f = c.args.f.number in
    let h = c.args.g.number in
    let o = c.in-Err.open in
    let cut = c.cut_both-cut.result in
    let e = c.cut_both-cut.ensures in
    let s1 = c.cut_both-cut.new.seat in
    let part1 = same_part s s1 e.seat.1 in
    let s2 = c.product.new.self.seat in
    let part2 = part_chain k (known s1) (known s2) part1 c.product.ensures.grows in
    let high = step_high aim goes k (seat_sound s) f h o.0.number o.1.number cut.var cut.f_low.number cut.f_high.number cut.g_low.number cut.g_high.number c.in-Err.ensures.err e.f e.g e.var e.depth c.requires.aim (known s2) (seat_sound s2) part2 in
    let near = high.near in
    (search rules, (within, (search rules, (search rules, (c.product.ensures.seat, (high.known, high.aimed))))))

pub returns-in-Err-product-2-clause-grows : goal.returns-in-Err-product-2-clause-grows
returns-in-Err-product-2-clause-grows g t c =
    let t' = c.args.table.now in
    let aim = g.A.Aim.aims (aim_of t') in
    let s = c.args.self.now.seat in
    let k = known s in
    let goes = in_copies c.args.copies in
    let f = c.args.f.number in
    let h = c.args.g.number in
    let o = c.in-Err.open in
    let cut = c.cut_both-cut.result in
    let e = c.cut_both-cut.ensures in
    let s1 = c.cut_both-cut.new.seat in
    let part1 = same_part s s1 e.seat.1 in
    let s2 = c.product.new.self.seat in
    let part2 = part_chain k (known s1) (known s2) part1 c.product.ensures.grows in
    let s3 = c.product-2.new.self.seat in
    let part3 = part_chain k (known s2) (known s3) part2 c.product-2.ensures.grows in
    part3

pub returns-in-Err-product-2-clause-full : goal.returns-in-Err-product-2-clause-full
returns-in-Err-product-2-clause-full g t c =
    let t' = c.args.table.now in
    let aim = g.A.Aim.aims (aim_of t') in
    let s = c.args.self.now.seat in
    let k = known s in
    let goes = in_copies c.args.copies in
    let f = c.args.f.number in
    let h = c.args.g.number in
    let o = c.in-Err.open in
    let cut = c.cut_both-cut.result in
    let e = c.cut_both-cut.ensures in
    let s1 = c.cut_both-cut.new.seat in
    let part1 = same_part s s1 e.seat.1 in
    let s2 = c.product.new.self.seat in
    let part2 = part_chain k (known s1) (known s2) part1 c.product.ensures.grows in
    let high = step_high aim goes k (seat_sound s) f h o.0.number o.1.number cut.var cut.f_low.number cut.f_high.number cut.g_low.number cut.g_high.number c.in-Err.ensures.err e.f e.g e.var e.depth c.requires.aim (known s2) (seat_sound s2) part2 in
    let s3 = c.product-2.new.self.seat in
    let part3 = part_chain k (known s2) (known s3) part2 c.product-2.ensures.grows in
    let from = product_from aim goes k (seat_sound s) f h o.0.number o.1.number cut.var cut.f_low.number cut.f_high.number cut.g_low.number cut.g_high.number c.in-Err.ensures.err e.f e.g e.var e.depth c.requires.aim in
    within_part t' (known s3) goes c.in-Err-product-2.full cut.var true (joined And (meaning k f) (meaning k h)) (joined And (meaning (known s2) cut.f_high.number) (meaning (known s2) cut.g_high.number)) from high.is c.in-Err-product-2.ensures.full

pub finish_product-requires-clause-pieces : goal.finish_product-requires-clause-pieces
finish_product-requires-clause-pieces g t c κs within =
    let t' = c.args.table.now in
    let aim = g.A.Aim.aims (aim_of t') in
    let s = c.args.self.now.seat in
    let k = known s in
    let goes = in_copies c.args.copies in
    let f = c.args.f.number in
    let h = c.args.g.number in
    let o = c.in-Err.open in
    let cut = c.cut_both-cut.result in
    let e = c.cut_both-cut.ensures in
    let s1 = c.cut_both-cut.new.seat in
    let part1 = same_part s s1 e.seat.1 in
    let low = step_low aim goes k (seat_sound s) f h o.0.number o.1.number cut.var cut.f_low.number cut.f_high.number cut.g_low.number cut.g_high.number c.in-Err.ensures.err e.f e.g e.var e.depth c.requires.aim (known s1) (seat_sound s1) part1 in
    let s2 = c.product.new.self.seat in
    let part2 = part_chain k (known s1) (known s2) part1 c.product.ensures.grows in
    let high = step_high aim goes k (seat_sound s) f h o.0.number o.1.number cut.var cut.f_low.number cut.f_high.number cut.g_low.number cut.g_high.number c.in-Err.ensures.err e.f e.g e.var e.depth c.requires.aim (known s2) (seat_sound s2) part2 in
    let s3 = c.product-2.new.self.seat in
    let part3 = part_chain k (known s2) (known s3) part2 c.product-2.ensures.grows in
    pieces aim goes k (seat_sound s) f h o.0.number o.1.number cut.var cut.f_low.number cut.f_high.number cut.g_low.number cut.g_high.number c.in-Err.ensures.err e.f e.g e.var e.depth c.requires.aim
    (known s2) (known s3) (seat_sound s2) (seat_sound s3) c.product-2.ensures.grows part3 c.in-Ok-product.low.number c.in-Ok-product-2.high.number
    (joined And (meaning (known s1) cut.f_low.number) (meaning (known s1) cut.g_low.number)) (joined And (meaning (known s2) cut.f_high.number) (meaning (known s2) cut.g_high.number)) low.is high.is c.in-Ok-product.ensures.ok c.in-Ok-product-2.ensures.ok

pub finish_product-requires-clause-aim : goal.finish_product-requires-clause-aim
finish_product-requires-clause-aim g t c κs within =
    let t' = c.args.table.now in
    let aim = g.A.Aim.aims (aim_of t') in
    let s = c.args.self.now.seat in
    let k = known s in
    let goes = in_copies c.args.copies in
    let f = c.args.f.number in
    let h = c.args.g.number in
    let o = c.in-Err.open in
    let cut = c.cut_both-cut.result in
    let e = c.cut_both-cut.ensures in
    let s1 = c.cut_both-cut.new.seat in
    let part1 = same_part s s1 e.seat.1 in
    let s2 = c.product.new.self.seat in
    let part2 = part_chain k (known s1) (known s2) part1 c.product.ensures.grows in
    let s3 = c.product-2.new.self.seat in
    let part3 = part_chain k (known s2) (known s3) part2 c.product-2.ensures.grows in
    still_aimed aim goes k (seat_sound s) f h o.0.number o.1.number cut.var cut.f_low.number cut.f_high.number cut.g_low.number cut.g_high.number c.in-Err.ensures.err e.f e.g e.var e.depth c.requires.aim (known s3) (seat_sound s3) part3

pub returns-clause-grows : goal.returns-clause-grows
returns-clause-grows g t c =
    let t' = c.args.table.now in
    let aim = g.A.Aim.aims (aim_of t') in
    let s = c.args.self.now.seat in
    let k = known s in
    let goes = in_copies c.args.copies in
    let f = c.args.f.number in
    let h = c.args.g.number in
    let o = c.in-Err.open in
    let cut = c.cut_both-cut.result in
    let e = c.cut_both-cut.ensures in
    let s1 = c.cut_both-cut.new.seat in
    let part1 = same_part s s1 e.seat.1 in
    let s2 = c.product.new.self.seat in
    let part2 = part_chain k (known s1) (known s2) part1 c.product.ensures.grows in
    let s3 = c.product-2.new.self.seat in
    let part3 = part_chain k (known s2) (known s3) part2 c.product-2.ensures.grows in
    part_chain k (known s3) (known c.finish_product.new.self.seat) part3 c.finish_product.ensures.grows

pub returns-clause-ok : goal.returns-clause-ok
returns-clause-ok g t c =
    let t' = c.args.table.now in
    let aim = g.A.Aim.aims (aim_of t') in
    let s = c.args.self.now.seat in
    let k = known s in
    let goes = in_copies c.args.copies in
    let f = c.args.f.number in
    let h = c.args.g.number in
    let o = c.in-Err.open in
    let cut = c.cut_both-cut.result in
    let e = c.cut_both-cut.ensures in
    let s1 = c.cut_both-cut.new.seat in
    let part1 = same_part s s1 e.seat.1 in
    let s2 = c.product.new.self.seat in
    let part2 = part_chain k (known s1) (known s2) part1 c.product.ensures.grows in
    let s3 = c.product-2.new.self.seat in
    let part3 = part_chain k (known s2) (known s3) part2 c.product-2.ensures.grows in
    let whole = still_whole aim goes k (seat_sound s) f h o.0.number o.1.number cut.var cut.f_low.number cut.f_high.number cut.g_low.number cut.g_high.number c.in-Err.ensures.err e.f e.g e.var e.depth c.requires.aim (known s3) (seat_sound s3) part3 in
    IfOk-weaker c.finish_product.result _ _ (λ n is. (is.0, is.1 ∙ ap (all_forgotten goes) whole)) c.finish_product.ensures.ok

pub returns-clause-full : goal.returns-clause-full
returns-clause-full g t c =
    let t' = c.args.table.now in
    let aim = g.A.Aim.aims (aim_of t') in
    let s = c.args.self.now.seat in
    let k = known s in
    let goes = in_copies c.args.copies in
    let f = c.args.f.number in
    let h = c.args.g.number in
    let o = c.in-Err.open in
    let cut = c.cut_both-cut.result in
    let e = c.cut_both-cut.ensures in
    let s1 = c.cut_both-cut.new.seat in
    let part1 = same_part s s1 e.seat.1 in
    let s2 = c.product.new.self.seat in
    let part2 = part_chain k (known s1) (known s2) part1 c.product.ensures.grows in
    let s3 = c.product-2.new.self.seat in
    let part3 = part_chain k (known s2) (known s3) part2 c.product-2.ensures.grows in
    let whole = still_whole aim goes k (seat_sound s) f h o.0.number o.1.number cut.var cut.f_low.number cut.f_high.number cut.g_low.number cut.g_high.number c.in-Err.ensures.err e.f e.g e.var e.depth c.requires.aim (known s3) (seat_sound s3) part3 in
    IfErr-weaker c.finish_product.result _ _ (λ e' lacks. within_whole t' (known c.finish_product.new.self.seat) goes e' (joined And (meaning k f) (meaning k h)) (lacks_same t' (known c.finish_product.new.self.seat) e' _ _ (ap (all_forgotten goes) whole) lacks)) c.finish_product.ensures.full
