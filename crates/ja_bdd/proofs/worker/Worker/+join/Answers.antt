use Rattle.std.proofs.Common.{rules, ◌∙◌, true, false}
use Rattle.std.specs.Prelude.{None}
use Rattle.std.proofs.lemmas.Result.{IfOk-weaker, IfErr-weaker}
use Rattle.ja_node_table.specs.Seats.{aim_of, known}
use Rattle.ja_bdd.specs.Functions.{chosen}
use Rattle.ja_bdd.specs.Meaning.{meaning}
use Rattle.ja_bdd.specs.Inner.{joined}
use Rattle.ja_bdd.proofs.Sound.{seat_sound}
use Rattle.ja_bdd.proofs.Room.{lacks_same, lacks_whole}
use Rattle.ja_bdd.proofs.Joining.{down_low, down_high, whole_cut, about_open, both_made}
use Rattle.ja_bdd.proofs.Learning.{seat_right, same_part, part_chain}
use Rattle.ja_bdd.proofs.worker.Worker.+join.Goals as goal

pub invariant_of-self : goal.invariant_of-self
invariant_of-self g t c =
    let t' = c.args.table.now in
    let aim = g.A.Aim.aims (aim_of t') in
    let s = c.args.self.now.seat in
    let k = known s in
    let j = c.args.joint in
    let f = c.args.f.number in
    let h = c.args.g.number in
    let o = c.in-Err.open in
    let cut = c.cut_both-cut.result in
    let e = c.cut_both-cut.ensures in
    let s1 = c.cut_both-cut.new.seat in
    let part1 = same_part s s1 e.seat.1 in
    record { counted = c.args.self.now.counted; early = c.args.self.now.early; right = seat_right s s1 None c.args.self.now.cache.items part1 c.args.self.now.right }

pub join-requires : goal.join-requires
join-requires g t c κs within =
    let t' = c.args.table.now in
    let aim = g.A.Aim.aims (aim_of t') in
    let s = c.args.self.now.seat in
    let k = known s in
    let j = c.args.joint in
    let f = c.args.f.number in
    let h = c.args.g.number in
    let o = c.in-Err.open in
    let cut = c.cut_both-cut.result in
    let e = c.cut_both-cut.ensures in
    let s1 = c.cut_both-cut.new.seat in
    let part1 = same_part s s1 e.seat.1 in
    let low = down_low aim (g.A.Aim.falls (aim_of t')) k (seat_sound s) j f h o.0.number o.1.number cut.var cut.f_low.number cut.f_high.number cut.g_low.number cut.g_high.number c.in-Err.ensures.err e.f e.g e.var e.depth c.requires.aim (known s1) (seat_sound s1) part1 in
    let near = low.near in
    (search rules, (within, (search rules, (search rules, (e.seat.0, (low.known, low.aimed))))))

pub returns-in-Err-join-clause-grows : goal.returns-in-Err-join-clause-grows
returns-in-Err-join-clause-grows g t c =
    let t' = c.args.table.now in
    let aim = g.A.Aim.aims (aim_of t') in
    let s = c.args.self.now.seat in
    let k = known s in
    let j = c.args.joint in
    let f = c.args.f.number in
    let h = c.args.g.number in
    let o = c.in-Err.open in
    let cut = c.cut_both-cut.result in
    let e = c.cut_both-cut.ensures in
    let s1 = c.cut_both-cut.new.seat in
    let part1 = same_part s s1 e.seat.1 in
    let s2 = c.join.new.self.seat in
    let part2 = part_chain k (known s1) (known s2) part1 c.join.ensures.grows in
    part2

pub returns-in-Err-join-clause-full : goal.returns-in-Err-join-clause-full
returns-in-Err-join-clause-full g t c =
    let t' = c.args.table.now in
    let aim = g.A.Aim.aims (aim_of t') in
    let s = c.args.self.now.seat in
    let k = known s in
    let j = c.args.joint in
    let f = c.args.f.number in
    let h = c.args.g.number in
    let o = c.in-Err.open in
    let cut = c.cut_both-cut.result in
    let e = c.cut_both-cut.ensures in
    let s1 = c.cut_both-cut.new.seat in
    let part1 = same_part s s1 e.seat.1 in
    let low = down_low aim (g.A.Aim.falls (aim_of t')) k (seat_sound s) j f h o.0.number o.1.number cut.var cut.f_low.number cut.f_high.number cut.g_low.number cut.g_high.number c.in-Err.ensures.err e.f e.g e.var e.depth c.requires.aim (known s1) (seat_sound s1) part1 in
    let s2 = c.join.new.self.seat in
    let part2 = part_chain k (known s1) (known s2) part1 c.join.ensures.grows in
    let whole = whole_cut aim (g.A.Aim.falls (aim_of t')) k (seat_sound s) j f h o.0.number o.1.number cut.var cut.f_low.number cut.f_high.number cut.g_low.number cut.g_high.number c.in-Err.ensures.err e.f e.g e.var e.depth c.requires.aim in
    lacks_whole t' (known s2) c.in-Err-join.full (seat_sound s2) cut.var false (joined j (meaning k f) (meaning k h)) (joined j (meaning (known s1) cut.f_low.number) (meaning (known s1) cut.g_low.number)) whole.from low.is c.in-Err-join.ensures.full

pub join-requires-2 : goal.join-requires-2
join-requires-2 g t c κs within =
    let t' = c.args.table.now in
    let aim = g.A.Aim.aims (aim_of t') in
    let s = c.args.self.now.seat in
    let k = known s in
    let j = c.args.joint in
    let f = c.args.f.number in
    let h = c.args.g.number in
    let o = c.in-Err.open in
    let cut = c.cut_both-cut.result in
    let e = c.cut_both-cut.ensures in
    let s1 = c.cut_both-cut.new.seat in
    let part1 = same_part s s1 e.seat.1 in
    let s2 = c.join.new.self.seat in
    let part2 = part_chain k (known s1) (known s2) part1 c.join.ensures.grows in
    let high = down_high aim (g.A.Aim.falls (aim_of t')) k (seat_sound s) j f h o.0.number o.1.number cut.var cut.f_low.number cut.f_high.number cut.g_low.number cut.g_high.number c.in-Err.ensures.err e.f e.g e.var e.depth c.requires.aim (known s2) (seat_sound s2) part2 in
    let near = high.near in
    (search rules, (within, (search rules, (search rules, (c.join.ensures.seat, (high.known, high.aimed))))))

pub returns-in-Err-join-2-clause-grows : goal.returns-in-Err-join-2-clause-grows
returns-in-Err-join-2-clause-grows g t c =
    let t' = c.args.table.now in
    let aim = g.A.Aim.aims (aim_of t') in
    let s = c.args.self.now.seat in
    let k = known s in
    let j = c.args.joint in
    let f = c.args.f.number in
    let h = c.args.g.number in
    let o = c.in-Err.open in
    let cut = c.cut_both-cut.result in
    let e = c.cut_both-cut.ensures in
    let s1 = c.cut_both-cut.new.seat in
    let part1 = same_part s s1 e.seat.1 in
    let s2 = c.join.new.self.seat in
    let part2 = part_chain k (known s1) (known s2) part1 c.join.ensures.grows in
    let s3 = c.join-2.new.self.seat in
    let part3 = part_chain k (known s2) (known s3) part2 c.join-2.ensures.grows in
    part3

pub returns-in-Err-join-2-clause-full : goal.returns-in-Err-join-2-clause-full
returns-in-Err-join-2-clause-full g t c =
    let t' = c.args.table.now in
    let aim = g.A.Aim.aims (aim_of t') in
    let s = c.args.self.now.seat in
    let k = known s in
    let j = c.args.joint in
    let f = c.args.f.number in
    let h = c.args.g.number in
    let o = c.in-Err.open in
    let cut = c.cut_both-cut.result in
    let e = c.cut_both-cut.ensures in
    let s1 = c.cut_both-cut.new.seat in
    let part1 = same_part s s1 e.seat.1 in
    let s2 = c.join.new.self.seat in
    let part2 = part_chain k (known s1) (known s2) part1 c.join.ensures.grows in
    let high = down_high aim (g.A.Aim.falls (aim_of t')) k (seat_sound s) j f h o.0.number o.1.number cut.var cut.f_low.number cut.f_high.number cut.g_low.number cut.g_high.number c.in-Err.ensures.err e.f e.g e.var e.depth c.requires.aim (known s2) (seat_sound s2) part2 in
    let s3 = c.join-2.new.self.seat in
    let part3 = part_chain k (known s2) (known s3) part2 c.join-2.ensures.grows in
    let whole = whole_cut aim (g.A.Aim.falls (aim_of t')) k (seat_sound s) j f h o.0.number o.1.number cut.var cut.f_low.number cut.f_high.number cut.g_low.number cut.g_high.number c.in-Err.ensures.err e.f e.g e.var e.depth c.requires.aim in
    lacks_whole t' (known s3) c.in-Err-join-2.full (seat_sound s3) cut.var true (joined j (meaning k f) (meaning k h)) (joined j (meaning (known s2) cut.f_high.number) (meaning (known s2) cut.g_high.number)) whole.from high.is c.in-Err-join-2.ensures.full

pub finish-requires-clause-known : goal.finish-requires-clause-known
finish-requires-clause-known g t c κs within =
    let t' = c.args.table.now in
    let aim = g.A.Aim.aims (aim_of t') in
    let s = c.args.self.now.seat in
    let k = known s in
    let j = c.args.joint in
    let f = c.args.f.number in
    let h = c.args.g.number in
    let o = c.in-Err.open in
    let cut = c.cut_both-cut.result in
    let e = c.cut_both-cut.ensures in
    let s1 = c.cut_both-cut.new.seat in
    let part1 = same_part s s1 e.seat.1 in
    let low = down_low aim (g.A.Aim.falls (aim_of t')) k (seat_sound s) j f h o.0.number o.1.number cut.var cut.f_low.number cut.f_high.number cut.g_low.number cut.g_high.number c.in-Err.ensures.err e.f e.g e.var e.depth c.requires.aim (known s1) (seat_sound s1) part1 in
    let s2 = c.join.new.self.seat in
    let part2 = part_chain k (known s1) (known s2) part1 c.join.ensures.grows in
    let high = down_high aim (g.A.Aim.falls (aim_of t')) k (seat_sound s) j f h o.0.number o.1.number cut.var cut.f_low.number cut.f_high.number cut.g_low.number cut.g_high.number c.in-Err.ensures.err e.f e.g e.var e.depth c.requires.aim (known s2) (seat_sound s2) part2 in
    let s3 = c.join-2.new.self.seat in
    let part3 = part_chain k (known s2) (known s3) part2 c.join-2.ensures.grows in
    let whole = whole_cut aim (g.A.Aim.falls (aim_of t')) k (seat_sound s) j f h o.0.number o.1.number cut.var cut.f_low.number cut.f_high.number cut.g_low.number cut.g_high.number c.in-Err.ensures.err e.f e.g e.var e.depth c.requires.aim in
    let made = both_made aim (known s2) (known s3) (seat_sound s2) (seat_sound s3) c.join-2.ensures.grows cut.var c.in-Ok-join.low.number c.in-Ok-join-2.high.number (joined j (meaning k f) (meaning k h))
    (joined j (meaning (known s1) cut.f_low.number) (meaning (known s1) cut.g_low.number)) (joined j (meaning (known s2) cut.f_high.number) (meaning (known s2) cut.g_high.number))
    whole.from c.requires.aim low.is high.is c.in-Ok-join.ensures.ok c.in-Ok-join-2.ensures.ok in
    made.known

pub finish-requires-clause-later : goal.finish-requires-clause-later
finish-requires-clause-later g t c κs within =
    let t' = c.args.table.now in
    let aim = g.A.Aim.aims (aim_of t') in
    let s = c.args.self.now.seat in
    let k = known s in
    let j = c.args.joint in
    let f = c.args.f.number in
    let h = c.args.g.number in
    let o = c.in-Err.open in
    let cut = c.cut_both-cut.result in
    let e = c.cut_both-cut.ensures in
    let s1 = c.cut_both-cut.new.seat in
    let part1 = same_part s s1 e.seat.1 in
    let low = down_low aim (g.A.Aim.falls (aim_of t')) k (seat_sound s) j f h o.0.number o.1.number cut.var cut.f_low.number cut.f_high.number cut.g_low.number cut.g_high.number c.in-Err.ensures.err e.f e.g e.var e.depth c.requires.aim (known s1) (seat_sound s1) part1 in
    let s2 = c.join.new.self.seat in
    let part2 = part_chain k (known s1) (known s2) part1 c.join.ensures.grows in
    let high = down_high aim (g.A.Aim.falls (aim_of t')) k (seat_sound s) j f h o.0.number o.1.number cut.var cut.f_low.number cut.f_high.number cut.g_low.number cut.g_high.number c.in-Err.ensures.err e.f e.g e.var e.depth c.requires.aim (known s2) (seat_sound s2) part2 in
    let s3 = c.join-2.new.self.seat in
    let part3 = part_chain k (known s2) (known s3) part2 c.join-2.ensures.grows in
    let whole = whole_cut aim (g.A.Aim.falls (aim_of t')) k (seat_sound s) j f h o.0.number o.1.number cut.var cut.f_low.number cut.f_high.number cut.g_low.number cut.g_high.number c.in-Err.ensures.err e.f e.g e.var e.depth c.requires.aim in
    let made = both_made aim (known s2) (known s3) (seat_sound s2) (seat_sound s3) c.join-2.ensures.grows cut.var c.in-Ok-join.low.number c.in-Ok-join-2.high.number (joined j (meaning k f) (meaning k h))
    (joined j (meaning (known s1) cut.f_low.number) (meaning (known s1) cut.g_low.number)) (joined j (meaning (known s2) cut.f_high.number) (meaning (known s2) cut.g_high.number))
    whole.from c.requires.aim low.is high.is c.in-Ok-join.ensures.ok c.in-Ok-join-2.ensures.ok in
    made.later

pub finish-requires-clause-aim : goal.finish-requires-clause-aim
finish-requires-clause-aim g t c κs within =
    let t' = c.args.table.now in
    let aim = g.A.Aim.aims (aim_of t') in
    let s = c.args.self.now.seat in
    let k = known s in
    let j = c.args.joint in
    let f = c.args.f.number in
    let h = c.args.g.number in
    let o = c.in-Err.open in
    let cut = c.cut_both-cut.result in
    let e = c.cut_both-cut.ensures in
    let s1 = c.cut_both-cut.new.seat in
    let part1 = same_part s s1 e.seat.1 in
    let low = down_low aim (g.A.Aim.falls (aim_of t')) k (seat_sound s) j f h o.0.number o.1.number cut.var cut.f_low.number cut.f_high.number cut.g_low.number cut.g_high.number c.in-Err.ensures.err e.f e.g e.var e.depth c.requires.aim (known s1) (seat_sound s1) part1 in
    let s2 = c.join.new.self.seat in
    let part2 = part_chain k (known s1) (known s2) part1 c.join.ensures.grows in
    let high = down_high aim (g.A.Aim.falls (aim_of t')) k (seat_sound s) j f h o.0.number o.1.number cut.var cut.f_low.number cut.f_high.number cut.g_low.number cut.g_high.number c.in-Err.ensures.err e.f e.g e.var e.depth c.requires.aim (known s2) (seat_sound s2) part2 in
    let s3 = c.join-2.new.self.seat in
    let part3 = part_chain k (known s2) (known s3) part2 c.join-2.ensures.grows in
    let whole = whole_cut aim (g.A.Aim.falls (aim_of t')) k (seat_sound s) j f h o.0.number o.1.number cut.var cut.f_low.number cut.f_high.number cut.g_low.number cut.g_high.number c.in-Err.ensures.err e.f e.g e.var e.depth c.requires.aim in
    let made = both_made aim (known s2) (known s3) (seat_sound s2) (seat_sound s3) c.join-2.ensures.grows cut.var c.in-Ok-join.low.number c.in-Ok-join-2.high.number (joined j (meaning k f) (meaning k h))
    (joined j (meaning (known s1) cut.f_low.number) (meaning (known s1) cut.g_low.number)) (joined j (meaning (known s2) cut.f_high.number) (meaning (known s2) cut.g_high.number))
    whole.from c.requires.aim low.is high.is c.in-Ok-join.ensures.ok c.in-Ok-join-2.ensures.ok in
    made.aimed

pub finish-requires-clause-about : goal.finish-requires-clause-about
finish-requires-clause-about g t c κs within =
    let t' = c.args.table.now in
    let aim = g.A.Aim.aims (aim_of t') in
    let s = c.args.self.now.seat in
    let k = known s in
    let j = c.args.joint in
    let f = c.args.f.number in
    let h = c.args.g.number in
    let o = c.in-Err.open in
    let cut = c.cut_both-cut.result in
    let e = c.cut_both-cut.ensures in
    let s1 = c.cut_both-cut.new.seat in
    let part1 = same_part s s1 e.seat.1 in
    let low = down_low aim (g.A.Aim.falls (aim_of t')) k (seat_sound s) j f h o.0.number o.1.number cut.var cut.f_low.number cut.f_high.number cut.g_low.number cut.g_high.number c.in-Err.ensures.err e.f e.g e.var e.depth c.requires.aim (known s1) (seat_sound s1) part1 in
    let s2 = c.join.new.self.seat in
    let part2 = part_chain k (known s1) (known s2) part1 c.join.ensures.grows in
    let high = down_high aim (g.A.Aim.falls (aim_of t')) k (seat_sound s) j f h o.0.number o.1.number cut.var cut.f_low.number cut.f_high.number cut.g_low.number cut.g_high.number c.in-Err.ensures.err e.f e.g e.var e.depth c.requires.aim (known s2) (seat_sound s2) part2 in
    let s3 = c.join-2.new.self.seat in
    let part3 = part_chain k (known s2) (known s3) part2 c.join-2.ensures.grows in
    let whole = whole_cut aim (g.A.Aim.falls (aim_of t')) k (seat_sound s) j f h o.0.number o.1.number cut.var cut.f_low.number cut.f_high.number cut.g_low.number cut.g_high.number c.in-Err.ensures.err e.f e.g e.var e.depth c.requires.aim in
    let made = both_made aim (known s2) (known s3) (seat_sound s2) (seat_sound s3) c.join-2.ensures.grows cut.var c.in-Ok-join.low.number c.in-Ok-join-2.high.number (joined j (meaning k f) (meaning k h))
    (joined j (meaning (known s1) cut.f_low.number) (meaning (known s1) cut.g_low.number)) (joined j (meaning (known s2) cut.f_high.number) (meaning (known s2) cut.g_high.number))
    whole.from c.requires.aim low.is high.is c.in-Ok-join.ensures.ok c.in-Ok-join-2.ensures.ok in
    about_open aim (g.A.Aim.falls (aim_of t')) k (seat_sound s) j f h o.0.number o.1.number cut.var cut.f_low.number cut.f_high.number cut.g_low.number cut.g_high.number c.in-Err.ensures.err e.f e.g e.var e.depth c.requires.aim (known s3) (seat_sound s3) part3 (chosen cut.var (meaning (known s3) c.in-Ok-join.low.number) (meaning (known s3) c.in-Ok-join-2.high.number)) made.is

pub returns-clause-grows : goal.returns-clause-grows
returns-clause-grows g t c =
    let t' = c.args.table.now in
    let aim = g.A.Aim.aims (aim_of t') in
    let s = c.args.self.now.seat in
    let k = known s in
    let j = c.args.joint in
    let f = c.args.f.number in
    let h = c.args.g.number in
    let o = c.in-Err.open in
    let cut = c.cut_both-cut.result in
    let e = c.cut_both-cut.ensures in
    let s1 = c.cut_both-cut.new.seat in
    let part1 = same_part s s1 e.seat.1 in
    let s2 = c.join.new.self.seat in
    let part2 = part_chain k (known s1) (known s2) part1 c.join.ensures.grows in
    let s3 = c.join-2.new.self.seat in
    let part3 = part_chain k (known s2) (known s3) part2 c.join-2.ensures.grows in
    part_chain k (known s3) (known c.finish.new.self.seat) part3 c.finish.ensures.grows

pub returns-clause-ok : goal.returns-clause-ok
returns-clause-ok g t c =
    let t' = c.args.table.now in
    let aim = g.A.Aim.aims (aim_of t') in
    let s = c.args.self.now.seat in
    let k = known s in
    let j = c.args.joint in
    let f = c.args.f.number in
    let h = c.args.g.number in
    let o = c.in-Err.open in
    let cut = c.cut_both-cut.result in
    let e = c.cut_both-cut.ensures in
    let s1 = c.cut_both-cut.new.seat in
    let part1 = same_part s s1 e.seat.1 in
    let low = down_low aim (g.A.Aim.falls (aim_of t')) k (seat_sound s) j f h o.0.number o.1.number cut.var cut.f_low.number cut.f_high.number cut.g_low.number cut.g_high.number c.in-Err.ensures.err e.f e.g e.var e.depth c.requires.aim (known s1) (seat_sound s1) part1 in
    let s2 = c.join.new.self.seat in
    let part2 = part_chain k (known s1) (known s2) part1 c.join.ensures.grows in
    let high = down_high aim (g.A.Aim.falls (aim_of t')) k (seat_sound s) j f h o.0.number o.1.number cut.var cut.f_low.number cut.f_high.number cut.g_low.number cut.g_high.number c.in-Err.ensures.err e.f e.g e.var e.depth c.requires.aim (known s2) (seat_sound s2) part2 in
    let s3 = c.join-2.new.self.seat in
    let part3 = part_chain k (known s2) (known s3) part2 c.join-2.ensures.grows in
    let whole = whole_cut aim (g.A.Aim.falls (aim_of t')) k (seat_sound s) j f h o.0.number o.1.number cut.var cut.f_low.number cut.f_high.number cut.g_low.number cut.g_high.number c.in-Err.ensures.err e.f e.g e.var e.depth c.requires.aim in
    let made = both_made aim (known s2) (known s3) (seat_sound s2) (seat_sound s3) c.join-2.ensures.grows cut.var c.in-Ok-join.low.number c.in-Ok-join-2.high.number (joined j (meaning k f) (meaning k h))
    (joined j (meaning (known s1) cut.f_low.number) (meaning (known s1) cut.g_low.number)) (joined j (meaning (known s2) cut.f_high.number) (meaning (known s2) cut.g_high.number))
    whole.from c.requires.aim low.is high.is c.in-Ok-join.ensures.ok c.in-Ok-join-2.ensures.ok in
    IfOk-weaker c.finish.result _ _ (λ n is. (is.0, is.1 ∙ made.is)) c.finish.ensures.ok

pub returns-clause-full : goal.returns-clause-full
returns-clause-full g t c =
    let t' = c.args.table.now in
    let aim = g.A.Aim.aims (aim_of t') in
    let s = c.args.self.now.seat in
    let k = known s in
    let j = c.args.joint in
    let f = c.args.f.number in
    let h = c.args.g.number in
    let o = c.in-Err.open in
    let cut = c.cut_both-cut.result in
    let e = c.cut_both-cut.ensures in
    let s1 = c.cut_both-cut.new.seat in
    let part1 = same_part s s1 e.seat.1 in
    let low = down_low aim (g.A.Aim.falls (aim_of t')) k (seat_sound s) j f h o.0.number o.1.number cut.var cut.f_low.number cut.f_high.number cut.g_low.number cut.g_high.number c.in-Err.ensures.err e.f e.g e.var e.depth c.requires.aim (known s1) (seat_sound s1) part1 in
    let s2 = c.join.new.self.seat in
    let part2 = part_chain k (known s1) (known s2) part1 c.join.ensures.grows in
    let high = down_high aim (g.A.Aim.falls (aim_of t')) k (seat_sound s) j f h o.0.number o.1.number cut.var cut.f_low.number cut.f_high.number cut.g_low.number cut.g_high.number c.in-Err.ensures.err e.f e.g e.var e.depth c.requires.aim (known s2) (seat_sound s2) part2 in
    let s3 = c.join-2.new.self.seat in
    let part3 = part_chain k (known s2) (known s3) part2 c.join-2.ensures.grows in
    let whole = whole_cut aim (g.A.Aim.falls (aim_of t')) k (seat_sound s) j f h o.0.number o.1.number cut.var cut.f_low.number cut.f_high.number cut.g_low.number cut.g_high.number c.in-Err.ensures.err e.f e.g e.var e.depth c.requires.aim in
    let made = both_made aim (known s2) (known s3) (seat_sound s2) (seat_sound s3) c.join-2.ensures.grows cut.var c.in-Ok-join.low.number c.in-Ok-join-2.high.number (joined j (meaning k f) (meaning k h))
    (joined j (meaning (known s1) cut.f_low.number) (meaning (known s1) cut.g_low.number)) (joined j (meaning (known s2) cut.f_high.number) (meaning (known s2) cut.g_high.number))
    whole.from c.requires.aim low.is high.is c.in-Ok-join.ensures.ok c.in-Ok-join-2.ensures.ok in
    IfErr-weaker c.finish.result _ _ (λ e' lacks. lacks_same t' (known c.finish.new.self.seat) e' _ _ made.is lacks) c.finish.ensures.full
