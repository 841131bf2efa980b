use Rattle.std.proofs.Common.{rules, ◌≡◌, ◌<◌, sym, ◌∙◌, arith, true, false}
use Rattle.std.proofs.lemmas.Result.{IfOk-weaker, IfErr-weaker}
use Rattle.ja_node_table.specs.Seats.{aim_of, known}
use Rattle.ja_bdd.specs.Meaning.{meaning}
use Rattle.ja_bdd.specs.Workers.{seen}
use Rattle.ja_bdd.proofs.Sound.{seat_sound}
use Rattle.ja_bdd.proofs.Parts.{parts_halved}
use Rattle.ja_bdd.proofs.Forgetting.{own_depth}
use Rattle.ja_bdd.proofs.Room.{lacks_same, lacks_whole}
use Rattle.ja_bdd.proofs.Renewing.{on_both}
use Rattle.ja_grow.specs.Inner.{nodes_of}
use Rattle.ja_grow.proofs.Growing.{whole, below_low, below_high, meant_kept, made_of, copies_kept, copies_same, copies_more, keeps_chain, constant_meant}
use Rattle.ja_grow.proofs.growth.Growth.+copy.Goals as goal

pub returns-then-n-lt2-clause-ok : goal.returns-then-n-lt2-clause-ok
returns-then-n-lt2-clause-ok g t c =
    constant_meant (known c.args.seat.now) (seen c.args.self.now.worker) (seat_sound c.args.seat.now) (seat_sound c.args.self.now.worker.seat) c.args.n.number c.if-n-lt2.true

pub returns-in-Some-clause-ok : goal.returns-in-Some-clause-ok
returns-in-Some-clause-ok g t c =
    c.requires.copies c.args.n.number c.in-Some.copy c.in-Some.ensures.1 c.in-Some.ensures.0 c.requires.known

pub copy-requires : goal.copy-requires
copy-requires g t c κs within =
    let t' = c.args.table.now in
    let aim = g.A.Aim.aims (aim_of t') in
    let falls = g.A.Aim.falls (aim_of t') in
    let s = c.args.seat.now in
    let k = known s in
    let sound = seat_sound s in
    let n = c.args.n.number in
    let p = c.parts-parts.result in
    let e = c.parts-parts.ensures in
    let s1 = c.parts-parts.new.seat in
    let same1 = e.seat.1 in
    let big : 1 < n = (let not = c.if-n-lt2.false in omega arith) in
    let half = parts_halved k sound n p.var p.lo.number p.hi.number big c.requires.known e.parts.0 e.parts.1 e.parts.2 in
    let deep = own_depth k n p.var big e.parts.0 in
    let low = below_low aim falls k sound n p.var p.lo.number p.hi.number c.requires.known half p.small deep c.requires.aim (known s1) same1 in
    let near = low.near in
    let right = copies_same k (known s1) (seen c.args.self.now.worker) (nodes_of c.args.self.now.copies) same1 c.requires.copies in
    (search rules, (within, (search rules, (search rules, (e.seat.0, (c.requires.worker, (low.known, (low.aimed, right))))))))

pub returns-in-Err-clause-full : goal.returns-in-Err-clause-full
returns-in-Err-clause-full g t c =
    let t' = c.args.table.now in
    let aim = g.A.Aim.aims (aim_of t') in
    let falls = g.A.Aim.falls (aim_of t') in
    let s = c.args.seat.now in
    let k = known s in
    let sound = seat_sound s in
    let n = c.args.n.number in
    let p = c.parts-parts.result in
    let e = c.parts-parts.ensures in
    let s1 = c.parts-parts.new.seat in
    let same1 = e.seat.1 in
    let big : 1 < n = (let not = c.if-n-lt2.false in omega arith) in
    let half = parts_halved k sound n p.var p.lo.number p.hi.number big c.requires.known e.parts.0 e.parts.1 e.parts.2 in
    let deep = own_depth k n p.var big e.parts.0 in
    let low = below_low aim falls k sound n p.var p.lo.number p.hi.number c.requires.known half p.small deep c.requires.aim (known s1) same1 in
    let cut = whole aim falls k sound n p.var p.lo.number p.hi.number c.requires.known half p.small deep c.requires.aim in
    let w1 = c.copy.new.self.worker in
    lacks_whole t' (seen w1) c.in-Err.full (seat_sound w1.seat) p.var false (meaning k n) (meaning (known s1) p.lo.number) cut.from low.is c.in-Err.ensures.full

pub copy-requires-2 : goal.copy-requires-2
copy-requires-2 g t c κs within =
    let t' = c.args.table.now in
    let aim = g.A.Aim.aims (aim_of t') in
    let falls = g.A.Aim.falls (aim_of t') in
    let s = c.args.seat.now in
    let k = known s in
    let sound = seat_sound s in
    let n = c.args.n.number in
    let p = c.parts-parts.result in
    let e = c.parts-parts.ensures in
    let s1 = c.parts-parts.new.seat in
    let same1 = e.seat.1 in
    let big : 1 < n = (let not = c.if-n-lt2.false in omega arith) in
    let half = parts_halved k sound n p.var p.lo.number p.hi.number big c.requires.known e.parts.0 e.parts.1 e.parts.2 in
    let deep = own_depth k n p.var big e.parts.0 in
    let s2 = c.copy.new.seat in
    let same2 : known s2 ≡ k = c.copy.ensures.seat.1 ∙ same1 in
    let high = below_high aim falls k sound n p.var p.lo.number p.hi.number c.requires.known half p.small deep c.requires.aim (known s2) same2 in
    let near = high.near in
    let right = copies_same (known s1) (known s2) (seen c.copy.new.self.worker) (nodes_of c.copy.new.self.copies) c.copy.ensures.seat.1 c.in-Ok.ensures.copies in
    (search rules, (within, (search rules, (search rules, (c.copy.ensures.seat.0, (c.copy.ensures.worker, (high.known, (high.aimed, right))))))))

pub returns-in-Err-copy-clause-keeps : goal.returns-in-Err-copy-clause-keeps
returns-in-Err-copy-clause-keeps g t c =
    keeps_chain (seen c.args.self.now.worker) (seen c.copy.new.self.worker) (seen c.copy-2.new.self.worker) c.copy.ensures.keeps c.copy-2.ensures.keeps

pub returns-in-Err-copy-clause-full : goal.returns-in-Err-copy-clause-full
returns-in-Err-copy-clause-full g t c =
    let t' = c.args.table.now in
    let aim = g.A.Aim.aims (aim_of t') in
    let falls = g.A.Aim.falls (aim_of t') in
    let s = c.args.seat.now in
    let k = known s in
    let sound = seat_sound s in
    let n = c.args.n.number in
    let p = c.parts-parts.result in
    let e = c.parts-parts.ensures in
    let s1 = c.parts-parts.new.seat in
    let same1 = e.seat.1 in
    let big : 1 < n = (let not = c.if-n-lt2.false in omega arith) in
    let half = parts_halved k sound n p.var p.lo.number p.hi.number big c.requires.known e.parts.0 e.parts.1 e.parts.2 in
    let deep = own_depth k n p.var big e.parts.0 in
    let s2 = c.copy.new.seat in
    let same2 : known s2 ≡ k = c.copy.ensures.seat.1 ∙ same1 in
    let high = below_high aim falls k sound n p.var p.lo.number p.hi.number c.requires.known half p.small deep c.requires.aim (known s2) same2 in
    let cut = whole aim falls k sound n p.var p.lo.number p.hi.number c.requires.known half p.small deep c.requires.aim in
    let w2 = c.copy-2.new.self.worker in
    lacks_whole t' (seen w2) c.in-Err-copy.full (seat_sound w2.seat) p.var true (meaning k n) (meaning (known s2) p.hi.number) cut.from high.is c.in-Err-copy.ensures.full

pub finish-requires-clause-later : goal.finish-requires-clause-later
finish-requires-clause-later g t c κs within =
    let t' = c.args.table.now in
    let aim = g.A.Aim.aims (aim_of t') in
    let falls = g.A.Aim.falls (aim_of t') in
    let s = c.args.seat.now in
    let k = known s in
    let sound = seat_sound s in
    let n = c.args.n.number in
    let p = c.parts-parts.result in
    let e = c.parts-parts.ensures in
    let s1 = c.parts-parts.new.seat in
    let same1 = e.seat.1 in
    let big : 1 < n = (let not = c.if-n-lt2.false in omega arith) in
    let half = parts_halved k sound n p.var p.lo.number p.hi.number big c.requires.known e.parts.0 e.parts.1 e.parts.2 in
    let deep = own_depth k n p.var big e.parts.0 in
    let low = below_low aim falls k sound n p.var p.lo.number p.hi.number c.requires.known half p.small deep c.requires.aim (known s1) same1 in
    let s2 = c.copy.new.seat in
    let same2 : known s2 ≡ k = c.copy.ensures.seat.1 ∙ same1 in
    let high = below_high aim falls k sound n p.var p.lo.number p.hi.number c.requires.known half p.small deep c.requires.aim (known s2) same2 in
    let cut = whole aim falls k sound n p.var p.lo.number p.hi.number c.requires.known half p.small deep c.requires.aim in
    let w1 = c.copy.new.self.worker in
    let w2 = c.copy-2.new.self.worker in
    let l = meant_kept (seen w1) (seen w2) c.copy-2.ensures.keeps c.in-Ok.low.number _ (c.in-Ok.ensures.ok.0, c.in-Ok.ensures.ok.1 ∙ low.is) in
    let made = made_of aim (seen w2) p.var c.in-Ok.low.number c.in-Ok-copy.high.number (meaning k n) cut.from c.requires.aim l (c.in-Ok-copy.ensures.ok.0, c.in-Ok-copy.ensures.ok.1 ∙ high.is) in
    made.later

pub finish-requires-clause-aim : goal.finish-requires-clause-aim
finish-requires-clause-aim g t c κs within =
    let t' = c.args.table.now in
    let aim = g.A.Aim.aims (aim_of t') in
    let falls = g.A.Aim.falls (aim_of t') in
    let s = c.args.seat.now in
    let k = known s in
    let sound = seat_sound s in
    let n = c.args.n.number in
    let p = c.parts-parts.result in
    let e = c.parts-parts.ensures in
    let s1 = c.parts-parts.new.seat in
    let same1 = e.seat.1 in
    let big : 1 < n = (let not = c.if-n-lt2.false in omega arith) in
    let half = parts_halved k sound n p.var p.lo.number p.hi.number big c.requires.known e.parts.0 e.parts.1 e.parts.2 in
    let deep = own_depth k n p.var big e.parts.0 in
    let low = below_low aim falls k sound n p.var p.lo.number p.hi.number c.requires.known half p.small deep c.requires.aim (known s1) same1 in
    let s2 = c.copy.new.seat in
    let same2 : known s2 ≡ k = c.copy.ensures.seat.1 ∙ same1 in
    let high = below_high aim falls k sound n p.var p.lo.number p.hi.number c.requires.known half p.small deep c.requires.aim (known s2) same2 in
    let cut = whole aim falls k sound n p.var p.lo.number p.hi.number c.requires.known half p.small deep c.requires.aim in
    let w1 = c.copy.new.self.worker in
    let w2 = c.copy-2.new.self.worker in
    let l = meant_kept (seen w1) (seen w2) c.copy-2.ensures.keeps c.in-Ok.low.number _ (c.in-Ok.ensures.ok.0, c.in-Ok.ensures.ok.1 ∙ low.is) in
    let made = made_of aim (seen w2) p.var c.in-Ok.low.number c.in-Ok-copy.high.number (meaning k n) cut.from c.requires.aim l (c.in-Ok-copy.ensures.ok.0, c.in-Ok-copy.ensures.ok.1 ∙ high.is) in
    (λ ne. made.aimed)

pub returns-clause-keeps : goal.returns-clause-keeps
returns-clause-keeps g t c =
    let first = keeps_chain (seen c.args.self.now.worker) (seen c.copy.new.self.worker) (seen c.copy-2.new.self.worker) c.copy.ensures.keeps c.copy-2.ensures.keeps in
    keeps_chain (seen c.args.self.now.worker) (seen c.copy-2.new.self.worker) (seen c.finish.new.self.worker) first c.finish.ensures.keeps

pub returns-clause-ok : goal.returns-clause-ok
returns-clause-ok g t c =
    let t' = c.args.table.now in
    let aim = g.A.Aim.aims (aim_of t') in
    let falls = g.A.Aim.falls (aim_of t') in
    let s = c.args.seat.now in
    let k = known s in
    let sound = seat_sound s in
    let n = c.args.n.number in
    let p = c.parts-parts.result in
    let e = c.parts-parts.ensures in
    let s1 = c.parts-parts.new.seat in
    let same1 = e.seat.1 in
    let big : 1 < n = (let not = c.if-n-lt2.false in omega arith) in
    let half = parts_halved k sound n p.var p.lo.number p.hi.number big c.requires.known e.parts.0 e.parts.1 e.parts.2 in
    let deep = own_depth k n p.var big e.parts.0 in
    let low = below_low aim falls k sound n p.var p.lo.number p.hi.number c.requires.known half p.small deep c.requires.aim (known s1) same1 in
    let s2 = c.copy.new.seat in
    let same2 : known s2 ≡ k = c.copy.ensures.seat.1 ∙ same1 in
    let high = below_high aim falls k sound n p.var p.lo.number p.hi.number c.requires.known half p.small deep c.requires.aim (known s2) same2 in
    let cut = whole aim falls k sound n p.var p.lo.number p.hi.number c.requires.known half p.small deep c.requires.aim in
    let w1 = c.copy.new.self.worker in
    let w2 = c.copy-2.new.self.worker in
    let l = meant_kept (seen w1) (seen w2) c.copy-2.ensures.keeps c.in-Ok.low.number _ (c.in-Ok.ensures.ok.0, c.in-Ok.ensures.ok.1 ∙ low.is) in
    let made = made_of aim (seen w2) p.var c.in-Ok.low.number c.in-Ok-copy.high.number (meaning k n) cut.from c.requires.aim l (c.in-Ok-copy.ensures.ok.0, c.in-Ok-copy.ensures.ok.1 ∙ high.is) in
    IfOk-weaker c.finish.result _ _ (λ m is. (is.0, is.1 ∙ made.is)) c.finish.ensures.ok

pub returns-clause-full : goal.returns-clause-full
returns-clause-full g t c =
    let t' = c.args.table.now in
    let aim = g.A.Aim.aims (aim_of t') in
    let falls = g.A.Aim.falls (aim_of t') in
    let s = c.args.seat.now in
    let k = known s in
    let sound = seat_sound s in
    let n = c.args.n.number in
    let p = c.parts-parts.result in
    let e = c.parts-parts.ensures in
    let s1 = c.parts-parts.new.seat in
    let same1 = e.seat.1 in
    let big : 1 < n = (let not = c.if-n-lt2.false in omega arith) in
    let half = parts_halved k sound n p.var p.lo.number p.hi.number big c.requires.known e.parts.0 e.parts.1 e.parts.2 in
    let deep = own_depth k n p.var big e.parts.0 in
    let low = below_low aim falls k sound n p.var p.lo.number p.hi.number c.requires.known half p.small deep c.requires.aim (known s1) same1 in
    let s2 = c.copy.new.seat in
    let same2 : known s2 ≡ k = c.copy.ensures.seat.1 ∙ same1 in
    let high = below_high aim falls k sound n p.var p.lo.number p.hi.number c.requires.known half p.small deep c.requires.aim (known s2) same2 in
    let cut = whole aim falls k sound n p.var p.lo.number p.hi.number c.requires.known half p.small deep c.requires.aim in
    let w1 = c.copy.new.self.worker in
    let w2 = c.copy-2.new.self.worker in
    let l = meant_kept (seen w1) (seen w2) c.copy-2.ensures.keeps c.in-Ok.low.number _ (c.in-Ok.ensures.ok.0, c.in-Ok.ensures.ok.1 ∙ low.is) in
    let made = made_of aim (seen w2) p.var c.in-Ok.low.number c.in-Ok-copy.high.number (meaning k n) cut.from c.requires.aim l (c.in-Ok-copy.ensures.ok.0, c.in-Ok-copy.ensures.ok.1 ∙ high.is) in
    IfErr-weaker c.finish.result _ _ (λ e' lacks. lacks_same t' (seen c.finish.new.self.worker) e' _ _ made.is lacks) c.finish.ensures.full

pub returns-clause-copies : goal.returns-clause-copies
returns-clause-copies g t c =
    let t' = c.args.table.now in
    let aim = g.A.Aim.aims (aim_of t') in
    let falls = g.A.Aim.falls (aim_of t') in
    let s = c.args.seat.now in
    let k = known s in
    let sound = seat_sound s in
    let n = c.args.n.number in
    let p = c.parts-parts.result in
    let e = c.parts-parts.ensures in
    let s1 = c.parts-parts.new.seat in
    let same1 = e.seat.1 in
    let big : 1 < n = (let not = c.if-n-lt2.false in omega arith) in
    let half = parts_halved k sound n p.var p.lo.number p.hi.number big c.requires.known e.parts.0 e.parts.1 e.parts.2 in
    let deep = own_depth k n p.var big e.parts.0 in
    let low = below_low aim falls k sound n p.var p.lo.number p.hi.number c.requires.known half p.small deep c.requires.aim (known s1) same1 in
    let s2 = c.copy.new.seat in
    let same2 : known s2 ≡ k = c.copy.ensures.seat.1 ∙ same1 in
    let high = below_high aim falls k sound n p.var p.lo.number p.hi.number c.requires.known half p.small deep c.requires.aim (known s2) same2 in
    let cut = whole aim falls k sound n p.var p.lo.number p.hi.number c.requires.known half p.small deep c.requires.aim in
    let w1 = c.copy.new.self.worker in
    let w2 = c.copy-2.new.self.worker in
    let l = meant_kept (seen w1) (seen w2) c.copy-2.ensures.keeps c.in-Ok.low.number _ (c.in-Ok.ensures.ok.0, c.in-Ok.ensures.ok.1 ∙ low.is) in
    let made = made_of aim (seen w2) p.var c.in-Ok.low.number c.in-Ok-copy.high.number (meaning k n) cut.from c.requires.aim l (c.in-Ok-copy.ensures.ok.0, c.in-Ok-copy.ensures.ok.1 ∙ high.is) in
    let w3 = c.finish.new.self.worker in
    let old = nodes_of c.copy-2.new.self.copies in
    let right = copies_same (known s2) k (seen w2) old (sym same2) c.in-Ok-copy.ensures.copies in
    on_both c.finish.result _ _ _ c.finish.ensures.ok c.finish.ensures.kept (λ m is left.
    copies_more k (seen w3) old (nodes_of c.finish.new.self.copies) n m (copies_kept k (seen w2) (seen w3) old c.finish.ensures.keeps right) (is.0, is.1 ∙ made.is) left)
