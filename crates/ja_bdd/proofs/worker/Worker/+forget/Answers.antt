use Rattle.std.proofs.Common.{rules, ◌<◌, sym, ap, ◌∙◌, subst, arith, true, false}
use Rattle.std.specs.Prelude.{None}
use Rattle.std.proofs.lemmas.Result.{IfOk-weaker, IfErr-weaker}
use Rattle.ja_node_table.specs.Seats.{aim_of, known}
use Rattle.ja_bdd.specs.Functions.{fixed, forgotten, IsAimed}
use Rattle.ja_bdd.specs.Meaning.{meaning, IsMeant}
use Rattle.ja_bdd.specs.declared.cache.Question.TheVariants.{Forget}
use Rattle.ja_bdd.proofs.Sound.{seat_sound}
use Rattle.ja_bdd.proofs.Room.{lacks_same, lacks_whole}
use Rattle.ja_bdd.proofs.Parts.{keeps, meant_more, parts_halved}
use Rattle.ja_bdd.proofs.Joining.{both_made}
use Rattle.ja_bdd.proofs.Cached.{right_found}
use Rattle.ja_bdd.proofs.Forgetting.{own_depth, forgotten_constant, forgotten_past, forgotten_own}
use Rattle.ja_bdd.proofs.Down.{forget_whole, forget_low, forget_high}
use Rattle.ja_bdd.proofs.Learning.{seat_right, same_part, part_chain}
use Rattle.ja_bdd.proofs.worker.Worker.+forget.Goals as goal

pub returns-then-f-lt2-clause-ok : goal.returns-then-f-lt2-clause-ok
returns-then-f-lt2-clause-ok g t c =
    let s = c.args.self.now.seat in
    (c.requires.known, sym (forgotten_constant (known s) (seat_sound s) c.args.var c.args.f.number c.if-f-lt2.true))

pub returns-in-Some-clause-ok : goal.returns-in-Some-clause-ok
returns-in-Some-clause-ok g t c =
    let w = c.args.self.now in
    let answer = right_found None (known w.seat) w.cache.items (Forget c.args.f c.args.var) c.in-Some.n w.right c.in-Some.ensures in
    (answer.0, sym answer.1.1)

pub invariant_of-self : goal.invariant_of-self
invariant_of-self g t c =
    let w = c.args.self.now in
    let part = same_part w.seat c.parts-parts.new.seat c.parts-parts.ensures.seat.1 in
    record { counted = w.counted; early = w.early; right = seat_right w.seat c.parts-parts.new.seat None w.cache.items part w.right }

pub returns-then-var-parts-clause-grows : goal.returns-then-var-parts-clause-grows
returns-then-var-parts-clause-grows g t c =
    same_part c.args.self.now.seat c.parts-parts.new.seat c.parts-parts.ensures.seat.1

pub returns-then-var-parts-clause-ok : goal.returns-then-var-parts-clause-ok
returns-then-var-parts-clause-ok g t c =
    let t' = c.args.table.now in
    let aim = g.A.Aim.aims (aim_of t') in
    let s = c.args.self.now.seat in
    let k = known s in
    let n = c.args.f.number in
    let w = c.args.var in
    let p = c.parts-parts.result in
    let e = c.parts-parts.ensures in
    let s1 = c.parts-parts.new.seat in
    let part1 = same_part s s1 e.seat.1 in
    let big : 1 < n = (let not = c.if-f-lt2.false in omega arith) in
    let half = parts_halved k (seat_sound s) n p.var p.lo.number p.hi.number big c.requires.known e.parts.0 e.parts.1 e.parts.2 in
    let kept = keeps k (known s1) (seat_sound s) (seat_sound s1) part1 n c.requires.known in
    (kept.0, kept.1 ∙ sym (forgotten_past k (seat_sound s) w p.var n c.if-var-parts.true half.from))

pub join-requires-clause-known : goal.join-requires-clause-known
join-requires-clause-known g t c κs within =
    let t' = c.args.table.now in
    let aim = g.A.Aim.aims (aim_of t') in
    let s = c.args.self.now.seat in
    let k = known s in
    let n = c.args.f.number in
    let w = c.args.var in
    let p = c.parts-parts.result in
    let e = c.parts-parts.ensures in
    let s1 = c.parts-parts.new.seat in
    let part1 = same_part s s1 e.seat.1 in
    let big : 1 < n = (let not = c.if-f-lt2.false in omega arith) in
    let half = parts_halved k (seat_sound s) n p.var p.lo.number p.hi.number big c.requires.known e.parts.0 e.parts.1 e.parts.2 in
    let x = meant_more k (known s1) (seat_sound s) (seat_sound s1) part1 p.lo.number (fixed p.var false (meaning k n)) half.low in
    let y = meant_more k (known s1) (seat_sound s) (seat_sound s1) part1 p.hi.number (fixed p.var true (meaning k n)) half.high in
    (x.0, y.0)

pub join-requires-clause-aim : goal.join-requires-clause-aim
join-requires-clause-aim g t c κs within =
    let t' = c.args.table.now in
    let aim = g.A.Aim.aims (aim_of t') in
    let s = c.args.self.now.seat in
    let k = known s in
    let n = c.args.f.number in
    let w = c.args.var in
    let p = c.parts-parts.result in
    let e = c.parts-parts.ensures in
    let s1 = c.parts-parts.new.seat in
    let part1 = same_part s s1 e.seat.1 in
    let big : 1 < n = (let not = c.if-f-lt2.false in omega arith) in
    let half = parts_halved k (seat_sound s) n p.var p.lo.number p.hi.number big c.requires.known e.parts.0 e.parts.1 e.parts.2 in
    let x = meant_more k (known s1) (seat_sound s) (seat_sound s1) part1 p.lo.number (fixed p.var false (meaning k n)) half.low in
    let y = meant_more k (known s1) (seat_sound s) (seat_sound s1) part1 p.hi.number (fixed p.var true (meaning k n)) half.high in
    let own = forgotten_own (known s1) w p.lo.number p.hi.number (meaning k n)
    (subst (λ v. IsMeant (known s1) p.lo.number (fixed v false (meaning k n))) c.if-parts-var.true x) (subst (λ v. IsMeant (known s1) p.hi.number (fixed v true (meaning k n))) c.if-parts-var.true y) in
    subst (IsAimed aim) (sym own) c.requires.aim

pub returns-then-parts-var-clause-grows : goal.returns-then-parts-var-clause-grows
returns-then-parts-var-clause-grows g t c =
    let t' = c.args.table.now in
    let aim = g.A.Aim.aims (aim_of t') in
    let s = c.args.self.now.seat in
    let k = known s in
    let n = c.args.f.number in
    let w = c.args.var in
    let p = c.parts-parts.result in
    let e = c.parts-parts.ensures in
    let s1 = c.parts-parts.new.seat in
    let part1 = same_part s s1 e.seat.1 in
    let big : 1 < n = (let not = c.if-f-lt2.false in omega arith) in
    let half = parts_halved k (seat_sound s) n p.var p.lo.number p.hi.number big c.requires.known e.parts.0 e.parts.1 e.parts.2 in
    part_chain k (known s1) (known c.join.new.self.seat) part1 c.join.ensures.grows

pub returns-then-parts-var-clause-ok : goal.returns-then-parts-var-clause-ok
returns-then-parts-var-clause-ok g t c =
    let t' = c.args.table.now in
    let aim = g.A.Aim.aims (aim_of t') in
    let s = c.args.self.now.seat in
    let k = known s in
    let n = c.args.f.number in
    let w = c.args.var in
    let p = c.parts-parts.result in
    let e = c.parts-parts.ensures in
    let s1 = c.parts-parts.new.seat in
    let part1 = same_part s s1 e.seat.1 in
    let big : 1 < n = (let not = c.if-f-lt2.false in omega arith) in
    let half = parts_halved k (seat_sound s) n p.var p.lo.number p.hi.number big c.requires.known e.parts.0 e.parts.1 e.parts.2 in
    let x = meant_more k (known s1) (seat_sound s) (seat_sound s1) part1 p.lo.number (fixed p.var false (meaning k n)) half.low in
    let y = meant_more k (known s1) (seat_sound s) (seat_sound s1) part1 p.hi.number (fixed p.var true (meaning k n)) half.high in
    let own = forgotten_own (known s1) w p.lo.number p.hi.number (meaning k n)
    (subst (λ v. IsMeant (known s1) p.lo.number (fixed v false (meaning k n))) c.if-parts-var.true x) (subst (λ v. IsMeant (known s1) p.hi.number (fixed v true (meaning k n))) c.if-parts-var.true y) in
    IfOk-weaker c.join.result _ _ (λ n' is. (is.0, is.1 ∙ own)) c.join.ensures.ok

pub returns-then-parts-var-clause-full : goal.returns-then-parts-var-clause-full
returns-then-parts-var-clause-full g t c =
    let t' = c.args.table.now in
    let aim = g.A.Aim.aims (aim_of t') in
    let s = c.args.self.now.seat in
    let k = known s in
    let n = c.args.f.number in
    let w = c.args.var in
    let p = c.parts-parts.result in
    let e = c.parts-parts.ensures in
    let s1 = c.parts-parts.new.seat in
    let part1 = same_part s s1 e.seat.1 in
    let big : 1 < n = (let not = c.if-f-lt2.false in omega arith) in
    let half = parts_halved k (seat_sound s) n p.var p.lo.number p.hi.number big c.requires.known e.parts.0 e.parts.1 e.parts.2 in
    let x = meant_more k (known s1) (seat_sound s) (seat_sound s1) part1 p.lo.number (fixed p.var false (meaning k n)) half.low in
    let y = meant_more k (known s1) (seat_sound s) (seat_sound s1) part1 p.hi.number (fixed p.var true (meaning k n)) half.high in
    let own = forgotten_own (known s1) w p.lo.number p.hi.number (meaning k n)
    (subst (λ v. IsMeant (known s1) p.lo.number (fixed v false (meaning k n))) c.if-parts-var.true x) (subst (λ v. IsMeant (known s1) p.hi.number (fixed v true (meaning k n))) c.if-parts-var.true y) in
    IfErr-weaker c.join.result _ _ (λ e' lacks. lacks_same t' (known c.join.new.self.seat) e' _ _ own lacks) c.join.ensures.full

pub forget-requires : goal.forget-requires
forget-requires g t c κs within =
    let t' = c.args.table.now in
    let aim = g.A.Aim.aims (aim_of t') in
    let s = c.args.self.now.seat in
    let k = known s in
    let n = c.args.f.number in
    let w = c.args.var in
    let p = c.parts-parts.result in
    let e = c.parts-parts.ensures in
    let s1 = c.parts-parts.new.seat in
    let part1 = same_part s s1 e.seat.1 in
    let big : 1 < n = (let not = c.if-f-lt2.false in omega arith) in
    let half = parts_halved k (seat_sound s) n p.var p.lo.number p.hi.number big c.requires.known e.parts.0 e.parts.1 e.parts.2 in
    let deep = own_depth k n p.var big e.parts.0 in
    let lt : p.var < w = (let not = c.if-var-parts.false in let other = c.if-parts-var.false in omega arith) in
    let low = forget_low aim (g.A.Aim.falls (aim_of t')) k (seat_sound s) n p.var p.lo.number p.hi.number c.requires.known half p.small deep w lt c.requires.aim (known s1) (seat_sound s1) part1 in
    let near = low.near in
    (search rules, (within, (search rules, (search rules, (e.seat.0, (low.known, low.aimed))))))

pub returns-in-Err-clause-grows : goal.returns-in-Err-clause-grows
returns-in-Err-clause-grows g t c =
    let t' = c.args.table.now in
    let aim = g.A.Aim.aims (aim_of t') in
    let s = c.args.self.now.seat in
    let k = known s in
    let n = c.args.f.number in
    let w = c.args.var in
    let p = c.parts-parts.result in
    let e = c.parts-parts.ensures in
    let s1 = c.parts-parts.new.seat in
    let part1 = same_part s s1 e.seat.1 in
    let big : 1 < n = (let not = c.if-f-lt2.false in omega arith) in
    let half = parts_halved k (seat_sound s) n p.var p.lo.number p.hi.number big c.requires.known e.parts.0 e.parts.1 e.parts.2 in
    let deep = own_depth k n p.var big e.parts.0 in
    let lt : p.var < w = (let not = c.if-var-parts.false in let other = c.if-parts-var.false in omega arith) in
    let s2 = c.forget.new.self.seat in
    let part2 = part_chain k (known s1) (known s2) part1 c.forget.ensures.grows in
    part2

pub returns-in-Err-clause-full : goal.returns-in-Err-clause-full
returns-in-Err-clause-full g t c =
    let t' = c.args.table.now in
    let aim = g.A.Aim.aims (aim_of t') in
    let s = c.args.self.now.seat in
    let k = known s in
    let n = c.args.f.number in
    let w = c.args.var in
    let p = c.parts-parts.result in
    let e = c.parts-parts.ensures in
    let s1 = c.parts-parts.new.seat in
    let part1 = same_part s s1 e.seat.1 in
    let big : 1 < n = (let not = c.if-f-lt2.false in omega arith) in
    let half = parts_halved k (seat_sound s) n p.var p.lo.number p.hi.number big c.requires.known e.parts.0 e.parts.1 e.parts.2 in
    let deep = own_depth k n p.var big e.parts.0 in
    let lt : p.var < w = (let not = c.if-var-parts.false in let other = c.if-parts-var.false in omega arith) in
    let low = forget_low aim (g.A.Aim.falls (aim_of t')) k (seat_sound s) n p.var p.lo.number p.hi.number c.requires.known half p.small deep w lt c.requires.aim (known s1) (seat_sound s1) part1 in
    let s2 = c.forget.new.self.seat in
    let part2 = part_chain k (known s1) (known s2) part1 c.forget.ensures.grows in
    let whole = forget_whole aim (g.A.Aim.falls (aim_of t')) k (seat_sound s) n p.var p.lo.number p.hi.number c.requires.known half p.small deep w lt c.requires.aim in
    lacks_whole t' (known s2) c.in-Err.full (seat_sound s2) p.var false (forgotten w (meaning k n)) (forgotten w (meaning (known s1) p.lo.number)) whole.from low.is c.in-Err.ensures.full

pub forget-requires-2 : goal.forget-requires-2
forget-requires-2 g t c κs within =
    let t' = c.args.table.now in
    let aim = g.A.Aim.aims (aim_of t') in
    let s = c.args.self.now.seat in
    let k = known s in
    let n = c.args.f.number in
    let w = c.args.var in
    let p = c.parts-parts.result in
    let e = c.parts-parts.ensures in
    let s1 = c.parts-parts.new.seat in
    let part1 = same_part s s1 e.seat.1 in
    let big : 1 < n = (let not = c.if-f-lt2.false in omega arith) in
    let half = parts_halved k (seat_sound s) n p.var p.lo.number p.hi.number big c.requires.known e.parts.0 e.parts.1 e.parts.2 in
    let deep = own_depth k n p.var big e.parts.0 in
    let lt : p.var < w = (let not = c.if-var-parts.false in let other = c.if-parts-var.false in omega arith) in
    let s2 = c.forget.new.self.seat in
    let part2 = part_chain k (known s1) (known s2) part1 c.forget.ensures.grows in
    let high = forget_high aim (g.A.Aim.falls (aim_of t')) k (seat_sound s) n p.var p.lo.number p.hi.number c.requires.known half p.small deep w lt c.requires.aim (known s2) (seat_sound s2) part2 in
    let near = high.near in
    (search rules, (within, (search rules, (search rules, (c.forget.ensures.seat, (high.known, high.aimed))))))

pub returns-in-Err-forget-clause-grows : goal.returns-in-Err-forget-clause-grows
returns-in-Err-forget-clause-grows g t c =
    let t' = c.args.table.now in
    let aim = g.A.Aim.aims (aim_of t') in
    let s = c.args.self.now.seat in
    let k = known s in
    let n = c.args.f.number in
    let w = c.args.var in
    let p = c.parts-parts.result in
    let e = c.parts-parts.ensures in
    let s1 = c.parts-parts.new.seat in
    let part1 = same_part s s1 e.seat.1 in
    let big : 1 < n = (let not = c.if-f-lt2.false in omega arith) in
    let half = parts_halved k (seat_sound s) n p.var p.lo.number p.hi.number big c.requires.known e.parts.0 e.parts.1 e.parts.2 in
    let deep = own_depth k n p.var big e.parts.0 in
    let lt : p.var < w = (let not = c.if-var-parts.false in let other = c.if-parts-var.false in omega arith) in
    let s2 = c.forget.new.self.seat in
    let part2 = part_chain k (known s1) (known s2) part1 c.forget.ensures.grows in
    let s3 = c.forget-2.new.self.seat in
    let part3 = part_chain k (known s2) (known s3) part2 c.forget-2.ensures.grows in
    part3

pub returns-in-Err-forget-clause-full : goal.returns-in-Err-forget-clause-full
returns-in-Err-forget-clause-full g t c =
    let t' = c.args.table.now in
    let aim = g.A.Aim.aims (aim_of t') in
    let s = c.args.self.now.seat in
    let k = known s in
    let n = c.args.f.number in
    let w = c.args.var in
    let p = c.parts-parts.result in
    let e = c.parts-parts.ensures in
    let s1 = c.parts-parts.new.seat in
    let part1 = same_part s s1 e.seat.1 in
    let big : 1 < n = (let not = c.if-f-lt2.false in omega arith) in
    let half = parts_halved k (seat_sound s) n p.var p.lo.number p.hi.number big c.requires.known e.parts.0 e.parts.1 e.parts.2 in
    let deep = own_depth k n p.var big e.parts.0 in
    let lt : p.var < w = (let not = c.if-var-parts.false in let other = c.if-parts-var.false in omega arith) in
    let s2 = c.forget.new.self.seat in
    let part2 = part_chain k (known s1) (known s2) part1 c.forget.ensures.grows in
    let high = forget_high aim (g.A.Aim.falls (aim_of t')) k (seat_sound s) n p.var p.lo.number p.hi.number c.requires.known half p.small deep w lt c.requires.aim (known s2) (seat_sound s2) part2 in
    let s3 = c.forget-2.new.self.seat in
    let part3 = part_chain k (known s2) (known s3) part2 c.forget-2.ensures.grows in
    let whole = forget_whole aim (g.A.Aim.falls (aim_of t')) k (seat_sound s) n p.var p.lo.number p.hi.number c.requires.known half p.small deep w lt c.requires.aim in
    lacks_whole t' (known s3) c.in-Err-forget.full (seat_sound s3) p.var true (forgotten w (meaning k n)) (forgotten w (meaning (known s2) p.hi.number)) whole.from high.is c.in-Err-forget.ensures.full

pub finish-requires-clause-known : goal.finish-requires-clause-known
finish-requires-clause-known g t c κs within =
    let t' = c.args.table.now in
    let aim = g.A.Aim.aims (aim_of t') in
    let s = c.args.self.now.seat in
    let k = known s in
    let n = c.args.f.number in
    let w = c.args.var in
    let p = c.parts-parts.result in
    let e = c.parts-parts.ensures in
    let s1 = c.parts-parts.new.seat in
    let part1 = same_part s s1 e.seat.1 in
    let big : 1 < n = (let not = c.if-f-lt2.false in omega arith) in
    let half = parts_halved k (seat_sound s) n p.var p.lo.number p.hi.number big c.requires.known e.parts.0 e.parts.1 e.parts.2 in
    let deep = own_depth k n p.var big e.parts.0 in
    let lt : p.var < w = (let not = c.if-var-parts.false in let other = c.if-parts-var.false in omega arith) in
    let low = forget_low aim (g.A.Aim.falls (aim_of t')) k (seat_sound s) n p.var p.lo.number p.hi.number c.requires.known half p.small deep w lt c.requires.aim (known s1) (seat_sound s1) part1 in
    let s2 = c.forget.new.self.seat in
    let part2 = part_chain k (known s1) (known s2) part1 c.forget.ensures.grows in
    let high = forget_high aim (g.A.Aim.falls (aim_of t')) k (seat_sound s) n p.var p.lo.number p.hi.number c.requires.known half p.small deep w lt c.requires.aim (known s2) (seat_sound s2) part2 in
    let s3 = c.forget-2.new.self.seat in
    let part3 = part_chain k (known s2) (known s3) part2 c.forget-2.ensures.grows in
    let whole = forget_whole aim (g.A.Aim.falls (aim_of t')) k (seat_sound s) n p.var p.lo.number p.hi.number c.requires.known half p.small deep w lt c.requires.aim in
    let made = both_made aim (known s2) (known s3) (seat_sound s2) (seat_sound s3) c.forget-2.ensures.grows p.var c.in-Ok.low.number c.in-Ok-forget.high.number (forgotten w (meaning k n))
    (forgotten w (meaning (known s1) p.lo.number)) (forgotten w (meaning (known s2) p.hi.number)) whole.from c.requires.aim low.is high.is c.in-Ok.ensures.ok c.in-Ok-forget.ensures.ok in
    made.known

pub finish-requires-clause-later : goal.finish-requires-clause-later
finish-requires-clause-later g t c κs within =
    let t' = c.args.table.now in
    let aim = g.A.Aim.aims (aim_of t') in
    let s = c.args.self.now.seat in
    let k = known s in
    let n = c.args.f.number in
    let w = c.args.var in
    let p = c.parts-parts.result in
    let e = c.parts-parts.ensures in
    let s1 = c.parts-parts.new.seat in
    let part1 = same_part s s1 e.seat.1 in
    let big : 1 < n = (let not = c.if-f-lt2.false in omega arith) in
    let half = parts_halved k (seat_sound s) n p.var p.lo.number p.hi.number big c.requires.known e.parts.0 e.parts.1 e.parts.2 in
    let deep = own_depth k n p.var big e.parts.0 in
    let lt : p.var < w = (let not = c.if-var-parts.false in let other = c.if-parts-var.false in omega arith) in
    let low = forget_low aim (g.A.Aim.falls (aim_of t')) k (seat_sound s) n p.var p.lo.number p.hi.number c.requires.known half p.small deep w lt c.requires.aim (known s1) (seat_sound s1) part1 in
    let s2 = c.forget.new.self.seat in
    let part2 = part_chain k (known s1) (known s2) part1 c.forget.ensures.grows in
    let high = forget_high aim (g.A.Aim.falls (aim_of t')) k (seat_sound s) n p.var p.lo.number p.hi.number c.requires.known half p.small deep w lt c.requires.aim (known s2) (seat_sound s2) part2 in
    let s3 = c.forget-2.new.self.seat in
    let part3 = part_chain k (known s2) (known s3) part2 c.forget-2.ensures.grows in
    let whole = forget_whole aim (g.A.Aim.falls (aim_of t')) k (seat_sound s) n p.var p.lo.number p.hi.number c.requires.known half p.small deep w lt c.requires.aim in
    let made = both_made aim (known s2) (known s3) (seat_sound s2) (seat_sound s3) c.forget-2.ensures.grows p.var c.in-Ok.low.number c.in-Ok-forget.high.number (forgotten w (meaning k n))
    (forgotten w (meaning (known s1) p.lo.number)) (forgotten w (meaning (known s2) p.hi.number)) whole.from c.requires.aim low.is high.is c.in-Ok.ensures.ok c.in-Ok-forget.ensures.ok in
    made.later

pub finish-requires-clause-aim : goal.finish-requires-clause-aim
finish-requires-clause-aim g t c κs within =
    let t' = c.args.table.now in
    let aim = g.A.Aim.aims (aim_of t') in
    let s = c.args.self.now.seat in
    let k = known s in
    let n = c.args.f.number in
    let w = c.args.var in
    let p = c.parts-parts.result in
    let e = c.parts-parts.ensures in
    let s1 = c.parts-parts.new.seat in
    let part1 = same_part s s1 e.seat.1 in
    let big : 1 < n = (let not = c.if-f-lt2.false in omega arith) in
    let half = parts_halved k (seat_sound s) n p.var p.lo.number p.hi.number big c.requires.known e.parts.0 e.parts.1 e.parts.2 in
    let deep = own_depth k n p.var big e.parts.0 in
    let lt : p.var < w = (let not = c.if-var-parts.false in let other = c.if-parts-var.false in omega arith) in
    let low = forget_low aim (g.A.Aim.falls (aim_of t')) k (seat_sound s) n p.var p.lo.number p.hi.number c.requires.known half p.small deep w lt c.requires.aim (known s1) (seat_sound s1) part1 in
    let s2 = c.forget.new.self.seat in
    let part2 = part_chain k (known s1) (known s2) part1 c.forget.ensures.grows in
    let high = forget_high aim (g.A.Aim.falls (aim_of t')) k (seat_sound s) n p.var p.lo.number p.hi.number c.requires.known half p.small deep w lt c.requires.aim (known s2) (seat_sound s2) part2 in
    let s3 = c.forget-2.new.self.seat in
    let part3 = part_chain k (known s2) (known s3) part2 c.forget-2.ensures.grows in
    let whole = forget_whole aim (g.A.Aim.falls (aim_of t')) k (seat_sound s) n p.var p.lo.number p.hi.number c.requires.known half p.small deep w lt c.requires.aim in
    let made = both_made aim (known s2) (known s3) (seat_sound s2) (seat_sound s3) c.forget-2.ensures.grows p.var c.in-Ok.low.number c.in-Ok-forget.high.number (forgotten w (meaning k n))
    (forgotten w (meaning (known s1) p.lo.number)) (forgotten w (meaning (known s2) p.hi.number)) whole.from c.requires.aim low.is high.is c.in-Ok.ensures.ok c.in-Ok-forget.ensures.ok in
    made.aimed

pub finish-requires-clause-about : goal.finish-requires-clause-about
finish-requires-clause-about g t c κs within =
    let t' = c.args.table.now in
    let aim = g.A.Aim.aims (aim_of t') in
    let s = c.args.self.now.seat in
    let k = known s in
    let n = c.args.f.number in
    let w = c.args.var in
    let p = c.parts-parts.result in
    let e = c.parts-parts.ensures in
    let s1 = c.parts-parts.new.seat in
    let part1 = same_part s s1 e.seat.1 in
    let big : 1 < n = (let not = c.if-f-lt2.false in omega arith) in
    let half = parts_halved k (seat_sound s) n p.var p.lo.number p.hi.number big c.requires.known e.parts.0 e.parts.1 e.parts.2 in
    let deep = own_depth k n p.var big e.parts.0 in
    let lt : p.var < w = (let not = c.if-var-parts.false in let other = c.if-parts-var.false in omega arith) in
    let low = forget_low aim (g.A.Aim.falls (aim_of t')) k (seat_sound s) n p.var p.lo.number p.hi.number c.requires.known half p.small deep w lt c.requires.aim (known s1) (seat_sound s1) part1 in
    let s2 = c.forget.new.self.seat in
    let part2 = part_chain k (known s1) (known s2) part1 c.forget.ensures.grows in
    let high = forget_high aim (g.A.Aim.falls (aim_of t')) k (seat_sound s) n p.var p.lo.number p.hi.number c.requires.known half p.small deep w lt c.requires.aim (known s2) (seat_sound s2) part2 in
    let s3 = c.forget-2.new.self.seat in
    let part3 = part_chain k (known s2) (known s3) part2 c.forget-2.ensures.grows in
    let whole = forget_whole aim (g.A.Aim.falls (aim_of t')) k (seat_sound s) n p.var p.lo.number p.hi.number c.requires.known half p.small deep w lt c.requires.aim in
    let made = both_made aim (known s2) (known s3) (seat_sound s2) (seat_sound s3) c.forget-2.ensures.grows p.var c.in-Ok.low.number c.in-Ok-forget.high.number (forgotten w (meaning k n))
    (forgotten w (meaning (known s1) p.lo.number)) (forgotten w (meaning (known s2) p.hi.number)) whole.from c.requires.aim low.is high.is c.in-Ok.ensures.ok c.in-Ok-forget.ensures.ok in
    let kept = keeps k (known s3) (seat_sound s) (seat_sound s3) part3 n c.requires.known in
    (kept.0, ap (forgotten w) kept.1 ∙ sym made.is)

pub returns-clause-grows : goal.returns-clause-grows
returns-clause-grows g t c =
    let t' = c.args.table.now in
    let aim = g.A.Aim.aims (aim_of t') in
    let s = c.args.self.now.seat in
    let k = known s in
    let n = c.args.f.number in
    let w = c.args.var in
    let p = c.parts-parts.result in
    let e = c.parts-parts.ensures in
    let s1 = c.parts-parts.new.seat in
    let part1 = same_part s s1 e.seat.1 in
    let big : 1 < n = (let not = c.if-f-lt2.false in omega arith) in
    let half = parts_halved k (seat_sound s) n p.var p.lo.number p.hi.number big c.requires.known e.parts.0 e.parts.1 e.parts.2 in
    let deep = own_depth k n p.var big e.parts.0 in
    let lt : p.var < w = (let not = c.if-var-parts.false in let other = c.if-parts-var.false in omega arith) in
    let s2 = c.forget.new.self.seat in
    let part2 = part_chain k (known s1) (known s2) part1 c.forget.ensures.grows in
    let s3 = c.forget-2.new.self.seat in
    let part3 = part_chain k (known s2) (known s3) part2 c.forget-2.ensures.grows in
    part_chain k (known s3) (known c.finish.new.self.seat) part3 c.finish.ensures.grows

pub returns-clause-ok : goal.returns-clause-ok
returns-clause-ok g t c =
    let t' = c.args.table.now in
    let aim = g.A.Aim.aims (aim_of t') in
    let s = c.args.self.now.seat in
    let k = known s in
    let n = c.args.f.number in
    let w = c.args.var in
    let p = c.parts-parts.result in
    let e = c.parts-parts.ensures in
    let s1 = c.parts-parts.new.seat in
    let part1 = same_part s s1 e.seat.1 in
    let big : 1 < n = (let not = c.if-f-lt2.false in omega arith) in
    let half = parts_halved k (seat_sound s) n p.var p.lo.number p.hi.number big c.requires.known e.parts.0 e.parts.1 e.parts.2 in
    let deep = own_depth k n p.var big e.parts.0 in
    let lt : p.var < w = (let not = c.if-var-parts.false in let other = c.if-parts-var.false in omega arith) in
    let low = forget_low aim (g.A.Aim.falls (aim_of t')) k (seat_sound s) n p.var p.lo.number p.hi.number c.requires.known half p.small deep w lt c.requires.aim (known s1) (seat_sound s1) part1 in
    let s2 = c.forget.new.self.seat in
    let part2 = part_chain k (known s1) (known s2) part1 c.forget.ensures.grows in
    let high = forget_high aim (g.A.Aim.falls (aim_of t')) k (seat_sound s) n p.var p.lo.number p.hi.number c.requires.known half p.small deep w lt c.requires.aim (known s2) (seat_sound s2) part2 in
    let s3 = c.forget-2.new.self.seat in
    let part3 = part_chain k (known s2) (known s3) part2 c.forget-2.ensures.grows in
    let whole = forget_whole aim (g.A.Aim.falls (aim_of t')) k (seat_sound s) n p.var p.lo.number p.hi.number c.requires.known half p.small deep w lt c.requires.aim in
    let made = both_made aim (known s2) (known s3) (seat_sound s2) (seat_sound s3) c.forget-2.ensures.grows p.var c.in-Ok.low.number c.in-Ok-forget.high.number (forgotten w (meaning k n))
    (forgotten w (meaning (known s1) p.lo.number)) (forgotten w (meaning (known s2) p.hi.number)) whole.from c.requires.aim low.is high.is c.in-Ok.ensures.ok c.in-Ok-forget.ensures.ok in
    IfOk-weaker c.finish.result _ _ (λ n' is. (is.0, is.1 ∙ made.is)) c.finish.ensures.ok

pub returns-clause-full : goal.returns-clause-full
returns-clause-full g t c =
    let t' = c.args.table.now in
    let aim = g.A.Aim.aims (aim_of t') in
    let s = c.args.self.now.seat in
    let k = known s in
    let n = c.args.f.number in
    let w = c.args.var in
    let p = c.parts-parts.result in
    let e = c.parts-parts.ensures in
    let s1 = c.parts-parts.new.seat in
    let part1 = same_part s s1 e.seat.1 in
    let big : 1 < n = (let not = c.if-f-lt2.false in omega arith) in
    let half = parts_halved k (seat_sound s) n p.var p.lo.number p.hi.number big c.requires.known e.parts.0 e.parts.1 e.parts.2 in
    let deep = own_depth k n p.var big e.parts.0 in
    let lt : p.var < w = (let not = c.if-var-parts.false in let other = c.if-parts-var.false in omega arith) in
    let low = forget_low aim (g.A.Aim.falls (aim_of t')) k (seat_sound s) n p.var p.lo.number p.hi.number c.requires.known half p.small deep w lt c.requires.aim (known s1) (seat_sound s1) part1 in
    let s2 = c.forget.new.self.seat in
    let part2 = part_chain k (known s1) (known s2) part1 c.forget.ensures.grows in
    let high = forget_high aim (g.A.Aim.falls (aim_of t')) k (seat_sound s) n p.var p.lo.number p.hi.number c.requires.known half p.small deep w lt c.requires.aim (known s2) (seat_sound s2) part2 in
    let s3 = c.forget-2.new.self.seat in
    let part3 = part_chain k (known s2) (known s3) part2 c.forget-2.ensures.grows in
    let whole = forget_whole aim (g.A.Aim.falls (aim_of t')) k (seat_sound s) n p.var p.lo.number p.hi.number c.requires.known half p.small deep w lt c.requires.aim in
    let made = both_made aim (known s2) (known s3) (seat_sound s2) (seat_sound s3) c.forget-2.ensures.grows p.var c.in-Ok.low.number c.in-Ok-forget.high.number (forgotten w (meaning k n))
    (forgotten w (meaning (known s1) p.lo.number)) (forgotten w (meaning (known s2) p.hi.number)) whole.from c.requires.aim low.is high.is c.in-Ok.ensures.ok c.in-Ok-forget.ensures.ok in
    IfErr-weaker c.finish.result _ _ (λ e' lacks. lacks_same t' (known c.finish.new.self.seat) e' _ _ made.is lacks) c.finish.ensures.full
