use Rattle.std.proofs.Common.{rules, ◌≢◌, ◌<◌, sym, ap, ◌∙◌, subst, arith, true, false}
use Rattle.std.specs.Prelude.{None, Some}
use Rattle.std.proofs.lemmas.Result.{IfOk-weaker, IfErr-weaker}
use Rattle.ja_node_table.specs.Seats.{aim_of, known}
use Rattle.ja_bdd.specs.Functions.{chosen, renamed, IsAfter, IsAimed}
use Rattle.ja_bdd.specs.Meaning.{meaning}
use Rattle.ja_bdd.specs.Inner.{AreRight}
use Rattle.ja_bdd.specs.Variables.{partner_of}
use Rattle.ja_bdd.specs.declared.cache.Question.TheVariants.{Shift}
use Rattle.ja_bdd.proofs.Sound.{seat_sound}
use Rattle.ja_bdd.proofs.Room.{lacks_same, lacks_whole}
use Rattle.ja_bdd.proofs.Parts.{keeps, parts_halved}
use Rattle.ja_bdd.proofs.Joining.{both_made}
use Rattle.ja_bdd.proofs.Cached.{answers, right_found, right_kept}
use Rattle.ja_bdd.proofs.Forgetting.{own_depth, renamed_constant}
use Rattle.ja_bdd.proofs.Down.{rename_whole, rename_low, rename_high, order_part}
use Rattle.ja_bdd.proofs.Partners.{partner_small}
use Rattle.ja_bdd.proofs.Renewing.{on_both}
use Rattle.ja_bdd.proofs.Learning.{seat_right, same_part, part_chain}
use Rattle.ja_bdd.proofs.worker.Worker.+rename.Goals as goal

pub returns-then-f-lt2-clause-ok : goal.returns-then-f-lt2-clause-ok
returns-then-f-lt2-clause-ok g t c =
    let s = c.args.self.now.seat in
    (c.requires.known, sym (renamed_constant (known s) (seat_sound s) (partner_of c.args.m.now) c.args.f.number c.if-f-lt2.true))

pub returns-in-Some-clause-ok : goal.returns-in-Some-clause-ok
returns-in-Some-clause-ok g t c =
    let w = c.args.self.now in
    let answer = right_found (Some (partner_of c.args.m.now)) (known w.seat) w.cache.items (Shift c.args.f) c.in-Some.n c.requires.cache c.in-Some.ensures in
    (answer.0, sym answer.1.1)

pub invariant_of-self : goal.invariant_of-self
invariant_of-self g t c =
    let w = c.args.self.now in
    let part = same_part w.seat c.parts-parts.new.seat c.parts-parts.ensures.seat.1 in
    record { counted = w.counted; early = w.early; right = seat_right w.seat c.parts-parts.new.seat None w.cache.items part w.right }

pub rename-requires : goal.rename-requires
rename-requires g t c κs within =
    let t' = c.args.table.now in
    let aim = g.A.Aim.aims (aim_of t') in
    let s = c.args.self.now.seat in
    let k = known s in
    let n = c.args.f.number in
    let m = partner_of c.args.m.now in
    let p = c.parts-parts.result in
    let e = c.parts-parts.ensures in
    let s1 = c.parts-parts.new.seat in
    let part1 = same_part s s1 e.seat.1 in
    let big : 1 < n = (let not = c.if-f-lt2.false in omega arith) in
    let half = parts_halved k (seat_sound s) n p.var p.lo.number p.hi.number big c.requires.known e.parts.0 e.parts.1 e.parts.2 in
    let apart : p.lo.number ≢ p.hi.number = (λ same. e.node.apart (sym e.parts.1 ∙ same ∙ e.parts.2)) in
    let deep = own_depth k n p.var big e.parts.0 in
    let low = rename_low aim (g.A.Aim.falls (aim_of t')) k (seat_sound s) n p.var p.lo.number p.hi.number c.requires.known half p.small deep m (partner_small c.args.m.now) apart c.requires.order c.requires.aim (known s1) (seat_sound s1) part1 in
    let near = low.near in
    (search rules, (within, (search rules, (search rules, (e.seat.0, (low.known, (order_part aim (g.A.Aim.falls (aim_of t')) k (seat_sound s) n p.var p.lo.number p.hi.number c.requires.known half p.small deep m (partner_small c.args.m.now) apart c.requires.order c.requires.aim (known s1) (seat_sound s1) part1 false p.lo.number half.low, (low.aimed, seat_right s s1 (Some m) c.args.self.now.cache.items part1 c.requires.cache))))))))

pub returns-in-Err-clause-grows : goal.returns-in-Err-clause-grows
returns-in-Err-clause-grows g t c =
    let t' = c.args.table.now in
    let aim = g.A.Aim.aims (aim_of t') in
    let s = c.args.self.now.seat in
    let k = known s in
    let n = c.args.f.number in
    let m = partner_of c.args.m.now in
    let p = c.parts-parts.result in
    let e = c.parts-parts.ensures in
    let s1 = c.parts-parts.new.seat in
    let part1 = same_part s s1 e.seat.1 in
    let big : 1 < n = (let not = c.if-f-lt2.false in omega arith) in
    let half = parts_halved k (seat_sound s) n p.var p.lo.number p.hi.number big c.requires.known e.parts.0 e.parts.1 e.parts.2 in
    let apart : p.lo.number ≢ p.hi.number = (λ same. e.node.apart (sym e.parts.1 ∙ same ∙ e.parts.2)) in
    let deep = own_depth k n p.var big e.parts.0 in
    let s2 = c.rename.new.self.seat in
    let part2 = part_chain k (known s1) (known s2) part1 c.rename.ensures.grows in
    part2

pub returns-in-Err-clause-full : goal.returns-in-Err-clause-full
returns-in-Err-clause-full g t c =
    let t' = c.args.table.now in
    let aim = g.A.Aim.aims (aim_of t') in
    let s = c.args.self.now.seat in
    let k = known s in
    let n = c.args.f.number in
    let m = partner_of c.args.m.now in
    let p = c.parts-parts.result in
    let e = c.parts-parts.ensures in
    let s1 = c.parts-parts.new.seat in
    let part1 = same_part s s1 e.seat.1 in
    let big : 1 < n = (let not = c.if-f-lt2.false in omega arith) in
    let half = parts_halved k (seat_sound s) n p.var p.lo.number p.hi.number big c.requires.known e.parts.0 e.parts.1 e.parts.2 in
    let apart : p.lo.number ≢ p.hi.number = (λ same. e.node.apart (sym e.parts.1 ∙ same ∙ e.parts.2)) in
    let deep = own_depth k n p.var big e.parts.0 in
    let low = rename_low aim (g.A.Aim.falls (aim_of t')) k (seat_sound s) n p.var p.lo.number p.hi.number c.requires.known half p.small deep m (partner_small c.args.m.now) apart c.requires.order c.requires.aim (known s1) (seat_sound s1) part1 in
    let s2 = c.rename.new.self.seat in
    let part2 = part_chain k (known s1) (known s2) part1 c.rename.ensures.grows in
    let whole = rename_whole aim (g.A.Aim.falls (aim_of t')) k (seat_sound s) n p.var p.lo.number p.hi.number c.requires.known half p.small deep m (partner_small c.args.m.now) apart c.requires.order c.requires.aim in
    lacks_whole t' (known s2) c.in-Err.full (seat_sound s2) (m p.var) false (renamed m (meaning k n)) (renamed m (meaning (known s1) p.lo.number)) whole.from low.is c.in-Err.ensures.full

pub rename-requires-2 : goal.rename-requires-2
rename-requires-2 g t c κs within =
    let t' = c.args.table.now in
    let aim = g.A.Aim.aims (aim_of t') in
    let s = c.args.self.now.seat in
    let k = known s in
    let n = c.args.f.number in
    let m = partner_of c.args.m.now in
    let p = c.parts-parts.result in
    let e = c.parts-parts.ensures in
    let s1 = c.parts-parts.new.seat in
    let part1 = same_part s s1 e.seat.1 in
    let big : 1 < n = (let not = c.if-f-lt2.false in omega arith) in
    let half = parts_halved k (seat_sound s) n p.var p.lo.number p.hi.number big c.requires.known e.parts.0 e.parts.1 e.parts.2 in
    let apart : p.lo.number ≢ p.hi.number = (λ same. e.node.apart (sym e.parts.1 ∙ same ∙ e.parts.2)) in
    let deep = own_depth k n p.var big e.parts.0 in
    let s2 = c.rename.new.self.seat in
    let part2 = part_chain k (known s1) (known s2) part1 c.rename.ensures.grows in
    let high = rename_high aim (g.A.Aim.falls (aim_of t')) k (seat_sound s) n p.var p.lo.number p.hi.number c.requires.known half p.small deep m (partner_small c.args.m.now) apart c.requires.order c.requires.aim (known s2) (seat_sound s2) part2 in
    let near = high.near in
    (search rules, (within, (search rules, (search rules, (c.rename.ensures.seat, (high.known, (order_part aim (g.A.Aim.falls (aim_of t')) k (seat_sound s) n p.var p.lo.number p.hi.number c.requires.known half p.small deep m (partner_small c.args.m.now) apart c.requires.order c.requires.aim (known s2) (seat_sound s2) part2 true p.hi.number half.high, (high.aimed, c.in-Ok.ensures.cache))))))))

pub returns-in-Err-rename-clause-grows : goal.returns-in-Err-rename-clause-grows
returns-in-Err-rename-clause-grows g t c =
    let t' = c.args.table.now in
    let aim = g.A.Aim.aims (aim_of t') in
    let s = c.args.self.now.seat in
    let k = known s in
    let n = c.args.f.number in
    let m = partner_of c.args.m.now in
    let p = c.parts-parts.result in
    let e = c.parts-parts.ensures in
    let s1 = c.parts-parts.new.seat in
    let part1 = same_part s s1 e.seat.1 in
    let big : 1 < n = (let not = c.if-f-lt2.false in omega arith) in
    let half = parts_halved k (seat_sound s) n p.var p.lo.number p.hi.number big c.requires.known e.parts.0 e.parts.1 e.parts.2 in
    let apart : p.lo.number ≢ p.hi.number = (λ same. e.node.apart (sym e.parts.1 ∙ same ∙ e.parts.2)) in
    let deep = own_depth k n p.var big e.parts.0 in
    let s2 = c.rename.new.self.seat in
    let part2 = part_chain k (known s1) (known s2) part1 c.rename.ensures.grows in
    let s3 = c.rename-2.new.self.seat in
    let part3 = part_chain k (known s2) (known s3) part2 c.rename-2.ensures.grows in
    part3

pub returns-in-Err-rename-clause-full : goal.returns-in-Err-rename-clause-full
returns-in-Err-rename-clause-full g t c =
    let t' = c.args.table.now in
    let aim = g.A.Aim.aims (aim_of t') in
    let s = c.args.self.now.seat in
    let k = known s in
    let n = c.args.f.number in
    let m = partner_of c.args.m.now in
    let p = c.parts-parts.result in
    let e = c.parts-parts.ensures in
    let s1 = c.parts-parts.new.seat in
    let part1 = same_part s s1 e.seat.1 in
    let big : 1 < n = (let not = c.if-f-lt2.false in omega arith) in
    let half = parts_halved k (seat_sound s) n p.var p.lo.number p.hi.number big c.requires.known e.parts.0 e.parts.1 e.parts.2 in
    let apart : p.lo.number ≢ p.hi.number = (λ same. e.node.apart (sym e.parts.1 ∙ same ∙ e.parts.2)) in
    let deep = own_depth k n p.var big e.parts.0 in
    let s2 = c.rename.new.self.seat in
    let part2 = part_chain k (known s1) (known s2) part1 c.rename.ensures.grows in
    let high = rename_high aim (g.A.Aim.falls (aim_of t')) k (seat_sound s) n p.var p.lo.number p.hi.number c.requires.known half p.small deep m (partner_small c.args.m.now) apart c.requires.order c.requires.aim (known s2) (seat_sound s2) part2 in
    let s3 = c.rename-2.new.self.seat in
    let part3 = part_chain k (known s2) (known s3) part2 c.rename-2.ensures.grows in
    let whole = rename_whole aim (g.A.Aim.falls (aim_of t')) k (seat_sound s) n p.var p.lo.number p.hi.number c.requires.known half p.small deep m (partner_small c.args.m.now) apart c.requires.order c.requires.aim in
    lacks_whole t' (known s3) c.in-Err-rename.full (seat_sound s3) (m p.var) true (renamed m (meaning k n)) (renamed m (meaning (known s2) p.hi.number)) whole.from high.is c.in-Err-rename.ensures.full

pub finish-requires-clause-known : goal.finish-requires-clause-known
finish-requires-clause-known g t c κs within =
    let t' = c.args.table.now in
    let aim = g.A.Aim.aims (aim_of t') in
    let s = c.args.self.now.seat in
    let k = known s in
    let n = c.args.f.number in
    let m = partner_of c.args.m.now in
    let p = c.parts-parts.result in
    let e = c.parts-parts.ensures in
    let s1 = c.parts-parts.new.seat in
    let part1 = same_part s s1 e.seat.1 in
    let big : 1 < n = (let not = c.if-f-lt2.false in omega arith) in
    let half = parts_halved k (seat_sound s) n p.var p.lo.number p.hi.number big c.requires.known e.parts.0 e.parts.1 e.parts.2 in
    let apart : p.lo.number ≢ p.hi.number = (λ same. e.node.apart (sym e.parts.1 ∙ same ∙ e.parts.2)) in
    let deep = own_depth k n p.var big e.parts.0 in
    let low = rename_low aim (g.A.Aim.falls (aim_of t')) k (seat_sound s) n p.var p.lo.number p.hi.number c.requires.known half p.small deep m (partner_small c.args.m.now) apart c.requires.order c.requires.aim (known s1) (seat_sound s1) part1 in
    let s2 = c.rename.new.self.seat in
    let part2 = part_chain k (known s1) (known s2) part1 c.rename.ensures.grows in
    let high = rename_high aim (g.A.Aim.falls (aim_of t')) k (seat_sound s) n p.var p.lo.number p.hi.number c.requires.known half p.small deep m (partner_small c.args.m.now) apart c.requires.order c.requires.aim (known s2) (seat_sound s2) part2 in
    let s3 = c.rename-2.new.self.seat in
    let part3 = part_chain k (known s2) (known s3) part2 c.rename-2.ensures.grows in
    let whole = rename_whole aim (g.A.Aim.falls (aim_of t')) k (seat_sound s) n p.var p.lo.number p.hi.number c.requires.known half p.small deep m (partner_small c.args.m.now) apart c.requires.order c.requires.aim in
    let made = both_made aim (known s2) (known s3) (seat_sound s2) (seat_sound s3) c.rename-2.ensures.grows (m p.var) c.in-Ok.low.number c.in-Ok-rename.high.number (renamed m (meaning k n))
    (renamed m (meaning (known s1) p.lo.number)) (renamed m (meaning (known s2) p.hi.number)) whole.from c.requires.aim low.is high.is c.in-Ok.ensures.ok c.in-Ok-rename.ensures.ok in
    made.known

pub finish-requires-clause-later : goal.finish-requires-clause-later
finish-requires-clause-later g t c κs within =
    let t' = c.args.table.now in
    let aim = g.A.Aim.aims (aim_of t') in
    let s = c.args.self.now.seat in
    let k = known s in
    let n = c.args.f.number in
    let m = partner_of c.args.m.now in
    let p = c.parts-parts.result in
    let e = c.parts-parts.ensures in
    let s1 = c.parts-parts.new.seat in
    let part1 = same_part s s1 e.seat.1 in
    let big : 1 < n = (let not = c.if-f-lt2.false in omega arith) in
    let half = parts_halved k (seat_sound s) n p.var p.lo.number p.hi.number big c.requires.known e.parts.0 e.parts.1 e.parts.2 in
    let apart : p.lo.number ≢ p.hi.number = (λ same. e.node.apart (sym e.parts.1 ∙ same ∙ e.parts.2)) in
    let deep = own_depth k n p.var big e.parts.0 in
    let low = rename_low aim (g.A.Aim.falls (aim_of t')) k (seat_sound s) n p.var p.lo.number p.hi.number c.requires.known half p.small deep m (partner_small c.args.m.now) apart c.requires.order c.requires.aim (known s1) (seat_sound s1) part1 in
    let s2 = c.rename.new.self.seat in
    let part2 = part_chain k (known s1) (known s2) part1 c.rename.ensures.grows in
    let high = rename_high aim (g.A.Aim.falls (aim_of t')) k (seat_sound s) n p.var p.lo.number p.hi.number c.requires.known half p.small deep m (partner_small c.args.m.now) apart c.requires.order c.requires.aim (known s2) (seat_sound s2) part2 in
    let s3 = c.rename-2.new.self.seat in
    let part3 = part_chain k (known s2) (known s3) part2 c.rename-2.ensures.grows in
    let whole = rename_whole aim (g.A.Aim.falls (aim_of t')) k (seat_sound s) n p.var p.lo.number p.hi.number c.requires.known half p.small deep m (partner_small c.args.m.now) apart c.requires.order c.requires.aim in
    let made = both_made aim (known s2) (known s3) (seat_sound s2) (seat_sound s3) c.rename-2.ensures.grows (m p.var) c.in-Ok.low.number c.in-Ok-rename.high.number (renamed m (meaning k n))
    (renamed m (meaning (known s1) p.lo.number)) (renamed m (meaning (known s2) p.hi.number)) whole.from c.requires.aim low.is high.is c.in-Ok.ensures.ok c.in-Ok-rename.ensures.ok in
    subst (λ v. IsAfter v (meaning (known s3) c.in-Ok.low.number) × IsAfter v (meaning (known s3) c.in-Ok-rename.high.number)) (sym c.partner.ensures.partner) made.later

pub finish-requires-clause-aim : goal.finish-requires-clause-aim
finish-requires-clause-aim g t c κs within =
    let t' = c.args.table.now in
    let aim = g.A.Aim.aims (aim_of t') in
    let s = c.args.self.now.seat in
    let k = known s in
    let n = c.args.f.number in
    let m = partner_of c.args.m.now in
    let p = c.parts-parts.result in
    let e = c.parts-parts.ensures in
    let s1 = c.parts-parts.new.seat in
    let part1 = same_part s s1 e.seat.1 in
    let big : 1 < n = (let not = c.if-f-lt2.false in omega arith) in
    let half = parts_halved k (seat_sound s) n p.var p.lo.number p.hi.number big c.requires.known e.parts.0 e.parts.1 e.parts.2 in
    let apart : p.lo.number ≢ p.hi.number = (λ same. e.node.apart (sym e.parts.1 ∙ same ∙ e.parts.2)) in
    let deep = own_depth k n p.var big e.parts.0 in
    let low = rename_low aim (g.A.Aim.falls (aim_of t')) k (seat_sound s) n p.var p.lo.number p.hi.number c.requires.known half p.small deep m (partner_small c.args.m.now) apart c.requires.order c.requires.aim (known s1) (seat_sound s1) part1 in
    let s2 = c.rename.new.self.seat in
    let part2 = part_chain k (known s1) (known s2) part1 c.rename.ensures.grows in
    let high = rename_high aim (g.A.Aim.falls (aim_of t')) k (seat_sound s) n p.var p.lo.number p.hi.number c.requires.known half p.small deep m (partner_small c.args.m.now) apart c.requires.order c.requires.aim (known s2) (seat_sound s2) part2 in
    let s3 = c.rename-2.new.self.seat in
    let part3 = part_chain k (known s2) (known s3) part2 c.rename-2.ensures.grows in
    let whole = rename_whole aim (g.A.Aim.falls (aim_of t')) k (seat_sound s) n p.var p.lo.number p.hi.number c.requires.known half p.small deep m (partner_small c.args.m.now) apart c.requires.order c.requires.aim in
    let made = both_made aim (known s2) (known s3) (seat_sound s2) (seat_sound s3) c.rename-2.ensures.grows (m p.var) c.in-Ok.low.number c.in-Ok-rename.high.number (renamed m (meaning k n))
    (renamed m (meaning (known s1) p.lo.number)) (renamed m (meaning (known s2) p.hi.number)) whole.from c.requires.aim low.is high.is c.in-Ok.ensures.ok c.in-Ok-rename.ensures.ok in
    subst (λ v. IsAimed aim (chosen v (meaning (known s3) c.in-Ok.low.number) (meaning (known s3) c.in-Ok-rename.high.number))) (sym c.partner.ensures.partner) made.aimed

pub returns-clause-grows : goal.returns-clause-grows
returns-clause-grows g t c =
    let t' = c.args.table.now in
    let aim = g.A.Aim.aims (aim_of t') in
    let s = c.args.self.now.seat in
    let k = known s in
    let n = c.args.f.number in
    let m = partner_of c.args.m.now in
    let p = c.parts-parts.result in
    let e = c.parts-parts.ensures in
    let s1 = c.parts-parts.new.seat in
    let part1 = same_part s s1 e.seat.1 in
    let big : 1 < n = (let not = c.if-f-lt2.false in omega arith) in
    let half = parts_halved k (seat_sound s) n p.var p.lo.number p.hi.number big c.requires.known e.parts.0 e.parts.1 e.parts.2 in
    let apart : p.lo.number ≢ p.hi.number = (λ same. e.node.apart (sym e.parts.1 ∙ same ∙ e.parts.2)) in
    let deep = own_depth k n p.var big e.parts.0 in
    let s2 = c.rename.new.self.seat in
    let part2 = part_chain k (known s1) (known s2) part1 c.rename.ensures.grows in
    let s3 = c.rename-2.new.self.seat in
    let part3 = part_chain k (known s2) (known s3) part2 c.rename-2.ensures.grows in
    part_chain k (known s3) (known c.finish.new.self.seat) part3 c.finish.ensures.grows

pub returns-clause-ok : goal.returns-clause-ok
returns-clause-ok g t c =
    let t' = c.args.table.now in
    let aim = g.A.Aim.aims (aim_of t') in
    let s = c.args.self.now.seat in
    let k = known s in
    let n = c.args.f.number in
    let m = partner_of c.args.m.now in
    let p = c.parts-parts.result in
    let e = c.parts-parts.ensures in
    let s1 = c.parts-parts.new.seat in
    let part1 = same_part s s1 e.seat.1 in
    let big : 1 < n = (let not = c.if-f-lt2.false in omega arith) in
    let half = parts_halved k (seat_sound s) n p.var p.lo.number p.hi.number big c.requires.known e.parts.0 e.parts.1 e.parts.2 in
    let apart : p.lo.number ≢ p.hi.number = (λ same. e.node.apart (sym e.parts.1 ∙ same ∙ e.parts.2)) in
    let deep = own_depth k n p.var big e.parts.0 in
    let low = rename_low aim (g.A.Aim.falls (aim_of t')) k (seat_sound s) n p.var p.lo.number p.hi.number c.requires.known half p.small deep m (partner_small c.args.m.now) apart c.requires.order c.requires.aim (known s1) (seat_sound s1) part1 in
    let s2 = c.rename.new.self.seat in
    let part2 = part_chain k (known s1) (known s2) part1 c.rename.ensures.grows in
    let high = rename_high aim (g.A.Aim.falls (aim_of t')) k (seat_sound s) n p.var p.lo.number p.hi.number c.requires.known half p.small deep m (partner_small c.args.m.now) apart c.requires.order c.requires.aim (known s2) (seat_sound s2) part2 in
    let s3 = c.rename-2.new.self.seat in
    let part3 = part_chain k (known s2) (known s3) part2 c.rename-2.ensures.grows in
    let whole = rename_whole aim (g.A.Aim.falls (aim_of t')) k (seat_sound s) n p.var p.lo.number p.hi.number c.requires.known half p.small deep m (partner_small c.args.m.now) apart c.requires.order c.requires.aim in
    let made = both_made aim (known s2) (known s3) (seat_sound s2) (seat_sound s3) c.rename-2.ensures.grows (m p.var) c.in-Ok.low.number c.in-Ok-rename.high.number (renamed m (meaning k n))
    (renamed m (meaning (known s1) p.lo.number)) (renamed m (meaning (known s2) p.hi.number)) whole.from c.requires.aim low.is high.is c.in-Ok.ensures.ok c.in-Ok-rename.ensures.ok in
    IfOk-weaker c.finish.result _ _ (λ n' is. (is.0, is.1 ∙ (ap (λ v. chosen v (meaning (known s3) c.in-Ok.low.number) (meaning (known s3) c.in-Ok-rename.high.number)) c.partner.ensures.partner ∙ made.is))) c.finish.ensures.ok

pub returns-clause-full : goal.returns-clause-full
returns-clause-full g t c =
    let t' = c.args.table.now in
    let aim = g.A.Aim.aims (aim_of t') in
    let s = c.args.self.now.seat in
    let k = known s in
    let n = c.args.f.number in
    let m = partner_of c.args.m.now in
    let p = c.parts-parts.result in
    let e = c.parts-parts.ensures in
    let s1 = c.parts-parts.new.seat in
    let part1 = same_part s s1 e.seat.1 in
    let big : 1 < n = (let not = c.if-f-lt2.false in omega arith) in
    let half = parts_halved k (seat_sound s) n p.var p.lo.number p.hi.number big c.requires.known e.parts.0 e.parts.1 e.parts.2 in
    let apart : p.lo.number ≢ p.hi.number = (λ same. e.node.apart (sym e.parts.1 ∙ same ∙ e.parts.2)) in
    let deep = own_depth k n p.var big e.parts.0 in
    let low = rename_low aim (g.A.Aim.falls (aim_of t')) k (seat_sound s) n p.var p.lo.number p.hi.number c.requires.known half p.small deep m (partner_small c.args.m.now) apart c.requires.order c.requires.aim (known s1) (seat_sound s1) part1 in
    let s2 = c.rename.new.self.seat in
    let part2 = part_chain k (known s1) (known s2) part1 c.rename.ensures.grows in
    let high = rename_high aim (g.A.Aim.falls (aim_of t')) k (seat_sound s) n p.var p.lo.number p.hi.number c.requires.known half p.small deep m (partner_small c.args.m.now) apart c.requires.order c.requires.aim (known s2) (seat_sound s2) part2 in
    let s3 = c.rename-2.new.self.seat in
    let part3 = part_chain k (known s2) (known s3) part2 c.rename-2.ensures.grows in
    let whole = rename_whole aim (g.A.Aim.falls (aim_of t')) k (seat_sound s) n p.var p.lo.number p.hi.number c.requires.known half p.small deep m (partner_small c.args.m.now) apart c.requires.order c.requires.aim in
    let made = both_made aim (known s2) (known s3) (seat_sound s2) (seat_sound s3) c.rename-2.ensures.grows (m p.var) c.in-Ok.low.number c.in-Ok-rename.high.number (renamed m (meaning k n))
    (renamed m (meaning (known s1) p.lo.number)) (renamed m (meaning (known s2) p.hi.number)) whole.from c.requires.aim low.is high.is c.in-Ok.ensures.ok c.in-Ok-rename.ensures.ok in
    IfErr-weaker c.finish.result _ _ (λ e' lacks. lacks_same t' (known c.finish.new.self.seat) e' _ _ ((ap (λ v. chosen v (meaning (known s3) c.in-Ok.low.number) (meaning (known s3) c.in-Ok-rename.high.number)) c.partner.ensures.partner ∙ made.is)) lacks) c.finish.ensures.full

pub returns-clause-cache : goal.returns-clause-cache
returns-clause-cache g t c =
    let t' = c.args.table.now in
    let aim = g.A.Aim.aims (aim_of t') in
    let s = c.args.self.now.seat in
    let k = known s in
    let n = c.args.f.number in
    let m = partner_of c.args.m.now in
    let p = c.parts-parts.result in
    let e = c.parts-parts.ensures in
    let s1 = c.parts-parts.new.seat in
    let part1 = same_part s s1 e.seat.1 in
    let big : 1 < n = (let not = c.if-f-lt2.false in omega arith) in
    let half = parts_halved k (seat_sound s) n p.var p.lo.number p.hi.number big c.requires.known e.parts.0 e.parts.1 e.parts.2 in
    let apart : p.lo.number ≢ p.hi.number = (λ same. e.node.apart (sym e.parts.1 ∙ same ∙ e.parts.2)) in
    let deep = own_depth k n p.var big e.parts.0 in
    let low = rename_low aim (g.A.Aim.falls (aim_of t')) k (seat_sound s) n p.var p.lo.number p.hi.number c.requires.known half p.small deep m (partner_small c.args.m.now) apart c.requires.order c.requires.aim (known s1) (seat_sound s1) part1 in
    let s2 = c.rename.new.self.seat in
    let part2 = part_chain k (known s1) (known s2) part1 c.rename.ensures.grows in
    let high = rename_high aim (g.A.Aim.falls (aim_of t')) k (seat_sound s) n p.var p.lo.number p.hi.number c.requires.known half p.small deep m (partner_small c.args.m.now) apart c.requires.order c.requires.aim (known s2) (seat_sound s2) part2 in
    let s3 = c.rename-2.new.self.seat in
    let part3 = part_chain k (known s2) (known s3) part2 c.rename-2.ensures.grows in
    let whole = rename_whole aim (g.A.Aim.falls (aim_of t')) k (seat_sound s) n p.var p.lo.number p.hi.number c.requires.known half p.small deep m (partner_small c.args.m.now) apart c.requires.order c.requires.aim in
    let made = both_made aim (known s2) (known s3) (seat_sound s2) (seat_sound s3) c.rename-2.ensures.grows (m p.var) c.in-Ok.low.number c.in-Ok-rename.high.number (renamed m (meaning k n))
    (renamed m (meaning (known s1) p.lo.number)) (renamed m (meaning (known s2) p.hi.number)) whole.from c.requires.aim low.is high.is c.in-Ok.ensures.ok c.in-Ok-rename.ensures.ok in
    let kept = keeps k (known s3) (seat_sound s) (seat_sound s3) part3 n c.requires.known in
    let s4 = c.finish.new.self.seat in
    let old = c.rename-2.new.self.cache.items in
    on_both c.finish.result _ _ _ c.finish.ensures.ok c.finish.ensures.kept (λ n' is left.
    subst (λ es. ∥ AreRight (Some m) (known s4) es ∥₁) (sym left.1)
    (right_kept (Some m) (known s4) old left.0 record { asked = Shift c.args.f; made = n' } (seat_right s3 s4 (Some m) old c.finish.ensures.grows c.in-Ok-rename.ensures.cache)
    (answers (known s3) (known s4) (seat_sound s3) (seat_sound s4) c.finish.ensures.grows (Some m) (Shift c.args.f) n' _ (kept.0, ap (renamed m) kept.1 ∙ sym made.is)
    (is.0, is.1 ∙ ap (λ v. chosen v (meaning (known s3) c.in-Ok.low.number) (meaning (known s3) c.in-Ok-rename.high.number)) c.partner.ensures.partner))))
