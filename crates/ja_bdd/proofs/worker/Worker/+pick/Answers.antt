use Rattle.std.proofs.Common.{rules, ◌≡◌, ◌<◌, ℕ, sym, ap, ◌∙◌, subst, arith, true, false}
use Rattle.std.specs.Prelude.{None}
use Rattle.std.proofs.lemmas.Bool.{eqb-true}
use Rattle.ja_node_table.specs.Seats.{known}
use Rattle.ja_bdd.specs.Functions.{Function, fixed, IsFree}
use Rattle.ja_bdd.specs.Meaning.{meaning}
use Rattle.ja_bdd.specs.Variables.{values_of}
use Rattle.ja_bdd.proofs.Sound.{seat_sound, meaning_constant}
use Rattle.ja_bdd.proofs.Parts.{meant_more, parts_halved}
use Rattle.ja_bdd.proofs.Joining.{later}
use Rattle.ja_bdd.proofs.Forgetting.{own_depth, nearer}
use Rattle.ja_bdd.proofs.Shifting.{own_looks}
use Rattle.ja_bdd.proofs.Picking.{picked_whole, picked_others}
use Rattle.ja_bdd.proofs.Learning.{seat_right, same_part}
use Rattle.ja_bdd.proofs.worker.Worker.+pick.Goals as goal

pub returns-then-f-lt2-clause-picked : goal.returns-then-f-lt2-clause-picked
returns-then-f-lt2-clause-picked g t c is =
    let s = c.args.self.now.seat in
    let one : c.args.f.number ≡ 1 = search (rules, eqb-true) in
    ap (λ n. meaning (known s) n (values_of c.args.a.now)) one ∙ ap (λ (φ : Function). φ (values_of c.args.a.now)) (meaning_constant (known s) (seat_sound s) true)

pub invariant_of-self : goal.invariant_of-self
invariant_of-self g t c =
    let w = c.args.self.now in
    let part = same_part w.seat c.parts-parts.new.seat c.parts-parts.ensures.seat.1 in
    record { counted = w.counted; early = w.early; right = seat_right w.seat c.parts-parts.new.seat None w.cache.items part w.right }

pub pick-requires : goal.pick-requires
pick-requires g t c κs within =
    let s = c.args.self.now.seat in
    let k = known s in
    let n = c.args.f.number in
    let p = c.parts-parts.result in
    let e = c.parts-parts.ensures in
    let s1 = c.parts-parts.new.seat in
    let part1 = same_part s s1 e.seat.1 in
    let big : 1 < n = (let not = c.if-f-lt2.false in omega arith) in
    let half = parts_halved k (seat_sound s) n p.var p.lo.number p.hi.number big c.requires.known e.parts.0 e.parts.1 e.parts.2 in
    let x = meant_more k (known s1) (seat_sound s) (seat_sound s1) part1 p.hi.number (fixed p.var true (meaning k n)) half.high in
    let near = nearer k (known s1) (seat_sound s1) p.var n p.hi.number p.small (own_depth k n p.var big e.parts.0) x.0 (later (known s1) p.var true p.hi.number (meaning k n) half.from x) in
    (search rules, (within, (search rules, (search rules, (e.seat.0, x.0)))))

pub returns-then-eq-clause-picked : goal.returns-then-eq-clause-picked
returns-then-eq-clause-picked g t c is =
    let s = c.args.self.now.seat in
    let k = known s in
    let n = c.args.f.number in
    let p = c.parts-parts.result in
    let e = c.parts-parts.ensures in
    let s1 = c.parts-parts.new.seat in
    let part1 = same_part s s1 e.seat.1 in
    let big : 1 < n = (let not = c.if-f-lt2.false in omega arith) in
    let half = parts_halved k (seat_sound s) n p.var p.lo.number p.hi.number big c.requires.known e.parts.0 e.parts.1 e.parts.2 in
    let others = (λ (u : ℕ) (free : IsFree u (meaning k p.hi.number)). c.pick.ensures.others u (subst (λ l. IsFree u (meaning l p.hi.number)) (sym e.seat.1) free)) in
    picked_whole k p.var n p.hi.number true half.high (values_of c.args.a.now) (values_of c.set.new.self) (values_of c.pick.new.a) c.set.ensures others (subst (λ l. meaning l p.hi.number (values_of c.pick.new.a) ≡ true) e.seat.1 (c.pick.ensures.picked is))

pub returns-then-eq-clause-others : goal.returns-then-eq-clause-others
returns-then-eq-clause-others g t c =
    let s = c.args.self.now.seat in
    let k = known s in
    let n = c.args.f.number in
    let p = c.parts-parts.result in
    let e = c.parts-parts.ensures in
    let s1 = c.parts-parts.new.seat in
    let part1 = same_part s s1 e.seat.1 in
    let big : 1 < n = (let not = c.if-f-lt2.false in omega arith) in
    let half = parts_halved k (seat_sound s) n p.var p.lo.number p.hi.number big c.requires.known e.parts.0 e.parts.1 e.parts.2 in
    let others = (λ (u : ℕ) (free : IsFree u (meaning k p.hi.number)). c.pick.ensures.others u (subst (λ l. IsFree u (meaning l p.hi.number)) (sym e.seat.1) free)) in
    picked_others k p.var n p.hi.number true half.high (values_of c.args.a.now) (values_of c.set.new.self) (values_of c.pick.new.a) c.set.ensures others (own_looks k (seat_sound s) p.var n p.lo.number p.hi.number (λ same. e.node.apart (sym e.parts.1 ∙ same ∙ e.parts.2)) half)

pub pick-requires-2 : goal.pick-requires-2
pick-requires-2 g t c κs within =
    let s = c.args.self.now.seat in
    let k = known s in
    let n = c.args.f.number in
    let p = c.parts-parts.result in
    let e = c.parts-parts.ensures in
    let s1 = c.parts-parts.new.seat in
    let part1 = same_part s s1 e.seat.1 in
    let big : 1 < n = (let not = c.if-f-lt2.false in omega arith) in
    let half = parts_halved k (seat_sound s) n p.var p.lo.number p.hi.number big c.requires.known e.parts.0 e.parts.1 e.parts.2 in
    let x = meant_more k (known s1) (seat_sound s) (seat_sound s1) part1 p.lo.number (fixed p.var false (meaning k n)) half.low in
    let near = nearer k (known s1) (seat_sound s1) p.var n p.lo.number p.small (own_depth k n p.var big e.parts.0) x.0 (later (known s1) p.var false p.lo.number (meaning k n) half.from x) in
    (search rules, (within, (search rules, (search rules, (e.seat.0, x.0)))))

pub returns-clause-picked : goal.returns-clause-picked
returns-clause-picked g t c is =
    let s = c.args.self.now.seat in
    let k = known s in
    let n = c.args.f.number in
    let p = c.parts-parts.result in
    let e = c.parts-parts.ensures in
    let s1 = c.parts-parts.new.seat in
    let part1 = same_part s s1 e.seat.1 in
    let big : 1 < n = (let not = c.if-f-lt2.false in omega arith) in
    let half = parts_halved k (seat_sound s) n p.var p.lo.number p.hi.number big c.requires.known e.parts.0 e.parts.1 e.parts.2 in
    let others = (λ (u : ℕ) (free : IsFree u (meaning k p.lo.number)). c.pick-2.ensures.others u (subst (λ l. IsFree u (meaning l p.lo.number)) (sym e.seat.1) free)) in
    picked_whole k p.var n p.lo.number false half.low (values_of c.args.a.now) (values_of c.set-2.new.self) (values_of c.pick-2.new.a) c.set-2.ensures others (subst (λ l. meaning l p.lo.number (values_of c.pick-2.new.a) ≡ true) e.seat.1 (c.pick-2.ensures.picked is))

pub returns-clause-others : goal.returns-clause-others
returns-clause-others g t c =
    let s = c.args.self.now.seat in
    let k = known s in
    let n = c.args.f.number in
    let p = c.parts-parts.result in
    let e = c.parts-parts.ensures in
    let s1 = c.parts-parts.new.seat in
    let part1 = same_part s s1 e.seat.1 in
    let big : 1 < n = (let not = c.if-f-lt2.false in omega arith) in
    let half = parts_halved k (seat_sound s) n p.var p.lo.number p.hi.number big c.requires.known e.parts.0 e.parts.1 e.parts.2 in
    let others = (λ (u : ℕ) (free : IsFree u (meaning k p.lo.number)). c.pick-2.ensures.others u (subst (λ l. IsFree u (meaning l p.lo.number)) (sym e.seat.1) free)) in
    picked_others k p.var n p.lo.number false half.low (values_of c.args.a.now) (values_of c.set-2.new.self) (values_of c.pick-2.new.a) c.set-2.ensures others (own_looks k (seat_sound s) p.var n p.lo.number p.hi.number (λ same. e.node.apart (sym e.parts.1 ∙ same ∙ e.parts.2)) half)
