use Rattle.std.proofs.Common.{◌≡◌, ◌+◌, drop, ap, arith}
use Rattle.ja_listing.specs.declared.item.Head.{Head}
use Rattle.ja_assembly.specs.Unwritable.{CannotBeWritten}
use Rattle.ja_writable.specs.InnerJudging.{IsState}
use Rattle.ja_writable.proofs.Judged.{one_clean, more_clean}
use Rattle.ja_writable.proofs.Taken.{item_here, all_allowed, next_cause}
use Rattle.ja_writable.proofs.judge_class.judge_rest.Goals as goal

pub loop-item-init : goal.loop-item-init
loop-item-init c =
    let rest : c.as_slice-rest.result.now ≡ drop 0 c.args.listing.now.items = cc in
    let number : c.number-number.result ≡ c.args.listing.now.number + 0 = omega (arith, c.number-number.ensures) in
    ((0, rest, number, c.requires.state, one_clean c.args.listing.now c.requires.first), c.requires.small)

pub loop-item-preserved : goal.loop-item-preserved
loop-item-preserved c =
    let class = c.args.listing.now in
    let i = c.loop-item.invariant.0 in
    let it = item_here class i.0 c.head.result.now.superclass c.in-Some.item.now c.loop-item.rest.now c.in-Some.behind.now i.1 c.in-Some.ensures (ap (λ (h : Head). h.superclass) c.head.ensures) in
    let t = c.in-Ok.ensures.taken class i.0 it i.3 in
    let number : c.in_ok-number.number ≡ class.number + (i.0 + 1) = omega (arith, c.in_ok-number.ensures.ok, i.2) in
    ((i.0 + 1, it.behind_is, number, t.1, more_clean class i.0 i.4 t.0), c.in-Ok.ensures.small)

pub returns-in-Err-clause-fault : goal.returns-in-Err-clause-fault
returns-in-Err-clause-fault c =
    let class = c.args.listing.now in
    let i = c.loop-item.invariant.0 in
    let it = item_here class i.0 c.head.result.now.superclass c.in-Some.item.now c.loop-item.rest.now c.in-Some.behind.now i.1 c.in-Some.ensures (ap (λ (h : Head). h.superclass) c.head.ensures) in
    let t = c.in-Err.ensures.taken class i.0 it i.3 in
    let number : c.in_ok-number.number ≡ class.number + i.0 + 1 = omega (arith, c.in_ok-number.ensures.ok, i.2) in
    rw c.fault_of.ensures
    (next_cause class i.0 c.in_ok-number.number c.in-Err.flaw ((CannotBeWritten class (i.0 + 1) → ⊥) × IsState class (i.0 + 1) c.judge_next.new.place c.judge_next.new.wants) i.4 number t)

pub returns-clause-ok : goal.returns-clause-ok
returns-clause-ok c =
    let i = c.loop-item.invariant.0 in
    all_allowed c.args.listing.now i.0 c.loop-item.rest.now c.loop-item.place c.loop-item.wants i.1 c.in_default.ensures i.3 i.4
