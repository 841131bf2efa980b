use Rattle.std.proofs.Common.{rules, ◌≡◌, ◌+◌, ◌<◌, ◌≤◌, IfOk, IfErr, true, false, length, drop, refl, sym, ◌∙◌, subst, arith}
use Rattle.std.proofs.lemmas.List.{drop_all}
use Rattle.std.proofs.lemmas.Result.{IfOk-weaker, IfErr-weaker}
use Rattle.ja_node_table.specs.Seats.{aim_of}
use Rattle.ja_bdd.specs.Functions.{Function, fixed, either, chosen}
use Rattle.ja_bdd.specs.Meaning.{meaning, IsMeant, IsHalved}
use Rattle.ja_bdd.specs.Workers.{seen}
use Rattle.ja_join.specs.Ascending.{TellFrom}
use Rattle.ja_join.specs.Steps.{LacksRoomAmong}
use Rattle.ja_join.specs.Inner.{passed, passed_from, parted, IsTaken, IsAsked}
use Rattle.ja_join.proofs.Passing.{lacks_whole}
use Rattle.ja_join.proofs.Handing.{taken_still}
use Rattle.ja_join.proofs.Remembering.{meant_still, right_noted}
use Rattle.ja_join.proofs.Asking.{next_at, halved_still, made_none, made_more, made_then, kept_lacks, moved_lacks, low_lacks, high_lacks, kept_up, asked_still, asked_cut, asked_kept, asked_moved, kept_whole, moved_whole, forgot_whole, parts_joined, part_is, part_later, asked_same}
use Rattle.ja_join.proofs.pass.+step.Goals as goal

pub step_cut-take_told-told-requires-clause-told : goal.step_cut-take_told-told-requires-clause-told
step_cut-take_told-told-requires-clause-told g t c κs within =
    let rule = c.args.rule.now in
    (subst (TellFrom 0) c.requires.next c.requires.asked.telling).0

pub step_cut-step_to-requires-clause-asked : goal.step_cut-step_to-requires-clause-asked
step_cut-step_to-requires-clause-asked g t c κs within =
    let t' = c.args.table.now in
    let rule = c.args.rule.now in
    let at = c.args.at in
    let s = c.args.states in
    let w = c.args.worker.now in
    let m = c.args.memo.now in
    let r = c.args.r.number in
    let q = c.args.g.number in
    let step = c.args.step in
    let cut = c.args.cut in
    let asked = c.requires.asked in
    let next = c.requires.next in
    let aim = g.A.Aim.aims (aim_of t') in
    let falls = g.A.Aim.falls (aim_of t') in
    let w1 = c.take_told-told.new.worker in
    let e = c.take_told-told.ensures in
    let is : cut.var ≡ step.variable = (let no = c.if-cut-step.false in let le = c.requires.var in omega arith) in
    let asked1 = subst (λ v. IsAsked t' aim rule at s v w1 m r q) is (asked_same t' aim falls rule at s cut.var w w1 m r q e.worker e.same asked) in
    let halved1 = subst (λ v. IsHalved (seen w1) v r cut.low.number cut.high.number) is (subst (λ k. IsHalved k cut.var r cut.low.number cut.high.number) (sym e.same) c.requires.halved) in
    let low1 = subst (λ k. IsTaken k step.told false q c.take_told-told.result.low.number) (sym e.same) e.low in
    let high1 = subst (λ k. IsTaken k step.told true q c.take_told-told.result.high.number) (sym e.same) e.high in
    asked1

pub step_cut-step_to-requires-clause-halved : goal.step_cut-step_to-requires-clause-halved
step_cut-step_to-requires-clause-halved g t c κs within =
    let t' = c.args.table.now in
    let rule = c.args.rule.now in
    let at = c.args.at in
    let s = c.args.states in
    let w = c.args.worker.now in
    let m = c.args.memo.now in
    let r = c.args.r.number in
    let q = c.args.g.number in
    let step = c.args.step in
    let cut = c.args.cut in
    let asked = c.requires.asked in
    let next = c.requires.next in
    let aim = g.A.Aim.aims (aim_of t') in
    let falls = g.A.Aim.falls (aim_of t') in
    let w1 = c.take_told-told.new.worker in
    let e = c.take_told-told.ensures in
    let is : cut.var ≡ step.variable = (let no = c.if-cut-step.false in let le = c.requires.var in omega arith) in
    let asked1 = subst (λ v. IsAsked t' aim rule at s v w1 m r q) is (asked_same t' aim falls rule at s cut.var w w1 m r q e.worker e.same asked) in
    let halved1 = subst (λ v. IsHalved (seen w1) v r cut.low.number cut.high.number) is (subst (λ k. IsHalved k cut.var r cut.low.number cut.high.number) (sym e.same) c.requires.halved) in
    let low1 = subst (λ k. IsTaken k step.told false q c.take_told-told.result.low.number) (sym e.same) e.low in
    let high1 = subst (λ k. IsTaken k step.told true q c.take_told-told.result.high.number) (sym e.same) e.high in
    halved1

pub step_cut-step_to-requires-clause-taken : goal.step_cut-step_to-requires-clause-taken
step_cut-step_to-requires-clause-taken g t c κs within =
    let t' = c.args.table.now in
    let rule = c.args.rule.now in
    let at = c.args.at in
    let s = c.args.states in
    let w = c.args.worker.now in
    let m = c.args.memo.now in
    let r = c.args.r.number in
    let q = c.args.g.number in
    let step = c.args.step in
    let cut = c.args.cut in
    let asked = c.requires.asked in
    let next = c.requires.next in
    let aim = g.A.Aim.aims (aim_of t') in
    let falls = g.A.Aim.falls (aim_of t') in
    let w1 = c.take_told-told.new.worker in
    let e = c.take_told-told.ensures in
    let is : cut.var ≡ step.variable = (let no = c.if-cut-step.false in let le = c.requires.var in omega arith) in
    let asked1 = subst (λ v. IsAsked t' aim rule at s v w1 m r q) is (asked_same t' aim falls rule at s cut.var w w1 m r q e.worker e.same asked) in
    let halved1 = subst (λ v. IsHalved (seen w1) v r cut.low.number cut.high.number) is (subst (λ k. IsHalved k cut.var r cut.low.number cut.high.number) (sym e.same) c.requires.halved) in
    let low1 = subst (λ k. IsTaken k step.told false q c.take_told-told.result.low.number) (sym e.same) e.low in
    let high1 = subst (λ k. IsTaken k step.told true q c.take_told-told.result.high.number) (sym e.same) e.high in
    (low1, high1)

pub step_cut-step_moved-requires-clause-asked : goal.step_cut-step_moved-requires-clause-asked
step_cut-step_moved-requires-clause-asked g t c κs within =
    let t' = c.args.table.now in
    let rule = c.args.rule.now in
    let at = c.args.at in
    let s = c.args.states in
    let w = c.args.worker.now in
    let m = c.args.memo.now in
    let r = c.args.r.number in
    let q = c.args.g.number in
    let step = c.args.step in
    let cut = c.args.cut in
    let asked = c.requires.asked in
    let next = c.requires.next in
    let aim = g.A.Aim.aims (aim_of t') in
    let falls = g.A.Aim.falls (aim_of t') in
    let w1 = c.take_told-told.new.worker in
    let e = c.take_told-told.ensures in
    let is : cut.var ≡ step.variable = (let no = c.if-cut-step.false in let le = c.requires.var in omega arith) in
    let asked1 = subst (λ v. IsAsked t' aim rule at s v w1 m r q) is (asked_same t' aim falls rule at s cut.var w w1 m r q e.worker e.same asked) in
    let halved1 = subst (λ v. IsHalved (seen w1) v r cut.low.number cut.high.number) is (subst (λ k. IsHalved k cut.var r cut.low.number cut.high.number) (sym e.same) c.requires.halved) in
    let low1 = subst (λ k. IsTaken k step.told false q c.take_told-told.result.low.number) (sym e.same) e.low in
    let high1 = subst (λ k. IsTaken k step.told true q c.take_told-told.result.high.number) (sym e.same) e.high in
    asked1

pub step_cut-step_moved-requires-clause-halved : goal.step_cut-step_moved-requires-clause-halved
step_cut-step_moved-requires-clause-halved g t c κs within =
    let t' = c.args.table.now in
    let rule = c.args.rule.now in
    let at = c.args.at in
    let s = c.args.states in
    let w = c.args.worker.now in
    let m = c.args.memo.now in
    let r = c.args.r.number in
    let q = c.args.g.number in
    let step = c.args.step in
    let cut = c.args.cut in
    let asked = c.requires.asked in
    let next = c.requires.next in
    let aim = g.A.Aim.aims (aim_of t') in
    let falls = g.A.Aim.falls (aim_of t') in
    let w1 = c.take_told-told.new.worker in
    let e = c.take_told-told.ensures in
    let is : cut.var ≡ step.variable = (let no = c.if-cut-step.false in let le = c.requires.var in omega arith) in
    let asked1 = subst (λ v. IsAsked t' aim rule at s v w1 m r q) is (asked_same t' aim falls rule at s cut.var w w1 m r q e.worker e.same asked) in
    let halved1 = subst (λ v. IsHalved (seen w1) v r cut.low.number cut.high.number) is (subst (λ k. IsHalved k cut.var r cut.low.number cut.high.number) (sym e.same) c.requires.halved) in
    let low1 = subst (λ k. IsTaken k step.told false q c.take_told-told.result.low.number) (sym e.same) e.low in
    let high1 = subst (λ k. IsTaken k step.told true q c.take_told-told.result.high.number) (sym e.same) e.high in
    halved1

pub step_cut-step_moved-requires-clause-taken : goal.step_cut-step_moved-requires-clause-taken
step_cut-step_moved-requires-clause-taken g t c κs within =
    let t' = c.args.table.now in
    let rule = c.args.rule.now in
    let at = c.args.at in
    let s = c.args.states in
    let w = c.args.worker.now in
    let m = c.args.memo.now in
    let r = c.args.r.number in
    let q = c.args.g.number in
    let step = c.args.step in
    let cut = c.args.cut in
    let asked = c.requires.asked in
    let next = c.requires.next in
    let aim = g.A.Aim.aims (aim_of t') in
    let falls = g.A.Aim.falls (aim_of t') in
    let w1 = c.take_told-told.new.worker in
    let e = c.take_told-told.ensures in
    let is : cut.var ≡ step.variable = (let no = c.if-cut-step.false in let le = c.requires.var in omega arith) in
    let asked1 = subst (λ v. IsAsked t' aim rule at s v w1 m r q) is (asked_same t' aim falls rule at s cut.var w w1 m r q e.worker e.same asked) in
    let halved1 = subst (λ v. IsHalved (seen w1) v r cut.low.number cut.high.number) is (subst (λ k. IsHalved k cut.var r cut.low.number cut.high.number) (sym e.same) c.requires.halved) in
    let low1 = subst (λ k. IsTaken k step.told false q c.take_told-told.result.low.number) (sym e.same) e.low in
    let high1 = subst (λ k. IsTaken k step.told true q c.take_told-told.result.high.number) (sym e.same) e.high in
    (low1, high1)

pub step_cut-returns-then-step-clause-made : goal.step_cut-returns-then-step-clause-made
step_cut-returns-then-step-clause-made g t c =
    let t' = c.args.table.now in
    let rule = c.args.rule.now in
    let at = c.args.at in
    let s = c.args.states in
    let w = c.args.worker.now in
    let m = c.args.memo.now in
    let r = c.args.r.number in
    let q = c.args.g.number in
    let asked = c.requires.asked in
    let step = c.args.step in
    let w1 = c.take_told-told.new.worker in
    let e = c.take_told-told.ensures in
    let w2 = c.step_to.new.worker in
    let m2 = c.step_to.new.memo in
    made_more t' rule w w1 w2 m m2 (made_none t' rule w w1 m e.worker e.same asked.right) c.step_to.ensures.made

pub step_cut-returns-then-step-clause-ok : goal.step_cut-returns-then-step-clause-ok
step_cut-returns-then-step-clause-ok g t c =
    let t' = c.args.table.now in
    let rule = c.args.rule.now in
    let at = c.args.at in
    let s = c.args.states in
    let w = c.args.worker.now in
    let m = c.args.memo.now in
    let r = c.args.r.number in
    let q = c.args.g.number in
    let asked = c.requires.asked in
    let step = c.args.step in
    let w1 = c.take_told-told.new.worker in
    let e = c.take_told-told.ensures in
    let w2 = c.step_to.new.worker in
    let m2 = c.step_to.new.memo in
    let same : parted rule.accepted step (drop (at + 1) rule.moves.items) s false (meaning (seen w1) r) (meaning (seen w1) q) ≡ passed_from rule at s (meaning (seen w) r) (meaning (seen w) q) =
    ((λ i. parted rule.accepted step (drop (at + 1) rule.moves.items) s false (meaning (e.same i) r) (meaning (e.same i) q)) ∙ forgot_whole rule at s c.args.cut.var step (meaning (seen w) r) (meaning (seen w) q) c.requires.next c.if-step.true asked.ascending) in
    subst (λ χ. IfOk c.step_to.result (λ n. IsMeant (seen w2) n.number χ)) same c.step_to.ensures.ok

pub step_cut-returns-then-step-clause-full : goal.step_cut-returns-then-step-clause-full
step_cut-returns-then-step-clause-full g t c =
    let t' = c.args.table.now in
    let rule = c.args.rule.now in
    let at = c.args.at in
    let s = c.args.states in
    let w = c.args.worker.now in
    let m = c.args.memo.now in
    let r = c.args.r.number in
    let q = c.args.g.number in
    let asked = c.requires.asked in
    let step = c.args.step in
    let w1 = c.take_told-told.new.worker in
    let e = c.take_told-told.ensures in
    let w2 = c.step_to.new.worker in
    let m2 = c.step_to.new.memo in
    let same : parted rule.accepted step (drop (at + 1) rule.moves.items) s false (meaning (seen w1) r) (meaning (seen w1) q) ≡ passed_from rule at s (meaning (seen w) r) (meaning (seen w) q) =
    ((λ i. parted rule.accepted step (drop (at + 1) rule.moves.items) s false (meaning (e.same i) r) (meaning (e.same i) q)) ∙ forgot_whole rule at s c.args.cut.var step (meaning (seen w) r) (meaning (seen w) q) c.requires.next c.if-step.true asked.ascending) in
    subst (λ χ. IfErr c.step_to.result (LacksRoomAmong t' (seen w2) χ)) same c.step_to.ensures.full

pub step_cut-returns-clause-made : goal.step_cut-returns-clause-made
step_cut-returns-clause-made g t c =
    let t' = c.args.table.now in
    let rule = c.args.rule.now in
    let at = c.args.at in
    let s = c.args.states in
    let w = c.args.worker.now in
    let m = c.args.memo.now in
    let r = c.args.r.number in
    let q = c.args.g.number in
    let asked = c.requires.asked in
    let step = c.args.step in
    let w1 = c.take_told-told.new.worker in
    let e = c.take_told-told.ensures in
    let w2 = c.step_moved.new.worker in
    let m2 = c.step_moved.new.memo in
    made_more t' rule w w1 w2 m m2 (made_none t' rule w w1 m e.worker e.same asked.right) c.step_moved.ensures.made

pub step_cut-returns-clause-ok : goal.step_cut-returns-clause-ok
step_cut-returns-clause-ok g t c =
    let t' = c.args.table.now in
    let rule = c.args.rule.now in
    let at = c.args.at in
    let s = c.args.states in
    let w = c.args.worker.now in
    let m = c.args.memo.now in
    let r = c.args.r.number in
    let q = c.args.g.number in
    let asked = c.requires.asked in
    let step = c.args.step in
    let w1 = c.take_told-told.new.worker in
    let e = c.take_told-told.ensures in
    let w2 = c.step_moved.new.worker in
    let m2 = c.step_moved.new.memo in
    let same : passed_from rule at s (meaning (seen w1) r) (meaning (seen w1) q) ≡ passed_from rule at s (meaning (seen w) r) (meaning (seen w) q) = (λ i. passed_from rule at s (meaning (e.same i) r) (meaning (e.same i) q)) in
    subst (λ χ. IfOk c.step_moved.result (λ n. IsMeant (seen w2) n.number χ)) same c.step_moved.ensures.ok

pub step_cut-returns-clause-full : goal.step_cut-returns-clause-full
step_cut-returns-clause-full g t c =
    let t' = c.args.table.now in
    let rule = c.args.rule.now in
    let at = c.args.at in
    let s = c.args.states in
    let w = c.args.worker.now in
    let m = c.args.memo.now in
    let r = c.args.r.number in
    let q = c.args.g.number in
    let asked = c.requires.asked in
    let step = c.args.step in
    let w1 = c.take_told-told.new.worker in
    let e = c.take_told-told.ensures in
    let w2 = c.step_moved.new.worker in
    let m2 = c.step_moved.new.memo in
    let same : passed_from rule at s (meaning (seen w1) r) (meaning (seen w1) q) ≡ passed_from rule at s (meaning (seen w) r) (meaning (seen w) q) = (λ i. passed_from rule at s (meaning (e.same i) r) (meaning (e.same i) q)) in
    subst (λ χ. IfErr c.step_moved.result (LacksRoomAmong t' (seen w2) χ)) same c.step_moved.ensures.full

pub step_from-returns-then-at-len-clause-made : goal.step_from-returns-then-at-len-clause-made
step_from-returns-then-at-len-clause-made g t c =
    let t' = c.args.table.now in
    let rule = c.args.rule.now in
    let at = c.args.at in
    let s = c.args.states in
    let w = c.args.worker.now in
    let m = c.args.memo.now in
    let r = c.args.r.number in
    let q = c.args.g.number in
    let asked = c.requires.asked in
    let e = c.at_end.ensures in
    made_none t' rule w c.at_end.new.worker m e.worker e.same asked.right

pub step_from-returns-then-at-len-clause-ok : goal.step_from-returns-then-at-len-clause-ok
step_from-returns-then-at-len-clause-ok g t c =
    let t' = c.args.table.now in
    let rule = c.args.rule.now in
    let at = c.args.at in
    let s = c.args.states in
    let w = c.args.worker.now in
    let m = c.args.memo.now in
    let r = c.args.r.number in
    let q = c.args.g.number in
    let asked = c.requires.asked in
    let e = c.at_end.ensures in
    let n = c.at_end.result.number in
    let φ = meaning (seen w) r in
    let σ = meaning (seen w) q in
    let le : length rule.moves.items ≤ at = (let is = c.if-at-len.true in let len = c.len.ensures in omega arith) in
    subst (λ k. IsMeant k n (passed_from rule at s φ σ)) (sym e.same) (subst (λ moves. IsMeant (seen w) n (passed rule.accepted moves s φ σ)) (sym (drop_all at rule.moves.items le)) e.is)

pub step_moved-step_to-made-requires-2-clause-taken : goal.step_moved-step_to-made-requires-2-clause-taken
step_moved-step_to-made-requires-2-clause-taken g t c κs within =
    let t' = c.args.table.now in
    let rule = c.args.rule.now in
    let at = c.args.at in
    let s = c.args.states in
    let w = c.args.worker.now in
    let m = c.args.memo.now in
    let r = c.args.r.number in
    let q = c.args.g.number in
    let asked = c.requires.asked in
    let step = c.args.step in
    let gl = c.args.told.low.number in
    let gh = c.args.told.high.number in
    let w1 = c.step_to-made.new.worker in
    let made1 = c.step_to-made.ensures.made in
    (taken_still (seen w) (seen w1) made1.keeps step.told false q gl asked.told c.requires.taken.0, taken_still (seen w) (seen w1) made1.keeps step.told true q gh asked.told c.requires.taken.1)

pub step_from-step_cut-requires : goal.step_from-step_cut-requires
step_from-step_cut-requires g t c κs within =
    let t' = c.args.table.now in
    let rule = c.args.rule.now in
    let at = c.args.at in
    let s = c.args.states in
    let w = c.args.worker.now in
    let m = c.args.memo.now in
    let r = c.args.r.number in
    let q = c.args.g.number in
    let w1 = c.cut_at-cut.new.worker in
    let cut = c.cut_at-cut.result in
    let e = c.cut_at-cut.ensures in
    let aim = g.A.Aim.aims (aim_of t') in
    let falls = g.A.Aim.falls (aim_of t') in
    let step = c.index-step.result.now in
    let lt : at < length rule.moves.items = search rules in
    let next = next_at rule.moves.items at step lt c.index-step.ensures in
    let asked = asked_cut t' aim falls rule at s c.args.from cut.var step w w1 m r q cut.low.number cut.high.number next e.worker e.same e.halved e.var e.apart c.requires.asked in
    let later = asked.0 in
    (omega arith, (within, (search rules, (search rules, (asked.1, (search rules, (search rules, (e.var, (e.apart, (next, lt))))))))))

pub step_from-returns-in-Err-clause-made : goal.step_from-returns-in-Err-clause-made
step_from-returns-in-Err-clause-made g t c =
    let t' = c.args.table.now in
    let rule = c.args.rule.now in
    let at = c.args.at in
    let s = c.args.states in
    let w = c.args.worker.now in
    let m = c.args.memo.now in
    let r = c.args.r.number in
    let q = c.args.g.number in
    let w1 = c.cut_at-cut.new.worker in
    let cut = c.cut_at-cut.result in
    let e = c.cut_at-cut.ensures in
    let w2 = c.step_cut.new.worker in
    let m2 = c.step_cut.new.memo in
    made_more t' rule w w1 w2 m m2 (made_none t' rule w w1 m e.worker e.same c.requires.asked.right) c.step_cut.ensures.made

pub step_from-returns-in-Err-clause-full : goal.step_from-returns-in-Err-clause-full
step_from-returns-in-Err-clause-full g t c =
    let t' = c.args.table.now in
    let rule = c.args.rule.now in
    let at = c.args.at in
    let s = c.args.states in
    let w = c.args.worker.now in
    let m = c.args.memo.now in
    let r = c.args.r.number in
    let q = c.args.g.number in
    let w1 = c.cut_at-cut.new.worker in
    let cut = c.cut_at-cut.result in
    let e = c.cut_at-cut.ensures in
    let w2 = c.step_cut.new.worker in
    let m2 = c.step_cut.new.memo in
    subst (λ k. LacksRoomAmong t' (seen w2) (passed_from rule at s (meaning k r) (meaning k q)) c.in-Err.full) e.same c.in-Err.ensures.full

pub step_from-returns-clause-made : goal.step_from-returns-clause-made
step_from-returns-clause-made g t c =
    let t' = c.args.table.now in
    let rule = c.args.rule.now in
    let at = c.args.at in
    let s = c.args.states in
    let w = c.args.worker.now in
    let m = c.args.memo.now in
    let r = c.args.r.number in
    let q = c.args.g.number in
    let w1 = c.cut_at-cut.new.worker in
    let cut = c.cut_at-cut.result in
    let e = c.cut_at-cut.ensures in
    let w2 = c.step_cut.new.worker in
    let m2 = c.step_cut.new.memo in
    let made = made_more t' rule w w1 w2 m m2 (made_none t' rule w w1 m e.worker e.same c.requires.asked.right) c.step_cut.ensures.made in
    let is : IsMeant (seen w2) c.in-Ok.made.number (passed_from rule at s (meaning (seen w) r) (meaning (seen w) q)) = subst (λ k. IsMeant (seen w2) c.in-Ok.made.number (passed_from rule at s (meaning k r) (meaning k q))) e.same c.in-Ok.ensures.ok in
    let kept = made.keeps r c.requires.asked.known in
    let told = made.keeps q c.requires.asked.told in
    record {
      worker = made.worker;
      keeps = made.keeps;
      right = right_noted rule (seen w2) m2 c.keep.new.self record { call = m2.call; at = at; states = s; asked = c.args.r; told = c.args.g; made = c.in-Ok.made } made.right
          (kept.0, told.0, subst (λ (z : Function × Function). IsMeant (seen w2) c.in-Ok.made.number (passed_from rule at s z.0 z.1)) (λ i. (sym kept.1 i, sym told.1 i)) is) c.keep.ensures.call c.keep.ensures.kept;
    }

pub step_from-returns-clause-ok : goal.step_from-returns-clause-ok
step_from-returns-clause-ok g t c =
    let t' = c.args.table.now in
    let rule = c.args.rule.now in
    let at = c.args.at in
    let s = c.args.states in
    let w = c.args.worker.now in
    let m = c.args.memo.now in
    let r = c.args.r.number in
    let q = c.args.g.number in
    let w1 = c.cut_at-cut.new.worker in
    let cut = c.cut_at-cut.result in
    let e = c.cut_at-cut.ensures in
    let w2 = c.step_cut.new.worker in
    let m2 = c.step_cut.new.memo in
    subst (λ k. IsMeant (seen w2) c.in-Ok.made.number (passed_from rule at s (meaning k r) (meaning k q))) e.same c.in-Ok.ensures.ok

pub step_kept-step_from-requires-clause-asked : goal.step_kept-step_from-requires-clause-asked
step_kept-step_from-requires-clause-asked g t c κs within =
    let t' = c.args.table.now in
    let rule = c.args.rule.now in
    let at = c.args.at in
    let s = c.args.states in
    let w = c.args.worker.now in
    let m = c.args.memo.now in
    let r = c.args.r.number in
    let q = c.args.g.number in
    let v = c.args.cut.var in
    let step = c.args.step in
    let lo = c.args.cut.low.number in
    let hi = c.args.cut.high.number in
    let asked = c.requires.asked in
    let next = c.requires.next in
    let aim = g.A.Aim.aims (aim_of t') in
    let falls = g.A.Aim.falls (aim_of t') in
    (asked_kept t' aim falls rule at s v step w m r q lo hi next c.requires.small c.requires.var c.requires.apart c.requires.halved asked).0

pub step_kept-returns-in-Err-clause-full : goal.step_kept-returns-in-Err-clause-full
step_kept-returns-in-Err-clause-full g t c =
    let t' = c.args.table.now in
    let rule = c.args.rule.now in
    let at = c.args.at in
    let s = c.args.states in
    let w = c.args.worker.now in
    let m = c.args.memo.now in
    let r = c.args.r.number in
    let q = c.args.g.number in
    let v = c.args.cut.var in
    let step = c.args.step in
    let lo = c.args.cut.low.number in
    let hi = c.args.cut.high.number in
    let asked = c.requires.asked in
    let next = c.requires.next in
    let up = kept_up v (drop at rule.moves.items) (drop (at + 1) rule.moves.items) step next c.requires.var asked.ascending in
    let w1 = c.step_from.new.worker in
    let m1 = c.step_from.new.memo in
    kept_lacks t' rule (seen w1) c.in-Err.full at s v (meaning (seen w) r) (meaning (seen w) q) (meaning (seen w) lo) (meaning (seen w) q) false up c.requires.halved.low.1 refl c.in-Err.ensures.full

pub step_kept-step_from-requires-2-clause-asked : goal.step_kept-step_from-requires-2-clause-asked
step_kept-step_from-requires-2-clause-asked g t c κs within =
    let t' = c.args.table.now in
    let rule = c.args.rule.now in
    let at = c.args.at in
    let s = c.args.states in
    let w = c.args.worker.now in
    let m = c.args.memo.now in
    let r = c.args.r.number in
    let q = c.args.g.number in
    let v = c.args.cut.var in
    let step = c.args.step in
    let lo = c.args.cut.low.number in
    let hi = c.args.cut.high.number in
    let asked = c.requires.asked in
    let next = c.requires.next in
    let aim = g.A.Aim.aims (aim_of t') in
    let falls = g.A.Aim.falls (aim_of t') in
    let w1 = c.step_from.new.worker in
    let m1 = c.step_from.new.memo in
    let made1 = c.step_from.ensures.made in
    let asked1 = asked_still t' aim falls rule at s v w w1 m m1 r q asked made1 in
    let halved1 = halved_still (seen w) (seen w1) made1.keeps v r lo hi asked.known c.requires.halved in
    (asked_kept t' aim falls rule at s v step w1 m1 r q lo hi next c.requires.small c.requires.var c.requires.apart halved1 asked1).1

pub step_kept-returns-in-Err-step_from-clause-made : goal.step_kept-returns-in-Err-step_from-clause-made
step_kept-returns-in-Err-step_from-clause-made g t c =
    let t' = c.args.table.now in
    let rule = c.args.rule.now in
    let at = c.args.at in
    let s = c.args.states in
    let w = c.args.worker.now in
    let m = c.args.memo.now in
    let r = c.args.r.number in
    let q = c.args.g.number in
    let v = c.args.cut.var in
    let step = c.args.step in
    let lo = c.args.cut.low.number in
    let hi = c.args.cut.high.number in
    let asked = c.requires.asked in
    let next = c.requires.next in
    let w1 = c.step_from.new.worker in
    let m1 = c.step_from.new.memo in
    let w2 = c.step_from-2.new.worker in
    let m2 = c.step_from-2.new.memo in
    made_more t' rule w w1 w2 m1 m2 c.step_from.ensures.made c.step_from-2.ensures.made

pub step_kept-returns-in-Err-step_from-clause-full : goal.step_kept-returns-in-Err-step_from-clause-full
step_kept-returns-in-Err-step_from-clause-full g t c =
    let t' = c.args.table.now in
    let rule = c.args.rule.now in
    let at = c.args.at in
    let s = c.args.states in
    let w = c.args.worker.now in
    let m = c.args.memo.now in
    let r = c.args.r.number in
    let q = c.args.g.number in
    let v = c.args.cut.var in
    let step = c.args.step in
    let lo = c.args.cut.low.number in
    let hi = c.args.cut.high.number in
    let asked = c.requires.asked in
    let next = c.requires.next in
    let up = kept_up v (drop at rule.moves.items) (drop (at + 1) rule.moves.items) step next c.requires.var asked.ascending in
    let w1 = c.step_from.new.worker in
    let m1 = c.step_from.new.memo in
    let made1 = c.step_from.ensures.made in
    let w2 = c.step_from-2.new.worker in
    let m2 = c.step_from-2.new.memo in
    let same = (meant_still (seen w) (seen w1) made1.keeps hi (fixed v true (meaning (seen w) r)) c.requires.halved.high).1 in
    kept_lacks t' rule (seen w2) c.in-Err-step_from.full at s v (meaning (seen w) r) (meaning (seen w) q) (meaning (seen w1) hi) (meaning (seen w1) q) true up same (made1.keeps q asked.told).1 c.in-Err-step_from.ensures.full

pub step_kept-make-requires-clause-later : goal.step_kept-make-requires-clause-later
step_kept-make-requires-clause-later g t c κs within =
    let t' = c.args.table.now in
    let rule = c.args.rule.now in
    let at = c.args.at in
    let s = c.args.states in
    let w = c.args.worker.now in
    let m = c.args.memo.now in
    let r = c.args.r.number in
    let q = c.args.g.number in
    let v = c.args.cut.var in
    let step = c.args.step in
    let lo = c.args.cut.low.number in
    let hi = c.args.cut.high.number in
    let asked = c.requires.asked in
    let next = c.requires.next in
    let aim = g.A.Aim.aims (aim_of t') in
    let falls = g.A.Aim.falls (aim_of t') in
    let w1 = c.step_from.new.worker in
    let m1 = c.step_from.new.memo in
    let made1 = c.step_from.ensures.made in
    let w2 = c.step_from-2.new.worker in
    let m2 = c.step_from-2.new.memo in
    let made2 = c.step_from-2.ensures.made in
    let low = c.in-Ok.low.number in
    let high = c.in-Ok-step_from.high.number in
    let whole = kept_whole t' aim falls rule at s v step w w1 w2 m r q lo hi low high next c.requires.var c.requires.halved asked made1.keeps made2.keeps c.in-Ok.ensures.ok c.in-Ok-step_from.ensures.ok in
    whole.later

pub step_kept-make-requires-clause-aim : goal.step_kept-make-requires-clause-aim
step_kept-make-requires-clause-aim g t c κs within =
    let t' = c.args.table.now in
    let rule = c.args.rule.now in
    let at = c.args.at in
    let s = c.args.states in
    let w = c.args.worker.now in
    let m = c.args.memo.now in
    let r = c.args.r.number in
    let q = c.args.g.number in
    let v = c.args.cut.var in
    let step = c.args.step in
    let lo = c.args.cut.low.number in
    let hi = c.args.cut.high.number in
    let asked = c.requires.asked in
    let next = c.requires.next in
    let aim = g.A.Aim.aims (aim_of t') in
    let falls = g.A.Aim.falls (aim_of t') in
    let w1 = c.step_from.new.worker in
    let m1 = c.step_from.new.memo in
    let made1 = c.step_from.ensures.made in
    let w2 = c.step_from-2.new.worker in
    let m2 = c.step_from-2.new.memo in
    let made2 = c.step_from-2.ensures.made in
    let low = c.in-Ok.low.number in
    let high = c.in-Ok-step_from.high.number in
    let whole = kept_whole t' aim falls rule at s v step w w1 w2 m r q lo hi low high next c.requires.var c.requires.halved asked made1.keeps made2.keeps c.in-Ok.ensures.ok c.in-Ok-step_from.ensures.ok in
    (λ ne. whole.aimed)

pub step_kept-returns-clause-made : goal.step_kept-returns-clause-made
step_kept-returns-clause-made g t c =
    let t' = c.args.table.now in
    let rule = c.args.rule.now in
    let at = c.args.at in
    let s = c.args.states in
    let w = c.args.worker.now in
    let m = c.args.memo.now in
    let r = c.args.r.number in
    let q = c.args.g.number in
    let v = c.args.cut.var in
    let step = c.args.step in
    let lo = c.args.cut.low.number in
    let hi = c.args.cut.high.number in
    let asked = c.requires.asked in
    let next = c.requires.next in
    let w1 = c.step_from.new.worker in
    let m1 = c.step_from.new.memo in
    let w2 = c.step_from-2.new.worker in
    let m2 = c.step_from-2.new.memo in
    made_then t' rule w w2 c.make.new.self m2 (made_more t' rule w w1 w2 m1 m2 c.step_from.ensures.made c.step_from-2.ensures.made) c.make.ensures.worker c.make.ensures.keeps

pub step_kept-returns-clause-ok : goal.step_kept-returns-clause-ok
step_kept-returns-clause-ok g t c =
    let t' = c.args.table.now in
    let rule = c.args.rule.now in
    let at = c.args.at in
    let s = c.args.states in
    let w = c.args.worker.now in
    let m = c.args.memo.now in
    let r = c.args.r.number in
    let q = c.args.g.number in
    let v = c.args.cut.var in
    let step = c.args.step in
    let lo = c.args.cut.low.number in
    let hi = c.args.cut.high.number in
    let asked = c.requires.asked in
    let next = c.requires.next in
    let aim = g.A.Aim.aims (aim_of t') in
    let falls = g.A.Aim.falls (aim_of t') in
    let w1 = c.step_from.new.worker in
    let m1 = c.step_from.new.memo in
    let made1 = c.step_from.ensures.made in
    let w2 = c.step_from-2.new.worker in
    let m2 = c.step_from-2.new.memo in
    let made2 = c.step_from-2.ensures.made in
    let low = c.in-Ok.low.number in
    let high = c.in-Ok-step_from.high.number in
    let whole = kept_whole t' aim falls rule at s v step w w1 w2 m r q lo hi low high next c.requires.var c.requires.halved asked made1.keeps made2.keeps c.in-Ok.ensures.ok c.in-Ok-step_from.ensures.ok in
    IfOk-weaker c.make.result _ _ (λ n is. (is.0, is.1 ∙ whole.is)) c.make.ensures.ok

pub step_kept-returns-clause-full : goal.step_kept-returns-clause-full
step_kept-returns-clause-full g t c =
    let t' = c.args.table.now in
    let rule = c.args.rule.now in
    let at = c.args.at in
    let s = c.args.states in
    let w = c.args.worker.now in
    let m = c.args.memo.now in
    let r = c.args.r.number in
    let q = c.args.g.number in
    let v = c.args.cut.var in
    let step = c.args.step in
    let lo = c.args.cut.low.number in
    let hi = c.args.cut.high.number in
    let asked = c.requires.asked in
    let next = c.requires.next in
    let aim = g.A.Aim.aims (aim_of t') in
    let falls = g.A.Aim.falls (aim_of t') in
    let w1 = c.step_from.new.worker in
    let m1 = c.step_from.new.memo in
    let made1 = c.step_from.ensures.made in
    let w2 = c.step_from-2.new.worker in
    let m2 = c.step_from-2.new.memo in
    let made2 = c.step_from-2.ensures.made in
    let low = c.in-Ok.low.number in
    let high = c.in-Ok-step_from.high.number in
    let whole = kept_whole t' aim falls rule at s v step w w1 w2 m r q lo hi low high next c.requires.var c.requires.halved asked made1.keeps made2.keeps c.in-Ok.ensures.ok c.in-Ok-step_from.ensures.ok in
    IfErr-weaker c.make.result _ _ (λ e lacks. lacks_whole t' (seen c.make.new.self) e (passed_from rule at s (meaning (seen w) r) (meaning (seen w) q)) (chosen v (meaning (seen w2) low) (meaning (seen w2) high)) whole.is lacks) c.make.ensures.full

pub step_moved-returns-in-Err-clause-full : goal.step_moved-returns-in-Err-clause-full
step_moved-returns-in-Err-clause-full g t c =
    let t' = c.args.table.now in
    let rule = c.args.rule.now in
    let at = c.args.at in
    let s = c.args.states in
    let w = c.args.worker.now in
    let m = c.args.memo.now in
    let r = c.args.r.number in
    let q = c.args.g.number in
    let step = c.args.step in
    let v = step.variable in
    let lo = c.args.cut.low.number in
    let hi = c.args.cut.high.number in
    let gl = c.args.told.low.number in
    let gh = c.args.told.high.number in
    let asked = c.requires.asked in
    let next = c.requires.next in
    let w1 = c.step_to-made.new.worker in
    let m1 = c.step_to-made.new.memo in
    let made1 = c.step_to-made.ensures.made in
    moved_lacks t' rule (seen w1) c.in-Err.full at s step (meaning (seen w) r) (meaning (seen w) q) (meaning (seen w) r) (meaning (seen w) q) false next asked.ascending (λ e. refl) refl refl c.in-Err.ensures.full

pub step_moved-step_to-made-requires-2-clause-asked : goal.step_moved-step_to-made-requires-2-clause-asked
step_moved-step_to-made-requires-2-clause-asked g t c κs within =
    let t' = c.args.table.now in
    let rule = c.args.rule.now in
    let at = c.args.at in
    let s = c.args.states in
    let w = c.args.worker.now in
    let m = c.args.memo.now in
    let r = c.args.r.number in
    let q = c.args.g.number in
    let step = c.args.step in
    let v = step.variable in
    let lo = c.args.cut.low.number in
    let hi = c.args.cut.high.number in
    let gl = c.args.told.low.number in
    let gh = c.args.told.high.number in
    let asked = c.requires.asked in
    let next = c.requires.next in
    let aim = g.A.Aim.aims (aim_of t') in
    let falls = g.A.Aim.falls (aim_of t') in
    let w1 = c.step_to-made.new.worker in
    let m1 = c.step_to-made.new.memo in
    let made1 = c.step_to-made.ensures.made in
    asked_still t' aim falls rule at s v w w1 m m1 r q asked made1

pub step_moved-step_to-made-requires-2-clause-halved : goal.step_moved-step_to-made-requires-2-clause-halved
step_moved-step_to-made-requires-2-clause-halved g t c κs within =
    let t' = c.args.table.now in
    let rule = c.args.rule.now in
    let at = c.args.at in
    let s = c.args.states in
    let w = c.args.worker.now in
    let m = c.args.memo.now in
    let r = c.args.r.number in
    let q = c.args.g.number in
    let step = c.args.step in
    let v = step.variable in
    let lo = c.args.cut.low.number in
    let hi = c.args.cut.high.number in
    let gl = c.args.told.low.number in
    let gh = c.args.told.high.number in
    let asked = c.requires.asked in
    let next = c.requires.next in
    let w1 = c.step_to-made.new.worker in
    let m1 = c.step_to-made.new.memo in
    let made1 = c.step_to-made.ensures.made in
    halved_still (seen w) (seen w1) made1.keeps v r lo hi asked.known c.requires.halved

pub step_moved-returns-in-Err-made-clause-made : goal.step_moved-returns-in-Err-made-clause-made
step_moved-returns-in-Err-made-clause-made g t c =
    let t' = c.args.table.now in
    let rule = c.args.rule.now in
    let at = c.args.at in
    let s = c.args.states in
    let w = c.args.worker.now in
    let m = c.args.memo.now in
    let r = c.args.r.number in
    let q = c.args.g.number in
    let step = c.args.step in
    let v = step.variable in
    let lo = c.args.cut.low.number in
    let hi = c.args.cut.high.number in
    let gl = c.args.told.low.number in
    let gh = c.args.told.high.number in
    let asked = c.requires.asked in
    let next = c.requires.next in
    let w1 = c.step_to-made.new.worker in
    let m1 = c.step_to-made.new.memo in
    let made1 = c.step_to-made.ensures.made in
    let w2 = c.step_to-made-2.new.worker in
    let m2 = c.step_to-made-2.new.memo in
    let made2 = c.step_to-made-2.ensures.made in
    made_more t' rule w w1 w2 m1 m2 made1 made2

pub step_moved-returns-in-Err-made-clause-full : goal.step_moved-returns-in-Err-made-clause-full
step_moved-returns-in-Err-made-clause-full g t c =
    let t' = c.args.table.now in
    let rule = c.args.rule.now in
    let at = c.args.at in
    let s = c.args.states in
    let w = c.args.worker.now in
    let m = c.args.memo.now in
    let r = c.args.r.number in
    let q = c.args.g.number in
    let step = c.args.step in
    let v = step.variable in
    let lo = c.args.cut.low.number in
    let hi = c.args.cut.high.number in
    let gl = c.args.told.low.number in
    let gh = c.args.told.high.number in
    let asked = c.requires.asked in
    let next = c.requires.next in
    let w1 = c.step_to-made.new.worker in
    let m1 = c.step_to-made.new.memo in
    let made1 = c.step_to-made.ensures.made in
    let w2 = c.step_to-made-2.new.worker in
    let m2 = c.step_to-made-2.new.memo in
    let made2 = c.step_to-made-2.ensures.made in
    moved_lacks t' rule (seen w2) c.in-Err-made.full at s step (meaning (seen w) r) (meaning (seen w) q) (meaning (seen w1) r) (meaning (seen w1) q) true next asked.ascending (λ e. sym e ∙ c.requires.stays) (made1.keeps r asked.known).1 (made1.keeps q asked.told).1 c.in-Err-made.ensures.full

pub step_moved-make-requires-clause-later : goal.step_moved-make-requires-clause-later
step_moved-make-requires-clause-later g t c κs within =
    let t' = c.args.table.now in
    let rule = c.args.rule.now in
    let at = c.args.at in
    let s = c.args.states in
    let w = c.args.worker.now in
    let m = c.args.memo.now in
    let r = c.args.r.number in
    let q = c.args.g.number in
    let step = c.args.step in
    let v = step.variable in
    let lo = c.args.cut.low.number in
    let hi = c.args.cut.high.number in
    let gl = c.args.told.low.number in
    let gh = c.args.told.high.number in
    let asked = c.requires.asked in
    let next = c.requires.next in
    let aim = g.A.Aim.aims (aim_of t') in
    let falls = g.A.Aim.falls (aim_of t') in
    let w1 = c.step_to-made.new.worker in
    let m1 = c.step_to-made.new.memo in
    let made1 = c.step_to-made.ensures.made in
    let w2 = c.step_to-made-2.new.worker in
    let m2 = c.step_to-made-2.new.memo in
    let made2 = c.step_to-made-2.ensures.made in
    let low = c.in-Ok.below.number in
    let high = c.in-Ok-made.above.number in
    let whole = moved_whole t' aim falls rule at s step w w1 w2 m r q low high next c.requires.stays asked made1.keeps made2.keeps c.in-Ok.ensures.ok c.in-Ok-made.ensures.ok in
    whole.later

pub step_moved-make-requires-clause-aim : goal.step_moved-make-requires-clause-aim
step_moved-make-requires-clause-aim g t c κs within =
    let t' = c.args.table.now in
    let rule = c.args.rule.now in
    let at = c.args.at in
    let s = c.args.states in
    let w = c.args.worker.now in
    let m = c.args.memo.now in
    let r = c.args.r.number in
    let q = c.args.g.number in
    let step = c.args.step in
    let v = step.variable in
    let lo = c.args.cut.low.number in
    let hi = c.args.cut.high.number in
    let gl = c.args.told.low.number in
    let gh = c.args.told.high.number in
    let asked = c.requires.asked in
    let next = c.requires.next in
    let aim = g.A.Aim.aims (aim_of t') in
    let falls = g.A.Aim.falls (aim_of t') in
    let w1 = c.step_to-made.new.worker in
    let m1 = c.step_to-made.new.memo in
    let made1 = c.step_to-made.ensures.made in
    let w2 = c.step_to-made-2.new.worker in
    let m2 = c.step_to-made-2.new.memo in
    let made2 = c.step_to-made-2.ensures.made in
    let low = c.in-Ok.below.number in
    let high = c.in-Ok-made.above.number in
    let whole = moved_whole t' aim falls rule at s step w w1 w2 m r q low high next c.requires.stays asked made1.keeps made2.keeps c.in-Ok.ensures.ok c.in-Ok-made.ensures.ok in
    (λ ne. whole.aimed)

pub step_moved-returns-clause-made : goal.step_moved-returns-clause-made
step_moved-returns-clause-made g t c =
    let t' = c.args.table.now in
    let rule = c.args.rule.now in
    let at = c.args.at in
    let s = c.args.states in
    let w = c.args.worker.now in
    let m = c.args.memo.now in
    let r = c.args.r.number in
    let q = c.args.g.number in
    let step = c.args.step in
    let v = step.variable in
    let lo = c.args.cut.low.number in
    let hi = c.args.cut.high.number in
    let gl = c.args.told.low.number in
    let gh = c.args.told.high.number in
    let asked = c.requires.asked in
    let next = c.requires.next in
    let w1 = c.step_to-made.new.worker in
    let m1 = c.step_to-made.new.memo in
    let made1 = c.step_to-made.ensures.made in
    let w2 = c.step_to-made-2.new.worker in
    let m2 = c.step_to-made-2.new.memo in
    let made2 = c.step_to-made-2.ensures.made in
    made_then t' rule w w2 c.make.new.self m2 (made_more t' rule w w1 w2 m1 m2 made1 made2) c.make.ensures.worker c.make.ensures.keeps

pub step_moved-returns-clause-ok : goal.step_moved-returns-clause-ok
step_moved-returns-clause-ok g t c =
    let t' = c.args.table.now in
    let rule = c.args.rule.now in
    let at = c.args.at in
    let s = c.args.states in
    let w = c.args.worker.now in
    let m = c.args.memo.now in
    let r = c.args.r.number in
    let q = c.args.g.number in
    let step = c.args.step in
    let v = step.variable in
    let lo = c.args.cut.low.number in
    let hi = c.args.cut.high.number in
    let gl = c.args.told.low.number in
    let gh = c.args.told.high.number in
    let asked = c.requires.asked in
    let next = c.requires.next in
    let aim = g.A.Aim.aims (aim_of t') in
    let falls = g.A.Aim.falls (aim_of t') in
    let w1 = c.step_to-made.new.worker in
    let m1 = c.step_to-made.new.memo in
    let made1 = c.step_to-made.ensures.made in
    let w2 = c.step_to-made-2.new.worker in
    let m2 = c.step_to-made-2.new.memo in
    let made2 = c.step_to-made-2.ensures.made in
    let low = c.in-Ok.below.number in
    let high = c.in-Ok-made.above.number in
    let whole = moved_whole t' aim falls rule at s step w w1 w2 m r q low high next c.requires.stays asked made1.keeps made2.keeps c.in-Ok.ensures.ok c.in-Ok-made.ensures.ok in
    IfOk-weaker c.make.result _ _ (λ n is. (is.0, is.1 ∙ whole.is)) c.make.ensures.ok

pub step_moved-returns-clause-full : goal.step_moved-returns-clause-full
step_moved-returns-clause-full g t c =
    let t' = c.args.table.now in
    let rule = c.args.rule.now in
    let at = c.args.at in
    let s = c.args.states in
    let w = c.args.worker.now in
    let m = c.args.memo.now in
    let r = c.args.r.number in
    let q = c.args.g.number in
    let step = c.args.step in
    let v = step.variable in
    let lo = c.args.cut.low.number in
    let hi = c.args.cut.high.number in
    let gl = c.args.told.low.number in
    let gh = c.args.told.high.number in
    let asked = c.requires.asked in
    let next = c.requires.next in
    let aim = g.A.Aim.aims (aim_of t') in
    let falls = g.A.Aim.falls (aim_of t') in
    let w1 = c.step_to-made.new.worker in
    let m1 = c.step_to-made.new.memo in
    let made1 = c.step_to-made.ensures.made in
    let w2 = c.step_to-made-2.new.worker in
    let m2 = c.step_to-made-2.new.memo in
    let made2 = c.step_to-made-2.ensures.made in
    let low = c.in-Ok.below.number in
    let high = c.in-Ok-made.above.number in
    let whole = moved_whole t' aim falls rule at s step w w1 w2 m r q low high next c.requires.stays asked made1.keeps made2.keeps c.in-Ok.ensures.ok c.in-Ok-made.ensures.ok in
    IfErr-weaker c.make.result _ _ (λ e lacks. lacks_whole t' (seen c.make.new.self) e (passed_from rule at s (meaning (seen w) r) (meaning (seen w) q)) (chosen v (meaning (seen w2) low) (meaning (seen w2) high)) whole.is lacks) c.make.ensures.full

pub step_to-step_from-requires-clause-asked : goal.step_to-step_from-requires-clause-asked
step_to-step_from-requires-clause-asked g t c κs within =
    let t' = c.args.table.now in
    let rule = c.args.rule.now in
    let at = c.args.at in
    let s = c.args.states in
    let w = c.args.worker.now in
    let m = c.args.memo.now in
    let r = c.args.r.number in
    let q = c.args.g.number in
    let step = c.args.step in
    let v = step.variable in
    let lo = c.args.cut.low.number in
    let hi = c.args.cut.high.number in
    let gl = c.args.told.low.number in
    let gh = c.args.told.high.number in
    let asked = c.requires.asked in
    let next = c.requires.next in
    let after = c.args.after in
    let from = step.variable + 1 in
    let from_is : from ≡ v + 1 = omega arith in
    let s1 = c.next-kept.result in
    let s1_is = c.next-kept.ensures in
    let aim = g.A.Aim.aims (aim_of t') in
    let falls = g.A.Aim.falls (aim_of t') in
    asked_moved t' aim falls rule at s s1 from step w m r q lo gl false after next from_is s1_is c.requires.after c.requires.halved.low c.requires.taken.0 asked

pub step_to-returns-in-Err-clause-full : goal.step_to-returns-in-Err-clause-full
step_to-returns-in-Err-clause-full g t c =
    let t' = c.args.table.now in
    let rule = c.args.rule.now in
    let at = c.args.at in
    let s = c.args.states in
    let w = c.args.worker.now in
    let m = c.args.memo.now in
    let r = c.args.r.number in
    let q = c.args.g.number in
    let step = c.args.step in
    let v = step.variable in
    let lo = c.args.cut.low.number in
    let hi = c.args.cut.high.number in
    let gl = c.args.told.low.number in
    let gh = c.args.told.high.number in
    let asked = c.requires.asked in
    let next = c.requires.next in
    let after = c.args.after in
    let from = step.variable + 1 in
    let from_is : from ≡ v + 1 = omega arith in
    let s1 = c.next-kept.result in
    let s1_is = c.next-kept.ensures in
    let w1 = c.step_from.new.worker in
    let m1 = c.step_from.new.memo in
    let made1 = c.step_from.ensures.made in
    low_lacks t' rule (seen w1) c.in-Err.full at s s1 step (meaning (seen w) r) (meaning (seen w) q) (meaning (seen w) lo) (meaning (seen w) gl) after s1_is (part_is rule at step next (seen w) false r q lo gl asked.telling c.requires.halved.low.1 c.requires.taken.0) c.in-Err.ensures.full

pub step_to-step_from-requires-2-clause-asked : goal.step_to-step_from-requires-2-clause-asked
step_to-step_from-requires-2-clause-asked g t c κs within =
    let t' = c.args.table.now in
    let rule = c.args.rule.now in
    let at = c.args.at in
    let s = c.args.states in
    let w = c.args.worker.now in
    let m = c.args.memo.now in
    let r = c.args.r.number in
    let q = c.args.g.number in
    let step = c.args.step in
    let v = step.variable in
    let lo = c.args.cut.low.number in
    let hi = c.args.cut.high.number in
    let gl = c.args.told.low.number in
    let gh = c.args.told.high.number in
    let asked = c.requires.asked in
    let next = c.requires.next in
    let after = c.args.after in
    let from = step.variable + 1 in
    let from_is : from ≡ v + 1 = omega arith in
    let s1 = c.next-kept.result in
    let s1_is = c.next-kept.ensures in
    let aim = g.A.Aim.aims (aim_of t') in
    let falls = g.A.Aim.falls (aim_of t') in
    let w1 = c.step_from.new.worker in
    let m1 = c.step_from.new.memo in
    let made1 = c.step_from.ensures.made in
    let s2 = c.next-kept-2.result in
    let s2_is = c.next-kept-2.ensures in
    let asked1 = asked_still t' aim falls rule at s v w w1 m m1 r q asked made1 in
    let halved1 = halved_still (seen w) (seen w1) made1.keeps v r lo hi asked.known c.requires.halved in
    asked_moved t' aim falls rule at s s2 from step w1 m1 r q hi gh true after next from_is s2_is c.requires.after halved1.high (taken_still (seen w) (seen w1) made1.keeps step.told true q gh asked.told c.requires.taken.1) asked1

pub step_to-returns-in-Err-step_from-clause-made : goal.step_to-returns-in-Err-step_from-clause-made
step_to-returns-in-Err-step_from-clause-made g t c =
    let t' = c.args.table.now in
    let rule = c.args.rule.now in
    let at = c.args.at in
    let s = c.args.states in
    let w = c.args.worker.now in
    let m = c.args.memo.now in
    let r = c.args.r.number in
    let q = c.args.g.number in
    let step = c.args.step in
    let v = step.variable in
    let lo = c.args.cut.low.number in
    let hi = c.args.cut.high.number in
    let gl = c.args.told.low.number in
    let gh = c.args.told.high.number in
    let asked = c.requires.asked in
    let next = c.requires.next in
    let after = c.args.after in
    let from = step.variable + 1 in
    let from_is : from ≡ v + 1 = omega arith in
    let s1 = c.next-kept.result in
    let s1_is = c.next-kept.ensures in
    let w1 = c.step_from.new.worker in
    let m1 = c.step_from.new.memo in
    let made1 = c.step_from.ensures.made in
    let w2 = c.step_from-2.new.worker in
    let m2 = c.step_from-2.new.memo in
    let made2 = c.step_from-2.ensures.made in
    made_more t' rule w w1 w2 m1 m2 made1 made2

pub step_to-returns-in-Err-step_from-clause-full : goal.step_to-returns-in-Err-step_from-clause-full
step_to-returns-in-Err-step_from-clause-full g t c =
    let t' = c.args.table.now in
    let rule = c.args.rule.now in
    let at = c.args.at in
    let s = c.args.states in
    let w = c.args.worker.now in
    let m = c.args.memo.now in
    let r = c.args.r.number in
    let q = c.args.g.number in
    let step = c.args.step in
    let v = step.variable in
    let lo = c.args.cut.low.number in
    let hi = c.args.cut.high.number in
    let gl = c.args.told.low.number in
    let gh = c.args.told.high.number in
    let asked = c.requires.asked in
    let next = c.requires.next in
    let after = c.args.after in
    let from = step.variable + 1 in
    let from_is : from ≡ v + 1 = omega arith in
    let s1 = c.next-kept.result in
    let s1_is = c.next-kept.ensures in
    let w1 = c.step_from.new.worker in
    let m1 = c.step_from.new.memo in
    let made1 = c.step_from.ensures.made in
    let w2 = c.step_from-2.new.worker in
    let m2 = c.step_from-2.new.memo in
    let made2 = c.step_from-2.ensures.made in
    let s2 = c.next-kept-2.result in
    let s2_is = c.next-kept-2.ensures in
    high_lacks t' rule (seen w2) c.in-Err-step_from.full at s s2 step (meaning (seen w) r) (meaning (seen w) q) (meaning (seen w1) hi) (meaning (seen w1) gh) after s2_is (part_later rule at step next (seen w) (seen w1) made1.keeps true r q hi gh asked.told asked.telling c.requires.halved.high c.requires.taken.1) c.in-Err-step_from.ensures.full

pub step_to-or-requires-clause-aim : goal.step_to-or-requires-clause-aim
step_to-or-requires-clause-aim g t c κs within =
    let t' = c.args.table.now in
    let rule = c.args.rule.now in
    let at = c.args.at in
    let s = c.args.states in
    let w = c.args.worker.now in
    let m = c.args.memo.now in
    let r = c.args.r.number in
    let q = c.args.g.number in
    let step = c.args.step in
    let v = step.variable in
    let lo = c.args.cut.low.number in
    let hi = c.args.cut.high.number in
    let gl = c.args.told.low.number in
    let gh = c.args.told.high.number in
    let asked = c.requires.asked in
    let next = c.requires.next in
    let after = c.args.after in
    let from = step.variable + 1 in
    let from_is : from ≡ v + 1 = omega arith in
    let s1 = c.next-kept.result in
    let s1_is = c.next-kept.ensures in
    let aim = g.A.Aim.aims (aim_of t') in
    let falls = g.A.Aim.falls (aim_of t') in
    let w1 = c.step_from.new.worker in
    let m1 = c.step_from.new.memo in
    let made1 = c.step_from.ensures.made in
    let w2 = c.step_from-2.new.worker in
    let m2 = c.step_from-2.new.memo in
    let made2 = c.step_from-2.ensures.made in
    let s2 = c.next-kept-2.result in
    let s2_is = c.next-kept-2.ensures in
    let first = c.in-Ok.first.number in
    let second = c.in-Ok-step_from.second.number in
    let whole = parts_joined t' aim falls rule at s s1 s2 step w w1 w2 m r q lo hi gl gh first second after next s1_is s2_is c.requires.after c.requires.halved c.requires.taken.0 c.requires.taken.1 asked made1.keeps made2.keeps c.in-Ok.ensures.ok c.in-Ok-step_from.ensures.ok in
    whole.2

pub step_to-returns-clause-made : goal.step_to-returns-clause-made
step_to-returns-clause-made g t c =
    let t' = c.args.table.now in
    let rule = c.args.rule.now in
    let at = c.args.at in
    let s = c.args.states in
    let w = c.args.worker.now in
    let m = c.args.memo.now in
    let r = c.args.r.number in
    let q = c.args.g.number in
    let step = c.args.step in
    let v = step.variable in
    let lo = c.args.cut.low.number in
    let hi = c.args.cut.high.number in
    let gl = c.args.told.low.number in
    let gh = c.args.told.high.number in
    let asked = c.requires.asked in
    let next = c.requires.next in
    let after = c.args.after in
    let from = step.variable + 1 in
    let from_is : from ≡ v + 1 = omega arith in
    let s1 = c.next-kept.result in
    let s1_is = c.next-kept.ensures in
    let w1 = c.step_from.new.worker in
    let m1 = c.step_from.new.memo in
    let made1 = c.step_from.ensures.made in
    let w2 = c.step_from-2.new.worker in
    let m2 = c.step_from-2.new.memo in
    let made2 = c.step_from-2.ensures.made in
    made_then t' rule w w2 c.or.new.self m2 (made_more t' rule w w1 w2 m1 m2 made1 made2) c.or.ensures.worker c.or.ensures.keeps

pub step_to-returns-clause-ok : goal.step_to-returns-clause-ok
step_to-returns-clause-ok g t c =
    let t' = c.args.table.now in
    let rule = c.args.rule.now in
    let at = c.args.at in
    let s = c.args.states in
    let w = c.args.worker.now in
    let m = c.args.memo.now in
    let r = c.args.r.number in
    let q = c.args.g.number in
    let step = c.args.step in
    let v = step.variable in
    let lo = c.args.cut.low.number in
    let hi = c.args.cut.high.number in
    let gl = c.args.told.low.number in
    let gh = c.args.told.high.number in
    let asked = c.requires.asked in
    let next = c.requires.next in
    let after = c.args.after in
    let from = step.variable + 1 in
    let from_is : from ≡ v + 1 = omega arith in
    let s1 = c.next-kept.result in
    let s1_is = c.next-kept.ensures in
    let aim = g.A.Aim.aims (aim_of t') in
    let falls = g.A.Aim.falls (aim_of t') in
    let w1 = c.step_from.new.worker in
    let m1 = c.step_from.new.memo in
    let made1 = c.step_from.ensures.made in
    let w2 = c.step_from-2.new.worker in
    let m2 = c.step_from-2.new.memo in
    let made2 = c.step_from-2.ensures.made in
    let s2 = c.next-kept-2.result in
    let s2_is = c.next-kept-2.ensures in
    let first = c.in-Ok.first.number in
    let second = c.in-Ok-step_from.second.number in
    let whole = parts_joined t' aim falls rule at s s1 s2 step w w1 w2 m r q lo hi gl gh first second after next s1_is s2_is c.requires.after c.requires.halved c.requires.taken.0 c.requires.taken.1 asked made1.keeps made2.keeps c.in-Ok.ensures.ok c.in-Ok-step_from.ensures.ok in
    IfOk-weaker c.or.result _ _ (λ n is. (is.0, is.1 ∙ whole.3)) c.or.ensures.ok

pub step_to-returns-clause-full : goal.step_to-returns-clause-full
step_to-returns-clause-full g t c =
    let t' = c.args.table.now in
    let rule = c.args.rule.now in
    let at = c.args.at in
    let s = c.args.states in
    let w = c.args.worker.now in
    let m = c.args.memo.now in
    let r = c.args.r.number in
    let q = c.args.g.number in
    let step = c.args.step in
    let v = step.variable in
    let lo = c.args.cut.low.number in
    let hi = c.args.cut.high.number in
    let gl = c.args.told.low.number in
    let gh = c.args.told.high.number in
    let asked = c.requires.asked in
    let next = c.requires.next in
    let after = c.args.after in
    let from = step.variable + 1 in
    let from_is : from ≡ v + 1 = omega arith in
    let s1 = c.next-kept.result in
    let s1_is = c.next-kept.ensures in
    let aim = g.A.Aim.aims (aim_of t') in
    let falls = g.A.Aim.falls (aim_of t') in
    let w1 = c.step_from.new.worker in
    let m1 = c.step_from.new.memo in
    let made1 = c.step_from.ensures.made in
    let w2 = c.step_from-2.new.worker in
    let m2 = c.step_from-2.new.memo in
    let made2 = c.step_from-2.ensures.made in
    let s2 = c.next-kept-2.result in
    let s2_is = c.next-kept-2.ensures in
    let first = c.in-Ok.first.number in
    let second = c.in-Ok-step_from.second.number in
    let whole = parts_joined t' aim falls rule at s s1 s2 step w w1 w2 m r q lo hi gl gh first second after next s1_is s2_is c.requires.after c.requires.halved c.requires.taken.0 c.requires.taken.1 asked made1.keeps made2.keeps c.in-Ok.ensures.ok c.in-Ok-step_from.ensures.ok in
    IfErr-weaker c.or.result _ _ (λ e lacks. lacks_whole t' (seen c.or.new.self) e (parted rule.accepted step (drop (at + 1) rule.moves.items) s after (meaning (seen w) r) (meaning (seen w) q)) (either (meaning (seen w2) first) (meaning (seen w2) second)) whole.3 lacks) c.or.ensures.full
