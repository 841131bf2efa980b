use Rattle.std.proofs.Common.{◌≡◌, true, false, get_or, take, sym, subst, ◌∙◌, arith}
use Rattle.std.proofs.lemmas.Bool.{false≢true}
use Rattle.std.proofs.lemmas.List.{take_all}
use Rattle.ja_bytes.proofs.ClassName.{Runs, name_ends, name_stuck, name_cut, runs_on, not_allowed}
use Rattle.ja_bytes.proofs.type_text.class_text_len.Goals as goal
use Rattle.ja_bytes.proofs.type_text.class_text_len.Goals.{else-inside-via-then-inside+else-byte-eq59, else-inside-via-else-inside}

pub returns-then-byte-eq59-clause-ok : goal.returns-then-byte-eq59-clause-ok
returns-then-byte-eq59-clause-ok c =
    name_ends c.args.bytes.now c.loop-i.i c.loop-i-test.true (subst (λ t. Runs false (take c.loop-i.i c.args.bytes.now) t) c.if-inside.true c.loop-i.invariant) c.if-byte-eq59.true

pub returns-in-None-clause-stuck : goal.returns-in-None-clause-stuck
returns-in-None-clause-stuck c =
    let b = get_or c.args.bytes.now c.loop-i.i 0 in
    let open_name : b ≡ 59 → c.loop-i.inside ≡ true → ⊥ = elim c.else-inside.branch [
      | else-inside-via-then-inside+else-byte-eq59 w ↦ λ e t. w.if-byte-eq59.false e
      | else-inside-via-else-inside w ↦ λ e t. false≢true (sym w.if-inside.false ∙ t)
    ] in
    name_stuck c.args.bytes.now c.loop-i.i c.loop-i.inside c.loop-i-test.true c.loop-i.invariant (not_allowed c.loop-i.inside b c.in-None.ensures.none open_name)

pub loop-i-preserved : goal.loop-i-preserved
loop-i-preserved c = runs_on c.args.bytes.now c.loop-i.i c.loop-i.inside c.in-Some.after c.loop-i-test.true c.loop-i.invariant c.in-Some.ensures.follows

pub returns-clause-stuck : goal.returns-clause-stuck
returns-clause-stuck c =
    name_cut c.args.bytes.now c.loop-i.inside (subst (λ xs. Runs false xs c.loop-i.inside) (take_all c.loop-i.i c.args.bytes.now (omega arith)) c.loop-i.invariant)
