use Rattle.std.proofs.Common.{◌≡◌, ◌≤◌, true, false, List, ℕ, length, take, subst, arith, lit≤, ap, sym, ◌∙◌}
use Rattle.std.proofs.lemmas.List.{length-take}
use Rattle.ja_io.specs.Front.{IsFront}
use Rattle.ja_run.specs.Due.{IsClassFileName}
use Rattle.ja_run.specs.Status.{number_of}
use Rattle.ja_run.proofs.Judged.{ComesByName, front_of_one, too_long, unbuilt_file, whole_read}
use Rattle.ja_run.proofs.Told.{if_some}
use Rattle.ja_run.proofs.answer.judge_file.Goals as goal

pub returns-then-not-is_class_file-clause-judged : goal.returns-then-not-is_class_file-clause-judged
returns-then-not-is_class_file-clause-judged g c =
    if_some _ (ComesByName c.args.name.now (number_of c.in_ok-refusal.field-0.status) c.in_ok-refusal.field-0.text.items) (λ held told file one named.
    rw one (unbuilt_file c.args.name.now _ _ file named
    (λ m first.
    let class : c.is_class_file.result ≡ true = c.is_class_file.ensures.1 (subst IsClassFileName named first.named) in
    cc (class, c.if-not-is_class_file.true))
    c.in_ok-refusal.ensures.status c.in_ok-refusal.ensures.text))

pub returns-then-piece-clause-judged : goal.returns-then-piece-clause-judged
returns-then-piece-clause-judged g c =
    if_some _ (ComesByName c.args.name.now (number_of c.in_ok-refusal-2.field-0.status) c.in_ok-refusal-2.field-0.text.items) (λ held told file one named.
    let front = front_of_one _ held c.args.name.now 4194304 c.in_ok-piece.piece told c.in_ok-piece.ensures.front file one named in
    rw one (unbuilt_file c.args.name.now _ _ file named (too_long file 4194304 c.in_ok-piece.piece (lit≤ tt) front c.if-piece.true)
    c.in_ok-refusal-2.ensures.status c.in_ok-refusal-2.ensures.text))

pub returns-clause-judged : goal.returns-clause-judged
returns-clause-judged g c =
    if_some _ (ComesByName c.args.name.now (number_of c.in_ok-judge_class.field-0.status) c.in_ok-judge_class.field-0.text.items) (λ held told file one named.
    let front : IsFront file.bytes 4194304 c.in_ok-piece.piece =
    front_of_one _ held c.args.name.now 4194304 c.in_ok-piece.piece told c.in_ok-piece.ensures.front file one named in
    let whole = whole_read file 4194304 c.in_ok-piece.piece c.as_slice.result.now front c.if-piece.false c.as_slice.ensures in
    rw one (c.in_ok-judge_class.ensures.judged file named whole.0 whole.1))
