use Rattle.std.proofs.Common.{◌≡◌, List, subst}
use Rattle.std.specs.Prelude.{IsPermutation}
use Rattle.ja_base.specs.declared.file.File.{File}
use Rattle.ja_io.specs.Contents.{Contents}
use Rattle.ja_lower.specs.Folder.{names_of, read_files}
use Rattle.ja_reading.specs.Judged.{AreJudgedOrLong}
use Rattle.ja_reading.specs.Judgement.{ComesTo}
use Rattle.ja_reading.specs.Unread.{AreReadable, IsByName}
use Rattle.ja_reading.specs.declared.judgement.Judgement.TheVariants.{Refused}
use Rattle.ja_reading.proofs.Ordered.{listed}
use Rattle.ja_reading.proofs.Steps.{at_some, if_some}
use Rattle.ja_reading.proofs.Whole.{in_order, refused_by_length, refused_by_names}
use Rattle.ja_reading.proofs.judgement.judge_names.Goals as goal

pub returns-in-Some-clause-judged : goal.returns-in-Some-clause-judged
returns-in-Some-clause-judged g c =
    if_some (g.F.Folder.told c.args.folder.now) (λ (held : Contents). ComesTo held.files (Refused c.in-Some.refusal)) (λ held is.
    let order = listed held.files c.args.names.now (c.requires.each held is) in
    refused_by_names held.files order.ordered c.in-Some.refusal (in_order held.files c.args.names.now order c.requires.ordered)
    (subst (IsByName order.ordered) c.in-Some.is (c.in_ok-refusal.ensures.refusal order.ordered order.named)))

pub returns-in_ok-conclude-in-Ok-clause-judged : goal.returns-in_ok-conclude-in-Ok-clause-judged
returns-in_ok-conclude-in-Ok-clause-judged g c =
    let told = g.F.Folder.told c.args.folder.now in
    if_some told (λ (held : Contents). ComesTo held.files c.in_ok-conclude-in-Ok.field-0) (λ held is.
    let order = listed held.files c.args.names.now (c.requires.each held is) in
    let by_name : AreReadable order.ordered = subst (IsByName order.ordered) c.in_default.is (c.in_ok-refusal.ensures.refusal order.ordered order.named) in
    let read : AreJudgedOrLong (read_files order.ordered) c.in_ok-judged.field-0 =
    at_some told (λ (h : Contents). (ordered : List File) → IsPermutation h.files ordered → names_of ordered ≡ c.args.names.now → AreJudgedOrLong (read_files ordered) c.in_ok-judged.field-0)
    held is c.in_ok-judged.ensures.judged order.ordered order.each order.named in
    c.in_ok-conclude-in-Ok.ensures held.files order.ordered (in_order held.files c.args.names.now order c.requires.ordered) by_name
    (subst (AreJudgedOrLong (read_files order.ordered)) c.in-Ok.is read))

pub returns-in-Err-clause-judged : goal.returns-in-Err-clause-judged
returns-in-Err-clause-judged g c =
    let told = g.F.Folder.told c.args.folder.now in
    if_some told (λ (held : Contents). ComesTo held.files (Refused c.in-Err.refusal)) (λ held is.
    let order = listed held.files c.args.names.now (c.requires.each held is) in
    let by_name : AreReadable order.ordered = subst (IsByName order.ordered) c.in_default.is (c.in_ok-refusal.ensures.refusal order.ordered order.named) in
    let read : AreJudgedOrLong (read_files order.ordered) c.in_ok-judged.field-0 =
    at_some told (λ (h : Contents). (ordered : List File) → IsPermutation h.files ordered → names_of ordered ≡ c.args.names.now → AreJudgedOrLong (read_files ordered) c.in_ok-judged.field-0)
    held is c.in_ok-judged.ensures.judged order.ordered order.each order.named in
    refused_by_length held.files order.ordered c.in-Err.refusal (in_order held.files c.args.names.now order c.requires.ordered) by_name
    (subst (AreJudgedOrLong (read_files order.ordered)) c.in-Err.is read))
