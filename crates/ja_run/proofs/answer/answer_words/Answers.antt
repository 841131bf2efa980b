use Rattle.std.proofs.Common.{◌≡◌, IfSome, refl}
use Rattle.ja_io.specs.Contents.{Contents}
use Rattle.ja_run.specs.declared.answer.Answer.{Answer}
use Rattle.ja_run.specs.Due.{ComesTo, IsDue, IsVerdictStatus, usage, answered}
use Rattle.ja_run.specs.Status.{number_of}
use Rattle.ja_run.proofs.Told.{both_ok}
use Rattle.ja_run.proofs.answer.answer_words.Goals as goal

pub returns-in-Some-clause-due : goal.returns-in-Some-clause-due
returns-in-Some-clause-due g c =
    let told = g.F.Folder.told c.args.folder.now in
    both_ok c.judge.result
    (λ (a : Answer). IfSome told (λ held. (held.dir ≡ c.in-Some.dir.now) × ComesTo held.files (number_of a.status) a.text.items))
    (λ (a : Answer). IsVerdictStatus (number_of a.status))
    (λ (a : Answer). IsDue c.args.words.now told (number_of a.status) a.text.items)
    (λ a judged due. answered c.in-Some.dir.now (number_of a.status) a.text.items c.in-Some.ensures.found judged due)
    c.judge.ensures.judged c.judge.ensures.due

pub returns-in_ok-usage_text-in-None-clause-due : goal.returns-in_ok-usage_text-in-None-clause-due
returns-in_ok-usage_text-in-None-clause-due g c =
    rw c.in_ok-usage_text-in-None.ensures (usage (c.in-None.ensures.wrong refl))
