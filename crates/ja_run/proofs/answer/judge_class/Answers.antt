use Rattle.std.proofs.Common.{◌≡◌, List, ℕ, subst, sym, refl, ap, Err}
use Rattle.ja_class.specs.FirstForm.{IsFirstForm}
use Rattle.ja_run.specs.Due.{IsAnalysis}
use Rattle.ja_run.specs.Status.{number_of}
use Rattle.ja_run.proofs.Judged.{analysed_file, unbuilt_file}
use Rattle.ja_run.proofs.answer.judge_class.Goals as goal

pub returns-in_ok-analysis-in-Ok-clause-judged : goal.returns-in_ok-analysis-in-Ok-clause-judged
returns-in_ok-analysis-in-Ok-clause-judged c file name-is bytes-is short =
    let P : List ℕ → Type 0 =
    λ name. IsAnalysis (record c.in-Ok.method { file = name }) (number_of c.in_ok-analysis-in-Ok.field-0.status) c.in_ok-analysis-in-Ok.field-0.text.items in
    analysed_file c.args.name.now c.args.bytes.now c.in-Ok.method _ _ c.requires short c.in-Ok.ensures.found
    (subst P c.in_ok-method-in-Ok.ensures c.in_ok-analysis-in-Ok.ensures.analysis) file name-is bytes-is

pub returns-in_ok-refusal-in-Err-Unbuilt-clause-judged : goal.returns-in_ok-refusal-in-Err-Unbuilt-clause-judged
returns-in_ok-refusal-in-Err-Unbuilt-clause-judged c file name-is bytes-is short =
    unbuilt_file c.args.name.now _ _ file name-is
    (λ m first. c.in-Err-Unbuilt.ensures.unbuilt (ap Err c.in-Err-Unbuilt.field-0-is) first.read (rw bytes-is at first.form))
    c.in_ok-refusal-in-Err-Unbuilt.ensures.status c.in_ok-refusal-in-Err-Unbuilt.ensures.text
