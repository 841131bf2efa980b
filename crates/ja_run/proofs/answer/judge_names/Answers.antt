use Rattle.std.proofs.Common.{◌≡◌, ◌<◌, List, [], ◌∷◌, IfSome, lit<, subst}
use Rattle.std.specs.Prelude.{IsPermutation}
use Rattle.std.proofs.lemmas.Result.{IfOk-weaker}
use Rattle.ja_io.specs.Contents.{Contents, names_of}
use Rattle.ja_run.specs.declared.answer.Answer.{Answer}
use Rattle.ja_run.specs.Due.{ComesTo, without_files, too_many}
use Rattle.ja_run.specs.Status.{number_of}
use Rattle.ja_run.proofs.Judged.{ComesByName, judged_one}
use Rattle.ja_run.proofs.Told.{if_some, no_files, no_names, one_file, one_of_names, second_of_names}
use Rattle.ja_run.proofs.answer.judge_names.Goals as goal

pub judge_file-requires : goal.judge_file-requires
judge_file-requires g c held told =
    let names = one_of_names c.args.names.now c.name-item.result c.in-len1.len_at_least c.in-len1.len_below c.name-item.is in
    let listed : IsPermutation (names_of held.files) (c.name-item.result ∷ []) = rw names at (c.requires.each held told) in
    let one = one_file held.files c.name-item.result listed in
    rw one.1 (0, lit< tt, one.2)

pub returns-in_ok-report_without_files-in-empty-clause-judged : goal.returns-in_ok-report_without_files-in-empty-clause-judged
returns-in_ok-report_without_files-in-empty-clause-judged g c =
    if_some _ (λ (held : Contents). ComesTo held.files 0 c.in_ok-report_without_files-in-empty.field-0.items) (λ held told.
    let none = no_names c.args.names.now c.in-empty.len_below in
    let listed : IsPermutation (names_of held.files) [] = rw none at (c.requires.each held told) in
    rw c.in_ok-report_without_files-in-empty.ensures (without_files (no_files held.files listed)))

pub returns-in-len1-clause-judged : goal.returns-in-len1-clause-judged
returns-in-len1-clause-judged g c =
    let names = one_of_names c.args.names.now c.name-item.result c.in-len1.len_at_least c.in-len1.len_below c.name-item.is in
    let told = g.F.Folder.told c.args.folder.now in
    IfOk-weaker c.judge_file.result
    (λ (a : Answer). IfSome told (ComesByName c.name-item.result (number_of a.status) a.text.items))
    (λ (a : Answer). IfSome told (λ held. ComesTo held.files (number_of a.status) a.text.items))
    (λ a judged. if_some told (λ (held : Contents). ComesTo held.files (number_of a.status) a.text.items) (λ held is.
    judged_one told held c.name-item.result (number_of a.status) a.text.items is (rw names at (c.requires.each held is)) judged))
    c.judge_file.ensures.judged

pub returns-in_ok-refusal-in-len2-up-clause-judged : goal.returns-in_ok-refusal-in-len2-up-clause-judged
returns-in_ok-refusal-in-len2-up-clause-judged g c =
    if_some _ (λ (held : Contents). ComesTo held.files (number_of c.in_ok-refusal-in-len2-up.field-0.status) c.in_ok-refusal-in-len2-up.field-0.text.items) (λ held told.
    rw (c.in_ok-refusal-in-len2-up.ensures.status, c.in_ok-refusal-in-len2-up.ensures.text)
    (too_many c.second-item.result (record {
      names = c.args.names.now;
      each = c.requires.each held told;
      ordered = c.requires.ordered;
      second = second_of_names c.args.names.now c.second-item.result c.in-len2-up.len_at_least c.second-item.is;
    })))
