use Rattle.std.proofs.Common.{◌≡◌, ◌≤◌, Some, IfSome, ap, sym, ◌∙◌, subst, arith}
use Rattle.std.specs.Prelude.{IsPermutation, count_by}
use Rattle.std.proofs.lemmas.Result.{IfOk-weaker}
use Rattle.ja_io.specs.Contents.{Contents, HasDistinctNames, names_of}
use Rattle.ja_lower.specs.Folder.{is_read}
use Rattle.ja_reading.specs.Judgement.{ComesTo}
use Rattle.ja_reading.specs.Unread.{AreRefused}
use Rattle.ja_reading.specs.declared.judgement.Judgement.{Judgement}
use Rattle.ja_reading.specs.declared.judgement.Judgement.TheVariants.{Accepted, Refused}
use Rattle.ja_reading.proofs.Steps.{at_some, if_some}
use Rattle.ja_reading.proofs.Unread.{count_in_order, refused_in_order}
use Rattle.ja_reading.proofs.Whole.{accepted_is, refused_is}
use Rattle.ja_reading.proofs.judgement.judge_folder.Goals as goal

pub returns-clause-accepts : goal.returns-clause-accepts
returns-clause-accepts g c program = if_some (g.F.Folder.told c.args.folder.now) _ (λ held is accepts.
    let told = g.F.Folder.told c.names_in_order.new.folder in
    let now : told ≡ Some held = c.names_in_order.ensures.held ∙ c.enter.ensures.held ∙ is in
    let distinct : HasDistinctNames held.files = at_some told (λ (h : Contents). HasDistinctNames h.files) held now c.names_in_order.ensures.distinct in
    IfOk-weaker c.judge_names.result (λ (j : Judgement). IfSome told (λ (h : Contents). ComesTo h.files j)) (λ (j : Judgement). j ≡ Accepted program)
    (λ j comes. accepted_is c.law_one_verdict.ensures.one_program c.law_one_verdict.ensures.not_both held.files program j distinct accepts
    (at_some told (λ (h : Contents). ComesTo h.files j) held now comes))
    c.judge_names.ensures.judged)

pub returns-clause-refuses : goal.returns-clause-refuses
returns-clause-refuses g c refusal = if_some (g.F.Folder.told c.args.folder.now) _ (λ held is refuses.
    let told = g.F.Folder.told c.names_in_order.new.folder in
    let now : told ≡ Some held = c.names_in_order.ensures.held ∙ c.enter.ensures.held ∙ is in
    let distinct : HasDistinctNames held.files = at_some told (λ (h : Contents). HasDistinctNames h.files) held now c.names_in_order.ensures.distinct in
    IfOk-weaker c.judge_names.result (λ (j : Judgement). IfSome told (λ (h : Contents). ComesTo h.files j)) (λ (j : Judgement). j ≡ Refused refusal)
    (λ j comes. refused_is c.law_one_verdict.ensures.one_refusal c.law_one_verdict.ensures.not_both held.files refusal j distinct refuses
    (at_some told (λ (h : Contents). ComesTo h.files j) held now comes))
    c.judge_names.ensures.judged)

pub returns-clause-reads : goal.returns-clause-reads
returns-clause-reads g c = if_some (g.F.Folder.told c.args.folder.now) _ (λ held is.
    let told = g.F.Folder.told c.enter.new.self in
    let each : IsPermutation (names_of held.files) c.in_ok-names.names.items =
    at_some told (λ (h : Contents). IsPermutation (names_of h.files) c.in_ok-names.names.items) held (c.enter.ensures.held ∙ is) c.in_ok-names.ensures.each in
    let count : count_by is_read c.as_slice.result.now ≡ count_by is_read (names_of held.files) =
    ap (count_by is_read) c.as_slice.ensures.value ∙ count_in_order is_read (names_of held.files) c.in_ok-names.names.items each in
    omega (arith, count, c.judge_names.ensures.reads, c.names_in_order.ensures.calls, c.enter.ensures.counted))

pub returns-clause-unread : goal.returns-clause-unread
returns-clause-unread g c = if_some (g.F.Folder.told c.args.folder.now) _ (λ held is refused.
    let told = g.F.Folder.told c.enter.new.self in
    let each : IsPermutation (names_of held.files) c.in_ok-names.names.items =
    at_some told (λ (h : Contents). IsPermutation (names_of h.files) c.in_ok-names.names.items) held (c.enter.ensures.held ∙ is) c.in_ok-names.ensures.each in
    let none : g.F.Folder.calls c.judge_names.new.folder ≤ g.F.Folder.calls c.names_in_order.new.folder =
    c.judge_names.ensures.unread
    (subst AreRefused (sym c.as_slice.ensures.value) (refused_in_order (names_of held.files) c.in_ok-names.names.items each refused)) in
    omega (arith, none, c.names_in_order.ensures.calls, c.enter.ensures.counted))
