use Rattle.std.proofs.Common.{zero, ap, ◌∙◌}
use Rattle.std.proofs.Crossing.{crosses, frees}
use denote.Param.Send.{sendable}
use Rattle.rayon.proofs.ToStd.{slice-AllZip}
use Rattle.ja_lower.specs.InnerAnswers.{IsAnswerAt}
use Rattle.ja_lower.proofs.Answered.{answers-from, each-place}
use Rattle.ja_lower.proofs.Sent.{hier-sync, class-sync, table-sync, answer-send}
use Rattle.ja_lower.proofs.answer.answers_of.Goals as goal

-- one line for each `Send` and `Sync`, the allocator, and then the closure's `requires` at each place
pub collect-requires : goal.collect-requires
collect-requires g c κs =
    let slice = ap (λ it. it.base.slice.now) c.map.ensures.base ∙ ap (λ it. it.slice.now) c.with_min_len.ensures.base ∙ c.par_iter.ensures ∙ c.as_slice-places.ensures in
    let each = each-place c.args.hier.now c.args.classes.now zero zero c.args.places.now c.requires.heads c.requires.few c.requires.places in
    (search (hier-sync, class-sync, table-sync, sendable, crosses) depth 40, (search (answer-send, sendable, crosses) depth 40, (search (answer-send, sendable, crosses) depth 40, (search (sendable, crosses) depth 40, (search (sendable, crosses) depth 40, (frees, rw (c.map.ensures.f, slice) (λ k d lt x e. (rw e (each k d lt), λ y p. tt))))))))

pub returns : goal.returns
returns g c =
    let slice = ap (λ it. it.base.slice.now) c.map.ensures.base ∙ ap (λ it. it.slice.now) c.with_min_len.ensures.base ∙ c.par_iter.ensures ∙ c.as_slice-places.ensures in
    let h = c.in_ok-answers.ensures in
    let chain = rw c.map.ensures.f at h.1 in
    rw h.2 (answers-from c.args.table.now c.args.classes.now zero zero c.args.places.now h.0 c.requires.places
    (slice-AllZip chain.0 c.args.places.now (chain.1 ∙ slice) (IsAnswerAt c.args.table.now c.args.classes.now) h.0 chain.2))
