use Rattle.std.specs.Prelude.{IsPermutation}
use Rattle.std.proofs.lemmas.List.Sorted.{IsPermutation-trans}
use Rattle.ja_io.specs.Contents.{Contents, names_of}
use Rattle.ja_reading.proofs.Steps.{at_some, if_some}
use Rattle.ja_reading.proofs.judgement.names_in_order.Goals as goal

pub returns-clause-each : goal.returns-clause-each
returns-clause-each g c =
    if_some _ _ (λ held told.
    let listed : IsPermutation (names_of held.files) c.in_ok-list.field-0 =
    at_some _ (λ (h : Contents). IsPermutation (names_of h.files) c.in_ok-list.field-0) held told c.in_ok-list.ensures.names in
    IsPermutation-trans _ _ _ (rw (← c.into_vec-names.ensures) at listed) c.in_ok-sort.ensures.permutation)
