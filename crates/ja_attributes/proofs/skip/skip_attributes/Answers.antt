use Rattle.std.proofs.Common.{arith}
use Rattle.std.specs.Prelude.{⊤}
use Rattle.std.proofs.lemmas.Result.{MatchResult-weaker}
use Rattle.ja_attributes.specs.Attribute.{PassesAny}
use Rattle.ja_attributes.specs.Faults.{any_attributes}
use Rattle.ja_attributes.proofs.Heads.{start_reads}
use Rattle.ja_attributes.proofs.Exact.{any_attributes_exact}
use Rattle.ja_attributes.proofs.Lists.{any_spelled, spelled_any}
use Rattle.ja_attributes.proofs.Answered.{read_ok, read_fault, read_only, read_first}
use Rattle.ja_attributes.proofs.skip.skip_attributes.Goals as goal

pub any_attributes-requires : goal.any_attributes-requires
any_attributes-requires c = λ some. absurd (omega (arith, some))

pub returns-clause-ok : goal.returns-clause-ok
returns-clause-ok c =
    let part = any_attributes c.args.pool.now in
    let old = c.args.c.now in
    let new = c.any_attributes.new.c in
    read_ok (λ (u : ⊤). u) part old new (λ _. PassesAny c.args.pool.now old new) (λ _ p. any_spelled c.args.pool.now old new p) c.any_attributes.result
    (start_reads (λ (u : ⊤). u) part old new c.any_attributes.result c.any_attributes.ensures)

pub returns-clause-only : goal.returns-clause-only
returns-clause-only c = λ other p.
    let part = any_attributes c.args.pool.now in
    let old = c.args.c.now in
    let new = c.any_attributes.new.c in
    MatchResult-weaker c.any_attributes.result
    (read_only (λ (u : ⊤). u) part old new (any_attributes_exact c.args.pool.now) c.any_attributes.result
    (start_reads (λ (u : ⊤). u) part old new c.any_attributes.result c.any_attributes.ensures) tt other (spelled_any c.args.pool.now old other p))
    (λ _ h. h.1) (λ _ h. h)

pub returns-clause-fault : goal.returns-clause-fault
returns-clause-fault c =
    let part = any_attributes c.args.pool.now in
    read_fault (λ (u : ⊤). u) part c.args.c.now c.any_attributes.new.c c.any_attributes.result
    (start_reads (λ (u : ⊤). u) part c.args.c.now c.any_attributes.new.c c.any_attributes.result c.any_attributes.ensures)

pub returns-clause-first : goal.returns-clause-first
returns-clause-first c =
    let part = any_attributes c.args.pool.now in
    read_first (λ (u : ⊤). u) part c.args.c.now c.any_attributes.new.c (any_attributes_exact c.args.pool.now) c.any_attributes.result
    (start_reads (λ (u : ⊤). u) part c.args.c.now c.any_attributes.new.c c.any_attributes.result c.any_attributes.ensures)
