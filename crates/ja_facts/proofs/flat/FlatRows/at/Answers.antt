use Rattle.std.proofs.Common.{◌+◌, ◌<◌, ◌≤◌, length, ap, ◌∙◌, arith}
use Rattle.std.specs.Prelude.{slice_get, slice_index_or, []}
use Rattle.std.proofs.Common.{List, ℕ}
use Rattle.ja_facts.proofs.Shared.{flat-at, flat-within}
use Rattle.ja_facts.proofs.flat.FlatRows.at.Goals as goal

pub overflow_add-span : goal.overflow_add-span
overflow_add-span c =
    let within = flat-within (length c.self.inside.items.items) c.self.inside.spans.items c.args.i c.index-span.result.now c.index-span.ensures c.self.invariant (omega arith) in
    omega arith

pub index-requires : goal.index-requires
index-requires c =
    let within = flat-within (length c.self.inside.items.items) c.self.inside.spans.items c.args.i c.index-span.result.now c.index-span.ensures c.self.invariant (omega arith) in
    omega arith

pub returns : goal.returns
returns c =
    let within = flat-within (length c.self.inside.items.items) c.self.inside.spans.items c.args.i c.index-span.result.now c.index-span.ensures c.self.invariant (omega arith) in
    flat-at c.self.inside.items.items c.self.inside.spans.items c.args.i c.args.k c.index.result.now c.index-span.result.now c.index-span.ensures (omega arith) (omega arith) (omega arith) c.index.ensures
    ∙ ap (λ (rows : List (List ℕ)). slice_get (slice_index_or rows c.args.i []) c.args.k) c.self.view_is
