use Rattle.std.proofs.Common.{◌≡◌, Option, Some, None, List, sym, ap, ◌∙◌}
use Rattle.std.specs.Prelude.{slice_get}
use Rattle.std.proofs.lemmas.Option.{slice_get_past}
use Rattle.ja_ir.specs.declared.method.Method.{Method}
use Rattle.ja_ir.specs.Initializing.{inits_of_class}
use Rattle.ja_clauses.proofs.Ways.{params_few}
use Rattle.ja_explicit.specs.Tables.{items_of}
use Rattle.ja_explicit.specs.InnerStarts as starts
use Rattle.ja_explicit.proofs.Looping.{past_found, chain_none}
use Rattle.ja_explicit.proofs.environment.add_enters.Goals as goal

pub returns-then-entry-len : goal.returns-then-entry-len
returns-then-entry-len c =
    let e = c.args.entry.now in
    let none : slice_get c.args.p.now.methods e.method.0 ≡ None =
    slice_get_past c.args.p.now.methods e.method.0 (past_found c.args.p.now.methods c.methods.result.now c.len.result e.method.0 c.len.ensures c.methods.ensures.same c.if-entry-len.true) in
    chain_none c.args.out.now c.add_initializers_of.new.out (starts.initializers (inits_of_class (slice_get c.args.p.now.classes e.class.0))) (starts.opens c.args.p.now c.args.facts.now (items_of c.args.table.now) e (slice_get c.args.p.now.methods e.method.0))
    c.in_ok-add_initializers_of.ensures (ap (λ (o : Option Method). starts.opens c.args.p.now c.args.facts.now (items_of c.args.table.now) e o) none)

pub add_opens-requires-clause-few : goal.add_opens-requires-clause-few
add_opens-requires-clause-few c =
    let found : slice_get c.args.p.now.methods c.args.entry.now.method.0 ≡ Some c.at-method.result.now = ap (λ (ms : List Method). slice_get ms c.args.entry.now.method.0) (sym c.methods-2.ensures.same) ∙ c.at-method.ensures in
    params_few c.args.p.now c.args.entry.now.method.0 c.at-method.result.now c.methods.ensures.whole found
