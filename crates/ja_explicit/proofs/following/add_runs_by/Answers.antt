use Rattle.std.proofs.Common.{map, ◌++◌}
use Rattle.ja_ir.specs.Initializing.{inits_of}
use Rattle.ja_clauses.specs.Tables.{tests_by}
use Rattle.ja_tokens.specs.Shapes.{place_meant}
use Rattle.ja_explicit.specs.Tables.{items_of}
use Rattle.ja_explicit.specs.InnerSteps as steps
use Rattle.ja_explicit.specs.InnerRules.{standing}
use Rattle.ja_explicit.proofs.Looping.{chain}
use Rattle.ja_explicit.proofs.following.add_runs_by.Goals as goal

pub returns : goal.returns
returns c =
    let p = c.args.p.now in
    let f = c.args.facts.now in
    let items = items_of c.args.table.now in
    let s = standing c.args.standing_at.now in
    let h = c.args.here.now in
    let next = c.args.next.now in
    let places = map place_meant c.args.places.now in
    let o1 = c.add_goes_on.new.out in
    let o2 = c.add_throws.new.out in
    let o3 = c.add_initializes.new.out in
    let o4 = c.add_calls.new.out in
    let o5 = c.add_returns.new.out in
    let o6 = c.add_writes.new.out in
    let o7 = c.add_takes.new.out in
    let l7 = steps.takes p f s c.args.i h.op.now h.height in
    let l6 = steps.writes p s h.op.now h.height in
    let l5 = steps.returns s h.op.now h.height in
    let l4 = steps.calls p f items s c.args.i next places h.op.now h.height in
    let l3 = steps.initializes p f items s c.args.i h.height (inits_of p h.op.now) in
    let l2 = steps.throws s places (tests_by h.before) h.op.now h.height in
    let l1 = steps.goes_on p f items s (tests_by h.before) h.op.now h.height next in
    let e6 = chain o5 o6 o7 l6 l7 c.in_ok-add_writes.ensures c.in_ok-add_takes.ensures in
    let e5 = chain o4 o5 o7 l5 (l6 ++ l7) c.in_ok-add_returns.ensures e6 in
    let e4 = chain o3 o4 o7 l4 (l5 ++ (l6 ++ l7)) c.in_ok-add_calls.ensures e5 in
    let e3 = chain o2 o3 o7 l3 (l4 ++ (l5 ++ (l6 ++ l7))) c.in_ok-add_initializes.ensures e4 in
    let e2 = chain o1 o2 o7 l2 (l3 ++ (l4 ++ (l5 ++ (l6 ++ l7)))) c.in_ok-add_throws.ensures e3 in
    chain c.args.out.now o1 o7 l1 (l2 ++ (l3 ++ (l4 ++ (l5 ++ (l6 ++ l7))))) c.in_ok-add_goes_on.ensures e2
