-- Each clause follows from what holds after every list of events.
use Rattle.std.specs.Prelude.{slice_index}
use Rattle.ja_node_core.specs.Machine.{word_at}
use Rattle.ja_node_core.proofs.Known.{stands_part}
use Rattle.ja_node_core.proofs.Functions.{one_node, one_function}
use Rattle.ja_node_core.proofs.Runs.{run_kept}
use Rattle.ja_node_core.proofs.law.law_canonical.Goals as goal

pub returns-clause-canonical : goal.returns-clause-canonical
returns-clause-canonical g c n es s run = (run_kept n (g.A.Aim.aims c.args.aim.now) es s run).canonical

pub returns-clause-stands : goal.returns-clause-stands
returns-clause-stands g c n es s run a known at = stands_part (slice_index s.words) known ((run_kept n (g.A.Aim.aims c.args.aim.now) es s run).stands a known at)

pub returns-clause-one_number : goal.returns-clause-one_number
returns-clause-one_number g c n es s run a known at f h t u m o =
    let aim = g.A.Aim.aims c.args.aim.now in
    let kept = run_kept n aim es s run in
    let part = stands_part (slice_index s.words) known (kept.stands a known at) in
    (one_node n aim (word_at known) (slice_index s.words) kept.canonical part t u f h m o, one_function (word_at known) t u f h m o)
