use Rattle.std.proofs.Common.{true, false}
use Rattle.ja_bdd.specs.Workers.{seen}
use Rattle.ja_bdd.proofs.Sound.{seat_sound, knows_constant}
use Rattle.ja_bdd.proofs.Forgetting.{constant_from}
use Rattle.diagram_cases.proofs.pool.literal.Goals as goal

pub make-requires-clause-known : goal.make-requires-clause-known
make-requires-clause-known c κs = let k = seen c.args.worker.now in (knows_constant k false, knows_constant k true)

pub make-requires-clause-later : goal.make-requires-clause-later
make-requires-clause-later c κs = let s = c.args.worker.now.seat in (constant_from _ (seat_sound s) false _, constant_from _ (seat_sound s) true _)

pub make-requires-else-value-clause-known : goal.make-requires-else-value-clause-known
make-requires-else-value-clause-known c κs = let k = seen c.args.worker.now in (knows_constant k true, knows_constant k false)

pub make-requires-else-value-clause-later : goal.make-requires-else-value-clause-later
make-requires-else-value-clause-later c κs = let s = c.args.worker.now.seat in (constant_from _ (seat_sound s) true _, constant_from _ (seat_sound s) false _)
