use Rattle.std.proofs.Common.{arith}
use Rattle.ja_lower.proofs.Answered.{no-places, places-all}
use Rattle.ja_lower.proofs.place.places_of.Goals as goal

pub loop-c-init : goal.loop-c-init
loop-c-init c = no-places c.args.classes.now c.new-places.result c.new-places.ensures

pub returns : goal.returns
returns c = places-all c.args.classes.now c.loop-c.c c.loop-c.places (omega arith) c.loop-c.invariant
