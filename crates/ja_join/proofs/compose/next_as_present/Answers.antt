use Rattle.std.proofs.Common.{◌∙◌}
use Rattle.ja_bdd.specs.Variables.{partner_of}
use Rattle.ja_join.proofs.Composing.{none_earlier, more_earlier}
use Rattle.ja_join.proofs.compose.next_as_present.Goals as goal

pub loop-place-init : goal.loop-place-init
loop-place-init c v le = c.new-renaming.ensures v le ∙ none_earlier v

pub loop-place-preserved : goal.loop-place-preserved
loop-place-preserved c = more_earlier c.loop-place.place (partner_of c.loop-place.renaming) (partner_of c.put.new.self) c.loop-place.invariant c.put.ensures.partner c.put.ensures.others
