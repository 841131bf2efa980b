use Rattle.std.proofs.Common.{sym, ◌∙◌}
use Rattle.indexmap.proofs.CallerLemmas.{Contains-list_any}
use Rattle.ja_network.specs.Facts.{same_event, events_of}
use Rattle.ja_network.proofs.Same.{event_decides}
use Rattle.ja_network.proofs.Steps.{any-contains}
use Rattle.ja_network.proofs.network.Network.happens.Goals as goal

pub returns : goal.returns
returns c = (
  λ h. Contains-list_any same_event (λ x y. (event_decides x y).0) (events_of c.args.self.now) c.args.event (sym c.contains.ensures ∙ h),
  λ h. c.contains.ensures ∙ any-contains (events_of c.args.self.now) c.args.event h,
)
