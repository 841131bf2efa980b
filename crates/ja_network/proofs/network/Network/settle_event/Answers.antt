use Rattle.std.proofs.Common.{◌+◌, ap}
use Rattle.ja_network.proofs.Steps.{seen_network, seen_settles}
use Rattle.ja_network.proofs.network.Network.settle_event.Goals as goal

pub returns-clause-network : goal.returns-clause-network
returns-clause-network c =
    let k = c.in_ok-keep_link.ensures in
    seen_network c.args.self.now (record c.keep_link.new.self { seen = c.keep_link.new.self.seen + 1 }) c.args.event c.requires.network c.requires.next k.outside.tokens k.has k.fresh k.queued k.links k.outside.events
    (ap (λ n. n + 1) k.outside.seen) k.outside.turned k.turns

pub returns-clause-settles : goal.returns-clause-settles
returns-clause-settles c =
    let k = c.in_ok-keep_link.ensures in
    seen_settles c.args.self.now (record c.keep_link.new.self { seen = c.keep_link.new.self.seen + 1 }) c.args.event c.requires.network c.requires.next k.outside.tokens k.has k.fresh k.queued k.links k.outside.events
    (ap (λ n. n + 1) k.outside.seen) k.outside.turned k.turns
