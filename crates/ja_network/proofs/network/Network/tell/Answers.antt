use Rattle.std.proofs.Common.{refl}
use Rattle.ja_network.proofs.Steps.{told_network, told_extends}
use Rattle.ja_network.proofs.network.Network.tell.Goals as goal

pub returns-clause-network : goal.returns-clause-network
returns-clause-network c =
    told_network c.args.self.now (record c.args.self.now { events = c.insert_full.new.self }) c.args.event c.requires.network refl (λ d. refl) c.in_ok-insert_full.ensures.keys refl refl refl

pub returns-clause-extends : goal.returns-clause-extends
returns-clause-extends c =
    told_extends c.args.self.now (record c.args.self.now { events = c.insert_full.new.self }) c.args.event c.requires.network refl (λ d. refl) c.in_ok-insert_full.ensures.keys refl refl refl
