use Rattle.std.proofs.Common.{◌≡◌, sym}
use Rattle.ja_node_core.specs.Word.{var_of, low_of, high_of}
use Rattle.ja_node_table.specs.Seats.{known}
use Rattle.ja_bdd.specs.Meaning.{meaning}
use Rattle.ja_bdd.proofs.Sound.{seat_sound, knows_constant, meaning_constant, meaning_one}
use Rattle.ja_bdd.proofs.Parts.{halved_at}
use Rattle.ja_bdd.proofs.Joining.{chosen_is}
use Rattle.ja_bdd.proofs.worker.Worker.law_meaning.Goals as goal

pub returns-clause-constants : goal.returns-clause-constants
returns-clause-constants g c b = let s = c.args.self.now.seat in (knows_constant (known s) b, meaning_constant (known s) (seat_sound s) b)

pub returns-clause-nodes : goal.returns-clause-nodes
returns-clause-nodes g c n big x =
    let s = c.args.self.now.seat in
    let k = known s in
    let half = halved_at k (seat_sound s) n big x in
    sym (chosen_is k (var_of (k n)) (low_of (k n)) (high_of (k n)) (meaning k n) half.low half.high)

pub returns-clause-one_node : goal.returns-clause-one_node
returns-clause-one_node g c f h x y same = let s = c.args.self.now.seat in meaning_one (known s) (seat_sound s) f h x y same
