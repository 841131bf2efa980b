use Rattle.std.proofs.Math.Logic.{∥∥₁_elim, ∥∥₁_prop}
use Rattle.ja_node_table.proofs.Taken.{taken_functions}
use Rattle.ja_node_table.proofs.full.Full.law_functions.Goals as goal

pub returns : goal.returns
returns g c = let f = c.args.self.now in ∥∥₁_elim f.taken ∥∥₁_prop (λ taken. ∣ taken_functions g.A.Aim.aims record { aim = f.aim; slots = f.slots } f.word taken ∣₁)
