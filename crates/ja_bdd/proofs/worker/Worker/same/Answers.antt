use Rattle.std.proofs.Common.{sym, ap, ◌∙◌}
use Rattle.ja_node_table.specs.Seats.{known}
use Rattle.ja_bdd.specs.Functions.{Function}
use Rattle.ja_bdd.proofs.Sound.{seat_sound, meaning_tree}
use Rattle.ja_bdd.proofs.worker.Worker.same.Goals as goal

pub returns : goal.returns
returns g c =
    let seat = c.args.self.now.seat in
    let (s, m) = c.requires.0 in
    let (t, o) = c.requires.1 in
    let f_is = meaning_tree (known seat) (seat_sound seat) s c.args.f.number m in
    let g_is = meaning_tree (known seat) (seat_sound seat) t c.args.g.number o in
    let same = c.same.ensures s t m o in (
      (λ is. f_is ∙ (λ i a. same.0 is a i) ∙ sym g_is),
      (λ is. same.1 (λ a. ap (λ (φ : Function). φ a) (sym f_is ∙ is ∙ g_is))),
    )
