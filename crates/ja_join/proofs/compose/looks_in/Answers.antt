use Rattle.std.proofs.Common.{sym, ◌∙◌}
use Rattle.ja_bdd.specs.Meaning.{meaning}
use Rattle.ja_bdd.specs.Workers.{seen}
use Rattle.ja_bdd.proofs.Sound.{seat_sound, meaning_small}
use Rattle.ja_join.proofs.Composing.{rest_looks, looks_rest}
use Rattle.ja_join.proofs.compose.looks_in.Goals as goal

pub returns-clause-ok : goal.returns-clause-ok
returns-clause-ok g c =
    let w = c.args.worker.now in
    let φ = meaning (seen w) c.args.n.number in
    let left = c.in-Ok.ensures.ok.1 in
    let kept = (c.project.ensures.keeps c.args.n.number c.requires.known).1 in (
      (λ is. rest_looks c.args.copies.now φ (meaning_small (seen w) (seat_sound w.seat) c.args.n.number c.requires.known) (sym left ∙ c.same.ensures.0 is ∙ kept)),
      (λ looks. c.same.ensures.1 (left ∙ looks_rest c.args.copies.now φ looks ∙ sym kept)),
    )
