use Rattle.std.proofs.Common.{◌≡◌, ℕ, Bool, true, false, drop, List, refl, sym, ap, ◌∙◌}
use Rattle.std.specs.Prelude.{◌&&◌}
use Rattle.std.proofs.lemmas.Option.{IfSome_then}
use Rattle.ja_node_core.specs.Tree.{Assignment}
use Rattle.ja_node_core.specs.Node.{Words, Knows}
use Rattle.ja_bdd.specs.Functions.{Function}
use Rattle.ja_bdd.specs.Meaning.{meaning, IsMeant}
use Rattle.ja_bdd.specs.Workers.{seen}
use Rattle.ja_bdd.proofs.Sound.{Sound, seat_sound, knows_constant, meaning_constant}
use Rattle.ja_join.specs.declared.rule.States.{States}
use Rattle.ja_join.specs.declared.rule.Move.{Move}
use Rattle.ja_join.specs.Moves.{IsDead}
use Rattle.ja_join.specs.Steps.{told_by, handed, joint}
use Rattle.ja_join.specs.Inner.{passed}
use Rattle.ja_join.proofs.Stepping.{dead_stepped, empty_stepped}
use Rattle.ja_join.proofs.Remembering.{found_right}
use Rattle.ja_join.proofs.pass.at_hand.Goals as goal

and_none : (b : Bool) → (b && false) ≡ false
and_none true = refl
and_none false = refl

module _ (k : Words) (sound : Sound k) (accepted : States) (moves : List Move) (s : States) where
  -- where no state is possible, nothing is made
  dead_meant : (φ σ : Function) → IsDead s → IsMeant k 0 (passed accepted moves s φ σ)
  dead_meant φ σ dead = (knows_constant k false, meaning_constant k sound false ∙ sym (λ i a. dead_stepped accepted moves s (joint moves φ σ) a dead i))

  -- nothing is made of nothing
  empty_meant : (r : ℕ) (σ : Function) → r ≡ 0 → Knows k r → IsMeant k r (passed accepted moves s (meaning k r) σ)
  empty_meant r σ none known = (known, is ∙ sym (λ i a. empty_stepped accepted moves s (joint moves (meaning k r) σ) (λ b j. is j b && handed moves σ b) a i))
    where
      is : meaning k r ≡ (λ a. false)
      is = ap (meaning k) none ∙ meaning_constant k sound false

  -- nor with nothing of the callee's
  unheld_meant : (g : ℕ) (φ : Function) → g ≡ 0 → Knows k g → IsMeant k g (passed accepted moves s φ (meaning k g))
  unheld_meant g φ none known = (known, is ∙ sym (λ i a. empty_stepped accepted moves s (joint moves φ (meaning k g)) never a i))
    where
      is : meaning k g ≡ (λ a. false)
      is = ap (meaning k) none ∙ meaning_constant k sound false

      never : (b : Assignment) → joint moves φ (meaning k g) b ≡ false
      never b = ap (λ (χ : Function). φ b && χ (told_by moves b)) is ∙ and_none (φ b)

pub returns-then-is_dead : goal.returns-then-is_dead
returns-then-is_dead g c =
    let w = c.args.worker.now in
    let rule = c.args.rule.now in
    record { some = dead_meant (seen w) (seat_sound w.seat) rule.accepted (drop c.args.at rule.moves.items) c.args.states (meaning (seen w) c.args.r.number) (meaning (seen w) c.args.g.number) (c.is_dead.ensures c.if-is_dead.true) }

pub returns-then-r-eq0 : goal.returns-then-r-eq0
returns-then-r-eq0 g c =
    let w = c.args.worker.now in
    let rule = c.args.rule.now in
    record { some = empty_meant (seen w) (seat_sound w.seat) rule.accepted (drop c.args.at rule.moves.items) c.args.states c.args.r.number (meaning (seen w) c.args.g.number) c.if-r-eq0.true c.requires.known.0 }

pub returns-then-g-eq0 : goal.returns-then-g-eq0
returns-then-g-eq0 g c =
    let w = c.args.worker.now in
    let rule = c.args.rule.now in
    record { some = unheld_meant (seen w) (seat_sound w.seat) rule.accepted (drop c.args.at rule.moves.items) c.args.states c.args.g.number (meaning (seen w) c.args.r.number) c.if-g-eq0.true c.requires.known.1 }

pub returns : goal.returns
returns g c =
    let w = c.args.worker.now in
    let rule = c.args.rule.now in
    record { some = IfSome_then c.find.result c.find.ensures (λ n has. found_right rule (seen w) c.args.memo.now c.args.at c.args.states c.args.r.number c.args.g.number n.number c.requires.memo has) }
