use Rattle.std.proofs.Common.{◌≡◌, inl, inr, ◌+◌, [], get_or, subst, arith}
use Rattle.std.proofs.lemmas.Bool.{cases_lt}
use Rattle.ja_sets.specs.Sets.{Has, HasPair}
use Rattle.ja_matrix.specs.Matrices.{Gains}
use Rattle.ja_moves.specs.Carrying.{IsGathered}
use Rattle.ja_moves.proofs.Growth.{gains-both}
use Rattle.ja_moves.proofs.rows.gather.Goals as goal

pub loop-a-preserved : goal.loop-a-preserved
loop-a-preserved c =
    let l = c.loop-a in
    let row = get_or c.args.kept.now 0 [] in
    record {
      gains = gains-both c.args.row.now l.row c.join_kept.new.self (λ x y. (x ≡ 0) × IsGathered row c.args.whole.now c.args.from l.a y) (λ x y. (x ≡ 0) × HasPair c.args.whole.now l.a y × Has row y) (λ x y. (x ≡ 0) × IsGathered row c.args.whole.now c.args.from (l.a + 1) y)
          l.invariant.gains c.join_kept.ensures.gains
          (λ x y. (
            λ h. let g = h.1 in elim (cases_lt g.a l.a) [
              | inl lt ↦ inl (h.0, record { a = g.a; above = g.above; below = lt; pair = g.pair; stays = g.stays })
              | inr past ↦ let e : g.a ≡ l.a = let b = g.below in omega (arith, b, past) in inr (h.0, subst (λ a. HasPair c.args.whole.now a y) e g.pair, g.stays)
            ],
            λ h. elim h [
              | inl before ↦ let g = before.1 in (before.0, record { a = g.a; above = g.above; below = let b = g.below in omega (arith, b); pair = g.pair; stays = g.stays })
              | inr now ↦ (now.0, record { a = l.a; above = omega arith; below = omega arith; pair = now.1; stays = now.2 })
            ],
          ));
      shape = c.join_kept.ensures.shape 1 c.args.count l.invariant.shape;
    }

pub returns-clause-gains : goal.returns-clause-gains
returns-clause-gains c =
    let e : c.loop-a.a ≡ c.args.to = omega arith in
    subst (λ t. Gains c.args.row.now c.loop-a.row (λ x y. (x ≡ 0) × IsGathered (get_or c.args.kept.now 0 []) c.args.whole.now c.args.from t y)) e c.loop-a.invariant.gains
