use Rattle.std.proofs.Common.{◌≡◌, inl, inr, sym, subst, arith}
use Rattle.std.proofs.lemmas.Bool.{cases_lt}
use Rattle.ja_sets.specs.Sets.{HasPair}
use Rattle.ja_moves.proofs.rows.take.Goals as goal

pub loop-a-init : goal.loop-a-init
loop-a-init c = record {
  same = λ x y. (λ has. absurd (c.clear.ensures.empty x y has), λ h. absurd (omega (arith, h.0)));
  shape = c.clear.ensures.shape c.args.rows c.args.columns c.requires.table;
}

pub loop-a-preserved : goal.loop-a-preserved
loop-a-preserved c =
    let l = c.loop-a in
    record {
      same = λ x y. (
        λ has. elim ((c.join_row.ensures.gains x y).0 has) [
          | inl before ↦ let b = (l.invariant.same x y).0 before in (omega (arith, b.0), b.1)
          | inr now ↦ (omega (arith, now.0), subst (λ a. HasPair c.args.other.now a y) (sym now.0) now.1)
        ],
        λ h. (c.join_row.ensures.gains x y).1 (elim (cases_lt x l.a) [
          | inl lt ↦ inl ((l.invariant.same x y).1 (lt, h.1))
          | inr past ↦ let e : x ≡ l.a = omega (arith, h.0, past) in inr (e, subst (λ a. HasPair c.args.other.now a y) e h.1)
        ]),
      );
      shape = c.join_row.ensures.shape c.args.rows c.args.columns l.invariant.shape;
    }
