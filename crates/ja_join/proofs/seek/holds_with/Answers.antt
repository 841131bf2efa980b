use Rattle.std.proofs.Common.{refl, arith}
use Rattle.ja_join.proofs.seek.holds_with.Goals as goal

pub seek_from-requires-clause-asked : goal.seek_from-requires-clause-asked
seek_from-requires-clause-asked g c κs within = record {
  worker = c.requires.worker;
  known = c.requires.known.0;
  second = c.requires.known.1;
  later = λ u lt. absurd (omega arith);
  second_later = λ u lt. absurd (omega arith);
  coming = λ e. omega arith;
  vain = λ i e at call. absurd (c.begin.ensures i e at call);
}

pub returns-clause-is : goal.returns-clause-is
returns-clause-is g c =
    let is = c.seek_from.ensures.is in
    (λ found. let x = is.0 found in (x.0, x.1 refl, x.2, x.3), λ held. is.1 (held.0, (λ e. held.1), held.2, held.3))
