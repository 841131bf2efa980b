use Rattle.std.proofs.Common.{◌≡◌, false}
use Rattle.ja_explicit.specs.Tables.{items_of}
use Rattle.ja_explicit.specs.InnerStarts.{enters_each}
use Rattle.ja_explicit.specs.InnerRounds.{IsSound, AreAllIn, AreSettledBelow}
use Rattle.ja_explicit.proofs.solve.round.Given as goal

abbrev pub invariant-loop-k : goal.invariant-loop-k
invariant-loop-k l = record {
  sound : IsSound l.p l.facts (items_of l.table);
  idle : l.new ≡ false → items_of l.table ≡ items_of l.fn.table;
  started : l.new ≡ false → AreAllIn (items_of l.fn.table) (enters_each l.p l.facts (items_of l.fn.table) l.p.entries);
  settled : l.new ≡ false → AreSettledBelow l.p l.facts (items_of l.fn.table) l.k;
}
