use Rattle.std.proofs.Common.{◌≡◌, ℕ, ◌<◌, ◌≤◌, true, false, get_or, bit_or}
use Rattle.ja_sets.proofs.bits.join_words.Given as goal

abbrev pub invariant-loop-i : goal.invariant-loop-i
invariant-loop-i l = record {
  done : (k : ℕ) → k < l.i → get_or l.words k 0 ≡ bit_or (get_or l.initial.words k 0) (get_or l.others k 0);
  rest : (k : ℕ) → l.i ≤ k → get_or l.words k 0 ≡ get_or l.initial.words k 0;
  changed : l.changed ≡ true → (k : ℕ) × (k < l.i) × (get_or l.words k 0 ≡ get_or l.initial.words k 0 → ⊥);
  same : l.changed ≡ false → l.words ≡ l.initial.words;
}
