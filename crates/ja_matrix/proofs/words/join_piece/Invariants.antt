use Rattle.std.proofs.Common.{◌≡◌, ℕ, ◌+◌, ◌<◌, ◌≤◌, true, false, get_or, bit_or}
use Rattle.ja_matrix.proofs.words.join_piece.Given as goal

abbrev pub invariant-loop-k : goal.invariant-loop-k
invariant-loop-k l = record {
  done : (k : ℕ) → k < l.k → get_or l.words (l.at + k) 0 ≡ bit_or (get_or l.initial.words (l.at + k) 0) (get_or l.others (l.from + k) 0);
  before : (k : ℕ) → k < l.at → get_or l.words k 0 ≡ get_or l.initial.words k 0;
  rest : (k : ℕ) → l.at + l.k ≤ k → get_or l.words k 0 ≡ get_or l.initial.words k 0;
  changed : l.changed ≡ true → (k : ℕ) × (k < l.k) × (get_or l.words (l.at + k) 0 ≡ get_or l.initial.words (l.at + k) 0 → ⊥);
  same : l.changed ≡ false → l.words ≡ l.initial.words;
}
