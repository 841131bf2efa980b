-- A worker whose seat has learned more.
use Rattle.std.proofs.Common.{◌≡◌, ℕ, ◌<◌, List, sym, ◌∙◌, subst}
use Rattle.std.specs.Prelude.{Option}
use Rattle.ja_node_core.specs.declared.aim.Aim.{Ghosts}
use Rattle.ja_node_core.specs.Node.{Words, IsPart}
use Rattle.ja_node_table.specs.declared.seat.NodeSeat.{NodeSeat}
use Rattle.ja_node_table.specs.Seats.{known}
use Rattle.ja_bdd.specs.Meaning.{Keeps}
use Rattle.ja_bdd.specs.declared.cache.Entry.{Entry}
use Rattle.ja_bdd.specs.Inner.{AreRight}
use Rattle.ja_bdd.proofs.Sound.{seat_sound}
use Rattle.ja_bdd.proofs.Parts.{keeps}
use Rattle.ja_bdd.proofs.Cached.{right_still}

module _ {A : Type 0} {G : Ghosts A} (s s' : NodeSeat A G) where
  pub seat_keeps : IsPart (known s) (known s') → Keeps (known s) (known s')
  seat_keeps = keeps (known s) (known s') (seat_sound s) (seat_sound s')

  pub seat_right : (r : Option (ℕ → ℕ)) (es : List Entry) → IsPart (known s) (known s') → ∥ AreRight r (known s) es ∥₁ → ∥ AreRight r (known s') es ∥₁
  seat_right r es part = right_still (known s) (known s') (seat_sound s) (seat_sound s') part r es

  -- a seat that knows the same
  pub same_part : known s' ≡ known s → IsPart (known s) (known s')
  same_part same p pos i = same i p

pub part_chain : (a b c : Words) → IsPart a b → IsPart b c → IsPart a c
part_chain a b c first second p pos = let same = first p pos in second p (subst (λ w. 0 < w) (sym same) pos) ∙ same
