-- Where there is no room for a part, there is none for the whole.
use Rattle.std.proofs.Common.{◌≡◌, ℕ, Bool, subst}
use Rattle.ja_node_core.specs.declared.aim.Aim.{Ghosts}
use Rattle.ja_node_core.specs.Node.{Words}
use Rattle.ja_node_table.specs.declared.table.NodeTable.{NodeTable}
use Rattle.ja_node_table.specs.declared.full.Full.{Full}
use Rattle.ja_node_table.specs.Seats.{wanted_word}
use Rattle.ja_bdd.specs.Functions.{Function, fixed, IsFrom}
use Rattle.ja_bdd.specs.Meaning.{IsUnder}
use Rattle.ja_bdd.specs.Room.{LacksRoomUnder}
use Rattle.ja_bdd.proofs.Fixing.{from_fixed}
use Rattle.ja_bdd.proofs.Sound.{Sound}
use Rattle.ja_bdd.proofs.Parts.{under_whole}

module _ {A : Type 0} {G : Ghosts A} (t : NodeTable A) (k : Words) (e : Full A G) where
  -- of two functions that are one
  pub lacks_same : (φ ψ : Function) → φ ≡ ψ → LacksRoomUnder t k φ e → LacksRoomUnder t k ψ e
  lacks_same φ ψ same lacks = record { under = subst (λ χ. IsUnder k χ (wanted_word e)) same lacks.under; room = lacks.room }

  pub lacks_whole : Sound k → (v : ℕ) (b : Bool) (φ ψ : Function) → IsFrom v φ → ψ ≡ fixed v b φ → LacksRoomUnder t k ψ e → LacksRoomUnder t k φ e
  lacks_whole sound v b φ ψ from same lacks =
      let part = lacks_same ψ (fixed v b φ) same lacks in
      record { under = under_whole k sound v b φ (wanted_word e) (from_fixed v b φ from) part.under; room = lacks.room }
