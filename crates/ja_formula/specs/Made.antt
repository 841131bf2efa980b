-- The functions that calls make on their way.
use Rattle.std.specs.Prelude.{◌≡◌, ℕ, ◌+◌, ◌/◌, ◌<◌, Bool, true, Some}
use Rattle.ja_node_core.specs.declared.aim.Aim.{Ghosts}
use Rattle.ja_node_core.specs.Tree.{Tree}
use Rattle.ja_node_core.specs.Node.{Words}
use Rattle.ja_node_table.specs.declared.table.NodeTable.{NodeTable}
use Rattle.ja_node_table.specs.declared.full.Full.{Full}
use Rattle.ja_ir.specs.declared.program.Parts.{Parts}
use Rattle.ja_ir.specs.declared.method.Instr.{Instr}
use Rattle.ja_ir.specs.Lookup.{instr_at}
use Rattle.ja_facts.specs.declared.facts.Facts.{Facts}
use Rattle.ja_bdd.specs.Functions.{Function, IsAimed}
use Rattle.ja_bdd.specs.Room.{LacksRoomUnder}
use Rattle.ja_work.specs.declared.clause.Clause.{Clause}
use Rattle.ja_work.specs.declared.clause.Spot.{Spot}
use Rattle.ja_work.specs.declared.frame.Frame.{Frame}
use Rattle.ja_work.specs.declared.way.Way.{Way}
use Rattle.ja_work.specs.Ends.{may_go_on, normal_clauses, may_end, exceptional_clauses}
use Rattle.ja_work.specs.Frames.{size, spot_at, clause_function, clauses_from}
use Rattle.ja_work.specs.Thrown.{ends_thrown}
use Rattle.ja_work.specs.Told.{tests_of}
use Rattle.ja_work.specs.Work.{literal, IsPiece}

-- each function of a kind is of the aim
abbrev pub AreAimed : (Tree → Type 0) → (kind : Function → Type 0) → Type 0
AreAimed aim kind = (φ : Function) → kind φ → IsAimed aim φ

-- the table has no room for a word under some function of a kind
pub record LacksRoomFor {A : Type 0} {G : Ghosts A} (t : NodeTable A) (seen : Words) (kind : Function → Type 0) (full : Full A G) : Type 0 where
  pub φ : Function
  pub is : kind φ
  pub lacks : LacksRoomUnder t seen φ full

-- a literal of a variable of the frame, a piece of a clause, or the whole clause
pub data IsClausePart (frame : Frame) (clause : Clause) (s : Spot) : Function → Type 0 where
  one_literal : (v : ℕ) (positive : Bool) → v / 4 < size frame → IsClausePart frame clause s (literal v positive)
  one_piece : {φ : Function} → IsPiece frame clause s φ → IsClausePart frame clause s φ
  whole_clause : IsClausePart frame clause s (clause_function frame clause s)

-- a part of the clause of one place, or the clauses from some place on
pub data IsRulePart (frame : Frame) (clauses : Spot → Clause) : Function → Type 0 where
  at_place : {φ : Function} (place : ℕ) → place < size frame → IsClausePart frame (clauses (spot_at frame place)) (spot_at frame place) φ → IsRulePart frame clauses φ
  from_place : (place count : ℕ) → place + count ≡ size frame → IsRulePart frame clauses (clauses_from frame clauses place count)

-- a part of the clauses of the normal end of instruction i of method m, where it has one
pub data IsNormalPart (p : Parts) (f : Facts) (frame : Frame) (m i : ℕ) : Function → Type 0 where
  of_normal : {φ : Function} (instr : Instr) → instr_at p m i ≡ Some instr → instr.reached ≡ true → may_go_on (tests_of p f m i) instr.op ≡ true
      → IsRulePart frame (normal_clauses (tests_of p f m i) instr.op instr.height) φ → IsNormalPart p f frame m i φ

-- a part of the clauses of an exceptional end of it, of a way that it has, or the whole exceptional end
pub data IsThrownPart (p : Parts) (f : Facts) (frame : Frame) (m i : ℕ) : Function → Type 0 where
  of_way : {φ : Function} (instr : Instr) (way : Way) → instr_at p m i ≡ Some instr → instr.reached ≡ true → may_end (tests_of p f m i) instr.op way ≡ true
      → IsRulePart frame (exceptional_clauses way (tests_of p f m i) instr.op instr.height) φ → IsThrownPart p f frame m i φ
  whole_thrown : (instr : Instr) → instr_at p m i ≡ Some instr → instr.reached ≡ true → IsThrownPart p f frame m i (ends_thrown frame (tests_of p f m i) instr.op instr.height)
