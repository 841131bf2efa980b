-- What the calls make of an instruction is of the work.
use Rattle.std.proofs.Common.{◌≡◌, ℕ, true, List, Some, refl}
use Rattle.ja_ir.specs.declared.program.Parts.{Parts}
use Rattle.ja_ir.specs.declared.method.Method.{Method}
use Rattle.ja_ir.specs.declared.method.Instr.{Instr}
use Rattle.ja_ir.specs.Lookup.{instr_at}
use Rattle.ja_bdd.specs.Functions.{Function, IsAimed}
use Rattle.ja_facts.specs.declared.facts.Facts.{Facts}
use Rattle.ja_work.specs.declared.clause.Spot.{Spot}
use Rattle.ja_work.specs.declared.clause.Clause.{Clause}
use Rattle.ja_work.specs.declared.frame.Frame.{Frame}
use Rattle.ja_work.specs.Ends.{normal_clauses, exceptional_clauses}
use Rattle.ja_work.specs.Frames.{spot_at}
use Rattle.ja_work.specs.Told.{told, tests_of}
use Rattle.ja_work.specs.Work.{ReachedAt, IsRule, normal, exceptional, IsMethod, IsWork, IsWorkTree}
use Rattle.ja_work.proofs.Telling.{tests_told}
use Rattle.ja_work.proofs.Working.{work_aimed, literal_work, rest_work, clause_work, piece_work, thrown_work}
use Rattle.ja_formula.specs.Made.{IsClausePart, one_literal, one_piece, whole_clause, IsRulePart, at_place, from_place, IsNormalPart, of_normal, IsThrownPart, of_way, whole_thrown}

module _ (p : Parts) (f : Facts) (frames : List Frame) (m i : ℕ) (method : Method) (frame : Frame) (is : IsMethod p (told p f) frames m method frame) where
  -- parts of a rule are work
  rule_work : (clauses : Spot → Clause) (φ : Function) → IsRule p (told p f) m i clauses → IsRulePart frame clauses φ → IsWork p (told p f) frames φ
  rule_work clauses φ rule (at_place place lt part) = go φ part
    where
      go : (ψ : Function) → IsClausePart frame (clauses (spot_at frame place)) (spot_at frame place) ψ → IsWork p (told p f) frames ψ
      go ψ (one_literal v positive inside) = literal_work p (told p f) frames v positive (record { m = m; method = method; frame = frame; is = is; inside = inside })
      go ψ (one_piece one) = piece_work p (told p f) frames m i method frame clauses is rule place ψ lt one
      go ψ whole_clause = clause_work p (told p f) frames m i method frame clauses is rule place lt
  rule_work clauses φ rule (from_place place count e) = rest_work p (told p f) frames m i method frame clauses is rule place count e

  reached_at : (instr : Instr) → instr_at p m i ≡ Some instr → instr.reached ≡ true → ReachedAt p m i instr.op instr.height
  reached_at instr found reached = record { at = record { instr = instr; found = found; is_op = refl; is_height = refl }; reached = reached }

  pub normal_work : (φ : Function) → IsNormalPart p f frame m i φ → IsAimed (IsWorkTree p (told p f) frames) φ
  normal_work φ (of_normal instr found reached goes part) =
      work_aimed p (told p f) frames φ
      (rule_work (normal_clauses (tests_of p f m i) instr.op instr.height) φ (normal (tests_of p f m i) (reached_at instr found reached) (tests_told p f m i) goes) part)

  pub thrown_parts : (φ : Function) → IsThrownPart p f frame m i φ → IsAimed (IsWorkTree p (told p f) frames) φ
  thrown_parts φ (of_way instr way found reached ends part) =
      work_aimed p (told p f) frames φ
      (rule_work (exceptional_clauses way (tests_of p f m i) instr.op instr.height) φ (exceptional (tests_of p f m i) way (reached_at instr found reached) (tests_told p f m i) ends) part)
  thrown_parts φ (whole_thrown instr found reached) =
      work_aimed p (told p f) frames φ
      (thrown_work p (told p f) frames m i instr.height method frame (tests_of p f m i) instr.op is (reached_at instr found reached) (tests_told p f m i))
