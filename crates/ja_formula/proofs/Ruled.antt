-- The clauses from a place on, and exceptional ends, by their parts.
use Rattle.std.proofs.Common.{◌≡◌, ℕ, suc, ◌+◌, ◌<◌, Bool, true, false, refl, sym, ap, ◌∙◌, subst, arith}
use Rattle.std.specs.Prelude.{◌||◌, ◌&&◌}
use Rattle.ja_ir.specs.declared.op.Op.{Op}
use Rattle.ja_ir.specs.declared.op.Op.TheVariants.{Throw}
use Rattle.ja_bdd.specs.Functions.{Function, both, either}
use Rattle.ja_work.specs.declared.clause.Clause.{Clause}
use Rattle.ja_work.specs.declared.clause.Spot.{Spot}
use Rattle.ja_work.specs.declared.frame.Frame.{Frame}
use Rattle.ja_work.specs.declared.way.Way.{Way}
use Rattle.ja_work.specs.declared.way.Way.TheVariants.{Clean, Thrown, InLibrary}
use Rattle.ja_work.specs.Ends.{Tests, may_end, exceptional_clauses}
use Rattle.ja_work.specs.Frames.{size, spot_at, clause_function, clauses_from, whole}
use Rattle.ja_work.specs.Thrown.{ends_by, ends_thrown}
use Rattle.ja_formula.specs.Made.{IsClausePart, IsRulePart, at_place}
use Rattle.ja_formula.specs.Inner.{late_of}

-- a part of the clause of the spot at a place
pub clause_part : (frame : Frame) (clauses : Spot → Clause) (place : ℕ) (s : Spot) (clause : Clause) → place < size frame → s ≡ spot_at frame place → clause ≡ clauses s → (φ : Function) → IsClausePart frame clause s φ → IsRulePart frame clauses φ
clause_part frame clauses place s clause lt is same φ part =
    let first : IsClausePart frame (clauses s) s φ = subst (λ (x : Clause). IsClausePart frame x s φ) same part in at_place place lt (subst (λ (x : Spot). IsClausePart frame (clauses x) x φ) is first)

-- the clause of a place and those from the next one on
pub clauses_more : (frame : Frame) (clauses : Spot → Clause) (place count : ℕ) (φ ψ : Function) → φ ≡ clause_function frame (clauses (spot_at frame place)) (spot_at frame place) → ψ ≡ clauses_from frame clauses (place + 1) count
    → both φ ψ ≡ clauses_from frame clauses place (count + 1)
clauses_more frame clauses place count φ ψ one rest =
    let next : place + 1 ≡ suc place = omega arith in
    let more : count + 1 ≡ suc count = omega arith in
    ap (λ χ. both χ ψ) one
    ∙ ap (both (clause_function frame (clauses (spot_at frame place)) (spot_at frame place))) (rest ∙ ap (λ n. clauses_from frame clauses n count) next)
    ∙ ap (clauses_from frame clauses place) (sym more)

or_none : (x : Bool) → x ≡ (x || false)
or_none true = refl
or_none false = refl

-- an operation that has begun ends by an exception in one way alone
late_alone : (frame : Frame) (tests : Tests) (op : Op) (height : ℕ) → ends_by frame tests op height (late_of op) ≡ either (ends_by frame tests op height Thrown) (ends_by frame tests op height InLibrary)
late_alone frame tests op height = λ i a. go op a i
  where
    go : (o : Op) (a : ℕ → Bool) → ends_by frame tests o height (late_of o) a ≡ (ends_by frame tests o height Thrown a || ends_by frame tests o height InLibrary a)
    go Throw a = or_none (ends_by frame tests Throw height Thrown a)
    go _ a = refl

-- what is thrown before anything is done, and after
pub thrown_made : (frame : Frame) (tests : Tests) (op : Op) (height : ℕ) (φ ψ : Function) → φ ≡ ends_by frame tests op height Clean → ψ ≡ ends_by frame tests op height (late_of op) → either φ ψ ≡ ends_thrown frame tests op height
thrown_made frame tests op height φ ψ clean late = ap (λ χ. either χ ψ) clean ∙ ap (either (ends_by frame tests op height Clean)) (late ∙ late_alone frame tests op height)

-- an end of a way that the operation has, or has not
pub way_there : (frame : Frame) (tests : Tests) (op : Op) (height : ℕ) (way : Way) → may_end tests op way ≡ true → whole frame (exceptional_clauses way tests op height) ≡ ends_by frame tests op height way
way_there frame tests op height way e = ap (λ b a. b && whole frame (exceptional_clauses way tests op height) a) (sym e)

pub way_absent : (frame : Frame) (tests : Tests) (op : Op) (height : ℕ) (way : Way) → may_end tests op way ≡ false → (λ a. false) ≡ ends_by frame tests op height way
way_absent frame tests op height way e = ap (λ b a. b && whole frame (exceptional_clauses way tests op height) a) (sym e)
