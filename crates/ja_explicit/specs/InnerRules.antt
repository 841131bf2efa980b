-- The clauses that the code's rules stand for.
use Rattle.std.specs.Prelude.{◌≡◌, ◌<◌, ℕ, Some, map, length, slice_get}
use Rattle.ja_ir.specs.declared.program.Parts.{Parts}
use Rattle.ja_ir.specs.Operations.{FindsOperands}
use Rattle.ja_facts.specs.declared.facts.Facts.{Facts}
use Rattle.ja_work.specs.declared.clause.Spot.{Spot}
use Rattle.ja_work.specs.declared.clause.Clause.{Clause}
use Rattle.ja_work.specs.Ends.{normal_clauses, exceptional_clauses, return_clauses, throw_clauses, caught_clauses}
use Rattle.ja_clauses.specs.Slots.{as_summary}
use Rattle.ja_clauses.specs.Tables.{tests_by, affected_by}
use Rattle.ja_explicit.specs.declared.rule.Rule.{Rule}
use Rattle.ja_explicit.specs.declared.rule.Rule.TheVariants.{Normal, Exceptional, Returns, Throws, Caught, Handed, Opened}
use Rattle.ja_explicit.specs.declared.standing.Standing as code
use Rattle.ja_explicit.specs.declared.passage.Passage as way
use Rattle.ja_tokens.specs.Shapes.{place_meant}
use Rattle.ja_explicit.specs.InnerWords.{says, handed_clauses, opened_clauses}
use Rattle.ja_explicit.specs.InnerSteps.{Standing, Passage}
use Rattle.ja_explicit.specs.InnerStarts.{may_be_true}
use Rattle.ja_explicit.specs.Tables.{items_of}

-- the clauses of a rule
abbrev pub clauses_of : Rule → Spot → Clause
clauses_of (Normal here) = normal_clauses (tests_by here.before) here.op.now here.height
clauses_of (Exceptional here way) = exceptional_clauses way (tests_by here.before) here.op.now here.height
clauses_of (Returns through answers summary) = return_clauses (affected_by through) through.under answers (as_summary summary)
clauses_of (Throws through summary) = throw_clauses (affected_by through) (as_summary summary)
clauses_of Caught = caught_clauses
clauses_of (Handed h) = handed_clauses h.callee.now h.count h.under (says h.caller.now h.word)
clauses_of (Opened o) = opened_clauses o.method.now (may_be_true o.program.now o.facts.now (items_of o.table.now) o.entry.now o.method.now)

-- an operation of the rule finds its operands
abbrev pub IsReady : Rule → Type 0
IsReady (Normal here) = FindsOperands here.op.now here.height
IsReady (Exceptional here way) = FindsOperands here.op.now here.height
IsReady (Returns through answers summary) = Unit {0}
IsReady (Throws through summary) = Unit {0}
IsReady Caught = Unit {0}
IsReady (Handed h) = Unit {0}
IsReady (Opened o) = Unit {0}

-- where the code stands
abbrev pub standing : code.Standing → Standing
standing s = record { method = s.method.now; m = s.m; a = s.entry; b = s.word }

-- the way through a method that the code goes
abbrev pub passage : way.Passage → Passage
passage w = record { n = w.n; c = w.given; under = w.through.under; answers = w.answers; affected = affected_by w.through; next = w.next.now; places = map place_meant w.places.now }

-- there are held cells for each field
abbrev pub HasFields : Parts → Facts → Type 0
HasFields p f = length f.holds.fields ≡ length p.fields

-- it stands in a method of the program, in which instruction i is
pub record StandsAt (p : Parts) (s : code.Standing) (i : ℕ) : Type 0 where
  pub found : slice_get p.methods s.m ≡ Some s.method.now
  pub inside : i < length s.method.now.code
