-- Each fact that follows by the rules of a network means one that follows by the rules of class sets.
use Rattle.std.proofs.Common.{ℕ, List, [], ◌∷◌, ◌++◌, sym, subst}
use Rattle.ja_ir.specs.declared.program.Parts.{Parts}
use Rattle.ja_ir.specs.Tokens.{lib_token}
use Rattle.ja_ir.specs.Whole.{IsWhole}
use Rattle.ja_facts.specs.Least.{Each, Least, IsSolution}
use Rattle.ja_facts.proofs.LeastLaws.{Least-is_solution, Least-below}
use Rattle.ja_facts.specs.Analyses.{Classes}
use Rattle.ja_facts.specs.ClassSets as class_sets
use Rattle.ja_facts.specs.ClassSets.{Rule as ClassRule, InThrown, Spans}
use Rattle.ja_network.specs.declared.cell.Event.{Event}
use Rattle.ja_network.specs.declared.cell.Event.TheVariants.{Reached, Calls, CallsAbstract, CallsLibrary, Spanned, Linked}
use Rattle.ja_network.specs.Facts.{Fact}
use Rattle.ja_cells.specs.Names.{Names, AreNames, row_at}
use Rattle.ja_constraints.specs.declared.constraint.Constraint.{Constraint}
use Rattle.ja_constraints.specs.declared.constraint.Constraint.TheVariants.{Has, Happens}
use Rattle.ja_constraints.specs.Places.{top_cell}
use Rattle.ja_constraints.specs.Operations.{raises, does}
use Rattle.ja_constraints.specs.Calls.{targets}
use Rattle.ja_constraints.specs.Starts.{starts}
use Rattle.ja_firing.specs.Tokens.{fires}
use Rattle.ja_constraints.specs.Events.{leads_on, acts, runs, follows}
use Rattle.ja_solving.specs.Rules.{Says, OneSays, Rule, starts_so, follows_so, fires_so}
use Rattle.ja_class_laws.proofs.Lists.{each-append, each-at, each-code}
use Rattle.ja_class_laws.proofs.Meaning.{MeansEvent, Means, Good}
use Rattle.ja_class_laws.proofs.SoundStarts.{starts-sound}
use Rattle.ja_class_laws.proofs.SoundFlows.{leads-sound}
use Rattle.ja_class_laws.proofs.SoundOperations.{raises-sound, does-sound}
use Rattle.ja_class_laws.proofs.SoundCalls.{still-reached, targets-sound, called-sound}
use Rattle.ja_class_laws.proofs.SoundLibrary.{library-sound}
use Rattle.ja_class_laws.proofs.SoundFiring.{fires-sound}

-- what is told is meant
one-means : (p : Parts) (told : List Constraint) (f : Fact) → Each (Good p) told → OneSays p told f → Means p f
one-means p told f all says = by says.0 (each-at (Good p) told says.0 all says.1) says.2
  where
    by : (c : Constraint) → Good p c → Says p c f → Means p f
    by (Has cell token) good say = subst (Means p) (sym say.0) good
    by (Happens event) good say = subst (Means p) (sym say) good

module _ (p : Parts) (names : Names) (whole : IsWhole p) (right : AreNames p names) where
  runs-sound : (m i : ℕ) → Classes p (class_sets.Reached m i) → Each (Good p) (follows p names (Reached m i))
  runs-sound m i reached = each-code (Good p) p m i (runs p names m i) (λ method instr found at.
      let on : Each (Good p) (leads_on p names m i method instr) = leads-sound p names whole right m i method instr found at (still-reached p m i method instr whole found at reached) reached in
      let threw : Each (Good p) (raises p m i instr.op) = raises-sound p names whole right m i method instr found at (still-reached p m i method instr whole found at reached) reached in
      let did : Each (Good p) (does p m i (top_cell (row_at names m i) method.locals instr.height) instr.op) = does-sound p names whole right m i method instr found at (still-reached p m i method instr whole found at reached) reached in
      let went : Each (Good p) (targets p m i (row_at names m i) method.locals instr.height instr.op) = targets-sound p names whole right m i reached method instr found at in
      each-append (Good p) (leads_on p names m i method instr) (acts p names m i method instr) on
      (each-append (Good p) (raises p m i instr.op ++ does p m i (top_cell (row_at names m i) method.locals instr.height) instr.op) (targets p m i (row_at names m i) method.locals instr.height instr.op)
      (each-append (Good p) (raises p m i instr.op) (does p m i (top_cell (row_at names m i) method.locals instr.height) instr.op) threw did) went))

  follows-sound : (e : Event) → MeansEvent p e → Each (Good p) (follows p names e)
  follows-sound (Reached m i) means = runs-sound m i means
  follows-sound (Calls m i n) means = called-sound p names whole right m i means.0 n means.1
  follows-sound (CallsAbstract m i n) means = (Least-is_solution (ClassRule p) (class_sets.Reached m i ∷ class_sets.CallsAbstract m i n ∷ []) (InThrown m i (lib_token p)) class_sets.abstract_throws (means.0, (means.1, tt)), tt)
  follows-sound (CallsLibrary m i) means = library-sound p names whole right m i means.0 means.1
  follows-sound (Spanned t) means = (Least-is_solution (ClassRule p) [] (Spans t t) class_sets.spans_itself tt, ((λ u h. h), tt))
  follows-sound (Linked c a) means = tt

  means-solution : IsSolution (Rule p names) (Means p)
  means-solution _ f (starts_so says) each = one-means p (starts p) f (starts-sound p) says
  means-solution _ f (follows_so {e} says) each = one-means p (follows p names e) f (follows-sound e each.0) says
  means-solution _ f (fires_so {c} {a} {t} says) each = one-means p (fires p names t a) f (fires-sound p names whole right t a (each.1.0 t each.0)) says

  pub sound : (f : Fact) → Least (Rule p names) f → Means p f
  sound = Least-below (Rule p names) (Means p) means-solution
