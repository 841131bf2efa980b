-- What the rules of a network tell: constraints as facts, and what comes of links.
use Rattle.std.proofs.Common.{ℕ, ◌<◌, List, [], ◌∷◌, refl, sym, subst}
use Rattle.std.specs.Prelude.{Contains}
use Rattle.ja_ir.specs.declared.program.Parts.{Parts}
use Rattle.ja_ir.specs.Whole.{IsWhole}
use Rattle.ja_facts.specs.Least.{Each, Least, IsSolution}
use Rattle.ja_facts.proofs.LeastLaws.{Least-is_solution, Least-below}
use Rattle.ja_facts.specs.ClassTables.{token_count}
use Rattle.ja_network.specs.declared.cell.Cell.{Cell}
use Rattle.ja_network.specs.declared.cell.Cell.TheVariants.{Nothing, Environment, Single, Field, Bag, Span, Param, Answer, Out, Thrown, Takers, Pushed, Before}
use Rattle.ja_network.specs.declared.cell.Action.{Action}
use Rattle.ja_network.specs.declared.cell.Action.TheVariants.{Copy}
use Rattle.ja_network.specs.declared.cell.Event.{Event}
use Rattle.ja_network.specs.declared.cell.Event.TheVariants.{Linked}
use Rattle.ja_network.specs.Facts.{Fact, HasToken, Happens as ItHappens}
use Rattle.ja_cells.specs.Names.{Names, AreNames}
use Rattle.ja_constraints.specs.declared.constraint.Constraint.{Constraint}
use Rattle.ja_constraints.specs.declared.constraint.Constraint.TheVariants.{Has, Happens}
use Rattle.ja_constraints.specs.Links.{link, copy}
use Rattle.ja_constraints.specs.Starts.{starts}
use Rattle.ja_constraints.specs.Events.{follows}
use Rattle.ja_firing.specs.Tokens.{fires}
use Rattle.ja_solving.specs.Rules.{Says, OneSays, Rule, starts_so, follows_so, fires_so}
use Rattle.ja_class_laws.proofs.Lists.{each-from}
use Rattle.ja_class_laws.proofs.Sound.{sound}

-- the facts that the rules of a network give
abbrev pub Net : Parts → Names → Fact → Type 0
Net p names = Least (Rule p names)

-- a constraint tells a fact that they give
abbrev pub Told : Parts → Names → Constraint → Type 0
Told p names (Has cell token) = token < token_count p → Net p names (HasToken cell token)
Told p names (Happens event) = Net p names (ItHappens event)

module _ (p : Parts) (names : Names) where
  close : (ps : List Fact) (f : Fact) → Rule p names ps f → Each (Net p names) ps → Net p names f
  close = Least-is_solution (Rule p names)

  all-told : (told : List Constraint) → ((f : Fact) → OneSays p told f → Net p names f) → Each (Told p names) told
  all-told told h = each-from (Told p names) told by
    where
      by : (c : Constraint) → Contains told c → Told p names c
      by (Has cell token) listed = λ below. h (HasToken cell token) (Has cell token, listed, (refl, below))
      by (Happens event) listed = h (ItHappens event) (Happens event, listed, refl)

  pub starts-told : Each (Told p names) (starts p)
  starts-told = all-told (starts p) (λ f says. close [] f (starts_so says) tt)

  pub follows-told : (e : Event) → Net p names (ItHappens e) → Each (Told p names) (follows p names e)
  follows-told e h = all-told (follows p names e) (λ f says. close (ItHappens e ∷ []) f (follows_so says) (h, tt))

  pub fires-told : (c : Cell) (a : Action) (t : ℕ) → Net p names (HasToken c t) → Net p names (ItHappens (Linked c a)) → Each (Told p names) (fires p names t a)
  fires-told c a t has linked = all-told (fires p names t a) (λ f says. close (HasToken c t ∷ ItHappens (Linked c a) ∷ []) f (fires_so says) (has, (linked, tt)))

  -- each token is one of the program's
  abbrev IsBelow : Fact → Type 0
  IsBelow (HasToken c t) = t < token_count p
  IsBelow (ItHappens e) = Unit {0}

  says-below : (told : List Constraint) (f : Fact) → OneSays p told f → IsBelow f
  says-below told f says = by says.0 says.2
    where
      by : (c : Constraint) → Says p c f → IsBelow f
      by (Has cell token) say = subst IsBelow (sym say.0) say.1
      by (Happens event) say = subst IsBelow (sym say) tt

  below-solution : IsSolution (Rule p names) IsBelow
  below-solution _ f (starts_so says) each = says-below (starts p) f says
  below-solution _ f (follows_so {e} says) each = says-below (follows p names e) f says
  below-solution _ f (fires_so {c} {a} {t} says) each = says-below (fires p names t a) f says

  pub below : (c : Cell) (t : ℕ) → Net p names (HasToken c t) → t < token_count p
  below c t h = Least-below (Rule p names) IsBelow below-solution (HasToken c t) h

module _ (p : Parts) (names : Names) (whole : IsWhole p) (right : AreNames p names) where
  -- a link that is told is there, where its cell has a token
  pub linked : (c : Cell) (a : Action) (t : ℕ) → Net p names (HasToken c t) → Each (Told p names) (link c a) → Net p names (ItHappens (Linked c a))
  linked Nothing a t has told = absurd (sound p names whole right (HasToken Nothing t) has)
  linked Environment a t has told = told.0
  linked (Single s) a t has told = told.0
  linked (Field n) a t has told = told.0
  linked (Bag b) a t has told = told.0
  linked (Span s) a t has told = told.0
  linked (Param m k) a t has told = told.0
  linked (Answer m) a t has told = told.0
  linked (Out m) a t has told = told.0
  linked (Thrown m i) a t has told = told.0
  linked (Takers m i) a t has told = told.0
  linked (Pushed m i) a t has told = told.0
  linked (Before m i z) a t has told = told.0

  -- what comes of a token where a link is told
  pub fired : (c : Cell) (a : Action) (t : ℕ) → Net p names (HasToken c t) → Each (Told p names) (link c a) → Each (Told p names) (fires p names t a)
  fired c a t has told = fires-told p names c a t has (linked c a t has told)

  pub copied : (from to : Cell) (t : ℕ) → Net p names (HasToken from t) → Each (Told p names) (copy from to) → Net p names (HasToken to t)
  copied from to t has told = (fired from (Copy to) t has told).0 (below p names from t has)
