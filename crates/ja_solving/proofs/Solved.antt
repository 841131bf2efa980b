-- A network that is worked on stays one that is; where everything has been worked on, it is solved.
use Rattle.std.proofs.Common.{◌≡◌, ◌⊎◌, ◌↔◌, inl, inr, ℕ, Bool, List, [], ◌∷◌, Some, sym, subst, ◌∙◌}
use Rattle.std.specs.Prelude.{Contains, slice_get}
use Rattle.std.proofs.lemmas.Option.{same_Some}
use Rattle.ja_sets.specs.Sets.{Has}
use Rattle.ja_ir.specs.declared.program.Parts.{Parts}
use Rattle.ja_facts.specs.Least.{Least, IsSolution}
use Rattle.ja_facts.proofs.LeastLaws.{Least-is_solution, Least-below}
use Rattle.ja_network.specs.declared.cell.Cell.{Cell}
use Rattle.ja_network.specs.declared.cell.Action.{Action}
use Rattle.ja_network.specs.declared.cell.Event.{Event}
use Rattle.ja_network.specs.declared.cell.Event.TheVariants as events
use Rattle.ja_network.specs.declared.cell.Event.TheVariants.{Linked}
use Rattle.ja_network.specs.declared.network.Network.{Network}
use Rattle.ja_network.specs.Facts.{Fact, HasToken, Happens, Tells, IsSettled, IsNetwork, Extends, Settles, IsIn, IsNext, IsQuiet, state_of, events_of}
use Rattle.ja_cells.specs.Names.{Names}
use Rattle.ja_constraints.specs.Starts.{starts}
use Rattle.ja_constraints.specs.Events.{follows}
use Rattle.ja_firing.specs.Tokens.{fires}
use Rattle.ja_solving.specs.Rules.{OneSays, Rule, starts_so, follows_so, fires_so, IsSolved}
use Rattle.ja_solving.proofs.More.{front-inside, item-inside}
use Rattle.ja_solving.specs.InnerWorking.{IsWorking, FiresEach, FiresAt}

module _ (p : Parts) (names : Names) where
  -- ---- the rules, for the least set

  abbrev least : Fact → Type 0
  least = Least (Rule p names)

  starts_least : (f : Fact) → OneSays p (starts p) f → least f
  starts_least f s = Least-is_solution (Rule p names) [] f (starts_so s) tt

  follows_least : (e : Event) (f : Fact) → OneSays p (follows p names e) f → least (Happens e) → least f
  follows_least e f s h = Least-is_solution (Rule p names) (Happens e ∷ []) f (follows_so s) (h, tt)

  fires_least : (c : Cell) (a : Action) (t : ℕ) (f : Fact) → OneSays p (fires p names t a) f → least (HasToken c t) → least (Happens (Linked c a)) → least f
  fires_least c a t f s h l = Least-is_solution (Rule p names) (HasToken c t ∷ Happens (Linked c a) ∷ []) f (fires_so s) (h, (l, tt))

  -- ---- what is told more, and what is settled more

  -- where what is told more follows by the rules
  working-extends : (old new : Network) (S : Fact → Type 0) → IsWorking p names old → Extends old new S → ((f : Fact) → S f → least f) → IsWorking p names new
  working-extends old new S w x sound = record {
    sound = λ f h. elim ((x.tells f).0 h) [ inl before ↦ w.sound f before | inr more ↦ sound f more ];
    starts = λ f s. (x.tells f).1 (inl (w.starts f s));
    follows = λ e f h s. (x.tells f).1 (inl (w.follows e f ((x.settled (Happens e)).0 h) s));
    fires = λ c a t f h l s. (x.tells f).1 (inl (w.fires c a t f ((x.settled (HasToken c t)).0 h) ((x.settled (Happens (Linked c a))).0 l) s));
  }

  -- where what follows from what has been worked on more is told
  working-settles : (old new : Network) (S : Fact → Type 0) → IsWorking p names old → Settles old new S
      → ((e : Event) (f : Fact) → S (Happens e) → OneSays p (follows p names e) f → Tells old f)
      → ((c : Cell) (a : Action) (t : ℕ) (f : Fact) → S (HasToken c t) → IsSettled old (Happens (Linked c a)) ⊎ S (Happens (Linked c a)) → OneSays p (fires p names t a) f → Tells old f)
      → ((c : Cell) (a : Action) (t : ℕ) (f : Fact) → IsSettled old (HasToken c t) → S (Happens (Linked c a)) → OneSays p (fires p names t a) f → Tells old f)
      → IsWorking p names new
  working-settles old new S w x event token link = record {
    sound = λ f h. w.sound f ((x.tells f).0 h);
    starts = λ f s. (x.tells f).1 (w.starts f s);
    follows = λ e f h s. (x.tells f).1 (elim ((x.settled (Happens e)).0 h) [ inl before ↦ w.follows e f before s | inr more ↦ event e f more s ]);
    fires = λ c a t f h l s. (x.tells f).1 (elim ((x.settled (HasToken c t)).0 h) [
      | inl before ↦ elim ((x.settled (Happens (Linked c a))).0 l) [ inl linked ↦ w.fires c a t f before linked s | inr more ↦ link c a t f before more s ]
      | inr more ↦ token c a t f more ((x.settled (Happens (Linked c a))).0 l) s
    ]);
  }

  -- ---- at first

  pub begun : (old new : Network) → ((f : Fact) → Tells old f → ⊥) → Extends old new (OneSays p (starts p)) → IsWorking p names new
  begun old new empty x = record {
    sound = λ f h. elim ((x.tells f).0 h) [ inl none ↦ absurd (empty f none) | inr s ↦ starts_least f s ];
    starts = λ f s. (x.tells f).1 (inr s);
    follows = λ e f h s. absurd (unsettled (Happens e) ((x.settled (Happens e)).0 h));
    fires = λ c a t f h l s. absurd (empty (HasToken c t) ((x.settled (HasToken c t)).0 h).0);
  }
    where
      unsettled : (f : Fact) → IsSettled old f → ⊥
      unsettled (HasToken c t) h = empty (HasToken c t) h.0
      unsettled (Happens e) h = empty (Happens e) (front-inside old.seen (events_of old) e h)

  -- ---- an event

  -- what comes of the tokens of a cell where an event happens
  fires_at_least : (net : Network) (e : Event) → IsWorking p names net → Tells net (Happens e) → (f : Fact) → FiresAt p names net e f → least f
  fires_at_least net (Linked c a) w happens f all = fires_least c a all.0 f all.2 (w.sound (HasToken c all.0) all.1) (w.sound (Happens (Linked c a)) happens)
  fires_at_least net (events.Reached m i) w happens f none = absurd none
  fires_at_least net (events.Calls m i n) w happens f none = absurd none
  fires_at_least net (events.CallsAbstract m i n) w happens f none = absurd none
  fires_at_least net (events.CallsLibrary m i) w happens f none = absurd none
  fires_at_least net (events.Spanned t) w happens f none = absurd none

  -- what follows from the event is told, then what comes of each token of its cell where it is a link, and then it is settled
  pub worked-event : (old told fired new : Network) (e : Event) → IsWorking p names old → slice_get (events_of old) old.seen ≡ Some e
      → Extends old told (OneSays p (follows p names e)) → Extends told fired (FiresAt p names told e) → Settles fired new (IsNext fired) → IsWorking p names new
  worked-event old told fired new e w next x y settles = working-settles fired new (IsNext fired) w-fired settles
      (λ d f is one. before f (after f (subst (λ (v : Event). OneSays p (follows p names v) f) (only d is) one)))
      (λ c a t f none l one. absurd none)
      (λ c a t f h is one. (y.tells f).1 (inr (subst (λ (v : Event). FiresAt p names told v f) (only (Linked c a) is) (t, ((y.settled (HasToken c t)).0 h).0, one))))
    where
      happens : Tells old (Happens e)
      happens = item-inside (events_of old) old.seen e next

      w-told : IsWorking p names told
      w-told = working-extends old told (OneSays p (follows p names e)) w x (λ f s. follows_least e f s (w.sound (Happens e) happens))

      w-fired : IsWorking p names fired
      w-fired = working-extends told fired (FiresAt p names told e) w-told y (fires_at_least told e w-told ((x.tells (Happens e)).1 (inl happens)))

      after : (f : Fact) → OneSays p (follows p names e) f → Tells told f
      after f s = (x.tells f).1 (inr s)

      before : (f : Fact) → Tells told f → Tells fired f
      before f h = (y.tells f).1 (inl h)

      still_next : slice_get (events_of fired) fired.seen ≡ Some e
      still_next = subst (λ (n : ℕ). slice_get (events_of fired) n ≡ Some e) (sym (y.same_seen ∙ x.same_seen)) (y.events old.seen e (x.events old.seen e next))

      only : (d : Event) → slice_get (events_of fired) fired.seen ≡ Some d → d ≡ e
      only d is = same_Some d e (sym is ∙ still_next)

  -- ---- a turn

  -- what comes of each token that is fresh in a cell is told, for each of its links, and then those tokens are settled
  pub worked-turn : (old fired new : Network) (c : Cell) (set : List Bool) → IsNetwork old → IsWorking p names old
      → ((t : ℕ) → Has set t ↔ Has (state_of old c).fresh t) → Extends old fired (FiresEach p names (Has set) (Contains (state_of old c).links))
      → Settles fired new (λ f. Tells fired f × IsIn c (Has set) f) → IsWorking p names new
  worked-turn old fired new c set net w fresh x settles = working-settles fired new (λ f. Tells fired f × IsIn c (Has set) f) w-fired settles
      (λ e f none one. absurd none.1)
      (λ d a t f done l one. (x.tells f).1 (inr (a, linked d a done.1.0 l, (t, done.1.1, one))))
      (λ d a t f h none one. absurd none.1)
    where
      follows_so_far : (f : Fact) → FiresEach p names (Has set) (Contains (state_of old c).links) f → least f
      follows_so_far f (a, link, (t, member, one)) =
          fires_least c a t f one (w.sound (HasToken c t) (net.within c t ((fresh t).0 member)))
          (w.sound (Happens (Linked c a)) (front-inside old.seen (events_of old) (Linked c a) ((net.links c a).0 link)))

      w-fired : IsWorking p names fired
      w-fired = working-extends old fired (FiresEach p names (Has set) (Contains (state_of old c).links)) w x follows_so_far

      linked : (d : Cell) (a : Action) → d ≡ c → IsSettled fired (Happens (Linked d a)) ⊎ (Tells fired (Happens (Linked d a)) × ⊥) → Contains (state_of old c).links a
      linked d a e (inr none) = absurd none.1
      linked d a e (inl settled) = (net.links c a).1 (subst (λ (v : Cell). IsSettled old (Happens (Linked v a))) e ((x.settled (Happens (Linked d a))).0 settled))

  -- ---- where everything has been worked on

  working-solution : (net : Network) → IsWorking p names net → IsQuiet net → IsSolution (Rule p names) (Tells net)
  working-solution net w quiet ps f (starts_so s) each = w.starts f s
  working-solution net w quiet ps f (follows_so {e = e} s) each = w.follows e f (quiet (Happens e) each.0) s
  working-solution net w quiet ps f (fires_so {c = c} {a = a} {t = t} s) each = w.fires c a t f (quiet (HasToken c t) each.0) (quiet (Happens (Linked c a)) each.1.0) s

  pub solved : (net : Network) → IsWorking p names net → IsQuiet net → IsSolved p names net
  solved net w quiet f = (w.sound f, Least-below (Rule p names) (Tells net) (working-solution net w quiet) f)
