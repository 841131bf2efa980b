-- Instructions are visited one after another, until each is closed.
use Rattle.std.proofs.Common.{◌≡◌, ℕ, zero, suc, ◌+◌, ◌<◌, ◌⊎◌, inl, inr, Bool, true, false, ◌||◌, List, [], ◌∷◌, ◌++◌, length, get_or, take, drop, set, replicate, Option, Some, None, refl, ap, sym, subst, ◌∙◌, arith, if◌then◌else◌}
use Rattle.std.proofs.lemmas.List.{length-set, length-replicate}
use Rattle.ja_bytes.proofs.FieldText.{field_unique}
use Rattle.ja_bytes.proofs.MethodText.{method_unique}
use Rattle.ja_pool.specs.Table.{Table}
use Rattle.ja_code.specs.declared.instr.RawInstr.{RawInstr}
use Rattle.ja_code.specs.declared.code.Code.{Code}
use Rattle.ja_code.specs.declared.behaviour.Behaviour.{Behaviour}
use Rattle.ja_kinds.specs.declared.effect.Effect.{Effect}
use Rattle.ja_kinds.specs.declared.frame.Frame.{Frame}
use Rattle.ja_kinds.specs.declared.state.State.{State}
use Rattle.ja_kinds.specs.declared.state.State.TheVariants.{Unreached}
use Rattle.ja_code.specs.Behaviour.{behaviour_at}
use Rattle.ja_kinds.specs.Frame.{Below}
use Rattle.ja_kinds.specs.Effect.{HasEffect, Does, IsOneOf, LeadsTo}
use Rattle.ja_kinds.specs.InnerReading.{Finds}
use Rattle.ja_kinds.specs.Solution.{HandledAt, after, thrown, entry_state, IsClosed, IsLeast}
use Rattle.ja_kinds.specs.InnerSolving.{state_at, AreWide, room, Rises, is_marked, Hands, AreApart, AreClean, Spreads, Visits, Sweeps, AreOnTheWay}
use Rattle.ja_kinds.proofs.Order.{below_trans}
use Rattle.ja_kinds.proofs.Monotone.{after_below, thrown_below}
use Rattle.ja_kinds.proofs.Effects.{one_effect}
use Rattle.ja_kinds.proofs.Hands.{rises_not, rises_both, marks_none, hands_none, parts_false, one_of_more}

-- an instruction has at most one effect
abbrev pub OneEffect : Type 0
OneEffect = (pool : Table) (i : RawInstr) (behaviour : Behaviour) (effect other : Effect) → HasEffect pool i behaviour effect → HasEffect pool i behaviour other → effect ≡ other

pub deed_law : OneEffect
deed_law =
    one_effect (λ text type other p q. (field_unique text text [] [] type other p q refl).2)
    (λ text params others res other p q. method_unique text params others res other p q)

one_behaviour : (pool : Table) (i : RawInstr) (b c : Behaviour) (e f : Effect) → Does pool i b e → Does pool i c f → b ≡ c
one_behaviour pool i b c e f p q =
    let first : behaviour_at i.opcode ≡ Some b = p.opcode in
    let second : behaviour_at i.opcode ≡ Some c = q.opcode in
    cc

pub one_deed : OneEffect → (pool : Table) (i : RawInstr) (b c : Behaviour) (e f : Effect) → Does pool i b e → Does pool i c f → (b ≡ c) × (e ≡ f)
one_deed law pool i b c e f p q =
    let same : b ≡ c = one_behaviour pool i b c e f p q in
    (same, law pool i c e f (subst (λ (d : Behaviour). HasEffect pool i d e) same p.effect_is) q.effect_is)

module _ (pool : Table) (code : Code) (frame : Frame) where
  -- what is closed stays so where what is known before it stays
  closed_up : (i : RawInstr) (old new : ℕ → State) → IsClosed pool code frame old i → new i.pc ≡ old i.pc → ((place : ℕ) → Below (old place) (new place))
      → IsClosed pool code frame new i
  closed_up i old new c same up =
      record {
        normal = λ b e place does leads below.
            subst (λ (s : State). Below (after frame e s) (new place)) (sym same)
            (below_trans (after frame e (old i.pc)) (old place) (new place) (c.normal b e place does leads below) (up place));
        exceptional = λ b e place does leads below.
            subst (λ (s : State). Below (thrown frame e s) (new place)) (sym same)
            (below_trans (thrown frame e (old i.pc)) (old place) (new place) (c.exceptional b e place does leads below) (up place));
      }

  -- ---- one instruction

  -- one that does nothing
  pub spreads_nothing : (i : RawInstr) (old : List State) (marks : List Bool) → ((b : Behaviour) (e : Effect) → Does pool i b e → ⊥)
      → AreWide frame.max_locals old → Spreads pool code frame i old old marks marks false
  spreads_nothing i old marks none wide =
      record {
        rises = rises_not frame.max_locals old wide;
        marks = marks_none old marks;
        closed = λ same. record {
          normal = λ b e place does leads below. absurd (none b e does);
          exceptional = λ b e place does leads below. absurd (none b e does);
        };
        within = λ bound closed w. w;
      }

  module _ (law : OneEffect) (i : RawInstr) (b : Behaviour) (e : Effect) (does : Does pool i b e) where
    pub spreads_both : (old mid new : List State) (k l m : List Bool) (c d : Bool) → length old ≡ frame.size
        → Hands frame.max_locals (λ (p : ℕ). LeadsTo i b p) (after frame e (state_at old i.pc)) old mid k l c
        → Hands frame.max_locals (λ (p : ℕ). HandledAt code.handlers i.pc p) (thrown frame e (state_at old i.pc)) mid new l m d
        → Spreads pool code frame i old new k m (c || d)
    spreads_both old mid new k l m c d size p q =
        record {
          rises = rises_both frame.max_locals old mid new c d p.rises q.rises;
          marks = record {
            same_length = q.marks.same_length ∙ p.marks.same_length;
            kept = λ n u. p.marks.kept n (q.marks.kept n u);
            unmarked = λ n u. q.marks.unmarked n u ∙ p.marks.unmarked n (q.marks.kept n u);
          };
          closed = λ same. record {
            normal = λ b' e' place other leads below.
                let eqs : (b ≡ b') × (e ≡ e') = one_deed law pool i b b' e e' does other in
                let lead : LeadsTo i b place = subst (λ (x : Behaviour). LeadsTo i x place) (sym eqs.0) leads in
                let there : Below (after frame e (state_at old i.pc)) (state_at new place) =
                below_trans (after frame e (state_at old i.pc)) (state_at mid place) (state_at new place)
                (p.there place lead (subst (λ (n : ℕ). place < n) (sym size) below)) (q.rises.up place) in
                subst (λ (x : Effect). Below (after frame x (state_at new i.pc)) (state_at new place)) eqs.1
                (subst (λ (s : State). Below (after frame e s) (state_at new place)) (sym same) there);
            exceptional = λ b' e' place other handled below.
                let eqs : (b ≡ b') × (e ≡ e') = one_deed law pool i b b' e e' does other in
                let there : Below (thrown frame e (state_at old i.pc)) (state_at new place) =
                q.there place handled (subst (λ (n : ℕ). place < n) (sym (p.rises.same_length ∙ size)) below) in
                subst (λ (x : Effect). Below (thrown frame x (state_at new i.pc)) (state_at new place)) eqs.1
                (subst (λ (s : State). Below (thrown frame e s) (state_at new place)) (sym same) there);
          };
          within = λ bound closed w.
              q.within bound
              (p.within bound w (λ place leads below.
              below_trans (after frame e (state_at old i.pc)) (after frame e (bound i.pc)) (bound place)
              (after_below frame e (state_at old i.pc) (bound i.pc) (w i.pc))
              (closed.normal b e place does leads (subst (λ (n : ℕ). place < n) size below))))
              (λ place handled below.
              below_trans (thrown frame e (state_at old i.pc)) (thrown frame e (bound i.pc)) (bound place)
              (thrown_below frame e (state_at old i.pc) (bound i.pc) (w i.pc))
              (closed.exceptional b e place does handled (subst (λ (n : ℕ). place < n) (p.rises.same_length ∙ size) below)));
        }

    -- one that has no handler
    pub spreads_alone : (old new : List State) (k l : List Bool) (c : Bool) → length old ≡ frame.size → ((place : ℕ) → HandledAt code.handlers i.pc place → ⊥)
        → Hands frame.max_locals (λ (p : ℕ). LeadsTo i b p) (after frame e (state_at old i.pc)) old new k l c → Spreads pool code frame i old new k l c
    spreads_alone old new k l c size none p =
        subst (Spreads pool code frame i old new k l) (or_false c)
        (spreads_both old new new k l l c false size p
        (hands_none frame.max_locals (λ (p : ℕ). HandledAt code.handlers i.pc p) (thrown frame e (state_at old i.pc)) new l p.rises.wide none))
      where
        or_false : (c : Bool) → (c || false) ≡ c
        or_false true = refl
        or_false false = refl

  -- ---- marks

  cleared : (ms : List Bool) (p q : ℕ) → is_marked (set ms p false) q ≡ false → (q ≡ p) ⊎ (is_marked ms q ≡ false)
  cleared [] p q e = inr e
  cleared (m ∷ ms) zero zero e = inl refl
  cleared (m ∷ ms) zero (suc q) e = inr e
  cleared (m ∷ ms) (suc p) zero e = inr e
  cleared (m ∷ ms) (suc p) (suc q) e = elim (cleared ms p q e) [ inl f ↦ inl (ap suc f) | inr f ↦ inr f ]

  module _ (i : RawInstr) (old new : List State) (before after_marks : List Bool) (changed : Bool) where
    -- an instruction that is not marked
    pub visits_nothing : is_marked before i.pc ≡ false → IsOneOf i code.instrs → AreWide frame.max_locals old → AreClean pool code frame old before
        → Visits pool code frame i old old before before false
    visits_nothing unmarked member wide clean =
        record {
          rises = rises_not frame.max_locals old wide;
          same_marks = refl;
          clean = clean;
          closed = λ e. clean i member unmarked;
          within = λ bound closed w. w;
        }

    still_clean : AreApart code.instrs → IsOneOf i code.instrs → AreClean pool code frame old before
        → Spreads pool code frame i old new (set before i.pc false) after_marks changed → AreClean pool code frame new after_marks
    still_clean apart member clean s j there unmarked =
        elim (cleared before i.pc j.pc (s.marks.kept j.pc unmarked)) [
          | inl same ↦
              let one : j ≡ i = apart j i there member same in
              subst (λ (k : RawInstr). IsClosed pool code frame (state_at new) k) (sym one)
              (s.closed (subst (λ (n : ℕ). state_at new n ≡ state_at old n) same (s.marks.unmarked j.pc unmarked)))
          | inr before_too ↦ closed_up j (state_at old) (state_at new) (clean j there before_too) (s.marks.unmarked j.pc unmarked) s.rises.up
        ]

    -- an instruction that is
    pub visits_spread : AreApart code.instrs → IsOneOf i code.instrs → AreClean pool code frame old before
        → Spreads pool code frame i old new (set before i.pc false) after_marks changed → Visits pool code frame i old new before after_marks changed
    visits_spread apart member clean s =
        record {
          rises = s.rises;
          same_marks = s.marks.same_length ∙ length-set before i.pc false;
          clean = still_clean apart member clean s;
          closed = λ e. s.closed (ap (λ (ss : List State). state_at ss i.pc) (s.rises.same e));
          within = s.within;
        }

  -- ---- one after another

  pub sweeps_none : (old : List State) (marks : List Bool) → AreWide frame.max_locals old → AreClean pool code frame old marks
      → Sweeps pool code frame [] old old marks marks false
  sweeps_none old marks wide clean =
      record {
        rises = rises_not frame.max_locals old wide;
        same_marks = refl;
        clean = clean;
        closed = λ e i none. absurd none;
        within = λ bound closed w. w;
      }

  pub sweeps_more : (old mid new : List State) (k l m : List Bool) (c d : Bool) (n : ℕ) (i : RawInstr) → n < length code.instrs → get_or code.instrs n i ≡ i
      → IsOneOf i code.instrs → Sweeps pool code frame (take n code.instrs) old mid k l c → Visits pool code frame i mid new l m d
      → Sweeps pool code frame (take (n + 1) code.instrs) old new k m (c || d)
  sweeps_more old mid new k l m c d n i below is member p q =
      record {
        rises = rises_both frame.max_locals old mid new c d p.rises q.rises;
        same_marks = q.same_marks ∙ p.same_marks;
        clean = q.clean;
        closed = λ e j there.
            let both : (c ≡ false) × (d ≡ false) = parts_false c d e in
            elim (one_of_more code.instrs n i below is j there) [
              | inl earlier ↦ subst (λ (ss : List State). IsClosed pool code frame (state_at ss) j) (sym (q.rises.same both.1)) (p.closed both.0 j earlier)
              | inr last ↦ subst (λ (x : RawInstr). IsClosed pool code frame (state_at new) x) (sym last) (q.closed both.1)
            ];
        within = λ bound closed w. q.within bound (closed i member) (p.within bound closed w);
      }

  -- ---- to the end

  module _ (old new : List State) (before after_marks : List Bool) (changed : Bool) (way : AreOnTheWay pool code frame old before)
      (s : Sweeps pool code frame code.instrs old new before after_marks changed) where
    pub on_the_way : AreOnTheWay pool code frame new after_marks
    on_the_way =
        record {
          size = s.rises.same_length ∙ way.size;
          marks_size = s.same_marks ∙ (way.marks_size ∙ sym s.rises.same_length);
          wide = s.rises.wide;
          clean = s.clean;
          entry = below_trans (entry_state frame) (state_at old 0) (state_at new 0) way.entry (s.rises.up 0);
          within = λ other solves. s.within other solves.closed (way.within other solves);
        }

  pub at_the_end : (states : List State) (marks : List Bool) → AreOnTheWay pool code frame states marks
      → ((i : RawInstr) → IsOneOf i code.instrs → IsClosed pool code frame (state_at states) i) → IsLeast pool code frame (state_at states)
  at_the_end states marks way closed =
      record {
        solves = record { entry = way.entry; closed = closed };
        below = λ other solves place. way.within other solves place;
      }

  -- ---- at the start

  unreached_at : (n p : ℕ) → state_at (replicate n Unreached) p ≡ Unreached
  unreached_at zero p = refl
  unreached_at (suc n) zero = refl
  unreached_at (suc n) (suc p) = unreached_at n p

  unreached_closed : (at : ℕ → State) (i : RawInstr) → at i.pc ≡ Unreached → IsClosed pool code frame at i
  unreached_closed at i e =
      record {
        normal = λ b f place does leads below. subst (λ (s : State). Below (after frame f s) (at place)) (sym e) tt;
        exceptional = λ b f place does leads below. subst (λ (s : State). Below (thrown frame f s) (at place)) (sym e) tt;
      }

  pub entered : (new : List State) (before after_marks : List Bool) (changed : Bool) → 0 < frame.size → length before ≡ frame.size
      → Hands frame.max_locals (λ (p : ℕ). p ≡ 0) (entry_state frame) (replicate frame.size Unreached) new before after_marks changed
      → AreOnTheWay pool code frame new after_marks
  entered new before after_marks changed some even h =
      let n : length (replicate frame.size Unreached) ≡ frame.size = length-replicate frame.size Unreached in
      record {
        size = h.rises.same_length ∙ n;
        marks_size = h.marks.same_length ∙ (even ∙ sym (h.rises.same_length ∙ n));
        wide = h.rises.wide;
        clean = λ i member unmarked. unreached_closed (state_at new) i (h.marks.unmarked i.pc unmarked ∙ unreached_at frame.size i.pc);
        entry = h.there 0 refl (subst (λ (k : ℕ). 0 < k) (sym n) some);
        within = λ other solves. h.within other (λ place. subst (λ (s : State). Below s (other place)) (sym (unreached_at frame.size place)) tt)
            (λ place e below. subst (λ (k : ℕ). Below (entry_state frame) (other k)) (sym e) solves.entry);
      }

pub unreached_wide : (count n : ℕ) → AreWide count (replicate n Unreached)
unreached_wide count zero = tt
unreached_wide count (suc n) = (tt, unreached_wide count n)

-- ---- what was found

-- an opcode that does nothing
pub idle_opcode : (pool : Table) (i : RawInstr) → behaviour_at i.opcode ≡ None → (b : Behaviour) (e : Effect) → Does pool i b e → ⊥
idle_opcode pool i none b e does =
    let some : behaviour_at i.opcode ≡ Some b = does.opcode in
    absurd cc

module _ (pool : Table) (i : RawInstr) (b : Behaviour) (found : Option Effect) (at : behaviour_at i.opcode ≡ Some b) (finds : Finds pool i b found) where
  -- an instruction without effect
  pub idle_found : found ≡ None → (c : Behaviour) (e : Effect) → Does pool i c e → ⊥
  idle_found none c e does =
      let some : behaviour_at i.opcode ≡ Some c = does.opcode in
      let same : c ≡ b = cc in
      subst (Finds pool i b) none finds e (subst (λ (d : Behaviour). HasEffect pool i d e) same does.effect_is)

  pub does_found : (e : Effect) → found ≡ Some e → Does pool i b e
  does_found e some = record { opcode = at; effect_is = subst (Finds pool i b) some finds }

-- ---- members

pub one_of_at : {A : Type 0} (xs : List A) (n : ℕ) (x : A) → n < length xs → get_or xs n x ≡ x → IsOneOf x xs
one_of_at [] n x below e = absurd (omega arith)
one_of_at (y ∷ ys) zero x below e = inl (sym e)
one_of_at (y ∷ ys) (suc n) x below e = inr (one_of_at ys n x (omega arith) e)

-- ---- the rounds end

-- one more round is due
abbrev pub due : Bool → ℕ
due changed = if changed then 1 else 0

pub falls_again : (count : ℕ) (old new : List State) (was now : Bool) → was ≡ true → Rises count old new now → room count new + due now < room count old + due was
falls_again count old new true true e r = omega (arith, r.falls refl)
falls_again count old new true false e r = omega (arith, ap (room count) (r.same refl))
falls_again count old new false now e r = absurd cc

-- ---- what is written back

pub written_back : {A : Type 0} (n : ℕ) (new old : List A) → length new ≡ n → take n (new ++ drop (length new) old) ≡ new
written_back n new old e = subst (λ (k : ℕ). take k (new ++ drop (length new) old) ≡ new) e (take_whole new (drop (length new) old))
  where
    take_whole : {A : Type 0} (xs ys : List A) → take (length xs) (xs ++ ys) ≡ xs
    take_whole [] ys = refl
    take_whole (x ∷ xs) ys = ap (λ zs. x ∷ zs) (take_whole xs ys)
