-- What the kinds of a method say of its instructions: each that is reached accepts what is known before it, and leads to
-- places where what it hands on is known.
use Rattle.std.proofs.Common.{◌≡◌, ◌≢◌, ℕ, ◌+◌, ◌<◌, ◌≤◌, ◌⊎◌, inl, inr, Bool, true, false, ◌||◌, List, [], ◌∷◌, length, Option, Some, None, refl, ap, sym, subst, ◌∙◌, arith, if◌then◌else◌}
use Rattle.std.specs.Prelude.{slice_get, is_none, nat_lt, ◌&&◌, ◌==◌}
use Rattle.std.proofs.lemmas.Bool.{ltb-false}
use Rattle.ja_base.specs.declared.java_type.Kind.TheVariants.{R}
use Rattle.ja_pool.specs.Table.{tags_of, dims_of}
use Rattle.ja_code.specs.declared.instr.RawInstr.{RawInstr}
use Rattle.ja_code.specs.declared.code.Code.{Code}
use Rattle.ja_code.specs.Grammar as grammar
use Rattle.ja_code.specs.Grammar.{Spells}
use Rattle.ja_class.specs.Meaning.{ClassSpelled}
use Rattle.ja_class.specs.ClassFile.{IsSpelled}
use Rattle.ja_code.specs.declared.behaviour.Behaviour.{Behaviour}
use Rattle.ja_kinds.specs.declared.effect.Effect.{Effect}
use Rattle.ja_kinds.specs.declared.fault.KindFault.{KindFault}
use Rattle.ja_kinds.specs.declared.fault.KindFault.TheVariants.{StackDepth, KindClash, FallsOff}
use Rattle.ja_kinds.specs.declared.frame.Frame.{Frame}
use Rattle.ja_kinds.specs.declared.state.KindState.{KindState}
use Rattle.ja_kinds.specs.declared.state.State.{State}
use Rattle.ja_kinds.specs.declared.state.State.TheVariants.{Unreached, Known, Clash}
use Rattle.ja_kinds.specs.Frame.{AreBelow, Below, parameter_words}
use Rattle.ja_kinds.specs.Effect.{is_wrong_depth, turned, targets_of, Does, IsOneOf, LeadsTo}
use Rattle.ja_code.specs.Behaviour.{goes_on}
use Rattle.ja_kinds.specs.Solution.{accepted, handed, after, thrown, thrown_with, HandledAt, is_narrow, falls_off, fault_at, AreKinds}
use Rattle.ja_kinds.specs.Answer.{code_size, HasFrame}
use Rattle.ja_kinds.proofs.Opcodes.{branches_are}
use Rattle.ja_kinds.proofs.Profile.{HasDeed}
use Rattle.ja_kinds.specs.Reached.{StartsAt, IsKnown, IsAccepted, AreReached}
use Rattle.ja_kinds.proofs.Starts.{target_starts, handler_starts, entry_starts, next_starts, in_code}
use Rattle.ja_kinds.proofs.OfClass.{IsOfProfile, of_profile}

-- ---- no fault

-- what the absence of a fault says
record NoFault (w n r o : Bool) : Type 0 where
  depth : w ≡ false
  turns : n ≡ false
  wide : r ≡ false
  stays : o ≡ false

no_fault : (w n r o : Bool) (x y z : KindFault) → (if w then Some x else if n || r then Some y else if o then Some z else None) ≡ None → NoFault w n r o
no_fault true n r o x y z e = absurd cc
no_fault false true r o x y z e = absurd cc
no_fault false false true o x y z e = absurd cc
no_fault false false false true x y z e = absurd cc
no_fault false false false false x y z e = record { depth = refl; turns = refl; wide = refl; stays = refl }

-- an option that is not none
record IsThere (o : Option KindState) : Type 0 where
  value : KindState
  is : o ≡ Some value

there : (o : Option KindState) → is_none o ≡ false → IsThere o
there None e = absurd cc
there (Some g) e = record { value = g; is = refl }

accepted_is : (w : Bool) (o : Option KindState) (g : KindState) → w ≡ false → o ≡ Some g → (if w then None else o) ≡ Some g
accepted_is true o g e p = absurd cc
accepted_is false o g e p = p

accepts : (frame : Frame) (i : RawInstr) (b : Behaviour) (e : Effect) (f : KindState) → fault_at frame i b e (Known f) ≡ None → IsAccepted frame i b e f
accepts frame i b e f none =
    let n : NoFault (is_wrong_depth frame.max_stack e f.stack) (is_none (turned frame.returns e f)) (is_narrow frame i.pc) (falls_off frame i b) =
    no_fault (is_wrong_depth frame.max_stack e f.stack) (is_none (turned frame.returns e f)) (is_narrow frame i.pc) (falls_off frame i b)
    (StackDepth i.pc) (KindClash i.pc) (FallsOff i.pc) none in
    let t : IsThere (turned frame.returns e f) = there (turned frame.returns e f) n.turns in
    record {
      result = t.value;
      is = accepted_is (is_wrong_depth frame.max_stack e f.stack) (turned frame.returns e f) t.value n.depth t.is;
      turns = t.is;
      depth = n.depth;
      stays = n.stays;
    }

not_narrow : (frame : Frame) (i : RawInstr) (b : Behaviour) (e : Effect) (f : KindState) → fault_at frame i b e (Known f) ≡ None → is_narrow frame i.pc ≡ false
not_narrow frame i b e f none =
    (no_fault (is_wrong_depth frame.max_stack e f.stack) (is_none (turned frame.returns e f)) (is_narrow frame i.pc) (falls_off frame i b)
    (StackDepth i.pc) (KindClash i.pc) (FallsOff i.pc) none).wide

-- what is above something known, and no clash, is known
known_from : (f : KindState) (s : State) → Below (Known f) s → (s ≡ Clash → ⊥) → IsKnown s f.locals f.stack
known_from f Unreached below right = absurd below
known_from f (Known g) below right = record { state = g; is = refl; locals_below = below.0; same_stack = sym below.1 }
known_from f Clash below right = absurd (right refl)

goes_where : (goes : Bool) (next size : ℕ) → (Rattle.std.specs.Prelude.◌&&◌ goes (next == size)) ≡ false → goes ≡ true → next ≡ size → ⊥
goes_where true next size off goes same =
    let e : (next == size) ≡ true = Rattle.std.proofs.Common.eq-eqb next size same in
    absurd cc
goes_where false next size off goes same = absurd cc

module _ (class : ClassSpelled) (spelled : IsSpelled class) (m : ℕ) (code : Code) (frame : Frame) (has : HasFrame class m code frame) (at : ℕ → State)
    (are : AreKinds class.pool code frame at) where
  profile : IsOfProfile class m has.method code
  profile = of_profile class spelled m has.method code has.method_at has.code_is

  -- each instruction has an effect
  pub does_something : (i : RawInstr) → IsOneOf i code.instrs → HasDeed class.pool i
  does_something = profile.deeds

  clash_fault : (i : RawInstr) (b : Behaviour) (e : Effect) → fault_at frame i b e Clash ≡ None → ⊥
  clash_fault i b e none = absurd cc

  -- no clash is known before an instruction
  pub no_clash : (i : RawInstr) → IsOneOf i code.instrs → at i.pc ≡ Clash → ⊥
  no_clash i there clash =
      let d : HasDeed class.pool i = profile.deeds i there in
      clash_fault i d.behaviour d.effect
      (subst (λ (s : State). fault_at frame i d.behaviour d.effect s ≡ None) clash (are.right i there d.behaviour d.effect d.does))

  clash_free : (place : ℕ) → StartsAt code.instrs place → at place ≡ Clash → ⊥
  clash_free place s clash = no_clash s.instr s.there (ap at s.at ∙ clash)

  place_in : (place : ℕ) → StartsAt code.instrs place → place < frame.size
  place_in place s =
      let inside : s.instr.pc < code_size code = in_code profile.text (tags_of class.pool) (dims_of class.pool) profile.rows code profile.spells s.instr s.there in
      subst (λ (n : ℕ). n < frame.size) s.at (subst (λ (n : ℕ). s.instr.pc < n) (sym has.is.size) inside)

  -- an instruction that is reached accepts what is known before it
  pub reached_accepts : (i : RawInstr) → IsOneOf i code.instrs → (b : Behaviour) (e : Effect) → Does class.pool i b e → (f : KindState) → at i.pc ≡ Known f
      → IsAccepted frame i b e f
  reached_accepts i there b e does f known =
      accepts frame i b e f (subst (λ (s : State). fault_at frame i b e s ≡ None) known (are.right i there b e does))

  -- where the normal end of an instruction leads stands an instruction
  next_start : (i : RawInstr) → IsOneOf i code.instrs → (b : Behaviour) (e : Effect) → Does class.pool i b e → falls_off frame i b ≡ false → (place : ℕ)
      → LeadsTo i b place → StartsAt code.instrs place
  next_start i there b e does stays place (inl target) =
      let same : targets_of b i ≡ grammar.targets i = ap (λ (t : Bool). if t then i.operands else []) (branches_are i.opcode b does.opcode) in
      target_starts profile.text (tags_of class.pool) (dims_of class.pool) profile.rows code profile.spells i place there (subst (λ (ps : List ℕ). IsOneOf place ps) same target)
  next_start i there b e does stays place (inr next) =
      elim (next_starts profile.text (tags_of class.pool) (dims_of class.pool) profile.rows code profile.spells i there) [
        | inl end ↦ absurd (goes_where (goes_on b) (i.pc + i.length) frame.size stays next.0 (end ∙ sym has.is.size))
        | inr s ↦ subst (λ (n : ℕ). StartsAt code.instrs n) (sym next.1) s
      ]

  -- where the normal end of a reached instruction leads, what it makes of the stack is known
  pub reached_next : (i : RawInstr) → IsOneOf i code.instrs → (b : Behaviour) (e : Effect) → Does class.pool i b e → (f : KindState) → at i.pc ≡ Known f
      → (place : ℕ) → LeadsTo i b place → (g : KindState) → accepted frame e f ≡ Some g → IsKnown (at place) g.locals g.stack
  reached_next i there b e does f known place leads g is =
      let a : IsAccepted frame i b e f = reached_accepts i there b e does f known in
      let s : StartsAt code.instrs place = next_start i there b e does a.stays place leads in
      let below : Below (after frame e (at i.pc)) (at place) = (are.least.solves.closed i there).normal b e place does leads (place_in place s) in
      let known_below : Below (handed (accepted frame e f)) (at place) = subst (λ (x : State). Below (after frame e x) (at place)) known below in
      known_from g (at place) (subst (λ (o : Option KindState). Below (handed o) (at place)) is known_below) (clash_free place s)

  -- an instruction stands there, in the code
  pub next_is_start : (i : RawInstr) → IsOneOf i code.instrs → (b : Behaviour) (e : Effect) → Does class.pool i b e → (f : KindState) → at i.pc ≡ Known f
      → (place : ℕ) → LeadsTo i b place → StartsAt code.instrs place
  next_is_start i there b e does f known place leads = next_start i there b e does (reached_accepts i there b e does f known).stays place leads

  -- at a handler of a reached instruction the exception alone is on the stack
  pub reached_handler : (i : RawInstr) → IsOneOf i code.instrs → (b : Behaviour) (e : Effect) → Does class.pool i b e → (f : KindState) → at i.pc ≡ Known f
      → (place : ℕ) → HandledAt code.handlers i.pc place → IsKnown (at place) f.locals (R ∷ [])
  reached_handler i there b e does f known place handled =
      let a : IsAccepted frame i b e f = reached_accepts i there b e does f known in
      let s : StartsAt code.instrs place =
      handler_starts profile.text (tags_of class.pool) (dims_of class.pool) profile.rows code profile.spells i.pc place handled in
      let below : Below (thrown frame e (at i.pc)) (at place) = (are.least.solves.closed i there).exceptional b e place does handled (place_in place s) in
      let known_below : Below (thrown_with f.locals (accepted frame e f)) (at place) = subst (λ (x : State). Below (thrown frame e x) (at place)) known below in
      known_from (record { locals = f.locals; stack = R ∷ [] }) (at place)
      (subst (λ (o : Option KindState). Below (thrown_with f.locals o) (at place)) a.is known_below) (clash_free place s)

  -- the first instruction is reached, with an empty stack
  pub entry_known : IsKnown (at 0) (Rattle.ja_kinds.specs.Frame.entry_locals frame.max_locals frame.parameters) []
  entry_known =
      known_from (record { locals = Rattle.ja_kinds.specs.Frame.entry_locals frame.max_locals frame.parameters; stack = [] }) (at 0) are.least.solves.entry
      (clash_free 0 (entry_starts profile.text (tags_of class.pool) (dims_of class.pool) profile.rows code profile.spells profile.some))

  -- the parameters fit the locals
  pub parameters_fit : length (parameter_words frame.parameters) ≤ frame.max_locals
  parameters_fit =
      let s : StartsAt code.instrs 0 = entry_starts profile.text (tags_of class.pool) (dims_of class.pool) profile.rows code profile.spells profile.some in
      let d : HasDeed class.pool s.instr = profile.deeds s.instr s.there in
      let known : at s.instr.pc ≡ Known entry_known.state = ap at s.at ∙ entry_known.is in
      let wide : is_narrow frame s.instr.pc ≡ false = not_narrow frame s.instr d.behaviour d.effect entry_known.state
      (subst (λ (x : State). fault_at frame s.instr d.behaviour d.effect x ≡ None) known (are.right s.instr s.there d.behaviour d.effect d.does)) in
      let narrow : is_narrow frame 0 ≡ false = ap (is_narrow frame) (sym s.at) ∙ wide in
      ltb-false frame.max_locals (length (parameter_words frame.parameters)) narrow

  -- all of it
  pub all_reached : AreReached class.pool code frame at
  all_reached = record {
    accepts = λ i b e f r. reached_accepts i r.there b e r.does f r.known;
    next = λ i b e f g place r is leads. reached_next i r.there b e r.does f r.known place leads g is;
    next_starts = λ i b e f place r leads. next_is_start i r.there b e r.does f r.known place leads;
    handler = λ i b e f place r handled. reached_handler i r.there b e r.does f r.known place handled;
    handler_starts = handler_starts profile.text (tags_of class.pool) (dims_of class.pool) profile.rows code profile.spells;
    no_clash = no_clash;
    entry = entry_known;
    entry_starts = entry_starts profile.text (tags_of class.pool) (dims_of class.pool) profile.rows code profile.spells profile.some;
    parameters = parameters_fit;
  }
