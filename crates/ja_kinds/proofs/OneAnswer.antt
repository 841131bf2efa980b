-- A method has one answer.
use Rattle.std.proofs.Common.{◌≡◌, ℕ, ◌⊎◌, inl, inr, false, List, [], ◌∷◌, Option, Some, None, Result, Ok, Err, IfOk, refl, ap, sym, subst, ◌∙◌}
use Rattle.std.specs.Prelude.{slice_get, option_map, IfErr, MatchResult}
use Rattle.ja_base.specs.declared.java_type.Kind.{Kind}
use Rattle.ja_bytes.proofs.MethodText.{method_unique}
use Rattle.ja_pool.specs.Table.{Table}
use Rattle.ja_code.specs.declared.instr.RawInstr.{RawInstr}
use Rattle.ja_code.specs.declared.code.Code.{Code}
use Rattle.ja_ir.specs.declared.head.HeadMethod.{HeadMethod}
use Rattle.ja_class.specs.declared.class.ClassMethod.{ClassMethod}
use Rattle.ja_class.specs.Meaning.{ClassSpelled}
use Rattle.ja_code.specs.declared.behaviour.Behaviour.{Behaviour}
use Rattle.ja_kinds.specs.declared.effect.Effect.{Effect}
use Rattle.ja_kinds.specs.declared.fault.KindFault.{KindFault}
use Rattle.ja_kinds.specs.declared.fault.KindFault.TheVariants.{Memory}
use Rattle.ja_kinds.specs.declared.frame.Frame.{Frame}
use Rattle.ja_kinds.specs.declared.state.KindState.{KindState}
use Rattle.ja_kinds.specs.declared.state.State.{State}
use Rattle.ja_kinds.specs.declared.state.State.TheVariants.{Unreached, Known, Clash}
use Rattle.ja_kinds.specs.Frame.{IsBelow, AreBelow, Below}
use Rattle.ja_kinds.specs.Effect.{Does, IsOneOf, kind_of_type}
use Rattle.ja_kinds.specs.Solution.{fault_at, IsRight, IsFirst, here, later, IsLeast, IsFault, size, instruction, AreKinds}
use Rattle.ja_kinds.specs.Answer.{parameter_kinds, IsFrame, HasFrame, known_of, known_at, AreKindsOf, IsFaultOf}
use Rattle.ja_kinds.specs.InnerSolving.{AreKindsIn}
use Rattle.ja_kinds.proofs.Effects.{if_ok}
use Rattle.ja_kinds.proofs.Visits.{OneEffect, one_deed}

-- ---- one least solution

same_below : (k l : Kind) → IsBelow k l → IsBelow l k → k ≡ l
same_below k l (inl p) q = p
same_below k l (inr p) (inl q) = sym q
same_below k l (inr p) (inr q) = q ∙ sym p

same_locals : (ks ls : List Kind) → AreBelow ks ls → AreBelow ls ks → ks ≡ ls
same_locals [] [] p q = refl
same_locals [] (l ∷ ls) p q = absurd p
same_locals (k ∷ ks) [] p q = absurd p
same_locals (k ∷ ks) (l ∷ ls) p q =
    let head : k ≡ l = same_below k l p.0 q.0 in
    let tail : ks ≡ ls = same_locals ks ls p.1 q.1 in
    cc

same_state : (f g : KindState) → f.locals ≡ g.locals → f.stack ≡ g.stack → f ≡ g
same_state f g p q =
    ap (λ (locals : List Kind). record { locals = locals; stack = f.stack }) p ∙ ap (λ (stack : List Kind). record { locals = g.locals; stack = stack }) q

same_states : (s t : State) → Below s t → Below t s → s ≡ t
same_states Unreached Unreached p q = refl
same_states Unreached (Known g) p q = absurd q
same_states Unreached Clash p q = absurd q
same_states (Known f) Unreached p q = absurd p
same_states (Known f) (Known g) p q =
    ap Known (same_state f g (same_locals f.locals g.locals p.0 q.0) p.1)
same_states (Known f) Clash p q = absurd q
same_states Clash Unreached p q = absurd p
same_states Clash (Known g) p q = absurd p
same_states Clash Clash p q = refl

pub one_solution : (pool : Table) (code : Code) (frame : Frame) (at other : ℕ → State) → IsLeast pool code frame at → IsLeast pool code frame other
    → (place : ℕ) → at place ≡ other place
one_solution pool code frame at other p q place =
    same_states (at place) (other place) (p.below other q.solves place) (q.below at p.solves place)

same_known : (at other : ℕ → State) → ((place : ℕ) → at place ≡ other place) → (is : List RawInstr) → known_at at is ≡ known_at other is
same_known at other same [] = refl
same_known at other same (i ∷ is) =
    let head : known_of (at i.pc) ≡ known_of (other i.pc) = ap known_of (same i.pc) in
    let tail : known_at at is ≡ known_at other is = same_known at other same is in
    cc

-- ---- one first fault

module _ (law : OneEffect) (pool : Table) (frame : Frame) (at other : ℕ → State) (same : (place : ℕ) → at place ≡ other place) where
  module _ (i : RawInstr) (b c : Behaviour) (e f : Effect) (p : Does pool i b e) (q : Does pool i c f) where
    same_fault : fault_at frame i b e (at i.pc) ≡ fault_at frame i c f (other i.pc)
    same_fault =
        let eqs : (b ≡ c) × (e ≡ f) = one_deed law pool i b c e f p q in
        ap (fault_at frame i b e) (same i.pc)
        ∙ (ap (λ (x : Effect). fault_at frame i b x (other i.pc)) eqs.1 ∙ ap (λ (x : Behaviour). fault_at frame i x f (other i.pc)) eqs.0)

  pub one_first : (is : List RawInstr) (x y : KindFault) → IsFirst pool frame at is x → IsFirst pool frame other is y → x ≡ y
  one_first [] x y p q = elim p [ ]
  one_first (i ∷ is) x y (here b e p u) (here c f q v) =
      let eq : fault_at frame i b e (at i.pc) ≡ fault_at frame i c f (other i.pc) = same_fault i b c e f p q in
      cc
  one_first (i ∷ is) x y (here b e p u) (later right more) =
      let eq : fault_at frame i b e (at i.pc) ≡ fault_at frame i b e (other i.pc) = ap (fault_at frame i b e) (same i.pc) in
      let none : fault_at frame i b e (other i.pc) ≡ None = right b e p in
      absurd cc
  one_first (i ∷ is) x y (later right more) (here c f q v) =
      let eq : fault_at frame i c f (at i.pc) ≡ fault_at frame i c f (other i.pc) = ap (fault_at frame i c f) (same i.pc) in
      let none : fault_at frame i c f (at i.pc) ≡ None = right c f q in
      absurd cc
  one_first (i ∷ is) x y (later right more) (later also rest) = one_first is x y more rest

  pub not_first : (is : List RawInstr) (x : KindFault) → ((i : RawInstr) → IsOneOf i is → IsRight pool frame at i) → IsFirst pool frame other is x → ⊥
  not_first [] x all p = elim p [ ]
  not_first (i ∷ is) x all (here c f q v) =
      let eq : fault_at frame i c f (at i.pc) ≡ fault_at frame i c f (other i.pc) = ap (fault_at frame i c f) (same i.pc) in
      let none : fault_at frame i c f (at i.pc) ≡ None = all i (inl refl) c f q in
      absurd cc
  not_first (i ∷ is) x all (later right more) = not_first is x (λ j there. all j (inr there)) more

-- ---- one frame

abbrev frame_with : (bytes locals stack : ℕ) → List Kind → Option Kind → Frame
frame_with bytes locals stack parameters returns =
    record { size = bytes; max_locals = locals; max_stack = stack; parameters = parameters; returns = returns }

same_fields : (f g : Frame) → f.size ≡ g.size → f.max_locals ≡ g.max_locals → f.max_stack ≡ g.max_stack → f.parameters ≡ g.parameters
    → f.returns ≡ g.returns → f ≡ g
same_fields f g a b c d e =
    ap (λ (x : ℕ). frame_with x f.max_locals f.max_stack f.parameters f.returns) a
    ∙ (ap (λ (x : ℕ). frame_with g.size x f.max_stack f.parameters f.returns) b
    ∙ (ap (λ (x : ℕ). frame_with g.size g.max_locals x f.parameters f.returns) c
    ∙ (ap (λ (x : List Kind). frame_with g.size g.max_locals g.max_stack x f.returns) d
    ∙ ap (λ (x : Option Kind). frame_with g.size g.max_locals g.max_stack g.parameters x) e)))

module _ (class : ClassSpelled) (m : ℕ) (code other : Code) (frame also : Frame) (p : HasFrame class m code frame) (q : HasFrame class m other also) where
  same_method : p.method ≡ q.method
  same_method =
      let first : slice_get class.methods m ≡ Some p.method = p.method_at in
      let second : slice_get class.methods m ≡ Some q.method = q.method_at in
      cc

  same_head : p.head ≡ q.head
  same_head =
      let first : slice_get class.head.methods m ≡ Some p.head = p.head_at in
      let second : slice_get class.head.methods m ≡ Some q.head = q.head_at in
      cc

  pub same_code : code ≡ other
  same_code =
      let first : p.method.code ≡ Some code = p.code_is in
      let second : q.method.code ≡ Some other = q.code_is in
      let method : p.method.code ≡ q.method.code = ap (λ (x : ClassMethod). x.code) same_method in
      cc

  pub same_frame : frame ≡ also
  same_frame =
      let texts : p.head.desc ≡ q.head.desc = ap (λ (h : HeadMethod). h.desc) same_head in
      let types : (p.is.params ≡ q.is.params) × (p.is.result ≡ q.is.result) =
      method_unique q.head.desc p.is.params q.is.params p.is.result q.is.result
      (subst (λ (t : List ℕ). Rattle.ja_base.specs.Descriptor.IsMethod t p.is.params p.is.result) texts p.is.descriptor) q.is.descriptor in
      let size_is : frame.size ≡ also.size = p.is.size ∙ (ap Rattle.ja_kinds.specs.Answer.code_size same_code ∙ sym q.is.size) in
      let locals_are : frame.max_locals ≡ also.max_locals = p.is.locals ∙ (ap (λ (x : ClassMethod). x.max_locals) same_method ∙ sym q.is.locals) in
      let stack_is : frame.max_stack ≡ also.max_stack = p.is.stack ∙ (ap (λ (x : ClassMethod). x.max_stack) same_method ∙ sym q.is.stack) in
      let parameters_are : frame.parameters ≡ also.parameters =
      p.is.parameters ∙ (ap (λ (h : HeadMethod). parameter_kinds h.flags p.is.params) same_head
      ∙ (ap (parameter_kinds q.head.flags) types.0 ∙ sym q.is.parameters)) in
      let returns_is : frame.returns ≡ also.returns = p.is.returns ∙ (ap (option_map kind_of_type) types.1 ∙ sym q.is.returns) in
      same_fields frame also size_is locals_are stack_is parameters_are returns_is

-- ---- one answer

pub one_kinds : (class : ClassSpelled) (m : ℕ) (kinds others : List (Option KindState)) → AreKindsOf class m kinds → AreKindsOf class m others → kinds ≡ others
one_kinds class m kinds others p q =
    let codes : p.code ≡ q.code = same_code class m p.code q.code p.frame q.frame p.has_frame q.has_frame in
    let frames : p.frame ≡ q.frame = same_frame class m p.code q.code p.frame q.frame p.has_frame q.has_frame in
    let least : IsLeast class.pool p.code p.frame q.at =
    subst (λ (c : Code). IsLeast class.pool c p.frame q.at) (sym codes) (subst (λ (f : Frame). IsLeast class.pool q.code f q.at) (sym frames) q.are.least) in
    p.kinds_are
    ∙ (same_known p.at q.at (one_solution class.pool p.code p.frame p.at q.at p.are.least least) p.code.instrs
    ∙ (ap (λ (c : Code). known_at q.at c.instrs) codes ∙ sym q.kinds_are))

one_fault_in : (law : OneEffect) (pool : Table) (code : Code) (frame : Frame) (x y : KindFault) → IsFault pool code frame x → IsFault pool code frame y → x ≡ y
one_fault_in law pool code frame x y (size p) (size q) = refl
one_fault_in law pool code frame x y (size p) (instruction at small least first) = absurd cc
one_fault_in law pool code frame x y (instruction at small least first) (size q) = absurd cc
one_fault_in law pool code frame x y (instruction at small least first) (instruction other small_too least_too first_too) =
    one_first law pool frame at other (one_solution pool code frame at other least least_too) code.instrs x y first first_too

pub one_fault : (law : OneEffect) (class : ClassSpelled) (m : ℕ) (fault other : KindFault) → IsFaultOf class m fault → IsFaultOf class m other → fault ≡ other
one_fault law class m fault other p q =
    let codes : p.code ≡ q.code = same_code class m p.code q.code p.frame q.frame p.has_frame q.has_frame in
    let frames : p.frame ≡ q.frame = same_frame class m p.code q.code p.frame q.frame p.has_frame q.has_frame in
    one_fault_in law class.pool p.code p.frame fault other p.is
    (subst (λ (c : Code). IsFault class.pool c p.frame other) (sym codes) (subst (λ (f : Frame). IsFault class.pool q.code f other) (sym frames) q.is))

not_fault_in : (law : OneEffect) (pool : Table) (code : Code) (frame : Frame) (at : ℕ → State) (x : KindFault) → AreKinds pool code frame at → IsFault pool code frame x → ⊥
not_fault_in law pool code frame at x are (size p) =
    let small : Rattle.ja_kinds.specs.Solution.is_too_large frame ≡ false = are.small in
    absurd cc
not_fault_in law pool code frame at x are (instruction other small least first) =
    not_first law pool frame at other (one_solution pool code frame at other are.least least) code.instrs x are.right first

pub kinds_or_fault : (law : OneEffect) (class : ClassSpelled) (m : ℕ) (kinds : List (Option KindState)) (fault : KindFault) → AreKindsOf class m kinds → IsFaultOf class m fault → ⊥
kinds_or_fault law class m kinds fault p q =
    let codes : p.code ≡ q.code = same_code class m p.code q.code p.frame q.frame p.has_frame q.has_frame in
    let frames : p.frame ≡ q.frame = same_frame class m p.code q.code p.frame q.frame p.has_frame q.has_frame in
    not_fault_in law class.pool p.code p.frame p.at fault p.are
    (subst (λ (c : Code). IsFault class.pool c p.frame fault) (sym codes) (subst (λ (f : Frame). IsFault class.pool q.code f fault) (sym frames) q.is))

-- ---- the answer

module _ (law : OneEffect) (class : ClassSpelled) (m : ℕ) (code : Code) (frame : Frame) (has : HasFrame class m code frame) where
  pub kinds_of : (kinds : List (Option KindState)) → AreKindsIn class.pool code frame kinds → AreKindsOf class m kinds
  kinds_of kinds k = record { code = code; frame = frame; has_frame = has; at = k.at; are = k.are; kinds_are = k.kinds_are }

  pub fault_of : (fault : KindFault) → IsFault class.pool code frame fault → IsFaultOf class m fault
  fault_of fault f = record { code = code; frame = frame; has_frame = has; is = f }

  module _ (r : Result (List (Option KindState)) KindFault) (ok : IfOk r (AreKindsIn class.pool code frame))
      (err : IfErr r (λ f. (f ≡ Memory) ⊎ IsFault class.pool code frame f)) where
    pub only_kinds : (kinds : List (Option KindState)) → AreKindsOf class m kinds → MatchResult r (λ found. found ≡ kinds) (λ fault. fault ≡ Memory)
    only_kinds kinds are = by r ok err
      where
        by : (s : Result (List (Option KindState)) KindFault) → IfOk s (AreKindsIn class.pool code frame)
            → IfErr s (λ f. (f ≡ Memory) ⊎ IsFault class.pool code frame f) → MatchResult s (λ found. found ≡ kinds) (λ fault. fault ≡ Memory)
        by (Ok found) o e = one_kinds class m found kinds (kinds_of found o) are
        by (Err f) o e = elim e [ inl none ↦ none | inr is ↦ absurd (kinds_or_fault law class m kinds f are (fault_of f is)) ]

    pub first_fault_of : (fault : KindFault) → IsFaultOf class m fault → MatchResult r (λ _. ⊥) (λ found. (found ≡ Memory) ⊎ (found ≡ fault))
    first_fault_of fault is = by r ok err
      where
        by : (s : Result (List (Option KindState)) KindFault) → IfOk s (AreKindsIn class.pool code frame)
            → IfErr s (λ f. (f ≡ Memory) ⊎ IsFault class.pool code frame f) → MatchResult s (λ _. ⊥) (λ found. (found ≡ Memory) ⊎ (found ≡ fault))
        by (Ok found) o e = kinds_or_fault law class m found fault (kinds_of found o) is
        by (Err f) o e = elim e [ inl none ↦ inl none | inr also ↦ inr (one_fault law class m f fault (fault_of f also) is) ]

    pub answers_kinds : IfOk r (AreKindsOf class m)
    answers_kinds = if_ok (AreKindsIn class.pool code frame) (AreKindsOf class m) r kinds_of ok

    pub answers_fault : IfErr r (λ f. (f ≡ Memory) ⊎ IsFaultOf class m f)
    answers_fault = by r err
      where
        by : (s : Result (List (Option KindState)) KindFault) → IfErr s (λ f. (f ≡ Memory) ⊎ IsFault class.pool code frame f) → IfErr s (λ f. (f ≡ Memory) ⊎ IsFaultOf class m f)
        by (Ok found) e = tt
        by (Err f) e = elim e [ inl none ↦ inl none | inr is ↦ inr (fault_of f is) ]
