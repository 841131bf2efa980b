-- Each reached instruction of a method finds its operands and leads to reached instructions.
use Rattle.std.proofs.Common.{◌≡◌, ℕ, zero, suc, ◌+◌, ◌<◌, ◌≤◌, ◌⊎◌, inl, inr, Bool, true, false, ◌&&◌, ◌||◌, not, cond, eqb, leb, ltb, List, [], ◌∷◌, ◌++◌, length, map, get_or, Option, Some, None, refl, sym, ap, subst, ◌∙◌, arith}
use Rattle.std.specs.Prelude.{All, is_some, slice_get, option_map}
use Rattle.std.proofs.lemmas.Bool.{and_parts, or_cases, leb-true, ltb-true, leb-false, lt-ltb}
use Rattle.std.proofs.lemmas.Option.{slice_get_within, get_or_from_slice_get, slice_get-map}
use Rattle.std.proofs.lemmas.List.Elements.{All-append}
use Rattle.std.proofs.lemmas.List.Sums.{passes_at_first, fails_before_first}
use Rattle.ja_base.specs.declared.java_type.Kind.{Kind}
use Rattle.ja_pool.specs.Table.{tags_of, dims_of}
use Rattle.ja_code.specs.declared.instr.RawInstr.{RawInstr}
use Rattle.ja_code.specs.declared.handler.RawHandler.{RawHandler}
use Rattle.ja_ir.specs.declared.head.ClassHead.{ClassHead}
use Rattle.ja_ir.specs.declared.method.Method.{Method}
use Rattle.ja_ir.specs.declared.method.Instr.{Instr}
use Rattle.ja_ir.specs.declared.method.Handler.{Handler}
use Rattle.ja_ir.specs.declared.op.Op.{Op}
use Rattle.ja_ir.specs.declared.op.Op.TheVariants.{Return}
use Rattle.ja_ir.specs.Operations.{ends_method, height_after, FindsOperands, UsesLocals}
use Rattle.ja_ir.specs.Handlers.{in_range}
use Rattle.ja_ir.specs.Whole.{IsReachedAt, Runs}
use Rattle.ja_class.specs.Meaning.{ClassSpelled}
use Rattle.ja_class.specs.ClassFile.{IsSpelled}
use Rattle.ja_lib.specs.Content.{Content}
use Rattle.ja_code.specs.declared.behaviour.Behaviour.{Behaviour}
use Rattle.ja_kinds.specs.declared.effect.Effect.{Effect}
use Rattle.ja_kinds.specs.declared.state.KindState.{KindState}
use Rattle.ja_kinds.specs.declared.state.State.{State}
use Rattle.ja_kinds.specs.declared.state.State.TheVariants.{Unreached, Known, Clash}
use Rattle.ja_kinds.specs.Effect.{targets_of, may_return, Does, IsOneOf, LeadsTo}
use Rattle.ja_code.specs.Behaviour.{goes_on, branches}
use Rattle.ja_kinds.specs.Solution.{HandledAt}
use Rattle.ja_kinds.specs.Answer.{AreKindsOf, known_of}
use Rattle.ja_kinds.specs.Reached.{StartsAt, IsKnown, IsAccepted, IsReached, AreReached}
use Rattle.ja_kinds.proofs.Reached.{does_something, all_reached}
use Rattle.ja_kinds.proofs.Starts.{code_length}
use Rattle.ja_operations.specs.Operation.{IsOperation}
use Rattle.ja_operations.specs.Agreement.{Agrees, OperationsAgree, OperationsEnd, ReturnsAgree}
use Rattle.ja_methods.specs.Places.{index_of, following, next_by, is_at_or_past}
use Rattle.ja_methods.specs.Handlers.{handler_of, handlers_of}
use Rattle.ja_methods.specs.Method.{state_before, height_of, IsInstrOf, AreInstrsOf}
use Rattle.ja_methods.proofs.Chain.{Chain, chain-next, chain-last, chain-ordered, index-at}
use Rattle.ja_methods.proofs.Profile.{IsDecoded}
use Rattle.ja_methods.proofs.Coded.{code-chain}
use Rattle.ja_methods.proofs.Heights.{known-height}
use Rattle.ja_kinds.proofs.Wide.{known_is, known_wide}
use Rattle.ja_kinds.proofs.Places.{names_place}

-- an item of a list and its place
pub record At {X : Type 0} (xs : List X) (x : X) : Type 0 where
  pub k : ℕ
  pub at : slice_get xs k ≡ Some x

pub place-of : {X : Type 0} (xs : List X) (x : X) → IsOneOf x xs → At xs x
place-of [] x there = absurd there
place-of (y ∷ xs) x (inl same) = record { k = 0; at = ap Some (sym same) }
place-of (y ∷ xs) x (inr there) = let later : At xs x = place-of xs x there in record { k = suc later.k; at = later.at }

pub one-at : {X : Type 0} (xs : List X) (k : ℕ) (x : X) → slice_get xs k ≡ Some x → IsOneOf x xs
one-at [] k x at = absurd (cc)
one-at (y ∷ xs) zero x at = inl (let same : y ≡ x = cc in sym same)
one-at (y ∷ xs) (suc k) x at = inr (one-at xs k x at)

-- what there is at a place of a list
pub record Found {X : Type 0} (xs : List X) (k : ℕ) : Type 0 where
  pub item : X
  pub at : slice_get xs k ≡ Some item

pub found : {X : Type 0} (xs : List X) (k : ℕ) → k < length xs → Found xs k
found [] k lt = absurd (omega arith)
found (x ∷ xs) zero lt = record { item = x; at = refl }
found (x ∷ xs) (suc k) lt = let later : Found xs k = found xs k (omega arith) in record { item = later.item; at = later.at }

-- what holds of each image of an item
pub all-map : {X Y : Type 0} (P : Y → Type 0) (f : X → Y) (xs : List X) → ((x : X) → IsOneOf x xs → P (f x)) → All P (map f xs)
all-map P f [] each k d lt = absurd (omega arith)
all-map P f (x ∷ xs) each zero d lt = each x (inl refl)
all-map P f (x ∷ xs) each (suc k) d lt = all-map P f xs (λ y there. each y (inr there)) k d (omega arith)

pub all-following : (P : ℕ → Type 0) (goes : Bool) (k size : ℕ) → (goes ≡ true → k + 1 < size → P (k + 1)) → All P (following goes k size)
all-following P false k size next j d lt = absurd (omega arith)
all-following P true k size next j d lt = pick (ltb (k + 1) size) refl j d lt
  where
    pick : (b : Bool) → ltb (k + 1) size ≡ b → All P (cond b ((k + 1) ∷ []) [])
    pick true e zero d lt = next refl (ltb-true (k + 1) size e)
    pick true e (suc j) d lt = absurd (omega arith)
    pick false e j d lt = absurd (omega arith)

record Holds (o : Option KindState) : Type 0 where
  state : KindState
  is : o ≡ Some state

holds : (o : Option KindState) → is_some o ≡ true → Holds o
holds None e = absurd (cc)
holds (Some f) e = record { state = f; is = refl }

-- a method with code, by its kinds
pub record IsCoded (heads : List ClassHead) (rows : Content) (class : ClassSpelled) (c m : ℕ) (method : Method) : Type 0 where
  pub kinds : List (Option KindState)
  pub are : AreKindsOf class m kinds
  pub decoded : IsDecoded class.pool are.code
  pub instrs : AreInstrsOf heads rows c class.pool are.code.instrs kinds method.code
  pub handlers_are : method.handlers ≡ handlers_of heads class.pool are.code.instrs are.code.handlers
  pub locals_are : method.locals ≡ are.frame.max_locals
  pub stack_is : method.stack ≡ are.frame.max_stack

module _ (heads : List ClassHead) (rows : Content) (class : ClassSpelled) (spelled : IsSpelled class) (c m : ℕ) (method : Method) (is : IsCoded heads rows class c m method) where
  abbrev pub raws : List RawInstr
  raws = is.are.code.instrs

  abbrev pub size : ℕ
  size = length is.decoded.bytes

  chain : Chain 0 size raws
  chain = code-chain class.pool is.are.code is.decoded

  reached : AreReached class.pool is.are.code is.are.frame is.are.at
  reached = all_reached class spelled m is.are.code is.are.frame is.are.has_frame is.are.at is.are.are

  -- what the kinds say before an instruction
  state-at : (k : ℕ) (raw : RawInstr) → slice_get raws k ≡ Some raw → state_before is.kinds k ≡ known_of (is.are.at raw.pc)
  state-at k raw at =
      let f : RawInstr → Option KindState = λ i. known_of (is.are.at i.pc) in
      let there : slice_get is.kinds k ≡ Some (f raw) = ap (λ (l : List (Option KindState)). slice_get l k) is.are.kinds_are ∙ slice_get-map f raws k ∙ ap (option_map f) at in
      get_or_from_slice_get is.kinds k (f raw) None there

  -- the instruction at the index of a decoded one
  pub record Lowered (k : ℕ) (raw : RawInstr) : Type 0 where
    pub instr : Instr
    pub at : slice_get method.code k ≡ Some instr
    pub is-of : IsInstrOf heads rows c class.pool raws (known_of (is.are.at raw.pc)) k raw instr

  pub lowered : (k : ℕ) (raw : RawInstr) → slice_get raws k ≡ Some raw → Lowered k raw
  lowered k raw at =
      let there : Found method.code k = found method.code k (omega (arith, is.instrs.size, slice_get_within raws k raw at)) in
      record {
        instr = there.item;
        at = there.at;
        is-of = subst (λ (s : Option KindState). IsInstrOf heads rows c class.pool raws s k raw there.item) (state-at k raw at) (is.instrs.each k raw there.item at there.at);
      }

  -- the decoded instruction at the index of one
  pub decoded-at : (k : ℕ) (instr : Instr) → slice_get method.code k ≡ Some instr → Found raws k
  decoded-at k instr at = found raws k (omega (arith, is.instrs.size, slice_get_within method.code k instr at))

  -- what stands where this is known is reached with as many values
  pub reached-at : (k : ℕ) (raw : RawInstr) → slice_get raws k ≡ Some raw → (f : KindState) → is.are.at raw.pc ≡ Known f → IsReachedAt method k (length f.stack)
  reached-at k raw at f known =
      let low : Lowered k raw = lowered k raw at in
      let state : known_of (is.are.at raw.pc) ≡ Some f = ap known_of known in
      record { instr = low.instr; found = low.at; reached = low.is-of.reached_is ∙ ap is_some state; is_height = low.is-of.height_is ∙ ap height_of state }

  -- the same of a place of the code
  pub reached-place : (place : ℕ) → StartsAt raws place → (f : KindState) → is.are.at place ≡ Known f → IsReachedAt method (index_of raws place) (length f.stack)
  reached-place place s f known =
      let p : At raws s.instr = place-of raws s.instr s.there in
      let e : index_of raws place ≡ p.k = ap (index_of raws) (sym s.at) ∙ index-at 0 size raws chain p.k s.instr p.at in
      subst (λ (k : ℕ). IsReachedAt method k (length f.stack)) (sym e) (reached-at p.k s.instr p.at f (ap is.are.at s.at ∙ known))

  -- the first instruction is reached with nothing on the stack
  pub first-reached : IsReachedAt method 0 0
  first-reached =
      let s : StartsAt raws 0 = reached.entry_starts in
      let at : IsReachedAt method (index_of raws 0) (length reached.entry.state.stack) = reached-place 0 s reached.entry.state reached.entry.is in
      let zero-index : index_of raws 0 ≡ 0 = first-index raws in
      subst (λ (k : ℕ). IsReachedAt method k 0) zero-index
      (subst (λ (n : ℕ). IsReachedAt method (index_of raws 0) n) (ap length reached.entry.same_stack) at)
    where
      first-index : (xs : List RawInstr) → index_of xs 0 ≡ 0
      first-index [] = refl
      first-index (x ∷ xs) = ap (λ (b : Bool). cond (not b) (1 + index_of xs 0) 0) (Rattle.std.proofs.lemmas.Bool.le-leb 0 x.pc (omega arith))

  -- a return that is reached gives what the frame's method returns
  pub returns-kind : ReturnsAgree → (k : ℕ) (instr : Instr) → slice_get method.code k ≡ Some instr → instr.reached ≡ true → (kind : Option Kind) → instr.op ≡ Return kind
      → may_return is.are.frame.returns kind ≡ true
  returns-kind returns k instr here on kind op =
      let raw : Found raws k = decoded-at k instr here in
      let is-of : IsInstrOf heads rows c class.pool raws (known_of (is.are.at raw.item.pc)) k raw.item instr =
      subst (λ (s : Option KindState). IsInstrOf heads rows c class.pool raws s k raw.item instr) (state-at k raw.item raw.at) (is.instrs.each k raw.item instr raw.at here) in
      let held : Holds (known_of (is.are.at raw.item.pc)) = holds (known_of (is.are.at raw.item.pc)) (sym is-of.reached_is ∙ on) in
      let listed : IsOneOf raw.item raws = one-at raws k raw.item raw.at in
      let deed = does_something class spelled m is.are.code is.are.frame is.are.has_frame is.are.at is.are.are raw.item listed in
      let known : is.are.at raw.item.pc ≡ Known held.state = known_is (is.are.at raw.item.pc) held.state held.is in
      let taken : IsAccepted is.are.frame raw.item deed.behaviour deed.effect held.state =
      reached.accepts raw.item deed.behaviour deed.effect held.state (record { there = listed; does = deed.does; known = known }) in
      let operation : IsOperation heads rows c class.pool raw.item (Some held.state) (Return kind) =
      subst (λ (o : Op). IsOperation heads rows c class.pool raw.item (Some held.state) o) op
      (subst (λ (s : Option KindState). IsOperation heads rows c class.pool raw.item s instr.op) held.is is-of.operation) in
      returns heads rows c class.pool raw.item kind deed.behaviour deed.effect is.are.frame held.state taken.result operation deed.does taken.is

  module _ (agree : OperationsAgree) (ends : OperationsEnd) (k : ℕ) (instr : Instr) (here : slice_get method.code k ≡ Some instr) (on : instr.reached ≡ true) where
    abbrev raw : RawInstr
    raw = (decoded-at k instr here).item

    raw-at : slice_get raws k ≡ Some raw
    raw-at = (decoded-at k instr here).at

    is-of : IsInstrOf heads rows c class.pool raws (known_of (is.are.at raw.pc)) k raw instr
    is-of = subst (λ (s : Option KindState). IsInstrOf heads rows c class.pool raws s k raw instr) (state-at k raw raw-at) (is.instrs.each k raw instr raw-at here)

    abbrev held : Holds (known_of (is.are.at raw.pc))
    held = holds (known_of (is.are.at raw.pc)) (sym is-of.reached_is ∙ on)

    abbrev before : KindState
    before = held.state

    known : is.are.at raw.pc ≡ Known before
    known = known_is (is.are.at raw.pc) held.state held.is

    listed-raw : IsOneOf raw raws
    listed-raw = one-at raws k raw raw-at

    deed : (b : Behaviour) × (e : Effect) × Does class.pool raw b e
    deed = let d = does_something class spelled m is.are.code is.are.frame is.are.has_frame is.are.at is.are.are raw listed-raw in (d.behaviour, d.effect, d.does)

    is-reached : IsReached class.pool is.are.code is.are.at raw deed.0 deed.1 before
    is-reached = record { there = listed-raw; does = deed.2; known = known }

    taken : IsAccepted is.are.frame raw deed.0 deed.1 before
    taken = reached.accepts raw deed.0 deed.1 before is-reached

    height-is : instr.height ≡ length before.stack
    height-is = is-of.height_is ∙ ap height_of held.is

    agrees : Agrees instr.op before taken.result
    agrees =
        agree heads rows c class.pool raw instr.op deed.0 deed.1 is.are.frame before taken.result
        (subst (λ (s : Option KindState). Rattle.ja_operations.specs.Operation.IsOperation heads rows c class.pool raw s instr.op) held.is is-of.operation) deed.2 taken.is

    after-is : length taken.result.stack ≡ height_after instr.op instr.height
    after-is = sym agrees.height ∙ ap (height_after instr.op) (sym height-is)

    -- where its normal end leads
    leads : (place : ℕ) → LeadsTo raw deed.0 place → IsReachedAt method (index_of raws place) (height_after instr.op instr.height)
    leads place to =
        let next : IsKnown (is.are.at place) taken.result.locals taken.result.stack =
        reached.next raw deed.0 deed.1 before taken.result place is-reached taken.is to in
        let s : StartsAt raws place = reached.next_starts raw deed.0 deed.1 before place is-reached to in
        subst (λ (n : ℕ). IsReachedAt method (index_of raws place) n) (ap length next.same_stack ∙ after-is) (reached-place place s next.state next.is)

    -- the index after it
    leads-on : goes_on deed.0 ≡ true → k + 1 < length raws → IsReachedAt method (k + 1) (height_after instr.op instr.height)
    leads-on goes lt =
        let next : Found raws (suc k) = found raws (suc k) (omega arith) in
        let at : next.item.pc ≡ raw.pc + raw.length = chain-next 0 size raws chain k raw next.item raw-at next.at in
        let e : index_of raws (raw.pc + raw.length) ≡ k + 1 = ap (index_of raws) (sym at) ∙ index-at 0 size raws chain (suc k) next.item next.at ∙ omega arith in
        subst (λ (j : ℕ). IsReachedAt method j (height_after instr.op instr.height)) e (leads (raw.pc + raw.length) (inr (goes, refl)))

    next-by : instr.next ≡ map (index_of raws) (targets_of deed.0 raw) ++ following (goes_on deed.0) k (length raws)
    next-by = is-of.next_is ∙ ap (next_by raws k raw) deed.2.opcode

    next-reached : All (λ j. IsReachedAt method j (height_after instr.op instr.height)) instr.next
    next-reached =
        let P : ℕ → Type 0 = λ j. IsReachedAt method j (height_after instr.op instr.height) in
        subst (λ (list : List ℕ). All P list) (sym next-by)
        (All-append P (map (index_of raws) (targets_of deed.0 raw)) (following (goes_on deed.0) k (length raws))
        (all-map P (index_of raws) (targets_of deed.0 raw) (λ place target. leads place (inl target)))
        (all-following P (goes_on deed.0) k (length raws) leads-on))

    -- an instruction in the range of an entry of the exception table
    handled : (row : RawHandler) → IsOneOf row is.are.code.handlers → in_range (handler_of heads class.pool raws row) k ≡ true → HandledAt is.are.code.handlers raw.pc row.handler
    handled row listed in' =
        let parts : (leb (index_of raws row.start) k ≡ true) × (ltb k (index_of raws row.end) ≡ true) = and_parts (leb (index_of raws row.start) k) (ltb k (index_of raws row.end)) in' in
        let low : index_of raws row.start ≤ k = leb-true (index_of raws row.start) k parts.0 in
        let high : k < index_of raws row.end = ltb-true k (index_of raws row.end) parts.1 in
        let inside : k < length raws = slice_get_within raws k raw raw-at in
        let read : get_or raws k raw ≡ raw = get_or_from_slice_get raws k raw raw raw-at in
        let first : leb row.start (get_or raws (index_of raws row.start) raw).pc ≡ true = passes_at_first (is_at_or_past row.start) raws raw (omega arith) in
        let order : (get_or raws (index_of raws row.start) raw).pc ≤ (get_or raws k raw).pc = chain-ordered 0 size raws chain (index_of raws row.start) k raw low inside in
        let past : leb row.end (get_or raws k raw).pc ≡ false = fails_past row.end high in
        let pc-is : (get_or raws k raw).pc ≡ raw.pc = ap (λ (i : RawInstr). i.pc) read in
        record {
          row = row;
          there = listed;
          from = omega (arith, leb-true row.start (get_or raws (index_of raws row.start) raw).pc first, order, pc-is);
          before = omega (arith, leb-false row.end (get_or raws k raw).pc past, pc-is);
          place_is = refl;
        }
      where
        fails_past : (place : ℕ) → k < index_of raws place → leb place (get_or raws k raw).pc ≡ false
        fails_past place lt = fails_before_first (is_at_or_past place) raws k raw lt

    handlers-reached : All (λ handler. in_range handler k ≡ true → IsReachedAt method handler.target 1) method.handlers
    handlers-reached =
        let P : Handler → Type 0 = λ handler. in_range handler k ≡ true → IsReachedAt method handler.target 1 in
        subst (λ (list : List Handler). All P list) (sym is.handlers_are)
        (all-map P (handler_of heads class.pool raws) is.are.code.handlers (λ row listed in'.
        let at : HandledAt is.are.code.handlers raw.pc row.handler = handled row listed in' in
        let next = reached.handler raw deed.0 deed.1 before row.handler is-reached at in
        let s : StartsAt raws row.handler = reached.handler_starts raw.pc row.handler at in
        subst (λ (n : ℕ). IsReachedAt method (index_of raws row.handler) n) (ap length next.same_stack) (reached-place row.handler s next.state next.is)))

    -- it leads somewhere, unless it ends the method
    goes-somewhere : ends_method instr.op ≡ false → 0 < length instr.next
    goes-somewhere none =
        let end : ends_method instr.op ≡ not (goes_on deed.0 || branches deed.0) =
        ends heads rows c class.pool raw instr.op deed.0 (known_of (is.are.at raw.pc)) is-of.operation deed.2.opcode in
        subst (λ (list : List ℕ). 0 < length list) (sym next-by)
        (elim (or_cases (goes_on deed.0) (branches deed.0) (not-false (goes_on deed.0 || branches deed.0) (sym end ∙ none))) [
          | inl goes ↦
              let more : k + 1 < length raws = in-code goes in
              longer (map (index_of raws) (targets_of deed.0 raw)) (following (goes_on deed.0) k (length raws)) (subst (λ (b : Bool). 0 < length (following b k (length raws))) (sym goes) (there-is more))
          | inr to ↦
              let some : 0 < length raw.operands = names_place (tags_of class.pool) (dims_of class.pool) 0 is.decoded.bytes raws is.decoded.spells.instrs raw listed-raw deed.0 deed.2.opcode to in
              let targets : targets_of deed.0 raw ≡ raw.operands = ap (λ (b : Bool). cond b raw.operands []) to in
              shorter (map (index_of raws) (targets_of deed.0 raw)) (following (goes_on deed.0) k (length raws))
              (subst (λ (list : List ℕ). 0 < length (map (index_of raws) list)) (sym targets) (some-map raw.operands some))
        ])
      where
        not-false : (b : Bool) → not b ≡ false → b ≡ true
        not-false true e = refl
        not-false false e = absurd (cc)

        longer : (xs ys : List ℕ) → 0 < length ys → 0 < length (xs ++ ys)
        longer [] ys lt = lt
        longer (x ∷ xs) ys lt = omega arith

        shorter : (xs ys : List ℕ) → 0 < length xs → 0 < length (xs ++ ys)
        shorter [] ys lt = absurd (omega arith)
        shorter (x ∷ xs) ys lt = omega arith

        some-map : (xs : List ℕ) → 0 < length xs → 0 < length (map (index_of raws) xs)
        some-map [] lt = absurd (omega arith)
        some-map (x ∷ xs) lt = omega arith

        there-is : k + 1 < length raws → 0 < length (following true k (length raws))
        there-is lt = subst (λ (b : Bool). 0 < length (cond b ((k + 1) ∷ []) [])) (sym (lt-ltb (k + 1) (length raws) lt)) (omega arith)

        stays : (goes : Bool) (at end : ℕ) → (goes && eqb at end) ≡ false → goes ≡ true → at ≡ end → ⊥
        stays true at end off e same = let yes' : eqb at end ≡ true = Rattle.std.proofs.Common.eq-eqb at end same in cc
        stays false at end off e same = cc

        in-code : goes_on deed.0 ≡ true → k + 1 < length raws
        in-code goes = elim (Rattle.std.proofs.lemmas.Bool.cases_lt (k + 1) (length raws)) [
          | inl lt ↦ lt
          | inr past ↦
              let last : raw.pc + raw.length ≡ size = chain-last 0 size raws chain k raw raw-at (omega arith) in
              let whole : is.are.frame.size ≡ size =
              is.are.has_frame.is.size ∙ code_length is.decoded.bytes (tags_of class.pool) (dims_of class.pool) is.are.code.handlers is.are.code is.decoded.spells in
              absurd (stays (goes_on deed.0) (raw.pc + raw.length) is.are.frame.size taken.stays goes (last ∙ sym whole))
        ]

    -- what each reached instruction of a whole program does
    pub runs : Runs method k instr
    runs = record {
      height = omega (arith, height-is, known-height class spelled m is.kinds is.are raw listed-raw before known, is.stack_is);
      operands = subst (λ (n : ℕ). FindsOperands instr.op n) (sym height-is) agrees.operands;
      locals = subst (λ (n : ℕ). UsesLocals instr.op n)
          (known_wide class.pool is.are.code is.are.frame is.are.at is.are.are.least raw.pc before known ∙ sym is.locals_are) agrees.locals;
      next = next-reached;
      handlers = handlers-reached;
      goes_on = goes-somewhere;
    }
