-- The program of a category is whole where the program is.
use Rattle.std.proofs.Common.{◌≡◌, ℕ, zero, suc, ◌+◌, ◌<◌, ◌≤◌, ◌⊎◌, inl, inr, Bool, true, false, List, [], ◌∷◌, ◌^◌, length, refl, sym, ◌∙◌, ap, subst, arith, map}
use Rattle.std.specs.Prelude.{◌↔◌, Option, Some, None, All, Contains, get_or, option_map, slice_get, sum_by, codes}
use Rattle.std.specs.List.{fold}
use Rattle.std.proofs.lemmas.List.{length-map}
use Rattle.std.proofs.lemmas.List.Elements.{All-map}
use Rattle.std.proofs.lemmas.Option.{slice_get-map}
use Rattle.ja_base.specs.declared.java_type.JavaType.{JavaType}
use Rattle.ja_ir.specs.declared.program.Parts.{Parts}
use Rattle.ja_ir.specs.declared.class.ClassInfo.{ClassInfo}
use Rattle.ja_ir.specs.declared.class.Selection.{Selection}
use Rattle.ja_ir.specs.declared.class.MethodAt.{MethodAt}
use Rattle.ja_ir.specs.declared.class.MethodAt.TheVariants.{Program, Abstract, Library}
use Rattle.ja_ir.specs.declared.method.Method.{Method}
use Rattle.ja_ir.specs.declared.method.Instr.{Instr}
use Rattle.ja_ir.specs.declared.method.Handler.{Handler}
use Rattle.ja_ir.specs.declared.method.Catch.{Catch}
use Rattle.ja_ir.specs.declared.method.Catch.TheVariants.{All as Everything, Program as InClass, Library as InLibrary}
use Rattle.ja_ir.specs.declared.entry.Entry.{Entry}
use Rattle.ja_ir.specs.declared.entry.Site.{Site}
use Rattle.ja_ir.specs.declared.op.CallOp.{CallOp}
use Rattle.ja_ir.specs.declared.op.Op.{Op}
use Rattle.ja_ir.specs.declared.op.Op.TheVariants.{Nop, Const, Text, New, Load, Store, ArrLoad, ArrStore, Shuffle, Mix, Branch, Return, GetStatic, PutStatic, GetField, PutField, Call, NewArray, ArrLen, Throw, Cast, InstanceOf, Monitor}
use Rattle.ja_ir.specs.Lookup.{HasCode, code_of, instr_at, is_abstract, is_member}
use Rattle.ja_ir.specs.Operations.{FindsOperands, UsesLocals, ends_method, height_after}
use Rattle.ja_ir.specs.Handlers.{in_range}
use Rattle.ja_ir.specs.Categories.{call_in, entry_in, instr_in, method_in, op_in, projected}
use Rattle.ja_ir.specs.Whole.{HasConstructor, IsAnswer, IsDescribed, IsFound, IsMember, IsNamed, IsReachedAt, IsSmall, IsWhole, IsWholeEntry, IsWholeMethod, IsWholeSelection, IsWholeSite, LiesIn, NamesAll, NamesCaught, NamesClass, NamesInitializer, NamesOperands, ReturnsAs, Runs, Starts, instruction_count}

-- an operation is a call, or each category sees it as it is
pub seen : (c : ℕ) (op : Op) → (op_in c op ≡ op) ⊎ ((call : CallOp) × (op ≡ Call call))
seen c Nop = inl refl
seen c (Const _) = inl refl
seen c Text = inl refl
seen c (New _) = inl refl
seen c (Load _ _) = inl refl
seen c (Store _ _) = inl refl
seen c (ArrLoad _) = inl refl
seen c (ArrStore _) = inl refl
seen c (Shuffle _ _) = inl refl
seen c (Mix _ _ _) = inl refl
seen c (Branch _) = inl refl
seen c (Return _) = inl refl
seen c (GetStatic _) = inl refl
seen c (PutStatic _) = inl refl
seen c (GetField _) = inl refl
seen c (PutField _) = inl refl
seen c (Call call) = inr (call, refl)
seen c (NewArray _ _) = inl refl
seen c ArrLen = inl refl
seen c Throw = inl refl
seen c (Cast _) = inl refl
seen c InstanceOf = inl refl
seen c Monitor = inl refl

-- what holds of an operation holds of what a category sees, if this is so of calls
by-seen : (c : ℕ) (P : Op → Type 0) → ((call : CallOp) → P (Call call) → P (Call (call_in c call))) → (op : Op) → P op → P (op_in c op)
by-seen c P of-call op h = elim (seen c op) [
  | inl same ↦ subst P (sym same) h
  | inr x ↦ subst (λ (o : Op). P (op_in c o)) (sym x.1) (of-call x.0 (subst P x.1 h))
]

module _ (c : ℕ) (p : Parts) where
  method-there : (m : ℕ) (method : Method) → slice_get p.methods m ≡ Some method → slice_get (projected c p).methods m ≡ Some (method_in c method)
  method-there m method found = slice_get-map (method_in c) p.methods m ∙ ap (option_map (method_in c)) found

  same-size : (method : Method) → length (method_in c method).code ≡ length method.code
  same-size method = length-map method.code (instr_in c)

  code-there : (method : Method) → HasCode method → HasCode (method_in c method)
  code-there method h = subst (λ (n : ℕ). 0 < n) (sym (same-size method)) h

  named-there : (m : ℕ) (name desc : List ℕ) (method : Method) → IsNamed p m name desc method → IsNamed (projected c p) m name desc (method_in c method)
  named-there m name desc method h = record { found = method-there m method h.found; is_name = h.is_name; is_desc = h.is_desc }

  no-code : (method : Method) → method.code ≡ [] → (method_in c method).code ≡ []
  no-code method e = ap (map (instr_in c)) e

  answer-there : (name desc : List ℕ) (target : MethodAt) → IsAnswer p name desc target → IsAnswer (projected c p) name desc target
  answer-there name desc (Program m) h = (method_in c h.0, named-there m.0 name desc h.0 h.1, code-there h.0 h.2)
  answer-there name desc (Abstract m) h = (method_in c h.0, named-there m.0 name desc h.0 h.1, no-code h.0 h.2)
  answer-there name desc Library h = tt

  member-back : (m : ℕ) (o : Option Method) → slice_get p.methods m ≡ o → ((method : Method) → o ≡ Some method → is_member method.flags ≡ true)
      → (method : Method) → option_map (method_in c) o ≡ Some method → is_member method.flags ≡ true
  member-back m None at h method e = cc
  member-back m (Some x) at h method e =
      let same : method_in c x ≡ method = cc in
      subst (λ (y : Method). is_member y.flags ≡ true) same (h x refl)

  members : (m : ℕ) → ((method : Method) → slice_get p.methods m ≡ Some method → is_member method.flags ≡ true)
      → (method : Method) → slice_get (projected c p).methods m ≡ Some method → is_member method.flags ≡ true
  members m h method e = member-back m (slice_get p.methods m) refl h method (sym (slice_get-map (method_in c) p.methods m) ∙ e)

  member-there : (target : MethodAt) → IsMember p target → IsMember (projected c p) target
  member-there (Program m) h = members m.0 h
  member-there (Abstract m) h = members m.0 h
  member-there Library h = tt

  selection-there : (s : Selection) → IsWholeSelection p s → IsWholeSelection (projected c p) s
  selection-there s h = record { spelled = h.spelled; answer = answer-there s.name s.desc s.target h.answer; member = member-there s.target h.member }

  found-there : (call : CallOp) (found : Option MethodAt) → IsFound p call found → IsFound (projected c p) (call_in c call) found
  found-there call None h = tt
  found-there call (Some target) h = answer-there call.name call.desc target h

  described-there : (op : Op) → IsDescribed p op → IsDescribed (projected c p) (op_in c op)
  described-there Nop h = tt
  described-there (Const _) h = tt
  described-there Text h = tt
  described-there (New _) h = tt
  described-there (Load _ _) h = tt
  described-there (Store _ _) h = tt
  described-there (ArrLoad _) h = tt
  described-there (ArrStore _) h = tt
  described-there (Shuffle _ _) h = tt
  described-there (Mix _ _ _) h = tt
  described-there (Branch _) h = tt
  described-there (Return _) h = tt
  described-there (GetStatic _) h = tt
  described-there (PutStatic _) h = tt
  described-there (GetField _) h = tt
  described-there (PutField _) h = tt
  described-there (Call call) h = (h.0, found-there call call.found h.1, record { marks = h.2.marks; category = h.2.category })
  described-there (NewArray _ _) h = tt
  described-there ArrLen h = tt
  described-there Throw h = tt
  described-there (Cast _) h = tt
  described-there InstanceOf h = tt
  described-there Monitor h = tt

  operands-there : (op : Op) → NamesOperands p op → NamesOperands (projected c p) (op_in c op)
  operands-there Nop h = tt
  operands-there (Const _) h = tt
  operands-there Text h = tt
  operands-there (New _) h = h
  operands-there (Load _ _) h = tt
  operands-there (Store _ _) h = tt
  operands-there (ArrLoad _) h = tt
  operands-there (ArrStore _) h = tt
  operands-there (Shuffle _ _) h = tt
  operands-there (Mix _ _ _) h = tt
  operands-there (Branch _) h = tt
  operands-there (Return _) h = tt
  operands-there (GetStatic _) h = h
  operands-there (PutStatic _) h = h
  operands-there (GetField _) h = h
  operands-there (PutField _) h = h
  operands-there (Call _) h = tt
  operands-there (NewArray _ _) h = h
  operands-there ArrLen h = tt
  operands-there Throw h = tt
  operands-there (Cast _) h = tt
  operands-there InstanceOf h = tt
  operands-there Monitor h = tt

  caught-there : (catch : Catch) → NamesCaught p catch → NamesCaught (projected c p) catch
  caught-there Everything h = tt
  caught-there (InClass class) h = h
  caught-there InLibrary h = tt

  handler-there : (size : ℕ) (handler : Handler) → LiesIn p size handler → LiesIn (projected c p) size handler
  handler-there size handler h = record { start = h.start; end = h.end; target = h.target; class = caught-there handler.catch h.class }

  names-there : (size : ℕ) (instr : Instr) → NamesAll p size instr → NamesAll (projected c p) size (instr_in c instr)
  names-there size instr h = record { next = h.next; operands = operands-there instr.op h.operands }

  code-names : (method : Method) → All (NamesAll p (length method.code)) method.code → All (NamesAll (projected c p) (length (method_in c method).code)) (method_in c method).code
  code-names method h =
      subst (λ (n : ℕ). All (NamesAll (projected c p) n) (map (instr_in c) method.code)) (sym (same-size method))
      (All-map (NamesAll (projected c p) (length method.code)) (instr_in c) method.code (λ k d lt. names-there (length method.code) _ (h k d lt)))

  handlers-lie : (method : Method) → All (LiesIn p (length method.code)) method.handlers → All (LiesIn (projected c p) (length (method_in c method).code)) method.handlers
  handlers-lie method h =
      subst (λ (n : ℕ). All (LiesIn (projected c p) n) method.handlers) (sym (same-size method)) (λ k d lt. handler-there (length method.code) _ (h k d lt))

  constructor-there : (class : ℕ) → HasConstructor p class → HasConstructor (projected c p) class
  constructor-there class h = record {
    m = h.m;
    method = method_in c h.method;
    named = named-there h.m (codes "<init>") (codes "()V") h.method h.named;
    declared = h.declared;
    member = h.member;
    code = code-there h.method h.code;
  }

  entry-there : (entry : Entry) → IsWholeEntry p entry → IsWholeEntry (projected c p) (entry_in c entry)
  entry-there entry h = record {
    class = h.class;
    method = method_in c h.method;
    found = method-there entry.method.0 h.method h.found;
    code = code-there h.method h.code;
    receiver = λ e. constructor-there entry.class.0 (h.receiver e);
    marks = h.marks;
  }

  initializer-there : (m : ℕ) → NamesInitializer p m → NamesInitializer (projected c p) m
  initializer-there m h = record {
    method = method_in c h.method;
    named = named-there m (codes "<clinit>") (codes "()V") h.method h.named;
    belongs = h.belongs;
    code = code-there h.method h.code;
  }

  returns-there : (result : Option JavaType) (instr : Instr) → (instr.reached ≡ true → ReturnsAs result instr.op) → instr.reached ≡ true → ReturnsAs result (op_in c instr.op)
  returns-there result instr h e = by-seen c (ReturnsAs result) (λ call x. tt) instr.op (h e)

  coded-there : (method : Method) → HasCode method ↔ (is_abstract method.flags ≡ false) → HasCode (method_in c method) ↔ (is_abstract method.flags ≡ false)
  coded-there method h = (λ x. h.0 (subst (λ (n : ℕ). 0 < n) (same-size method) x), λ e. code-there method (h.1 e))

  whole-method : (method : Method) → IsWholeMethod p method → IsWholeMethod (projected c p) (method_in c method)
  whole-method method h = record {
    spelled = h.spelled;
    code = coded-there method h.code;
    calls = All-map (λ (x : Instr). IsDescribed (projected c p) x.op) (instr_in c) method.code (λ k d lt. described-there _ (h.calls k d lt));
    returns = All-map (λ (x : Instr). x.reached ≡ true → ReturnsAs method.types.result x.op) (instr_in c) method.code (λ k d lt. returns-there method.types.result (get_or method.code k d) (h.returns k d lt));
  }

  code-at : (o : Option Method) (i : ℕ) (instr : Instr) → slice_get (code_of o) i ≡ Some instr → slice_get (code_of (option_map (method_in c) o)) i ≡ Some (instr_in c instr)
  code-at None i instr e = cc
  code-at (Some method) i instr e = slice_get-map (instr_in c) method.code i ∙ ap (option_map (instr_in c)) e

  pub instr-there : (m i : ℕ) (instr : Instr) → instr_at p m i ≡ Some instr → instr_at (projected c p) m i ≡ Some (instr_in c instr)
  instr-there m i instr e = ap (λ (o : Option Method). slice_get (code_of o) i) (slice_get-map (method_in c) p.methods m) ∙ code-at (slice_get p.methods m) i instr e

  site-there : (site : Site) → IsWholeSite p site → IsWholeSite (projected c p) site
  site-there site h = record {
    instr = instr_in c h.instr;
    call = call_in c h.call;
    found = instr-there site.method.0 site.index h.instr h.found;
    is_call = ap (op_in c) h.is_call;
    positions = h.positions;
    category = h.category;
  }

  same-sum : (sum : ℕ) (methods : List Method)
      → fold (λ (a : ℕ) (m : Method). a + length m.code) sum (map (method_in c) methods) ≡ fold (λ (a : ℕ) (m : Method). a + length m.code) sum methods
  same-sum sum [] = refl
  same-sum sum (m ∷ methods) =
      ap (λ (n : ℕ). fold (λ (a : ℕ) (x : Method). a + length x.code) (sum + n) (map (method_in c) methods)) (same-size m) ∙ same-sum (sum + length m.code) methods

  same-count : (methods : List Method) → sum_by (λ (m : Method). length m.code) (map (method_in c) methods) ≡ sum_by (λ (m : Method). length m.code) methods
  same-count methods = same-sum 0 methods

  reached-there : (method : Method) (j height : ℕ) → IsReachedAt method j height → IsReachedAt (method_in c method) j height
  reached-there method j height h = record {
    instr = instr_in c h.instr;
    found = slice_get-map (instr_in c) method.code j ∙ ap (option_map (instr_in c)) h.found;
    reached = h.reached;
    is_height = h.is_height;
  }

  starts-there : (method : Method) → (HasCode method → Starts method) → HasCode (method_in c method) → Starts (method_in c method)
  starts-there method h x =
      let start : Starts method = h (subst (λ (n : ℕ). 0 < n) (same-size method) x) in
      record { room = start.room; first = reached-there method 0 0 start.first }

  heights : (op : Op) (height : ℕ) → height_after (op_in c op) height ≡ height_after op height
  heights op height = by-seen c (λ (o : Op). height_after o height ≡ height_after op height) (λ call e. e) op refl

  runs-there : (method : Method) (i : ℕ) (instr : Instr) → Runs method i instr → Runs (method_in c method) i (instr_in c instr)
  runs-there method i instr h = record {
    height = h.height;
    operands = by-seen c (λ (o : Op). FindsOperands o instr.height) (λ call x. x) instr.op h.operands;
    locals = by-seen c (λ (o : Op). UsesLocals o method.locals) (λ call x. tt) instr.op h.locals;
    next = subst (λ (n : ℕ). All (λ j. IsReachedAt (method_in c method) j n) instr.next) (sym (heights instr.op instr.height)) (λ k d lt. reached-there method _ _ (h.next k d lt));
    handlers = λ k d lt e. reached-there method _ 1 (h.handlers k d lt e);
    goes_on = λ e. h.goes_on (sym (by-seen c (λ (o : Op). ends_method o ≡ ends_method instr.op) (λ call x. x) instr.op refl) ∙ e);
  }

  instr-back : (i : ℕ) (o : Option Instr) (x : Instr) → option_map (instr_in c) o ≡ Some x → (y : Instr) × (o ≡ Some y) × (instr_in c y ≡ x)
  instr-back i None x e = cc
  instr-back i (Some y) x e = (y, refl, cc)

  each-runs : (method : Method) → ((i : ℕ) (instr : Instr) → slice_get method.code i ≡ Some instr → instr.reached ≡ true → Runs method i instr)
      → (i : ℕ) (instr : Instr) → slice_get (method_in c method).code i ≡ Some instr → instr.reached ≡ true → Runs (method_in c method) i instr
  each-runs method h i instr e reached =
      let back : (y : Instr) × (slice_get method.code i ≡ Some y) × (instr_in c y ≡ instr) = instr-back i (slice_get method.code i) instr (sym (slice_get-map (instr_in c) method.code i) ∙ e) in
      subst (Runs (method_in c method) i) back.2 (runs-there method i back.0 (h i back.0 back.1 (ap (λ (x : Instr). x.reached) back.2 ∙ reached)))

  -- the program of a category is whole
  pub projected-whole : IsWhole p → IsWhole (projected c p)
  projected-whole h = record {
    supers = h.supers;
    field_classes = h.field_classes;
    method_classes = All-map (λ (m : Method). NamesClass p m.class.0) (method_in c) p.methods (λ k d lt. h.method_classes k d lt);
    instructions = All-map (λ (m : Method). All (NamesAll (projected c p) (length m.code)) m.code) (method_in c) p.methods (λ k d lt. code-names (get_or p.methods k d) (h.instructions k d lt));
    handlers = All-map (λ (m : Method). All (LiesIn (projected c p) (length m.code)) m.handlers) (method_in c) p.methods (λ k d lt. handlers-lie (get_or p.methods k d) (h.handlers k d lt));
    inits = λ k d lt j e lt'. initializer-there _ (h.inits k d lt j e lt');
    categories = h.categories;
    entries = All-map (IsWholeEntry (projected c p)) (entry_in c) p.entries (λ k d lt. entry-there (get_or p.entries k d) (h.entries k d lt));
    selections = λ k d lt j e lt'. selection-there _ (h.selections k d lt j e lt');
    described = h.described;
    methods = All-map (IsWholeMethod (projected c p)) (method_in c) p.methods (λ k d lt. whole-method (get_or p.methods k d) (h.methods k d lt));
    sites = λ k d lt. site-there (get_or p.sites k d) (h.sites k d lt);
    small = record {
      classes = h.small.classes;
      fields = h.small.fields;
      methods = subst (λ (n : ℕ). n ≤ 2 ^ 26) (sym (length-map p.methods (method_in c))) h.small.methods;
      instructions = subst (λ (n : ℕ). n ≤ 2 ^ 26) (sym (same-count p.methods)) h.small.instructions;
      sites = subst (λ (n : ℕ). length p.sites ≤ n) (sym (same-count p.methods)) h.small.sites;
    };
    frames = All-map (λ (m : Method). m.locals + m.stack ≤ 512) (method_in c) p.methods (λ k d lt. h.frames k d lt);
    starts = All-map (λ (m : Method). HasCode m → Starts m) (method_in c) p.methods (λ k d lt. starts-there (get_or p.methods k d) (h.starts k d lt));
    runs = All-map (λ (m : Method). (i : ℕ) (instr : Instr) → slice_get m.code i ≡ Some instr → instr.reached ≡ true → Runs m i instr) (method_in c) p.methods (λ k d lt. each-runs (get_or p.methods k d) (h.runs k d lt));
  }
