-- The program of classes is whole, where each of its methods and sites is.
use Rattle.std.proofs.Common.{◌≡◌, ℕ, zero, suc, ◌+◌, ◌<◌, ◌≤◌, inl, true, false, List, [], ◌∷◌, ◌++◌, length, map, take, get_or, refl, sym, ap, ◌∙◌, subst, arith}
use Rattle.std.specs.Prelude.{◌↔◌, Option, Some, None, All, AllPairs, nat_lt, slice_get, sum_by}
use Rattle.std.proofs.lemmas.Bool.{ltb-true}
use Rattle.std.proofs.lemmas.List.{length-append, length-map}
use Rattle.std.proofs.lemmas.List.Elements.{All-append, All-map, All-nil, All-push, All-weaker, Contains-get_or, filter_passes}
use Rattle.std.proofs.lemmas.List.Sums.{sum_by-cons, sum_by_more, sum_by-take-le, sum_by_push}
use Rattle.std.proofs.lemmas.Option.{same_Some, slice_get_within, get_or_from_slice_get}
use Rattle.ja_ir.specs.declared.head.ClassHead.{ClassHead}
use Rattle.ja_ir.specs.declared.head.HeadMethod.{HeadMethod}
use Rattle.ja_ir.specs.declared.class.Field.{Field}
use Rattle.ja_ir.specs.declared.entry.Site.{Site}
use Rattle.ja_ir.specs.declared.class.MethodAt.{MethodAt}
use Rattle.ja_ir.specs.declared.op.Op.{Op}
use Rattle.ja_ir.specs.declared.op.Op.TheVariants.{New, NewArray, Call, GetStatic, PutStatic, GetField, PutField}
use Rattle.ja_ir.specs.declared.op.CallOp.{CallOp}
use Rattle.ja_ir.specs.declared.method.Catch.{Catch}
use Rattle.ja_ir.specs.declared.method.Catch.TheVariants.{All as Everything, Program as InClass, Library as InLibrary}
use Rattle.ja_ir.specs.declared.method.Instr.{Instr}
use Rattle.ja_ir.specs.declared.method.Method.{Method}
use Rattle.ja_ir.specs.declared.program.Parts.{Parts}
use Rattle.ja_ir.specs.Lookup.{HasCode, code_of, is_abstract}
use Rattle.ja_ir.specs.Categories.{count_of_names}
use Rattle.ja_ir.specs.declared.row.LibRow.{LibRow}
use Rattle.ja_ir.specs.Operations.{arguments}
use Rattle.ja_ir.specs.Whole.{IsAnswer, IsDescribed, IsFound, IsWhole, IsWholeMethod, IsWholeRow, IsWholeSite, LiesIn, NamesAll, NamesCaught, NamesClass, NamesOperands, Runs, SpellsField, Starts, instruction_count as count_of_program}
use Rattle.ja_class.specs.declared.class.ClassMethod.{ClassMethod}
use Rattle.ja_class.specs.Meaning.{ClassSpelled}
use Rattle.ja_lib.specs.Content.{Content, IsCategorized, IsMeaningAbout}
use Rattle.ja_hier.specs.declared.starts.Member.TheVariants.{Field as OfFields, Method as OfMethods}
use Rattle.ja_hier.specs.declared.skip.Skip.TheVariants.{NoMethod}
use Rattle.ja_hier.specs.LookUps.{method_number, methods_of}
use Rattle.ja_hier.specs.Members.{count_of}
use Rattle.ja_methods.specs.declared.site.MethodSite.{MethodSite}
use Rattle.ja_methods.specs.Method.{IsMethodOf}
use Rattle.ja_methods.specs.Sites.{AreSitesOf, IsSiteAt}
use Rattle.ja_methods.specs.Whole.{IsWholeIn, LiesWithin, NamesOneOf}
use Rattle.ja_operations.specs.Agreement.{IsSound, IsRowAbout}
use Rattle.ja_operations.specs.Sites.{sinks_of}
use Rattle.ja_operations.specs.Targets.{FindsFrom, in_program, in_library}
use Rattle.ja_heads.specs.Fields.{field_of, fields_from}
use Rattle.ja_heads.proofs.Whole.{AgreesWith, AreDescribed, whole-answer, whole-entries, whole-fields, whole-infos, whole-inits, whole-supers}
use Rattle.ja_lower.specs.Program.{AreFew, AreMethods, IsProgramOf, MethodsUpTo, none_yet, next_method, next_class, SitesUpTo, no_site, next_sites, code_length, heads_of, site_of}
use Rattle.ja_lower.proofs.UpTo.{IsAmong, among-up-to, number-up-to}

-- the field that an operation names is one of the program
abbrev pub NamesItsField : List ClassHead → Op → Type 0
NamesItsField heads (GetStatic field) = field.0 < sum_by (count_of OfFields) heads
NamesItsField heads (PutStatic field) = field.0 < sum_by (count_of OfFields) heads
NamesItsField heads (GetField field) = field.0 < sum_by (count_of OfFields) heads
NamesItsField heads (PutField field) = field.0 < sum_by (count_of OfFields) heads
NamesItsField heads _ = Unit {0}

-- what is known of a method by itself, where these are the categories of marks
pub record IsWholePart (heads : List ClassHead) (names : List (List ℕ)) (method : Method) (body : ClassMethod) : Type 0 where
  pub inside : IsWholeIn heads method
  pub fields : All (λ instr. NamesItsField heads instr.op) method.code
  pub rows : All (λ instr. IsRowAbout names instr.op) method.code
  pub size : length method.code ≡ code_length body.code

-- each method of the classes is so
abbrev pub AreWholeParts : Content → List ClassSpelled → Type 0
AreWholeParts table classes =
    (c k : ℕ) (class : ClassSpelled) (method : Method) → slice_get classes c ≡ Some class → k < length class.head.methods → (is : IsMethodOf (heads_of classes) table class c k method)
    → IsWholePart (heads_of classes) table.categories method is.body

-- the sink calls of a method are whole, and no more than its instructions
pub record AreWholeSites (p : Parts) (m : ℕ) (method : Method) (own : List MethodSite) : Type 0 where
  pub each : All (λ site. IsWholeSite p (site_of m site)) own
  pub few : length own ≤ length method.code

-- ---- sites

fits-below : (n low : ℕ) (own : List MethodSite) → low ≤ n → AllPairs (λ a b. a.index < b.index) own → All (λ site. low ≤ site.index) own → All (λ site. site.index < n) own → low + length own ≤ n
fits-below n low [] le pairs above below = omega arith
fits-below n low (x ∷ own) le pairs above below =
    let least : low ≤ x.index = above 0 x (omega arith) in
    let most : x.index < n = below 0 x (omega arith) in
    let rest : suc x.index + length own ≤ n =
    fits-below n (suc x.index) own (omega arith) (λ i j d lt within. pairs (suc i) (suc j) d (omega arith) (omega arith)) (λ k d lt. pairs 0 (suc k) d (omega arith) (omega arith)) (λ k d lt. below (suc k) d (omega arith)) in
    omega arith

site-at : (heads : List ClassHead) (code : List Instr) (own : List MethodSite) → AreSitesOf heads code own → (k : ℕ) (d : MethodSite) → k < length own → IsSiteAt heads code (get_or own k d)
site-at heads code own are k d lt = (are.exact (get_or own k d)).0 (Contains-get_or own k d lt)

own-whole : (heads : List ClassHead) (p : Parts) (m : ℕ) (method : Method) (own : List MethodSite) → slice_get p.methods m ≡ Some method → All (λ instr. IsRowAbout p.categories instr.op) method.code
    → AreSitesOf heads method.code own → AreWholeSites p m method own
own-whole heads p m method own found rows are = record {
  each = λ k d lt.
      let x : IsSiteAt heads method.code (get_or own k d) = site-at heads method.code own are k d lt in
      record {
        instr = x.instr;
        call = x.call;
        found = ap (λ (o : Option Method). slice_get (code_of o) (get_or own k d).index) found ∙ x.found;
        is_call = x.is_call;
        positions = subst (λ (l : List ℕ). All (λ i. i < arguments x.call) l) (sym x.is_site.positions_are)
            (All-weaker (λ i. nat_lt i (arguments x.call) ≡ true) (λ i. i < arguments x.call) (λ i e. ltb-true i (arguments x.call) e) (sinks_of x.call) (filter_passes (λ i. nat_lt i (arguments x.call)) x.call.row.sinks));
        category =
            let here : IsRowAbout p.categories x.instr.op =
            subst (λ (i : Instr). IsRowAbout p.categories i.op) (get_or_from_slice_get method.code (get_or own k d).index x.instr x.instr x.found)
            (rows (get_or own k d).index x.instr (slice_get_within method.code (get_or own k d).index x.instr x.found)) in
            let about : IsMeaningAbout p.categories x.call.row = subst (λ (o : Op). IsRowAbout p.categories o) x.is_call here in
            subst (λ (c : ℕ). c < count_of_names p.categories) (sym x.category_is) about.category;
      };
  few =
      let below : All (λ site. site.index < length method.code) own =
      λ k d lt. let x : IsSiteAt heads method.code (get_or own k d) = site-at heads method.code own are k d lt in slice_get_within method.code (get_or own k d).index x.instr x.found in
      omega (arith, fits-below (length method.code) zero own (omega arith) are.sorted (λ k d lt. omega arith) below);
}

-- ---- operations

operands-named : (p : Parts) (heads : List ClassHead) (op : Op) → length p.classes ≡ length heads → length p.fields ≡ sum_by (count_of OfFields) heads → IsSound heads op → NamesItsField heads op → NamesOperands p op
operands-named p heads (New token) size fields sound named = omega arith
operands-named p heads (NewArray last dimensions) size fields sound named = omega arith
operands-named p heads (GetStatic field) size fields sound named = omega arith
operands-named p heads (PutStatic field) size fields sound named = omega arith
operands-named p heads (GetField field) size fields sound named = omega arith
operands-named p heads (PutField field) size fields sound named = omega arith
operands-named p heads _ size fields sound named = tt

found-described : (p : Parts) (heads : List ClassHead) (call : CallOp) (found : Option MethodAt) → AgreesWith heads p.methods
    → ((at : MethodAt) → found ≡ Some at → (class : List ℕ) × FindsFrom heads class call.name call.desc at) → IsFound p call found
found-described p heads call None agrees finds = tt
found-described p heads call (Some at) agrees finds = let x : (class : List ℕ) × FindsFrom heads class call.name call.desc at = finds at refl in by x.0 at x.1
  where
    by : (class : List ℕ) (at : MethodAt) → FindsFrom heads class call.name call.desc at → IsAnswer p call.name call.desc at
    by class at (in_program {c = c} e f) = whole-answer p heads NoMethod call.name call.desc c at agrees f
    by class at (in_library e) = tt

row-whole : (p : Parts) (row : LibRow) → IsMeaningAbout p.categories row → IsWholeRow p row
row-whole p row about = record { marks = about.marks; category = about.category }

operation-described : (p : Parts) (heads : List ClassHead) (op : Op) → AgreesWith heads p.methods → IsSound heads op → IsRowAbout p.categories op → IsDescribed p op
operation-described p heads (Call call) agrees sound about = (sound.0, found-described p heads call call.found agrees sound.1, row-whole p call.row about)
operation-described p heads _ agrees sound about = tt

caught-named : (p : Parts) (heads : List ClassHead) (catch : Catch) → length p.classes ≡ length heads → NamesOneOf heads catch → NamesCaught p catch
caught-named p heads Everything size named = tt
caught-named p heads (InClass class) size named = omega arith
caught-named p heads InLibrary size named = tt

-- ---- methods

-- what holds of each method of the classes holds of all
all-methods : (P : Method → Type 0) (table : Content) (classes : List ClassSpelled) (c k : ℕ) (methods : List Method)
    → ((d j : ℕ) (class : ClassSpelled) (method : Method) → slice_get classes d ≡ Some class → j < length class.head.methods → IsMethodOf (heads_of classes) table class d j method → P method)
    → MethodsUpTo (heads_of classes) table classes c k methods → All P methods
all-methods P table classes c k methods each none_yet = All-nil P
all-methods P table classes c k methods each (next_method {c = d} {k = j} {before = before} class method at lt up is) =
    All-push P before method (all-methods P table classes d j before each up) (each d j class method at lt is)
all-methods P table classes c k methods each (next_class {c = d} {before = before} class at up) = all-methods P table classes d (length class.head.methods) before each up

-- the class of a declared method
class-of : (classes : List ClassSpelled) (c k : ℕ) (declared : HeadMethod) → slice_get (methods_of (slice_get (heads_of classes) c)) k ≡ Some declared
    → (class : ClassSpelled) × (slice_get classes c ≡ Some class) × (slice_get class.head.methods k ≡ Some declared)
class-of [] c k declared e = absurd (cc e)
class-of (x ∷ classes) zero k declared e = (x, refl, e)
class-of (x ∷ classes) (suc c) k declared e = class-of classes c k declared e

agrees : (table : Content) (classes : List ClassSpelled) (p : Parts) → AreMethods (heads_of classes) table classes p.methods → AreWholeParts table classes → AgreesWith (heads_of classes) p.methods
agrees table classes p are parts c k declared e =
    let class : (class : ClassSpelled) × (slice_get classes c ≡ Some class) × (slice_get class.head.methods k ≡ Some declared) = class-of classes c k declared e in
    let inside : k < length class.0.head.methods = slice_get_within class.0.head.methods k declared class.2 in
    let x : IsAmong table classes p.methods c k class.0 =
    among-up-to table classes (length classes) zero p.methods are c k class.0 (inl (slice_get_within classes c class.0 class.1)) class.1 inside in
    let same : x.is.head ≡ declared = same_Some x.is.head declared (sym x.is.declared.head_at ∙ class.2) in
    let flags : x.method.flags ≡ declared.flags = x.is.flags_are ∙ ap (λ (h : HeadMethod). h.flags) same in (
      x.method,
      x.at,
      record {
        class_is = x.is.class_is;
        name_is = x.is.name_is ∙ ap (λ (h : HeadMethod). h.name) same;
        desc_is = x.is.desc_is ∙ ap (λ (h : HeadMethod). h.desc) same;
        flags_are = flags;
        code = subst (λ (n : ℕ). HasCode x.method ↔ (is_abstract n ≡ false)) flags (parts c k class.0 x.method class.1 inside x.is).inside.code;
      },
    )

-- ---- numbers

field-count : (n : ℕ) (heads : List ClassHead) → length (fields_from n heads) ≡ sum_by (count_of OfFields) heads
field-count n [] = refl
field-count n (head ∷ heads) = omega (arith, sum_by-cons (count_of OfFields) head heads, length-append (map (field_of n) head.fields) (fields_from (suc n) heads), length-map head.fields (field_of n), field-count (suc n) heads)

abbrev class_count : ClassSpelled → ℕ
class_count class = sum_by (λ (body : ClassMethod). code_length body.code) class.methods

abbrev bodies_of : Option ClassSpelled → List ClassMethod
bodies_of None = []
bodies_of (Some class) = class.methods

instructions-up-to : (table : Content) (classes : List ClassSpelled) (c k : ℕ) (methods : List Method) → AreWholeParts table classes → MethodsUpTo (heads_of classes) table classes c k methods
    → sum_by (λ (method : Method). length method.code) methods
    ≤ sum_by class_count (take c classes) + sum_by (λ (body : ClassMethod). code_length body.code) (take k (bodies_of (slice_get classes c)))
instructions-up-to table classes c k methods parts none_yet = omega arith
instructions-up-to table classes c k methods parts (next_method {c = d} {k = j} {before = before} class method at lt up is) =
    let bodies : List ClassMethod = class.methods in
    let size : length method.code ≡ code_length is.body.code = (parts d j class method at lt is).size in
    let inside : j < length bodies = slice_get_within bodies j is.body is.declared.body_at in
    let one : suc j ≡ j + 1 = omega arith in
    let more : sum_by (λ (body : ClassMethod). code_length body.code) (take (j + 1) bodies) ≡ sum_by (λ (body : ClassMethod). code_length body.code) (take j bodies) + code_length (get_or bodies j is.body).code =
    sum_by_more (λ (body : ClassMethod). code_length body.code) bodies j is.body inside in
    let read : code_length (get_or bodies j is.body).code ≡ code_length is.body.code = ap (λ (body : ClassMethod). code_length body.code) (get_or_from_slice_get bodies j is.body is.body is.declared.body_at) in
    let stepped : sum_by (λ (body : ClassMethod). code_length body.code) (take (suc j) bodies) ≡ sum_by (λ (body : ClassMethod). code_length body.code) (take (j + 1) bodies) =
    ap (λ (n : ℕ). sum_by (λ (body : ClassMethod). code_length body.code) (take n bodies)) one in
    let here : bodies_of (slice_get classes d) ≡ bodies = ap bodies_of at in
    let so-far : sum_by (λ (m : Method). length m.code) before ≤ sum_by class_count (take d classes) + sum_by (λ (body : ClassMethod). code_length body.code) (take j bodies) =
    subst (λ (l : List ClassMethod). sum_by (λ (m : Method). length m.code) before ≤ sum_by class_count (take d classes) + sum_by (λ (body : ClassMethod). code_length body.code) (take j l)) here
    (instructions-up-to table classes d j before parts up) in
    subst (λ (l : List ClassMethod). sum_by (λ (m : Method). length m.code) (before ++ method ∷ []) ≤ sum_by class_count (take d classes) + sum_by (λ (body : ClassMethod). code_length body.code) (take (suc j) l)) (sym here)
    (omega (arith, sum_by_push (λ (m : Method). length m.code) before method, size, more, read, stepped, so-far))
instructions-up-to table classes c k methods parts (next_class {c = d} {before = before} class at up) =
    let here : bodies_of (slice_get classes d) ≡ class.methods = ap bodies_of at in
    let so-far : sum_by (λ (m : Method). length m.code) before ≤ sum_by class_count (take d classes) + sum_by (λ (body : ClassMethod). code_length body.code) (take (length class.head.methods) class.methods) =
    subst (λ (l : List ClassMethod). sum_by (λ (m : Method). length m.code) before ≤ sum_by class_count (take d classes) + sum_by (λ (body : ClassMethod). code_length body.code) (take (length class.head.methods) l)) here
    (instructions-up-to table classes d (length class.head.methods) before parts up) in
    let one : suc d ≡ d + 1 = omega arith in
    let more : sum_by class_count (take (d + 1) classes) ≡ sum_by class_count (take d classes) + class_count (get_or classes d class) = sum_by_more class_count classes d class (slice_get_within classes d class at) in
    let read : class_count (get_or classes d class) ≡ class_count class = ap class_count (get_or_from_slice_get classes d class class at) in
    let stepped : sum_by class_count (take (suc d) classes) ≡ sum_by class_count (take (d + 1) classes) = ap (λ (n : ℕ). sum_by class_count (take n classes)) one in
    omega (arith, sum_by-take-le (λ (body : ClassMethod). code_length body.code) class.methods (length class.head.methods), more, read, stepped, so-far)

sites-up-to : (heads : List ClassHead) (p : Parts) (m : ℕ) (sites : List Site) → All (λ method. All (λ instr. IsRowAbout p.categories instr.op) method.code) p.methods
    → SitesUpTo heads p.methods m sites
    → All (IsWholeSite p) sites × (length sites ≤ sum_by (λ (method : Method). length method.code) (take m p.methods))
sites-up-to heads p m sites rows no_site = (All-nil (IsWholeSite p), omega arith)
sites-up-to heads p m sites rows (next_sites {m = n} {before = before} method own at up are) =
    let rest : All (IsWholeSite p) before × (length before ≤ sum_by (λ (method : Method). length method.code) (take n p.methods)) = sites-up-to heads p n before rows up in
    let whole : AreWholeSites p n method own =
    own-whole heads p n method own at (subst (λ (x : Method). All (λ instr. IsRowAbout p.categories instr.op) x.code) (get_or_from_slice_get p.methods n method method at)
    (rows n method (slice_get_within p.methods n method at))) are in
    let one : suc n ≡ n + 1 = omega arith in
    let more : sum_by (λ (x : Method). length x.code) (take (n + 1) p.methods) ≡ sum_by (λ (x : Method). length x.code) (take n p.methods) + length (get_or p.methods n method).code =
    sum_by_more (λ (x : Method). length x.code) p.methods n method (slice_get_within p.methods n method at) in
    let read : length (get_or p.methods n method).code ≡ length method.code = ap (λ (x : Method). length x.code) (get_or_from_slice_get p.methods n method method at) in
    let stepped : sum_by (λ (x : Method). length x.code) (take (suc n) p.methods) ≡ sum_by (λ (x : Method). length x.code) (take (n + 1) p.methods) = ap (λ (i : ℕ). sum_by (λ (x : Method). length x.code) (take i p.methods)) one in (
      All-append (IsWholeSite p) before (map (site_of n) own) rest.0 (All-map (IsWholeSite p) (site_of n) own whole.each),
      omega (arith, length-append before (map (site_of n) own), length-map own (site_of n), whole.few, more, read, stepped, rest.1),
    )

-- ---- the whole

pub whole-program : (files : List (List ℕ)) (classes : List ClassSpelled) (content : Content) (p : Parts) → AreFew classes → IsProgramOf files classes content p → AreDescribed (heads_of classes)
    → IsCategorized content → AreWholeParts content classes → IsWhole p
whole-program files classes content p few is described about parts =
    let heads : List ClassHead = heads_of classes in
    let size : length p.classes ≡ length heads = is.infos.size in
    let classes-size : length heads ≡ length classes = length-map classes (λ (class : ClassSpelled). class.head) in
    let all : (P : Method → Type 0) → ((d j : ℕ) (class : ClassSpelled) (method : Method) → slice_get classes d ≡ Some class → j < length class.head.methods → IsMethodOf heads content class d j method → P method)
    → All P p.methods =
    λ P each. all-methods P content classes (length classes) zero p.methods each is.methods in
    let agree : AgreesWith heads p.methods = agrees content classes p is.methods parts in
    let fields : All (λ field. (field.class.0 < length heads) × SpellsField field.desc) p.fields = whole-fields heads p.fields described is.fields in
    let numbers : length p.methods ≡ method_number heads (length classes) zero = number-up-to content classes (length classes) zero p.methods is.methods in
    let counted : count_of_program p ≤ sum_by class_count (take (length classes) classes) + sum_by (λ (body : ClassMethod). code_length body.code) (take zero (bodies_of (slice_get classes (length classes)))) =
    instructions-up-to content classes (length classes) zero p.methods parts is.methods in
    let names : content.categories ≡ p.categories = sym is.categories in
    let rows : All (λ method. All (λ instr. IsRowAbout p.categories instr.op) method.code) p.methods =
    all (λ method. All (λ instr. IsRowAbout p.categories instr.op) method.code) (λ d j class method at lt m.
    subst (λ (l : List (List ℕ)). All (λ instr. IsRowAbout l instr.op) method.code) names (parts d j class method at lt m).rows) in
    let site : All (IsWholeSite p) p.sites × (length p.sites ≤ sum_by (λ (method : Method). length method.code) (take (length p.methods) p.methods)) =
    sites-up-to heads p (length p.methods) p.sites rows is.sites in
    let field-size : length p.fields ≡ sum_by (count_of OfFields) heads = ap (λ (l : List Field). length l) is.fields ∙ field-count zero heads in
    record {
      supers = whole-supers heads files p.classes is.infos;
      field_classes =
          All-weaker (λ (field : Field). (field.class.0 < length heads) × SpellsField field.desc) (λ field. NamesClass p field.class.0) (λ field x. omega (arith, x.0, size)) p.fields fields;
      method_classes = all (λ method. NamesClass p method.class.0) (λ d j class method at lt m. omega (arith, slice_get_within classes d class at, m.class_is, size, classes-size));
      instructions = all (λ method. All (NamesAll p (length method.code)) method.code) (λ d j class method at lt m k i within.
          let part : IsWholePart heads content.categories method m.body = parts d j class method at lt m in
          record { next = part.inside.next k i within; operands = operands-named p heads (get_or method.code k i).op size field-size (part.inside.sound k i within) (part.fields k i within) });
      handlers = all (λ method. All (LiesIn p (length method.code)) method.handlers) (λ d j class method at lt m k h within.
          let lies : LiesWithin heads (length method.code) (get_or method.handlers k h) = (parts d j class method at lt m).inside.handlers k h within in
          record { start = lies.start; end = lies.end; target = lies.target; class = caught-named p heads (get_or method.handlers k h).catch size lies.class });
      inits = whole-inits p heads files p.classes agree is.infos;
      categories = subst (λ (l : List (List ℕ)). length l ≤ 8) names about.few;
      entries = whole-entries p heads content p.entries agree size about is.categories is.entries;
      selections = whole-infos p heads files p.classes agree described is.infos;
      described = All-weaker (λ (field : Field). (field.class.0 < length heads) × SpellsField field.desc) (λ field. SpellsField field.desc) (λ field x. x.1) p.fields fields;
      methods = all (IsWholeMethod p) (λ d j class method at lt m.
          let part : IsWholePart heads content.categories method m.body = parts d j class method at lt m in
          record {
            spelled = part.inside.spelled;
            code = part.inside.code;
            calls = λ k i within. operation-described p heads (get_or method.code k i).op agree (part.inside.sound k i within)
                (subst (λ (l : List (List ℕ)). IsRowAbout l (get_or method.code k i).op) names (part.rows k i within));
            returns = part.inside.returns;
          });
      sites = site.0;
      small = record {
        classes = omega (arith, size, few.numbered.classes);
        fields = omega (arith, field-size, few.numbered.fields);
        methods = omega (arith, numbers, sum_by-take-le (count_of OfMethods) heads (length classes), few.numbered.methods);
        instructions = omega (arith, counted, sum_by-take-le class_count classes (length classes), few.instructions);
        sites = omega (arith, site.1, sum_by-take-le (λ (method : Method). length method.code) p.methods (length p.methods));
      };
      frames = all (λ method. method.locals + method.stack ≤ 512) (λ d j class method at lt m. (parts d j class method at lt m).inside.frame);
      starts = all (λ method. HasCode method → Starts method) (λ d j class method at lt m. (parts d j class method at lt m).inside.starts);
      runs = all (λ method. (i : ℕ) (instr : Instr) → slice_get method.code i ≡ Some instr → instr.reached ≡ true → Runs method i instr) (λ d j class method at lt m. (parts d j class method at lt m).inside.runs);
    }
