-- The parts of an outline are whole in a program whose methods are those that the heads declare.
use Rattle.std.proofs.Common.{◌≡◌, ℕ, zero, suc, ◌+◌, ◌<◌, Bool, true, false, not, ◌&&◌, List, [], ◌∷◌, length, map, get_or, filter, refl, sym, ap, ◌∙◌, subst, arith, true≢false}
use Rattle.std.specs.Prelude.{◌↔◌, Some, All, bytes_eq, codes, slice_get, sum_by, take}
use Rattle.std.proofs.lemmas.Bool.{and_parts, not-true}
use Rattle.std.proofs.lemmas.Slice.Eq.{bytes_eq-Decides}
use Rattle.std.proofs.lemmas.List.Quantifiers.{position-Some}
use Rattle.std.proofs.lemmas.List.Elements.{All-append, All-cons, All-filter, All-head, All-map, All-nil, All-push, All-tail}
use Rattle.std.proofs.lemmas.Option.{get_or_from_slice_get, slice_get-get_or, slice_get_within, same_Some}
use Rattle.ja_base.specs.declared.id.ClassId.{ClassId}
use Rattle.ja_base.specs.declared.id.MethodId.{MethodId}
use Rattle.ja_ir.specs.declared.program.Parts.{Parts}
use Rattle.ja_ir.specs.declared.head.ClassHead.{ClassHead}
use Rattle.ja_ir.specs.declared.head.HeadField.{HeadField}
use Rattle.ja_ir.specs.declared.head.HeadMethod.{HeadMethod}
use Rattle.ja_ir.specs.declared.class.ClassInfo.{ClassInfo}
use Rattle.ja_ir.specs.declared.class.Field.{Field}
use Rattle.ja_ir.specs.declared.class.MethodAt.{MethodAt}
use Rattle.ja_ir.specs.declared.class.MethodAt.TheVariants.{Program, Abstract, Library}
use Rattle.ja_ir.specs.declared.class.Selection.{Selection}
use Rattle.ja_ir.specs.declared.entry.Entry.{Entry}
use Rattle.ja_ir.specs.declared.method.Method.{Method}
use Rattle.ja_ir.specs.Lookup.{HasCode, is_abstract, is_member, is_static}
use Rattle.ja_ir.specs.Whole.{HasConstructor, IsAnswer, IsMember, IsNamed, IsWholeEntry, IsWholeSelection, NamesInitializer, SpellsField, SpellsMethod}
use Rattle.ja_ir.specs.Categories.{category_count, count_of_names}
use Rattle.ja_lib.specs.Content.{Content, IsCategorized}
use Rattle.ja_lib.specs.declared.entry.EntryRow.{EntryRow}
use Rattle.ja_hier.specs.declared.skip.Skip.{Skip}
use Rattle.ja_hier.specs.declared.skip.Skip.TheVariants.{NotVirtual}
use Rattle.ja_hier.specs.declared.starts.Member.TheVariants.{Method as OfMethods}
use Rattle.ja_hier.specs.Members.{count_of}
use Rattle.ja_hier.specs.LookUps.{Finds, fields_of, method_number, methods_of}
use Rattle.ja_heads.specs.declared.signature.Signature.{Signature}
use Rattle.ja_heads.specs.Classes.{AreClassInfos, AreSelections}
use Rattle.ja_heads.specs.Entries.{AreEntries, CanBeMade, ClassAdds, concrete, other, ClassesAdd, no_class, next_class, EntersBy, entry_at, is_entry_point, RowAdds, enters, passes, RowsAdd, no_row, next_row}
use Rattle.ja_heads.specs.Initializers.{initializers_in, initializers_of, is_initializer}
use Rattle.ja_heads.specs.Fields.{AreFields, field_of, fields_from}
use Rattle.ja_heads.specs.Signatures.{first_seen, is_same, numbers_of, own_first, selected, signature_of, signatures_in, signatures_of}
use Rattle.ja_heads.proofs.Found.{IsFoundAs, IsFoundAnswer, found-answer, kept-member}
use Rattle.ja_heads.proofs.Initializers.{from_each}
use Rattle.ja_heads.proofs.Inside.{supers-inside}

-- the method is the one that class c declares so
pub record IsDeclaredAs (c : ℕ) (declared : HeadMethod) (method : Method) : Type 0 where
  pub class_is : method.class.0 ≡ c
  pub name_is : method.name ≡ declared.name
  pub desc_is : method.desc ≡ declared.desc
  pub flags_are : method.flags ≡ declared.flags
  pub code : HasCode method ↔ (is_abstract declared.flags ≡ false)

-- each declared method stands at its number
abbrev pub AgreesWith : List ClassHead → List Method → Type 0
AgreesWith heads methods =
    (c k : ℕ) (declared : HeadMethod) → slice_get (methods_of (slice_get heads c)) k ≡ Some declared
    → (method : Method) × (slice_get methods (method_number heads c k) ≡ Some method) × IsDeclaredAs c declared method

-- each declared method has the descriptor of a method, and each field that of a field
pub record AreDescribed (heads : List ClassHead) : Type 0 where
  pub methods : (c k : ℕ) (declared : HeadMethod) → slice_get (methods_of (slice_get heads c)) k ≡ Some declared → SpellsMethod declared.desc
  pub fields : (c k : ℕ) (declared : HeadField) → slice_get (fields_of (slice_get heads c)) k ≡ Some declared → SpellsField declared.desc

-- ---- look-ups

-- what was found is a method of the program
pub record IsKnown (p : Parts) (name desc : List ℕ) (abstract : Bool) (m : ℕ) : Type 0 where
  pub method : Method
  pub named : IsNamed p m name desc method
  pub code : HasCode method ↔ (abstract ≡ false)

known : (p : Parts) (heads : List ClassHead) (skip : Skip) (name desc : List ℕ) (abstract : Bool) (m : ℕ) → AgreesWith heads p.methods → IsFoundAs heads skip name desc abstract m → IsKnown p name desc abstract m
known p heads skip name desc abstract m agrees f =
    let there : (method : Method) × (slice_get p.methods (method_number heads f.d f.k) ≡ Some method) × IsDeclaredAs f.d f.method method = agrees f.d f.k f.method f.found.at in
    record {
      method = there.0;
      named = record {
        found = ap (λ n. slice_get p.methods n) f.number ∙ there.1;
        is_name = there.2.name_is ∙ f.found.name_is;
        is_desc = there.2.desc_is ∙ f.found.desc_is;
      };
      code = subst (λ b. HasCode there.0 ↔ (b ≡ false)) f.code there.2.code;
    }

empty : (method : Method) → (HasCode method → ⊥) → method.code ≡ []
empty method denied = by method.code denied
  where
    by : {A : Type 0} (xs : List A) → (0 < length xs → ⊥) → xs ≡ []
    by [] h = refl
    by (x ∷ xs) h = absurd (h (omega arith))

-- an answer of a look-up is one in the program
pub whole-answer : (p : Parts) (heads : List ClassHead) (skip : Skip) (name desc : List ℕ) (c : ℕ) (target : MethodAt) → AgreesWith heads p.methods → Finds heads skip name desc c target → IsAnswer p name desc target
whole-answer p heads skip name desc c target agrees finds = by target (found-answer heads skip name desc c target finds)
  where
    by : (target : MethodAt) → IsFoundAnswer heads skip name desc target → IsAnswer p name desc target
    by (Program m) f =
        let x : IsKnown p name desc false m.0 = known p heads skip name desc false m.0 agrees f in
        (x.method, x.named, x.code.1 refl)
    by (Abstract m) f =
        let x : IsKnown p name desc true m.0 = known p heads skip name desc true m.0 agrees f in
        (x.method, x.named, empty x.method (λ has. true≢false (x.code.0 has)))
    by Library f = tt

member-found : (p : Parts) (heads : List ClassHead) (name desc : List ℕ) (abstract : Bool) (m : ℕ) → AgreesWith heads p.methods → IsFoundAs heads NotVirtual name desc abstract m
    → (method : Method) → slice_get p.methods m ≡ Some method → is_member method.flags ≡ true
member-found p heads name desc abstract m agrees f method e =
    let there : (method : Method) × (slice_get p.methods (method_number heads f.d f.k) ≡ Some method) × IsDeclaredAs f.d f.method method = agrees f.d f.k f.method f.found.at in
    let same : there.0 ≡ method = same_Some there.0 method (sym there.1 ∙ ap (λ n. slice_get p.methods n) (sym f.number) ∙ e) in
    subst (λ (x : Method). is_member x.flags ≡ true) same (ap (λ n. is_member n) there.2.flags_are ∙ kept-member f.method.flags f.found.kept)

-- what a virtual call selects is a member
pub whole-member : (p : Parts) (heads : List ClassHead) (name desc : List ℕ) (c : ℕ) (target : MethodAt) → AgreesWith heads p.methods → Finds heads NotVirtual name desc c target → IsMember p target
whole-member p heads name desc c target agrees finds = by target (found-answer heads NotVirtual name desc c target finds)
  where
    by : (target : MethodAt) → IsFoundAnswer heads NotVirtual name desc target → IsMember p target
    by (Program m) f = member-found p heads name desc false m.0 agrees f
    by (Abstract m) f = member-found p heads name desc true m.0 agrees f
    by Library f = tt

-- ---- selections

spelled-in : (heads : List ClassHead) → AreDescribed heads → (c : ℕ) → All (λ s. SpellsMethod s.desc) (signatures_in heads c)
spelled-in heads are c =
    All-map (λ (s : Signature). SpellsMethod s.desc) signature_of (methods_of (slice_get heads c))
    (λ k d lt. are.methods c k (get_or (methods_of (slice_get heads c)) k d) (slice_get-get_or (methods_of (slice_get heads c)) k d lt))

spelled-all : (heads : List ClassHead) → AreDescribed heads → (classes : List ℕ) → All (λ s. SpellsMethod s.desc) (signatures_of heads classes)
spelled-all heads are [] = All-nil (λ (s : Signature). SpellsMethod s.desc)
spelled-all heads are (c ∷ classes) = All-append (λ (s : Signature). SpellsMethod s.desc) (signatures_in heads c) (signatures_of heads classes) (spelled-in heads are c) (spelled-all heads are classes)

spelled-first : (list : List Signature) → All (λ s. SpellsMethod s.desc) list → All (λ s. SpellsMethod s.desc) (first_seen list)
spelled-first [] all = all
spelled-first (s ∷ later) all =
    All-cons (λ (t : Signature). SpellsMethod t.desc) s (filter (λ t. not (is_same s t)) (first_seen later)) (All-head (λ (t : Signature). SpellsMethod t.desc) s later all)
    (All-filter (λ t. not (is_same s t)) (λ (t : Signature). SpellsMethod t.desc) (first_seen later) (spelled-first later (All-tail (λ (t : Signature). SpellsMethod t.desc) s later all)))

spelled-selected : (selections : List Selection) → All (λ s. SpellsMethod s.desc) (map selected selections) → All (λ s. SpellsMethod s.desc) selections
spelled-selected [] all = All-nil (λ (s : Selection). SpellsMethod s.desc)
spelled-selected (s ∷ selections) all =
    All-cons (λ (t : Selection). SpellsMethod t.desc) s selections (All-head (λ (t : Signature). SpellsMethod t.desc) (selected s) (map selected selections) all)
    (spelled-selected selections (All-tail (λ (t : Signature). SpellsMethod t.desc) (selected s) (map selected selections) all))

-- the selections of a class are whole
pub whole-selections : (p : Parts) (heads : List ClassHead) (c : ℕ) (supers : List ClassId) (selections : List Selection) → AgreesWith heads p.methods → AreDescribed heads
    → AreSelections heads c supers selections → All (IsWholeSelection p) selections
whole-selections p heads c supers selections agrees described are k d lt =
    let spelled : All (λ s. SpellsMethod s.desc) selections =
    spelled-selected selections (subst (λ (l : List Signature). All (λ s. SpellsMethod s.desc) l) (sym are.signatures)
    (spelled-first (signatures_of heads (own_first c (numbers_of supers))) (spelled-all heads described (own_first c (numbers_of supers))))) in
    let s : Selection = get_or selections k d in
    record {
      spelled = spelled k d lt;
      answer = whole-answer p heads NotVirtual s.name s.desc c s.target agrees (are.targets k d lt);
      member = whole-member p heads s.name s.desc c s.target agrees (are.targets k d lt);
    }

-- ---- classes

there : {A : Type 0} (xs : List A) (k : ℕ) → k < length xs → (x : A) × (slice_get xs k ≡ Some x)
there [] k lt = absurd (omega arith)
there (x ∷ xs) zero lt = (x, refl)
there (x ∷ xs) (suc k) lt = there xs k (omega arith)

pub whole-supers : (heads : List ClassHead) (files : List (List ℕ)) (infos : List ClassInfo) → AreClassInfos heads files infos → All (λ info. All (λ c. c.0 < length infos) info.supers) infos
whole-supers heads files infos are k d lt =
    let file : (path : List ℕ) × (slice_get files k ≡ Some path) = there files k (omega (arith, are.size, are.placed)) in
    let inside : All (λ c. c.0 < length heads) (get_or infos k d).supers =
    supers-inside heads k (get_or infos k d).supers (omega (arith, are.size)) (are.each k file.0 (get_or infos k d) file.1 (slice_get-get_or infos k d lt)).supers in
    subst (λ n. All (λ c. c.0 < n) (get_or infos k d).supers) (sym are.size) inside

pub whole-infos : (p : Parts) (heads : List ClassHead) (files : List (List ℕ)) (infos : List ClassInfo) → AgreesWith heads p.methods → AreDescribed heads → AreClassInfos heads files infos
    → All (λ info. All (IsWholeSelection p) info.selections) infos
whole-infos p heads files infos agrees described are k d lt =
    let file : (path : List ℕ) × (slice_get files k ≡ Some path) = there files k (omega (arith, are.size, are.placed)) in
    let info : ClassInfo = get_or infos k d in
    whole-selections p heads k info.supers info.selections agrees described (are.each k file.0 info file.1 (slice_get-get_or infos k d lt)).selections

-- ---- fields

-- what holds of each field that a class declares, from a class on
fields-each : (P : Field → Type 0) (n : ℕ) (heads : List ClassHead) → ((c k : ℕ) (field : HeadField) → c < length heads → slice_get (fields_of (slice_get heads c)) k ≡ Some field → P (field_of (n + c) field))
    → All P (fields_from n heads)
fields-each P n [] each = All-nil P
fields-each P n (head ∷ heads) each =
    let zeroth : n + 0 ≡ n = omega arith in
    All-append P (map (field_of n) head.fields) (fields_from (suc n) heads)
    (All-map P (field_of n) head.fields (λ k d lt. subst (λ c. P (field_of c (get_or head.fields k d))) zeroth (each 0 k (get_or head.fields k d) (omega arith) (slice_get-get_or head.fields k d lt))))
    (fields-each P (suc n) heads (λ c k field lt e.
    let next : n + suc c ≡ suc n + c = omega arith in
    subst (λ m. P (field_of m field)) next (each (suc c) k field (omega arith) e)))

pub whole-fields : (heads : List ClassHead) (fields : List Field) → AreDescribed heads → AreFields heads fields → All (λ field. (field.class.0 < length heads) × SpellsField field.desc) fields
whole-fields heads fields described are =
    subst (λ (l : List Field). All (λ field. (field.class.0 < length heads) × SpellsField field.desc) l) (sym are)
    (fields-each (λ (field : Field). (field.class.0 < length heads) × SpellsField field.desc) 0 heads (λ c k field lt e. (omega arith, described.fields c k field e)))

-- ---- entries

-- the method of an entry in the program
pub record IsEntered (p : Parts) (c m : ℕ) : Type 0 where
  pub method : Method
  pub found : slice_get p.methods m ≡ Some method
  pub code : HasCode method
  pub receiver : is_member method.flags ≡ true → HasConstructor p c

no-method : HeadMethod
no-method = record { name = []; desc = []; flags = 0 }

constructor : (p : Parts) (heads : List ClassHead) (c : ℕ) (head : ClassHead) → AgreesWith heads p.methods → slice_get heads c ≡ Some head → CanBeMade head → HasConstructor p c
constructor p heads c head agrees found made =
    let k : ℕ = made.declared.0 in
    let at : slice_get head.methods k ≡ Some made.method = slice_get-get_or head.methods k made.method made.declared.1 ∙ ap Some made.declared.2 in
    let placed : slice_get (methods_of (slice_get heads c)) k ≡ Some made.method = ap (λ o. slice_get (methods_of o) k) found ∙ at in
    let in-program : (method : Method) × (slice_get p.methods (method_number heads c k) ≡ Some method) × IsDeclaredAs c made.method method = agrees c k made.method placed in
    let first : (bytes_eq made.method.name (codes "<init>") ≡ true) × ((bytes_eq made.method.desc (codes "()V") && (is_member made.method.flags && not (is_abstract made.method.flags))) ≡ true) =
    and_parts (bytes_eq made.method.name (codes "<init>")) (bytes_eq made.method.desc (codes "()V") && (is_member made.method.flags && not (is_abstract made.method.flags))) made.makes in
    let second : (bytes_eq made.method.desc (codes "()V") ≡ true) × ((is_member made.method.flags && not (is_abstract made.method.flags)) ≡ true) =
    and_parts (bytes_eq made.method.desc (codes "()V")) (is_member made.method.flags && not (is_abstract made.method.flags)) first.1 in
    let third : (is_member made.method.flags ≡ true) × (not (is_abstract made.method.flags) ≡ true) = and_parts (is_member made.method.flags) (not (is_abstract made.method.flags)) second.1 in
    record {
      m = method_number heads c k;
      method = in-program.0;
      named = record {
        found = in-program.1;
        is_name = in-program.2.name_is ∙ (bytes_eq-Decides made.method.name (codes "<init>")).0 first.0;
        is_desc = in-program.2.desc_is ∙ (bytes_eq-Decides made.method.desc (codes "()V")).0 second.0;
      };
      declared = in-program.2.class_is;
      member = ap (λ n. is_member n) in-program.2.flags_are ∙ third.0;
      code = in-program.2.code.1 (not-true (is_abstract made.method.flags) third.1);
    }

entered : (p : Parts) (heads : List ClassHead) (c : ℕ) (head : ClassHead) (row : EntryRow) (static : Bool) (m : ℕ) → AgreesWith heads p.methods → slice_get heads c ≡ Some head → EntersBy static heads c head row m
    → IsEntered p c m
entered p heads c head row true m agrees found e =
    let place : (e.k < length head.methods) × (is_entry_point row.method row.desc (get_or head.methods e.k no-method) ≡ true) × ((j : ℕ) → j < e.k → is_entry_point row.method row.desc (get_or head.methods j no-method) ≡ false) =
    position-Some (is_entry_point row.method row.desc) head.methods e.k no-method e.declared in
    let declared : HeadMethod = get_or head.methods e.k no-method in
    let placed : slice_get (methods_of (slice_get heads c)) e.k ≡ Some declared = ap (λ o. slice_get (methods_of o) e.k) found ∙ slice_get-get_or head.methods e.k no-method place.0 in
    let in-program : (method : Method) × (slice_get p.methods (method_number heads c e.k) ≡ Some method) × IsDeclaredAs c declared method = agrees c e.k declared placed in
    let first : (bytes_eq declared.name row.method ≡ true) × ((bytes_eq declared.desc row.desc && (is_static declared.flags && not (is_abstract declared.flags))) ≡ true) =
    and_parts (bytes_eq declared.name row.method) (bytes_eq declared.desc row.desc && (is_static declared.flags && not (is_abstract declared.flags))) place.1 in
    let second : (bytes_eq declared.desc row.desc ≡ true) × ((is_static declared.flags && not (is_abstract declared.flags)) ≡ true) =
    and_parts (bytes_eq declared.desc row.desc) (is_static declared.flags && not (is_abstract declared.flags)) first.1 in
    let third : (is_static declared.flags ≡ true) × (not (is_abstract declared.flags) ≡ true) = and_parts (is_static declared.flags) (not (is_abstract declared.flags)) second.1 in
    record {
      method = in-program.0;
      found = ap (λ n. slice_get p.methods n) e.number ∙ in-program.1;
      code = in-program.2.code.1 (not-true (is_abstract declared.flags) third.1);
      receiver = λ member. absurd (true≢false (sym member ∙ ap (λ n. is_member n) in-program.2.flags_are ∙ ap not third.0));
    }
entered p heads c head row false m agrees found e =
    let answer : (method : Method) × IsNamed p m row.method row.desc method × HasCode method = whole-answer p heads NotVirtual row.method row.desc c (Program (record { 0 = m })) agrees e.selected in
    record {
      method = answer.0;
      found = answer.1.found;
      code = answer.2;
      receiver = λ member. constructor p heads c head agrees found e.made;
    }

-- the row says of each category of the program whether marks of it may be given
abbrev IsMarkedFor : Parts → EntryRow → Type 0
IsMarkedFor p row = length row.marks ≡ category_count p

whole-row : (p : Parts) (heads : List ClassHead) (c : ℕ) (head : ClassHead) (row : EntryRow) (so_far after : List Entry) → AgreesWith heads p.methods → length p.classes ≡ length heads → slice_get heads c ≡ Some head
    → IsMarkedFor p row → RowAdds heads c head row so_far after → All (IsWholeEntry p) so_far → All (IsWholeEntry p) after
whole-row p heads c head row so_far after agrees size found marked (enters m e) all =
    let x : IsEntered p c m = entered p heads c head row row.is_static m agrees found e in
    All-push (IsWholeEntry p) so_far (entry_at c m row) all
    (record { class = omega (arith, slice_get_within heads c head found, size); method = x.method; found = x.found; code = x.code; receiver = x.receiver; marks = marked })
whole-row p heads c head row so_far after agrees size found marked (passes none) all = all

whole-rows : (p : Parts) (heads : List ClassHead) (rows : List EntryRow) (c : ℕ) (head : ClassHead) (so_far : List Entry) (k : ℕ) (after : List Entry) → AgreesWith heads p.methods → length p.classes ≡ length heads
    → slice_get heads c ≡ Some head → All (IsMarkedFor p) rows → RowsAdd heads rows c head so_far k after → All (IsWholeEntry p) so_far → All (IsWholeEntry p) after
whole-rows p heads rows c head so_far k after agrees size found marked no_row all = all
whole-rows p heads rows c head so_far k after agrees size found marked (next_row {k = j} {before = before} row e s t) all =
    let own : IsMarkedFor p row = subst (IsMarkedFor p) (get_or_from_slice_get rows j row row e) (marked j row (slice_get_within rows j row e)) in
    whole-row p heads c head row before after agrees size found own t (whole-rows p heads rows c head so_far j before agrees size found marked s all)

whole-class : (p : Parts) (heads : List ClassHead) (rows : List EntryRow) (c : ℕ) (so_far after : List Entry) → AgreesWith heads p.methods → length p.classes ≡ length heads
    → All (IsMarkedFor p) rows → ClassAdds heads rows c so_far after → All (IsWholeEntry p) so_far → All (IsWholeEntry p) after
whole-class p heads rows c so_far after agrees size marked (concrete head found t s) all = whole-rows p heads rows c head so_far (length rows) after agrees size found marked s all
whole-class p heads rows c so_far after agrees size marked (other head found t) all = all

whole-classes : (p : Parts) (heads : List ClassHead) (rows : List EntryRow) (c : ℕ) (after : List Entry) → AgreesWith heads p.methods → length p.classes ≡ length heads
    → All (IsMarkedFor p) rows → ClassesAdd heads rows c after → All (IsWholeEntry p) after
whole-classes p heads rows c after agrees size marked no_class = All-nil (IsWholeEntry p)
whole-classes p heads rows c after agrees size marked (next_class {c = d} {before = before} s t) =
    whole-class p heads rows d before after agrees size marked t (whole-classes p heads rows d before agrees size marked s)

-- the entries are whole
pub whole-entries : (p : Parts) (heads : List ClassHead) (content : Content) (entries : List Entry) → AgreesWith heads p.methods → length p.classes ≡ length heads
    → IsCategorized content → p.categories ≡ content.categories → AreEntries heads content entries → All (IsWholeEntry p) entries
whole-entries p heads content entries agrees size about names are =
    whole-classes p heads content.entries (length heads) entries agrees size (λ k d lt. about.entries k d lt ∙ ap count_of_names (sym names)) are

-- ---- class initialisers

initializer : (p : Parts) (heads : List ClassHead) (c k : ℕ) (declared : HeadMethod) → AgreesWith heads p.methods → slice_get (methods_of (slice_get heads c)) k ≡ Some declared → is_initializer declared ≡ true
    → NamesInitializer p (method_number heads c k)
initializer p heads c k declared agrees placed is =
    let in-program : (method : Method) × (slice_get p.methods (method_number heads c k) ≡ Some method) × IsDeclaredAs c declared method = agrees c k declared placed in
    let first : (bytes_eq declared.name (codes "<clinit>") ≡ true) × ((bytes_eq declared.desc (codes "()V") && (is_static declared.flags && not (is_abstract declared.flags))) ≡ true) =
    and_parts (bytes_eq declared.name (codes "<clinit>")) (bytes_eq declared.desc (codes "()V") && (is_static declared.flags && not (is_abstract declared.flags))) is in
    let second : (bytes_eq declared.desc (codes "()V") ≡ true) × ((is_static declared.flags && not (is_abstract declared.flags)) ≡ true) =
    and_parts (bytes_eq declared.desc (codes "()V")) (is_static declared.flags && not (is_abstract declared.flags)) first.1 in
    let third : (is_static declared.flags ≡ true) × (not (is_abstract declared.flags) ≡ true) = and_parts (is_static declared.flags) (not (is_abstract declared.flags)) second.1 in
    record {
      method = in-program.0;
      named = record {
        found = in-program.1;
        is_name = in-program.2.name_is ∙ (bytes_eq-Decides declared.name (codes "<clinit>")).0 first.0;
        is_desc = in-program.2.desc_is ∙ (bytes_eq-Decides declared.desc (codes "()V")).0 second.0;
      };
      belongs = ap (λ n. is_static n) in-program.2.flags_are ∙ third.0;
      code = in-program.2.code.1 (not-true (is_abstract declared.flags) third.1);
    }

initializers : (p : Parts) (heads : List ClassHead) → AgreesWith heads p.methods → (classes : List ℕ) → All (λ m. NamesInitializer p m.0) (initializers_of heads classes)
initializers p heads agrees [] = All-nil (λ (m : MethodId). NamesInitializer p m.0)
initializers p heads agrees (c ∷ classes) =
    All-append (λ (m : MethodId). NamesInitializer p m.0) (initializers_in heads c) (initializers_of heads classes)
    (from_each (λ (m : MethodId). NamesInitializer p m.0) (sum_by (count_of OfMethods) (take c heads)) (methods_of (slice_get heads c)) (λ k declared at is.
    initializer p heads c k declared agrees at is))
    (initializers p heads agrees classes)

-- each class initialiser that a class names is one
pub whole-inits : (p : Parts) (heads : List ClassHead) (files : List (List ℕ)) (infos : List ClassInfo) → AgreesWith heads p.methods → AreClassInfos heads files infos
    → All (λ info. All (λ m. NamesInitializer p m.0) info.inits) infos
whole-inits p heads files infos agrees are k d lt =
    let file : (path : List ℕ) × (slice_get files k ≡ Some path) = there files k (omega (arith, are.size, are.placed)) in
    let info : ClassInfo = get_or infos k d in
    subst (λ (l : List MethodId). All (λ m. NamesInitializer p m.0) l) (sym (are.each k file.0 info file.1 (slice_get-get_or infos k d lt)).inits)
    (initializers p heads agrees (numbers_of info.supers))
