-- Bytes are a table file of one content at most, have one first fault at most, and never have both.
use Rattle.std.proofs.Common.{◌≡◌, ℕ, zero, suc, Bool, List, [], ◌∷◌, Option, Some, None, codes, refl, sym, ap, subst, ◌∙◌, ◌⊎◌, inl, inr}
use Rattle.std.proofs.lemmas.Option.{same_Some}
use Rattle.toml.specs.Data.{Data, Members}
use Rattle.ja_ir.specs.declared.row.LibRow.{LibRow}
use Rattle.ja_ir.specs.declared.row.RowFlow.{RowFlow}
use Rattle.ja_ir.specs.declared.row.RowEffect.{RowEffect}
use Rattle.ja_ir.specs.declared.row.RowResult.{RowResult}
use Rattle.ja_lib.specs.declared.row.TableRow.{TableRow}
use Rattle.ja_lib.specs.declared.entry.EntryRow.{EntryRow}
use Rattle.ja_lib.specs.declared.fault.TableFault.{TableFault}
use Rattle.ja_lib.specs.declared.fault.TableFault.TheVariants.{Text, UnknownKey, BadCategory, BadRow, BadEntry, Memory}
use Rattle.ja_lib.specs.Content.{Content}
use Rattle.ja_lib.specs.File.{IsDocument, at, any_text, filled_text, filled_texts, truth_at, positions_at, flow_at, effect_at, result_at, marks_at, category_at, categories_at, HasCategories, MayBeDesc, SpellsMeaning, SpellsRow, SpellsEntry, tables_at, HasTables, SpellAll, IsFirstWrong, SpellsContent, IsFaultIn, IsTableFile, IsFaultOf}

one_value : {A : Type 0} (found : Option A) (x y : A) → found ≡ Some x → found ≡ Some y → x ≡ y
one_value found x y p q = same_Some x y (sym p ∙ q)

one_desc : (value : Option Data) (x y : Option (List ℕ)) → MayBeDesc value x → MayBeDesc value y → x ≡ y
one_desc None x y p q = p ∙ sym q
one_desc (Some value) None y p q = absurd p
one_desc (Some value) (Some x) None p q = absurd q
one_desc (Some value) (Some x) (Some y) p q = ap Some (one_value (any_text (Some value)) x y p.0 q.0)

abbrev meaning_of : RowFlow → RowEffect → RowResult → List ℕ → List Bool → ℕ → LibRow
meaning_of flow effect result sinks marks category =
    record { flow = flow; effect = effect; result = result; sinks = sinks; marks = marks; category = category }

one_meaning : (names : List (List ℕ)) (members : Members) (x y : LibRow) → SpellsMeaning names members x → SpellsMeaning names members y → x ≡ y
one_meaning names members x y p q =
    ap (λ v. meaning_of v x.effect x.result x.sinks x.marks x.category) (one_value (flow_at (at members (codes "flow"))) x.flow y.flow p.flow q.flow)
    ∙ ap (λ v. meaning_of y.flow v x.result x.sinks x.marks x.category) (one_value (effect_at (at members (codes "effect"))) x.effect y.effect p.effect q.effect)
    ∙ ap (λ v. meaning_of y.flow y.effect v x.sinks x.marks x.category) (one_value (result_at (at members (codes "result"))) x.result y.result p.result q.result)
    ∙ ap (λ v. meaning_of y.flow y.effect y.result v x.marks x.category) (one_value (positions_at (at members (codes "sink"))) x.sinks y.sinks p.sinks q.sinks)
    ∙ ap (λ v. meaning_of y.flow y.effect y.result y.sinks v x.category) (one_value (marks_at names (at members (codes "marks"))) x.marks y.marks p.marks q.marks)
    ∙ ap (λ v. meaning_of y.flow y.effect y.result y.sinks y.marks v) (one_value (category_at names (at members (codes "category"))) x.category y.category p.category q.category)

abbrev row_of : List (List ℕ) → List ℕ → Option (List ℕ) → LibRow → TableRow
row_of classes method desc meaning = record { classes = classes; method = method; desc = desc; meaning = meaning }

one_row : (names : List (List ℕ)) (members : Members) (x y : TableRow) → SpellsRow names members x → SpellsRow names members y → x ≡ y
one_row names members x y p q =
    ap (λ v. row_of v x.method x.desc x.meaning) (one_value (filled_texts (at members (codes "class"))) x.classes y.classes p.classes q.classes)
    ∙ ap (λ v. row_of y.classes v x.desc x.meaning) (one_value (filled_text (at members (codes "method"))) x.method y.method p.method q.method)
    ∙ ap (λ v. row_of y.classes y.method v x.meaning) (one_desc (at members (codes "desc")) x.desc y.desc p.desc q.desc)
    ∙ ap (λ v. row_of y.classes y.method y.desc v) (one_meaning names members x.meaning y.meaning p.meaning q.meaning)

abbrev entry_of : List ℕ → Bool → List ℕ → List ℕ → List ℕ → List Bool → EntryRow
entry_of class is_static method desc marked marks =
    record { class = class; is_static = is_static; method = method; desc = desc; marked = marked; marks = marks }

one_entry : (names : List (List ℕ)) (members : Members) (x y : EntryRow) → SpellsEntry names members x → SpellsEntry names members y → x ≡ y
one_entry names members x y p q =
    ap (λ v. entry_of v x.is_static x.method x.desc x.marked x.marks) (one_value (any_text (at members (codes "class"))) x.class y.class p.class q.class)
    ∙ ap (λ v. entry_of y.class v x.method x.desc x.marked x.marks) (one_value (truth_at (at members (codes "static"))) x.is_static y.is_static p.is_static q.is_static)
    ∙ ap (λ v. entry_of y.class y.is_static v x.desc x.marked x.marks) (one_value (filled_text (at members (codes "method"))) x.method y.method p.method q.method)
    ∙ ap (λ v. entry_of y.class y.is_static y.method v x.marked x.marks) (one_value (any_text (at members (codes "desc"))) x.desc y.desc p.desc.0 q.desc.0)
    ∙ ap (λ v. entry_of y.class y.is_static y.method y.desc v x.marks) (one_value (positions_at (at members (codes "marked"))) x.marked y.marked p.marked q.marked)
    ∙ ap (λ v. entry_of y.class y.is_static y.method y.desc y.marked v) (one_value (marks_at names (at members (codes "marks"))) x.marks y.marks p.marks q.marks)

one_each : {A : Type 0} (Spells : Members → A → Type 0) → ((t : Members) (x y : A) → Spells t x → Spells t y → x ≡ y)
    → (ts : List Members) (xs ys : List A) → SpellAll Spells ts xs → SpellAll Spells ts ys → xs ≡ ys
one_each Spells one [] [] [] p q = refl
one_each Spells one [] [] (y ∷ ys) p q = absurd q
one_each Spells one [] (x ∷ xs) ys p q = absurd p
one_each Spells one (t ∷ ts) [] ys p q = absurd p
one_each Spells one (t ∷ ts) (x ∷ xs) [] p q = absurd q
one_each Spells one (t ∷ ts) (x ∷ xs) (y ∷ ys) p q = ap (λ v. v ∷ xs) (one t x y p.0 q.0) ∙ ap (λ vs. y ∷ vs) (one_each Spells one ts xs ys p.1 q.1)

none_wrong : {A : Type 0} (Spells : Members → A → Type 0) (ts : List Members) (n : ℕ) (xs : List A) → IsFirstWrong Spells ts n → SpellAll Spells ts xs → ⊥
none_wrong Spells [] n xs wrong all = wrong
none_wrong Spells (t ∷ ts) zero [] wrong all = all
none_wrong Spells (t ∷ ts) (suc n) [] wrong all = all
none_wrong Spells (t ∷ ts) zero (x ∷ xs) wrong all = wrong x all.0
none_wrong Spells (t ∷ ts) (suc n) (x ∷ xs) wrong all = none_wrong Spells ts n xs wrong.2 all.1

one_place : {A : Type 0} (Spells : Members → A → Type 0) (ts : List Members) (n m : ℕ) → IsFirstWrong Spells ts n → IsFirstWrong Spells ts m → n ≡ m
one_place Spells [] n m p q = absurd p
one_place Spells (t ∷ ts) zero zero p q = refl
one_place Spells (t ∷ ts) zero (suc m) p q = absurd (p q.0 q.1)
one_place Spells (t ∷ ts) (suc n) zero p q = absurd (q p.0 p.1)
one_place Spells (t ∷ ts) (suc n) (suc m) p q = ap suc (one_place Spells ts n m p.2 q.2)

same_rows : (document : Members) (rows entries others more : List Members) → HasTables document rows entries → HasTables document others more → rows ≡ others
same_rows document rows entries others more p q = one_value (tables_at (at document (codes "row"))) rows others p.are_rows q.are_rows

same_entries : (document : Members) (rows entries others more : List Members) → HasTables document rows entries → HasTables document others more → entries ≡ more
same_entries document rows entries others more p q = one_value (tables_at (at document (codes "entry"))) entries more p.are_entries q.are_entries

same_categories : (document : Members) (names others : List (List ℕ)) → HasCategories document names → HasCategories document others → names ≡ others
same_categories document names others p q = one_value (categories_at (at document (codes "category"))) names others p q

abbrev content_of : List (List ℕ) → List TableRow → List EntryRow → Content
content_of categories rows entries = record { categories = categories; rows = rows; entries = entries }

-- what was said of other tables, where these are other categories, is said of these
moved : (Says : List (List ℕ) → List Members → Type 0) (names others : List (List ℕ)) (ts us : List Members) → names ≡ others → ts ≡ us → Says names ts → Says others us
moved Says names others ts us e f h = subst (λ n. Says n us) e (subst (λ t. Says names t) f h)

content_in : (document : Members) (x y : Content) → SpellsContent document x → SpellsContent document y → x ≡ y
content_in document x y p q =
    let names : x.categories ≡ y.categories = same_categories document x.categories y.categories p.categories q.categories in
    let rows : SpellAll (SpellsRow y.categories) q.rows x.rows =
    moved (λ ns ts. SpellAll (SpellsRow ns) ts x.rows) x.categories y.categories p.rows q.rows names (same_rows document p.rows p.entries q.rows q.entries p.tables q.tables) p.all_rows in
    let entries : SpellAll (SpellsEntry y.categories) q.entries x.entries =
    moved (λ ns ts. SpellAll (SpellsEntry ns) ts x.entries) x.categories y.categories p.entries q.entries names (same_entries document p.rows p.entries q.rows q.entries p.tables q.tables) p.all_entries in
    ap (λ v. content_of v x.rows x.entries) names
    ∙ ap (λ v. content_of y.categories v x.entries) (one_each (SpellsRow y.categories) (one_row y.categories) q.rows x.rows y.rows rows q.all_rows)
    ∙ ap (λ v. content_of y.categories y.rows v) (one_each (SpellsEntry y.categories) (one_entry y.categories) q.entries x.entries y.entries entries q.all_entries)

not_both_in : (document : Members) (content : Content) (fault : TableFault) → (fault ≡ Memory → ⊥) → SpellsContent document content → IsFaultIn document fault → ⊥
not_both_in document content Text other p q = q
not_both_in document content UnknownKey other p q = q p.rows p.entries p.tables
not_both_in document content BadCategory other p q = q.wrong content.categories p.categories
not_both_in document content (BadRow n) other p q =
    none_wrong (SpellsRow content.categories) p.rows n content.rows
    (moved (λ ns ts. IsFirstWrong (SpellsRow ns) ts n) q.names content.categories q.rows p.rows (same_categories document q.names content.categories q.categories p.categories)
    (same_rows document q.rows q.entries p.rows p.entries q.tables p.tables) q.wrong) p.all_rows
not_both_in document content (BadEntry n) other p q =
    none_wrong (SpellsEntry content.categories) p.entries n content.entries
    (moved (λ ns ts. IsFirstWrong (SpellsEntry ns) ts n) q.names content.categories q.entries p.entries (same_categories document q.names content.categories q.categories p.categories)
    (same_entries document q.rows q.entries p.rows p.entries q.tables p.tables) q.wrong) p.all_entries
not_both_in document content Memory other p q = other refl

row_first : (document : Members) (n m : ℕ) → IsFaultIn document (BadRow n) → IsFaultIn document (BadEntry m) → ⊥
row_first document n m p q =
    none_wrong (SpellsRow q.names) q.rows n q.spelled
    (moved (λ ns ts. IsFirstWrong (SpellsRow ns) ts n) p.names q.names p.rows q.rows (same_categories document p.names q.names p.categories q.categories)
    (same_rows document p.rows p.entries q.rows q.entries p.tables q.tables) p.wrong) q.all_rows

one_fault_in : (document : Members) (fault other : TableFault) → (fault ≡ Memory → ⊥) → (other ≡ Memory → ⊥) → IsFaultIn document fault → IsFaultIn document other → fault ≡ other
one_fault_in document Text other a b p q = absurd p
one_fault_in document UnknownKey Text a b p q = absurd q
one_fault_in document UnknownKey UnknownKey a b p q = refl
one_fault_in document UnknownKey BadCategory a b p q = absurd (p q.rows q.entries q.tables)
one_fault_in document UnknownKey (BadRow m) a b p q = absurd (p q.rows q.entries q.tables)
one_fault_in document UnknownKey (BadEntry m) a b p q = absurd (p q.rows q.entries q.tables)
one_fault_in document UnknownKey Memory a b p q = absurd (b refl)
one_fault_in document BadCategory Text a b p q = absurd q
one_fault_in document BadCategory UnknownKey a b p q = absurd (q p.rows p.entries p.tables)
one_fault_in document BadCategory BadCategory a b p q = refl
one_fault_in document BadCategory (BadRow m) a b p q = absurd (p.wrong q.names q.categories)
one_fault_in document BadCategory (BadEntry m) a b p q = absurd (p.wrong q.names q.categories)
one_fault_in document BadCategory Memory a b p q = absurd (b refl)
one_fault_in document (BadRow n) Text a b p q = absurd q
one_fault_in document (BadRow n) UnknownKey a b p q = absurd (q p.rows p.entries p.tables)
one_fault_in document (BadRow n) BadCategory a b p q = absurd (q.wrong p.names p.categories)
one_fault_in document (BadRow n) (BadRow m) a b p q =
    ap BadRow (one_place (SpellsRow q.names) q.rows n m
    (moved (λ ns ts. IsFirstWrong (SpellsRow ns) ts n) p.names q.names p.rows q.rows (same_categories document p.names q.names p.categories q.categories)
    (same_rows document p.rows p.entries q.rows q.entries p.tables q.tables) p.wrong) q.wrong)
one_fault_in document (BadRow n) (BadEntry m) a b p q = absurd (row_first document n m p q)
one_fault_in document (BadRow n) Memory a b p q = absurd (b refl)
one_fault_in document (BadEntry n) Text a b p q = absurd q
one_fault_in document (BadEntry n) UnknownKey a b p q = absurd (q p.rows p.entries p.tables)
one_fault_in document (BadEntry n) BadCategory a b p q = absurd (q.wrong p.names p.categories)
one_fault_in document (BadEntry n) (BadRow m) a b p q = absurd (row_first document m n q p)
one_fault_in document (BadEntry n) (BadEntry m) a b p q =
    ap BadEntry (one_place (SpellsEntry q.names) q.entries n m
    (moved (λ ns ts. IsFirstWrong (SpellsEntry ns) ts n) p.names q.names p.entries q.entries (same_categories document p.names q.names p.categories q.categories)
    (same_entries document p.rows p.entries q.rows q.entries p.tables q.tables) p.wrong) q.wrong)
one_fault_in document (BadEntry n) Memory a b p q = absurd (b refl)
one_fault_in document Memory other a b p q = absurd (a refl)

one_document : (bytes : List ℕ) (x y : Members) → IsDocument bytes x → IsDocument bytes y → x ≡ y
one_document bytes x y p q = same_Some x y (sym p.1 ∙ q.1)

pub one_content : (bytes : List ℕ) (content other : Content) → IsTableFile bytes content → IsTableFile bytes other → content ≡ other
one_content bytes content other (x, p, s) (y, q, t) = content_in y content other (subst (λ d. SpellsContent d content) (one_document bytes x y p q) s) t

-- a fault of the text, or one in the document
document_of : (bytes : List ℕ) (fault : TableFault) → (fault ≡ Memory → ⊥) → IsFaultOf bytes fault
    → ((fault ≡ Text) × ((document : Members) → IsDocument bytes document → ⊥)) ⊎ ((document : Members) × IsDocument bytes document × IsFaultIn document fault)
document_of bytes Text other p = inl (refl, p)
document_of bytes UnknownKey other p = inr p
document_of bytes BadCategory other p = inr p
document_of bytes (BadRow n) other p = inr p
document_of bytes (BadEntry n) other p = inr p
document_of bytes Memory other p = absurd (other refl)

pub not_both : (bytes : List ℕ) (content : Content) (fault : TableFault) → (fault ≡ Memory → ⊥) → IsTableFile bytes content → IsFaultOf bytes fault → ⊥
not_both bytes content fault other (x, p, s) is =
    elim (document_of bytes fault other is) [
      | inl text ↦ text.1 x p
      | inr found ↦ not_both_in x content fault other s (subst (λ d. IsFaultIn d fault) (one_document bytes found.0 x found.1 p) found.2)
    ]

pub one_fault : (bytes : List ℕ) (fault other : TableFault) → (fault ≡ Memory → ⊥) → (other ≡ Memory → ⊥) → IsFaultOf bytes fault → IsFaultOf bytes other → fault ≡ other
one_fault bytes fault other a b p q =
    elim (document_of bytes fault a p) [
      | inl text ↦ elim (document_of bytes other b q) [
        | inl also ↦ text.0 ∙ sym also.0
        | inr found ↦ absurd (text.1 found.0 found.1)
      ]
      | inr here ↦ elim (document_of bytes other b q) [
        | inl text ↦ absurd (text.1 here.0 here.1)
        | inr found ↦ one_fault_in found.0 fault other a b (subst (λ d. IsFaultIn d fault) (one_document bytes here.0 found.0 here.1 found.1) here.2) found.2
      ]
    ]
