-- What a table file spells is about the table's categories.
use Rattle.std.proofs.Common.{◌≡◌, ℕ, ◌<◌, ◌≤◌, ◌&&◌, true, false, Bool, length, List, [], ◌∷◌, Option, Some, None, option_and_then, option_map, bytes_eq, codes, refl, sym, subst, ap, ◌∙◌, arith}
use Rattle.std.specs.Prelude.{All, nat_eq, nat_le, nat_lt, if◌then◌else◌}
use Rattle.std.specs.List.{list_any}
use Rattle.std.proofs.lemmas.Option.{same_Some}
use Rattle.std.proofs.lemmas.Bool.{and_parts}
use Rattle.std.proofs.lemmas.Bool.Decides.{nat_tests}
use Rattle.std.proofs.lemmas.List.{length-map, length-replicate}
use Rattle.std.proofs.lemmas.List.Quantifiers.{position-Some}
use Rattle.std.proofs.lemmas.List.Elements.{All-cons, All-nil}
use Rattle.toml.specs.Data.{Data, Members, Items, no_items, item, as_str, as_array}
use Rattle.ja_ir.specs.declared.row.LibRow.{LibRow}
use Rattle.ja_ir.specs.Categories.{count_of_names}
use Rattle.ja_lib.specs.declared.row.TableRow.{TableRow}
use Rattle.ja_lib.specs.declared.entry.EntryRow.{EntryRow}
use Rattle.ja_lib.specs.Content.{IsMeaningAbout, all_marks}
use Rattle.ja_lib.specs.Defaults.{default_entries, default_rows}
use Rattle.ja_lib.specs.File.{at, categories_at, categories_in, category_at, chosen_in, if_few, if_filled, if_passes, marks_at, marks_of, new_mark, place_among, read_items, unseen_text, SpellAll, SpellsMeaning, SpellsRow, SpellsEntry}

-- ---- marks

no_next : {A B : Type 0} (f : A → Option B) (o : Option A) → o ≡ None → option_and_then f o ≡ None
no_next f o e = ap (option_and_then f) e

no_mark : (seen : List (List ℕ)) (text : Option (List ℕ)) → option_and_then (unseen_text seen) (option_and_then (if_passes (λ t. list_any (bytes_eq t) [])) text) ≡ None
no_mark seen None = refl
no_mark seen (Some t) = refl

none_chosen : (items : Items) (found : List (List ℕ)) → chosen_in [] items ≡ Some found → found ≡ []
none_chosen no_items found e = sym (same_Some [] found e)
none_chosen (item v rest) found e =
    let none : chosen_in [] (item v rest) ≡ None = no_next (λ thing. read_items (new_mark []) (thing ∷ []) rest) (new_mark [] [] v) (no_mark [] (as_str v)) in
    let both : None ≡ Some found = sym none ∙ e in
    absurd (cc both)

chosen_of_none : (names : List (List ℕ)) (array : Option Items) (found : List (List ℕ)) → option_and_then (chosen_in names) array ≡ Some found → names ≡ [] → found ≡ []
chosen_of_none names None found e n = absurd (cc e)
chosen_of_none names (Some items) found e n = none_chosen items found (subst (λ (ns : List (List ℕ)). chosen_in ns items ≡ Some found) n e)

counted : (names : List (List ℕ)) (chosen : Option (List (List ℕ))) → ((found : List (List ℕ)) → chosen ≡ Some found → names ≡ [] → found ≡ [])
    → (marks : List Bool) → option_map (marks_of names) (option_and_then if_filled chosen) ≡ Some marks → length marks ≡ count_of_names names
counted names None first marks e = absurd (cc e)
counted names (Some []) first marks e = absurd (cc e)
counted [] (Some (x ∷ xs)) first marks e = let f : x ∷ xs ≡ [] = first (x ∷ xs) refl refl in absurd (cc f)
counted (n ∷ names) (Some (x ∷ xs)) first marks e =
    ap (λ (l : List Bool). length l) (sym (same_Some (marks_of (n ∷ names) (x ∷ xs)) marks e)) ∙ length-map (n ∷ names) (λ name. list_any (bytes_eq name) (x ∷ xs))

marks_count : (names : List (List ℕ)) (value : Option Data) (marks : List Bool) → marks_at names value ≡ Some marks → length marks ≡ count_of_names names
marks_count names None marks e = ap (λ (l : List Bool). length l) (sym (same_Some (all_marks names) marks e)) ∙ length-replicate (count_of_names names) true
marks_count names (Some v) marks e =
    counted names (option_and_then (chosen_in names) (as_array v)) (λ found f n. chosen_of_none names (as_array v) found f n) marks e

-- ---- the category of sinks

some_category : (names : List (List ℕ)) → 0 < count_of_names names
some_category [] = omega arith
some_category (n ∷ names) = omega arith

enough : (names : List (List ℕ)) → length names ≤ count_of_names names
enough [] = omega arith
enough (n ∷ names) = omega arith

placed : (names : List (List ℕ)) (text : Option (List ℕ)) (c : ℕ) → option_and_then (place_among names) text ≡ Some c → c < count_of_names names
placed names None c e = absurd (cc e)
placed names (Some text) c e = omega (arith, (position-Some (bytes_eq text) names c [] e).0, enough names)

category_below : (names : List (List ℕ)) (value : Option Data) (c : ℕ) → category_at names value ≡ Some c → c < count_of_names names
category_below names None c e = subst (λ (k : ℕ). k < count_of_names names) (same_Some 0 c e) (some_category names)
category_below names (Some v) c e = placed names (as_str v) c e

-- ---- the number of categories

passed : (found names : List (List ℕ)) (b : Bool) → (nat_le 1 (length found) && nat_le (length found) 8) ≡ b → (if b then Some found else None) ≡ Some names → length names ≤ 8
passed found names true t e =
    let most : nat_le (length found) 8 ≡ true = (and_parts (nat_le 1 (length found)) (nat_le (length found) 8) t).1 in
    let below : length found ≤ 8 = grind (arith, nat_tests) in
    subst (λ (l : List (List ℕ)). length l ≤ 8) (same_Some found names e) below
passed found names false t e = absurd (cc e)

few_of : (found : Option (List (List ℕ))) (names : List (List ℕ)) → option_and_then if_few found ≡ Some names → length names ≤ 8
few_of None names e = absurd (cc e)
few_of (Some found) names e = passed found names (nat_le 1 (length found) && nat_le (length found) 8) refl e

pub few_categories : (value : Option Data) (names : List (List ℕ)) → categories_at value ≡ Some names → length names ≤ 8
few_categories None names e = subst (λ (l : List (List ℕ)). length l ≤ 8) (same_Some [] names e) (omega arith)
few_categories (Some v) names e = few_of (option_and_then categories_in (as_array v)) names e

-- ---- rows and entries

meaning_about : (names : List (List ℕ)) (members : Members) (meaning : LibRow) → SpellsMeaning names members meaning → IsMeaningAbout names meaning
meaning_about names members meaning is = record {
  marks = marks_count names (at members (codes "marks")) meaning.marks is.marks;
  category = category_below names (at members (codes "category")) meaning.category is.category;
}

pub rows_about : (names : List (List ℕ)) (ts : List Members) (rows : List TableRow) → SpellAll (SpellsRow names) ts rows → All (λ (row : TableRow). IsMeaningAbout names row.meaning) rows
rows_about names [] [] h = All-nil (λ (row : TableRow). IsMeaningAbout names row.meaning)
rows_about names [] (r ∷ rows) h = absurd h
rows_about names (t ∷ ts) [] h = absurd h
rows_about names (t ∷ ts) (r ∷ rows) h =
    All-cons (λ (row : TableRow). IsMeaningAbout names row.meaning) r rows (meaning_about names t r.meaning h.0.meaning) (rows_about names ts rows h.1)

pub entries_about : (names : List (List ℕ)) (ts : List Members) (entries : List EntryRow) → SpellAll (SpellsEntry names) ts entries
    → All (λ (entry : EntryRow). length entry.marks ≡ count_of_names names) entries
entries_about names [] [] h = All-nil (λ (entry : EntryRow). length entry.marks ≡ count_of_names names)
entries_about names [] (e ∷ entries) h = absurd h
entries_about names (t ∷ ts) [] h = absurd h
entries_about names (t ∷ ts) (e ∷ entries) h =
    All-cons (λ (entry : EntryRow). length entry.marks ≡ count_of_names names) e entries (marks_count names (at t (codes "marks")) e.marks h.0.marks) (entries_about names ts entries h.1)

-- ---- the default table

abbrev row_passes : TableRow → Bool
row_passes row = nat_eq (length row.meaning.marks) 1 && nat_lt row.meaning.category 1

abbrev rows_pass : List TableRow → Bool
rows_pass [] = true
rows_pass (row ∷ rows) = row_passes row && rows_pass rows

row_passed : (row : TableRow) → row_passes row ≡ true → IsMeaningAbout [] row.meaning
row_passed row e =
    let parts : (nat_eq (length row.meaning.marks) 1 ≡ true) × (nat_lt row.meaning.category 1 ≡ true) = and_parts (nat_eq (length row.meaning.marks) 1) (nat_lt row.meaning.category 1) e in
    record { marks = grind (arith, nat_tests, parts.0); category = grind (arith, nat_tests, parts.1) }

rows_passed : (rows : List TableRow) → rows_pass rows ≡ true → All (λ (row : TableRow). IsMeaningAbout [] row.meaning) rows
rows_passed [] e = All-nil (λ (row : TableRow). IsMeaningAbout [] row.meaning)
rows_passed (row ∷ rows) e =
    let parts : (row_passes row ≡ true) × (rows_pass rows ≡ true) = and_parts (row_passes row) (rows_pass rows) e in
    All-cons (λ (row : TableRow). IsMeaningAbout [] row.meaning) row rows (row_passed row parts.0) (rows_passed rows parts.1)

pub default_rows_about : All (λ (row : TableRow). IsMeaningAbout [] row.meaning) default_rows
default_rows_about = rows_passed default_rows refl

abbrev entries_pass : List EntryRow → Bool
entries_pass [] = true
entries_pass (entry ∷ entries) = nat_eq (length entry.marks) 1 && entries_pass entries

entries_passed : (entries : List EntryRow) → entries_pass entries ≡ true → All (λ (entry : EntryRow). length entry.marks ≡ 1) entries
entries_passed [] e = All-nil (λ (entry : EntryRow). length entry.marks ≡ 1)
entries_passed (entry ∷ entries) e =
    let parts : (nat_eq (length entry.marks) 1 ≡ true) × (entries_pass entries ≡ true) = and_parts (nat_eq (length entry.marks) 1) (entries_pass entries) e in
    All-cons (λ (entry : EntryRow). length entry.marks ≡ 1) entry entries (grind (arith, nat_tests, parts.0)) (entries_passed entries parts.1)

pub default_entries_about : All (λ (entry : EntryRow). length entry.marks ≡ 1) default_entries
default_entries_about = entries_passed default_entries refl
