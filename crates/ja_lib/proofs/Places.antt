-- Places of rows by class, and the look-up that goes by them.
use Rattle.std.proofs.Common.{◌≡◌, ℕ, ◌+◌, ◌<◌, suc, ◌&&◌, cond, length, take, get_or, List, [], ◌∷◌, ◌++◌, Option, Some, None, bytes_eq, refl, sym, ◌∙◌, inl, inr, append_assoc, append-nil, add-zero, length-append, arith}
use Rattle.std.specs.List.{list_any, slice_get}
use Rattle.std.proofs.lemmas.Bool.{cases_Bool}
use Rattle.std.proofs.lemmas.List.{take_more, length-take-le}
use Rattle.ja_base.specs.Index.{number_if}
use Rattle.ja_ir.specs.declared.row.LibRow.{LibRow}
use Rattle.ja_lib.specs.declared.row.TableRow.{TableRow}
use Rattle.ja_lib.specs.Rows.{is_for_class, is_for_method, is_for_desc, row_for}
use Rattle.ja_lib.specs.InnerIndex.{place_for_each, places_from, said_by, first_at}

-- one more class of a row
pub place_for_each-last : (place : ℕ) (listed : List (List ℕ)) (last class : List ℕ)
    → place_for_each place (listed ++ last ∷ []) class ≡ place_for_each place listed class ++ number_if place last class
place_for_each-last place [] last class = append-nil (number_if place last class)
place_for_each-last place (one ∷ more) last class = rw (place_for_each-last place more last class) (sym (append_assoc (number_if place one class) _ _))

-- one more row
pub places_from-last : (first : ℕ) (rows : List TableRow) (last : TableRow) (class : List ℕ)
    → places_from first (rows ++ last ∷ []) class ≡ places_from first rows class ++ place_for_each (first + length rows) last.classes class
places_from-last first [] last class = simp (append-nil, add-zero)
places_from-last first (row ∷ rows) last class =
    let e : suc first + length rows ≡ first + suc (length rows) = omega arith in
    rw (places_from-last (suc first) rows last class, e) (sym (append_assoc (place_for_each first row.classes class) _ _))

-- a row that is asked twice says the same
said_again : (method desc : List ℕ) (row : Option TableRow) (otherwise : Option LibRow)
    → said_by method desc row (said_by method desc row otherwise) ≡ said_by method desc row otherwise
said_again method desc None otherwise = refl
said_again method desc (Some row) otherwise =
    elim (cases_Bool (is_for_method method row && is_for_desc desc row)) [
      | inl is_so ↦ rw is_so
      | inr not_so ↦ rw not_so
    ]

-- the places of one row
row_places : (all : List TableRow) (method desc : List ℕ) (place : ℕ) (listed : List (List ℕ)) (class places : List ℕ)
    → first_at all method desc (place_for_each place listed class ++ places)
    ≡ cond (list_any (λ l. bytes_eq l class) listed) (said_by method desc (slice_get all place) (first_at all method desc places)) (first_at all method desc places)
row_places all method desc place [] class places = refl
row_places all method desc place (one ∷ more) class places =
    elim (cases_Bool (bytes_eq one class)) [
      | inl is_so ↦ rw (is_so, row_places all method desc place more class places)
          (elim (cases_Bool (list_any (λ l. bytes_eq l class) more)) [
            | inl any ↦ rw any (said_again method desc (slice_get all place) (first_at all method desc places))
            | inr none ↦ rw none
          ])
      | inr not_so ↦ rw (not_so, row_places all method desc place more class places)
    ]

slice_get-at : (before rows : List TableRow) (row : TableRow) → slice_get (before ++ row ∷ rows) (length before) ≡ Some row
slice_get-at [] rows row = refl
slice_get-at (x ∷ before) rows row = slice_get-at before rows row

-- one row of the look-up
row_step : (class method desc : List ℕ) (row : TableRow) (rows : List TableRow)
    → cond (is_for_class class row) (said_by method desc (Some row) (row_for rows class method desc)) (row_for rows class method desc)
    ≡ row_for (row ∷ rows) class method desc
row_step class method desc row rows =
    elim (cases_Bool (is_for_class class row)) [
      | inr not_so ↦ rw not_so
      | inl is_so ↦ rw is_so (elim (cases_Bool (is_for_method method row)) [
        | inr not_so ↦ rw not_so
        | inl named ↦ rw named (elim (cases_Bool (is_for_desc desc row)) [
          | inr not_so ↦ rw not_so
          | inl given ↦ rw given
        ])
      ])
    ]

from : (before rows : List TableRow) (class method desc : List ℕ)
    → first_at (before ++ rows) method desc (places_from (length before) rows class) ≡ row_for rows class method desc
from before [] class method desc = refl
from before (row ∷ rows) class method desc =
    let ih : first_at ((before ++ row ∷ []) ++ rows) method desc (places_from (length (before ++ row ∷ [])) rows class) ≡ row_for rows class method desc =
    from (before ++ row ∷ []) rows class method desc in
    let lists : (before ++ row ∷ []) ++ rows ≡ before ++ row ∷ rows = append_assoc before (row ∷ []) rows in
    let lengths : length (before ++ row ∷ []) ≡ suc (length before) = length-append before (row ∷ []) ∙ omega arith in
    let rest : first_at (before ++ row ∷ rows) method desc (places_from (suc (length before)) rows class) ≡ row_for rows class method desc = rw (lists, lengths) at ih in
    row_places (before ++ row ∷ rows) method desc (length before) row.classes class (places_from (suc (length before)) rows class)
    ∙ rw (slice_get-at before rows row, rest) (row_step class method desc row rows)

-- the look-up by places is the look-up over all rows
pub row_by_places : (rows : List TableRow) (class method desc : List ℕ) → first_at rows method desc (places_from 0 rows class) ≡ row_for rows class method desc
row_by_places rows class method desc = from [] rows class method desc

-- a row's places are noted behind those of the rows before it
pub row_noted : (rows : List TableRow) (i : ℕ) (row : TableRow) (classes : List (List ℕ)) (before after class : List ℕ) → i < length rows → row ≡ get_or rows i row
    → classes ≡ row.classes → before ≡ places_from 0 (take i rows) class → after ≡ before ++ place_for_each i classes class
    → after ≡ places_from 0 (take (i + 1) rows) class
row_noted rows i row classes before after class h is listed old new =
    let more : take (i + 1) rows ≡ take i rows ++ row ∷ [] = take_more rows i row h ∙ rw (← is) in
    let size : 0 + length (take i rows) ≡ i = omega (arith, length-take-le i rows (omega arith)) in
    rw more (new ∙ rw (old, listed) (sym (places_from-last 0 (take i rows) row class ∙ rw size)))

-- a row's place is noted for one class after another
pub class_noted : (place : ℕ) (listed : List (List ℕ)) (i : ℕ) (one start before after class : List ℕ) → i < length listed → one ≡ get_or listed i one
    → before ≡ start ++ place_for_each place (take i listed) class → after ≡ before ++ number_if place one class
    → after ≡ start ++ place_for_each place (take (i + 1) listed) class
class_noted place listed i one start before after class h is old new =
    let more : take (i + 1) listed ≡ take i listed ++ one ∷ [] = take_more listed i one h ∙ rw (← is) in
    rw more (rw place_for_each-last (new ∙ rw old (append_assoc start _ _)))
