-- The first row of names.
use Rattle.std.proofs.Common.{◌≡◌, ℕ, List, [], ◌∷◌, ◌++◌, Option, Some, None, refl, ap, ◌∙◌}
use Rattle.std.specs.Option.{option_or}
use Rattle.ja_lib.specs.declared.row.TableRow.{TableRow}
use Rattle.ja_lib.specs.Rows.{row_for}
use Rattle.ja_operations.specs.Rows.{first_row}

pub or_none : {A : Type 0} (o : Option A) → option_or o None ≡ o
or_none None = refl
or_none (Some x) = refl

or_or : {A : Type 0} (o p q : Option A) → option_or o (option_or p q) ≡ option_or (option_or o p) q
or_or None p q = refl
or_or (Some x) p q = refl

-- a last name says something where the names before it say nothing
pub first_row_append : (rows : List TableRow) (names : List (List ℕ)) (last method desc : List ℕ)
    → first_row rows (names ++ last ∷ []) method desc ≡ option_or (first_row rows names method desc) (row_for rows last method desc)
first_row_append rows [] last method desc = or_none (row_for rows last method desc)
first_row_append rows (name ∷ names) last method desc =
    ap (option_or (row_for rows name method desc)) (first_row_append rows names last method desc)
    ∙ or_or (row_for rows name method desc) (first_row rows names method desc) (row_for rows last method desc)
