-- The table of opcodes, row by row.
use Rattle.std.proofs.Common.{◌≡◌, ℕ, zero, suc, ◌+◌, ◌<◌, ◌≤◌, inl, inr, Bool, true, false, ◌&&◌, List, [], ◌∷◌, get_or, map, Option, Some, None, cond, not, leb, bytes_eq, refl, ap, ◌∙◌, arith}
use Rattle.std.proofs.lemmas.Bool.{and_parts, cases_lt, leb-true, lt-leb}
use Rattle.std.proofs.lemmas.List.{length-map}
use Rattle.std.specs.List.{position, prefix_len}
use Rattle.ja_code.specs.declared.form.Form.{Form}
use Rattle.ja_code.specs.declared.behaviour.Behaviour.{Behaviour}
use Rattle.ja_code.specs.declared.table.Row.{Row}
use Rattle.ja_code.specs.Opcode.{form_in, form_at}
use Rattle.ja_code.specs.Opcode as forms
use Rattle.ja_code.specs.Behaviour.{behaviour_in, behaviour_at}
use Rattle.ja_code.specs.Behaviour as behaviours

-- the values of f at count numbers from start on
abbrev pub values : {Y : Type 0} → (ℕ → Y) → ℕ → ℕ → List Y
values f start zero = []
values f start (suc count) = f start ∷ values f (suc start) count

values_at : {Y : Type 0} (f : ℕ → Y) (start count i : ℕ) (d : Y) → i < count → get_or (values f start count) i d ≡ f (start + i)
values_at f start zero i d below = absurd (omega arith)
values_at f start (suc count) zero d below = ap f (omega arith)
values_at f start (suc count) (suc i) d below = values_at f (suc start) count i d (omega arith) ∙ ap f (omega arith)

-- the forms of a table
pub form_in_row : (xs : List Row) (i : ℕ) (d : Row) → Some (get_or xs i d).form ≡ get_or (map (λ (r : Row). Some r.form) xs) i (Some d.form)
form_in_row [] i d = refl
form_in_row (x ∷ xs) zero d = refl
form_in_row (x ∷ xs) (suc i) d = form_in_row xs i d

pub form_by_number : (i : ℕ) (d : Option Form) → i < 202 → get_or (values form_at 0 202) i d ≡ form_at i
form_by_number i d below = values_at form_at 0 202 i d below ∙ ap form_at (omega arith)

-- what the opcodes of a table do
pub behaviour_in_row : (xs : List Row) (i : ℕ) (d : Row) → (get_or xs i d).behaviour ≡ get_or (map (λ (r : Row). r.behaviour) xs) i d.behaviour
behaviour_in_row [] i d = refl
behaviour_in_row (x ∷ xs) zero d = refl
behaviour_in_row (x ∷ xs) (suc i) d = behaviour_in_row xs i d

pub behaviour_by_number : (i : ℕ) (d : Option Behaviour) → i < 202 → get_or (values behaviour_at 0 202) i d ≡ behaviour_at i
behaviour_by_number i d below = values_at behaviour_at 0 202 i d below ∙ ap behaviour_at (omega arith)

-- the numbers of a table
abbrev pub itself : ℕ → ℕ
itself n = n

pub number_in_row : (xs : List Row) (i : ℕ) (d : Row) → (get_or xs i d).number ≡ get_or (map (λ (r : Row). r.number) xs) i d.number
number_in_row [] i d = refl
number_in_row (x ∷ xs) zero d = refl
number_in_row (x ∷ xs) (suc i) d = number_in_row xs i d

pub number_by_number : (i : ℕ) (d : ℕ) → i < 202 → get_or (values itself 0 202) i d ≡ i
number_by_number i d below = values_at itself 0 202 i d below ∙ omega arith

-- the mnemonics of a table
pub mnemonic_in_row : (xs : List Row) (i : ℕ) (d : Row) → (get_or xs i d).mnemonic.now ≡ get_or (map (λ (r : Row). r.mnemonic.now) xs) i d.mnemonic.now
mnemonic_in_row [] i d = refl
mnemonic_in_row (x ∷ xs) zero d = refl
mnemonic_in_row (x ∷ xs) (suc i) d = mnemonic_in_row xs i d

-- how many mnemonics stand before a given one
before_row : (xs : List Row) (text : List ℕ) → prefix_len (λ (r : Row). not (bytes_eq r.mnemonic.now text)) xs ≡ prefix_len (λ m. not (bytes_eq m text)) (map (λ (r : Row). r.mnemonic.now) xs)
before_row [] text = refl
before_row (x ∷ xs) text = ap (λ n. cond (not (bytes_eq x.mnemonic.now text)) (1 + n) 0) (before_row xs text)

-- the place of a mnemonic among those of a table
pub place_of_row : (xs : List Row) (text : List ℕ) → position (λ (r : Row). bytes_eq r.mnemonic.now text) xs ≡ position (λ m. bytes_eq m text) (map (λ (r : Row). r.mnemonic.now) xs)
place_of_row xs text = rw (before_row xs text, ← length-map xs (λ (r : Row). r.mnemonic.now)) refl

skipped : {X : Type 0} (test : Bool) (x y : Option X) → test ≡ false → y ≡ None → cond test x y ≡ None
skipped true x y e none = absurd cc
skipped false x y e none = none

-- whether no run of forms goes past 201
abbrev forms_within : List forms.Run → Bool
forms_within [] = true
forms_within (r ∷ rs) = leb r.last 201 && forms_within rs

past_forms : (rs : List forms.Run) (op : ℕ) → forms_within rs ≡ true → 201 < op → form_in rs op ≡ None
past_forms [] op within above = refl
past_forms (r ∷ rs) op within above =
    let parts : (leb r.last 201 ≡ true) × (forms_within rs ≡ true) = and_parts (leb r.last 201) (forms_within rs) within in
    let low : r.last < op = omega (arith, leb-true r.last 201 parts.0) in
    skipped (leb op r.last) (Some r.form) (form_in rs op) (lt-leb op r.last low) (past_forms rs op parts.1 above)

-- no opcode above 201 has a form
pub no_form : (op : ℕ) → 201 < op → form_at op ≡ None
unfolding form_at
no_form op above = past_forms forms.runs op refl above

-- what has a form is an opcode
pub has_form : (op : ℕ) (form : Form) → form_at op ≡ Some form → op < 202
has_form op form e = elim (cases_lt op 202) [
  | inl below ↦ below
  | inr past ↦
      let none : form_at op ≡ None = no_form op (omega arith) in
      absurd cc
]

-- whether no run of behaviours goes past 201
abbrev behaviours_within : List behaviours.Run → Bool
behaviours_within [] = true
behaviours_within (r ∷ rs) = leb r.last 201 && behaviours_within rs

past_behaviours : (rs : List behaviours.Run) (op : ℕ) → behaviours_within rs ≡ true → 201 < op → behaviour_in rs op ≡ None
past_behaviours [] op within above = refl
past_behaviours (r ∷ rs) op within above =
    let parts : (leb r.last 201 ≡ true) × (behaviours_within rs ≡ true) = and_parts (leb r.last 201) (behaviours_within rs) within in
    let low : r.last < op = omega (arith, leb-true r.last 201 parts.0) in
    skipped (leb op r.last) (r.does op) (behaviour_in rs op) (lt-leb op r.last low) (past_behaviours rs op parts.1 above)

-- no opcode above 201 does anything
pub no_behaviour : (op : ℕ) → 201 < op → behaviour_at op ≡ None
unfolding behaviour_at
no_behaviour op above = past_behaviours behaviours.runs op refl above
