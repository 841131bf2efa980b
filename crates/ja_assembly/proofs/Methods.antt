-- The fields and the methods of items that stand one behind the other.
use Rattle.std.proofs.Common.{◌≡◌, ◌+◌, List, [], ◌∷◌, ◌++◌, length, Option, Some, None, refl, ap, arith}
use Rattle.ja_listing.specs.declared.item.Item.{Item}
use Rattle.ja_listing.specs.declared.item.Item.TheVariants.{Field, Method, Initializer, Try, Instruction}
use Rattle.ja_assembly.specs.Members.{Member, Labelled, Range, Body, fields, methods, instructions, ranges, code_size}
use Rattle.ja_assembly.specs.Unwritable.{last_of}

pub fields_append : (xs ys : List Item) → fields (xs ++ ys) ≡ fields xs ++ fields ys
fields_append [] ys = refl
fields_append (Field flags name desc ∷ xs) ys = ap (λ (ms : List Member). record { flags = flags; name = name; desc = desc } ∷ ms) (fields_append xs ys)
fields_append (Method flags name desc frame ∷ xs) ys = fields_append xs ys
fields_append (Initializer ∷ xs) ys = fields_append xs ys
fields_append (Try start end handler catch ∷ xs) ys = fields_append xs ys
fields_append (Instruction label opcode operand ∷ xs) ys = fields_append xs ys

pub size_append : (xs ys : List Labelled) → code_size (xs ++ ys) ≡ code_size xs + code_size ys
size_append [] ys = omega arith
size_append (x ∷ xs) ys = omega (arith, size_append xs ys)

-- ---- instructions and entries of the exception table, up to the next method

none_left : {A : Type 0} (x : A) (xs : List A) → x ∷ xs ≡ [] → ⊥
none_left x xs h = cc

pub instructions_more : (xs ys : List Item) → methods xs ≡ [] → instructions (xs ++ ys) ≡ instructions xs ++ instructions ys
instructions_more [] ys h = refl
instructions_more (Field flags name desc ∷ xs) ys h = instructions_more xs ys h
instructions_more (Method flags name desc frame ∷ xs) ys h = absurd (none_left _ _ h)
instructions_more (Initializer ∷ xs) ys h = instructions_more xs ys h
instructions_more (Try start end handler catch ∷ xs) ys h = instructions_more xs ys h
instructions_more (Instruction label opcode operand ∷ xs) ys h =
    ap (λ (is : List Labelled). record { label = label; opcode = opcode; operand = operand } ∷ is) (instructions_more xs ys h)

pub ranges_more : (xs ys : List Item) → methods xs ≡ [] → ranges (xs ++ ys) ≡ ranges xs ++ ranges ys
ranges_more [] ys h = refl
ranges_more (Field flags name desc ∷ xs) ys h = ranges_more xs ys h
ranges_more (Method flags name desc frame ∷ xs) ys h = absurd (none_left _ _ h)
ranges_more (Initializer ∷ xs) ys h = ranges_more xs ys h
ranges_more (Try start end handler catch ∷ xs) ys h =
    ap (λ (rs : List Range). record { start = start; end = end; handler = handler; catch = catch } ∷ rs) (ranges_more xs ys h)
ranges_more (Instruction label opcode operand ∷ xs) ys h = ranges_more xs ys h

no_method : (b : Body) (bs : List Body) → [] ≡ b ∷ bs → ⊥
no_method b bs h = cc

pub instructions_kept : (xs ys : List Item) (b : Body) (bs : List Body) → methods xs ≡ b ∷ bs → instructions (xs ++ ys) ≡ instructions xs
instructions_kept [] ys b bs h = absurd (no_method b bs h)
instructions_kept (Field flags name desc ∷ xs) ys b bs h = instructions_kept xs ys b bs h
instructions_kept (Method flags name desc frame ∷ xs) ys b bs h = refl
instructions_kept (Initializer ∷ xs) ys b bs h = instructions_kept xs ys b bs h
instructions_kept (Try start end handler catch ∷ xs) ys b bs h = instructions_kept xs ys b bs h
instructions_kept (Instruction label opcode operand ∷ xs) ys b bs h =
    ap (λ (is : List Labelled). record { label = label; opcode = opcode; operand = operand } ∷ is) (instructions_kept xs ys b bs h)

pub ranges_kept : (xs ys : List Item) (b : Body) (bs : List Body) → methods xs ≡ b ∷ bs → ranges (xs ++ ys) ≡ ranges xs
ranges_kept [] ys b bs h = absurd (no_method b bs h)
ranges_kept (Field flags name desc ∷ xs) ys b bs h = ranges_kept xs ys b bs h
ranges_kept (Method flags name desc frame ∷ xs) ys b bs h = refl
ranges_kept (Initializer ∷ xs) ys b bs h = ranges_kept xs ys b bs h
ranges_kept (Try start end handler catch ∷ xs) ys b bs h =
    ap (λ (rs : List Range). record { start = start; end = end; handler = handler; catch = catch } ∷ rs) (ranges_kept xs ys b bs h)
ranges_kept (Instruction label opcode operand ∷ xs) ys b bs h = ranges_kept xs ys b bs h

-- ---- methods

-- a method behind which items stand
abbrev pub extended : Body → List Item → Body
extended b ys = record { member = b.member; frame = b.frame; instructions = b.instructions ++ instructions ys; ranges = b.ranges ++ ranges ys }

-- methods behind which items stand
abbrev pub with_more : List Body → List Item → List Body
with_more [] ys = methods ys
with_more (b ∷ []) ys = extended b ys ∷ methods ys
with_more (b ∷ c ∷ bs) ys = b ∷ with_more (c ∷ bs) ys

pub methods_append : (xs ys : List Item) → methods (xs ++ ys) ≡ with_more (methods xs) ys
methods_append [] ys = refl
methods_append (Field flags name desc ∷ xs) ys = methods_append xs ys
methods_append (Method flags name desc frame ∷ xs) ys = by (methods_append xs ys) (methods xs) refl
  where
    by : methods (xs ++ ys) ≡ with_more (methods xs) ys → (ms : List Body) → methods xs ≡ ms → methods (Method flags name desc frame ∷ (xs ++ ys)) ≡ with_more (methods (Method flags name desc frame ∷ xs)) ys
    by others [] e = rw (others, instructions_more xs ys e, ranges_more xs ys e, e) refl
    by others (b ∷ bs) e = rw (others, instructions_kept xs ys b bs e, ranges_kept xs ys b bs e, e) refl
methods_append (Initializer ∷ xs) ys = methods_append xs ys
methods_append (Try start end handler catch ∷ xs) ys = methods_append xs ys
methods_append (Instruction label opcode operand ∷ xs) ys = methods_append xs ys

pub length_more : (bs : List Body) (ys : List Item) → length (with_more bs ys) ≡ length bs + length (methods ys)
length_more [] ys = omega arith
length_more (b ∷ []) ys = omega arith
length_more (b ∷ c ∷ bs) ys = omega (arith, length_more (c ∷ bs) ys)

-- the last method, where no method begins among the items behind
abbrev pub extended_last : Option Body → List Item → Option Body
extended_last None ys = None
extended_last (Some b) ys = Some (extended b ys)

pub last_more : (bs : List Body) (ys : List Item) → methods ys ≡ [] → last_of (with_more bs ys) ≡ extended_last (last_of bs) ys
last_more [] ys h = rw h refl
last_more (b ∷ []) ys h = rw h refl
last_more (b ∷ c ∷ []) ys h = rw h refl
last_more (b ∷ c ∷ d ∷ bs) ys h = last_more (c ∷ d ∷ bs) ys h

-- and where one begins
pub last_new : (bs : List Body) (ys : List Item) (m : Body) → methods ys ≡ m ∷ [] → last_of (with_more bs ys) ≡ Some m
last_new [] ys m h = rw h refl
last_new (b ∷ []) ys m h = rw h refl
last_new (b ∷ c ∷ []) ys m h = rw h refl
last_new (b ∷ c ∷ d ∷ bs) ys m h = last_new (c ∷ d ∷ bs) ys m h
