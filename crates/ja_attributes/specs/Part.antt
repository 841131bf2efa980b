-- Parts of a file: what a reader has read that passes one, and what is at fault where a reader cannot.
use Rattle.std.specs.Prelude.{◌≡◌, ℕ, zero, suc, ◌+◌, ◌<◌, ◌^◌, ◌⊎◌, ⊤, Bool, true, false, IsTrue, IsFalse, List, [], ◌∷◌, length, Result, Ok, Err}
use Rattle.std.specs.Int.{w16, w32, to_be_bytes}
use Rattle.std.specs.List.{AllByRecursion}
use Rattle.ja_bytes.specs.Reading.{Reading, Passes}

-- A part of a file: the readings between which a reader passes it, with the value that it then has read, and the fault of
-- a reading from which no reader can pass it.
pub record Part (F A : Type 0) : Type 1 where
  pub passes : Reading → A → Reading → Type 0
  pub fault : Reading → F → Type 0

-- ---- parts of no bytes

-- nothing, which means this value
abbrev pub value : {F A : Type 0} → A → Part F A
value a = record { passes = λ old b new. (b ≡ a) × (new ≡ old); fault = λ old f. ⊥ }

-- nothing, which means the place where it stands
abbrev pub here : {F : Type 0} → Part F ℕ
here = record { passes = λ old at new. (at ≡ old.place) × (new ≡ old); fault = λ old f. ⊥ }

-- nothing, which means how many bytes are left
abbrev pub left : {F : Type 0} → Part F ℕ
left = record { passes = λ old len new. (len ≡ length old.rest) × (new ≡ old); fault = λ old f. ⊥ }

-- a test that must be true, or else this is the fault
abbrev pub check : {F : Type 0} → Bool → F → Part F ⊤
check test wrong = record { passes = λ old _ new. IsTrue test × (new ≡ old); fault = λ old f. IsFalse test × (f ≡ wrong) }

-- the end of the bytes; where one is left, the fault names its place
abbrev pub at_end : {F : Type 0} → (ℕ → F) → Part F ⊤
at_end left = record { passes = λ old _ new. (old.rest ≡ []) × (new ≡ old); fault = λ old f. (0 < length old.rest) × (f ≡ left old.place) }

-- ---- fields. Where bytes are missing, the fault names the place of the field's first byte

-- a field of this many bytes
abbrev pub field : {F : Type 0} → (ℕ → F) → ℕ → Part F (List ℕ)
field end len = record {
  passes = λ old bytes new. (length bytes ≡ len) × Passes old new bytes;
  fault = λ old f. (length old.rest < len) × (f ≡ end old.place);
}

-- a number of two bytes, the high byte first
abbrev pub u2 : {F : Type 0} → (ℕ → F) → Part F ℕ
u2 end = record {
  passes = λ old n new. (n < 2 ^ 16) × Passes old new (to_be_bytes w16 n);
  fault = λ old f. (length old.rest < 2) × (f ≡ end old.place);
}

-- a number of four bytes, the highest first
abbrev pub u4 : {F : Type 0} → (ℕ → F) → Part F ℕ
u4 end = record {
  passes = λ old n new. (n < 2 ^ 32) × Passes old new (to_be_bytes w32 n);
  fault = λ old f. (length old.rest < 4) × (f ≡ end old.place);
}

-- all the bytes that are left
abbrev pub rest : {F : Type 0} → Part F (List ℕ)
rest = record {
  passes = λ old bytes new. (bytes ≡ old.rest) × (new ≡ record { place = old.place + length old.rest; rest = [] });
  fault = λ old f. ⊥;
}

-- a field of this many bytes, in which this part stands: it sees these bytes alone
abbrev pub within : {F A : Type 0} → (ℕ → F) → ℕ → Part F A → Part F A
within end len part = record {
  passes = λ old a new. (bytes : List ℕ) × (inner : Reading) × (length bytes ≡ len) × Passes old new bytes
      × part.passes (record { place = old.place; rest = bytes }) a inner;
  fault = λ old f. ((length old.rest < len) × (f ≡ end old.place))
      ⊎ ((bytes : List ℕ) × (new : Reading) × (length bytes ≡ len) × Passes old new bytes
      × part.fault (record { place = old.place; rest = bytes }) f);
}

-- ---- parts made of parts

-- one part, and behind it the part that its value calls for
infixl 10 ◌>>=◌
abbrev pub ◌>>=◌ : {F A B : Type 0} → Part F A → (A → Part F B) → Part F B
◌>>=◌ {A} first second = record {
  passes = λ old b new. (a : A) × (mid : Reading) × first.passes old a mid × (second a).passes mid b new;
  fault = λ old f. first.fault old f ⊎ ((a : A) × (mid : Reading) × first.passes old a mid × (second a).fault mid f);
}

-- one part or another
abbrev pub choose : {F A : Type 0} → Bool → Part F A → Part F A → Part F A
choose true first second = first
choose false first second = second

-- one part so many times, one behind the other
abbrev pub times : {F A : Type 0} → ℕ → Part F A → Part F (List A)
times zero part = value []
times (suc n) part = do
  a ← part
  others ← times n part
  value (a ∷ others)

-- so many parts, one behind the other, each of which depends on what those before it mean together
abbrev pub fold : {F S : Type 0} → (S → Part F S) → ℕ → S → Part F S
fold step zero s = value s
fold step (suc n) s = step s >>= fold step n

-- a part whose faults are called otherwise
abbrev pub renamed : {E F A : Type 0} → (E → F) → Part E A → Part F A
renamed {E} name part = record { passes = part.passes; fault = λ old f. (e : E) × part.fault old e × (f ≡ name e) }

-- ---- what a reader answers

-- what a reader answered, seen by view, is what the part means, or its fault; it began and ended at these readings
abbrev pub Reads : {F A X : Type 0} → (X → A) → Part F A → Reading → Reading → Result X F → Type 0
Reads view part old new (Ok x) = part.passes old (view x) new
Reads view part old new (Err f) = part.fault old f

-- the same, unless memory ran out
abbrev pub ReadsUnless : {F A X : Type 0} → F → (X → A) → Part F A → Reading → Reading → Result X F → Type 0
ReadsUnless memory view part old new (Ok x) = part.passes old (view x) new
ReadsUnless memory view part old new (Err f) = (f ≡ memory) ⊎ part.fault old f

-- ---- exact parts

-- each number is a byte
abbrev pub AreBytes : List ℕ → Type 0
AreBytes bytes = AllByRecursion (λ b. b < 256) bytes

-- A part that each reading of bytes either passes or has a fault of, and never both; it is passed in one way, and has one
-- fault.
pub record IsExact {F A : Type 0} (part : Part F A) : Type 0 where
  pub forward : (old : Reading) (a : A) (new : Reading) → part.passes old a new → (bytes : List ℕ) × Passes old new bytes
  pub either : (old : Reading) → AreBytes old.rest → ((a : A) × (new : Reading) × part.passes old a new) ⊎ ((f : F) × part.fault old f)
  pub not_both : (old : Reading) (a : A) (new : Reading) (f : F) → part.passes old a new → part.fault old f → ⊥
  pub one_value : (old : Reading) (a b : A) (new other : Reading) → part.passes old a new → part.passes old b other → (a ≡ b) × (new ≡ other)
  pub one_fault : (old : Reading) (f g : F) → part.fault old f → part.fault old g → f ≡ g
