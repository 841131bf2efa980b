-- Which fields and bags an object of a token, or what a field refers to, may reach.
use Rattle.std.specs.Prelude.{◌≡◌, ℕ, true, List, [], ◌∷◌}
use Rattle.ja_ir.specs.declared.program.Parts.{Parts}
use Rattle.ja_ir.specs.Tokens.{absorbs}
use Rattle.ja_facts.specs.ClassSets.{Fact as ClassFact, InField, Spans, HasField}

-- a field of a program class, static or not, or the bags of the objects of an absorbing token
pub data Cell : Type 0 where
  OfField : (f : ℕ) → Cell
  OfBag : (t : ℕ) → Cell

-- what is said of what tokens and fields hold
pub data Fact : Type 0 where
  -- an object of token t may reach a cell; what field f refers to may
  TokenHolds : (t : ℕ) (c : Cell) → Fact
  FieldHolds : (f : ℕ) (c : Cell) → Fact

-- from these facts comes this fact, for what objects lead to and the sets of fields that C tells
pub data Rule (p : Parts) (C : ClassFact → Type 0) : List Fact → Fact → Type 0 where
  holds_field : {t u f : ℕ} → C (Spans t u) → HasField p u f → Rule p C [] (TokenHolds t (OfField f))
  holds_bag : {t u : ℕ} → C (Spans t u) → absorbs p u ≡ true → Rule p C [] (TokenHolds t (OfBag u))
  of_field : {f t : ℕ} {c : Cell} → C (InField f t) → Rule p C (TokenHolds t c ∷ []) (FieldHolds f c)
