-- Where labels stand, one instruction after the other.
use Rattle.std.proofs.Common.{◌≡◌, ℕ, Bool, true, false, cond, List, Option, Some, None, refl}
use Rattle.ja_assembly.specs.Members.{is_label_of}
use Rattle.ja_assembly.specs.InnerLabels.{or_else, has_given}

given_by : (a b : Option ℕ) (pc : ℕ) (test : Bool) → or_else (or_else a (cond test (Some pc) None)) b ≡ or_else a (cond test (Some pc) b)
given_by None b pc true = refl
given_by None b pc false = refl
given_by (Some place) b pc test = refl

-- the label of one more instruction
pub given_more : (a b : Option ℕ) (label : Option (List ℕ)) (name : List ℕ) (pc : ℕ) → or_else (or_else a (has_given label name pc)) b ≡ or_else a (cond (is_label_of name label) (Some pc) b)
given_more a b label name pc = given_by a b pc (is_label_of name label)

-- no label more
pub none_more : (a : Option ℕ) → or_else a None ≡ a
none_more None = refl
none_more (Some place) = refl
