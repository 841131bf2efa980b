-- The names and descriptors of the methods of classes.
use Rattle.std.specs.Prelude.{ℕ, ◌&&◌, ◌==◌, Bool, not, bytes_eq, List, [], ◌∷◌, ◌++◌, filter, map, slice_get}
use Rattle.ja_base.specs.declared.id.ClassId.{ClassId}
use Rattle.ja_ir.specs.declared.head.ClassHead.{ClassHead}
use Rattle.ja_ir.specs.declared.head.HeadMethod.{HeadMethod}
use Rattle.ja_ir.specs.declared.class.Selection.{Selection}
use Rattle.ja_hier.specs.LookUps.{methods_of}
use Rattle.ja_heads.specs.declared.signature.Signature.{Signature}

-- the numbers of classes
abbrev pub numbers_of : List ClassId → List ℕ
numbers_of ids = map (λ (id : ClassId). id.0) ids

-- class c first, and then the others in their order
abbrev pub own_first : (c : ℕ) → List ℕ → List ℕ
own_first c classes = c ∷ filter (λ d. not (d == c)) classes

-- both have one name and one descriptor
abbrev pub is_same : (a b : Signature) → Bool
is_same a b = bytes_eq a.name b.name && bytes_eq a.desc b.desc

-- the list without repeats: each signature stands where it is first seen
abbrev pub first_seen : List Signature → List Signature
first_seen [] = []
first_seen (s ∷ later) = s ∷ filter (λ t. not (is_same s t)) (first_seen later)

-- the name and descriptor of a method
abbrev pub signature_of : HeadMethod → Signature
signature_of method = record { name = method.name; desc = method.desc }

-- the name and descriptor of a selection
abbrev pub selected : Selection → Signature
selected selection = record { name = selection.name; desc = selection.desc }

-- the signatures of the methods that class c declares, in declared order
abbrev pub signatures_in : List ClassHead → (c : ℕ) → List Signature
signatures_in heads c = map signature_of (methods_of (slice_get heads c))

-- the signatures of the methods that these classes declare, one class after another
abbrev pub signatures_of : List ClassHead → (classes : List ℕ) → List Signature
signatures_of heads [] = []
signatures_of heads (c ∷ classes) = signatures_in heads c ++ signatures_of heads classes
