-- Names of classes above a class.
use Rattle.std.proofs.Common.{◌≡◌, ℕ, zero, suc, arith, inl, inr, true, false, List, [], ◌∷◌, ◌++◌, Some, None, sym, ap, subst, ◌∙◌}
use Rattle.std.specs.Prelude.{bytes_eq, codes, Contains, slice_get}
use Rattle.std.proofs.lemmas.Slice.Eq.{bytes_eq-Decides}
use Rattle.std.proofs.lemmas.List.Elements.{Contains-append_left, Contains-append_cases}
use Rattle.ja_ir.specs.declared.head.ClassHead.{ClassHead}
use Rattle.ja_ir.specs.Lookup.{has_flag}
use Rattle.ja_supertypes.specs.Supertypes.{class_named, superclass_name, object_name, IsSuperclass}
use Rattle.ja_supertypes.specs.LibraryTypes.{IsNearest, named, inherited, AreLibraryTypes}
use Rattle.ja_operations.specs.declared.member.MemberRef.{MemberRef}
use Rattle.ja_operations.specs.Rows.{AreTried}
use Rattle.ja_operations.specs.Rows as tried
use Rattle.ja_operations.specs.Refused.{TriesThread}
use Rattle.ja_operations.specs.Targets as targets
use Rattle.ja_operations.specs.Targets.{flags_of_class, IsProperSuperclass, nearest, object, GoesAbove, BeginsAbove, BeginsAt}
use Rattle.ja_operations.proofs.OneOperation.{same_some, not_none, one_tried}

-- the nearest library superclass is no program class
pub nearest_foreign : (heads : List ClassHead) (c : ℕ) (name : List ℕ) → IsNearest heads c name → class_named heads name ≡ None
nearest_foreign heads c name (named e none) = none
nearest_foreign heads c name (inherited d e n) = nearest_foreign heads d name n

-- a program class other than java/lang/Object is a proper superclass exactly where it is one through program classes
pub program_above : (heads : List ClassHead) (c d : ℕ) (name : List ℕ) → class_named heads name ≡ Some d → bytes_eq name object_name ≡ false
    → IsProperSuperclass heads c name → IsSuperclass heads c d
program_above heads c d name e other (targets.of_program {d = x} f s) =
    let same : x ≡ d = same_some (class_named heads name) x d f e in subst (λ (y : ℕ). IsSuperclass heads c y) same s
program_above heads c d name e other (nearest n) = absurd (not_none (class_named heads name) d (nearest_foreign heads c name n) e)
program_above heads c d name e other (object o) = let yes : bytes_eq name object_name ≡ true = (bytes_eq-Decides name object_name).1 o in absurd (cc (yes, other))

-- a library class other than java/lang/Object is one exactly where it is the nearest
pub library_above : (heads : List ClassHead) (c : ℕ) (name : List ℕ) → class_named heads name ≡ None → bytes_eq name object_name ≡ false
    → IsProperSuperclass heads c name → IsNearest heads c name
library_above heads c name none other (targets.of_program {d = x} f s) = absurd (not_none (class_named heads name) x none f)
library_above heads c name none other (nearest n) = n
library_above heads c name none other (object o) = let yes : bytes_eq name object_name ≡ true = (bytes_eq-Decides name object_name).1 o in absurd (cc (yes, other))

-- ---- java/lang/Thread

same_bytes : (a b : List ℕ) → a ≡ b → bytes_eq a b ≡ true
same_bytes a b e = (bytes_eq-Decides a b).1 e

not_object : object_name ≡ codes "java/lang/Thread" → ⊥
not_object e = let yes : bytes_eq object_name (codes "java/lang/Thread") ≡ true = same_bytes object_name (codes "java/lang/Thread") e in cc yes

alone : (x y : List ℕ) → Contains (x ∷ []) y → x ≡ y
alone x y (zero, below, is) = is
alone x y (suc k, below, is) = absurd (omega arith)

-- the library types of a program class have java/lang/Thread exactly where it is tried
pub tries_listed : (heads : List ClassHead) (class : List ℕ) (c : ℕ) (names : List (List ℕ)) → class_named heads class ≡ Some c → AreLibraryTypes heads c names
    → Contains names (codes "java/lang/Thread") → TriesThread heads class
tries_listed heads class c names e types listed = record {
  names = names ++ object_name ∷ [];
  tried = tried.of_program e types;
  listed = Contains-append_left names (object_name ∷ []) (codes "java/lang/Thread") listed;
}

pub listed_tries : (heads : List ClassHead) → ((c : ℕ) (a b : List (List ℕ)) → AreLibraryTypes heads c a → AreLibraryTypes heads c b → a ≡ b)
    → (class : List ℕ) (c : ℕ) (names : List (List ℕ)) → class_named heads class ≡ Some c → AreLibraryTypes heads c names
    → TriesThread heads class → Contains names (codes "java/lang/Thread")
listed_tries heads law class c names e types t =
    let same : t.names ≡ names ++ object_name ∷ [] = one_tried heads law class t.names (names ++ object_name ∷ []) t.tried (tried.of_program e types) in
    let among : Contains (names ++ object_name ∷ []) (codes "java/lang/Thread") = subst (λ (l : List (List ℕ)). Contains l (codes "java/lang/Thread")) same t.listed in
    elim (Contains-append_cases names (object_name ∷ []) (codes "java/lang/Thread") among) [
      | inl here ↦ here
      | inr last ↦ absurd (not_object (alone object_name (codes "java/lang/Thread") last))
    ]

-- the same of a library class: it is java/lang/Thread itself
pub tries_itself : (heads : List ClassHead) (class : List ℕ) → class_named heads class ≡ None → class ≡ codes "java/lang/Thread" → TriesThread heads class
tries_itself heads class none is = record {
  names = class ∷ object_name ∷ [];
  tried = tried.of_library none;
  listed = (0, omega arith, is);
}

pub itself_tries : (heads : List ClassHead) → ((c : ℕ) (a b : List (List ℕ)) → AreLibraryTypes heads c a → AreLibraryTypes heads c b → a ≡ b)
    → (class : List ℕ) → class_named heads class ≡ None → TriesThread heads class → class ≡ codes "java/lang/Thread"
itself_tries heads law class none t =
    let same : t.names ≡ class ∷ object_name ∷ [] = one_tried heads law class t.names (class ∷ object_name ∷ []) t.tried (tried.of_library none) in
    first (subst (λ (l : List (List ℕ)). Contains l (codes "java/lang/Thread")) same t.listed)
  where
    first : Contains (class ∷ object_name ∷ []) (codes "java/lang/Thread") → class ≡ codes "java/lang/Thread"
    first (zero, below, is) = is
    first (suc zero, below, is) = absurd (not_object is)
    first (suc (suc k), below, is) = absurd (omega arith)

-- ---- special calls

-- the flags of a class that is there
flags_read : (heads : List ClassHead) (c : ℕ) (head : ClassHead) → slice_get heads c ≡ Some head → flags_of_class (slice_get heads c) ≡ head.flags
flags_read heads c head e = ap flags_of_class e

pub goes : (heads : List ClassHead) (c : ℕ) (member : MemberRef) (head : ClassHead) → slice_get heads c ≡ Some head
    → bytes_eq member.name (codes "<init>") ≡ false → has_flag head.flags 0x0020 ≡ true → IsProperSuperclass heads c member.class → GoesAbove heads c member
goes heads c member head e init flag proper = record {
  no_constructor = λ is. let yes : bytes_eq member.name (codes "<init>") ≡ true = same_bytes member.name (codes "<init>") is in cc (yes, init);
  flag = ap (λ (flags : ℕ). has_flag flags 0x0020) (flags_read heads c head e) ∙ flag;
  proper = proper;
}

pub no_flag : (heads : List ClassHead) (c : ℕ) (member : MemberRef) (head : ClassHead) → slice_get heads c ≡ Some head → has_flag head.flags 0x0020 ≡ false
    → GoesAbove heads c member → ⊥
no_flag heads c member head e flag g =
    let no : true ≡ false = sym g.flag ∙ ap (λ (flags : ℕ). has_flag flags 0x0020) (flags_read heads c head e) ∙ flag in cc no

pub constructor_stays : (heads : List ClassHead) (c : ℕ) (member : MemberRef) → bytes_eq member.name (codes "<init>") ≡ true → GoesAbove heads c member → ⊥
constructor_stays heads c member is g = g.no_constructor ((bytes_eq-Decides member.name (codes "<init>")).0 is)

pub begins_above : (heads : List ClassHead) (c : ℕ) (member : MemberRef) (head : ClassHead) (class : List ℕ) → slice_get heads c ≡ Some head → head.superclass ≡ Some class
    → GoesAbove heads c member → BeginsAt heads c member class
begins_above heads c member head class e s g = targets.above (record { above = g; direct = ap superclass_name e ∙ s })

pub begins_named : (heads : List ClassHead) (c : ℕ) (member : MemberRef) → (GoesAbove heads c member → ⊥) → BeginsAt heads c member member.class
begins_named heads c member stays = targets.as_named (λ class b. stays b.above)

pub begins_without : (heads : List ClassHead) (c : ℕ) (member : MemberRef) (head : ClassHead) → slice_get heads c ≡ Some head → head.superclass ≡ None
    → BeginsAt heads c member member.class
begins_without heads c member head e s = targets.as_named (λ class b. not_none (superclass_name (slice_get heads c)) class (ap superclass_name e ∙ s) b.direct)
