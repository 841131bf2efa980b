-- What is read from the tables at a class.
use Rattle.std.proofs.Common.{rules, ◌≡◌, ℕ, ◌<◌, inl, inr, Bool, true, List, [], length, sym, subst}
use Rattle.std.specs.Prelude.{Option, Some, None, IfSome, slice_get}
use Rattle.std.proofs.lemmas.Option.{get_or_from_slice_get}
use Rattle.ja_sets.specs.Sets.{Has}
use Rattle.ja_ir.specs.declared.head.ClassHead.{ClassHead}
use Rattle.ja_supertypes.specs.InnerIndex.{AreTops, IsTop, Lists, Shows}
use Rattle.ja_supertypes.specs.Supertypes.{superclass_of, AreSupertypes, IsSupertype}
use Rattle.ja_supertypes.proofs.Falls.{superclass-target}
use Rattle.ja_supertypes.proofs.Up.{proper-inside}

pub shown-read : (heads : List ClassHead) (R : ℕ → ℕ → Type 0) (sets : List (List Bool)) (c d : ℕ) (row : List Bool) (t : Bool) → Shows heads R sets → c < length heads → slice_get sets c ≡ Some row
    → (t ≡ true → Has row d) × (Has row d → t ≡ true) → (t ≡ true → R c d) × (R c d → t ≡ true)
shown-read heads R sets c d row t shows lt read test = (
  λ e. ((shows.each c lt).exact d).0 (subst (λ (r : List Bool). Has r d) (sym (get_or_from_slice_get sets c row [] read)) (test.0 e)),
  λ rel. test.1 (subst (λ (r : List Bool). Has r d) (get_or_from_slice_get sets c row [] read) (((shows.each c lt).exact d).1 rel)),
)

pub supertypes-listed : (heads : List ClassHead) (lists : List (List ℕ)) (c : ℕ) (xs : List ℕ) → Lists heads (IsSupertype heads) lists → slice_get lists c ≡ Some xs → c < length heads → AreSupertypes heads c xs
supertypes-listed heads lists c xs are read lt =
    subst (AreSupertypes heads c) (get_or_from_slice_get lists c xs [] read) (record { ascending = are.increasing c lt; exact = λ d. are.exact c d lt })

pub top-read : (heads : List ClassHead) (tops : List ℕ) (c top : ℕ) → AreTops heads tops → slice_get tops c ≡ Some top → c < length heads → IsTop heads c top
top-read heads tops c top are read lt = subst (IsTop heads c) (get_or_from_slice_get tops c top 0 read) (are.each c lt)

pub top-inside : (heads : List ClassHead) (c top : ℕ) → IsTop heads c top → c < length heads → top < length heads
top-inside heads c top is lt = elim is.above [
  | inl same ↦ subst (λ (x : ℕ). x < length heads) same lt
  | inr super ↦ proper-inside heads c top super
]

some-inside : (heads : List ClassHead) (c : ℕ) (o : Option ℕ) → superclass_of heads c ≡ o → IfSome o (λ s. s < length heads)
some-inside heads c None e = search rules
some-inside heads c (Some s) e = superclass-target heads c s e

pub superclass-inside : (heads : List ClassHead) (c : ℕ) (o : Option ℕ) → o ≡ superclass_of heads c → IfSome o (λ s. s < length heads)
superclass-inside heads c o e = some-inside heads c o (sym e)
