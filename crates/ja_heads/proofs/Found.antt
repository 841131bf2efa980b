-- What a look-up found is declared, with the name and descriptor that were asked for.
use Rattle.std.proofs.Common.{◌≡◌, ℕ, ◌<◌, Bool, true, false, not, ◌&&◌, List, [], length, get_or, refl, sym, ap, subst}
use Rattle.std.specs.Prelude.{Option, Some, None, bytes_eq, slice_get}
use Rattle.std.proofs.lemmas.Bool.{and_parts, not-true, not-false}
use Rattle.std.proofs.lemmas.Slice.Eq.{bytes_eq-Decides}
use Rattle.std.proofs.lemmas.List.Quantifiers.{position-Some}
use Rattle.std.proofs.lemmas.Option.{slice_get-get_or}
use Rattle.ja_ir.specs.declared.head.ClassHead.{ClassHead}
use Rattle.ja_ir.specs.declared.head.HeadMethod.{HeadMethod}
use Rattle.ja_ir.specs.declared.class.MethodAt.{MethodAt}
use Rattle.ja_ir.specs.declared.class.MethodAt.TheVariants.{Program, Abstract, Library}
use Rattle.ja_ir.specs.Lookup.{is_abstract, is_member, is_static}
use Rattle.ja_hier.specs.declared.skip.Skip.{Skip}
use Rattle.ja_hier.specs.declared.skip.Skip.TheVariants.{NotVirtual, NoDefault}
use Rattle.ja_hier.specs.Faults.{is_private, is_virtual}
use Rattle.ja_hier.specs.LookUps.{methods_of, method_number, method_in, skips, answer_by, answer_at, flags_of, ClassSearch, declared, inherited, at_end, FindsDefault, one, nothing_left, several, Finds, in_class, as_default, in_no_class}

-- method k of class d is this one, with this name and descriptor, and the look-up does not pass over it
pub record IsFoundAt (heads : List ClassHead) (skip : Skip) (name desc : List ℕ) (d k : ℕ) (method : HeadMethod) : Type 0 where
  pub at : slice_get (methods_of (slice_get heads d)) k ≡ Some method
  pub name_is : method.name ≡ name
  pub desc_is : method.desc ≡ desc
  pub kept : skips skip method.flags ≡ false

-- some such method has this number, and is abstract or not
pub record IsFoundAs (heads : List ClassHead) (skip : Skip) (name desc : List ℕ) (abstract : Bool) (m : ℕ) : Type 0 where
  pub d : ℕ
  pub k : ℕ
  pub method : HeadMethod
  pub found : IsFoundAt heads skip name desc d k method
  pub code : is_abstract method.flags ≡ abstract
  pub number : m ≡ method_number heads d k

abbrev pub IsFoundAnswer : List ClassHead → Skip → (name desc : List ℕ) → MethodAt → Type 0
IsFoundAnswer heads skip name desc (Program m) = IsFoundAs heads skip name desc false m.0
IsFoundAnswer heads skip name desc (Abstract m) = IsFoundAs heads skip name desc true m.0
IsFoundAnswer heads skip name desc Library = Unit {0}

none : HeadMethod
none = record { name = []; desc = []; flags = 0 }

found-in : (heads : List ClassHead) (skip : Skip) (name desc : List ℕ) (d k : ℕ) → method_in heads skip name desc d ≡ Some k → (method : HeadMethod) × IsFoundAt heads skip name desc d k method
found-in heads skip name desc d k e =
    let methods : List HeadMethod = methods_of (slice_get heads d) in
    let place : (k < length methods) × ((λ (method : HeadMethod). bytes_eq method.name name && bytes_eq method.desc desc && not (skips skip method.flags)) (get_or methods k none) ≡ true)
    × ((j : ℕ) → j < k → (λ (method : HeadMethod). bytes_eq method.name name && bytes_eq method.desc desc && not (skips skip method.flags)) (get_or methods j none) ≡ false) =
    position-Some (λ (method : HeadMethod). bytes_eq method.name name && bytes_eq method.desc desc && not (skips skip method.flags)) methods k none e in
    let method : HeadMethod = get_or methods k none in
    let parts : ((bytes_eq method.name name && bytes_eq method.desc desc) ≡ true) × (not (skips skip method.flags) ≡ true) =
    and_parts (bytes_eq method.name name && bytes_eq method.desc desc) (not (skips skip method.flags)) place.1 in
    let names : (bytes_eq method.name name ≡ true) × (bytes_eq method.desc desc ≡ true) = and_parts (bytes_eq method.name name) (bytes_eq method.desc desc) parts.0 in (
      method,
      record {
        at = slice_get-get_or methods k none place.0;
        name_is = (bytes_eq-Decides method.name name).0 names.0;
        desc_is = (bytes_eq-Decides method.desc desc).0 names.1;
        kept = not-true (skips skip method.flags) parts.1;
      },
    )

found-by : (heads : List ClassHead) (skip : Skip) (name desc : List ℕ) (d k : ℕ) (method : HeadMethod) (abstract : Bool) → IsFoundAt heads skip name desc d k method → is_abstract method.flags ≡ abstract
    → IsFoundAnswer heads skip name desc (answer_by abstract (method_number heads d k))
found-by heads skip name desc d k method true f e = record { d = d; k = k; method = method; found = f; code = e; number = refl }
found-by heads skip name desc d k method false f e = record { d = d; k = k; method = method; found = f; code = e; number = refl }

found-at : (heads : List ClassHead) (skip : Skip) (name desc : List ℕ) (d k : ℕ) → method_in heads skip name desc d ≡ Some k → IsFoundAnswer heads skip name desc (answer_at heads d k)
found-at heads skip name desc d k e =
    let f : (method : HeadMethod) × IsFoundAt heads skip name desc d k method = found-in heads skip name desc d k e in
    subst (λ (o : Option HeadMethod). IsFoundAnswer heads skip name desc (answer_by (is_abstract (flags_of o)) (method_number heads d k))) (sym f.1.at)
    (found-by heads skip name desc d k f.0 (is_abstract f.0.flags) f.1 refl)

abbrev IsFoundSome : List ClassHead → Skip → (name desc : List ℕ) → Option MethodAt → Type 0
IsFoundSome heads skip name desc None = Unit {0}
IsFoundSome heads skip name desc (Some target) = IsFoundAnswer heads skip name desc target

found-above : (heads : List ClassHead) (skip : Skip) (name desc : List ℕ) (c : ℕ) (o : Option MethodAt) → ClassSearch heads skip name desc c o → IsFoundSome heads skip name desc o
found-above heads skip name desc c o (declared {c = d} {k = k} e) = found-at heads skip name desc d k e
found-above heads skip name desc c o (inherited {d = d} e s t) = found-above heads skip name desc d o t
found-above heads skip name desc c o (at_end e s) = tt

-- what may be inherited from an interface as code is passed over by no look-up, and has code
default-kept : (skip : Skip) (flags : ℕ) → skips NoDefault flags ≡ false → (skips skip flags ≡ false) × (is_abstract flags ≡ false)
default-kept skip flags e =
    let parts : (is_virtual flags ≡ true) × (not (is_abstract flags) ≡ true) = and_parts (is_virtual flags) (not (is_abstract flags)) (not-false (is_virtual flags && not (is_abstract flags)) e) in
    (by skip parts.0, not-true (is_abstract flags) parts.1)
  where
    by : (s : Skip) → is_virtual flags ≡ true → skips s flags ≡ false
    by NotVirtual v = ap not v
    by NoDefault v = e
    by _ v = refl

abbrev IsFoundNumber : List ClassHead → Skip → (name desc : List ℕ) → Option ℕ → Type 0
IsFoundNumber heads skip name desc None = Unit {0}
IsFoundNumber heads skip name desc (Some m) = IsFoundAs heads skip name desc false m

found-default : (heads : List ClassHead) (skip : Skip) (name desc : List ℕ) (c : ℕ) (o : Option ℕ) → FindsDefault heads name desc c o → IsFoundNumber heads skip name desc o
found-default heads skip name desc c o (one i k left only) =
    let f : (method : HeadMethod) × IsFoundAt heads NoDefault name desc i k method = found-in heads NoDefault name desc i k left.candidate.declared in
    let kept : (skips skip f.0.flags ≡ false) × (is_abstract f.0.flags ≡ false) = default-kept skip f.0.flags f.1.kept in
    record {
      d = i;
      k = k;
      method = f.0;
      found = record { at = f.1.at; name_is = f.1.name_is; desc_is = f.1.desc_is; kept = kept.0 };
      code = kept.1;
      number = refl;
    }
found-default heads skip name desc c o (nothing_left x) = tt
found-default heads skip name desc c o (several i k j l a b x) = tt

-- the answer of a look-up
pub found-answer : (heads : List ClassHead) (skip : Skip) (name desc : List ℕ) (c : ℕ) (target : MethodAt) → Finds heads skip name desc c target → IsFoundAnswer heads skip name desc target
found-answer heads skip name desc c target (in_class s) = found-above heads skip name desc c (Some target) s
found-answer heads skip name desc c target (as_default {m = m} s d) = found-default heads skip name desc c (Some m) d
found-answer heads skip name desc c target (in_no_class s d) = tt

-- what a virtual call selects is not static
pub kept-member : (flags : ℕ) → skips NotVirtual flags ≡ false → is_member flags ≡ true
kept-member flags e = (and_parts (not (is_private flags)) (not (is_static flags)) (not-false (is_virtual flags) e)).1
