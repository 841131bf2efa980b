-- The numbers of fields and methods fit their type.
use Rattle.std.proofs.Common.{◌≡◌, ℕ, ◌+◌, ◌<◌, ◌≤◌, ◌^◌, zero, suc, Bool, false, List, [], ◌∷◌, length, take, get_or, refl, sym, ap, ◌∙◌, subst, arith}
use Rattle.std.specs.Prelude.{◌&&◌, not, Option, Some, bytes_eq, slice_get, sum_by}
use Rattle.std.proofs.lemmas.List.Quantifiers.{position-Some}
use Rattle.std.proofs.lemmas.List.Sums.{sum_by_more_le, get_or-le-sum_by}
use Rattle.std.proofs.lemmas.Option.{slice_get_within, slice_get_read, get_or_from_slice_get}
use Rattle.ja_ir.specs.declared.head.ClassHead.{ClassHead}
use Rattle.ja_ir.specs.declared.head.HeadField.{HeadField}
use Rattle.ja_ir.specs.declared.head.HeadMethod.{HeadMethod}
use Rattle.ja_ir.specs.Lookup.{is_abstract}
use Rattle.ja_hier.specs.declared.skip.Skip.{Skip}
use Rattle.ja_hier.specs.declared.starts.Member.TheVariants.{Field, Method}
use Rattle.ja_hier.specs.InnerIndex.{AreStarts}
use Rattle.ja_hier.specs.LookUps.{fields_of, methods_of, field_in, field_number, flags_of, method_in, method_number, answer_at, answer_by, skips}
use Rattle.ja_hier.specs.Members.{count_of}

-- the number of the members before a class
pub start-read : (heads : List ClassHead) (members : ClassHead → ℕ) (starts : List ℕ) (c v : ℕ) → AreStarts heads members starts → slice_get starts c ≡ Some v → c < length heads
    → v ≡ sum_by members (take c heads)
start-read heads members starts c v are read lt = sym (get_or_from_slice_get starts c v 0 read) ∙ are.each c lt

-- a number of a member is below the number of all
pub member-fits : (heads : List ClassHead) (members : ClassHead → ℕ) (c k : ℕ) (head : ClassHead) → slice_get heads c ≡ Some head → k < members head → sum_by members heads ≤ 2 ^ 26
    → sum_by members (take c heads) + k < 2 ^ 26
member-fits heads members c k head found lt most =
    let inside : c < length heads = slice_get_within heads c head found in
    let at : get_or heads c head ≡ head = get_or_from_slice_get heads c head head found in
    omega (arith, sum_by_more_le members heads c head inside, ap members at)

pub no-field : HeadField
no-field = record { name = []; desc = []; flags = 0; text = false }

pub no-method : HeadMethod
no-method = record { name = []; desc = []; flags = 0 }

pub field-inside : (heads : List ClassHead) (name desc : List ℕ) (c k : ℕ) (head : ClassHead) → slice_get heads c ≡ Some head → field_in heads name desc c ≡ Some k → k < length head.fields
field-inside heads name desc c k head found e =
    subst (λ (o : Option ClassHead). k < length (fields_of o)) found
    (position-Some (λ (field : HeadField). bytes_eq field.name name && bytes_eq field.desc desc) (fields_of (slice_get heads c)) k no-field e).0

pub method-inside : (heads : List ClassHead) (skip : Skip) (name desc : List ℕ) (c k : ℕ) (head : ClassHead) → slice_get heads c ≡ Some head → method_in heads skip name desc c ≡ Some k → k < length head.methods
method-inside heads skip name desc c k head found e =
    subst (λ (o : Option ClassHead). k < length (methods_of o)) found
    (position-Some (λ (method : HeadMethod). bytes_eq method.name name && bytes_eq method.desc desc && not (skips skip method.flags)) (methods_of (slice_get heads c)) k no-method e).0

-- a class of the list
pub class-there : (heads : List ClassHead) (c : ℕ) → c < length heads → (head : ClassHead) × (slice_get heads c ≡ Some head)
class-there [] c lt = absurd (omega arith)
class-there (h ∷ hs) zero lt = (h, refl)
class-there (h ∷ hs) (suc c) lt = class-there hs c (omega arith)

pub field-number-is : (heads : List ClassHead) (starts : List ℕ) (c k v : ℕ) → c < length heads → AreStarts heads (count_of Field) starts → slice_get starts c ≡ Some v
    → v + k ≡ field_number heads c k
field-number-is heads starts c k v lt are read = ap (λ n. n + k) (start-read heads (count_of Field) starts c v are read lt)

pub field-number-fits : (heads : List ClassHead) (starts : List ℕ) (name desc : List ℕ) (c k v : ℕ) → c < length heads → AreStarts heads (count_of Field) starts → slice_get starts c ≡ Some v
    → field_in heads name desc c ≡ Some k → sum_by (count_of Field) heads ≤ 2 ^ 26 → v + k < 2 ^ 26
field-number-fits heads starts name desc c k v lt are read e most =
    let there : (head : ClassHead) × (slice_get heads c ≡ Some head) = class-there heads c lt in
    omega (arith, start-read heads (count_of Field) starts c v are read lt, member-fits heads (count_of Field) c k there.0 there.1 (field-inside heads name desc c k there.0 there.1 e) most)

pub method-number-is : (heads : List ClassHead) (starts : List ℕ) (c k v : ℕ) → c < length heads → AreStarts heads (count_of Method) starts → slice_get starts c ≡ Some v
    → v + k ≡ method_number heads c k
method-number-is heads starts c k v lt are read = ap (λ n. n + k) (start-read heads (count_of Method) starts c v are read lt)

pub method-number-fits : (heads : List ClassHead) (starts : List ℕ) (skip : Skip) (name desc : List ℕ) (c k v : ℕ) → c < length heads → AreStarts heads (count_of Method) starts → slice_get starts c ≡ Some v
    → method_in heads skip name desc c ≡ Some k → sum_by (count_of Method) heads ≤ 2 ^ 26 → v + k < 2 ^ 26
method-number-fits heads starts skip name desc c k v lt are read e most =
    let there : (head : ClassHead) × (slice_get heads c ≡ Some head) = class-there heads c lt in
    omega (arith, start-read heads (count_of Method) starts c v are read lt, member-fits heads (count_of Method) c k there.0 there.1 (method-inside heads skip name desc c k there.0 there.1 e) most)

-- a class declares no more methods than all classes together
pub methods-few : (heads : List ClassHead) → sum_by (count_of Method) heads ≤ 2 ^ 26 → (c : ℕ) (head : ClassHead) → slice_get heads c ≡ Some head → length head.methods ≤ 2 ^ 26
methods-few heads most c head found =
    let at : get_or heads c head ≡ head = get_or_from_slice_get heads c head head found in
    omega (arith, get_or-le-sum_by (count_of Method) heads c head (slice_get_within heads c head found), ap (count_of Method) at)

-- a method that is read at a place of its class, as an answer
pub answer-is : (heads : List ClassHead) (c k : ℕ) (head : ClassHead) (methods : List HeadMethod) (method : HeadMethod) (abstract : Bool) → slice_get heads c ≡ Some head → methods ≡ head.methods → k < length head.methods
    → method ≡ get_or methods k method → abstract ≡ is_abstract method.flags → answer_by abstract (method_number heads c k) ≡ answer_at heads c k
answer-is heads c k head methods method abstract found is lt read e =
    let there : slice_get head.methods k ≡ Some method =
    slice_get_read head.methods (length head.methods) k method refl lt (read ∙ ap (λ (ms : List HeadMethod). get_or ms k method) is) in
    ap (λ (b : Bool). answer_by b (method_number heads c k))
    (e ∙ ap (λ (o : Option HeadMethod). is_abstract (flags_of o)) (sym (ap (λ (o : Option ClassHead). slice_get (methods_of o) k) found ∙ there)))
