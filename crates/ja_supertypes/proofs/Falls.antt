-- On the way up there are fewer and fewer proper supertypes.
use Rattle.std.proofs.Common.{◌≡◌, ℕ, zero, suc, ◌<◌, ◌≤◌, ◌⊎◌, inl, inr, Bool, true, false, List, [], ◌∷◌, length, get_or, refl, sym, ap, ◌∙◌, subst, arith}
use Rattle.std.specs.Prelude.{Option, Some, None, Contains, bytes_eq, filter_map, option_to_list, slice_get}
use Rattle.std.specs.List.{cons_option}
use Rattle.std.proofs.lemmas.Bool.{false_from_ne_true}
use Rattle.std.proofs.lemmas.List.{length-map}
use Rattle.std.proofs.lemmas.List.Elements.{Contains-append_left, Contains-append_right, Contains-append_cases}
use Rattle.std.proofs.lemmas.List.Quantifiers.{position-Some}
use Rattle.ja_sets.specs.Sets.{Has, Lacks}
use Rattle.ja_ir.specs.declared.head.ClassHead.{ClassHead}
use Rattle.ja_supertypes.specs.Faults.{IsCyclic, IsNowhere}
use Rattle.ja_supertypes.specs.InnerRows.{count, ShowsAll}
use Rattle.ja_supertypes.specs.Supertypes.{names_of, place_of, place_of_some, superclass_name, interface_names, interfaces_of, superclass_of, IsDirect, IsSupertype, IsAtOrAbove, direct, through}
use Rattle.ja_supertypes.proofs.Ways.{direct-inside}

within : (xs ys : List Bool) → length xs ≡ length ys → ((k : ℕ) → Has xs k → Has ys k) → count xs ≤ count ys
within [] ys e sub = omega arith
within (x ∷ xs) [] e sub = absurd (omega (arith, e))
within (true ∷ xs) (true ∷ ys) e sub = omega (arith, within xs ys (omega (arith, e)) (λ k. sub (suc k)))
within (true ∷ xs) (false ∷ ys) e sub = let f : false ≡ true = sub 0 refl in absurd (cc f)
within (false ∷ xs) (true ∷ ys) e sub = omega (arith, within xs ys (omega (arith, e)) (λ k. sub (suc k)))
within (false ∷ xs) (false ∷ ys) e sub = within xs ys (omega (arith, e)) (λ k. sub (suc k))

fewer : (xs ys : List Bool) (k : ℕ) → length xs ≡ length ys → ((j : ℕ) → Has xs j → Has ys j) → Has ys k → Lacks xs k → count xs < count ys
fewer [] [] k e sub has lacks = let f : false ≡ true = has in absurd (cc f)
fewer [] (y ∷ ys) k e sub has lacks = absurd (omega (arith, e))
fewer (x ∷ xs) [] k e sub has lacks = absurd (omega (arith, e))
fewer (true ∷ xs) (true ∷ ys) zero e sub has lacks = let f : true ≡ false = lacks in absurd (cc f)
fewer (true ∷ xs) (true ∷ ys) (suc k) e sub has lacks = omega (arith, fewer xs ys k (omega (arith, e)) (λ j. sub (suc j)) has lacks)
fewer (true ∷ xs) (false ∷ ys) k e sub has lacks = let f : false ≡ true = sub 0 refl in absurd (cc f)
fewer (false ∷ xs) (true ∷ ys) zero e sub has lacks = omega (arith, within xs ys (omega (arith, e)) (λ j. sub (suc j)))
fewer (false ∷ xs) (true ∷ ys) (suc k) e sub has lacks = omega (arith, fewer xs ys k (omega (arith, e)) (λ j. sub (suc j)) has lacks)
fewer (false ∷ xs) (false ∷ ys) zero e sub has lacks = let f : false ≡ true = has in absurd (cc f)
fewer (false ∷ xs) (false ∷ ys) (suc k) e sub has lacks = fewer xs ys k (omega (arith, e)) (λ j. sub (suc j)) has lacks

-- the number of proper supertypes that the rows show for class c
abbrev pub rank : List (List Bool) → (c : ℕ) → ℕ
rank rows c = count (get_or rows c [])

-- ---- direct supertypes are classes of the list

in-cons : (o : Option ℕ) (rest : List ℕ) (d : ℕ) → Contains (cons_option o rest) d → (o ≡ Some d) ⊎ Contains rest d
in-cons None rest d c = inr c
in-cons (Some x) rest d (zero, lt, e) = inl (ap Some e)
in-cons (Some x) rest d (suc k, lt, e) = inr (k, omega arith, e)

-- what a filter gives comes from some item
pub from-filter_map : (f : List ℕ → Option ℕ) (xs : List (List ℕ)) (d : ℕ) → Contains (filter_map f xs) d → (x : List ℕ) × (f x ≡ Some d)
from-filter_map f [] d c = absurd (omega (arith, c.1))
from-filter_map f (x ∷ xs) d c = elim (in-cons (f x) (filter_map f xs) d c) [ inl e ↦ (x, e) | inr rest ↦ from-filter_map f xs d rest ]

from-option : (o : Option ℕ) (d : ℕ) → Contains (option_to_list o) d → o ≡ Some d
from-option None d c = absurd (omega (arith, c.1))
from-option (Some x) d (zero, lt, e) = ap Some e
from-option (Some x) d (suc k, lt, e) = absurd (omega arith)

place-inside : (heads : List ClassHead) (name : List ℕ) (d : ℕ) → place_of (names_of heads) name ≡ Some d → d < length heads
place-inside heads name d e =
    omega (arith, (position-Some (bytes_eq name) (names_of heads) d [] e).0, length-map heads (λ (head : ClassHead). head.name))

some-place-inside : (heads : List ClassHead) (name : Option (List ℕ)) (d : ℕ) → place_of_some (names_of heads) name ≡ Some d → d < length heads
some-place-inside heads None d e = absurd (cc e)
some-place-inside heads (Some name) d e = place-inside heads name d e

pub superclass-target : (heads : List ClassHead) (c d : ℕ) → superclass_of heads c ≡ Some d → d < length heads
superclass-target heads c d e = some-place-inside heads (superclass_name (slice_get heads c)) d e

pub interface-target : (heads : List ClassHead) (c d : ℕ) → Contains (interfaces_of heads c) d → d < length heads
interface-target heads c d e =
    let from : (x : List ℕ) × (place_of (names_of heads) x ≡ Some d) = from-filter_map (place_of (names_of heads)) (interface_names (slice_get heads c)) d e in
    place-inside heads from.0 d from.1

pub direct-target : (heads : List ClassHead) (c d : ℕ) → IsDirect heads c d → d < length heads
direct-target heads c d e =
    elim (Contains-append_cases (interfaces_of heads c) (option_to_list (superclass_of heads c)) d e) [
      | inl i ↦ interface-target heads c d i
      | inr s ↦ superclass-target heads c d (from-option (superclass_of heads c) d s)
    ]

pub supertype-target : (heads : List ClassHead) (c d : ℕ) → IsSupertype heads c d → d < length heads
supertype-target heads c d (direct e) = direct-target heads c d e
supertype-target heads c d (through m a b) = supertype-target heads m d b

-- a direct superclass is a direct supertype, and so is a direct superinterface
pub superclass-direct : (heads : List ClassHead) (c d : ℕ) → superclass_of heads c ≡ Some d → IsDirect heads c d
superclass-direct heads c d e =
    Contains-append_right (interfaces_of heads c) (option_to_list (superclass_of heads c)) d
    (subst (λ (o : Option ℕ). Contains (option_to_list o) d) (sym e) (0, omega arith, refl))

pub interface-direct : (heads : List ClassHead) (c d : ℕ) → Contains (interfaces_of heads c) d → IsDirect heads c d
interface-direct heads c d e = Contains-append_left (interfaces_of heads c) (option_to_list (superclass_of heads c)) d e

pub falls : (heads : List ClassHead) (rows : List (List Bool)) → ShowsAll heads rows → IsNowhere (IsCyclic heads) → (c d : ℕ) → IsDirect heads c d → rank rows d < rank rows c
falls heads rows shows acyclic c d e =
    let c-in : c < length heads = direct-inside heads c d e in
    let d-in : d < length heads = direct-target heads c d e in
    fewer (get_or rows d []) (get_or rows c []) d (shows.widths d d-in ∙ sym (shows.widths c c-in))
    (λ x has. (shows.exact c x c-in).1 (through d (direct e) ((shows.exact d x d-in).0 has)))
    ((shows.exact c d c-in).1 (direct e))
    (false_from_ne_true (get_or (get_or rows d []) d false) (λ has. acyclic d ((shows.exact d d d-in).0 has)))

-- the first step of a way up
pub first-step : (heads : List ClassHead) (c e : ℕ) → IsSupertype heads c e → (d : ℕ) × IsDirect heads c d × IsAtOrAbove heads d e
first-step heads c e (direct x) = (e, x, inl refl)
first-step heads c e (through m a b) =
    let first : (d : ℕ) × IsDirect heads c d × IsAtOrAbove heads d m = first-step heads c m a in
    (first.0, first.1, elim first.2 [ inl same ↦ inr (subst (λ (x : ℕ). IsSupertype heads x e) (sym same) b) | inr s ↦ inr (through m s b) ])

-- one step more at the start of a way up
pub step-above : (heads : List ClassHead) (c d e : ℕ) → IsDirect heads c d → IsAtOrAbove heads d e → IsSupertype heads c e
step-above heads c d e x (inl same) = direct (subst (λ (y : ℕ). IsDirect heads c y) same x)
step-above heads c d e x (inr s) = through d (direct x) s
