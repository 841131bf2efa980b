-- Transitive closure by way of one middle class after the other.
use Rattle.std.proofs.Common.{◌≡◌, ℕ, suc, ◌+◌, ◌<◌, ◌≤◌, ◌⊎◌, inl, inr, Bool, true, false, cond, List, [], ◌∷◌, ◌++◌, length, get_or, replicate, refl, sym, ap, ◌∙◌, subst, arith}
use Rattle.std.specs.Prelude.{◌↔◌, Option, All, Contains, filter_map, option_to_list}
use Rattle.std.proofs.lemmas.List.{get_or_default}
use Rattle.std.proofs.lemmas.Bool.{cases_Bool, cases_lt}
use Rattle.std.proofs.lemmas.Option.{slice_get_past}
use Rattle.ja_sets.specs.Sets.{Has, union}
use Rattle.ja_sets.proofs.Members.{Has-union_iff}
use Rattle.ja_sets.proofs.Values.{length-union}
use Rattle.ja_ir.specs.declared.head.ClassHead.{ClassHead}
use Rattle.ja_supertypes.specs.InnerRows.{stepped, ShowsAll, ShowsDirect}
use Rattle.ja_supertypes.specs.Supertypes.{names_of, place_of, place_of_some, superclass_name, interface_names, supertypes_of, IsDirect, IsSupertype, direct, through}

-- a way from class c up to class d whose middle classes are below k
pub data Via (heads : List ClassHead) (k : ℕ) : (c d : ℕ) → Type 0 where
  edge : {c d : ℕ} → IsDirect heads c d → Via heads k c d
  via : {c d : ℕ} (m : ℕ) → m < k → Via heads k c m → Via heads k m d → Via heads k c d

-- a way without the middle class k, or one that goes through it once
abbrev pub Split : List ClassHead → (k c d : ℕ) → Type 0
Split heads k c d = Via heads k c d ⊎ (Via heads k c k × Via heads k k d)

joined-below : (heads : List ClassHead) (k m c d : ℕ) → m < k → Split heads k c m → Split heads k m d → Split heads k c d
joined-below heads k m c d lt (inl a) (inl b) = inl (via m lt a b)
joined-below heads k m c d lt (inl a) (inr b) = inr (via m lt a b.0, b.1)
joined-below heads k m c d lt (inr a) (inl b) = inr (a.0, via m lt a.1 b)
joined-below heads k m c d lt (inr a) (inr b) = inr (a.0, b.1)

to-middle : (heads : List ClassHead) (k c : ℕ) → Split heads k c k → Via heads k c k
to-middle heads k c (inl a) = a
to-middle heads k c (inr a) = a.0

from-middle : (heads : List ClassHead) (k d : ℕ) → Split heads k k d → Via heads k k d
from-middle heads k d (inl a) = a
from-middle heads k d (inr a) = a.1

joined-at : (heads : List ClassHead) (k m c d : ℕ) → m ≡ k → Split heads k c m → Split heads k m d → Split heads k c d
joined-at heads k m c d e a b =
    inr (to-middle heads k c (subst (λ (n : ℕ). Split heads k c n) e a), from-middle heads k d (subst (λ (n : ℕ). Split heads k n d) e b))

joined : (heads : List ClassHead) (k m c d : ℕ) → m < suc k → Split heads k c m → Split heads k m d → Split heads k c d
joined heads k m c d lt a b =
    elim (cases_lt m k) [
      | inl below ↦ joined-below heads k m c d below a b
      | inr above ↦ joined-at heads k m c d (omega arith) a b
    ]

pub via-split : (heads : List ClassHead) (k c d : ℕ) → Via heads (suc k) c d → Split heads k c d
via-split heads k c d (edge e) = inl (edge e)
via-split heads k c d (via m lt a b) = joined heads k m c d lt (via-split heads k c m a) (via-split heads k m d b)

via-more : (heads : List ClassHead) (k c d : ℕ) → Via heads k c d → Via heads (suc k) c d
via-more heads k c d (edge e) = edge e
via-more heads k c d (via m lt a b) = via m (omega arith) (via-more heads k c m a) (via-more heads k m d b)

pub via-join : (heads : List ClassHead) (k c d : ℕ) → Split heads k c d → Via heads (suc k) c d
via-join heads k c d (inl a) = via-more heads k c d a
via-join heads k c d (inr a) = via k (omega arith) (via-more heads k c k a.0) (via-more heads k k d a.1)

-- with no middle class there are only direct supertypes
pub via-none : (heads : List ClassHead) (c d : ℕ) → Via heads 0 c d → IsDirect heads c d
via-none heads c d (edge e) = e
via-none heads c d (via m lt a b) = absurd (omega arith)

pub via-supertype : (heads : List ClassHead) (k c d : ℕ) → Via heads k c d → IsSupertype heads c d
via-supertype heads k c d (edge e) = direct e
via-supertype heads k c d (via m lt a b) = through m (via-supertype heads k c m a) (via-supertype heads k m d b)

supertypes-past : (heads : List ClassHead) (c : ℕ) → length heads ≤ c → supertypes_of heads c ≡ []
supertypes-past heads c h =
    ap (λ (head : Option ClassHead). filter_map (place_of (names_of heads)) (interface_names head) ++ option_to_list (place_of_some (names_of heads) (superclass_name head))) (slice_get_past heads c h)

-- a class that has a supertype is one of the list
pub direct-inside : (heads : List ClassHead) (c d : ℕ) → IsDirect heads c d → c < length heads
direct-inside heads c d e =
    elim (cases_lt c (length heads)) [
      | inl inside ↦ inside
      | inr past ↦
          let none : Contains {X = ℕ} [] d = subst (λ (ds : List ℕ). Contains ds d) (supertypes-past heads c past) e in
          absurd (omega (arith, none.1))
    ]

pub supertype-inside : (heads : List ClassHead) (c d : ℕ) → IsSupertype heads c d → c < length heads
supertype-inside heads c d (direct e) = direct-inside heads c d e
supertype-inside heads c d (through m a b) = supertype-inside heads c m a

pub supertype-via : (heads : List ClassHead) (c d : ℕ) → IsSupertype heads c d → Via heads (length heads) c d
supertype-via heads c d (direct e) = edge e
supertype-via heads c d (through m a b) = via m (supertype-inside heads m d b) (supertype-via heads c m a) (supertype-via heads m d b)

-- the rows of a square show the ways whose middle classes are below k
pub record Shows (heads : List ClassHead) (k : ℕ) (rows : List (List Bool)) : Type 0 where
  pub size : length rows ≡ length heads
  pub widths : (i : ℕ) → i < length heads → length (get_or rows i []) ≡ length heads
  pub exact : (i j : ℕ) → i < length heads → Has (get_or rows i []) j ↔ Via heads k i j

width-stepped : (n k : ℕ) (mid row : List Bool) → length row ≡ n → length mid ≡ n → length (stepped k mid row) ≡ n
width-stepped n k mid row e f =
    elim (cases_Bool (get_or row k false)) [
      | inl has-it ↦ ap (λ b. length (cond b (union row mid) row)) has-it ∙ length-union row mid (e ∙ sym f) ∙ e
      | inr lacks-it ↦ ap (λ b. length (cond b (union row mid) row)) lacks-it ∙ e
    ]

-- the ways of one row
stepped-exact : (heads : List ClassHead) (k i j : ℕ) (mid row : List Bool) → length row ≡ length mid → ((d : ℕ) → Has row d ↔ Via heads k i d) → ((d : ℕ) → Has mid d ↔ Via heads k k d)
    → Has (stepped k mid row) j ↔ Via heads (suc k) i j
stepped-exact heads k i j mid row e own middle =
    elim (cases_Bool (get_or row k false)) [
      | inl has-it ↦
          let both : Has (union row mid) j ↔ (Has row j ⊎ Has mid j) = Has-union_iff row mid j e in
          let new : stepped k mid row ≡ union row mid = ap (λ b. cond b (union row mid) row) has-it in
          let there : Via heads k i k = (own k).0 has-it in (
            λ has. via-join heads k i j (elim (both.0 (subst (λ (r : List Bool). Has r j) new has)) [ inl a ↦ inl ((own j).0 a) | inr b ↦ inr (there, (middle j).0 b) ]),
            λ way. subst (λ (r : List Bool). Has r j) (sym new) (both.1 (elim (via-split heads k i j way) [ inl a ↦ inl ((own j).1 a) | inr b ↦ inr ((middle j).1 b.1) ])),
          )
      | inr lacks-it ↦
          let new : stepped k mid row ≡ row = ap (λ b. cond b (union row mid) row) lacks-it in (
            λ has. via-join heads k i j (inl ((own j).0 (subst (λ (r : List Bool). Has r j) new has))),
            λ way. subst (λ (r : List Bool). Has r j) (sym new) (elim (via-split heads k i j way) [ inl a ↦ (own j).1 a | inr b ↦ let has : get_or row k false ≡ true = (own k).1 b.0 in absurd (cc (has, lacks-it)) ]),
          )
    ]

pub shows-step : (heads : List ClassHead) (k : ℕ) (rows news : List (List Bool)) → k < length heads → Shows heads k rows → length news ≡ length rows
    → ((i : ℕ) → i < length rows → get_or news i [] ≡ stepped k (get_or rows k []) (get_or rows i [])) → Shows heads (suc k) news
shows-step heads k rows news below shows size each = record {
  size = size ∙ shows.size;
  widths = λ i lt. ap length (each i (omega (arith, shows.size))) ∙ width-stepped (length heads) k (get_or rows k []) (get_or rows i []) (shows.widths i lt) (shows.widths k below);
  exact = λ i j lt. subst (λ (r : List Bool). Has r j ↔ Via heads (suc k) i j) (sym (each i (omega (arith, shows.size))))
      (stepped-exact heads k i j (get_or rows k []) (get_or rows i []) (shows.widths i lt ∙ sym (shows.widths k below)) (λ d. shows.exact i d lt) (λ d. shows.exact k d below));
}

pub shows-next : (heads : List ClassHead) (k : ℕ) (rows news : List (List Bool)) (mid : List Bool) → k < length heads → Shows heads k rows → mid ≡ get_or rows k [] → length news ≡ length rows
    → ((i : ℕ) → i < length rows → get_or news i [] ≡ stepped k mid (get_or rows i [])) → Shows heads (k + 1) news
shows-next heads k rows news mid below shows is size each =
    let e : suc k ≡ k + 1 = omega arith in
    subst (λ (n : ℕ). Shows heads n news) e
    (shows-step heads k rows news below shows size (λ i lt. each i lt ∙ ap (λ (row : List Bool). stepped k row (get_or rows i [])) is))

pub shows-all : (heads : List ClassHead) (rows : List (List Bool)) → Shows heads (length heads) rows → ShowsAll heads rows
shows-all heads rows shows = record {
  size = shows.size;
  widths = shows.widths;
  exact = λ i j lt. (λ has. via-supertype heads (length heads) i j ((shows.exact i j lt).0 has), λ way. (shows.exact i j lt).1 (supertype-via heads i j way));
}

pub shows-none : (heads : List ClassHead) (rows : List (List Bool)) → ShowsDirect heads rows → Shows heads 0 rows
shows-none heads rows shows = record {
  size = shows.size;
  widths = shows.widths;
  exact = λ i j lt. (λ has. edge ((shows.exact i j lt).0 has), λ way. (shows.exact i j lt).1 (via-none heads i j way));
}

pub union-none : (row : List Bool) → union (replicate (length row) false) row ≡ row
union-none [] = refl
union-none (b ∷ row) = ap (λ (rest : List Bool). b ∷ rest) (union-none row)

-- a copy of a row, joined to nothing
pub copied : (n : ℕ) (row : List Bool) → length row ≡ n → union (replicate n false) row ≡ row
copied n row e = ap (λ m. union (replicate m false) row) (sym e) ∙ union-none row

pub rows-widths : (heads : List ClassHead) (rows : List (List Bool)) → ShowsAll heads rows → All (λ row. length row ≡ length heads) rows
rows-widths heads rows shows k d lt = ap length (get_or_default rows k d [] lt) ∙ shows.widths k (omega (arith, shows.size))
