-- A network that tells more and more: one constraint after another, one token after another, one link after another.
use Rattle.std.proofs.Common.{◌≡◌, ◌⊎◌, ◌↔◌, inl, inr, ℕ, zero, suc, ◌+◌, ◌<◌, Bool, false, List, [], ◌∷◌, ◌++◌, Some, None, length, take, get_or, refl, sym, ap, subst, ◌∙◌, true≢false, arith}
use Rattle.std.specs.Prelude.{Contains, slice_get}
use Rattle.std.proofs.lemmas.Bool.{cases_lt, cases_eq}
use Rattle.std.proofs.lemmas.List.{take_more, take_all, get_or_past}
use Rattle.std.proofs.lemmas.List.Elements.{Contains-append_left, Contains-push, Contains-push_cases}
use Rattle.std.proofs.lemmas.Option.{slice_get_within, slice_get_cases, slice_get-get_or, get_or_from_slice_get, none-some}
use Rattle.ja_sets.specs.Sets.{Has, Lacks, IsNext, HasNoneFrom}
use Rattle.ja_ir.specs.declared.program.Parts.{Parts}
use Rattle.ja_facts.specs.ClassTables.{token_count}
use Rattle.ja_network.specs.declared.cell.Cell.{Cell}
use Rattle.ja_network.specs.declared.cell.Action.{Action}
use Rattle.ja_network.specs.declared.cell.Action.TheVariants.{Copy}
use Rattle.ja_network.specs.declared.network.Network.{Network}
use Rattle.ja_network.specs.Facts.{Fact, HasToken, Happens as ItHappens, Extends, IsIn}
use Rattle.ja_cells.specs.Names.{Names}
use Rattle.ja_constraints.specs.declared.constraint.Constraint.{Constraint}
use Rattle.ja_constraints.specs.declared.constraint.Constraint.TheVariants as constraints
use Rattle.ja_firing.specs.Tokens.{fires}
use Rattle.ja_solving.specs.Rules.{Says, OneSays}
use Rattle.ja_solving.specs.InnerWorking.{FiresAll, FiresEach}

-- ---- what a network tells more

-- nothing more is told
pub extends-nothing : (net : Network) (S : Fact → Type 0) → ((f : Fact) → S f → ⊥) → Extends net net S
extends-nothing net S none = record {
  same_tokens = refl;
  tells = λ f. (λ h. inl h, λ either. elim either [ inl h ↦ h | inr s ↦ absurd (none f s) ]);
  settled = λ f. (λ h. h, λ h. h);
  same_seen = refl;
  same_turned = refl;
  events = λ k e h. h;
  turns = λ k c h. h;
  links = λ c. refl;
}

-- the same facts, said otherwise
pub extends-same : (old new : Network) (S T : Fact → Type 0) → Extends old new S → ((f : Fact) → S f ↔ T f) → Extends old new T
extends-same old new S T x same = record {
  same_tokens = x.same_tokens;
  tells = λ f. (
    λ h. elim ((x.tells f).0 h) [ inl was ↦ inl was | inr s ↦ inr ((same f).0 s) ],
    λ either. (x.tells f).1 (elim either [ inl was ↦ inl was | inr t ↦ inr ((same f).1 t) ]),
  );
  settled = x.settled;
  same_seen = x.same_seen;
  same_turned = x.same_turned;
  events = x.events;
  turns = x.turns;
  links = x.links;
}

-- some facts and then some more
pub extends-more : (old mid new : Network) (S U T : Fact → Type 0) → Extends old mid S → Extends mid new U → ((f : Fact) → T f ↔ (S f ⊎ U f)) → Extends old new T
extends-more old mid new S U T x y both = record {
  same_tokens = y.same_tokens ∙ x.same_tokens;
  tells = λ f. (
    λ h. elim ((y.tells f).0 h) [
      | inl before ↦ elim ((x.tells f).0 before) [ inl was ↦ inl was | inr s ↦ inr ((both f).1 (inl s)) ]
      | inr u ↦ inr ((both f).1 (inr u))
    ],
    λ either. (y.tells f).1 (elim either [
      | inl was ↦ inl ((x.tells f).1 (inl was))
      | inr t ↦ elim ((both f).0 t) [ inl s ↦ inl ((x.tells f).1 (inr s)) | inr u ↦ inr u ]
    ]),
  );
  settled = λ f. (λ h. (x.settled f).0 ((y.settled f).0 h), λ h. (y.settled f).1 ((x.settled f).1 h));
  same_seen = y.same_seen ∙ x.same_seen;
  same_turned = y.same_turned ∙ x.same_turned;
  events = λ k e h. y.events k e (x.events k e h);
  turns = λ k c h. y.turns k c (x.turns k c h);
  links = λ c. y.links c ∙ x.links c;
}

-- ---- lists, item by item

-- the front of a list with one item more
pub front-next : {A : Type 0} (xs : List A) (i : ℕ) (x : A) → slice_get xs i ≡ Some x → (y : A) → Contains (take (i + 1) xs) y ↔ (Contains (take i xs) y ⊎ (x ≡ y))
front-next {A} xs i x at y =
    let more : take (i + 1) xs ≡ take i xs ++ x ∷ [] = take_more xs i x (slice_get_within xs i x at) ∙ ap (λ (z : A). take i xs ++ z ∷ []) (get_or_from_slice_get xs i x x at) in (
      λ h. Contains-push_cases (take i xs) x y (subst (λ (zs : List A). Contains zs y) more h),
      λ either. subst (λ (zs : List A). Contains zs y) (sym more) (elim either [
        | inl h ↦ Contains-append_left (take i xs) (x ∷ []) y h
        | inr e ↦ subst (Contains (take i xs ++ x ∷ [])) e (Contains-push (take i xs) x)
      ]),
    )

-- past the last item the front is all of the list
pub front-all : {A : Type 0} (xs : List A) (i : ℕ) → slice_get xs i ≡ None → take i xs ≡ xs
front-all xs i past = elim (slice_get_cases xs i).1 [
  | inl there ↦ absurd (none-some there.0 (sym past ∙ there.2))
  | inr beyond ↦ take_all i xs beyond.0
]

-- nothing is in no list
pub none-inside : {A : Type 0} (x : A) → Contains [] x → ⊥
none-inside x (k, below, is) = omega (arith, below)

-- what is in the front of a list is in the list
pub front-inside : {A : Type 0} (n : ℕ) (xs : List A) (x : A) → Contains (take n xs) x → Contains xs x
front-inside zero xs x h = absurd (none-inside x h)
front-inside (suc n) [] x h = absurd (none-inside x h)
front-inside (suc n) (y ∷ xs) x (zero, below, is) = (zero, omega arith, is)
front-inside (suc n) (y ∷ xs) x (suc k, below, is) = let rest = front-inside n xs x (k, omega (arith, below), is) in (suc rest.0, let b = rest.1 in omega arith, rest.2)

-- an item of a list is in it
pub item-inside : {A : Type 0} (xs : List A) (k : ℕ) (x : A) → slice_get xs k ≡ Some x → Contains xs x
item-inside xs k x at = (k, slice_get_within xs k x at, get_or_from_slice_get xs k x x at)

-- ---- what constraints say

pub says-none : (p : Parts) (f : Fact) → OneSays p [] f → ⊥
says-none p f one = none-inside one.0 one.1

pub says-next : (p : Parts) (told : List Constraint) (i : ℕ) (c : Constraint) → slice_get told i ≡ Some c → (f : Fact) → OneSays p (take (i + 1) told) f ↔ (OneSays p (take i told) f ⊎ Says p c f)
says-next p told i c at f = (
  λ one. elim ((front-next told i c at one.0).0 one.1) [
    | inl before ↦ inl (one.0, before, one.2)
    | inr e ↦ inr (subst (λ (x : Constraint). Says p x f) (sym e) one.2)
  ],
  λ either. elim either [
    | inl one ↦ (one.0, (front-next told i c at one.0).1 (inl one.1), one.2)
    | inr says ↦ (c, (front-next told i c at c).1 (inr refl), says)
  ],
)

-- one constraint of a list after those before it
pub told-next : (p : Parts) (old mid new : Network) (told : List Constraint) (i : ℕ) (d : Constraint) → i < length told → Extends old mid (OneSays p (take i told))
    → Extends mid new (Says p (get_or told i d)) → Extends old new (OneSays p (take (i + 1) told))
told-next p old mid new told i d lt x y =
    extends-more old mid new (OneSays p (take i told)) (Says p (get_or told i d)) (OneSays p (take (i + 1) told)) x y
    (says-next p told i (get_or told i d) (slice_get-get_or told i d lt))

-- ---- a set of tokens, one after another

not_both : {A : Type 0} (set : List Bool) (t : ℕ) → Has set t → Lacks set t → A
not_both set t h l = absurd (true≢false (sym h ∙ l))

-- what is in the set below the place after its next token is what is below the place, and the token
up_to-next : (set : List Bool) (from x : ℕ) → IsNext set from x → (t : ℕ) → (Has set t × (t < x + 1)) ↔ ((Has set t × (t < from)) ⊎ (t ≡ x))
up_to-next set from x next t = (
  λ h. elim (cases_lt t from) [
    | inl below ↦ inl (h.0, below)
    | inr above ↦ elim (cases_eq t x) [
      | inl e ↦ inr e
      | inr ne ↦ let lt : t < x = let l = h.1 in omega arith in not_both set t h.0 (next.first t above lt)
    ]
  ],
  λ either. elim either [
    | inl h ↦ (h.0, let l = h.1 in let a = next.above in omega arith)
    | inr e ↦ (subst (Has set) (sym e) next.member, let l : t < x + 1 = omega arith in l)
  ],
)

module _ (p : Parts) (names : Names) (set : List Bool) (a : Action) where
  -- the tokens of the set below a place
  abbrev pub Below : ℕ → ℕ → Type 0
  Below from t = Has set t × (t < from)

  pub fires-none : (f : Fact) → FiresAll p names (Below 0) a f → ⊥
  fires-none f (t, below, one) = let l = below.1 in omega arith

  pub fires-next : (from x : ℕ) → IsNext set from x → (f : Fact) → FiresAll p names (Below (x + 1)) a f ↔ (FiresAll p names (Below from) a f ⊎ OneSays p (fires p names x a) f)
  fires-next from x next f = (
    λ all. elim ((up_to-next set from x next all.0).0 all.1) [
      | inl before ↦ inl (all.0, before, all.2)
      | inr e ↦ inr (subst (λ (t : ℕ). OneSays p (fires p names t a) f) e all.2)
    ],
    λ either. elim either [
      | inl all ↦ (all.0, (up_to-next set from x next all.0).1 (inl all.1), all.2)
      | inr one ↦ (x, (up_to-next set from x next x).1 (inr refl), one)
    ],
  )

  pub fires-past : (from : ℕ) → HasNoneFrom set from → (f : Fact) → FiresAll p names (Below from) a f ↔ FiresAll p names (Has set) a f
  fires-past from none f = (
    λ all. (all.0, all.1.0, all.2),
    λ all. (all.0, (all.1, elim (cases_lt all.0 from) [ inl below ↦ below | inr above ↦ not_both set all.0 all.1 (none all.0 above) ]), all.2),
  )

-- a copy goes to the other cell, all tokens at once
pub copies-all : (p : Parts) (names : Names) (set : List Bool) (to : Cell) → length set ≡ token_count p → (f : Fact) → IsIn to (Has set) f ↔ FiresAll p names (Has set) (Copy to) f
copies-all p names set to size (ItHappens event) = (λ h. absurd h, λ all. absurd (told_token all.0 all.2))
  where
    told_token : (t : ℕ) → OneSays p (fires p names t (Copy to)) (ItHappens event) → ⊥
    told_token t (c, inside, says) = elim (Contains-push_cases [] (constraints.Has to t) c inside) [
      | inl no_one ↦ none-inside c no_one
      | inr is ↦ let h = subst (λ (x : Constraint). Says p x (ItHappens event)) (sym is) says in absurd (cc h.0)
    ]
copies-all p names set to size (HasToken d t) = (
  λ h. (t, h.1, (constraints.Has to t, Contains-push [] (constraints.Has to t), (ap (λ (x : Cell). HasToken x t) h.0, within h.1))),
  λ all. told_token all.0 all.1 all.2,
)
  where
    within : Has set t → t < token_count p
    within h = elim (cases_lt t (length set)) [ inl lt ↦ let l = lt in let s = size in omega arith | inr past ↦ not_both set t h (get_or_past set t false past) ]

    told_token : (u : ℕ) → Has set u → OneSays p (fires p names u (Copy to)) (HasToken d t) → (d ≡ to) × Has set t
    told_token u member (c, inside, says) = elim (Contains-push_cases [] (constraints.Has to u) c inside) [
      | inl no_one ↦ absurd (none-inside c no_one)
      | inr e ↦
          let h = subst (λ (x : Constraint). Says p x (HasToken d t)) (sym e) says in
          let is = h.0 in
          let same_cell : d ≡ to = cc is in
          let same_token : u ≡ t = cc is in
          (same_cell, subst (Has set) same_token member)
    ]

-- ---- the links of a cell, one after another

module _ (p : Parts) (names : Names) (S : ℕ → Type 0) (links : List Action) where
  pub each-none : (f : Fact) → FiresEach p names S (Contains (take 0 links)) f → ⊥
  each-none f each = none-inside each.0 each.1

  pub each-next : (k : ℕ) (a : Action) → slice_get links k ≡ Some a → (f : Fact) → FiresEach p names S (Contains (take (k + 1) links)) f ↔ (FiresEach p names S (Contains (take k links)) f ⊎ FiresAll p names S a f)
  each-next k a at f = (
    λ each. elim ((front-next links k a at each.0).0 each.1) [
      | inl before ↦ inl (each.0, before, each.2)
      | inr e ↦ inr (subst (λ (x : Action). FiresAll p names S x f) (sym e) each.2)
    ],
    λ either. elim either [
      | inl each ↦ (each.0, (front-next links k a at each.0).1 (inl each.1), each.2)
      | inr all ↦ (a, (front-next links k a at a).1 (inr refl), all)
    ],
  )
