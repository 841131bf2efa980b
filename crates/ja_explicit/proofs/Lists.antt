-- What is in the lists of facts that follow.
use Rattle.std.proofs.Common.{◌≡◌, ◌⊎◌, inl, inr, ℕ, zero, suc, ◌+◌, ◌<◌, ◌≤◌, Bool, true, false, List, [], ◌∷◌, ◌++◌, refl, sym, ap, subst, ◌∙◌, arith}
use Rattle.std.specs.Prelude.{Contains, if◌then◌else◌}
use Rattle.std.proofs.lemmas.Bool.{false≢true}
use Rattle.std.proofs.lemmas.List.Elements.{Contains-append_left, Contains-append_right, Contains-append_cases}
use Rattle.ja_ir.specs.Handlers.{Place}
use Rattle.ja_explicit.specs.declared.item.Item.{Item}
use Rattle.ja_explicit.specs.declared.item.Item.TheVariants.{Context, At}
use Rattle.ja_explicit.specs.InnerWords.{over}
use Rattle.ja_explicit.specs.InnerSteps.{Standing, Passage, at_each, at_all, lands_at, lands_each, lands_all, passing, ends_with, ends_with_each}
use Rattle.ja_explicit.specs.InnerStarts.{contexts}
use Rattle.ja_explicit.proofs.Worded.{the_one, in_over, from_over}

module _ {A : Type 0} where
  pub here : (x : A) (xs : List A) → Contains (x ∷ xs) x
  here x xs = Contains-append_left (x ∷ []) xs x (0, omega arith, refl)

  pub there : (x : A) (xs : List A) (y : A) → Contains xs y → Contains (x ∷ xs) y
  there x xs y h = Contains-append_right (x ∷ []) xs y h

  pub cons_cases : (x : A) (xs : List A) (y : A) → Contains (x ∷ xs) y → (x ≡ y) ⊎ Contains xs y
  cons_cases x xs y h = elim (Contains-append_cases (x ∷ []) xs y h) [ inl one ↦ inl (the_one x y one) | inr rest ↦ inr rest ]

  pub nothing_in : {B : Type 0} (x : A) → Contains [] x → B
  nothing_in x h = absurd (let lt = h.1 in omega (arith, lt))

  pub in_if : (c : Bool) (xs : List A) (x : A) → c ≡ true → Contains xs x → Contains (if c then xs else []) x
  in_if c xs x e h = subst (λ b. Contains (if b then xs else []) x) (sym e) h

  pub from_if : (c : Bool) (xs : List A) (x : A) → Contains (if c then xs else []) x → (c ≡ true) × Contains xs x
  from_if true xs x h = (refl, h)
  from_if false xs x h = nothing_in x h

  -- a property of all items of lists
  module _ (P : A → Type 0) where
    abbrev pub AllOf : List A → Type 0
    AllOf xs = (x : A) → Contains xs x → P x

    pub all_none : AllOf []
    all_none x h = nothing_in x h

    pub all_cons : (x : A) (xs : List A) → P x → AllOf xs → AllOf (x ∷ xs)
    all_cons x xs p all y h = elim (cons_cases x xs y h) [ inl e ↦ subst P e p | inr rest ↦ all y rest ]

    pub all_one : (x : A) → P x → AllOf (x ∷ [])
    all_one x p = all_cons x [] p all_none

    pub all_both : (xs ys : List A) → AllOf xs → AllOf ys → AllOf (xs ++ ys)
    all_both xs ys left right y h = elim (Contains-append_cases xs ys y h) [ inl l ↦ left y l | inr r ↦ right y r ]

    pub all_if : (c : Bool) (xs : List A) → (c ≡ true → AllOf xs) → AllOf (if c then xs else [])
    all_if c xs h x inside = let r = from_if c xs x inside in h r.0 x r.1

    pub all_over : (f : ℕ → List A) (from count : ℕ) → ((k : ℕ) → k < from + count → AllOf (f k)) → AllOf (over f from count)
    all_over f from count h x inside = let r = from_over f from count x inside in h r.0 r.2 x r.3

-- ---- words

pub in_passing : (test : ℕ → Bool) (ws : List ℕ) (w : ℕ) → Contains ws w → test w ≡ true → Contains (passing test ws) w
in_passing test [] w h e = nothing_in w h
in_passing test (v ∷ ws) w h e = elim (cons_cases v ws w h) [
  | inl is ↦ Contains-append_left (if test v then v ∷ [] else []) (passing test ws) w (in_if (test v) (v ∷ []) w (ap test is ∙ e) (subst (λ x. Contains (v ∷ []) x) is (here v [])))
  | inr rest ↦ Contains-append_right (if test v then v ∷ [] else []) (passing test ws) w (in_passing test ws w rest e)
]

pub from_passing : (test : ℕ → Bool) (ws : List ℕ) (w : ℕ) → Contains (passing test ws) w → Contains ws w × (test w ≡ true)
from_passing test [] w h = nothing_in w h
from_passing test (v ∷ ws) w h = elim (Contains-append_cases (if test v then v ∷ [] else []) (passing test ws) w h) [
  | inl l ↦ (let r = from_if (test v) (v ∷ []) w l in let is = the_one v w r.1 in (subst (λ x. Contains (v ∷ ws) x) is (here v ws), ap test (sym is) ∙ r.0))
  | inr rest ↦ (let r = from_passing test ws w rest in (there v ws w r.0, r.1))
]

-- ---- instructions that are come to

module _ (m a : ℕ) where
  pub in_at_each : (w : ℕ) (js : List ℕ) (j : ℕ) → Contains js j → Contains (at_each m a w js) (At m j a w)
  in_at_each w [] j h = nothing_in j h
  in_at_each w (k ∷ js) j h = elim (cons_cases k js j h) [
    | inl is ↦ subst (λ x. Contains (at_each m a w (k ∷ js)) (At m x a w)) is (here (At m k a w) (at_each m a w js))
    | inr rest ↦ there (At m k a w) (at_each m a w js) (At m j a w) (in_at_each w js j rest)
  ]

  pub in_at_all : (js ws : List ℕ) (j w : ℕ) → Contains js j → Contains ws w → Contains (at_all m a js ws) (At m j a w)
  in_at_all js [] j w h k = nothing_in w k
  in_at_all js (v ∷ ws) j w h k = elim (cons_cases v ws w k) [
    | inl is ↦ Contains-append_left (at_each m a v js) (at_all m a js ws) (At m j a w) (subst (λ x. Contains (at_each m a v js) (At m j a x)) is (in_at_each v js j h))
    | inr rest ↦ Contains-append_right (at_each m a v js) (at_all m a js ws) (At m j a w) (in_at_all js ws j w h rest)
  ]

  module _ (P : Item → Type 0) where
    all_at_each : (w : ℕ) (js : List ℕ) → ((j : ℕ) → Contains js j → P (At m j a w)) → AllOf P (at_each m a w js)
    all_at_each w [] h = all_none P
    all_at_each w (j ∷ js) h = all_cons P (At m j a w) (at_each m a w js) (h j (here j js)) (all_at_each w js (λ k inside. h k (there j js k inside)))

    pub all_at_all : (js ws : List ℕ) → ((j w : ℕ) → Contains js j → Contains ws w → P (At m j a w)) → AllOf P (at_all m a js ws)
    all_at_all js [] h = all_none P
    all_at_all js (w ∷ ws) h =
        all_both P (at_each m a w js) (at_all m a js ws) (all_at_each w js (λ j inside. h j w inside (here w ws))) (all_at_all js ws (λ j v inside k. h j v inside (there w ws v k)))

-- ---- where exceptions go

module _ (s : Standing) where
  pub in_lands_each : (w : ℕ) (places : List Place) (place : Place) (x : Item) → Contains places place → Contains (lands_at s w place) x → Contains (lands_each s w places) x
  in_lands_each w [] place x h k = nothing_in place h
  in_lands_each w (q ∷ places) place x h k = elim (cons_cases q places place h) [
    | inl is ↦ Contains-append_left (lands_at s w q) (lands_each s w places) x (subst (λ z. Contains (lands_at s w z) x) (sym is) k)
    | inr rest ↦ Contains-append_right (lands_at s w q) (lands_each s w places) x (in_lands_each w places place x rest k)
  ]

  pub in_lands_all : (places : List Place) (ws : List ℕ) (place : Place) (w : ℕ) (x : Item) → Contains places place → Contains ws w → Contains (lands_at s w place) x → Contains (lands_all s places ws) x
  in_lands_all places [] place w x h k l = nothing_in w k
  in_lands_all places (v ∷ ws) place w x h k l = elim (cons_cases v ws w k) [
    | inl is ↦ Contains-append_left (lands_each s v places) (lands_all s places ws) x (in_lands_each v places place x h (subst (λ z. Contains (lands_at s z place) x) (sym is) l))
    | inr rest ↦ Contains-append_right (lands_each s v places) (lands_all s places ws) x (in_lands_all places ws place w x h rest l)
  ]

  module _ (P : Item → Type 0) where
    all_lands_each : (w : ℕ) (places : List Place) → ((place : Place) → Contains places place → AllOf P (lands_at s w place)) → AllOf P (lands_each s w places)
    all_lands_each w [] h = all_none P
    all_lands_each w (q ∷ places) h =
        all_both P (lands_at s w q) (lands_each s w places) (h q (here q places)) (all_lands_each w places (λ place inside. h place (there q places place inside)))

    pub all_lands_all : (places : List Place) (ws : List ℕ) → ((place : Place) (w : ℕ) → Contains places place → Contains ws w → AllOf P (lands_at s w place)) → AllOf P (lands_all s places ws)
    all_lands_all places [] h = all_none P
    all_lands_all places (w ∷ ws) h =
        all_both P (lands_each s w places) (lands_all s places ws) (all_lands_each w places (λ place inside. h place w inside (here w ws)))
        (all_lands_all places ws (λ place v inside k. h place v inside (there w ws v k)))

  -- ---- ends of methods

  module _ (way : Passage) where
    pub in_ends : (items : List Item) (y x : Item) → Contains items y → Contains (ends_with s way y) x → Contains (ends_with_each s way items) x
    in_ends [] y x h k = nothing_in y h
    in_ends (z ∷ items) y x h k = elim (cons_cases z items y h) [
      | inl is ↦ Contains-append_left (ends_with s way z) (ends_with_each s way items) x (subst (λ q. Contains (ends_with s way q) x) (sym is) k)
      | inr rest ↦ Contains-append_right (ends_with s way z) (ends_with_each s way items) x (in_ends items y x rest k)
    ]

    pub all_ends : (P : Item → Type 0) (items : List Item) → ((y : Item) → Contains items y → AllOf P (ends_with s way y)) → AllOf P (ends_with_each s way items)
    all_ends P [] h = all_none P
    all_ends P (y ∷ items) h = all_both P (ends_with s way y) (ends_with_each s way items) (h y (here y items)) (all_ends P items (λ z inside. h z (there y items z inside)))

-- ---- contexts

pub in_contexts : (m : ℕ) (ws : List ℕ) (w : ℕ) → Contains ws w → Contains (contexts m ws) (Context m w)
in_contexts m [] w h = nothing_in w h
in_contexts m (v ∷ ws) w h = elim (cons_cases v ws w h) [
  | inl is ↦ subst (λ x. Contains (contexts m (v ∷ ws)) (Context m x)) is (here (Context m v) (contexts m ws))
  | inr rest ↦ there (Context m v) (contexts m ws) (Context m w) (in_contexts m ws w rest)
]

pub all_contexts : (P : Item → Type 0) (m : ℕ) (ws : List ℕ) → ((w : ℕ) → Contains ws w → P (Context m w)) → AllOf P (contexts m ws)
all_contexts P m [] h = all_none P
all_contexts P m (w ∷ ws) h = all_cons P (Context m w) (contexts m ws) (h w (here w ws)) (all_contexts P m ws (λ v inside. h v (there w ws v inside)))
