-- What actors know.
use Rattle.std.proofs.Common.{◌≡◌, ◌≢◌, ◌⊎◌, ℕ, ◌<◌, max, [], ◌∷◌, ◌++◌, refl, sym, ap, ◌∙◌, subst, inl, inr, arith, eq-eqb, ne_eqb}
use Rattle.std.specs.Prelude.{if◌then◌else◌, ◌==◌}
use mathlib.Core.Logic.{dite}
use native.Mathlib.Decide.{ℕ_discrete, dec_lt}
use Rattle.ja_node_core.specs.Node.{Words, IsPart}
use Rattle.ja_node_core.specs.Machine.{Known, word_at, learned, AllStand}

-- one more pair
pub at_more : (known : Known) (p w q : ℕ) → ((q ≡ p) × (word_at ((p, w) ∷ known) q ≡ max w (word_at known q))) ⊎ ((q ≢ p) × (word_at ((p, w) ∷ known) q ≡ word_at known q))
at_more known p w q = dite (ℕ_discrete p q)
    (λ e. inl (sym e, ap (λ b. max (if b then w else 0) (word_at known q)) (eq-eqb p q e)))
    (λ ne. inr ((λ e. ne (sym e)), ap (λ b. max (if b then w else 0) (word_at known q)) (ne_eqb p q ne) ∙ omega arith))

-- what two know together
pub at_both : (xs ys : Known) (q : ℕ) → word_at (xs ++ ys) q ≡ max (word_at xs q) (word_at ys q)
at_both [] ys q = omega arith
at_both (x ∷ xs) ys q =
    let rest = at_both xs ys q in
    let first : ℕ = if x.0 == q then x.1 else 0 in
    let goal : max first (word_at (xs ++ ys) q) ≡ max (max first (word_at xs q)) (word_at ys q) = omega arith in
    goal

-- an empty word teaches nothing, and any other is one more pair
pub learned_cases : (known : Known) (p w : ℕ) → ((w ≡ 0) × (learned known p w ≡ known)) ⊎ ((0 < w) × (learned known p w ≡ (p, w) ∷ known))
learned_cases known p w = dite (ℕ_discrete w 0)
    (λ e. inl (e, ap (λ b. if b then known else (p, w) ∷ known) (eq-eqb w 0 e)))
    (λ ne. inr ((omega arith), ap (λ b. if b then known else (p, w) ∷ known) (ne_eqb w 0 ne)))

-- where each pair stands, what is known of each place stands
pub stands_part : (at : Words) (known : Known) → AllStand at known → IsPart (word_at known) at
stands_part at [] all q pos = absurd (omega arith)
stands_part at (x ∷ xs) all q pos = step (stands_part at xs all.2 q) (at_more xs x.0 x.1 q) (dec_lt 0 (word_at xs q))
  where
    step : (0 < word_at xs q → at q ≡ word_at xs q)
        → ((q ≡ x.0) × (word_at (x ∷ xs) q ≡ max x.1 (word_at xs q))) ⊎ ((q ≢ x.0) × (word_at (x ∷ xs) q ≡ word_at xs q))
        → Dec (0 < word_at xs q) → at q ≡ word_at (x ∷ xs) q
    step rest (inl t) (yes more) = let here : at q ≡ x.1 = ap at t.0 ∙ all.1 in let also = rest more in let is = t.1 in omega arith
    step rest (inl t) (no none) = let here : at q ≡ x.1 = ap at t.0 ∙ all.1 in let is = t.1 in omega arith
    step rest (inr t) d = let is = t.1 in rest (subst (λ w. 0 < w) is pos) ∙ sym is

pub stands_both : (at : Words) (xs ys : Known) → AllStand at xs → AllStand at ys → AllStand at (xs ++ ys)
stands_both at [] ys a b = b
stands_both at (x ∷ xs) ys a b = (a.0, a.1, stands_both at xs ys a.2 b)

pub stands_each : (at : Words) (xs ys : Known) → AllStand at (xs ++ ys) → AllStand at xs × AllStand at ys
stands_each at [] ys all = (tt, all)
stands_each at (x ∷ xs) ys all = let rest = stands_each at xs ys all.2 in ((all.0, all.1, rest.0), rest.1)

pub stands_learned : (at : Words) (known : Known) (p : ℕ) → AllStand at known → AllStand at (learned known p (at p))
stands_learned at known p all = step (learned_cases known p (at p))
  where
    step : ((at p ≡ 0) × (learned known p (at p) ≡ known)) ⊎ ((0 < at p) × (learned known p (at p) ≡ (p, at p) ∷ known)) → AllStand at (learned known p (at p))
    step (inl t) = subst (AllStand at) (sym t.1) all
    step (inr t) = subst (AllStand at) (sym t.1) (t.0, refl, all)

pub stands_more : (old new : Words) (known : Known) → IsPart old new → AllStand old known → AllStand new known
stands_more old new [] part all = tt
stands_more old new (x ∷ xs) part all = (all.0, part x.0 (let same = all.1 in let pos = all.0 in omega arith) ∙ all.1, stands_more old new xs part all.2)
