-- Lists of moves, and what comes of their first so many.
use Rattle.std.proofs.Common.{◌≡◌, ◌⊎◌, ◌↔◌, inl, inr, ℕ, ◌+◌, ◌<◌, ◌≤◌, Bool, true, false, IsTrue, true≢false, List, Some, length, get_or, refl, sym, ap, subst, ◌∙◌, arith}
use Rattle.std.specs.Prelude.{slice_get}
use Rattle.std.proofs.lemmas.Bool.{cases_lt}
use Rattle.std.proofs.lemmas.Option.{same_Some, slice_get_within, slice_get-get_or}
use Rattle.ja_sets.specs.Sets.{Has, HasPair}
use Rattle.ja_moves.specs.declared.steps.Move.{Move}
use Rattle.ja_moves.specs.Carrying.{IsMove, Meets, IsCarried}

-- one of the first so many moves
abbrev pub IsMoveBelow : (moves : List Move) (bound a c : ℕ) → Type 0
IsMoveBelow moves bound a c = (k : ℕ) × (k < bound) × (slice_get moves k ≡ Some (record { from = a; to = c }))

pub move-all : (moves : List Move) (bound a c : ℕ) → length moves ≤ bound → IsMoveBelow moves bound a c ↔ IsMove moves a c
move-all moves bound a c past = (λ m. (m.0, m.2), λ m. (m.0, let lt = slice_get_within moves m.0 (record { from = a; to = c }) m.1 in omega (arith, lt, past), m.1))

same-move : {x y : ℕ} (step : Move) → x ≡ step.from → y ≡ step.to → record { from = x; to = y } ≡ step
same-move {x} {y} step p q = subst (λ u. record { from = u; to = y } ≡ step) (sym p) (ap (λ v. record { from = step.from; to = v }) q)

-- one move more
pub move-more : (moves : List Move) (k a c : ℕ) (step : Move) → slice_get moves k ≡ Some step → IsMoveBelow moves (k + 1) a c ↔ (IsMoveBelow moves k a c ⊎ ((a ≡ step.from) × (c ≡ step.to)))
move-more moves k a c step at = (
  λ m. elim (cases_lt m.0 k) [
    | inl lt ↦ inl (m.0, lt, m.2)
    | inr past ↦
        let e : m.0 ≡ k = omega (arith, m.1, past) in
        let same : record { from = a; to = c } ≡ step = same_Some (record { from = a; to = c }) step (sym m.2 ∙ ap (λ j. slice_get moves j) e ∙ at) in
        inr (ap (λ (s : Move). s.from) same, ap (λ (s : Move). s.to) same)
  ],
  λ either. elim either [
    | inl m ↦ (m.0, omega (arith, m.1), m.2)
    | inr e ↦ (k, omega arith, at ∙ ap (λ (s : Move). Some s) (sym (same-move step e.0 e.1)))
  ],
)

-- a name that met the one is kept, or one of the first so many moves moves it here
pub record MeetsBelow (kept : List Bool) (moves : List Move) (bound : ℕ) (whole : List (List Bool)) (a d : ℕ) : Type 0 where
  pub b : ℕ
  pub comes : (Has kept b × (d ≡ b)) ⊎ IsMoveBelow moves bound b d
  pub pair : HasPair whole a b

pub not-has : (x r : Bool) → IsTrue r ↔ (x ≡ true) → r ≡ false → x ≡ false
not-has true r iff e = absurd (true≢false (sym (iff.1 refl) ∙ e))
not-has false r iff e = refl

-- the move at a place
pub step-at : (moves : List Move) (k : ℕ) (step none : Move) → k < length moves → step ≡ get_or moves k none → slice_get moves k ≡ Some step
step-at moves k step none lt is = slice_get-get_or moves k none lt ∙ ap (λ (s : Move). Some s) (sym is)

pub no-move-below : (moves : List Move) (a c : ℕ) → IsMoveBelow moves 0 a c → ⊥
no-move-below moves a c m = absurd (omega (arith, m.1))

module _ (kept : List Bool) (moves : List Move) (whole : List (List Bool)) where
  -- no move yet: what is met is kept
  pub meets-none : (a d : ℕ) → (HasPair whole a d × Has kept d) ↔ MeetsBelow kept moves 0 whole a d
  meets-none a d = (
    λ h. record { b = d; comes = inl (h.1, refl); pair = h.0 },
    λ m. elim m.comes [
      | inl k ↦ (subst (λ b. HasPair whole a b) (sym k.1) m.pair, subst (Has kept) (sym k.1) k.0)
      | inr move ↦ absurd (no-move-below moves m.b d move)
    ],
  )

  -- one move more
  pub meets-more : (k a d : ℕ) (step : Move) → slice_get moves k ≡ Some step → MeetsBelow kept moves (k + 1) whole a d ↔ (MeetsBelow kept moves k whole a d ⊎ ((d ≡ step.to) × HasPair whole a step.from))
  meets-more k a d step at = (
    λ m. elim m.comes [
      | inl stays ↦ inl (record { b = m.b; comes = inl stays; pair = m.pair })
      | inr move ↦ elim ((move-more moves k m.b d step at).0 move) [
        | inl before ↦ inl (record { b = m.b; comes = inr before; pair = m.pair })
        | inr e ↦ inr (e.1, subst (HasPair whole a) e.0 m.pair)
      ]
    ],
    λ either. elim either [
      | inl m ↦ record { b = m.b; comes = elim m.comes [ inl stays ↦ inl stays | inr move ↦ inr ((move-more moves k m.b d step at).1 (inl move)) ]; pair = m.pair }
      | inr e ↦ record { b = step.from; comes = inr ((move-more moves k step.from d step at).1 (inr (refl, e.0))); pair = e.1 }
    ],
  )

  -- all of them
  pub meets-all : (bound a d : ℕ) → length moves ≤ bound → MeetsBelow kept moves bound whole a d ↔ Meets kept moves whole a d
  meets-all bound a d past = (
    λ m. record { b = m.b; comes = elim m.comes [ inl stays ↦ inl stays | inr move ↦ inr ((move-all moves bound m.b d past).0 move) ]; pair = m.pair },
    λ m. record { b = m.b; comes = elim m.comes [ inl stays ↦ inl stays | inr move ↦ inr ((move-all moves bound m.b d past).1 move) ]; pair = m.pair },
  )

  -- rows that are kept, and rows that are moved
  pub carried : (c d : ℕ) → IsCarried kept moves whole c d ↔ ((Has kept c × Meets kept moves whole c d) ⊎ ((a : ℕ) × IsMove moves a c × Meets kept moves whole a d))
  carried c d = (
    λ x. elim x.comes [
      | inl stays ↦ inl (subst (Has kept) (sym stays.1) stays.0, subst (λ a. Meets kept moves whole a d) (sym stays.1) x.meets)
      | inr move ↦ inr (x.a, move, x.meets)
    ],
    λ either. elim either [
      | inl own ↦ record { a = c; comes = inl (own.0, refl); meets = own.1 }
      | inr moved ↦ record { a = moved.0; comes = inr moved.1; meets = moved.2 }
    ],
  )
