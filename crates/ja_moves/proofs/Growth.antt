-- Tables that grow in steps.
use Rattle.std.proofs.Common.{◌≡◌, ◌⊎◌, ◌↔◌, inl, inr, ℕ, zero, suc, ◌<◌, ◌≤◌, Bool, true, false, ◌||◌, IsTrue, List, [], ◌∷◌, length, get_or, refl, sym, ap, subst, ◌∙◌, true≢false, arith}
use Rattle.std.proofs.lemmas.Bool.{cases_lt}
use Rattle.std.proofs.lemmas.List.{get_or_past}
use Rattle.ja_sets.specs.Sets.{Has, Lacks, HasPair, LacksPair}
use Rattle.ja_matrix.specs.Matrices.{IsTable, KeepsShape, Gains, AddsKept}
use Rattle.ja_moves.specs.Growing.{lacking_in, lacking, Grows}

-- less is lacking in a row that has more
row-le : (old new : List Bool) → length new ≡ length old → ((b : ℕ) → Has old b → Has new b) → lacking_in new ≤ lacking_in old
row-le [] [] e more = omega arith
row-le [] (y ∷ ys) e more = absurd (omega arith)
row-le (x ∷ xs) [] e more = absurd (omega arith)
row-le (true ∷ xs) (true ∷ ys) e more = row-le xs ys (omega arith) (λ b. more (suc b))
row-le (true ∷ xs) (false ∷ ys) e more = absurd (true≢false (sym (more 0 refl)))
row-le (false ∷ xs) (true ∷ ys) e more = let le : lacking_in ys ≤ lacking_in xs = row-le xs ys (omega arith) (λ b. more (suc b)) in omega arith
row-le (false ∷ xs) (false ∷ ys) e more = let le : lacking_in ys ≤ lacking_in xs = row-le xs ys (omega arith) (λ b. more (suc b)) in omega arith

row-lt : (old new : List Bool) → length new ≡ length old → ((b : ℕ) → Has old b → Has new b) → (b : ℕ) → Lacks old b → Has new b → lacking_in new < lacking_in old
row-lt [] [] e more b l n = absurd (true≢false (sym n))
row-lt [] (y ∷ ys) e more b l n = absurd (omega arith)
row-lt (x ∷ xs) [] e more b l n = absurd (omega arith)
row-lt (true ∷ xs) (y ∷ ys) e more zero l n = absurd (true≢false l)
row-lt (false ∷ xs) (false ∷ ys) e more zero l n = absurd (true≢false (sym n))
row-lt (false ∷ xs) (true ∷ ys) e more zero l n = let le : lacking_in ys ≤ lacking_in xs = row-le xs ys (omega arith) (λ c. more (suc c)) in omega arith
row-lt (true ∷ xs) (true ∷ ys) e more (suc b) l n = row-lt xs ys (omega arith) (λ c. more (suc c)) b l n
row-lt (true ∷ xs) (false ∷ ys) e more (suc b) l n = absurd (true≢false (sym (more 0 refl)))
row-lt (false ∷ xs) (true ∷ ys) e more (suc b) l n = let lt : lacking_in ys < lacking_in xs = row-lt xs ys (omega arith) (λ c. more (suc c)) b l n in omega arith
row-lt (false ∷ xs) (false ∷ ys) e more (suc b) l n = let lt : lacking_in ys < lacking_in xs = row-lt xs ys (omega arith) (λ c. more (suc c)) b l n in omega arith

-- and in a table
table-le : (old new : List (List Bool)) → length new ≡ length old → ((a : ℕ) → length (get_or new a []) ≡ length (get_or old a [])) → ((a b : ℕ) → HasPair old a b → HasPair new a b) → lacking new ≤ lacking old
table-le [] [] e rows more = omega arith
table-le [] (y ∷ ys) e rows more = absurd (omega arith)
table-le (x ∷ xs) [] e rows more = absurd (omega arith)
table-le (x ∷ xs) (y ∷ ys) e rows more =
    let first : lacking_in y ≤ lacking_in x = row-le x y (rows 0) (more 0) in
    let rest : lacking ys ≤ lacking xs = table-le xs ys (omega arith) (λ a. rows (suc a)) (λ a. more (suc a)) in
    omega arith

table-lt : (old new : List (List Bool)) → length new ≡ length old → ((a : ℕ) → length (get_or new a []) ≡ length (get_or old a [])) → ((a b : ℕ) → HasPair old a b → HasPair new a b)
    → (a b : ℕ) → LacksPair old a b → HasPair new a b → lacking new < lacking old
table-lt [] [] e rows more a b l n = absurd (true≢false (sym n))
table-lt [] (y ∷ ys) e rows more a b l n = absurd (omega arith)
table-lt (x ∷ xs) [] e rows more a b l n = absurd (omega arith)
table-lt (x ∷ xs) (y ∷ ys) e rows more zero b l n =
    let first : lacking_in y < lacking_in x = row-lt x y (rows 0) (more 0) b l n in
    let rest : lacking ys ≤ lacking xs = table-le xs ys (omega arith) (λ a. rows (suc a)) (λ a. more (suc a)) in
    omega arith
table-lt (x ∷ xs) (y ∷ ys) e rows more (suc a) b l n =
    let first : lacking_in y ≤ lacking_in x = row-le x y (rows 0) (more 0) in
    let rest : lacking ys < lacking xs = table-lt xs ys (omega arith) (λ c. rows (suc c)) (λ c. more (suc c)) a b l n in
    omega arith

-- whether something is new, over two steps
both-idle : (a b : Bool) (x y z : List (List Bool)) → (a ≡ false → y ≡ x) → (b ≡ false → z ≡ y) → (a || b) ≡ false → z ≡ x
both-idle true b x y z p q e = absurd (true≢false e)
both-idle false b x y z p q e = q e ∙ p refl

both-fall : (a b : Bool) (x y z : List (List Bool)) → (a ≡ false → y ≡ x) → (a ≡ true → lacking y < lacking x) → (b ≡ false → z ≡ y) → (b ≡ true → lacking z < lacking y) → (a || b) ≡ true → lacking z < lacking x
both-fall true true x y z p f q g e = let u : lacking y < lacking x = f refl in let v : lacking z < lacking y = g refl in omega arith
both-fall true false x y z p f q g e = let u : lacking y < lacking x = f refl in let v : lacking z ≡ lacking y = ap lacking (q refl) in omega arith
both-fall false true x y z p f q g e = let u : lacking y ≡ lacking x = ap lacking (p refl) in let v : lacking z < lacking y = g refl in omega arith
both-fall false false x y z p f q g e = absurd (true≢false (sym e))

module _ (rows columns : ℕ) where
  -- a row and a column of the table
  pub has-row : (t : List (List Bool)) (a : ℕ) → IsTable rows columns t → a < rows → a < length t
  has-row t a is lt = subst (λ n. a < n) (sym is.count) lt

  pub has-column : (t : List (List Bool)) (a b : ℕ) → IsTable rows columns t → a < rows → b < columns → b < length (get_or t a [])
  has-column t a b is lt below = subst (λ n. b < n) (sym (is.each a lt)) below

  same-rows : (old new : List (List Bool)) → IsTable rows columns old → IsTable rows columns new → (a : ℕ) → length (get_or new a []) ≡ length (get_or old a [])
  same-rows old new is now a = elim (cases_lt a rows) [
    | inl lt ↦ now.each a lt ∙ sym (is.each a lt)
    | inr past ↦
        ap length (get_or_past new a [] (subst (λ n. n ≤ a) (sym now.count) past))
        ∙ sym (ap length (get_or_past old a [] (subst (λ n. n ≤ a) (sym is.count) past)))
  ]

  -- a pair of a table lies in it
  pub pair-row : (t : List (List Bool)) (a b : ℕ) → IsTable rows columns t → HasPair t a b → a < rows
  pair-row t a b is has = elim (cases_lt a rows) [
    | inl lt ↦ lt
    | inr past ↦ absurd (true≢false (sym has ∙ ap (λ (row : List Bool). get_or row b false) (get_or_past t a [] (subst (λ n. n ≤ a) (sym is.count) past))))
  ]

  pub pair-column : (t : List (List Bool)) (a b : ℕ) → IsTable rows columns t → HasPair t a b → b < columns
  pair-column t a b is has = elim (cases_lt b columns) [
    | inl lt ↦ lt
    | inr past ↦ absurd (true≢false (sym has ∙ get_or_past (get_or t a []) b false (subst (λ n. n ≤ b) (sym (is.each a (pair-row t a b is has))) past)))
  ]

  falls-by : (old new : List (List Bool)) (Q : ℕ → ℕ → Type 0) → IsTable rows columns old → IsTable rows columns new → Gains old new Q → (a b : ℕ) → LacksPair old a b → HasPair new a b → lacking new < lacking old
  falls-by old new Q is now gains a b l n = table-lt old new (now.count ∙ sym is.count) (same-rows old new is now) (λ c d had. (gains c d).1 (inl had)) a b l n

  -- nothing is new
  pub grows-none : (t : List (List Bool)) (Q : ℕ → ℕ → Type 0) → IsTable rows columns t → ((a b : ℕ) → Q a b → HasPair t a b) → Grows rows columns t t false Q
  grows-none t Q is there = record {
    gains = λ a b. (λ has. inl has, λ either. elim either [ inl had ↦ had | inr q ↦ there a b q ]);
    shape = is;
    idle = λ e. refl;
    falls = λ e. absurd (true≢false (sym e));
  }

  -- one pair is new
  pub grows-one : (old new : List (List Bool)) (a b : ℕ) → IsTable rows columns old → a < rows → Gains old new (λ c d. (c ≡ a) × (d ≡ b)) → KeepsShape old new → LacksPair old a b
      → Grows rows columns old new true (λ c d. (c ≡ a) × (d ≡ b))
  grows-one old new a b is lt gains keeps lacks =
      let now : IsTable rows columns new = keeps rows columns is in
      record {
        gains = gains;
        shape = now;
        idle = λ e. absurd (true≢false e);
        falls = λ e. falls-by old new (λ c d. (c ≡ a) × (d ≡ b)) is now gains a b lacks ((gains a b).1 (inr (refl, refl)));
      }

  -- a row is joined in kept columns
  pub grows-kept : (old new : List (List Bool)) (to : ℕ) (other kept : List Bool) (result : Bool) → IsTable rows columns old → Gains old new (λ c d. (c ≡ to) × Has other d × Has kept d) → KeepsShape old new
      → (IsTrue result → AddsKept other kept (get_or old to [])) → (result ≡ false → new ≡ old) → Grows rows columns old new result (λ c d. (c ≡ to) × Has other d × Has kept d)
  grows-kept old new to other kept result is gains keeps changed idle =
      let now : IsTable rows columns new = keeps rows columns is in
      record {
        gains = gains;
        shape = now;
        idle = idle;
        falls = λ e. let x : AddsKept other kept (get_or old to []) = changed e in
            falls-by old new (λ c d. (c ≡ to) × Has other d × Has kept d) is now gains to x.0 x.3 ((gains to x.0).1 (inr (refl, x.1, x.2)));
      }

  -- the same growth, said otherwise
  pub grows-as : (old new : List (List Bool)) (changed : Bool) (Q R : ℕ → ℕ → Type 0) → Grows rows columns old new changed Q → ((a b : ℕ) → Q a b ↔ R a b) → Grows rows columns old new changed R
  grows-as old new changed Q R grows same = record {
    gains = λ a b. (
      λ has. elim ((grows.gains a b).0 has) [ inl had ↦ inl had | inr q ↦ inr ((same a b).0 q) ],
      λ either. (grows.gains a b).1 (elim either [ inl had ↦ inl had | inr r ↦ inr ((same a b).1 r) ]),
    );
    shape = grows.shape;
    idle = grows.idle;
    falls = grows.falls;
  }

  -- one growth after another
  pub grows-both : (old mid new : List (List Bool)) (first second : Bool) (Q R S : ℕ → ℕ → Type 0) → Grows rows columns old mid first Q → Grows rows columns mid new second R
      → ((a b : ℕ) → S a b ↔ (Q a b ⊎ R a b)) → Grows rows columns old new (first || second) S
  grows-both old mid new first second Q R S one two same = record {
    gains = λ a b. (
      λ has. elim ((two.gains a b).0 has) [
        | inl before ↦ elim ((one.gains a b).0 before) [ inl had ↦ inl had | inr q ↦ inr ((same a b).1 (inl q)) ]
        | inr r ↦ inr ((same a b).1 (inr r))
      ],
      λ either. (two.gains a b).1 (elim either [
        | inl had ↦ inl ((one.gains a b).1 (inl had))
        | inr s ↦ elim ((same a b).0 s) [ inl q ↦ inl ((one.gains a b).1 (inr q)) | inr r ↦ inr r ]
      ]),
    );
    shape = two.shape;
    idle = both-idle first second old mid new one.idle two.idle;
    falls = both-fall first second old mid new one.idle one.falls two.idle two.falls;
  }

-- ---- tables that gain without being asked whether something is new

-- the same gain, said otherwise
pub gains-as : (old new : List (List Bool)) (Q R : ℕ → ℕ → Type 0) → Gains old new Q → ((a b : ℕ) → Q a b ↔ R a b) → Gains old new R
gains-as old new Q R gains same a b = (
  λ has. elim ((gains a b).0 has) [ inl had ↦ inl had | inr q ↦ inr ((same a b).0 q) ],
  λ either. (gains a b).1 (elim either [ inl had ↦ inl had | inr r ↦ inr ((same a b).1 r) ]),
)

-- one gain after another
pub gains-both : (old mid new : List (List Bool)) (Q R S : ℕ → ℕ → Type 0) → Gains old mid Q → Gains mid new R → ((a b : ℕ) → S a b ↔ (Q a b ⊎ R a b)) → Gains old new S
gains-both old mid new Q R S one two same a b = (
  λ has. elim ((two a b).0 has) [
    | inl before ↦ elim ((one a b).0 before) [ inl had ↦ inl had | inr q ↦ inr ((same a b).1 (inl q)) ]
    | inr r ↦ inr ((same a b).1 (inr r))
  ],
  λ either. (two a b).1 (elim either [
    | inl had ↦ inl ((one a b).1 (inl had))
    | inr s ↦ elim ((same a b).0 s) [ inl q ↦ inl ((one a b).1 (inr q)) | inr r ↦ inr r ]
  ]),
)

-- no gain
pub gains-none : (t : List (List Bool)) (Q : ℕ → ℕ → Type 0) → ((a b : ℕ) → Q a b → HasPair t a b) → Gains t t Q
gains-none t Q there a b = (λ has. inl has, λ either. elim either [ inl had ↦ had | inr q ↦ there a b q ])
