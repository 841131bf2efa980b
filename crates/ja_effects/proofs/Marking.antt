-- A table of effects that gains some.
use Rattle.std.proofs.Common.{◌≡◌, ◌⊎◌, ◌↔◌, inl, inr, ℕ, zero, suc, ◌+◌, ◌<◌, ◌≤◌, Bool, true, false, ◌||◌, List, [], ◌∷◌, Some, length, get_or, set, refl, sym, ap, subst, ◌∙◌, true≢false, arith}
use Rattle.std.specs.Prelude.{slice_get}
use Rattle.std.proofs.lemmas.Bool.{cases_lt, cases_eq, cases_Bool}
use Rattle.std.proofs.lemmas.List.{get_or-set_same, get_or-set_other, get_or_past}
use Rattle.std.proofs.lemmas.Option.{same_Some}
use Rattle.ja_ir.specs.declared.program.Parts.{Parts}
use Rattle.ja_ir.specs.declared.method.Method.{Method}
use Rattle.ja_ir.specs.Params.{param_count}
use Rattle.ja_sets.specs.Sets.{Has, HasPair}
use Rattle.ja_sets.proofs.Members.{Has-set}
use Rattle.ja_facts.specs.Sharing.{Root, Name, Old}
use Rattle.ja_facts.specs.FactTables.{has_effect, slot_count, name_count}
use Rattle.ja_facts.specs.Listing.{with_listed_in}
use Rattle.ja_facts.specs.Told.{IsNamed, IsEffectNumber, PairHas, EffectHas}
use Rattle.ja_names.specs.Frames.{IsFrameOf, old_of}
use Rattle.ja_names.specs.Tables.{HasPairSets, HasFlags}
use Rattle.ja_names.specs.declared.frame.Frame.{Frame}
use Rattle.ja_names.proofs.Numbers.{one-root, old-named, named-old, pair-told, effect-below}
use Rattle.ja_effects.specs.Inner.{Gains, IsTouched, Pairs, lacking, lacking_in}

-- a row with something in it is one of the table
row-there : (table : List (List Bool)) (m k : ℕ) → k < length (get_or table m []) → m < length table
row-there table m k lt = elim (cases_lt m (length table)) [
  | inl there ↦ there
  | inr past ↦ absurd (let e : length (get_or table m []) ≡ 0 = ap length (get_or_past table m [] past) in omega arith)
]

lacks-one : (flags : List Bool) (k : ℕ) → get_or flags k false ≡ false → k < length flags → lacking_in (set flags k true) < lacking_in flags
lacks-one [] k l lt = absurd (omega arith)
lacks-one (true ∷ flags) zero l lt = absurd (true≢false l)
lacks-one (false ∷ flags) zero l lt = omega arith
lacks-one (true ∷ flags) (suc k) l lt = lacks-one flags k l (omega arith)
lacks-one (false ∷ flags) (suc k) l lt = let less : lacking_in (set flags k true) < lacking_in flags = lacks-one flags k l (omega arith) in omega arith

-- one effect less is lacking
pub lacks-less : (table : List (List Bool)) (m k : ℕ) → has_effect table m k ≡ false → k < length (get_or table m []) → lacking (with_listed_in table m k true) < lacking table
lacks-less [] m k l lt = absurd (omega arith)
lacks-less (flags ∷ table) zero k l lt = let less : lacking_in (set flags k true) < lacking_in flags = lacks-one flags k l lt in omega arith
lacks-less (flags ∷ table) (suc m) k l lt = let less : lacking (with_listed_in table m k true) < lacking table = lacks-less table m k l lt in omega arith

marked-bit : (table : List (List Bool)) (m k n l : ℕ) → k < length (get_or table m []) → (has_effect (with_listed_in table m k true) n l ≡ true) ↔ (((n ≡ m) × (l ≡ k)) ⊎ (has_effect table n l ≡ true))
marked-bit table m k n l lt =
    let there : m < length table = row-there table m k lt in
    let row : get_or (with_listed_in table m k true) m [] ≡ set (get_or table m []) k true = get_or-set_same table m (set (get_or table m []) k true) [] there in
    let both : Has (set (get_or table m []) k true) l ↔ ((l ≡ k) ⊎ Has (get_or table m []) l) = Has-set (get_or table m []) k l lt in
    elim (cases_eq n m) [
      | inl e ↦ (
        λ h. elim (both.0 (subst (λ (s : List Bool). Has s l) row (subst (λ q. Has (get_or (with_listed_in table m k true) q []) l) e h))) [
          | inl f ↦ inl (e, f)
          | inr old ↦ inr (subst (λ q. Has (get_or table q []) l) (sym e) old)
        ],
        λ h. subst (λ q. Has (get_or (with_listed_in table m k true) q []) l) (sym e) (subst (λ (s : List Bool). Has s l) (sym row) (both.1 (elim h [
          | inl new ↦ inl new.1
          | inr old ↦ inr (subst (λ q. Has (get_or table q []) l) e old)
        ]))),
      )
      | inr ne ↦
          let other : get_or (with_listed_in table m k true) n [] ≡ get_or table n [] = get_or-set_other table m n (set (get_or table m []) k true) [] ne in (
            λ h. inr (subst (λ (s : List Bool). Has s l) other h),
            λ h. elim h [ inl new ↦ absurd (ne new.0) | inr old ↦ subst (λ (s : List Bool). Has s l) (sym other) old ],
          )
    ]

module _ (p : Parts) where
  pub mark-gains : (table : List (List Bool)) (m k : ℕ) (method : Method) (r : Root) → slice_get p.methods m ≡ Some method → HasFlags p table → IsEffectNumber method r k
      → Gains p table (with_listed_in table m k true) (λ n s. (n ≡ m) × (s ≡ r))
  mark-gains table m k method r found flags number n s =
      let inside : k < length (get_or table m []) = let below = effect-below method number in let size = flags m method found in omega arith in (
        λ h. elim ((marked-bit table m k n h.k inside).0 h.member) [
          | inl new ↦
              let same : h.method ≡ method = same_Some h.method method (sym h.found ∙ ap (slice_get p.methods) new.0 ∙ found) in
              inr (new.0, one-root method (subst (λ (q : Method). IsEffectNumber q s h.k) same h.is) number new.1)
          | inr old ↦ inl (record { method = h.method; found = h.found; k = h.k; is = h.is; member = old })
        ],
        λ h. elim h [
          | inl old ↦ record { method = old.method; found = old.found; k = old.k; is = old.is; member = (marked-bit table m k n old.k inside).1 (inr old.member) }
          | inr new ↦ record {
            method = method;
            found = ap (slice_get p.methods) new.0 ∙ found;
            k = k;
            is = subst (λ q. IsEffectNumber method q k) (sym new.1) number;
            member = (marked-bit table m k n k inside).1 (inl (new.0, refl));
          }
        ],
      )

  -- the same table gains what is in it
  pub gains-none : (table : List (List Bool)) (Q : ℕ → Root → Type 0) → ((n : ℕ) (s : Root) → Q n s → EffectHas p table n s) → Gains p table table Q
  gains-none table Q has n s = (λ h. inl h, λ h. elim h [ inl old ↦ old | inr q ↦ has n s q ])

  -- the same gain, said otherwise
  pub gains-same : (old new : List (List Bool)) (Q R : ℕ → Root → Type 0) → Gains p old new Q → ((n : ℕ) (s : Root) → Q n s ↔ R n s) → Gains p old new R
  gains-same old new Q R gains same n s = (
    λ h. elim ((gains n s).0 h) [ inl had ↦ inl had | inr q ↦ inr ((same n s).0 q) ],
    λ h. (gains n s).1 (elim h [ inl had ↦ inl had | inr r ↦ inr ((same n s).1 r) ]),
  )

  -- one gain after another
  pub gains-both : (old mid new : List (List Bool)) (Q R S : ℕ → Root → Type 0) → Gains p old mid Q → Gains p mid new R → ((n : ℕ) (s : Root) → S n s ↔ (Q n s ⊎ R n s)) → Gains p old new S
  gains-both old mid new Q R S first second same n s = (
    λ h. elim ((second n s).0 h) [
      | inl before ↦ elim ((first n s).0 before) [ inl had ↦ inl had | inr q ↦ inr ((same n s).1 (inl q)) ]
      | inr r ↦ inr ((same n s).1 (inr r))
    ],
    λ h. (second n s).1 (elim h [
      | inl had ↦ inl ((first n s).1 (inl had))
      | inr both ↦ elim ((same n s).0 both) [ inl q ↦ inl ((first n s).1 (inr q)) | inr r ↦ inr r ]
    ]),
  )

  module _ (pairs : Pairs) (m i x k : ℕ) (method : Method) (frame : Frame) (found : slice_get p.methods m ≡ Some method) (is : IsFrameOf method frame) where
    pub old-number : old_of frame k ≡ slot_count method + 1 + k
    old-number = let a = is.locals in let b = is.stack in omega arith

    pub old-inside : HasPairSets p pairs → i < length method.code → k ≤ frame.params → old_of frame k < length (get_or (get_or pairs m []) i [])
    old-inside sets lt le = let size = sets.each m i method found lt in let n = old-number in let q = is.params in omega arith

    -- where the two names share, and where they do not
    pub told-old : (a : Name) (r : Root) → IsNamed method a x → IsEffectNumber method r k → PairHas p pairs m i a (Old r) ↔ HasPair (get_or (get_or pairs m []) i []) x (old_of frame k)
    told-old a r name number =
        subst (λ y. PairHas p pairs m i a (Old r) ↔ HasPair (get_or (get_or pairs m []) i []) x y) (sym old-number) (pair-told p pairs m i method a (Old r) x (slot_count method + 1 + k) found name (old-named method number))

    pub touched-none : (table : List (List Bool)) (a : Name) (r : Root) → IsNamed method a x → IsEffectNumber method r k → (HasPair (get_or (get_or pairs m []) i []) x (old_of frame k) → ⊥)
        → Gains p table table (λ n t. (n ≡ m) × (t ≡ r) × PairHas p pairs m i a (Old r))
    touched-none table a r name number none = gains-none table (λ n t. (n ≡ m) × (t ≡ r) × PairHas p pairs m i a (Old r)) (λ n s q. absurd (none ((told-old a r name number).0 q.2)))

    pub touched-one : (old new : List (List Bool)) (a : Name) (r : Root) → IsNamed method a x → IsEffectNumber method r k → HasPair (get_or (get_or pairs m []) i []) x (old_of frame k)
        → Gains p old new (λ n s. (n ≡ m) × (s ≡ r)) → Gains p old new (λ n t. (n ≡ m) × (t ≡ r) × PairHas p pairs m i a (Old r))
    touched-one old new a r name number has gains =
        gains-same old new (λ n s. (n ≡ m) × (s ≡ r)) (λ n t. (n ≡ m) × (t ≡ r) × PairHas p pairs m i a (Old r)) gains (λ n s. (λ q. (q.0, q.1, (told-old a r name number).1 has), λ q. (q.0, q.1)))

  -- what a root reached has a number where some pair has it
  named-root : (pairs : Pairs) (m i : ℕ) (method : Method) (a : Name) (r : Root) → slice_get p.methods m ≡ Some method → PairHas p pairs m i a (Old r) → (k : ℕ) × IsEffectNumber method r k
  named-root pairs m i method a r found h =
      let same : h.method ≡ method = same_Some h.method method (sym h.found ∙ found) in
      let at = named-old method (subst (λ (q : Method). IsNamed q (Old r) h.second) same h.is_second) in
      (at.0, at.1)

  module _ (pairs : Pairs) (m i : ℕ) (method : Method) (a : Name) where
    -- one number more
    pub touched-more : (old mid new : List (List Bool)) (k : ℕ) (r : Root) → Gains p old mid (IsTouched p pairs m i method a k) → IsEffectNumber method r k
        → Gains p mid new (λ n t. (n ≡ m) × (t ≡ r) × PairHas p pairs m i a (Old r)) → Gains p old new (IsTouched p pairs m i method a (k + 1))
    touched-more old mid new k r first number second =
        gains-both old mid new (IsTouched p pairs m i method a k) (λ n t. (n ≡ m) × (t ≡ r) × PairHas p pairs m i a (Old r)) (IsTouched p pairs m i method a (k + 1)) first second
        (λ n s. (
          λ t. elim (cases_lt t.k k) [
            | inl lt ↦ inl (record { here = t.here; k = t.k; number = t.number; below = lt; pair = t.pair })
            | inr past ↦
                let e : t.k ≡ k = let b = t.below in omega arith in
                let same : s ≡ r = one-root method t.number number e in
                inr (t.here, same, subst (λ q. PairHas p pairs m i a (Old q)) same t.pair)
          ],
          λ h. elim h [
            | inl t ↦ record { here = t.here; k = t.k; number = t.number; below = let b = t.below in omega arith; pair = t.pair }
            | inr q ↦ record { here = q.0; k = k; number = subst (λ z. IsEffectNumber method z k) (sym q.1) number; below = omega arith; pair = subst (λ z. PairHas p pairs m i a (Old z)) (sym q.1) q.2 }
          ],
        ))

    pub touched-start : (table : List (List Bool)) → Gains p table table (IsTouched p pairs m i method a 0)
    touched-start table = gains-none table (IsTouched p pairs m i method a 0) (λ n s t. absurd (let b = t.below in omega arith))

    -- all numbers
    pub touched-all : (old new : List (List Bool)) (bound : ℕ) → param_count method < bound → slice_get p.methods m ≡ Some method → Gains p old new (IsTouched p pairs m i method a bound)
        → Gains p old new (λ n r. (n ≡ m) × PairHas p pairs m i a (Old r))
    touched-all old new bound lt found gains =
        gains-same old new (IsTouched p pairs m i method a bound) (λ n r. (n ≡ m) × PairHas p pairs m i a (Old r)) gains
        (λ n s. (λ t. (t.here, t.pair), λ q. let at = named-root pairs m i method a s found q.1 in record { here = q.0; k = at.0; number = at.1; below = let b = effect-below method at.1 in omega arith; pair = q.1 }))

-- ---- whether something is new, over two steps

pub not-told : (b : Bool) (P : Type 0) → ((b ≡ true) ↔ P) → b ≡ false → P → ⊥
not-told b P tells stale h = true≢false (sym (tells.1 h) ∙ stale)

pub both-idle : (a b : Bool) (old mid new : List (List Bool)) → (a ≡ false → mid ≡ old) → (b ≡ false → new ≡ mid) → (a || b) ≡ false → new ≡ old
both-idle true b old mid new first second e = absurd (cc e)
both-idle false b old mid new first second e = second e ∙ first refl

pub both-steady : (b : Bool) (old mid new : List (List Bool)) → lacking mid ≤ lacking old → (b ≡ false → new ≡ mid) → (b ≡ true → lacking new < lacking mid) → lacking new ≤ lacking old
both-steady true old mid new steady idle falls = let f : lacking new < lacking mid = falls refl in omega arith
both-steady false old mid new steady idle falls = let e : lacking new ≡ lacking mid = ap lacking (idle refl) in omega arith

pub both-fall : (a b : Bool) (old mid new : List (List Bool)) → lacking mid ≤ lacking old → (a ≡ true → lacking mid < lacking old) → (b ≡ false → new ≡ mid) → (b ≡ true → lacking new < lacking mid) → (a || b) ≡ true → lacking new < lacking old
both-fall a true old mid new steady first idle falls e = let f : lacking new < lacking mid = falls refl in omega arith
both-fall true false old mid new steady first idle falls e = let s : lacking new ≡ lacking mid = ap lacking (idle refl) in let f : lacking mid < lacking old = first refl in omega arith
both-fall false false old mid new steady first idle falls e = absurd (cc e)
