-- A set that is gone through from one of its tokens to the next.
use Rattle.std.proofs.Common.{◌≡◌, ◌⊎◌, ◌↔◌, inl, inr, ℕ, ◌+◌, ◌<◌, Bool, false, List, Option, Some, None, is_some, IfNone, IsTrue, length, replicate, refl, sym, ap, subst, ◌∙◌, true≢false, arith}
use Rattle.std.proofs.lemmas.Bool.{cases_lt, cases_eq}
use Rattle.std.proofs.Math.ListN.{length-replicate}
use Rattle.ja_sets.specs.Sets.{Has, Lacks, IsNext, HasNoneFrom, union}
use Rattle.ja_sets.proofs.Members.{Has-union_iff, no-member}
use Rattle.ja_sets.proofs.Values.{length-union}
use Rattle.ja_network.specs.declared.state.CellState.{CellState}
use Rattle.ja_network.specs.Cells.{Gains}
use Rattle.ja_network.proofs.Steps.{has_or_lacks, not_both, lacks}

-- what is in the set below the place after its next token is what is below the place, and the token
pub up_to-next : (set : List Bool) (from x : ℕ) → IsNext set from x → (t : ℕ) → (Has set t × (t < x + 1)) ↔ ((Has set t × (t < from)) ⊎ (t ≡ x))
up_to-next set from x next t = (
  λ h. elim (cases_lt t from) [
    | inl below ↦ inl (h.0, below)
    | inr above ↦ elim (cases_eq t x) [
      | inl e ↦ inr e
      | inr ne ↦ let lt : t < x = let l = h.1 in omega arith in not_both set t h.0 (next.first t above lt)
    ]
  ],
  λ either. elim either [
    | inl h ↦ (h.0, let l = h.1 in let a = next.above in omega arith)
    | inr e ↦ (subst (Has set) (sym e) next.member, let l : t < x + 1 = omega arith in l)
  ],
)

-- one token more
pub gains_more : (old mid new : CellState) (S T : ℕ → Type 0) (x : ℕ) → Gains old mid S → Gains mid new (λ t. t ≡ x) → ((t : ℕ) → T t ↔ (S t ⊎ (t ≡ x))) → Gains old new T
gains_more old mid new S T x first second same = record {
  has = λ t. (
    λ h. elim ((second.has t).0 h) [
      | inl before ↦ elim ((first.has t).0 before) [ inl had ↦ inl had | inr s ↦ inr ((same t).1 (inl s)) ]
      | inr e ↦ inr ((same t).1 (inr e))
    ],
    λ either. (second.has t).1 (elim either [
      | inl had ↦ inl ((first.has t).1 (inl had))
      | inr now ↦ elim ((same t).0 now) [ inl s ↦ inl ((first.has t).1 (inr s)) | inr e ↦ inr e ]
    ]),
  );
  fresh = λ t. (
    λ h. elim ((second.fresh t).0 h) [
      | inl before ↦ elim ((first.fresh t).0 before) [ inl was ↦ inl was | inr s ↦ inr ((same t).1 (inl s.0), s.1) ]
      | inr came ↦ inr ((same t).1 (inr came.0), lacks old.has t (λ had. not_both mid.has t ((first.has t).1 (inl had)) came.1))
    ],
    λ either. (second.fresh t).1 (elim either [
      | inl was ↦ inl ((first.fresh t).1 (inl was))
      | inr now ↦ elim ((same t).0 now.0) [
        | inl s ↦ inl ((first.fresh t).1 (inr (s, now.1)))
        | inr e ↦ elim (has_or_lacks mid.has t) [
          | inr not ↦ inr (e, not)
          | inl has ↦ elim ((first.has t).0 has) [ inl had ↦ not_both old.has t had now.1 | inr s ↦ inl ((first.fresh t).1 (inr (s, now.1))) ]
        ]
      ]
    ]),
  );
  has_size = second.has_size ∙ first.has_size;
  fresh_size = second.fresh_size ∙ first.fresh_size;
  links = second.links ∙ first.links;
  queued = second.queued ∙ first.queued;
}

-- the same tokens, said otherwise
pub gains_same : (old new : CellState) (S T : ℕ → Type 0) → Gains old new S → ((t : ℕ) → S t ↔ T t) → Gains old new T
gains_same old new S T g same = record {
  has = λ t. (
    λ h. elim ((g.has t).0 h) [ inl had ↦ inl had | inr s ↦ inr ((same t).0 s) ],
    λ either. (g.has t).1 (elim either [ inl had ↦ inl had | inr s ↦ inr ((same t).1 s) ]),
  );
  fresh = λ t. (
    λ h. elim ((g.fresh t).0 h) [ inl was ↦ inl was | inr s ↦ inr ((same t).0 s.0, s.1) ],
    λ either. (g.fresh t).1 (elim either [ inl was ↦ inl was | inr s ↦ inr ((same t).1 s.0, s.1) ]),
  );
  has_size = g.has_size;
  fresh_size = g.fresh_size;
  links = g.links;
  queued = g.queued;
}

-- nothing comes at first
pub gains_nothing : (state : CellState) (S : ℕ → Type 0) → ((t : ℕ) → S t → ⊥) → Gains state state S
gains_nothing state S none = record {
  has = λ t. (λ h. inl h, λ either. elim either [ inl h ↦ h | inr s ↦ absurd (none t s) ]);
  fresh = λ t. (λ h. inl h, λ either. elim either [ inl h ↦ h | inr s ↦ absurd (none t s.0) ]);
  has_size = refl;
  fresh_size = refl;
  links = refl;
  queued = refl;
}

-- past the last token there is nothing
pub up_to-all : (set : List Bool) (from : ℕ) → HasNoneFrom set from → (t : ℕ) → (Has set t × (t < from)) ↔ Has set t
up_to-all set from none t = (λ h. h.0, λ h. (h, elim (cases_lt t from) [ inl below ↦ below | inr above ↦ not_both set t h (none t above) ]))

-- a copy that was joined from nothing has what the set has
pub copy-same : (n : ℕ) (set copy : List Bool) → length set ≡ n → copy ≡ union (replicate n false) set → (t : ℕ) → Has copy t ↔ Has set t
copy-same n set copy size is t =
    let sizes : length (replicate n false) ≡ length set = length-replicate n false ∙ sym size in
    let both = Has-union_iff (replicate n false) set t sizes in (
      λ h. elim (both.0 (subst (λ (s : List Bool). Has s t) is h)) [ inl none ↦ absurd (no-member n t none) | inr has ↦ has ],
      λ h. subst (λ (s : List Bool). Has s t) (sym is) (both.1 (inr h)),
    )

pub copy-size : (n : ℕ) (set copy : List Bool) → length set ≡ n → copy ≡ union (replicate n false) set → length copy ≡ n
copy-size n set copy size is = ap length is ∙ length-union (replicate n false) set (length-replicate n false ∙ sym size) ∙ length-replicate n false

-- where a token was fresh, the cell lacked it; where none was, the cell had it
pub had-one : (set : List Bool) (token : ℕ) (fresh : Bool) → (IsTrue fresh ↔ Lacks set token) → fresh ≡ false → (t : ℕ) → t ≡ token → Has set t
had-one set token fresh tells stale t e = subst (Has set) (sym e) (elim (has_or_lacks set token) [ inl has ↦ has | inr not ↦ absurd (true≢false (sym (tells.1 not) ∙ stale)) ])

-- where nothing comes next there is nothing
pub none-left : (set : List Bool) (next : Option ℕ) → IfNone next (HasNoneFrom set 0) → is_some next ≡ false → (t : ℕ) → Has set t → ⊥
none-left set None none h t has = not_both set t has (none t (omega arith))
none-left set (Some x) none h t has = true≢false h
