-- Class names byte by byte.
use Rattle.std.proofs.Common.{◌≡◌, ℕ, ◌+◌, ◌<◌, ◌⊎◌, inl, inr, Bool, true, false, List, [], ◌∷◌, ◌++◌, length, get_or, take, drop, refl, sym, ap, subst, ◌∙◌, append_assoc, arith, lit<}
use Rattle.std.proofs.lemmas.List.{take_more, take_all, take-append-drop}
use Rattle.ja_base.specs.Descriptor.{IsPartByte, IsClassName}
use Rattle.ja_bytes.specs.Longest.{Begins, IsStuck}
use Rattle.ja_bytes.specs.DescriptorText.{IsClassText}

-- bytes of a class name, from the inside of a part or from its start, to the inside of a part or a start
abbrev pub Runs : Bool → List ℕ → Bool → Type 0
Runs from [] to = from ≡ to
Runs from (b ∷ bytes) to = (IsPartByte b × Runs true bytes to) ⊎ ((b ≡ 47) × (from ≡ true) × Runs false bytes to)

-- what may follow
abbrev pub Allows : Bool → ℕ → Type 0
Allows inside b = IsPartByte b ⊎ ((b ≡ 47) × (inside ≡ true)) ⊎ ((b ≡ 59) × (inside ≡ true))

pub runs_from_name : (from : Bool) (name : List ℕ) → IsClassName name → Runs from name true
runs_from_name from [] h = absurd h
runs_from_name from (b ∷ []) h = inl (h, refl)
runs_from_name from (b ∷ c ∷ bytes) (h, inl slash) = inl (h, inr (slash.0, refl, runs_from_name false bytes slash.1))
runs_from_name from (b ∷ c ∷ bytes) (h, inr more) = inl (h, runs_from_name true (c ∷ bytes) more)

pub name_from_runs : (name : List ℕ) → Runs false name true → IsClassName name
name_from_runs [] h = absurd cc
name_from_runs (b ∷ []) (inl h) = h.0
name_from_runs (b ∷ []) (inr h) = let e : false ≡ true = h.1 in absurd cc
name_from_runs (b ∷ c ∷ bytes) (inl (p, inl h)) = (p, inr (name_from_runs (c ∷ bytes) (inl h)))
name_from_runs (b ∷ c ∷ bytes) (inl (p, inr h)) = (p, inl (h.0, name_from_runs bytes h.2))
name_from_runs (b ∷ c ∷ bytes) (inr h) = let e : false ≡ true = h.1 in absurd cc

pub runs-part : (from : Bool) (bytes : List ℕ) (to : Bool) (b : ℕ) → Runs from bytes to → IsPartByte b → Runs from (bytes ++ b ∷ []) true
runs-part from [] to b h p = inl (p, refl)
runs-part from (a ∷ bytes) to b (inl h) p = inl (h.0, runs-part true bytes to b h.1 p)
runs-part from (a ∷ bytes) to b (inr h) p = inr (h.0, h.1, runs-part false bytes to b h.2 p)

pub runs-slash : (from : Bool) (bytes : List ℕ) (b : ℕ) → Runs from bytes true → b ≡ 47 → Runs from (bytes ++ b ∷ []) false
runs-slash from [] b h e = inr (e, h, refl)
runs-slash from (a ∷ bytes) b (inl h) e = inl (h.0, runs-slash true bytes b h.1 e)
runs-slash from (a ∷ bytes) b (inr h) e = inr (h.0, h.1, runs-slash false bytes b h.2 e)

-- what may follow the bytes that a class name begins with
pub allowed : (from : Bool) (bytes : List ℕ) (to : Bool) (b : ℕ) (more name tail : List ℕ) → Runs from bytes to → Runs from name true
    → bytes ++ b ∷ more ≡ name ++ 59 ∷ tail → Allows to b
allowed from [] to b more [] tail h k e = inr (inr (cc, sym h ∙ k))
allowed from [] to b more (c ∷ name) tail h (inl k) e = let same : c ≡ b = cc in inl (subst IsPartByte same k.0)
allowed from [] to b more (c ∷ name) tail h (inr k) e = inr (inl (cc, sym h ∙ k.1))
allowed from (a ∷ bytes) to b more [] tail (inl h) k e = let same : a ≡ 59 = cc in absurd (h.0.2 same)
allowed from (a ∷ bytes) to b more [] tail (inr h) k e = let same : a ≡ 59 = cc in absurd (omega (arith, h.0))
allowed from (a ∷ bytes) to b more (c ∷ name) tail (inl h) (inl k) e = allowed true bytes to b more name tail h.1 k.1 cc
allowed from (a ∷ bytes) to b more (c ∷ name) tail (inl h) (inr k) e = let same : a ≡ 47 = cc in absurd (h.0.4 same)
allowed from (a ∷ bytes) to b more (c ∷ name) tail (inr h) (inl k) e = let same : c ≡ 47 = cc in absurd (k.0.4 same)
allowed from (a ∷ bytes) to b more (c ∷ name) tail (inr h) (inr k) e = allowed false bytes to b more name tail h.2 k.2 cc

-- no ';' stands in a class name
pub no_end : (from : Bool) (bytes : List ℕ) (to : Bool) (name tail : List ℕ) → Runs from bytes to → bytes ≡ name ++ 59 ∷ tail → ⊥
no_end from [] to [] tail h e = absurd cc
no_end from [] to (c ∷ name) tail h e = absurd cc
no_end from (a ∷ bytes) to [] tail (inl h) e = let same : a ≡ 59 = cc in absurd (h.0.2 same)
no_end from (a ∷ bytes) to [] tail (inr h) e = let same : a ≡ 59 = cc in absurd (omega (arith, h.0))
no_end from (a ∷ bytes) to (c ∷ name) tail (inl h) e = no_end true bytes to name tail h.1 cc
no_end from (a ∷ bytes) to (c ∷ name) tail (inr h) e = no_end false bytes to name tail h.2 cc

letter_a : IsPartByte 97
letter_a = (lit< tt, λ e. omega arith, λ e. omega arith, λ e. omega arith, λ e. omega arith)

-- each front of a class name goes on to one
pub goes_on : (front : List ℕ) (inside : Bool) → Runs false front inside → Begins IsClassText front
goes_on front true h = record { more = 59 ∷ []; text = record { name = front; class = name_from_runs front h; parts = refl } }
goes_on front false h = record {
  more = 97 ∷ 59 ∷ [];
  text = record {
    name = front ++ 97 ∷ [];
    class = name_from_runs (front ++ 97 ∷ []) (runs-part false front false 97 h letter_a);
    parts = sym (append_assoc front (97 ∷ []) (59 ∷ []));
  };
}

-- a class name ends
pub name_ends : (bytes : List ℕ) (i : ℕ) → i < length bytes → Runs false (take i bytes) true → get_or bytes i 0 ≡ 59 → IsClassText (take (i + 1) bytes)
name_ends bytes i lt h e = record { name = take i bytes; class = name_from_runs (take i bytes) h; parts = take_more bytes i 0 lt ∙ ap (λ (b : ℕ). take i bytes ++ b ∷ []) e }

-- a byte that may not follow
pub name_stuck : (bytes : List ℕ) (i : ℕ) (inside : Bool) → i < length bytes → Runs false (take i bytes) inside → (Allows inside (get_or bytes i 0) → ⊥) → IsStuck IsClassText bytes i
name_stuck bytes i inside lt h bad =
    let b = get_or bytes i 0 in
    let dead : (text more tail : List ℕ) → IsClassText text → take (i + 1) bytes ++ more ≡ text ++ tail → ⊥ =
    λ text more tail class e.
    bad (allowed false (take i bytes) inside b more class.name tail h (runs_from_name false class.name class.class)
    (sym (append_assoc (take i bytes) (b ∷ []) more) ∙ ap (λ (x : List ℕ). x ++ more) (sym (take_more bytes i 0 lt)) ∙ e ∙ ap (λ (x : List ℕ). x ++ tail) class.parts ∙ append_assoc class.name (59 ∷ []) tail)) in
    record {
      within = omega arith;
      begins = goes_on (take i bytes) inside h;
      dead = λ lt text more tail class e. dead text more tail class e;
      none = λ text tail class e. dead text (drop (i + 1) bytes) tail class (take-append-drop (i + 1) bytes ∙ e);
    }

-- the bytes end inside
pub name_cut : (bytes : List ℕ) (inside : Bool) → Runs false bytes inside → IsStuck IsClassText bytes (length bytes)
name_cut bytes inside h = record {
  within = omega arith;
  begins = rw (take_all (length bytes) bytes (omega arith)) (goes_on bytes inside h);
  dead = λ lt text more tail class e. absurd (omega (arith, lt));
  none = λ text tail class e. no_end false bytes inside class.name tail h (e ∙ ap (λ (x : List ℕ). x ++ tail) class.parts ∙ append_assoc class.name (59 ∷ []) tail);
}

-- one byte further
pub runs_on : (bytes : List ℕ) (i : ℕ) (inside to : Bool) → i < length bytes → Runs false (take i bytes) inside
    → (IsPartByte (get_or bytes i 0) × (to ≡ true)) ⊎ ((get_or bytes i 0 ≡ 47) × (inside ≡ true) × (to ≡ false)) → Runs false (take (i + 1) bytes) to
runs_on bytes i inside to lt h (inl p) =
    subst (λ (t : Bool). Runs false (take (i + 1) bytes) t) (sym p.1) (rw (take_more bytes i 0 lt) (runs-part false (take i bytes) inside (get_or bytes i 0) h p.0))
runs_on bytes i inside to lt h (inr p) =
    subst (λ (t : Bool). Runs false (take (i + 1) bytes) t) (sym p.2)
    (rw (take_more bytes i 0 lt) (runs-slash false (take i bytes) (get_or bytes i 0) (subst (λ (t : Bool). Runs false (take i bytes) t) p.1 h) p.0))

-- a byte that is none of a name, and no ';' behind a part
pub not_allowed : (inside : Bool) (b : ℕ) → (IsPartByte b ⊎ ((b ≡ 47) × (inside ≡ true)) → ⊥) → (b ≡ 59 → inside ≡ true → ⊥) → Allows inside b → ⊥
not_allowed inside b bad ended (inl p) = bad (inl p)
not_allowed inside b bad ended (inr (inl p)) = bad (inr p)
not_allowed inside b bad ended (inr (inr p)) = ended p.0 p.1
