-- The package in a name, byte by byte.
use Rattle.std.proofs.Common.{◌≡◌, ℕ, ◌+◌, ◌<◌, ◌≤◌, inl, inr, Bool, true, false, ◌||◌, List, [], ◌∷◌, ◌++◌, length, take, get_or, refl, sym, ap, ◌∙◌, arith}
use Rattle.std.specs.Prelude.{◌==◌, if◌then◌else◌}
use Rattle.std.specs.List.{list_any}
use Rattle.std.proofs.lemmas.Bool.{or_right, cases_Bool, eqb-true}
use Rattle.std.proofs.lemmas.List.{take_more}
use Rattle.ja_hier.specs.Faults.{package_of}

any-slash : (xs : List ℕ) → list_any (λ c. c == 47) (xs ++ 47 ∷ []) ≡ true
any-slash [] = refl
any-slash (x ∷ xs) = or_right (x == 47) (list_any (λ c. c == 47) (xs ++ 47 ∷ [])) (any-slash xs)

any-other : (xs : List ℕ) (b : ℕ) → (b == 47) ≡ false → list_any (λ c. c == 47) (xs ++ b ∷ []) ≡ list_any (λ c. c == 47) xs
any-other [] b e = ap (λ (t : Bool). t || false) e
any-other (x ∷ xs) b e = ap (λ (t : Bool). (x == 47) || t) (any-other xs b e)

at-slash : (xs : List ℕ) → package_of (xs ++ 47 ∷ []) ≡ xs
at-slash [] = refl
at-slash (x ∷ xs) =
    ap (λ (t : Bool). if t then x ∷ package_of (xs ++ 47 ∷ []) else []) (any-slash xs) ∙ ap (λ (rest : List ℕ). x ∷ rest) (at-slash xs)

at-other : (xs : List ℕ) (b : ℕ) → (b == 47) ≡ false → package_of (xs ++ b ∷ []) ≡ package_of xs
at-other [] b e = refl
at-other (x ∷ xs) b e =
    ap (λ (t : Bool). if t then x ∷ package_of (xs ++ b ∷ []) else []) (any-other xs b e)
    ∙ ap (λ (rest : List ℕ). if list_any (λ c. c == 47) xs then x ∷ rest else []) (at-other xs b e)

-- the package after one byte more
pub more_slash : (bytes : List ℕ) (i b : ℕ) → i < length bytes → b ≡ get_or bytes i b → b ≡ 47 → take i bytes ≡ package_of (take (i + 1) bytes)
more_slash bytes i b lt read e =
    sym (at-slash (take i bytes)) ∙ ap (λ c. package_of (take i bytes ++ c ∷ [])) (sym e ∙ read) ∙ ap package_of (sym (take_more bytes i b lt))

pub more_other : (bytes : List ℕ) (i b : ℕ) → i < length bytes → b ≡ get_or bytes i b → (b == 47) ≡ false → package_of (take i bytes) ≡ package_of (take (i + 1) bytes)
more_other bytes i b lt read e =
    sym (at-other (take i bytes) b e) ∙ ap (λ c. package_of (take i bytes ++ c ∷ [])) read ∙ ap package_of (sym (take_more bytes i b lt))

pub package-more : (bytes : List ℕ) (i b len new : ℕ) → i < length bytes → b ≡ get_or bytes i b → len ≤ i → take len bytes ≡ package_of (take i bytes) → new ≡ (if b == 47 then i else len)
    → (new ≤ i + 1) × (take new bytes ≡ package_of (take (i + 1) bytes))
package-more bytes i b len new lt read within so-far e =
    elim (cases_Bool (b == 47)) [
      | inl slash ↦
          let at : new ≡ i = e ∙ ap (λ (t : Bool). if t then i else len) slash in (
            omega (arith, at),
            ap (λ n. take n bytes) at ∙ more_slash bytes i b lt read (eqb-true b 47 slash),
          )
      | inr other ↦
          let at : new ≡ len = e ∙ ap (λ (t : Bool). if t then i else len) other in (
            omega (arith, at),
            ap (λ n. take n bytes) at ∙ so-far ∙ more_other bytes i b lt read other,
          )
    ]
