-- Numbers that stop at the greatest one.
use Rattle.std.proofs.Common.{◌≡◌, ℕ, ◌+◌, ◌-◌, ◌*◌, ◌≤◌, Bool, true, false, nat_le, List, [], ◌∷◌, min, refl, ◌∙◌, arith, ◌⊎◌, inl, inr}
use Rattle.std.proofs.lemmas.Bool.Decides.{nat_tests}
use Rattle.ja_listing.specs.Number.{decimal}

-- more digits make no number smaller
pub grows : (n : ℕ) (digits : List ℕ) → n ≤ decimal n digits
unfolding decimal
grows n [] = omega arith
grows n (b ∷ digits) = omega (arith, grows (10 * n + (b - 48)) digits)

-- a number that has come to the top stays there
stays_by : (top n : ℕ) (digits : List ℕ) → (n ≤ top) ⊎ (top ≤ n) → min (decimal (min n top) digits) top ≡ min (decimal n digits) top
stays_by top n digits (inl h) = let e : min n top ≡ n = omega arith in rw e refl
stays_by top n digits (inr h) = let e : min n top ≡ top = omega arith in rw e (omega (arith, grows n digits, grows top digits))

either_by : (top n : ℕ) (b : Bool) → nat_le n top ≡ b → (n ≤ top) ⊎ (top ≤ n)
either_by top n true h = inl (grind (arith, nat_tests))
either_by top n false h = inr (grind (arith, nat_tests))

either : (top n : ℕ) → (n ≤ top) ⊎ (top ≤ n)
either top n = either_by top n (nat_le n top) refl

pub stays : (top n : ℕ) (digits : List ℕ) → min (decimal (min n top) digits) top ≡ min (decimal n digits) top
stays top n digits = stays_by top n digits (either top n)

-- one digit more, where the number is held up to the top
pub one_more : (top size new d total : ℕ) (digits : List ℕ) → new ≡ min (10 * size + (d - 48)) top → min (decimal size (d ∷ digits)) top ≡ total → min (decimal new digits) top ≡ total
unfolding decimal
one_more top size new d total digits e h = rw e (stays top (10 * size + (d - 48)) digits ∙ h)

pub no_more : (top size total : ℕ) → size ≤ top → min (decimal size []) top ≡ total → size ≡ total
unfolding decimal
no_more top size total le h = omega (arith, h)
