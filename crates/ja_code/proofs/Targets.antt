-- Where offsets in two's complement lead.
use Rattle.std.proofs.Common.{◌≡◌, ℕ, ◌+◌, ◌^◌, ◌<◌, ◌≤◌, arith, inl, inr}
use Rattle.std.specs.Prelude.{◌↔◌}
use Rattle.std.proofs.lemmas.Bool.{cases_lt, lt-ltb, le-ltb}
use Rattle.ja_code.specs.Bytes.{near, far}

pub far_is : (pc n place : ℕ) → pc < 2 ^ 16 → n < 2 ^ 32 → place < 2 ^ 16
    → (far pc n ≡ place) ↔ ((n < 2 ^ 31 → place ≡ pc + n) × (2 ^ 31 ≤ n → place + 2 ^ 32 ≡ pc + n))
far_is pc n place p q r = elim (cases_lt n (2 ^ 31)) [
  | inl below ↦ (λ h. (λ b. omega arith, λ a. omega arith), λ h. let e : place ≡ pc + n = h.0 below in omega arith)
  | inr above ↦ (λ h. (λ b. omega arith, λ a. omega arith), λ h. let e : place + 2 ^ 32 ≡ pc + n = h.1 above in omega arith)
]

pub near_is : (pc n place : ℕ) → pc < 2 ^ 16 → n < 2 ^ 16 → place < 2 ^ 16
    → (near pc n ≡ place) ↔ ((n < 2 ^ 15 → place ≡ pc + n) × (2 ^ 15 ≤ n → place + 2 ^ 16 ≡ pc + n))
near_is pc n place p q r = elim (cases_lt n 32768) [
  | inl below ↦
      rw (lt-ltb n 32768 below) (λ h. (λ b. omega arith, λ a. omega arith), λ h. let e : place ≡ pc + n = h.0 below in omega arith)
  | inr above ↦
      rw (le-ltb n 32768 above) (λ h. (λ b. omega arith, λ a. omega arith), λ h. let e : place + 2 ^ 16 ≡ pc + n = h.1 above in omega arith)
]
