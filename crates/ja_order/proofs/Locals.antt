-- The first locals of parameters rise, and lie below the number of words that all parameters take.
use Rattle.std.proofs.Common.{◌≡◌, ℕ, zero, suc, ◌+◌, ◌<◌, ◌≤◌, Bool, true, false, List, [], ◌∷◌, refl, ap, arith}
use Rattle.std.proofs.lemmas.List.Sums.{sum_by-cons}
use Rattle.ja_base.specs.declared.java_type.Kind.{Kind}
use Rattle.ja_base.specs.declared.java_type.Kind.TheVariants.{P1, P2, R, T}
use Rattle.ja_base.specs.declared.java_type.JavaType.{JavaType}
use Rattle.ja_base.specs.Kind.{words_of}
use Rattle.ja_base.specs.Descriptor.{words_of_all}
use Rattle.ja_ir.specs.Operations.{count_of}
use Rattle.ja_ir.specs.Params.{words_before, local_among, params_among}

word-taken : (kind : Kind) → 1 ≤ words_of kind
word-taken P1 = omega arith
word-taken P2 = omega arith
word-taken R = omega arith
word-taken T = omega arith

words-rise : (types : List JavaType) (k l : ℕ) → k < l → l < params_among false types → words_before types k < words_before types l
words-rise [] k l lt less = absurd (omega arith)
words-rise (type ∷ types) k zero lt less = absurd (omega arith)
words-rise (type ∷ types) zero (suc l) lt less = let w = word-taken type.kind in omega arith
words-rise (type ∷ types) (suc k) (suc l) lt less = let w = words-rise types k l (omega arith) (omega arith) in omega arith

words-below : (types : List JavaType) (k : ℕ) → k < params_among false types → words_before types k < words_of_all types
words-below [] k lt = absurd (omega arith)
words-below (type ∷ types) zero lt =
    let w = word-taken type.kind in let s = sum_by-cons (λ (t : JavaType). words_of t.kind) type types in omega arith
words-below (type ∷ types) (suc k) lt =
    let w = words-below types k (omega arith) in let s = sum_by-cons (λ (t : JavaType). words_of t.kind) type types in omega arith

one-more : (types : List JavaType) → params_among true types ≡ suc (params_among false types)
one-more [] = refl
one-more (type ∷ types) = ap suc (one-more types)

pub locals-rise : (receiver : Bool) (types : List JavaType) (k l : ℕ) → k < l → l < params_among receiver types → local_among receiver types k < local_among receiver types l
locals-rise true types k zero lt less = absurd (omega arith)
locals-rise true types zero (suc l) lt less = omega arith
locals-rise true types (suc k) (suc l) lt less = let w = words-rise types k l (omega arith) (omega (arith, one-more types)) in omega arith
locals-rise false types k l lt less = words-rise types k l lt less

pub local-below : (receiver : Bool) (types : List JavaType) (k : ℕ) → k < params_among receiver types → local_among receiver types k < count_of receiver + words_of_all types
local-below true types zero lt = omega arith
local-below true types (suc k) lt = let w = words-below types k (omega (arith, one-more types)) in omega arith
local-below false types k lt = let w = words-below types k lt in omega arith

none-before : (types : List JavaType) → words_before types 0 ≡ 0
none-before [] = refl
none-before (type ∷ types) = refl

pub local-first : (receiver : Bool) (types : List JavaType) → local_among receiver types 0 ≡ 0
local-first true types = refl
local-first false types = none-before types
