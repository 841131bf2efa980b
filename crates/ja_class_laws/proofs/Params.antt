-- The parameters of a method and their locals.
use Rattle.std.proofs.Common.{◌≡◌, ℕ, zero, suc, ◌+◌, ◌<◌, ◌≤◌, Bool, true, false, List, [], ◌∷◌, Some, length, arith}
use Rattle.std.proofs.lemmas.Option.{slice_get_within}
use Rattle.std.proofs.lemmas.List.Sums.{sum_by-cons}
use Rattle.ja_base.specs.declared.java_type.Kind.{Kind}
use Rattle.ja_base.specs.declared.java_type.Kind.TheVariants.{P1, P2, R, T}
use Rattle.ja_base.specs.declared.java_type.JavaType.{JavaType}
use Rattle.ja_base.specs.Kind.{words_of}
use Rattle.ja_base.specs.Descriptor.{words_of_all}
use Rattle.ja_ir.specs.Operations.{count_of}
use Rattle.ja_ir.specs.Params.{words_before, local_among, params_among, type_among}

pub some_words : (kind : Kind) → 1 ≤ words_of kind
some_words P1 = omega arith
some_words P2 = omega arith
some_words R = omega arith
some_words T = omega arith

pub params-count : (receiver : Bool) (types : List JavaType) → params_among receiver types ≡ count_of receiver + length types
params-count receiver [] = omega arith
params-count receiver (type ∷ types) = let rest = params-count receiver types in omega arith

-- a parameter that has a type is one
pub typed-below : (receiver : Bool) (types : List JavaType) (k : ℕ) (type : JavaType) → type_among receiver types k ≡ Some type → k < params_among receiver types
typed-below true types zero type e = absurd (cc e)
typed-below true types (suc k) type e =
    let below : k < length types = slice_get_within types k type e in
    let count : params_among true types ≡ 1 + length types = params-count true types in
    omega arith
typed-below false types k type e =
    let below : k < length types = slice_get_within types k type e in
    let count : params_among false types ≡ 0 + length types = params-count false types in
    omega arith

-- the words before a type and its own are among those of all
pub words-below : (types : List JavaType) (k : ℕ) → k < length types → words_before types k < words_of_all types
words-below [] k lt = absurd (omega arith)
words-below (type ∷ types) zero lt =
    let s = sum_by-cons (λ (t : JavaType). words_of t.kind) type types in
    let one = some_words type.kind in
    omega arith
words-below (type ∷ types) (suc k) lt =
    let s = sum_by-cons (λ (t : JavaType). words_of t.kind) type types in
    let rest = words-below types k (omega arith) in
    omega arith

pub local-below : (receiver : Bool) (types : List JavaType) (k : ℕ) → k < params_among receiver types → local_among receiver types k < count_of receiver + words_of_all types
local-below true types zero lt = omega arith
local-below true types (suc k) lt =
    let count : params_among true types ≡ 1 + length types = params-count true types in
    let below : words_before types k < words_of_all types = words-below types k (omega arith) in
    omega arith
local-below false types k lt =
    let count : params_among false types ≡ 0 + length types = params-count false types in
    let below : words_before types k < words_of_all types = words-below types k (omega arith) in
    omega arith
