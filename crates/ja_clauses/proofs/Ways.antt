-- Ways through methods.
use Rattle.std.proofs.Common.{◌≡◌, ℕ, ◌+◌, ◌<◌, ◌≤◌, ◌^◌, Bool, true, false, List, [], ◌∷◌, Some, sym, subst, arith}
use Rattle.std.specs.Prelude.{◌||◌, ◌&&◌, slice_get}
use Rattle.std.proofs.lemmas.List.Sums.{sum_by-cons}
use Rattle.std.proofs.lemmas.Option.{get_or_from_slice_get, slice_get_within}
use Rattle.ja_base.specs.declared.java_type.JavaType.{JavaType}
use Rattle.ja_base.specs.declared.java_type.Kind.{Kind}
use Rattle.ja_base.specs.declared.java_type.Kind.TheVariants.{P1, P2, R, T}
use Rattle.ja_base.specs.Kind.{words_of}
use Rattle.ja_base.specs.Descriptor.{words_of_all}
use Rattle.ja_ir.specs.declared.program.Parts.{Parts}
use Rattle.ja_ir.specs.declared.method.Method.{Method}
use Rattle.ja_ir.specs.Lookup.{is_member}
use Rattle.ja_ir.specs.Operations.{count_of}
use Rattle.ja_ir.specs.Params.{params_among, param_count}
use Rattle.ja_ir.specs.Whole.{IsWhole, IsWholeMethod}
use Rattle.ja_facts.specs.declared.facts.Facts.{Facts}
use Rattle.ja_facts.specs.Slots.{argument}
use Rattle.ja_facts.specs.Formulas.{any_below}
use Rattle.ja_work.specs.Told.{changes_param, changes_statics, has_statics, affected_of}
use Rattle.ja_clauses.specs.declared.through.Through.{Through}
use Rattle.ja_clauses.specs.Tables.{IsThrough, affected_by}
use Rattle.ja_clauses.proofs.Read.{same_tests}

-- each kind takes a word
some_words : (kind : Kind) → 1 ≤ words_of kind
some_words P1 = omega arith
some_words P2 = omega arith
some_words R = omega arith
some_words T = omega arith

-- there are no more parameters than words and a receiver
params_below : (receiver : Bool) (types : List JavaType) → params_among receiver types ≤ count_of receiver + words_of_all types
params_below receiver [] = omega arith
params_below receiver (type ∷ types) = let rest = params_below receiver types in let one = some_words type.kind in let s = sum_by-cons (λ (t : JavaType). words_of t.kind) type types in omega arith

count_small : (b : Bool) → count_of b ≤ 1
count_small true = omega arith
count_small false = omega arith

-- each method of a program has few parameters
pub params_few : (p : Parts) (n : ℕ) (method : Method) → IsWhole p → slice_get p.methods n ≡ Some method → param_count method < 2 ^ 32
params_few p n method whole found =
    let Whole : Method → Type 0 = IsWholeMethod p in
    let is : IsWholeMethod p method = subst Whole (get_or_from_slice_get p.methods n method method found) (whole.methods n method (slice_get_within p.methods n method found)) in
    let below = params_below (is_member method.flags) method.types.params in
    let most = is.spelled.spelled.most in
    let one = count_small (is_member method.flags) in
    omega (arith, below, most, one)

-- which slots a way may change, by what was read and by the tables
pub same_affected : (p : Parts) (f : Facts) (m i n count under : ℕ) (through : Through) → IsThrough p f m i n count under through → affected_by through ≡ affected_of p f m i n count under
same_affected p f m i n count under through is =
    let tests = sym (same_tests p f m i through.before is.before) in
    sym
    (λ j y.
    any_below (λ k. changes_param (is.callee j) (is.effects j) (is.number j) k && (tests j).shares y (argument (is.lies j) k)) (is.counted j)
    || (changes_statics (is.callee j) (is.effects j) (is.number j) && has_statics (is.before.method j) (is.before.pairs j) y))
