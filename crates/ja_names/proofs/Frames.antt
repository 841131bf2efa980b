-- Frames of the methods of a whole program are small.
use Rattle.std.proofs.Common.{◌≡◌, ℕ, zero, suc, ◌+◌, ◌<◌, ◌≤◌, Bool, true, false, List, [], ◌∷◌, Some, length, refl, sym, ap, subst, ◌∙◌, sum_by, arith}
use Rattle.std.specs.Prelude.{All, slice_get}
use Rattle.std.proofs.lemmas.List.Elements.{All-get_or}
use Rattle.std.proofs.lemmas.List.Sums.{sum_by-cons}
use Rattle.std.proofs.lemmas.Option.{slice_get_within, get_or_from_slice_get, same_Some}
use Rattle.ja_base.specs.Limit.{max_frame_values}
use Rattle.ja_base.specs.Kind.{words_of}
use Rattle.ja_base.specs.Descriptor.{words_of_all}
use Rattle.ja_base.specs.declared.java_type.JavaType.{JavaType}
use Rattle.ja_base.specs.declared.java_type.Kind.{Kind}
use Rattle.ja_base.specs.declared.java_type.Kind.TheVariants.{P1, P2, R, T}
use Rattle.ja_ir.specs.declared.program.Parts.{Parts}
use Rattle.ja_ir.specs.declared.method.Method.{Method}
use Rattle.ja_ir.specs.Lookup.{is_member}
use Rattle.ja_ir.specs.Params.{param_count, params_among}
use Rattle.ja_ir.specs.Whole.{IsWhole, IsWholeMethod}

pub at-get : {A : Type 0} (P : A → Type 0) (xs : List A) (k : ℕ) (x : A) → All P xs → slice_get xs k ≡ Some x → P x
at-get P xs k x all e = subst P (get_or_from_slice_get xs k x x e) (All-get_or P xs k x (slice_get_within xs k x e) all)

some-word : (kind : Kind) → 1 ≤ words_of kind
some-word P1 = omega arith
some-word P2 = omega arith
some-word R = omega arith
some-word T = omega arith

few-params : (receiver : Bool) (types : List JavaType) → params_among receiver types ≤ words_of_all types + 1
few-params true [] = omega arith
few-params false [] = omega arith
few-params receiver (type ∷ types) =
    let w = some-word type.kind in let s = sum_by-cons (λ (t : JavaType). words_of t.kind) type types in let f = few-params receiver types in omega arith

pub params-small : (p : Parts) (m : ℕ) (method : Method) → IsWhole p → slice_get p.methods m ≡ Some method → param_count method ≤ 256
params-small p m method whole found =
    let is : IsWholeMethod p method = at-get (IsWholeMethod p) p.methods m method whole.methods found in
    let few = few-params (is_member method.flags) method.types.params in
    let most = is.spelled.spelled.most in
    omega arith

pub values-small : (p : Parts) (m : ℕ) (method : Method) → IsWhole p → slice_get p.methods m ≡ Some method → method.locals + method.stack ≤ max_frame_values
values-small p m method whole found = at-get (λ (x : Method). x.locals + x.stack ≤ max_frame_values) p.methods m method whole.frames found
