use Rattle.std.proofs.Common.{◌≡◌, ℕ, ◌<◌, ◌++◌, Bool, true, List, length, codes, drop, refl, sym, ap, ◌∙◌, below_more}
use Rattle.std.specs.Prelude.{Some, slice_get}
use Rattle.std.proofs.lemmas.Option.{slice_get_read}
use Rattle.std.proofs.lemmas.Bool.Decides.{Decides-eqb}
use Rattle.std.proofs.lemmas.Slice.Eq.{starts_is}
use Rattle.ja_ir.specs.declared.head.ClassHead.{ClassHead}
use Rattle.ja_supertypes.specs.Faults.{IsPlatform}
use Rattle.ja_supertypes.proofs.names.check_platform.Goals as goal

-- a test that each text with the prefix passes is passed by the name of a class of the platform
passes : (heads : List ClassHead) (n : ℕ) (head : ClassHead) (bytes : List ℕ) (result : Bool) → slice_get heads n ≡ Some head → bytes ≡ head.name
    → ((rest : List ℕ) → bytes ≡ codes "java/" ++ rest → result ≡ true) → IsPlatform heads n → result ≡ true
passes heads n head bytes result found is test platform =
    let eq : Some head ≡ Some platform.head = sym found ∙ platform.found in
    let same : head ≡ platform.head = cc eq in
    test platform.rest (is ∙ ap (λ (h : ClassHead). h.name) same ∙ platform.begins)

pub loop-class-preserved : goal.loop-class-preserved
loop-class-preserved c =
    let lt : c.loop-class.class < length c.args.heads.now = c.loop-class-test.true in
    let found : slice_get c.args.heads.now c.loop-class.class ≡ Some c.index-heads-class.result = slice_get_read c.args.heads.now (length c.args.heads.now) c.loop-class.class c.index-heads-class.result refl lt c.index-heads-class.is in
    below_more (λ (b : ℕ). IsPlatform c.args.heads.now b → ⊥) c.loop-class.class c.loop-class.invariant (λ platform.
    let t : c.starts_with.result ≡ true =
    passes c.args.heads.now c.loop-class.class c.index-heads-class.result c.bytes.result.now c.starts_with.result found c.bytes.ensures
    (starts_is Decides-eqb c.bytes.result.now (codes "java/") c.starts_with.result c.starts_with.ensures.value).1 platform in
    cc (t, c.if-starts_with.false))

pub returns-then-starts_with-clause-err : goal.returns-then-starts_with-clause-err
returns-then-starts_with-clause-err c = record {
  holds = record {
    head = c.index-heads-class.result;
    found = let lt : c.loop-class.class < length c.args.heads.now = c.loop-class-test.true in slice_get_read c.args.heads.now (length c.args.heads.now) c.loop-class.class c.index-heads-class.result refl lt c.index-heads-class.is;
    rest = drop 5 c.index-heads-class.result.name;
    begins = sym c.bytes.ensures ∙ (starts_is Decides-eqb c.bytes.result.now (codes "java/") c.starts_with.result c.starts_with.ensures.value).0 c.if-starts_with.true ∙ ap (λ name. codes "java/" ++ drop 5 name) c.bytes.ensures;
  };
  before = c.loop-class.invariant;
}
