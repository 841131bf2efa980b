use Rattle.std.proofs.Common.{◌≡◌, ℕ, ◌<◌, List, true, length, refl, sym, ap, ◌∙◌, arith, below_more}
use Rattle.std.specs.Prelude.{Some, slice_get}
use Rattle.std.proofs.lemmas.Option.{slice_get_read}
use Rattle.ja_ir.specs.declared.head.ClassHead.{ClassHead}
use Rattle.ja_ir.specs.declared.head.HeadMethod.{HeadMethod}
use Rattle.ja_hier.specs.Faults.{CrossesPackage, Crosses}
use Rattle.ja_hier.proofs.Crossings.{crosses-at, crossing-inside}
use Rattle.ja_hier.proofs.Numbers.{methods-few}
use Rattle.ja_hier.proofs.crossing.crossing_method.Goals as goal

pub returns-then-crosses-clause-some : goal.returns-then-crosses-clause-some
returns-then-crosses-clause-some c =
    let found : slice_get c.args.tables.now.classes c.args.class ≡ Some c.at-head.result.now = ap (λ (heads : List ClassHead). slice_get heads c.args.class) (sym c.heads.ensures) ∙ c.at-head.ensures in
    let lt : c.loop-k.k < length c.as_slice-methods.result.now = omega arith in
    let at : slice_get c.as_slice-methods.result.now c.loop-k.k ≡ Some c.index-methods-k.result = slice_get_read c.as_slice-methods.result.now (length c.as_slice-methods.result.now) c.loop-k.k c.index-methods-k.result refl lt c.index-methods-k.is in
    record {
      holds = record {
        head = c.at-head.result.now;
        found = found;
        method = c.index-methods-k.result;
        declared = ap (λ (ms : List HeadMethod). slice_get ms c.loop-k.k) (sym c.as_slice-methods.ensures) ∙ at;
        crosses = c.crosses.ensures.0 c.if-crosses.true;
      };
      before = c.loop-k.invariant;
    }

pub loop-k-preserved : goal.loop-k-preserved
loop-k-preserved c =
    let found : slice_get c.args.tables.now.classes c.args.class ≡ Some c.at-head.result.now = ap (λ (heads : List ClassHead). slice_get heads c.args.class) (sym c.heads.ensures) ∙ c.at-head.ensures in
    let lt : c.loop-k.k < length c.as_slice-methods.result.now = omega arith in
    let at : slice_get c.as_slice-methods.result.now c.loop-k.k ≡ Some c.index-methods-k.result = slice_get_read c.as_slice-methods.result.now (length c.as_slice-methods.result.now) c.loop-k.k c.index-methods-k.result refl lt c.index-methods-k.is in
    below_more (λ (j : ℕ). CrossesPackage c.args.tables.now.classes c.args.class j → ⊥) c.loop-k.k c.loop-k.invariant
    (λ crossing.
    let crosses : Crosses c.args.tables.now.classes c.args.class c.at-head.result.now c.index-methods-k.result =
    crosses-at c.args.tables.now.classes c.args.class c.loop-k.k c.at-head.result.now c.index-methods-k.result found (ap (λ (ms : List HeadMethod). slice_get ms c.loop-k.k) (sym c.as_slice-methods.ensures) ∙ at) crossing in
    let t : c.crosses.result ≡ true = c.crosses.ensures.1 crosses in
    cc (t, c.if-crosses.false))

pub returns-clause-none : goal.returns-clause-none
returns-clause-none c = λ k crossing.
    let found : slice_get c.args.tables.now.classes c.args.class ≡ Some c.at-head.result.now = ap (λ (heads : List ClassHead). slice_get heads c.args.class) (sym c.heads.ensures) ∙ c.at-head.ensures in
    c.loop-k.invariant k (omega (arith, crossing-inside c.args.tables.now.classes c.args.class k c.at-head.result.now found crossing, ap (λ (ms : List HeadMethod). length ms) c.as_slice-methods.ensures)) crossing

pub overflow_cast-result : goal.overflow_cast-result
overflow_cast-result c =
    let found : slice_get c.args.tables.now.classes c.args.class ≡ Some c.at-head.result.now = ap (λ (heads : List ClassHead). slice_get heads c.args.class) (sym c.heads.ensures) ∙ c.at-head.ensures in
    omega (
      arith,
      methods-few c.args.tables.now.classes c.requires.indexed.numbered.methods c.args.class c.at-head.result.now found,
      ap (λ (ms : List HeadMethod). length ms) c.as_slice-methods.ensures,
    )
