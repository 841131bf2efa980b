use Rattle.std.proofs.Common.{◌≡◌, ◌+◌, ◌<◌, List, [], ◌∷◌, length, length-append, refl, ap, ◌∙◌, subst, sym, arith}
use Rattle.std.specs.Prelude.{Some, None, slice_get}
use Rattle.std.proofs.lemmas.Option.{slice_get_read}
use Rattle.ja_base.specs.declared.index.NumbersByName.{NumbersByName}
use Rattle.ja_hier.proofs.ByPlace.{EachHasPlaces, each-more}
use Rattle.ja_hier.proofs.index.places_by_class.Goals as goal

pub loop-head-init : goal.loop-head-init
loop-head-init c = record {
  size = ap (λ (l : List NumbersByName). length l) c.new-places.ensures;
  each = λ d head index there here.
      let none : None ≡ Some index = ap (λ (l : List NumbersByName). slice_get l d) (sym c.new-places.ensures) ∙ here in
      absurd (cc none);
}

pub loop-head-preserved : goal.loop-head-preserved
loop-head-preserved c =
    let lt : c.loop-head.head-index < length c.args.heads.now = omega arith in
    let found : slice_get c.args.heads.now c.loop-head.head-index ≡ Some c.head-item.result = slice_get_read c.args.heads.now (length c.args.heads.now) c.loop-head.head-index c.head-item.result refl lt c.head-item.is in
    record {
      size = ap (λ (l : List NumbersByName). length l) c.in_ok-push.ensures.ok ∙ length-append c.loop-head.places (c.in_ok-index.index ∷ []) ∙ ap (λ n. n + 1) c.loop-head.invariant.size;
      each = subst (λ (places : List NumbersByName). EachHasPlaces c.args.member c.args.heads.now places) (sym c.in_ok-push.ensures.ok)
          (each-more c.args.member c.args.heads.now c.loop-head.head-index c.head-item.result c.loop-head.places c.in_ok-index.index found c.loop-head.invariant.size c.loop-head.invariant.each c.in_ok-index.ensures);
    }

pub returns : goal.returns
returns c = record { size = omega (arith, c.loop-head.invariant.size); each = c.loop-head.invariant.each }
