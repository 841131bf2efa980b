use Rattle.std.proofs.Common.{◌≡◌, ℕ, suc, ◌+◌, ◌<◌, length, refl, ap, subst, arith}
use Rattle.std.specs.Prelude.{Some, slice_get}
use Rattle.std.proofs.lemmas.Option.{slice_get_read}
use Rattle.ja_class.specs.Meaning.{ClassSpelled}
use Rattle.ja_lower.specs.InnerPlaces.{PlacesUpTo, next_class}
use Rattle.ja_lower.proofs.Answered.{place-more}
use Rattle.ja_lower.proofs.UpTo.{number-fits}
use Rattle.ja_lower.proofs.place.add_places.Goals as goal

pub overflow_cast-m : goal.overflow_cast-m
overflow_cast-m c =
    let at : slice_get c.args.classes.now c.args.c ≡ Some c.index-classes-c.result = slice_get_read c.args.classes.now (length c.args.classes.now) c.args.c c.index-classes-c.result refl c.requires.inside c.index-classes-c.is in
    let lt : c.loop-m.m < length c.index-classes-c.result.head.methods = omega (arith, ap (λ (x : ClassSpelled). length x.head.methods) c.class.view_is) in
    omega (arith, number-fits c.args.classes.now c.args.c c.loop-m.m c.index-classes-c.result at lt, c.requires.numbered)

pub loop-m-preserved : goal.loop-m-preserved
loop-m-preserved c =
    let at : slice_get c.args.classes.now c.args.c ≡ Some c.index-classes-c.result = slice_get_read c.args.classes.now (length c.args.classes.now) c.args.c c.index-classes-c.result refl c.requires.inside c.index-classes-c.is in
    let lt : c.loop-m.m < length c.index-classes-c.result.head.methods = omega (arith, ap (λ (x : ClassSpelled). length x.head.methods) c.class.view_is) in
    let one : suc c.loop-m.m ≡ c.loop-m.m + 1 = omega arith in
    subst (λ (n : ℕ). PlacesUpTo c.args.classes.now c.args.c n c.push.new.self) one
    (place-more c.args.classes.now c.args.c c.loop-m.m c.index-classes-c.result (record { class = c.args.c; method = c.loop-m.m }) c.loop-m.places c.push.new.self at lt c.loop-m.invariant refl refl c.in_ok-push.ensures.ok)

pub returns : goal.returns
returns c =
    let at : slice_get c.args.classes.now c.args.c ≡ Some c.index-classes-c.result = slice_get_read c.args.classes.now (length c.args.classes.now) c.args.c c.index-classes-c.result refl c.requires.inside c.index-classes-c.is in
    let end : c.loop-m.m ≡ length c.index-classes-c.result.head.methods = omega (arith, ap (λ (x : ClassSpelled). length x.head.methods) c.class.view_is) in
    next_class c.index-classes-c.result at end c.loop-m.invariant
