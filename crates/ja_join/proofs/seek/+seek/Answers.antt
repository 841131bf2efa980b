use Rattle.std.proofs.Common.{rules, ◌+◌, ◌≤◌, true, false, refl, sym, ◌∙◌, subst, arith, ⊎_elim}
use Rattle.std.proofs.lemmas.Bool.{false≢true}
use Rattle.ja_bdd.specs.Meaning.{meaning}
use Rattle.ja_bdd.specs.Workers.{seen}
use Rattle.ja_bdd.proofs.Sound.{seat_sound}
use Rattle.ja_join.specs.Inner.{IsSought, AreVain}
use Rattle.ja_join.proofs.Seeking.{none_first, none_second, both_true, cut_inside, seeking_same, seeking_cut, seeking_part, vain_noted, found_vain, decided_found, found_decided, low_found, high_found, found_part}
use Rattle.ja_join.proofs.seek.+seek.Goals as goal

pub seek_from-returns-then-r-eq0-clause-is : goal.seek_from-returns-then-r-eq0-clause-is
seek_from-returns-then-r-eq0-clause-is g t c =
    let w = c.args.worker.now in
    let k = seen w in
    let sound = seat_sound w.seat in
    let var = c.args.var in
    let ahead = c.args.ahead in
    let m = c.args.memo.now in
    let r = c.args.r.number in
    let d = c.args.c.number in
    let asked = c.requires.asked in
    ((λ no. absurd (false≢true no)), (λ is. absurd (none_first k sound ahead var r (meaning k d) c.if-r-eq0.true is)))

pub seek_from-returns-then-c-eq0-clause-is : goal.seek_from-returns-then-c-eq0-clause-is
seek_from-returns-then-c-eq0-clause-is g t c =
    let w = c.args.worker.now in
    let k = seen w in
    let sound = seat_sound w.seat in
    let var = c.args.var in
    let ahead = c.args.ahead in
    let m = c.args.memo.now in
    let r = c.args.r.number in
    let d = c.args.c.number in
    let asked = c.requires.asked in
    ((λ no. absurd (false≢true no)), (λ is. absurd (none_second k sound ahead var d (meaning k r) c.if-c-eq0.true is)))

pub seek_from-returns-then-are_constant-clause-is : goal.seek_from-returns-then-are_constant-clause-is
seek_from-returns-then-are_constant-clause-is g t c =
    let w = c.args.worker.now in
    let k = seen w in
    let sound = seat_sound w.seat in
    let var = c.args.var in
    let ahead = c.args.ahead in
    let m = c.args.memo.now in
    let r = c.args.r.number in
    let d = c.args.c.number in
    let asked = c.requires.asked in
    let less = c.are_constant.ensures.yes c.if-are_constant.true in
    ((λ yes. both_true k sound ahead var r d c.if-r-eq0.false c.if-c-eq0.false less.0 less.1), (λ is. refl))

pub seek_from-returns-in-Some-clause-is : goal.seek_from-returns-in-Some-clause-is
seek_from-returns-in-Some-clause-is g t c =
    let w = c.args.worker.now in
    let k = seen w in
    let sound = seat_sound w.seat in
    let var = c.args.var in
    let ahead = c.args.ahead in
    let m = c.args.memo.now in
    let r = c.args.r.number in
    let d = c.args.c.number in
    let asked = c.requires.asked in
    ((λ no. absurd (false≢true no)), (λ is. absurd (found_vain var k m c.phase.result record { waiting = 0; seen = 0 } r d c.in-Some._vain.number ahead asked.vain c.phase.ensures c.in-Some.ensures is)))

pub seek_from-seek_parts-found-requires : goal.seek_from-seek_parts-found-requires
seek_from-seek_parts-found-requires g t c κs within =
    let w = c.args.worker.now in
    let k = seen w in
    let sound = seat_sound w.seat in
    let var = c.args.var in
    let ahead = c.args.ahead in
    let m = c.args.memo.now in
    let r = c.args.r.number in
    let d = c.args.c.number in
    let asked = c.requires.asked in
    let cut = c.cut_both-cut.result in
    let e = c.cut_both-cut.ensures in
    let both = e.cut in
    let inside : c.args.from ≤ cut.var = cut_inside k sound c.args.from cut.var c.latest.result r d cut.r_low.number cut.r_high.number cut.c_low.number cut.c_high.number var ahead asked.known asked.second asked.later asked.second_later asked.coming c.requires.var c.requires.from
    c.latest.ensures.var c.latest.ensures.last (c.are_constant.ensures.no c.if-are_constant.false) both in
    let more = seeking_cut c.args.table.now var ahead c.args.from cut.var c.latest.result w c.cut_both-cut.new.worker m r d cut.r_low.number cut.r_high.number cut.c_low.number cut.c_high.number e.worker e.same both c.latest.ensures.var asked in
    let small : cut.var ≤ 4094 = (let le = both.within in let last = c.latest.ensures.small in omega arith) in
    (omega arith, (within, (search rules, (search rules, (more.0, (more.1, (small, c.requires.var)))))))

pub seek_from-returns-then-not-found-clause-vain : goal.seek_from-returns-then-not-found-clause-vain
seek_from-returns-then-not-found-clause-vain g t c =
    let w = c.args.worker.now in
    let k = seen w in
    let sound = seat_sound w.seat in
    let var = c.args.var in
    let ahead = c.args.ahead in
    let m = c.args.memo.now in
    let r = c.args.r.number in
    let d = c.args.c.number in
    let asked = c.requires.asked in
    let cut = c.cut_both-cut.result in
    let e = c.cut_both-cut.ensures in
    let both = e.cut in
    let m2 = c.seek_parts-found.new.memo in
    let is = c.seek_parts-found.ensures.is in
    let none : ¬ IsSought ahead var (meaning k r) (meaning k d) = (λ sought. false≢true (sym c.if-not-found.true ∙ is.1 (subst (λ l. IsSought ahead var (meaning l r) (meaning l d)) (sym e.same) sought))) in
    vain_noted var k m2 c.keep.new.self record { call = m2.call; at = c.phase-then-not-found.result; states = record { waiting = 0; seen = 0 }; asked = c.args.r; told = c.args.c; made = c.args.r } ahead
    (subst (λ l. AreVain var l m2) e.same c.seek_parts-found.ensures.vain) c.phase-then-not-found.ensures none c.keep.ensures.call c.keep.ensures.kept

pub seek_from-returns-then-not-found-clause-is : goal.seek_from-returns-then-not-found-clause-is
seek_from-returns-then-not-found-clause-is g t c =
    let w = c.args.worker.now in
    let k = seen w in
    let sound = seat_sound w.seat in
    let var = c.args.var in
    let ahead = c.args.ahead in
    let m = c.args.memo.now in
    let r = c.args.r.number in
    let d = c.args.c.number in
    let asked = c.requires.asked in
    let cut = c.cut_both-cut.result in
    let e = c.cut_both-cut.ensures in
    let both = e.cut in
    let is = c.seek_parts-found.ensures.is in
    (λ yes. subst (λ l. IsSought ahead var (meaning l r) (meaning l d)) e.same (is.0 yes), λ sought. is.1 (subst (λ l. IsSought ahead var (meaning l r) (meaning l d)) (sym e.same) sought))

pub seek_from-returns-else-not-found-clause-vain : goal.seek_from-returns-else-not-found-clause-vain
seek_from-returns-else-not-found-clause-vain g t c =
    let w = c.args.worker.now in
    let k = seen w in
    let sound = seat_sound w.seat in
    let var = c.args.var in
    let ahead = c.args.ahead in
    let m = c.args.memo.now in
    let r = c.args.r.number in
    let d = c.args.c.number in
    let asked = c.requires.asked in
    let cut = c.cut_both-cut.result in
    let e = c.cut_both-cut.ensures in
    let both = e.cut in
    subst (λ l. AreVain var l c.seek_parts-found.new.memo) e.same c.seek_parts-found.ensures.vain

pub seek_from-returns-else-not-found-clause-is : goal.seek_from-returns-else-not-found-clause-is
seek_from-returns-else-not-found-clause-is g t c =
    let w = c.args.worker.now in
    let k = seen w in
    let sound = seat_sound w.seat in
    let var = c.args.var in
    let ahead = c.args.ahead in
    let m = c.args.memo.now in
    let r = c.args.r.number in
    let d = c.args.c.number in
    let asked = c.requires.asked in
    let cut = c.cut_both-cut.result in
    let e = c.cut_both-cut.ensures in
    let both = e.cut in
    let is = c.seek_parts-found.ensures.is in
    (λ yes. subst (λ l. IsSought ahead var (meaning l r) (meaning l d)) e.same (is.0 yes), λ sought. is.1 (subst (λ l. IsSought ahead var (meaning l r) (meaning l d)) (sym e.same) sought))

pub seek_parts-seek_from-requires-clause-asked : goal.seek_parts-seek_from-requires-clause-asked
seek_parts-seek_from-requires-clause-asked g t c κs within =
    let w = c.args.worker.now in
    let k = seen w in
    let sound = seat_sound w.seat in
    let var = c.args.var in
    let ahead = c.args.ahead in
    let m = c.args.memo.now in
    let r = c.args.r.number in
    let d = c.args.c.number in
    let asked = c.requires.asked in
    let cut = c.args.cut in
    let both = c.requires.cut in
    seeking_part c.args.table.now var false cut.var w m r d cut.r_high.number cut.c_high.number true (λ e. absurd (false≢true e)) asked.worker both.first.from both.second.from both.first.high both.second.high asked.vain

pub seek_parts-returns-then-decides-clause-is : goal.seek_parts-returns-then-decides-clause-is
seek_parts-returns-then-decides-clause-is g t c =
    let w = c.args.worker.now in
    let k = seen w in
    let sound = seat_sound w.seat in
    let var = c.args.var in
    let ahead = c.args.ahead in
    let m = c.args.memo.now in
    let r = c.args.r.number in
    let d = c.args.c.number in
    let asked = c.requires.asked in
    let cut = c.args.cut in
    let both = c.requires.cut in
    let yes = c.decides.ensures.yes c.if-decides.true in
    let is = c.seek_from.ensures.is in (
      λ found. decided_found k sound var cut.var r d cut.r_low.number cut.r_high.number cut.c_low.number cut.c_high.number both.first both.second ahead yes.1 (is.0 found),
      λ sought. is.1 (found_decided k sound var cut.var r d cut.r_low.number cut.r_high.number cut.c_low.number cut.c_high.number both.first both.second ahead yes.0 yes.1 sought),
    )

pub seek_parts-seek_from-is_low-requires-clause-asked : goal.seek_parts-seek_from-is_low-requires-clause-asked
seek_parts-seek_from-is_low-requires-clause-asked g t c κs within =
    let w = c.args.worker.now in
    let k = seen w in
    let sound = seat_sound w.seat in
    let var = c.args.var in
    let ahead = c.args.ahead in
    let m = c.args.memo.now in
    let r = c.args.r.number in
    let d = c.args.c.number in
    let asked = c.requires.asked in
    let cut = c.args.cut in
    let both = c.requires.cut in
    let ne = c.decides.ensures.no c.if-decides.false in
    seeking_part c.args.table.now var ahead cut.var w m r d cut.r_low.number cut.c_low.number false (λ e. let le = asked.coming e in let apart = ne e in omega arith) asked.worker both.first.from both.second.from both.first.low both.second.low asked.vain

pub seek_parts-returns-then-is_low-clause-is : goal.seek_parts-returns-then-is_low-clause-is
seek_parts-returns-then-is_low-clause-is g t c =
    let w = c.args.worker.now in
    let k = seen w in
    let sound = seat_sound w.seat in
    let var = c.args.var in
    let ahead = c.args.ahead in
    let m = c.args.memo.now in
    let r = c.args.r.number in
    let d = c.args.c.number in
    let asked = c.requires.asked in
    let cut = c.args.cut in
    let both = c.requires.cut in
    let ne = c.decides.ensures.no c.if-decides.false in
    (λ yes. low_found k sound var cut.var r d cut.r_low.number cut.r_high.number cut.c_low.number cut.c_high.number both.first both.second ahead ne (c.seek_from-is_low.ensures.is.0 c.if-is_low.true), λ sought. refl)

pub seek_parts-seek_from-requires-2-clause-asked : goal.seek_parts-seek_from-requires-2-clause-asked
seek_parts-seek_from-requires-2-clause-asked g t c κs within =
    let w = c.args.worker.now in
    let k = seen w in
    let sound = seat_sound w.seat in
    let var = c.args.var in
    let ahead = c.args.ahead in
    let m = c.args.memo.now in
    let r = c.args.r.number in
    let d = c.args.c.number in
    let asked = c.requires.asked in
    let cut = c.args.cut in
    let both = c.requires.cut in
    let e = c.seek_from-is_low.ensures in
    let w1 = c.seek_from-is_low.new.worker in
    let m1 = c.seek_from-is_low.new.memo in
    let ne = c.decides.ensures.no c.if-decides.false in
    seeking_same c.args.table.now var ahead (cut.var + 1) w w1 m1 cut.r_high.number cut.c_high.number e.worker e.same
    (seeking_part c.args.table.now var ahead cut.var w m1 r d cut.r_high.number cut.c_high.number true (λ is. let le = asked.coming is in let apart = ne is in omega arith) asked.worker both.first.from both.second.from both.first.high both.second.high e.vain)

pub seek_parts-returns-clause-vain : goal.seek_parts-returns-clause-vain
seek_parts-returns-clause-vain g t c =
    let w = c.args.worker.now in
    let k = seen w in
    let sound = seat_sound w.seat in
    let var = c.args.var in
    let ahead = c.args.ahead in
    let m = c.args.memo.now in
    let r = c.args.r.number in
    let d = c.args.c.number in
    let asked = c.requires.asked in
    let cut = c.args.cut in
    let both = c.requires.cut in
    let e = c.seek_from-is_low.ensures in
    let w1 = c.seek_from-is_low.new.worker in
    let m1 = c.seek_from-is_low.new.memo in
    let ne = c.decides.ensures.no c.if-decides.false in
    subst (λ l. AreVain var l c.seek_from-2.new.memo) e.same c.seek_from-2.ensures.vain

pub seek_parts-returns-clause-is : goal.seek_parts-returns-clause-is
seek_parts-returns-clause-is g t c =
    let w = c.args.worker.now in
    let k = seen w in
    let sound = seat_sound w.seat in
    let var = c.args.var in
    let ahead = c.args.ahead in
    let m = c.args.memo.now in
    let r = c.args.r.number in
    let d = c.args.c.number in
    let asked = c.requires.asked in
    let cut = c.args.cut in
    let both = c.requires.cut in
    let e = c.seek_from-is_low.ensures in
    let w1 = c.seek_from-is_low.new.worker in
    let m1 = c.seek_from-is_low.new.memo in
    let ne = c.decides.ensures.no c.if-decides.false in
    let rh = cut.r_high.number in
    let dh = cut.c_high.number in
    let is = c.seek_from-2.ensures.is in (
      λ yes. high_found k sound var cut.var r d cut.r_low.number rh cut.c_low.number dh both.first both.second ahead ne (subst (λ l. IsSought ahead var (meaning l rh) (meaning l dh)) e.same (is.0 yes)),
      λ sought. ⊎_elim
          (λ low. absurd (false≢true (sym c.if-is_low.false ∙ e.is.1 low)))
          (λ high. is.1 (subst (λ l. IsSought ahead var (meaning l rh) (meaning l dh)) (sym e.same) high))
          (found_part k sound var cut.var r d cut.r_low.number rh cut.c_low.number dh both.first both.second ahead sought),
    )
