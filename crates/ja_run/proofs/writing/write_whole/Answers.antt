use Rattle.std.proofs.Common.{◌≡◌, ◌+◌, ◌-◌, ◌≤◌, length, take, drop, sym, arith}
use Rattle.std.proofs.lemmas.List.{take_rest, length-drop, length-take-le}
use Rattle.std.specs.Io.KnownBytes.{Appends}
use Rattle.ja_io.proofs.Appending.{nothing_appended, appended_twice, appended_kept}
use Rattle.ja_run.proofs.Fronts.{take_more_front}
use Rattle.ja_run.proofs.writing.write_whole.Goals as goal

pub loop-at-preserved : goal.loop-at-preserved
loop-at-preserved g c =
    let at = c.loop-at.at in
    let text = c.args.text.now in
    let n = c.in_ok-taken.taken in
    let rest : take (length text - at) (drop at text) ≡ drop at text = take_rest text at in
    let within : n ≤ length (drop at text) = rw rest at c.in_ok-taken.ensures.within in
    let taken : Appends (g.O.Out.written c.loop-at.out) (g.O.Out.written c.write.new.self) (take n (drop at text)) =
    rw rest at c.in_ok-taken.ensures.bytes in
    record {
      within = omega (arith, within, length-drop at text);
      front = rw (take_more_front at n text c.loop-at.invariant.within)
          (appended_twice _ _ _ (take at text) (take n (drop at text)) c.loop-at.invariant.front taken);
      counted = omega (arith, c.in_ok-taken.ensures.grows);
    }
