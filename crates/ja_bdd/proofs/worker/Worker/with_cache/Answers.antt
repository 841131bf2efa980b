use Rattle.std.proofs.Common.{◌≤◌, ◌∙◌, refl, sym, ap, subst, false}
use Rattle.std.proofs.lemmas.List.{length-replicate}
use Rattle.std.specs.Prelude.{None, length}
use Rattle.ja_node_table.specs.Seats.{known}
use Rattle.ja_bdd.specs.Inner.{AreRight, AreShiftsEarly}
use Rattle.ja_bdd.specs.declared.cache.Joint.TheVariants.{And}
use Rattle.ja_bdd.proofs.Sound.{seat_sound, knows_constant}
use Rattle.ja_bdd.proofs.Cached.{right_copies, early_copies}
use Rattle.ja_bdd.proofs.Joining.{joined_one}
use Rattle.ja_bdd.proofs.worker.Worker.with_cache.Goals as goal

pub invariant_of-result : goal.invariant_of-result
invariant_of-result g c =
    let k = known c.args.seat in
    let items = c.in-Ok.ensures.items_if_clones_equal (λ y is. is) in
    let zero = knows_constant k false in
    record {
      counted = subst (λ n. (1 ≤ n) × (n ≤ 1048576)) (sym (ap length items ∙ length-replicate c.args.entries _)) c.requires.entries;
      early = subst AreShiftsEarly (sym items) (early_copies c.args.entries _ refl);
      right = ∣ subst (AreRight None k) (sym items) (right_copies None k c.args.entries _ (zero, (zero, zero, joined_one k (seat_sound c.args.seat) And 0 0 refl))) ∣₁;
    }
