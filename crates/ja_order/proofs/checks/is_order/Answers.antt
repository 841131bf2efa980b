use Rattle.std.proofs.Common.{◌≡◌, ℕ, List, length, ◌+◌, refl, subst, arith}
use Rattle.std.proofs.lemmas.Bool.{eqb-true}
use Rattle.ja_order.specs.declared.order.Order.{Order}
use Rattle.ja_order.specs.Inner.{IsOrderOf}
use Rattle.ja_order.proofs.Checked.{checked_order}
use Rattle.ja_order.proofs.checks.is_order.Goals as goal

same-order : (words locals values : ℕ) (places slots : List ℕ) (order : Order) → places ≡ order.places → slots ≡ order.slots → IsOrderOf words locals values (record { places = places; slots = slots }) → IsOrderOf words locals values order
same-order words locals values places slots order p s is =
    subst (λ z. IsOrderOf words locals values (record { places = z; slots = order.slots })) p (subst (λ z. IsOrderOf words locals values (record { places = places; slots = z })) s is)

pub returns-then-places-dirt-2 : goal.returns-then-places-dirt-2
returns-then-places-dirt-2 c = λ last. (
    let places = c.as_slice-places.result.now in
    let slots = c.as_slice-slots.result.now in
    let between = c.if-not-is_between.ensures refl in
    let long : length places ≡ c.args.frame.locals + c.args.frame.stack + 2 = omega arith in
    let as-long : length slots ≡ c.args.frame.locals + c.args.frame.stack + 2 = omega arith in
    same-order c.args.frame.params c.args.frame.locals c.args.frame.stack places slots c.args.order.now c.as_slice-places.ensures c.as_slice-slots.ensures
    (checked_order c.args.frame.params c.args.frame.locals c.args.frame.stack (record { places = places; slots = slots }) long as-long
    (c.if-not-are_found.ensures refl) (c.if-not-are_found-2.ensures refl) (c.if-not-are_rising.ensures refl) (c.if-not-are_rising-2.ensures refl) between.0 between.1 c.if-places-dirt-2.true (eqb-true _ _ last))
    )
