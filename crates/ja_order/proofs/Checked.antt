-- What the checks find makes an order.
use Rattle.std.proofs.Common.{◌≡◌, ℕ, zero, suc, ◌+◌, ◌-◌, ◌<◌, ◌≤◌, List, length, sym, subst, arith}
use Rattle.std.specs.Prelude.{slice_index}
use Rattle.ja_order.specs.declared.order.Order.{Order}
use Rattle.ja_order.specs.Inner.{IsOrderOf, AreRising, AreFound}

-- neighbours that rise make all rise
all_rising : (places : List ℕ) (first end : ℕ) → AreRising places first end → (k n : ℕ) → first ≤ k → k + suc n < end → slice_index places k < slice_index places (k + suc n)
all_rising places first end rise k zero le lt = subst (λ z. slice_index places k < slice_index places z) (omega arith) (rise k le (omega arith))
all_rising places first end rise k (suc n) le lt =
    let before = all_rising places first end rise k n le (omega arith) in
    let last = rise (k + suc n) (omega arith) (omega arith) in
    let same : k + suc (suc n) ≡ k + suc n + 1 = omega arith in
    subst (λ z. slice_index places k < slice_index places z) (sym same) (omega arith)

rising_to : (places : List ℕ) (first end : ℕ) → AreRising places first end → (k l n : ℕ) → first ≤ k → l ≡ k + suc n → l < end → slice_index places k < slice_index places l
rising_to places first end rise k l n le e lt = subst (λ z. slice_index places k < slice_index places z) (sym e) (all_rising places first end rise k n le (omega arith))

found-below : (places numbers : List ℕ) (m n : ℕ) → m ≡ n → AreFound places numbers m → AreFound places numbers n
found-below places numbers m n e found = subst (AreFound places numbers) e found

module _ (P L S : ℕ) (order : Order) (long : length order.places ≡ L + S + 2) (as-long : length order.slots ≡ L + S + 2)
    (found : AreFound order.places order.slots (length order.places)) (back : AreFound order.slots order.places (length order.slots))
    (params : AreRising order.places 0 P) (values : AreRising order.places L (L + S))
    (first : 0 < P → 0 < S → slice_index order.places 0 < slice_index order.places L) (second : 1 < P → 0 < S → slice_index order.places L < slice_index order.places 1)
    (dirt : slice_index order.places (L + S) ≡ L + S) (exc : slice_index order.places (L + S + 1) ≡ L + S + 1) where
  pub checked_order : IsOrderOf P L S order
  checked_order = record {
    places_counted = long;
    slots_counted = as-long;
    places_found = found-below order.places order.slots (length order.places) (L + S + 2) long found;
    slots_found = found-below order.slots order.places (length order.slots) (L + S + 2) as-long back;
    params = λ k l lt less. rising_to order.places 0 P params k l (l - suc k) (omega arith) (omega arith) less;
    stack = λ k l lt less. rising_to order.places L (L + S) values (L + k) (L + l) (l - suc k) (omega arith) (omega arith) (omega arith);
    after_first = first;
    before_second = second;
    dirt = dirt;
    exc = exc;
  }
