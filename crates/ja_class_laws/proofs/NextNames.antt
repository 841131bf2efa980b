-- The cells of slots behind an instruction mean what is in the slots there, where those before it do.
use Rattle.std.proofs.Common.{◌≡◌, inl, inr, ℕ, ◌+◌, ◌-◌, ◌<◌, ◌≤◌, Bool, false, List, [], ◌∷◌, ◌++◌, length, get_or, sym, ap, subst, ◌∙◌, arith, nat_lt}
use Rattle.std.specs.Prelude.{slice_get, if◌then◌else◌}
use Rattle.std.proofs.lemmas.Bool.{cases_lt, lt-ltb, le-ltb}
use Rattle.std.proofs.lemmas.List.{length-take-le, get_or-take, get_or-append_right, get_or_append_left}
use Rattle.ja_ir.specs.declared.program.Parts.{Parts}
use Rattle.ja_ir.specs.declared.op.Op.{Op}
use Rattle.ja_ir.specs.Lookup.{OpAt, Leads}
use Rattle.ja_ir.specs.Operations.{pops}
use Rattle.ja_facts.proofs.LeastLaws.{Least-is_solution}
use Rattle.ja_facts.specs.Slots.{Slot, Local, OnStack, Copies, KeepsLocal, kept_local, kept_stack}
use Rattle.ja_facts.specs.ClassSets.{Rule, InSlot, Reached, moved, Passes}
use Rattle.ja_facts.specs.Analyses.{Classes}
use Rattle.ja_network.specs.declared.cell.Cell.{Cell}
use Rattle.ja_network.specs.declared.cell.Cell.TheVariants.{Nothing}
use Rattle.ja_cells.specs.Names.{locals_of}
use Rattle.ja_cells.specs.Rows.{without_last, pushed_cells}
use Rattle.ja_class_laws.proofs.Meaning.{MeansToken, slot_of}

-- the slot of a number below the number of locals, and of another
pub slot-local : (p : Parts) (m y : ℕ) → y < locals_of (slice_get p.methods m) → slot_of p m y ≡ Local y
slot-local p m y lt = ap (λ (b : Bool). if b then Local y else OnStack (y - locals_of (slice_get p.methods m))) (lt-ltb y (locals_of (slice_get p.methods m)) lt)

pub slot-stack : (p : Parts) (m k : ℕ) → slot_of p m (locals_of (slice_get p.methods m) + k) ≡ OnStack k
slot-stack p m k =
    let past : nat_lt (locals_of (slice_get p.methods m) + k) (locals_of (slice_get p.methods m)) ≡ false = le-ltb (locals_of (slice_get p.methods m) + k) (locals_of (slice_get p.methods m)) (omega arith) in
    let less : locals_of (slice_get p.methods m) + k - locals_of (slice_get p.methods m) ≡ k = omega arith in
    ap (λ (b : Bool). if b then Local (locals_of (slice_get p.methods m) + k) else OnStack (locals_of (slice_get p.methods m) + k - locals_of (slice_get p.methods m))) past ∙ ap OnStack less

module _ (p : Parts) (m i j height : ℕ) (op : Op) (row : List Cell) (reached : Classes p (Reached m i)) (at : OpAt p m i op height) (leads : Leads p m i j)
    (size : length row ≡ locals_of (slice_get p.methods m) + height) (enough : pops op ≤ height)
    (sound : (y t : ℕ) → MeansToken p (get_or row y Nothing) t → Classes p (InSlot m i (slot_of p m y) t)) where
  -- a value that is copied and passes is there behind the instruction
  pub moves : (z y : Slot) (t : ℕ) → Copies op height z y → Passes p op height z t → Classes p (InSlot m i z t) → Classes p (InSlot m j y t)
  moves z y t copy pass h = Least-is_solution (Rule p) (Reached m i ∷ InSlot m i z t ∷ []) (InSlot m j y t) (moved at leads copy pass) (reached, (h, tt))

  -- what is left stays where it is, but for a local that is stored to
  pub kept-sound : ((l t : ℕ) → Passes p op height (Local l) t) → ((k t : ℕ) → pops op + k < height → Passes p op height (OnStack k) t)
      → (y t : ℕ) → (y < locals_of (slice_get p.methods m) → KeepsLocal op y) → y < length row - pops op → Classes p (InSlot m i (slot_of p m y) t) → Classes p (InSlot m j (slot_of p m y) t)
  kept-sound pass_local pass_stack y t keeps below h = elim (cases_lt y (locals_of (slice_get p.methods m))) [
    | inl local ↦
        let is : slot_of p m y ≡ Local y = slot-local p m y local in
        subst (λ (s : Slot). Classes p (InSlot m j s t)) (sym is) (moves (Local y) (Local y) t (kept_local (keeps local)) (pass_local y t) (subst (λ (s : Slot). Classes p (InSlot m i s t)) is h))
    | inr stack ↦
        let split : y ≡ locals_of (slice_get p.methods m) + (y - locals_of (slice_get p.methods m)) = omega arith in
        let is : slot_of p m y ≡ OnStack (y - locals_of (slice_get p.methods m)) = ap (slot_of p m) split ∙ slot-stack p m (y - locals_of (slice_get p.methods m)) in
        let room : pops op + (y - locals_of (slice_get p.methods m)) < height = omega arith in
        subst (λ (s : Slot). Classes p (InSlot m j s t)) (sym is)
        (moves (OnStack (y - locals_of (slice_get p.methods m))) (OnStack (y - locals_of (slice_get p.methods m))) t (kept_stack room) (pass_stack (y - locals_of (slice_get p.methods m)) t room) (subst (λ (s : Slot). Classes p (InSlot m i s t)) is h))
  ]

  -- an operation that copies nothing but what it leaves, and pushes what its pushed cells mean
  pub plain-sound : ((l : ℕ) → KeepsLocal op l) → ((l t : ℕ) → Passes p op height (Local l) t) → ((k t : ℕ) → pops op + k < height → Passes p op height (OnStack k) t)
      → ((y t : ℕ) → MeansToken p (get_or (pushed_cells p m i op) y Nothing) t → Classes p (InSlot m j (OnStack ((height - pops op) + y)) t))
      → (y t : ℕ) → MeansToken p (get_or (without_last (pops op) row ++ pushed_cells p m i op) y Nothing) t → Classes p (InSlot m j (slot_of p m y) t)
  plain-sound keeps pass_local pass_stack pushed y t h =
      let left : length (without_last (pops op) row) ≡ length row - pops op = length-take-le (length row - pops op) row (omega arith) in
      elim (cases_lt y (length row - pops op)) [
        | inl below ↦
            let in_left : y < length (without_last (pops op) row) = omega arith in
            let same : get_or (without_last (pops op) row ++ pushed_cells p m i op) y Nothing ≡ get_or row y Nothing =
            get_or_append_left (without_last (pops op) row) (pushed_cells p m i op) Nothing y in_left ∙ get_or-take (length row - pops op) row y Nothing below in
            kept-sound pass_local pass_stack y t (λ local. keeps y) below (sound y t (subst (λ (c : Cell). MeansToken p c t) same h))
        | inr past ↦
            let same : get_or (without_last (pops op) row ++ pushed_cells p m i op) y Nothing ≡ get_or (pushed_cells p m i op) (y - (length row - pops op)) Nothing =
            get_or-append_right (without_last (pops op) row) (pushed_cells p m i op) (length row - pops op) y Nothing left past in
            let is : y ≡ locals_of (slice_get p.methods m) + ((height - pops op) + (y - (length row - pops op))) = omega arith in
            subst (λ (s : Slot). Classes p (InSlot m j s t)) (sym (ap (slot_of p m) is ∙ slot-stack p m ((height - pops op) + (y - (length row - pops op)))))
            (pushed (y - (length row - pops op)) t (subst (λ (c : Cell). MeansToken p c t) same h))
      ]
