use Rattle.std.proofs.Common.{◌≡◌, ◌⊎◌, ◌+◌, ◌<◌, ℕ, Bool, true, false, List, sym, ◌∙◌, subst, inl, inr, arith}
use Rattle.std.specs.Prelude.{◌↔◌}
use mathlib.Core.Logic.{dite}
use native.Mathlib.Decide.{dec_lt}
use Rattle.ja_sets.specs.Sets.{Has}
use Rattle.ja_blocks.proofs.More.{noted_none, noted_then, noted_same, noted_within}
use Rattle.ja_blocks.specs.Index.{IsNoted}
use Rattle.ja_blocks.proofs.holders.note_members.Goals as goal
use Rattle.ja_blocks.proofs.holders.note_members.Goals.{then-has+in_ok-note, else-has}

abbrev UpToCell : List Bool → ℕ → ℕ → ℕ → ℕ → Type 0
UpToCell set field n k x = ((k < n) × Has set k) × (x ≡ field)

cell_more : (set : List Bool) (field n m : ℕ) → m ≡ n → Has set n → (k x : ℕ) → (UpToCell set field n k x ⊎ ((k ≡ m) × (x ≡ field))) ↔ UpToCell set field (n + 1) k x
cell_more set field n m same has k x = (forth, back)
  where
    forth : UpToCell set field n k x ⊎ ((k ≡ m) × (x ≡ field)) → UpToCell set field (n + 1) k x
    forth (inl ((lt, member), is)) = ((omega arith, member), is)
    forth (inr (key, is)) = ((omega arith, subst (Has set) (sym (key ∙ same)) has), is)

    back : UpToCell set field (n + 1) k x → UpToCell set field n k x ⊎ ((k ≡ m) × (x ≡ field))
    back ((lt, member), is) = dite (dec_lt k n) (λ less. inl ((less, member), is)) (λ not. inr (omega arith, is))

cell_less : (set : List Bool) (field n : ℕ) → (Has set n → ⊥) → (k x : ℕ) → UpToCell set field n k x ↔ UpToCell set field (n + 1) k x
cell_less set field n lacks k x = (λ r. ((omega (arith, r.0.0), r.0.1), r.1), back)
  where
    back : UpToCell set field (n + 1) k x → UpToCell set field n k x
    back ((lt, member), is) = dite (dec_lt k n) (λ less. ((less, member), is)) (λ not. let here : k ≡ n = omega arith in absurd (lacks (subst (Has set) here member)))

pub loop-cell-init : goal.loop-cell-init
loop-cell-init c = noted_none c.args.lists.now.items (λ k x. ((k < 0) × Has c.args.set.now k) × (x ≡ c.args.field)) (λ k x r. omega (arith, r.0.0))

pub loop-cell-preserved : goal.loop-cell-preserved
loop-cell-preserved c = elim c.if-has.branch [
  | then-has+in_ok-note w ↦ subst (λ lists. IsNoted c.args.lists.now.items lists.items (UpToCell c.args.set.now c.args.field (c.loop-cell.cell + 1))) (sym w.lists-is)
      (noted_then c.args.lists.now.items c.loop-cell.lists.items w.note.new.lists.items (UpToCell c.args.set.now c.args.field c.loop-cell.cell) (λ k x. (k ≡ w.from.result) × (x ≡ c.args.field)) (UpToCell c.args.set.now c.args.field (c.loop-cell.cell + 1)) c.loop-cell.invariant w.in_ok-note.ensures
      (cell_more c.args.set.now c.args.field c.loop-cell.cell w.from.result w.from.ensures (c.has.ensures.0 w.if-has.true)))
  | else-has w ↦ subst (λ lists. IsNoted c.args.lists.now.items lists.items (UpToCell c.args.set.now c.args.field (c.loop-cell.cell + 1))) (sym w.lists-is)
      (noted_same c.args.lists.now.items c.loop-cell.lists.items (UpToCell c.args.set.now c.args.field c.loop-cell.cell) (UpToCell c.args.set.now c.args.field (c.loop-cell.cell + 1)) c.loop-cell.invariant
      (cell_less c.args.set.now c.args.field c.loop-cell.cell (λ has. let yes : c.has.result ≡ true = c.has.ensures.1 has in let no : c.has.result ≡ false = w.if-has.false in cc (yes, no))))
]

pub returns : goal.returns
returns c = noted_within c.loop-cell.cell c.args.lists.now.items c.loop-cell.lists.items (λ k. Has c.args.set.now k) (λ x. x ≡ c.args.field) (let past = c.loop-cell-test.false in let long = c.len-cell-end.ensures in omega arith) c.loop-cell.invariant
