use Rattle.std.proofs.Common.{◌≡◌, ◌<◌, ◌≤◌, ℕ, true, false, ltb, length, List, [], get_or, sym, arith, rules}
use Rattle.std.proofs.lemmas.Bool.{ltb-true, ltb-false, le-leb, lt-leb}
use Rattle.std.proofs.lemmas.List.Sums.{position_or_len_is}
use Rattle.std.proofs.lemmas.List.Sorted.{IsPartitionPoint-from_clause, IsPartitionedBy-ltb}
use Rattle.ja_code.specs.declared.instr.RawInstr.{RawInstr}
use Rattle.ja_methods.specs.Places.{is_at_or_past, index_of}
use Rattle.ja_methods.proofs.place.index_of.Goals as goal

none : RawInstr
none = record { pc = 0; opcode = 0; wide = false; operands = []; length = 0 }

-- the instructions before an index begin before the place, and the one at the index does not
found : (instrs : List RawInstr) (place i : ℕ) → i ≤ length instrs → ((k : ℕ) → k < i → ltb (get_or instrs k none).pc place ≡ true) → (i < length instrs → ltb (get_or instrs i none).pc place ≡ false)
    → index_of instrs place ≡ i
found instrs place i in' before at =
    position_or_len_is (is_at_or_past place) instrs i none in' (λ k lt. lt-leb place (get_or instrs k none).pc (ltb-true (get_or instrs k none).pc place (before k lt)))
    (λ lt. le-leb place (get_or instrs i none).pc (ltb-false (get_or instrs i none).pc place (at lt)))

pub returns-clause-at : goal.returns-clause-at
returns-clause-at c =
    let parted = IsPartitionedBy-ltb (λ (i : RawInstr). i.pc) c.args.instrs.now c.args.place c.requires in
    let point = IsPartitionPoint-from_clause (λ (i : RawInstr). ltb i.pc c.args.place) _ _ c.partition_point.ensures.partitioned parted (λ a r q k. search rules) in
    sym (found c.args.instrs.now c.args.place c.partition_point.result c.partition_point.ensures.bound (λ k lt. point.0 k none (omega arith) lt) (λ lt. point.1 c.partition_point.result none (omega arith) lt))
