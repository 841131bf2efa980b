use Rattle.std.proofs.Common.{◌≡◌, ℕ, suc, ◌+◌, ◌<◌, List, length, refl, sym, ap, ◌∙◌, subst, arith}
use Rattle.std.specs.Prelude.{Some, slice_get}
use Rattle.std.proofs.lemmas.Option.{slice_get_read}
use Rattle.std.proofs.lemmas.List.Sums.{sum_by_more}
use Rattle.ja_ir.specs.declared.entry.Entry.{Entry}
use Rattle.ja_ir.specs.declared.head.ClassHead.{ClassHead}
use Rattle.ja_lib.specs.declared.entry.EntryRow.{EntryRow}
use Rattle.ja_hier.specs.declared.starts.Member.TheVariants.{Method}
use Rattle.ja_hier.specs.Members.{count_of}
use Rattle.ja_heads.specs.Entries.{ClassAdds, ClassesAdd, no_class, next_class}
use Rattle.ja_heads.proofs.entry.entries.Goals as goal

pub loop-c-init : goal.loop-c-init
loop-c-init c = record {
  first = refl;
  entries = subst (λ (l : List Entry). ClassesAdd c.args.hier.now c.args.table.now.entries 0 l) (sym c.new-entries.ensures) no_class;
}

pub add_class-requires-clause-found : goal.add_class-requires-clause-found
add_class-requires-clause-found c =
    let lt : c.loop-c.c < length c.as_slice-heads.result.now = omega arith in
    let same : c.as_slice-heads.result.now ≡ c.args.hier.now = c.as_slice-heads.ensures ∙ c.heads.ensures in
    subst (λ (l : List ClassHead). slice_get l c.loop-c.c ≡ Some c.index-heads-c.result) same
    (slice_get_read c.as_slice-heads.result.now (length c.as_slice-heads.result.now) c.loop-c.c c.index-heads-c.result refl lt c.index-heads-c.is)

pub loop-c-preserved : goal.loop-c-preserved
loop-c-preserved c =
    let one : suc c.loop-c.c ≡ c.loop-c.c + 1 = omega arith in
    let lt : c.loop-c.c < length c.as_slice-heads.result.now = omega arith in
    let rows : c.as_slice.result.now ≡ c.args.table.now.entries = c.as_slice.ensures ∙ c.entries.ensures in
    record {
      first = omega (arith, sum_by_more (count_of Method) c.as_slice-heads.result.now c.loop-c.c c.index-heads-c.result lt, ap (count_of Method) c.index-heads-c.is, c.len.ensures, c.loop-c.invariant.first);
      entries = subst (λ (k : ℕ). ClassesAdd c.args.hier.now c.args.table.now.entries k c.add_class.new.entries) one
          (next_class c.loop-c.invariant.entries
          (subst (λ (l : List EntryRow). ClassAdds c.args.hier.now l c.loop-c.c c.loop-c.entries c.add_class.new.entries) rows c.in_ok-add_class.ensures));
    }
