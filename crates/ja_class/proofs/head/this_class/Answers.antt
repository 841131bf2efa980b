use Rattle.std.proofs.Common.{◌≡◌, inl, inr, true, refl, sym, ap, ◌∙◌}
use Rattle.std.specs.Prelude.{not}
use Rattle.ja_pool.specs.Table.{class_name_at}
use Rattle.ja_class.specs.declared.fault.ClassFault.TheVariants.{BadIndex}
use Rattle.ja_class.specs.Member.{is_array}
use Rattle.ja_class.proofs.head.this_class.Goals as goal

pub returns-then-is_array-clause-reads : goal.returns-then-is_array-clause-reads
returns-then-is_array-clause-reads c =
    let old = c.args.c.now in
    let array : is_array (class_name_at c.args.pool.now c.in_ok-i.i) ≡ true =
    ap is_array (sym (c.class_name.ensures ∙ ap (class_name_at c.args.pool.now) c.from.ensures)) ∙ sym c.is_array.ensures ∙ c.if-is_array.true in
    inr (old.place, old, (refl, refl), inr (c.in_ok-i.i, c.index.new.c, c.in_ok-i.ensures.reads, inl (ap not array, ap BadIndex c.place-at.ensures)))
