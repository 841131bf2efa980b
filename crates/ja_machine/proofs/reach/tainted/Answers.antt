use Rattle.ja_machine.proofs.Marked.{prim-says, reference-says}
use Rattle.ja_machine.proofs.reach.tainted.Goals as goal

pub returns-in-Prim : goal.returns-in-Prim
returns-in-Prim c = rw (c.in-Prim.is, c.has.ensures) (prim-says c.args.c c.args.h.now c.in-Prim.mark)

pub returns-in_ok-seen-in-Ref : goal.returns-in_ok-seen-in-Ref
returns-in_ok-seen-in-Ref c =
    rw (c.in-Ref.is, c.is_any_marked.ensures, c.as_slice.ensures, c.as_slice-in-Ref.ensures.value)
    (reference-says c.args.c c.args.h.now c.in-Ref.place c.in_ok-seen-in-Ref.seen.items c.in_ok-seen-in-Ref.ensures.size c.in_ok-seen-in-Ref.ensures.exact)
