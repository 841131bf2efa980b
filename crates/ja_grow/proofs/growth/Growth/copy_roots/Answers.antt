use Rattle.std.proofs.Common.{◌≡◌, ◌∙◌, ◌∷◌, [], length, refl, sym, ap, subst, arith, length-append}
use Rattle.std.proofs.lemmas.Option.{slice_get_read}
use Rattle.ja_node_core.specs.Node.{Knows}
use Rattle.ja_node_table.specs.Seats.{aim_of, known}
use Rattle.ja_bdd.specs.Functions.{IsAimed}
use Rattle.ja_bdd.specs.Meaning.{meaning}
use Rattle.ja_bdd.specs.Workers.{seen}
use Rattle.ja_bdd.proofs.Room.{lacks_same}
use Rattle.ja_grow.specs.Inner.{nodes_of}
use Rattle.ja_grow.proofs.Growing.{copies_same, grown_more}
use Rattle.ja_grow.proofs.growth.Growth.copy_roots.Goals as goal

pub copy-requires-clause-known : goal.copy-requires-clause-known
copy-requires-clause-known g c κs within =
    let root = c.root-item.result in
    let at = slice_get_read c.args.roots.now (length c.args.roots.now) c.loop-root.root-index root refl c.loop-root-test.true c.root-item.is in
    let due = c.requires.roots c.loop-root.root-index root at in
    subst (λ w. Knows w root.number) (sym c.loop-root.invariant.1) due.0

pub copy-requires-clause-aim : goal.copy-requires-clause-aim
copy-requires-clause-aim g c κs within =
    let root = c.root-item.result in
    let at = slice_get_read c.args.roots.now (length c.args.roots.now) c.loop-root.root-index root refl c.loop-root-test.true c.root-item.is in
    let due = c.requires.roots c.loop-root.root-index root at in
    subst (λ w. IsAimed (g.A.Aim.aims (aim_of c.args.table.now)) (meaning w root.number)) (sym c.loop-root.invariant.1) due.1

pub copy-requires-clause-copies : goal.copy-requires-clause-copies
copy-requires-clause-copies g c κs within = copies_same (known c.args.seat.now) (known c.loop-root.seat) (seen c.loop-root.self.worker) (nodes_of c.loop-root.self.copies) c.loop-root.invariant.1 c.loop-root.invariant.3

pub returns-in-Err-clause-fault : goal.returns-in-Err-clause-fault
returns-in-Err-clause-fault g c =
    let root = c.root-item.result in
    let t = c.args.table.now in
    let w = seen c.copy.new.self.worker in
    record {
      table = t;
      is = (refl, refl);
      seen = w;
      place = c.loop-root.root-index;
      root = root;
      at = slice_get_read c.args.roots.now (length c.args.roots.now) c.loop-root.root-index root refl c.loop-root-test.true c.root-item.is;
      lacks = lacks_same t w c.in-Err.full (meaning (known c.loop-root.seat) root.number) (meaning (known c.args.seat.now) root.number) (ap (λ k. meaning k root.number) c.loop-root.invariant.1) c.in-Err.ensures.full;
    }

pub loop-root-preserved : goal.loop-root-preserved
loop-root-preserved g c =
    let k = known c.args.seat.now in
    let k' = known c.loop-root.seat in
    let w = seen c.loop-root.self.worker in
    let w' = seen c.copy.new.self.worker in
    let same = c.loop-root.invariant.1 in
    let long = c.loop-root.invariant.4 in
    let root = c.root-item.result in
    let at = slice_get_read c.args.roots.now (length c.args.roots.now) c.loop-root.root-index root refl c.loop-root-test.true c.root-item.is in
    let pushed = c.in-Ok-push.ensures.ok in (
      c.copy.ensures.seat.0,
      c.copy.ensures.seat.1 ∙ same,
      c.copy.ensures.worker,
      copies_same k' k w' (nodes_of c.copy.new.self.copies) (sym same) c.in-Ok.ensures.copies,
      omega (arith, ap length pushed, length-append c.loop-root.grown (c.in-Ok.copy ∷ [])),
      grown_more k k' w w' c.args.roots.now c.loop-root.grown c.push.new.self c.loop-root.root-index root c.in-Ok.copy same c.copy.ensures.keeps pushed long at c.in-Ok.ensures.ok c.loop-root.invariant.5,
    )
