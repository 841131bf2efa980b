use Rattle.ja_listing.proofs.Ending.{spelled, causes, only_spelled, only_broken}
use Rattle.ja_listing.proofs.read.read_listing.Goals as goal

pub returns-clause-ok : goal.returns-clause-ok
returns-clause-ok c =
    let h = rw (c.as_slice.ensures, c.in-Ok.ensures) at c.read_all.ensures in
    spelled c.args.text.now c.read_all.result h

pub returns-clause-only : goal.returns-clause-only
returns-clause-only c =
    let h = rw (c.as_slice.ensures, c.in-Ok.ensures) at c.read_all.ensures in
    λ classes s. only_spelled c.args.text.now classes s c.read_all.result h

pub returns-clause-fault : goal.returns-clause-fault
returns-clause-fault c =
    let h = rw (c.as_slice.ensures, c.in-Ok.ensures) at c.read_all.ensures in
    causes c.args.text.now c.read_all.result h

pub returns-clause-first : goal.returns-clause-first
returns-clause-first c =
    let h = rw (c.as_slice.ensures, c.in-Ok.ensures) at c.read_all.ensures in
    λ n b. only_broken c.args.text.now n b c.read_all.result h
