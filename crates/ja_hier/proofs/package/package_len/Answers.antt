use Rattle.std.proofs.Common.{◌≡◌, ◌+◌, ◌<◌, ◌≤◌, length, take, get_or, arith}
use Rattle.std.proofs.lemmas.List.{get_or_default}
use Rattle.ja_hier.specs.Faults.{package_of}
use Rattle.ja_hier.proofs.Packages.{package-more}
use Rattle.ja_hier.proofs.package.package_len.Goals as goal

pub loop-i-preserved : goal.loop-i-preserved
loop-i-preserved c =
    let lt : c.loop-i.i < length c.args.name.now = omega arith in
    let more : (c.len_after-len.result ≤ c.loop-i.i + 1) × (take c.len_after-len.result c.args.name.now ≡ package_of (take (c.loop-i.i + 1) c.args.name.now)) =
    package-more c.args.name.now c.loop-i.i (get_or c.args.name.now c.loop-i.i 0) c.loop-i.len c.len_after-len.result lt
    (get_or_default c.args.name.now c.loop-i.i 0 (get_or c.args.name.now c.loop-i.i 0) lt) c.loop-i.invariant.within c.loop-i.invariant.value c.len_after-len.ensures in
    record { within = more.0; value = more.1 }
