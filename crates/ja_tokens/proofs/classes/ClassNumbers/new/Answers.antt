use Rattle.std.proofs.Common.{◌≡◌, ◌+◌, ◌<◌, Some, length, drop, sym, ap, ◌∙◌, arith}
use Rattle.std.specs.Prelude.{bytes_eq, if◌then◌else◌}
use Rattle.std.specs.HashMap.{get}
use Rattle.std.specs.List.{position_from}
use Rattle.std.proofs.lemmas.List.{at_drop_more}
use Rattle.ja_ir.specs.declared.class.ClassInfo.{ClassInfo}
use Rattle.ja_ir.specs.Lookup.{class_named}
use Rattle.ja_tokens.specs.Numbers.{or_later}
use Rattle.ja_tokens.proofs.Places.{step}
use Rattle.ja_tokens.proofs.classes.ClassNumbers.new.Goals as goal

pub loop-c-preserved : goal.loop-c-preserved
loop-c-preserved c name =
    let xs = c.as_slice-class-items.result.now in
    let n = c.loop-c.c in
    let lt : n < length xs = omega arith in
    let test = λ (class : ClassInfo). bytes_eq class.name name in
    let old = get bytes_eq c.loop-c.numbers name in
    let rest = position_from test (n + 1) (drop (n + 1) xs) in
    let here : position_from test n (drop n xs) ≡ (if bytes_eq c.class-item.result.name name then Some n else rest) =
    at_drop_more (position_from test n) xs n c.class-item.result lt ∙ ap (λ (class : ClassInfo). if bytes_eq class.name name then Some n else rest) (sym c.class-item.is) in
    step (bytes_eq c.class-item.result.name name) old (get bytes_eq c.note.new.numbers name) rest n (class_named c.args.p.now name) (c.in_ok-note.ensures name)
    (ap (or_later old) (sym here) ∙ c.loop-c.invariant name)
