use Rattle.std.proofs.Common.{◌≡◌, ◌+◌, ◌<◌, ◌≤◌, [], length, Ok, Err, rules, arith, ap, sym, ◌∙◌, subst, length-drop}
use Rattle.ja_listing.specs.Listed.{lines_of, AreNumbered}
use Rattle.ja_listing.specs.Notation.{items_in}
use Rattle.ja_listing.specs.InnerReading.{read}
use Rattle.ja_listing.proofs.AllItems.{read_step, read_stop, read_end}
use Rattle.ja_listing.proofs.read.read_all.Goals as goal

pub returns-in-Err-Broken : goal.returns-in-Err-Broken
returns-in-Err-Broken c =
    let some : 0 < length c.loop-rest.rest.now = search rules in
    let i = c.loop-rest.invariant.0 in
    let none = c.in-Err-Broken.ensures.broken (ap (λ fault. Err fault) c.in-Err-Broken.field-0-is) i.0 i.1 in
    read_stop i.0 c.loop-rest.rest.now c.front-item.result.now c.item_len-len.result (read [] (items_in c.args.glyphs.now)) some c.item_len-len.ensures.len c.front-item.ensures none i.3
    ∙ ap (λ n. Err n) (sym i.2)

pub loop-rest-preserved : goal.loop-rest-preserved
loop-rest-preserved c =
    let some : 0 < length c.loop-rest.rest.now = search rules in
    let i = c.loop-rest.invariant.0 in
    let k = c.in-Ok.ensures.kept i.0 i.1 i.2 in
    let all = read [] (items_in c.args.glyphs.now) in
    let left : length c.rest_behind-rest.result.now + 1 ≤ length c.loop-rest.rest.now = omega (arith, some, ap length c.rest_behind-rest.ensures, length-drop (c.item_len-len.result + 1) c.loop-rest.rest.now) in
    let few : c.in-Ok.behind + length c.rest_behind-rest.result.now ≤ length c.args.glyphs.now = omega (arith, left, c.loop-rest.invariant.1, c.in-Ok.ensures.count) in
    ((k.0, k.2, k.3, read_step i.0 k.0 c.loop-rest.rest.now c.front-item.result.now c.rest_behind-rest.result.now c.item_len-len.result all some c.item_len-len.ensures.len c.front-item.ensures c.rest_behind-rest.ensures k.1 i.3), few)

pub returns-in-Ok-finish : goal.returns-in-Ok-finish
returns-in-Ok-finish c =
    let none : length c.loop-rest.rest.now ≡ 0 = search rules in
    let i = c.loop-rest.invariant.0 in
    let same = c.in-Ok-finish.ensures in (
      read_end i.0 c.loop-rest.rest.now (read [] (items_in c.args.glyphs.now)) none i.3 ∙ ap (λ ls. Ok ls) (sym i.1.lines ∙ ap lines_of (sym same)),
      subst (AreNumbered 0) (sym same) i.1.numbers,
    )
