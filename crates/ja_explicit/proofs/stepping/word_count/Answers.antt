use Rattle.std.proofs.Common.{◌≡◌, ℕ, ◌*◌, ◌^◌, ◌%◌, ◌≤◌, ◌∙◌, ap, arith, mod-eq_of_lt}
use Rattle.ja_facts.specs.FactTables.{slot_count}
use Rattle.ja_explicit.proofs.Looping.{power_small}
use Rattle.ja_explicit.proofs.stepping.word_count.Goals as goal

pub returns : goal.returns
returns c =
    let n = c.slot_count.result in
    let e : n ≡ slot_count c.args.method.now = c.slot_count.ensures in
    let few : n ≤ 12 = omega (arith, e, c.requires) in
    let one : 1 * 2 ^ n ≡ 2 ^ n = omega arith in
    ap (λ (x : ℕ). x % 4294967296) one ∙ mod-eq_of_lt (power_small n few) ∙ ap (λ (x : ℕ). 2 ^ x) e
