use Rattle.std.proofs.Common.{◌<◌, ◌≡◌, ◌≤◌, ◌+◌, ◌/◌, ◌%◌, ◌^◌, ℕ, List, length, get_or, subst, arith}
use Rattle.std.specs.Int.Count.{count_trailing_zeros}
use Rattle.ja_sets.proofs.Next.{none-past, next-in_word, fits-in_word, next-in_later, none-later}
use Rattle.ja_sets.proofs.bits.Bits.next_from.Goals as goal

pub returns-then-at-self-clause-none : goal.returns-then-at-self-clause-none
returns-then-at-self-clause-none c = none-past c.self.inside.len c.self.inside.words.items c.args.self.now c.self.invariant c.self.view_is c.args.at c.if-at-self.true

pub overflow_add-result : goal.overflow_add-result
overflow_add-result c =
    let h : c.args.at + count_trailing_zeros 64 (c.index.result.now / 2 ^ (c.args.at % 64)) < 2 ^ 64 = fits-in_word c.self.inside.len c.self.inside.words.items c.args.self.now c.self.invariant c.self.view_is c.args.at c.index.result.now c.if-at-self.false c.index.ensures (omega arith) in
    omega (arith, h)

pub returns-then-rest-ne0-clause-some : goal.returns-then-rest-ne0-clause-some
returns-then-rest-ne0-clause-some c = next-in_word c.self.inside.len c.self.inside.words.items c.args.self.now c.self.invariant c.self.view_is c.args.at c.index.result.now c.if-at-self.false c.index.ensures (omega arith)

pub returns-in-Some-clause-some : goal.returns-in-Some-clause-some
returns-in-Some-clause-some c =
    let same : c.as_slice.result.now ≡ c.self.inside.words.items = c.as_slice.ensures.value in
    next-in_later c.self.inside.len c.self.inside.words.items c.args.self.now c.self.invariant c.self.view_is c.args.at c.index.result.now c.if-at-self.false c.index.ensures c.if-rest-ne0.false c.in-Some.found c.index-in-Some.result.now
    c.in-Some.ensures.below.0
    (subst (λ (ws : List ℕ). c.in-Some.found < length ws) same c.in-Some.ensures.below.1)
    c.index-in-Some.ensures
    (subst (λ (ws : List ℕ). 0 < get_or ws c.in-Some.found 0) same c.in-Some.ensures.found)
    (subst (λ (ws : List ℕ). (j : ℕ) → c.args.at / 64 + 1 ≤ j → j < c.in-Some.found → get_or ws j 0 ≡ 0) same c.in-Some.ensures.before)

pub returns-in-None-clause-none : goal.returns-in-None-clause-none
returns-in-None-clause-none c =
    let same : c.as_slice.result.now ≡ c.self.inside.words.items = c.as_slice.ensures.value in
    none-later c.self.inside.len c.self.inside.words.items c.args.self.now c.self.invariant c.self.view_is c.args.at c.index.result.now c.if-at-self.false c.index.ensures c.if-rest-ne0.false
    (subst (λ (ws : List ℕ). (j : ℕ) → c.args.at / 64 + 1 ≤ j → get_or ws j 0 ≡ 0) same c.in-None.ensures.none)
