use Rattle.std.proofs.Common.{ℕ, ◌-◌, append-nil, ◌≡◌, List, length, sym, arith, ◌∷◌, [], ◌++◌, ap, ◌∙◌}
use Rattle.ja_explicit.specs.declared.chance.Chance.{Chance}
use Rattle.ja_explicit.specs.InnerWords as words
use Rattle.ja_explicit.specs.InnerRules.{clauses_of}
use Rattle.ja_facts.specs.FactTables.{slot_count}
use Rattle.ja_explicit.proofs.Looping.{over_more, over_length}
use Rattle.ja_explicit.proofs.stepping.chances.Goals as goal

pub loop-n-preserved : goal.loop-n-preserved
loop-n-preserved c =
    over_more (λ n. words.chance c.args.to.now (clauses_of c.args.rule.now) (words.says c.args.from.now c.args.word) n ∷ []) c.loop-n.n c.slot_count-count.result c.loop-n.list c.push.new.self
    (words.chances c.args.to.now (clauses_of c.args.rule.now) (words.says c.args.from.now c.args.word)) c.loop-n-test.true
    (c.in_ok-push.ensures.ok ∙ ap (λ (x : Chance). c.loop-n.list ++ x ∷ []) c.chance.ensures) c.loop-n.invariant

pub returns-clause-chances : goal.returns-clause-chances
returns-clause-chances c =
    let done : c.slot_count-count.result - c.loop-n.n ≡ 0 = omega (arith, c.loop-n-test.false) in
    sym (append-nil c.loop-n.list)
    ∙ ap (λ (k : ℕ). c.loop-n.list ++ words.over (λ n. words.chance c.args.to.now (clauses_of c.args.rule.now) (words.says c.args.from.now c.args.word) n ∷ []) c.loop-n.n k) (sym done)
    ∙ c.loop-n.invariant

pub returns-clause-few : goal.returns-clause-few
returns-clause-few c =
    let all : c.loop-n.list ≡ words.chances c.args.to.now (clauses_of c.args.rule.now) (words.says c.args.from.now c.args.word) = returns-clause-chances c in
    let counted = over_length (words.chance c.args.to.now (clauses_of c.args.rule.now) (words.says c.args.from.now c.args.word)) 0 (slot_count c.args.to.now) in
    let same : length c.loop-n.list ≡ slot_count c.args.to.now = ap (λ (xs : List Chance). length xs) all ∙ counted in
    omega (arith, same, c.requires.to)
