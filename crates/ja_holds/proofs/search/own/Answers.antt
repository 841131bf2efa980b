use Rattle.std.proofs.Common.{◌≡◌, ◌<◌, ◌+◌, true, List, length, sym, ap, ◌∙◌, arith}
use Rattle.ja_ir.specs.Tokens.{absorbs}
use Rattle.ja_ir.specs.declared.class.Field.{Field}
use Rattle.ja_holds.proofs.Owning.{absorbing-below, owned-with_bag, owned-without}
use Rattle.ja_holds.proofs.search.own.Goals as goal

pub returns-then-absorbs-clause-has : goal.returns-then-absorbs-clause-has
returns-then-absorbs-clause-has c =
    let takes : absorbs c.args.p.now c.args.token ≡ true = sym c.absorbs.ensures ∙ c.if-absorbs.true in
    let fields : c.len.result ≡ length c.args.p.now.fields = c.len.ensures ∙ ap (λ (fs : List Field). length fs) c.fields.ensures.same in
    let number : c.len.result + c.args.token ≡ length c.args.p.now.fields + c.args.token = ap (λ n. n + c.args.token) fields in
    let inside : c.len.result + c.args.token < length c.add_by_class.new.to = omega (arith, fields, absorbing-below c.args.p.now c.args.token takes, c.add_by_class.ensures.size, c.cell_count.ensures) in
    owned-with_bag c.args.p.now c.args.cells.now c.args.token (c.len.result + c.args.token) c.args.held.now c.add_by_class.new.to c.add.new.self c.requires.declared (sym c.absorbs.ensures ∙ c.if-absorbs.true)
    number inside c.add_by_class.ensures.has c.add.ensures.set

pub returns-else-absorbs-clause-has : goal.returns-else-absorbs-clause-has
returns-else-absorbs-clause-has c =
    owned-without c.args.p.now c.args.cells.now c.args.token c.args.held.now c.add_by_class.new.to c.requires.declared (sym c.absorbs.ensures ∙ c.if-absorbs.false) c.add_by_class.ensures.has
