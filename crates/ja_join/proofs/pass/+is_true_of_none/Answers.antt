use Rattle.std.proofs.Common.{rules, ◌+◌, ◌≤◌, false, sym, ap, ◌∙◌, subst, arith}
use native.Mathlib.Decide.{dec_lt}
use mathlib.Core.Logic.{dite}
use Rattle.ja_bdd.specs.Functions.{IsFrom}
use Rattle.ja_bdd.specs.Meaning.{meaning}
use Rattle.ja_bdd.specs.Workers.{seen}
use Rattle.ja_bdd.proofs.Sound.{seat_sound}
use Rattle.ja_join.proofs.Handing.{cut_from, none_constant, none_low}
use Rattle.ja_join.proofs.Asking.{looks_there}
use Rattle.ja_join.proofs.pass.+is_true_of_none.Goals as goal

pub returns-then-g-lt2-clause-is : goal.returns-then-g-lt2-clause-is
returns-then-g-lt2-clause-is g t c =
    let w = c.args.worker.now in
    none_constant (seen w) (seat_sound w.seat) c.args.g.number c.if-g-lt2.true

pub is_true_of_none-requires : goal.is_true_of_none-requires
is_true_of_none-requires g t c κs within =
    let w = c.args.worker.now in
    let parts = c.parts-parts.result in
    let e = c.parts-parts.ensures in
    let later : c.args.from ≤ parts.var = dite (dec_lt parts.var c.args.from) (λ lt. absurd (looks_there (seen w) (seat_sound w.seat) parts.var c.args.g.number parts.lo.number parts.hi.number e.parts e.apart (c.requires.later parts.var lt))) (λ not. omega arith) in
    let from = subst (λ k. IsFrom (parts.var + 1) (meaning k parts.lo.number)) (sym e.same) (cut_from (seen w) parts.var c.args.g.number parts.lo.number parts.hi.number e.parts) in
    let small = parts.small in
    (omega arith, (within, (search rules, (search rules, (search rules, (search rules, (from, omega arith)))))))

pub returns-clause-is : goal.returns-clause-is
returns-clause-is g t c =
    let w = c.args.worker.now in
    let parts = c.parts-parts.result in
    let e = c.parts-parts.ensures in
    c.is_true_of_none.ensures.is ∙ ap (λ k. meaning k parts.lo.number (λ v. false)) e.same ∙ none_low (seen w) parts.var c.args.g.number parts.lo.number parts.hi.number e.parts
