use Rattle.std.proofs.Common.{◌<◌, ℕ, ◌*◌, ◌^◌, ◌≤◌, ap, ◌∙◌, subst, arith, List, length}
use Rattle.ja_work.specs.declared.clause.Clause.{Clause}
use Rattle.ja_work.specs.Frames.{size}
use Rattle.ja_steps.specs.Ends.{clauses_of}
use Rattle.ja_steps.specs.Inner.{AreListed, IsRange, HaveRange, LacksRange, IsMadeOf, parts_of}
use Rattle.ja_steps.proofs.Ending.{end_outside}
use Rattle.ja_steps.proofs.Guessing.{leads_led, led_leads, moves_still}
use Rattle.ja_steps.proofs.Moving.{part_place}
use Rattle.ja_steps.proofs.Needing.{wide_many, wide_mixed}
use Rattle.ja_steps.proofs.make.rule_of.Goals as goal

pub returns-then-places-gt4-clause-none : goal.returns-then-places-gt4-clause-none
returns-then-places-gt4-clause-none c e =
    let frame = c.args.frame.now in
    let list = c.in_ok-clauses.clauses.items in
    let sources = c.in_ok-sources.sources.items in
    let listed : AreListed frame list sources = subst (λ (xs : List Clause). AreListed frame xs sources) c.deref.ensures.value c.in_ok-sources.ensures in
    wide_many frame (clauses_of c.args.end.now) list c.in_ok-clauses.ensures sources (subst (λ (xs : List ℕ). 4 < length xs) c.deref-places.ensures.value c.if-places-gt4.true) listed.needed

pub returns-then-not-have_range-clause-none : goal.returns-then-not-have_range-clause-none
returns-then-not-have_range-clause-none c e =
    let list = c.in_ok-clauses.clauses.items in
    let range = c.range_of-range.result in
    wide_mixed c.args.frame.now (clauses_of c.args.end.now) list c.in_ok-clauses.ensures range (subst (IsRange range) c.deref-2.ensures.value c.range_of-range.ensures)
    (subst (LacksRange range) c.deref-3.ensures.value (c.have_range.ensures.no c.if-not-have_range.true))

pub returns-clause-rule : goal.returns-clause-rule
returns-clause-rule c =
    let frame = c.args.frame.now in
    let list = c.in_ok-clauses.clauses.items in
    let sources = c.in_ok-sources.sources.items in
    let range = c.range_of-range.result in
    let cases = c.case_count-cases.result in
    let rule = c.in_ok-rule.rule in
    let are = c.in_ok-clauses.ensures in
    let listed : AreListed frame list sources = subst (λ (xs : List Clause). AreListed frame xs sources) c.deref.ensures.value c.in_ok-sources.ensures in
    let ranged : HaveRange range list = subst (HaveRange range) c.deref-3.ensures.value (c.have_range.ensures.yes c.if-not-have_range.false) in
    let made : IsMadeOf frame list sources range cases rule =
    subst (λ (xs : List ℕ). IsMadeOf frame list xs range cases rule) c.deref-places.ensures.value
    (subst (λ (xs : List Clause). IsMadeOf frame xs c.deref-places.result.now range cases rule) c.deref-4.ensures.value c.in_ok-rule.ensures) in
    let enough : 2 * 2 ^ length sources ≤ cases = subst (λ n. n ≤ cases) (c.case_count-cases.ensures.count ∙ ap (λ (xs : List ℕ). 2 * 2 ^ length xs) c.deref-places.ensures.value) (omega arith) in
    record {
      leads = λ before after. (
        leads_led frame (clauses_of c.args.end.now) list sources range cases are listed ranged before after rule made (end_outside frame c.args.end.now c.requires.room),
        led_leads frame (clauses_of c.args.end.now) list sources range cases are listed ranged before after rule made c.case_count-cases.ensures.few enough,
      );
      still = λ v out. moves_still sources cases (parts_of frame range list) (part_place frame range list) (size frame) rule.moves.items v made.moves out;
    }
