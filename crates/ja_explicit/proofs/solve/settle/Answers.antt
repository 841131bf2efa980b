use Rattle.std.proofs.Common.{◌≡◌, ◌⊎◌, ◌↔◌, List, ◌++◌, subst, ◌∙◌, ap}
use Rattle.std.specs.Prelude.{Contains}
use Rattle.ja_explicit.specs.declared.item.Item.{Item}
use Rattle.ja_explicit.specs.Tables.{items_of}
use Rattle.ja_explicit.specs.InnerSteps.{follows}
use Rattle.ja_explicit.proofs.Adding.{sound_more, all_added}
use Rattle.ja_explicit.proofs.Sound.{follows_told}
use Rattle.ja_explicit.proofs.solve.settle.Goals as goal

pub returns-clause-sound : goal.returns-clause-sound
returns-clause-sound c =
    let old = items_of c.args.table.now in
    let new = items_of c.add_all.new.table in
    let more = follows c.args.p.now c.args.facts.now old c.args.item in
    let made : c.as_slice.result.now ≡ more = c.as_slice.ensures ∙ c.in_ok-add_follows.ensures ∙ ap (λ (t : List Item). t ++ more) c.new-out.ensures in
    sound_more c.args.p.now c.args.facts.now old new more c.requires.sound (follows_told c.args.p.now c.args.facts.now c.methods-whole.ensures.whole c.requires.given old c.requires.sound c.args.item c.requires.there)
    (subst (λ (xs : List Item). (x : Item) → Contains new x ↔ (Contains old x ⊎ Contains xs x)) made c.in_ok-new.ensures.members)

pub returns-clause-all : goal.returns-clause-all
returns-clause-all c e =
    let old = items_of c.args.table.now in
    let new = items_of c.add_all.new.table in
    let more = follows c.args.p.now c.args.facts.now old c.args.item in
    let made : c.as_slice.result.now ≡ more = c.as_slice.ensures ∙ c.in_ok-add_follows.ensures ∙ ap (λ (t : List Item). t ++ more) c.new-out.ensures in
    all_added old new more (c.in_ok-new.ensures.idle e)
    (subst (λ (xs : List Item). (x : Item) → Contains new x ↔ (Contains old x ⊎ Contains xs x)) made c.in_ok-new.ensures.members)
