use Rattle.std.proofs.Common.{rules, ◌≡◌, ◌<◌, ◌+◌, ◌++◌, ◌∷◌, [], ℕ, List, length, true, sym, ◌∙◌, ap, subst, arith}
use Rattle.std.specs.Prelude.{Contains}
use Rattle.std.proofs.lemmas.List.Elements.{Contains-push}
use Rattle.ja_machine.specs.InnerSearch.{Seen, begun}
use Rattle.ja_machine.specs.InnerSeen.{seen_by}
use Rattle.ja_machine.proofs.Meets.{has, missing}
use Rattle.ja_machine.proofs.Explores.{Explores, begins, looked, falls, tells, has-inside}
use Rattle.ja_machine.proofs.reach.reached.Goals as goal

pub loop-next-init : goal.loop-next-init
loop-next-init c =
    let size : c.len.result ≡ length c.args.h.now = c.len.ensures in
    let e : seen_by c.in_ok-search.search ≡ begun (length c.args.h.now) c.args.place = c.in_ok-search.ensures ∙ ap (λ n. begun n c.args.place) size in
    subst (λ (s : Seen). Explores c.args.h.now c.args.place s) (sym e) (begins c.args.h.now c.args.place c.requires.inside)

pub at-requires : goal.at-requires
at-requires c =
    let e : c.loop-next.search.work.items ≡ c.pop.new.self.items ++ c.in-Some.next ∷ [] = c.in-Some.ensures.items in
    let waiting : Contains c.loop-next.search.work.items c.in-Some.next = subst (λ (ws : List ℕ). Contains ws c.in-Some.next) (sym e) (Contains-push c.pop.new.self.items c.in-Some.next) in
    let seen : has c.loop-next.search.flags.items c.in-Some.next ≡ true = c.loop-next.invariant.waits c.in-Some.next waiting in
    omega (arith, has-inside c.loop-next.search.flags.items c.in-Some.next seen, c.loop-next.invariant.size)

pub loop-next-preserved : goal.loop-next-preserved
loop-next-preserved c =
    let e : c.loop-next.search.work.items ≡ c.pop.new.self.items ++ c.in-Some.next ∷ [] = c.in-Some.ensures.items in
    let before : Explores c.args.h.now c.args.place (record { flags = c.loop-next.search.flags.items; work = c.pop.new.self.items ++ c.in-Some.next ∷ [] }) =
    subst (λ (ws : List ℕ). Explores c.args.h.now c.args.place (record { flags = c.loop-next.search.flags.items; work = ws })) e c.loop-next.invariant in
    subst (λ (s : Seen). Explores c.args.h.now c.args.place s) (sym c.in_ok-meet_object.ensures)
    (looked c.args.h.now c.args.place c.requires.closed c.loop-next.search.flags.items c.pop.new.self.items c.in-Some.next c.at.result.now before c.at.ensures)

pub loop-next-smaller : goal.loop-next-smaller
loop-next-smaller c =
    let e : c.loop-next.search.work.items ≡ c.pop.new.self.items ++ c.in-Some.next ∷ [] = c.in-Some.ensures.items in
    let fell : missing c.meet_object.new.self.flags.items + length c.meet_object.new.self.work.items < missing c.loop-next.search.flags.items + length (c.pop.new.self.items ++ c.in-Some.next ∷ []) =
    subst (λ (s : Seen). missing s.flags + length s.work < missing c.loop-next.search.flags.items + length (c.pop.new.self.items ++ c.in-Some.next ∷ [])) (sym c.in_ok-meet_object.ensures)
    (falls c.loop-next.search.flags.items c.pop.new.self.items c.in-Some.next c.at.result.now) in
    subst (λ (ws : List ℕ). missing c.meet_object.new.self.flags.items + length c.meet_object.new.self.work.items < missing c.loop-next.search.flags.items + length ws) (sym e) fell

pub returns-clause-exact : goal.returns-clause-exact
returns-clause-exact c =
    let empty : c.loop-next.search.work.items ≡ [] = search rules in
    tells c.args.h.now c.args.place c.loop-next.search.flags.items
    (subst (λ (ws : List ℕ). Explores c.args.h.now c.args.place (record { flags = c.loop-next.search.flags.items; work = ws })) empty c.loop-next.invariant)
