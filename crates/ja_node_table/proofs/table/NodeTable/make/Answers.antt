use Rattle.std.proofs.Common.{◌≡◌, ◌≢◌, ℕ, ◌<◌, ◌≤◌, sym, ap, ◌∙◌, subst, arith, eq-eqb}
use Rattle.std.proofs.lemmas.Bool.{false≢true}
use Rattle.ja_node_core.specs.Word.{places, place}
use Rattle.ja_node_core.specs.Machine.{word_at}
use Rattle.ja_node_core.proofs.Words.{place_above, place_below}
use Rattle.ja_node_table.proofs.Making.{may_claim, made, taken}
use Rattle.ja_node_table.proofs.table.NodeTable.make.Goals as goal

pub settle-requires-clause-claim : goal.settle-requires-clause-claim
settle-requires-clause-claim g c _ _ =
    let t = c.args.self.now in
    let x = t.table.shared.key in
    let word = c.word-word.ensures in
    let here = c.loop-step.invariant in
    let within : c.loop-step._step < places x.slots = omega (arith, ap places t.counted.1) in
    let apart : c.args.lo.number ≢ c.args.hi.number = (λ same. false≢true (c.if-eq.ensures ∙ eq-eqb c.args.lo.number c.args.hi.number same)) in
    (c.loop-step._step, here.1, may_claim x.slots (g.A.Aim.aims x.aim) (word_at c.args.seat.now.seat.me.0.known) (word_at c.loop-step.seat.seat.me.0.known) c.word-word.result c.loop-step._step c.args.var c.args.lo.number c.args.hi.number here.2 within c.requires.var apart word.word word.parts.0 word.parts.1 word.parts.2 c.requires.node)

-- the place of the step is one of the table's
at_place : (slots n word i at count : ℕ) → slots ≡ n → count ≡ places slots → i < count → at ≡ place n word i → (2 ≤ at) × (at < slots)
at_place slots n word i at count same len lt here =
    let within : i < places n = omega (arith, ap places same) in
    let below = place_below n word i i within in
    let above = place_above n word i in
    (omega arith, omega arith)

pub invariant_of-result : goal.invariant_of-result
invariant_of-result g c =
    let t = c.args.self.now in
    let bounded = t.bounded in
    let place = at_place t.slots t.table.shared.key.slots c.word-word.result c.loop-step._step c.loop-step.at _ t.counted.1 c.path_length-step-end.ensures c.loop-step-test.true c.loop-step.invariant.1 in
    record { small = omega arith }

pub returns-then-settle-word-clause-ok : goal.returns-then-settle-word-clause-ok
returns-then-settle-word-clause-ok g c apart =
    let t = c.args.self.now in
    let word = c.word-word.ensures in
    let found = c.settle.ensures.found in
    let place = at_place t.slots t.table.shared.key.slots c.word-word.result c.loop-step._step c.loop-step.at _ t.counted.1 c.path_length-step-end.ensures c.loop-step-test.true c.loop-step.invariant.1 in
    made (word_at c.args.seat.now.seat.me.0.known) (word_at c.settle.new.seat.seat.me.0.known) c.word-word.result c.args.var c.args.lo.number c.args.hi.number c.loop-step.at
    (λ p pos. let same = c.loop-step.invariant.2.grows p pos in c.settle.ensures.grows p (subst (λ w. 0 < w) (sym same) pos) ∙ same)
    (omega arith) (subst (λ w. 0 < w) c.if-settle-word.true found.0) (found.1 ∙ c.if-settle-word.true)
    word.word word.parts.0 word.parts.1 word.parts.2

pub next_place-at-requires : goal.next_place-at-requires
next_place-at-requires g c =
    let t = c.args.self.now in
    at_place t.slots t.table.shared.key.slots c.word-word.result c.loop-step._step c.loop-step.at _ t.counted.1 c.path_length-step-end.ensures c.loop-step-test.true c.loop-step.invariant.1

pub invariant_of-result-2 : goal.invariant_of-result-2
invariant_of-result-2 g c =
    let t = c.args.self.now in
    let x = t.table.shared.key in
    let plan = ap (λ h. h.plan) c.loop-step.invariant.0 ∙ ap (λ h. h.plan) c.requires.seat in
    let all : places x.slots ≤ c.loop-step._step = omega (arith, ap places t.counted.1) in
    record {
      taken = taken g.A.Aim.aims x record { aim = t.aim; slots = c.from.result } (word_at c.args.seat.now.seat.me.0.known) c.loop-step.seat.seat.me.0 c.word-word.result c.loop-step._step c.loop-step.seat.part plan
          (λ i. record { aim = t.aimed i; slots = (c.from.ensures ∙ t.counted.1) i }) c.loop-step.invariant.2 all;
    }
