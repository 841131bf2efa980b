use Rattle.std.proofs.Common.{ap, ◌∙◌, arith, eq-eqb}
use Rattle.std.specs.Prelude.{if◌then◌else◌}
use Rattle.ja_node_core.specs.Machine.{word_at}
use Rattle.ja_node_core.proofs.Words.{place_below}
use Rattle.ja_node_core.proofs.Claims.{may_more, claimed_word}
use Rattle.ja_node_table.proofs.Seen.{seen_plan, seen_grows}
use Rattle.ja_node_table.proofs.Steps.{looks_allowed, claims_at}
use Rattle.ja_node_table.proofs.table.NodeTable.settle.Goals as goal

pub load-found-requires : goal.load-found-requires
load-found-requires g c =
    let t = c.args.self.now in
    let (i, here, may) = c.requires.claim in
    let below = place_below t.table.shared.key.slots c.args.word i i may.within in
    let counted = t.counted in
    (ap (λ h. h.table) c.requires.seat, omega arith, looks_allowed g.A.Aim.aims t.table.shared.key _ _ _ _ (ap (λ h. h.plan) c.requires.seat))

pub returns-then-found-ne0-clause-grows : goal.returns-then-found-ne0-clause-grows
returns-then-found-ne0-clause-grows g c = seen_grows g.A.Aim.aims _ _ _ _ c.load-found.ensures.2.1

pub compare_exchange-found-requires : goal.compare_exchange-found-requires
compare_exchange-found-requires g c =
    let t = c.args.self.now in
    let x = t.table.shared.key in
    let (i, here, may) = c.requires.claim in
    let below = place_below x.slots c.args.word i i may.within in
    let counted = t.counted in
    let seen = c.load-found.ensures in
    let plan = seen_plan g.A.Aim.aims _ _ _ _ seen.2.1 ∙ ap (λ h. h.plan) c.requires.seat in
    let may_now = may_more x.slots (g.A.Aim.aims x.aim) (word_at c.args.seat.now.seat.me.0.known) (word_at c.load-found.new.seat.me.0.known) c.args.word i (seen_grows g.A.Aim.aims _ _ _ _ seen.2.1) may in
    (seen.0 ∙ ap (λ h. h.table) c.requires.seat, omega arith, claims_at g.A.Aim.aims x _ _ _ c.args.word i c.args.at here plan may_now)

pub returns-then-found-eq0-clause-found : goal.returns-then-found-eq0-clause-found
returns-then-found-eq0-clause-found g c =
    let t = c.args.self.now in
    let x = t.table.shared.key in
    let (i, here, may) = c.requires.claim in
    let now = c.compare_exchange-found.ensures.2.1.here in (
      claimed_word x.slots (g.A.Aim.aims x.aim) (word_at c.args.seat.now.seat.me.0.known) c.args.word i may,
      now ∙ ap (λ b. if b then c.args.word else c.compare_exchange-found.result) (eq-eqb c.compare_exchange-found.result 0 c.if-found-eq0.true),
    )
