use Rattle.std.proofs.Common.{◌⊎◌, ◌∙◌, sym, ap, subst, inl, inr, IfOk}
use Rattle.std.proofs.lemmas.Result.{IfErr-weaker}
use Rattle.ja_node_table.specs.Seats.{aim_of}
use Rattle.ja_bdd.specs.Functions.{both, renamed, KeepsOrder, IsAimed}
use Rattle.ja_bdd.specs.Meaning.{meaning, IsMeant}
use Rattle.ja_bdd.specs.Copies.{in_copies, LacksRoomWithin}
use Rattle.ja_bdd.specs.Room.{LacksRoomUnder}
use Rattle.ja_bdd.specs.Workers.{seen}
use Rattle.ja_bdd.specs.Variables.{partner_of}
use Rattle.ja_bdd.proofs.Named.{IsSmall}
use Rattle.ja_bdd.proofs.Sound.{seat_sound, meaning_small}
use Rattle.ja_join.specs.Composed.{present_alone, earlier, composed}
use Rattle.ja_join.proofs.Composing.{composed_order, renamed_same, keeps_chain}
use Rattle.ja_join.proofs.compose.after.Goals as goal

pub shift-requires-clause-order : goal.shift-requires-clause-order
shift-requires-clause-order g c κs within =
    let k = seen c.args.worker.now in
    let w = c.and_exists.new.self in
    let ok = c.in-Ok.ensures.ok in
    let small = meaning_small (seen w) (seat_sound w.seat) c.in-Ok.joined.number ok.0 in
    let partner = partner_of c.next_as_present.result in
    subst (KeepsOrder partner) (sym ok.1) (composed_order (meaning k c.args.r.number) (meaning k c.args.f.number) c.requires.first c.requires.second partner c.next_as_present.ensures (subst IsSmall ok.1 small))

pub shift-requires-clause-aim : goal.shift-requires-clause-aim
shift-requires-clause-aim g c κs within =
    let k = seen c.args.worker.now in
    let w = c.and_exists.new.self in
    let ok = c.in-Ok.ensures.ok in
    let small = meaning_small (seen w) (seat_sound w.seat) c.in-Ok.joined.number ok.0 in
    let same = renamed_same (partner_of c.next_as_present.result) earlier (meaning (seen w) c.in-Ok.joined.number) small c.next_as_present.ensures ∙ ap (renamed earlier) ok.1 in
    subst (IsAimed (g.A.Aim.aims (aim_of c.args.table.now))) (sym same) c.requires.aim

pub returns-in-Err-clause-full : goal.returns-in-Err-clause-full
returns-in-Err-clause-full g c = inl c.in-Err.ensures.full

pub returns-clause-keeps : goal.returns-clause-keeps
returns-clause-keeps g c = keeps_chain (seen c.args.worker.now) (seen c.and_exists.new.self) (seen c.shift.new.self) c.and_exists.ensures.keeps c.shift.ensures.keeps

pub returns-clause-ok : goal.returns-clause-ok
returns-clause-ok g c =
    let w = c.and_exists.new.self in
    let ok = c.in-Ok.ensures.ok in
    let small = meaning_small (seen w) (seat_sound w.seat) c.in-Ok.joined.number ok.0 in
    let same = renamed_same (partner_of c.next_as_present.result) earlier (meaning (seen w) c.in-Ok.joined.number) small c.next_as_present.ensures ∙ ap (renamed earlier) ok.1 in
    subst (λ χ. IfOk c.shift.result (λ n. IsMeant (seen c.shift.new.self) n.number χ)) same c.shift.ensures.ok

pub returns-clause-full : goal.returns-clause-full
returns-clause-full g c =
    let t = c.args.table.now in
    let k = seen c.args.worker.now in
    let w = c.and_exists.new.self in
    let l = seen c.shift.new.self in
    let ok = c.in-Ok.ensures.ok in
    let φ = meaning k c.args.r.number in
    let ρ = meaning k c.args.f.number in
    let partner = partner_of c.next_as_present.result in
    let small = meaning_small (seen w) (seat_sound w.seat) c.in-Ok.joined.number ok.0 in
    let same = renamed_same partner earlier (meaning (seen w) c.in-Ok.joined.number) small c.next_as_present.ensures ∙ ap (renamed earlier) ok.1 in
    IfErr-weaker c.shift.result (LacksRoomUnder t l (renamed partner (meaning (seen w) c.in-Ok.joined.number)))
    (λ e. LacksRoomWithin t l (in_copies present_alone) (both φ ρ) e ⊎ LacksRoomUnder t l (composed φ ρ) e)
    (λ e lacks. inr (subst (λ χ. LacksRoomUnder t l χ e) same lacks)) c.shift.ensures.full
