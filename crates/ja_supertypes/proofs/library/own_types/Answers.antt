use Rattle.std.proofs.Common.{◌≡◌, ◌<◌, ℕ, List, length, take, ap, ◌∙◌, arith}
use Rattle.std.proofs.lemmas.List.{take_all}
use Rattle.std.proofs.lemmas.Result.{IfOk-weaker}
use Rattle.ja_supertypes.specs.LibraryTypes.{first_places}
use Rattle.ja_supertypes.specs.InnerTypes.{spliced, AreOwnTypes}
use Rattle.ja_supertypes.proofs.TypeWays.{spliced-more, own-types}
use Rattle.ja_supertypes.proofs.library.own_types.Goals as goal

pub loop-interface-init : goal.loop-interface-init
loop-interface-init c = grind (arith, c.new-found.ensures)

pub loop-interface-preserved : goal.loop-interface-preserved
loop-interface-preserved c =
    let lt : c.loop-interface.interface-index < length c.as_slice-interfaces.result.now = omega arith in
    c.in_ok-add_interface.ensures (spliced c.args.tables.now.names.keys c.args.own.now (take c.loop-interface.interface-index c.as_slice-interfaces.result.now)) c.loop-interface.invariant
    ∙ ap first_places (spliced-more c.args.tables.now.names.keys c.args.own.now c.as_slice-interfaces.result.now c.loop-interface.interface-index c.interface-item.result lt c.interface-item.is)

pub returns : goal.returns
returns c =
    IfOk-weaker c.copy_names.result (λ (copy : List (List ℕ)). copy ≡ c.as_slice.result.now) (AreOwnTypes c.args.tables.now.heads c.args.class)
    (λ names e. own-types c.args.tables.now.heads c.args.tables.now.names.keys c.args.own.now c.args.class c.at-head.result.now names c.requires.indexed.names c.at-head.ensures c.requires.above
    (e ∙ c.as_slice.ensures.keys ∙ c.loop-interface.invariant
    ∙ ap (λ (l : List (List ℕ)). first_places (spliced c.args.tables.now.names.keys c.args.own.now l))
    (take_all c.loop-interface.interface-index c.as_slice-interfaces.result.now (omega arith) ∙ c.as_slice-interfaces.ensures)))
    c.copy_names.ensures
