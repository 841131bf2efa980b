use Rattle.std.proofs.Common.{◌≡◌, ℕ, ◌<◌, List, length, map, sym, ap, ◌∙◌, subst, Bool}
use Rattle.std.specs.Prelude.{All, filter_map}
use Rattle.std.proofs.lemmas.Result.{IfOk-weaker}
use Rattle.ja_ir.specs.declared.head.ClassHead.{ClassHead}
use Rattle.ja_supertypes.specs.InnerIndex.{Shows, interface_places}
use Rattle.ja_supertypes.specs.InnerRows.{AreSets, AreGathered}
use Rattle.ja_supertypes.specs.Supertypes.{place_of, IsSuperinterface}
use Rattle.ja_supertypes.proofs.ListSteps.{sets-widths}
use Rattle.ja_supertypes.proofs.Places.{interfaces-inside, supers-inside, shows-superinterfaces, length-interfaces}
use Rattle.ja_supertypes.proofs.make.all_superinterfaces.Goals as goal

pub sets_of-requires : goal.sets_of-requires
sets_of-requires c =
    let e : c.as_slice.result.now ≡ interface_places c.args.heads.now =
    c.as_slice.ensures ∙ c.in_ok-interfaces.ensures ∙ ap (λ (keys : List (List ℕ)). map (λ (head : ClassHead). filter_map (place_of keys) head.interfaces) c.args.heads.now) c.requires.names in
    subst (λ (lists : List (List ℕ)). All (λ ds. All (λ d. d < length c.args.heads.now) ds) lists) (sym e) (interfaces-inside c.args.heads.now)

pub gather-requires-clause-widths : goal.gather-requires-clause-widths
gather-requires-clause-widths c =
    subst (λ (sets : List (List Bool)). All (λ set. length set ≡ length c.args.heads.now) sets) (sym c.as_slice-2.ensures.value)
    (sets-widths c.as_slice.result.now (length c.args.heads.now) c.in_ok-own.own.items c.in_ok-own.ensures)

pub gather-requires-clause-inside : goal.gather-requires-clause-inside
gather-requires-clause-inside c =
    let e : c.as_slice.result.now ≡ interface_places c.args.heads.now =
    c.as_slice.ensures ∙ c.in_ok-interfaces.ensures ∙ ap (λ (keys : List (List ℕ)). map (λ (head : ClassHead). filter_map (place_of keys) head.interfaces) c.args.heads.now) c.requires.names in
    let size : length c.args.heads.now ≡ length c.as_slice-2.result.now =
    sym (ap (λ (sets : List (List Bool)). length sets) c.as_slice-2.ensures.value ∙ c.in_ok-own.ensures.size ∙ ap (λ (lists : List (List ℕ)). length lists) e ∙ length-interfaces c.args.heads.now) in
    subst (λ (n : ℕ). All (λ list. All (λ d. d < n) list) c.args.supertypes.now) size (supers-inside c.args.heads.now c.args.supertypes.now c.requires.supertypes)

pub returns : goal.returns
returns c =
    let e : c.as_slice.result.now ≡ interface_places c.args.heads.now =
    c.as_slice.ensures ∙ c.in_ok-interfaces.ensures ∙ ap (λ (keys : List (List ℕ)). map (λ (head : ClassHead). filter_map (place_of keys) head.interfaces) c.args.heads.now) c.requires.names in
    let own : AreSets (interface_places c.args.heads.now) (length c.args.heads.now) c.as_slice-2.result.now =
    subst (λ (sets : List (List Bool)). AreSets (interface_places c.args.heads.now) (length c.args.heads.now) sets) (sym c.as_slice-2.ensures.value)
    (subst (λ (lists : List (List ℕ)). AreSets lists (length c.args.heads.now) c.in_ok-own.own.items) e c.in_ok-own.ensures) in
    IfOk-weaker c.gather.result (λ sets. AreGathered c.as_slice-2.result.now c.args.supertypes.now (length c.args.heads.now) sets.items) (λ sets. Shows c.args.heads.now (IsSuperinterface c.args.heads.now) sets.items)
    (λ sets are. shows-superinterfaces c.args.heads.now c.as_slice-2.result.now sets.items c.args.supertypes.now own c.requires.supertypes are)
    c.gather.ensures
