use Rattle.std.proofs.Common.{◌≡◌, ℕ, ◌<◌, List, length, map, sym, ap, ◌∙◌, subst, Bool}
use Rattle.std.specs.Prelude.{All}
use Rattle.std.proofs.lemmas.List.{length-map}
use Rattle.std.proofs.lemmas.Result.{IfOk-weaker}
use Rattle.ja_supertypes.specs.InnerForeign.{names_foreign, AreRaised}
use Rattle.ja_supertypes.specs.InnerIndex.{ShowsForeign}
use Rattle.ja_supertypes.proofs.ForeignWays.{shows-foreign}
use Rattle.ja_supertypes.proofs.Places.{supers-inside}
use Rattle.ja_supertypes.proofs.make.all_foreign.Goals as goal

pub raise-requires-clause-inside : goal.raise-requires-clause-inside
raise-requires-clause-inside c =
    let size : length c.args.heads.now ≡ length c.as_slice.result.now =
    sym (ap (λ (bits : List Bool). length bits) (c.as_slice.ensures.value ∙ c.in_ok-own.ensures) ∙ length-map c.args.heads.now (names_foreign c.args.names.now.keys)) in
    subst (λ (n : ℕ). All (λ list. All (λ d. d < n) list) c.args.supertypes.now) size (supers-inside c.args.heads.now c.args.supertypes.now c.requires.supertypes)

pub returns : goal.returns
returns c =
    IfOk-weaker c.raise.result (AreRaised c.as_slice.result.now c.args.supertypes.now) (ShowsForeign c.args.heads.now)
    (λ flags raised. shows-foreign c.args.heads.now c.as_slice.result.now flags c.args.supertypes.now
    (c.as_slice.ensures.value ∙ c.in_ok-own.ensures ∙ ap (λ (keys : List (List ℕ)). map (names_foreign keys) c.args.heads.now) c.requires.names) c.requires.supertypes raised)
    c.raise.ensures
