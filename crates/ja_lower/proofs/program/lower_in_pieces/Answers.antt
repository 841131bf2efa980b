use Rattle.std.proofs.Common.{◌≡◌, ◌⊎◌, inl, inr, ℕ, List, Result, Ok, Err, refl, ap}
use Rattle.std.specs.Prelude.{IfOk, IfErr, MatchResult}
use Rattle.ja_base.specs.declared.refusal.Refusal.{Refusal}
use Rattle.ja_ir.specs.declared.program.Parts.{Parts}
use Rattle.ja_class.specs.Meaning.{ClassSpelled}
use Rattle.ja_lib.specs.Content.{Content}
use Rattle.ja_lower.specs.declared.fault.LowerFault.{LowerFault}
use Rattle.ja_lower.specs.declared.fault.LowerFault.TheVariants as faults
use Rattle.ja_lower.specs.Program.{IsLowerFault, IsProgramOf, IsRefusedWhole}
use Rattle.ja_lower.proofs.program.lower_in_pieces.Goals as goal

module _ (files : List (List ℕ)) (classes : List ClassSpelled) (content : Content) where
  only : ((p other : Parts) → IsProgramOf files classes content p → IsProgramOf files classes content other → p ≡ other)
      → ((p : Parts) (refusal : Refusal) → IsProgramOf files classes content p → IsRefusedWhole files classes refusal → ⊥)
      → (result : Result Parts LowerFault) → IfOk result (IsProgramOf files classes content) → IfErr result (IsLowerFault files classes)
      → (p : Parts) → IsProgramOf files classes content p → MatchResult result (λ program. program ≡ p) (λ f. f ≡ faults.Memory)
  only one both (Ok program) ok err p is = one program p ok is
  only one both (Err faults.Memory) ok err p is = refl
  only one both (Err (faults.Refused refusal)) ok err p is = absurd (both p refusal is err)

  first : ((refusal other : Refusal) → IsRefusedWhole files classes refusal → IsRefusedWhole files classes other → refusal ≡ other)
      → ((p : Parts) (refusal : Refusal) → IsProgramOf files classes content p → IsRefusedWhole files classes refusal → ⊥)
      → (result : Result Parts LowerFault) → IfOk result (IsProgramOf files classes content) → IfErr result (IsLowerFault files classes)
      → (refusal : Refusal) → IsRefusedWhole files classes refusal → MatchResult result (λ _. ⊥) (λ f. (f ≡ faults.Memory) ⊎ (f ≡ faults.Refused refusal))
  first one both (Ok program) ok err refusal is = both program refusal ok is
  first one both (Err faults.Memory) ok err refusal is = inl refl
  first one both (Err (faults.Refused other)) ok err refusal is = inr (ap faults.Refused (one other refusal err is))

pub returns-clause-only : goal.returns-clause-only
returns-clause-only g c =
    only c.args.names.now c.args.classes.now c.args.t.now
    (c.law_one_program.ensures.one_program c.args.names.now c.args.classes.now c.args.t.now)
    (c.law_one_program.ensures.not_both c.args.names.now c.args.classes.now c.args.t.now)
    c.program_or_refusal.result c.program_or_refusal.ensures.program c.program_or_refusal.ensures.refused

pub returns-clause-first : goal.returns-clause-first
returns-clause-first g c =
    first c.args.names.now c.args.classes.now c.args.t.now
    (c.law_one_program.ensures.one_refusal c.args.names.now c.args.classes.now)
    (c.law_one_program.ensures.not_both c.args.names.now c.args.classes.now c.args.t.now)
    c.program_or_refusal.result c.program_or_refusal.ensures.program c.program_or_refusal.ensures.refused
