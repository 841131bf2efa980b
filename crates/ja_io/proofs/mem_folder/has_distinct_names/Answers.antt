use Rattle.std.proofs.Common.{◌≡◌, ℕ, get_or, ap, sym, arith, ◌∙◌, inl, inr}
use Rattle.std.proofs.lemmas.Bool.{cases_lt}
use Rattle.ja_io.proofs.Named.{later_file, no_later_file}
use Rattle.ja_io.proofs.mem_folder.has_distinct_names.Goals as goal

pub returns-then-has_file : goal.returns-then-has_file
returns-then-has_file c = (
  λ h. absurd (cc h),
  λ distinct. absurd
      (later_file _ c.loop-i.i _ c.loop-i-test.true c.index-files-i.is c.if-has_file.ensures.yes distinct),
)

pub loop-i-preserved : goal.loop-i-preserved
loop-i-preserved c = λ a b d below before inside same.
    elim (cases_lt a c.loop-i.i) [
      | inl earlier ↦ c.loop-i.invariant a b d earlier before inside same
      | inr at ↦
          let here : a ≡ c.loop-i.i = omega arith in
          no_later_file _ c.loop-i.i _ c.loop-i-test.true c.index-files-i.is c.if-has_file.ensures.no b d (omega arith) inside
          (ap (λ (n : ℕ). (get_or c.args.files.now n d).name) (sym here) ∙ same)
    ]
