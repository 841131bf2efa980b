use Rattle.std.proofs.Common.{◌≡◌, ℕ, inl, inr, [], length, get_or, subst, sym, arith}
use Rattle.std.proofs.lemmas.Bool.{cases_lt}
use Rattle.ja_supertypes.specs.InnerTypes.{AreNoted}
use Rattle.ja_supertypes.proofs.library.note_level.Goals as goal

pub loop-class-preserved : goal.loop-class-preserved
loop-class-preserved c = record {
  own_size = c.in_ok-note_at.ensures.own_size;
  all_size = c.in_ok-note_at.ensures.all_size;
  below = λ b lt few. c.in_ok-note_at.ensures.kept b (c.loop-class.invariant.below b lt few);
  level = λ b lt is. elim (cases_lt b c.loop-class.class) [
    | inl before ↦ c.in_ok-note_at.ensures.kept b (c.loop-class.invariant.level b before is)
    | inr past ↦
        let same : b ≡ c.loop-class.class = omega arith in
        subst (AreNoted c.args.tables.now.heads c.note_at.new.types.own.items c.note_at.new.types.all.items) (sym same)
        (c.in_ok-note_at.ensures.noted (subst (λ (x : ℕ). length (get_or c.args.tables.now.supertypes x []) ≡ c.args.count) same is))
  ];
}

pub returns : goal.returns
returns c = record {
  own_size = c.loop-class.invariant.own_size;
  all_size = c.loop-class.invariant.all_size;
  each = λ b lt few. elim (cases_lt (length (get_or c.args.tables.now.supertypes b [])) c.args.count) [
    | inl less ↦ c.loop-class.invariant.below b lt less
    | inr same ↦ c.loop-class.invariant.level b (omega arith) (omega arith)
  ];
}
