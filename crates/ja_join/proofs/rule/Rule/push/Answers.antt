use Rattle.std.proofs.Common.{Bool, true, false, cond, is_ok, List, [], ◌∷◌, ◌++◌, sym, subst, arith}
use Rattle.ja_join.specs.declared.rule.Move.{Move}
use Rattle.ja_join.specs.Ascending.{AscendFrom, TellFrom, MayFollow}
use Rattle.ja_join.proofs.Stepping.{ascend_push, tell_push}
use Rattle.ja_join.proofs.rule.Rule.push.Goals as goal

-- the moves ascend whether or not one was added, and so does what they tell of
ascend_either_way : (moves : List Move) (m : Move) (b : Bool) → AscendFrom 0 moves → MayFollow moves m → AscendFrom 0 (cond b (moves ++ m ∷ []) moves)
ascend_either_way moves m true up may = ascend_push 0 moves m up (omega arith) may.small may.behind
ascend_either_way moves m false up may = up

tell_either_way : (moves : List Move) (m : Move) (b : Bool) → TellFrom 0 moves → MayFollow moves m → TellFrom 0 (cond b (moves ++ m ∷ []) moves)
tell_either_way moves m true up may = tell_push 0 moves m up may.told_small may.behind
tell_either_way moves m false up may = up

pub invariant_of-self : goal.invariant_of-self
invariant_of-self c =
    let rule = c.args.self.now in
    let added = is_ok c.push.result in
    record {
      ascending = subst (AscendFrom 0) (sym c.push.ensures.items) (ascend_either_way rule.moves.items c.args.step added rule.ascending c.requires);
      telling = subst (TellFrom 0) (sym c.push.ensures.items) (tell_either_way rule.moves.items c.args.step added rule.telling c.requires);
    }
