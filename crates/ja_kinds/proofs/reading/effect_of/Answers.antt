use Rattle.ja_kinds.proofs.Effects.{fixed_answer}
use Rattle.ja_kinds.proofs.reading.effect_of.Goals as goal

pub returns-in-Nothing : goal.returns-in-Nothing
returns-in-Nothing c = fixed_answer c.args.pool.now c.args.instr.now c.args.behaviour _ (cc (c.in-Nothing.is, c.part_of.ensures)) c.fixed_effect.ensures
