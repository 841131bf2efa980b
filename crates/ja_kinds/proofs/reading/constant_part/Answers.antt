use Rattle.ja_kinds.proofs.Effects.{ok_is, loaded_found, loaded_lost}
use Rattle.ja_kinds.proofs.reading.constant_part.Goals as goal

pub returns-in-Some : goal.returns-in-Some
returns-in-Some c =
    ok_is _ _ _ c.loaded_effect.ensures (loaded_found c.args.pool.now c.args.instr.now c.args.behaviour c.in-Some.kind c.requires
    (cc (c.in-Some.is, c.constant_kind.ensures, c.tag_named.ensures)))

pub returns-in-None : goal.returns-in-None
returns-in-None c =
    loaded_lost c.args.pool.now c.args.instr.now c.args.behaviour c.requires
    (cc (c.in-None.is, c.constant_kind.ensures, c.tag_named.ensures))
