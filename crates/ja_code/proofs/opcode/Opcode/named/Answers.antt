use Rattle.std.proofs.Common.{sym, ◌∙◌}
use Rattle.ja_code.specs.Mnemonic.{opcode_for}
use Rattle.ja_code.proofs.opcode.Opcode.named.Goals as goal

pub returns-in-Some : goal.returns-in-Some
unfolding opcode_for
returns-in-Some c = rw c.opcode_in.ensures (sym c.in-Some.is ∙ c.place_of.ensures.place)

pub returns-in-None : goal.returns-in-None
unfolding opcode_for
returns-in-None c = sym c.in-None.is ∙ c.place_of.ensures.place
