use Rattle.std.proofs.Common.{arith}
use Rattle.std.proofs.lemmas.Nat.{be_bytes_2}
use Rattle.ja_attributes.proofs.field.number_of.Goals as goal

pub returns : goal.returns
returns c = be_bytes_2 c.args.bytes.now _ c.requires (λ i. omega (arith, c.type_inv.bytes i)) c.from_be_bytes.ensures
