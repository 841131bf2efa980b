use Rattle.ja_heads.specs.Signatures.{signature_of}
use Rattle.ja_heads.proofs.FirstSeen.{keys-more}
use Rattle.ja_heads.proofs.signature.add_method.Goals as goal

pub returns : goal.returns
returns c = λ seen e.
    keys-more seen c.args.set.now.keys c.insert_full.new.self.keys (record { name = c.in_ok-name.name; desc = c.in_ok-desc.desc }) (signature_of c.args.method.now) e c.in_ok-name.ensures c.in_ok-desc.ensures c.in_ok-insert_full.ensures.keys
