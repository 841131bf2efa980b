use Rattle.ja_assembly.specs.Wanted.{with_one, same_key}
use Rattle.ja_writable.proofs.Asked.{initializer_asked}
use Rattle.ja_writable.proofs.ask.ask_initializer.Goals as goal

pub returns : goal.returns
returns c =
    initializer_asked (with_one same_key) c.args.keys.now.keys c.ask_pair.new.keys.keys c.ask_text.new.keys.keys c.ask_member.new.keys.keys c.args.superclass.now c.in_ok-member.member
    c.in_ok-ask_pair.ensures c.in_ok-ask_text.ensures c.in_ok-ask_member.ensures c.in_ok-member.ensures
