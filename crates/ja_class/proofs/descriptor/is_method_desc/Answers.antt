use Rattle.ja_class.proofs.Descriptors.{words_decide}
use Rattle.ja_class.proofs.descriptor.is_method_desc.Goals as goal

pub returns-in-Ok : goal.returns-in-Ok
returns-in-Ok c =
    let text = c.args.text.now in
    rw c.receiver_words.ensures (words_decide c.args.flags c.in-Ok.desc.words text c.in-Ok.desc.params c.in-Ok.desc.result c.in-Ok.ensures.ok c.in-Ok.ensures.words)
