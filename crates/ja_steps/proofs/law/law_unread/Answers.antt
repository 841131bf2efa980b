use Rattle.ja_steps.proofs.Unread.{unread_normal, normal_unread}
use Rattle.ja_steps.proofs.law.law_unread.Goals as goal

pub returns : goal.returns
returns c tests op height b after finds = (unread_normal tests height b op after finds, normal_unread tests height b op after finds)
