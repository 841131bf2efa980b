use Rattle.ja_methods.proofs.WholeSites.{sites-name-calls}
use Rattle.ja_methods.proofs.law.law_sites_name_calls.Goals as goal

pub returns : goal.returns
returns c = sites-name-calls
