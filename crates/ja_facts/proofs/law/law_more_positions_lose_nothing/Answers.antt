use Rattle.ja_facts.specs.Analyses.{analyses_of}
use Rattle.ja_facts.proofs.MorePositions.{more_facts}
use Rattle.ja_facts.proofs.law.law_more_positions_lose_nothing.Goals as goal

pub returns : goal.returns
returns c p entries more f x = more_facts p entries (analyses_of p) more f x
