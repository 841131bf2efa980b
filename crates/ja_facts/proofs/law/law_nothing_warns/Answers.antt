use Rattle.std.proofs.Common.{ℕ, false, List, [], ◌∷◌, map}
use Rattle.ja_ir.specs.declared.program.Parts.{Parts}
use Rattle.ja_ir.specs.declared.entry.Site.{Site}
use Rattle.ja_facts.specs.Verdict.{AreVerdictsOf}
use Rattle.ja_facts.specs.Equations.{Fact}
use Rattle.ja_facts.proofs.law.law_nothing_warns.Goals as goal

all_clean : (p : Parts) (sites : List Site) → AreVerdictsOf p (λ (k : ℕ) (f : Fact). ⊥) sites (map (λ (site : Site). false) sites)
all_clean p [] = tt
all_clean p (site ∷ sites) = ((λ t. absurd (cc t), λ w. absurd w.fact), all_clean p sites)

pub returns : goal.returns
returns c p = all_clean p p.sites
