use Rattle.std.proofs.Common.{◌∙◌, ◌++◌, ℕ, List, ap}
use Rattle.std.proofs.lemmas.List.{append-nil}
use Rattle.ja_ir.specs.declared.entry.Site.{Site}
use Rattle.ja_facts.specs.Verdict.{total_line, head_lines, site_lines}
use Rattle.ja_facts.proofs.law.law_report_without_sites.Goals as goal

pub returns : goal.returns
returns c p flags e =
    ap (λ (sites : List Site). head_lines p ++ site_lines p sites flags ++ total_line flags) e ∙ ap (λ (zs : List ℕ). zs ++ total_line flags) (append-nil (head_lines p))
