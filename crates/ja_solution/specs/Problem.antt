-- What a solver is given, and what it looks for.
use Rattle.std.specs.Prelude.{List}
use Rattle.ja_ir.specs.declared.program.Parts.{Parts}
use Rattle.ja_facts.specs.declared.facts.Facts.{Facts}
use Rattle.ja_facts.specs.Least.{Least}
use Rattle.ja_facts.specs.Analyses.{Analyses}
use Rattle.ja_facts.specs.Equations.{Fact, Rule}
use Rattle.ja_work.specs.declared.frame.Frame.{Frame}
use Rattle.ja_work.specs.Told.{told}
use Rattle.ja_blocks.specs.declared.blocks.ProgramBlock.{ProgramBlock}

-- a program, what the analyses before found of it, the frames of its methods and its blocks
pub record Problem : Type 0 where
  pub program : Parts
  pub facts : Facts
  pub frames : List Frame
  pub blocks : List ProgramBlock

-- what is known before
abbrev pub known : Problem → Analyses
known x = told x.program x.facts

-- from these facts comes this fact
abbrev pub Gives : Problem → List Fact → Fact → Type 0
Gives x = Rule x.program (known x)

-- the least solution of the equations of taint
abbrev pub Solution : Problem → Fact → Type 0
Solution x = Least (Gives x)
