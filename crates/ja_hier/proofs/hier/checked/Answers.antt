use Rattle.ja_hier.proofs.hier.checked.Goals as goal

pub returns-in-Ok-clause-valid : goal.returns-in-Ok-clause-valid
returns-in-Ok-clause-valid c = record {
  platform = c.requires.valid.platform;
  distinct = c.requires.valid.distinct;
  acyclic = c.requires.valid.acyclic;
  packages = c.in-Ok.ensures.ok;
}
