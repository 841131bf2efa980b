use Rattle.ja_kinds.proofs.step.turned.Goals as goal

pub returns-in-Loads : goal.returns-in-Loads
returns-in-Loads c = rw c.in-Loads.is (c.loaded.ensures c.args.returns)

pub returns-in-Stores : goal.returns-in-Stores
returns-in-Stores c = rw c.in-Stores.is (c.popped.ensures c.args.returns)

pub returns-in-Counts : goal.returns-in-Counts
returns-in-Counts c = rw c.in-Counts.is (c.counted.ensures c.args.returns)
