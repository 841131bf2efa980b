use Rattle.ja_class_tables.proofs.Exact.{members-read}
use Rattle.ja_class_tables.proofs.reading.members_of.Goals as goal

pub returns : goal.returns
returns c =
    members-read c.args.p.now c.args.net.now c.in_ok-sets.sets c.put_all_params.new.sets c.put_results.new.sets c.put_fields.new.sets c.put_bags.new.sets c.in_ok-sets.ensures c.in_ok-put_all_params.ensures
    c.in_ok-put_results.ensures c.in_ok-put_fields.ensures c.in_ok-put_bags.ensures
