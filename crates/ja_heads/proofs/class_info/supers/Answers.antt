use Rattle.ja_heads.proofs.Inside.{are-supers, supertypes-fit}
use Rattle.ja_heads.proofs.class_info.supers.Goals as goal

pub at_or_above-requires : goal.at_or_above-requires
at_or_above-requires c = supertypes-fit c.args.hier.now c.args.class.0 c.supertypes.result.now c.as_slice.result.now c.requires.few c.supertypes.ensures c.as_slice.ensures

pub returns : goal.returns
returns c = are-supers c.args.hier.now c.args.class.0 c.supertypes.result.now c.as_slice.result.now c.in_ok-ids.ids c.supertypes.ensures c.as_slice.ensures c.in_ok-ids.ensures
