use Rattle.std.proofs.Common.{◌≡◌, inl, inr}
use Rattle.std.proofs.lemmas.Option.{slice_get_within}
use Rattle.ja_ir.specs.declared.class.MethodAt.TheVariants.{Program}
use Rattle.ja_hier.specs.declared.skip.Skip.TheVariants.{NotVirtual}
use Rattle.ja_hier.proofs.OneAnswer.{one-method}
use Rattle.ja_heads.proofs.entering.entering_on_object.Goals as goal

pub select-requires : goal.select-requires
select-requires c = slice_get_within c.args.hier.now c.args.class.0 c.args.head.now c.requires.found

pub returns-in-Abstract : goal.returns-in-Abstract
returns-in-Abstract c = record {
  some = tt;
  none = λ m e.
      let same : c.select.result ≡ Program (record { 0 = m }) =
      one-method c.args.hier.now NotVirtual c.args.row.now.method c.args.row.now.desc c.args.class.0 c.select.result (Program (record { 0 = m })) c.select.ensures e.selected in
      elim c.in-Abstract.is [ inl a ↦ cc (a.1, same) | inr l ↦ cc (l, same) ];
}
