use Rattle.std.proofs.Common.{◌<◌, sym, ap, ◌∙◌, ◌++◌, List, length, map, arith}
use Rattle.ja_ir.specs.declared.class.Field.{Field}
use Rattle.ja_ir.specs.declared.head.HeadField.{HeadField}
use Rattle.ja_heads.specs.Fields.{field_of}
use Rattle.ja_heads.proofs.Steps.{fields-more}
use Rattle.ja_heads.proofs.field.fields.Goals as goal

pub loop-c-preserved : goal.loop-c-preserved
loop-c-preserved c =
    let lt : c.loop-c.c < length c.as_slice-heads.result.now = omega arith in
    c.in_ok-add_fields.ensures
    ∙ ap (λ (l : List HeadField). c.loop-c.fields ++ map (field_of c.loop-c.c) l) c.as_slice.ensures
    ∙ ap (λ (l : List Field). l ++ map (field_of c.loop-c.c) c.index-heads-c.result.fields) c.loop-c.invariant
    ∙ sym (fields-more c.as_slice-heads.result.now c.loop-c.c c.index-heads-c.result lt c.index-heads-c.is)
