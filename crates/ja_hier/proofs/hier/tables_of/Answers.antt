use Rattle.std.proofs.Common.{◌≡◌, List, sym, ap, ◌∙◌, subst}
use Rattle.ja_ir.specs.declared.head.ClassHead.{ClassHead}
use Rattle.ja_supertypes.specs.Faults.{AreClasses}
use Rattle.ja_hier.specs.declared.starts.Member.TheVariants.{Field, Method}
use Rattle.ja_hier.specs.declared.tables.Tables.{Tables}
use Rattle.ja_hier.specs.InnerIndex.{AreForks, ArePlaces, AreStarts, IsIndexed, IsIndexOf}
use Rattle.ja_hier.specs.Members.{count_of, IsNumbered}
use Rattle.ja_hier.proofs.hier.tables_of.Goals as goal

pub returns-in-Ok-clause-heads : goal.returns-in-Ok-clause-heads
returns-in-Ok-clause-heads c = ap (λ (tables : Tables). tables.classes) c.joined.ensures ∙ c.in-Ok.ensures.heads

pub returns-in-Ok-clause-indexed : goal.returns-in-Ok-clause-indexed
returns-in-Ok-clause-indexed c =
    let same : c.args.heads.now ≡ c.in-Ok.ways.classes = sym c.in-Ok.ensures.heads in
    subst IsIndexed (sym c.joined.ensures)
    (record {
      valid = subst AreClasses same c.in-Ok.ensures.valid;
      numbered = subst IsNumbered same c.requires;
      field_starts = subst (λ (heads : List ClassHead). AreStarts heads (count_of Field) c.in_ok-fields.fields.starts) same c.in_ok-fields.ensures.starts;
      method_starts = subst (λ (heads : List ClassHead). AreStarts heads (count_of Method) c.in_ok-methods.methods.starts) same c.in_ok-methods.ensures.starts;
      forks = subst (λ (heads : List ClassHead). AreForks heads c.in-Ok.ways.forks) same c.in-Ok.ensures.forks;
      fields = subst (λ (heads : List ClassHead). IsIndexOf Field heads c.in_ok-fields.fields.by_name.classes) same c.in_ok-fields.ensures.classes;
      methods = subst (λ (heads : List ClassHead). IsIndexOf Method heads c.in_ok-methods.methods.by_name.classes) same c.in_ok-methods.ensures.classes;
      field_places = subst (λ (heads : List ClassHead). ArePlaces Field heads c.in_ok-fields.fields.by_name.places) same c.in_ok-fields.ensures.places;
      method_places = subst (λ (heads : List ClassHead). ArePlaces Method heads c.in_ok-methods.methods.by_name.places) same c.in_ok-methods.ensures.places;
    })
