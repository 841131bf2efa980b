use Rattle.std.proofs.Common.{◌≤◌, ◌^◌, List, length, sym, ap, subst, ◌∙◌}
use Rattle.std.specs.Prelude.{sum_by}
use Rattle.std.proofs.lemmas.List.{length-map}
use Rattle.ja_ir.specs.declared.head.ClassHead.{ClassHead}
use Rattle.ja_ir.specs.declared.program.Parts.{Parts}
use Rattle.ja_class.specs.Meaning.{ClassSpelled}
use Rattle.ja_heads.specs.Classes.{AreClassInfos}
use Rattle.ja_heads.specs.Entries.{AreEntries}
use Rattle.ja_heads.specs.Fields.{AreFields}
use Rattle.ja_hier.specs.declared.starts.Member.TheVariants.{Method as OfMethods}
use Rattle.ja_hier.specs.Members.{count_of}
use Rattle.ja_lower.specs.Program.{IsProgramOf}
use Rattle.ja_lower.proofs.Described.{described}
use Rattle.ja_lower.proofs.Named.{whole-parts}
use Rattle.ja_lower.proofs.WholeProgram.{whole-program}
use Rattle.ja_lower.proofs.program.program_or_refusal.Goals as goal

pub declared_of-requires-clause-files : goal.declared_of-requires-clause-files
declared_of-requires-clause-files g c =
    c.requires.files ∙ sym (ap (λ (l : List ClassHead). length l) c.in_ok-hier.ensures.heads ∙ length-map c.args.classes.now (λ (class : ClassSpelled). class.head))

pub declared_of-requires-clause-classes : goal.declared_of-requires-clause-classes
declared_of-requires-clause-classes g c = subst (λ (l : List ClassHead). length l ≤ 2 ^ 26) (sym c.in_ok-hier.ensures.heads) c.requires.few.numbered.classes

pub declared_of-requires-clause-methods : goal.declared_of-requires-clause-methods
declared_of-requires-clause-methods g c = subst (λ (l : List ClassHead). sum_by (count_of OfMethods) l ≤ 2 ^ 26) (sym c.in_ok-hier.ensures.heads) c.requires.few.numbered.methods

pub new-requires : goal.new-requires
new-requires g c =
    let p : Parts = record { classes = c.in_ok-declared.declared.infos; methods = c.in_ok-code.code.methods; fields = c.in_ok-declared.declared.fields; entries = c.in_ok-declared.declared.entries; sites = c.in_ok-code.code.sites; categories = c.in_ok-declared.declared.categories } in
    let program : IsProgramOf c.args.names.now c.args.classes.now c.args.t.now p =
    record {
      hierarchy = c.in_ok-hier.ensures.valid;
      infos = subst (λ (l : List ClassHead). AreClassInfos l c.args.names.now c.in_ok-declared.declared.infos) c.in_ok-hier.ensures.heads c.in_ok-declared.ensures.infos;
      methods = c.in_ok-code.ensures.methods;
      fields = subst (λ (l : List ClassHead). AreFields l c.in_ok-declared.declared.fields) c.in_ok-hier.ensures.heads c.in_ok-declared.ensures.fields;
      entries = subst (λ (l : List ClassHead). AreEntries l c.args.t.now c.in_ok-declared.declared.entries) c.in_ok-hier.ensures.heads c.in_ok-declared.ensures.entries;
      sites = c.in_ok-code.ensures.sites;
      categories = c.in_ok-declared.ensures.categories;
    } in
    whole-program c.args.names.now c.args.classes.now c.args.t.now p c.requires.few program (described c.args.classes.now c.in_ok-hier.ensures.spelled) c.in_ok-declared.ensures.about
    (whole-parts c.law_whole_method.ensures.whole c.law_whole_method.ensures.about c.args.t.now c.in_ok-declared.ensures.about c.args.classes.now c.in_ok-hier.ensures.spelled)
