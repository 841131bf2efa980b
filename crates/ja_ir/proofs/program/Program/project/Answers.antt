use Rattle.ja_ir.proofs.Projects.{projected-whole}
use Rattle.ja_ir.proofs.program.Program.project.Goals as goal

-- src/project.rt:28:12
pub new-requires : goal.new-requires
new-requires c =
    rw (c.in_ok-classes.ensures, c.in_ok-methods.ensures, c.in_ok-fields.ensures, c.in_ok-entries.ensures, c.in_ok-sites.ensures, c.in_ok-names.ensures, c.as_slice.ensures, c.as_slice-2.ensures, c.as_slice-3.ensures, c.as_slice-4.ensures, c.as_slice-5.ensures, c.as_slice-6.ensures)
    (projected-whole c.args.category c.parts-parts.result.now c.parts-parts.ensures.whole)
