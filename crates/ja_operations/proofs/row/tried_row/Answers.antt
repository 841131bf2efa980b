use Rattle.std.proofs.Common.{◌≡◌, ℕ, List, [], ◌∷◌, ◌++◌, Option, None, sym, ap, ◌∙◌}
use Rattle.std.specs.Option.{option_or}
use Rattle.ja_supertypes.specs.Supertypes.{object_name}
use Rattle.ja_ir.specs.declared.row.LibRow.{LibRow}
use Rattle.ja_lib.specs.Rows.{row_for}
use Rattle.ja_operations.specs.Rows.{of_library, of_program, first_row}
use Rattle.ja_operations.proofs.FirstRows.{or_none}
use Rattle.ja_operations.proofs.row.tried_row.Goals as goal

pub returns-in-Some : goal.returns-in-Some
returns-in-Some c =
    let names : c.as_slice.result.now ++ c.args.object.now ∷ [] ≡ c.library_types.result.now ++ object_name ∷ [] = cc in
    record {
      names = c.library_types.result.now ++ object_name ∷ [];
      tried = of_program c.in-Some.ensures.some c.library_types.ensures;
      is = c.first_or.ensures ∙ ap (λ (l : List (List ℕ)). first_row c.args.table.now.rows l c.args.member.now.name c.args.member.now.desc) names;
    }

pub returns-in-Some-row_of : goal.returns-in-Some-row_of
returns-in-Some-row_of c = record {
  names = c.args.member.now.class ∷ object_name ∷ [];
  tried = of_library c.in-None.ensures.none;
  is = ap (λ (o : Option LibRow). option_or o (option_or (row_for c.args.table.now.rows object_name c.args.member.now.name c.args.member.now.desc) None)) c.in-Some-row_of.ensures;
}

pub returns-in-None-row_of : goal.returns-in-None-row_of
returns-in-None-row_of c =
    let rows = c.args.table.now.rows in
    let name = c.args.member.now.name in
    let desc = c.args.member.now.desc in
    record {
      names = c.args.member.now.class ∷ object_name ∷ [];
      tried = of_library c.in-None.ensures.none;
      is = c.row_of-in-None-row_of.ensures ∙ ap (λ (n : List ℕ). row_for rows n name desc) c.requires ∙ sym (or_none (row_for rows object_name name desc))
          ∙ ap (λ (o : Option LibRow). option_or o (option_or (row_for rows object_name name desc) None)) c.in-None-row_of.ensures;
    }
