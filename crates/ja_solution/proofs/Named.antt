-- The fields that instructions read are there.
use Rattle.std.proofs.Common.{◌≡◌, ℕ, ◌<◌, Some, length, sym, ap, ◌∙◌, subst, arith}
use Rattle.std.specs.Prelude.{Option, All, slice_get}
use Rattle.ja_ir.specs.declared.program.Parts.{Parts}
use Rattle.ja_ir.specs.declared.method.Method.{Method}
use Rattle.ja_ir.specs.declared.op.Op.{Op}
use Rattle.ja_ir.specs.declared.op.Op.TheVariants.{GetStatic, GetField, Const, Text, Load, Store, ArrLoad, ArrStore, Shuffle, Mix, Branch, Return, PutStatic, PutField, Call, New, NewArray, ArrLen, Throw, Cast, InstanceOf, Monitor, Nop}
use Rattle.ja_ir.specs.Lookup.{code_of}
use Rattle.ja_ir.specs.Whole.{IsWhole, NamesAll, NamesOperands}
use Rattle.ja_ir.proofs.Cuts.{all-at}
use Rattle.ja_facts.specs.FactTables.{cell_count}
use Rattle.ja_facts.specs.Held.{Cell, OfField, OfBag}
use Rattle.ja_facts.specs.Told.{cell_number, IsCell}
use Rattle.ja_blocks.specs.Readers.{Gets, GetsAt}
use Rattle.ja_solution.proofs.Placed.{in_code}

pub cell_lt : (p : Parts) (c : Cell) → IsCell p c → cell_number p c < cell_count p
cell_lt p (OfField f) lt = omega arith
cell_lt p (OfBag t) lt = omega arith

gets_named : (p : Parts) (op : Op) (f : ℕ) → NamesOperands p op → Gets op f → f < length p.fields
gets_named p (GetField field) f names is = subst (λ n. n < length p.fields) (sym is) names
gets_named p (GetStatic field) f names is = subst (λ n. n < length p.fields) (sym is) names
gets_named p (Const _) f names is = absurd is
gets_named p Text f names is = absurd is
gets_named p (Load _ _) f names is = absurd is
gets_named p (Store _ _) f names is = absurd is
gets_named p (ArrLoad _) f names is = absurd is
gets_named p (ArrStore _) f names is = absurd is
gets_named p (Shuffle _ _) f names is = absurd is
gets_named p (Mix _ _ _) f names is = absurd is
gets_named p (Branch _) f names is = absurd is
gets_named p (Return _) f names is = absurd is
gets_named p (PutStatic _) f names is = absurd is
gets_named p (PutField _) f names is = absurd is
gets_named p (Call _) f names is = absurd is
gets_named p (New _) f names is = absurd is
gets_named p (NewArray _ _) f names is = absurd is
gets_named p ArrLen f names is = absurd is
gets_named p Throw f names is = absurd is
gets_named p (Cast _) f names is = absurd is
gets_named p InstanceOf f names is = absurd is
gets_named p Monitor f names is = absurd is
gets_named p Nop f names is = absurd is

pub field_named : (p : Parts) → IsWhole p → (m i f : ℕ) → GetsAt p m i f → f < length p.fields
field_named p whole m i f at =
    let code = in_code p m i at.instr at.found in
    let method : Method = code.0 in
    let here : slice_get method.code i ≡ Some at.instr = sym (ap (λ (o : Option Method). slice_get (code_of o) i) code.1) ∙ at.found in
    let instrs : All (NamesAll p (length method.code)) method.code = all-at (λ (x : Method). All (NamesAll p (length x.code)) x.code) p.methods whole.instructions m method code.1 in
    let names : NamesAll p (length method.code) at.instr = all-at (NamesAll p (length method.code)) method.code instrs i at.instr here in
    gets_named p at.instr.op f names.operands at.gets
