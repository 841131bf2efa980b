-- Programs that differ in the flows of rows of calls and in the marked positions of entries alone.
use Rattle.std.proofs.Common.{inl, inr, ℕ, List, map, sym, subst}
use Rattle.ja_ir.specs.declared.program.Parts.{Parts}
use Rattle.ja_ir.specs.declared.entry.Entry.{Entry}
use Rattle.ja_ir.specs.declared.method.Method.{Method}
use Rattle.ja_ir.specs.declared.method.Instr.{Instr}
use Rattle.ja_ir.specs.declared.row.RowFlow.{RowFlow}
use Rattle.ja_ir.specs.declared.op.CallOp.{CallOp}
use Rattle.ja_ir.specs.declared.op.Op.{Op}
use Rattle.ja_ir.specs.declared.op.Op.TheVariants.{Call}
use Rattle.ja_ir.specs.Categories.{op_in, instr_in, method_in, entry_in}
use Rattle.ja_ir.proofs.Projects.{seen}
use Rattle.ja_projection.proofs.Alike.{Alike, turned, mapped}

-- the call with another flow
abbrev pub with_flow : RowFlow → CallOp → CallOp
with_flow flow call = record call { row = record call.row { flow = flow } }

pub data SameOp : Op → Op → Type 0 where
  unchanged : {op : Op} → SameOp op op
  reflowed : {call : CallOp} {flow : RowFlow} → SameOp (Call call) (Call (with_flow flow call))

pub data SameInstr : Instr → Instr → Type 0 where
  redone : {instr : Instr} {op : Op} → SameOp instr.op op → SameInstr instr (record instr { op = op })

pub data SameMethod : Method → Method → Type 0 where
  recoded : {method : Method} {code : List Instr} → Alike SameInstr method.code code → SameMethod method (record method { code = code })

pub data SameEntry : Entry → Entry → Type 0 where
  remarked : {entry : Entry} {marked : List ℕ} → SameEntry entry (record entry { marked = marked })

-- a program, and methods and entries that it may have in place of its own
pub record Change : Type 0 where
  pub program : Parts
  pub methods : List Method
  pub entries : List Entry
  pub same_methods : Alike SameMethod program.methods methods
  pub same_entries : Alike SameEntry program.entries entries

-- the program with them
abbrev pub changed : Change → Parts
changed w = record w.program { methods = w.methods; entries = w.entries }

-- the way back
op-back : (a b : Op) → SameOp a b → SameOp b a
op-back _ _ unchanged = unchanged
op-back _ _ (reflowed {call = call} {flow = flow}) = reflowed {call = with_flow flow call} {flow = call.row.flow}

instr-back : (a b : Instr) → SameInstr a b → SameInstr b a
instr-back _ _ (redone {instr = instr} {op = op} s) = redone {instr = record instr { op = op }} {op = instr.op} (op-back instr.op op s)

pub method-back : (a b : Method) → SameMethod a b → SameMethod b a
method-back _ _ (recoded {method = method} {code = code} s) =
    recoded {method = record method { code = code }} {code = method.code} (turned SameInstr instr-back method.code code s)

pub entry-back : (a b : Entry) → SameEntry a b → SameEntry b a
entry-back _ _ (remarked {entry = entry} {marked = marked}) = remarked {entry = record entry { marked = marked }} {marked = entry.marked}

abbrev pub back : Change → Change
back w = record {
  program = changed w;
  methods = w.program.methods;
  entries = w.program.entries;
  same_methods = turned SameMethod method-back w.program.methods w.methods w.same_methods;
  same_entries = turned SameEntry entry-back w.program.entries w.entries w.same_entries;
}

-- the way to the program of a category
op-in : (c : ℕ) (op : Op) → SameOp op (op_in c op)
op-in c op = elim (seen c op) [
  | inl e ↦ subst (λ (o : Op). SameOp op o) (sym e) unchanged
  | inr x ↦ subst (λ (o : Op). SameOp o (op_in c o)) (sym x.1) reflowed
]

pub method-in : (c : ℕ) (method : Method) → SameMethod method (method_in c method)
method-in c method = recoded (mapped SameInstr (instr_in c) (λ instr. redone (op-in c instr.op)) method.code)

abbrev pub into_category : (c : ℕ) → Parts → Change
into_category c p = record {
  program = p;
  methods = map (method_in c) p.methods;
  entries = map (entry_in c) p.entries;
  same_methods = mapped SameMethod (method_in c) (method-in c) p.methods;
  same_entries = mapped SameEntry (entry_in c) (λ entry. remarked) p.entries;
}
