use Rattle.std.proofs.Common.{◌≡◌, ℕ, List, length}
use Rattle.std.specs.Prelude.{Some, slice_get}
use Rattle.ja_ir.specs.declared.class.ClassInfo.{ClassInfo}
use Rattle.ja_heads.specs.Classes.{IsClassInfo}
use Rattle.ja_heads.proofs.class_info.class_infos.Given as goal

abbrev pub invariant-loop-c : goal.invariant-loop-c
invariant-loop-c l = record {
  size : length l.infos ≡ l.c;
  each : (c : ℕ) (file : List ℕ) (info : ClassInfo) → slice_get l.files c ≡ Some file → slice_get l.infos c ≡ Some info → IsClassInfo l.hier file c info;
}
