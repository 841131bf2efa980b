use Rattle.std.proofs.Common.{◌≡◌, ℕ, List, drop}
use Rattle.std.specs.Prelude.{bytes_eq}
use Rattle.std.specs.HashMap.{get}
use Rattle.std.specs.List.{position_from}
use Rattle.ja_ir.specs.declared.class.ClassInfo.{ClassInfo}
use Rattle.ja_ir.specs.Lookup.{class_named}
use Rattle.ja_tokens.specs.Numbers.{or_later}
use Rattle.ja_tokens.proofs.classes.ClassNumbers.new.Given as goal

-- the number of each name so far, and else its place among the classes that are left
abbrev pub invariant-loop-c : goal.invariant-loop-c
invariant-loop-c l = (name : List ℕ)
    → or_later (get bytes_eq l.numbers name) (position_from (λ (class : ClassInfo). bytes_eq class.name name) l.c (drop l.c l.class-items)) ≡ class_named l.p name
