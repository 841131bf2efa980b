use Rattle.std.proofs.Common.{◌≡◌, ◌+◌, ◌++◌, ◌∷◌, [], ℕ, List, false, Result, Ok, Err, length, sym, ◌∙◌, subst}
use Rattle.std.specs.Prelude.{IfOk, is_some}
use Rattle.std.proofs.lemmas.Result.{IfOk-weaker}
use Rattle.ja_base.specs.declared.file.File.{File}
use Rattle.ja_base.specs.declared.memory.Memory.{Memory}
use Rattle.ja_class.specs.ClassFile.{IsClass}
use Rattle.ja_class.specs.Meaning.{ClassSpelled}
use Rattle.ja_reading.specs.Judged.{AreClassesRead}
use Rattle.ja_reading.specs.Sizes.{AreWithin}
use Rattle.ja_reading.specs.declared.judged.ClassesRead.{ClassesRead}
use Rattle.ja_reading.proofs.MoreFiles.{class_step, refusal_step, refused_step}
use Rattle.ja_reading.proofs.Sizes.{sized, within_more}
use Rattle.ja_reading.proofs.judging.with_class_file.Goals as goal

pub returns-then-is_some-clause-judged : goal.returns-then-is_some-clause-judged
returns-then-is_some-clause-judged c files next named content before = refused_step files next c.args.read (sym c.is_some.ensures ∙ c.if-is_some.true) before

read_as : (r : Result ClassesRead Memory) (read : ClassesRead) (file bytes : List ℕ) (class : ClassSpelled) → is_some read.refusal ≡ false → IsClass bytes class
    → IfOk r (λ now. now.refusal ≡ read.refusal) → IfOk r (λ now. now.names ≡ read.names ++ file ∷ []) → IfOk r (λ now. now.classes.items ≡ read.classes.items ++ class ∷ [])
    → IfOk r (λ now. (files : List File) (next : File) → next.name ≡ file → next.bytes ≡ bytes → AreClassesRead files read → AreClassesRead (files ++ next ∷ []) now)
read_as (Ok now) read file bytes class none spelled refusal names classes =
    λ files next named content before. class_step files next read now file bytes class refusal names classes none spelled named content before
read_as (Err memory) read file bytes class none spelled refusal names classes = tt

pub returns-in-Ok-clause-judged : goal.returns-in-Ok-clause-judged
returns-in-Ok-clause-judged c =
    read_as c.with_class.result c.args.read c.args.file c.args.bytes.now c.in-Ok.class (sym c.is_some.ensures ∙ c.if-is_some.false) c.in-Ok.ensures.ok
    c.with_class.ensures.refusal c.with_class.ensures.names c.with_class.ensures.classes

pub returns-in-Ok-clause-few : goal.returns-in-Ok-clause-few
returns-in-Ok-clause-few c =
    IfOk-weaker c.with_class.result (λ (now : ClassesRead). now.classes.items ≡ c.args.read.classes.items ++ c.in-Ok.class ∷ [])
    (λ (now : ClassesRead). (total : ℕ) → AreWithin c.args.read.classes.items total → AreWithin now.classes.items (total + length c.args.bytes.now))
    (λ now same total within.
    subst (λ (l : List ClassSpelled). AreWithin l (total + length c.args.bytes.now)) (sym same)
    (within_more c.args.read.classes.items c.in-Ok.class total (length c.args.bytes.now) within (sized c.args.bytes.now c.in-Ok.class c.in-Ok.ensures.ok)))
    c.with_class.ensures.classes

pub returns-in-Some-clause-judged : goal.returns-in-Some-clause-judged
returns-in-Some-clause-judged c files next named content before =
    refusal_step c.law_spelled_or_refused.ensures.not_both files next c.args.read c.with_refusal.result c.args.file c.args.bytes.now c.in-Err.fault c.in-Some.refusal
    c.with_refusal.ensures.refusal (sym c.is_some.ensures ∙ c.if-is_some.false) c.in-Err.ensures.fault (sym c.in-Some.ensures) named content before
