use Rattle.std.proofs.Common.{◌≡◌, ◌≢◌, ℕ, Err, ap, refl, arith}
use Rattle.ja_run.specs.Due.{whole, cut, no_folder, no_memory}
use Rattle.ja_run.specs.Status.{number_of}
use Rattle.ja_run.proofs.Endings.{answered_of, nothing_elsewhere, sound_of}
use Rattle.ja_run.proofs.analyse.run.Goals as goal

pub returns-in-Ok-write_whole-clause-ends : goal.returns-in-Ok-write_whole-clause-ends
returns-in-Ok-write_whole-clause-ends g c =
    whole (number_of c.in-Ok.answer.status) c.in-Ok.answer.text.items c.in-Ok.ensures.due
    (rw c.as_slice.ensures.value at c.in-Ok-write_whole.ensures.whole)

pub returns-in-Ok-write_whole-clause-verdicts : goal.returns-in-Ok-write_whole-clause-verdicts
returns-in-Ok-write_whole-clause-verdicts g c low =
    answered_of c.args.words.now _ _ _ (number_of c.in-Ok.answer.status) c.in-Ok.answer.text.items c.in-Ok.ensures.due
    (rw c.as_slice.ensures.value at c.in-Ok-write_whole.ensures.whole)
    (λ two. absurd (omega arith))

pub returns-in-Ok-write_whole-clause-refused : goal.returns-in-Ok-write_whole-clause-refused
returns-in-Ok-write_whole-clause-refused g c three =
    rw (← three) (answered_of c.args.words.now _ _ _ (number_of c.in-Ok.answer.status) c.in-Ok.answer.text.items c.in-Ok.ensures.due
    (rw c.as_slice.ensures.value at c.in-Ok-write_whole.ensures.whole)
    (λ two. absurd (omega arith)))

pub returns-in-Ok-clause-ends : goal.returns-in-Ok-clause-ends
returns-in-Ok-clause-ends g c =
    cut (number_of c.in-Ok.answer.status) c.in-Ok.answer.text.items c.in-Ok.ensures.due (rw c.as_slice.ensures.value at c.in-Err.ensures.cut) c.in-Err.ensures.fault

pub returns-in-Ok-write_whole-clause-elsewhere : goal.returns-in-Ok-write_whole-clause-elsewhere
returns-in-Ok-write_whole-clause-elsewhere g c =
    nothing_elsewhere c.args.words.now _ (number_of c.in-Ok.answer.status) c.in-Ok.answer.text.items _ c.in-Ok.ensures.due

pub returns-in-Ok-clause-elsewhere : goal.returns-in-Ok-clause-elsewhere
returns-in-Ok-clause-elsewhere g c = nothing_elsewhere c.args.words.now _ (number_of c.in-Ok.answer.status) c.in-Ok.answer.text.items _ c.in-Ok.ensures.due

pub returns-in-Err-Folder-clause-ends : goal.returns-in-Err-Folder-clause-ends
returns-in-Err-Folder-clause-ends g c = no_folder (c.in-Err-Folder.ensures.failed (ap Err c.in-Err-Folder.field-0-is)) refl

pub returns-clause-ends : goal.returns-clause-ends
returns-clause-ends g c = no_memory refl

pub returns-in-Ok-write_whole-clause-clean : goal.returns-in-Ok-write_whole-clause-clean
returns-in-Ok-write_whole-clause-clean g c low =
    sound_of c.args.words.now _ _ _ (number_of c.in-Ok.answer.status) c.in-Ok.answer.text.items c.in-Ok.ensures.due
    (rw c.as_slice.ensures.value at c.in-Ok-write_whole.ensures.whole) low
