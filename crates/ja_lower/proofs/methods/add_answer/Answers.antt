use Rattle.std.proofs.Common.{arith}
use Rattle.std.proofs.lemmas.Option.{slice_get_within}
use Rattle.ja_lower.proofs.Answered.{answer-method, answer-refused, answer-sites}
use Rattle.ja_lower.proofs.Faults.{method-refused}
use Rattle.ja_lower.proofs.UpTo.{more, number-fits, number-up-to}
use Rattle.ja_lower.proofs.methods.add_answer.Goals as goal

pub at-requires : goal.at-requires
at-requires c = omega (arith, slice_get_within c.args.classes.now c.args.answer.place.class c.requires.answer.class c.requires.answer.at, c.requires.files)

pub add_lowered-requires : goal.add_lowered-requires
add_lowered-requires c = omega (
  arith,
  number-up-to c.args.table.now c.args.classes.now c.args.answer.place.class c.args.answer.place.method c.args.code.now.methods c.requires.so_far.methods_are,
  number-fits c.args.classes.now c.args.answer.place.class c.args.answer.place.method c.requires.answer.class c.requires.answer.at c.requires.answer.declared,
  c.requires.numbered,
)

pub returns-in-Err-clause-refused : goal.returns-in-Err-clause-refused
returns-in-Err-clause-refused c =
    method-refused c.law_one_method.ensures.not_both c.args.files.now c.args.table.now c.args.classes.now c.args.answer.place.class c.args.answer.place.method c.args.code.now.methods c.requires.answer.class c.at.result.now c.in-Err.fault c.method_fault.result
    c.requires.valid c.requires.so_far.methods_are c.requires.answer.at c.at.ensures
    (answer-refused c.args.table.now c.args.classes.now c.args.answer c.in-Err.fault c.requires.answer c.in-Err.is)
    c.method_fault.ensures

pub returns-in_ok-add_lowered-in-Ok-clause-added : goal.returns-in_ok-add_lowered-in-Ok-clause-added
returns-in_ok-add_lowered-in-Ok-clause-added c =
    more c.args.table.now c.args.classes.now c.args.answer.place.class c.args.answer.place.method c.requires.answer.class c.in-Ok.lowered.method c.in-Ok.lowered.sites c.args.code.now.methods c.add_lowered.new.code.methods
    c.args.code.now.sites c.add_lowered.new.code.sites c.requires.answer.at c.requires.answer.declared c.requires.so_far
    (answer-method c.args.table.now c.args.classes.now c.args.answer c.in-Ok.lowered c.requires.answer c.in-Ok.is)
    (answer-sites c.args.table.now c.args.classes.now c.args.answer c.in-Ok.lowered c.requires.answer c.in-Ok.is)
    c.in_ok-add_lowered-in-Ok.ensures.method c.in_ok-add_lowered-in-Ok.ensures.sites
