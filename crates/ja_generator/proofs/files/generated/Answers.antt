use Rattle.ja_generator.proofs.Pushes.{next_drawn, more_files}
use Rattle.ja_generator.proofs.files.generated.Goals as goal

pub loop-i-preserved : goal.loop-i-preserved
loop-i-preserved c =
    let l = c.loop-i in
    let x = c.drawn_after-x in
    record {
      below = x.ensures.below;
      number = next_drawn c.args.number l.i l.x x.result l.invariant.number x.ensures.next;
      made = more_files c.args.number l.i l.x x.result l.files c.push.new.self c.in_ok-file_by.field-0 l.invariant.number x.ensures.next l.invariant.made c.in_ok-file_by.ensures c.in_ok-push.ensures.ok;
    }
