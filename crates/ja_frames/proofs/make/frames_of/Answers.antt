use Rattle.std.proofs.Common.{◌≡◌, ◌+◌, ◌<◌, ◌++◌, ◌∷◌, [], length, take, sym, subst, ap, ◌∙◌}
use Rattle.std.specs.List.{AllZip}
use Rattle.std.proofs.lemmas.List.{take_more}
use Rattle.std.proofs.lemmas.Slice.Zip.{all_zipped_more}
use Rattle.ja_ir.specs.declared.method.Method.{Method}
use Rattle.ja_frames.specs.Frames.{IsFrameOf}
use Rattle.ja_frames.proofs.make.frames_of.Goals as goal

pub loop-method-preserved : goal.loop-method-preserved
loop-method-preserved c =
    let items = c.as_slice-method-items.result.now in
    let n = c.loop-method.method-index in
    let method = c.method-item.result in
    let frame = c.frame_of.result in
    let lt : n < length items = c.loop-method-test.true in
    let longer : take (n + 1) items ≡ take n items ++ method ∷ [] = take_more items n method lt ∙ ap (λ (m : Method). take n items ++ m ∷ []) (sym c.method-item.is) in
    let more = all_zipped_more IsFrameOf (take n items) c.loop-method.frames method frame c.loop-method.invariant c.frame_of.ensures in
    subst (λ methods. AllZip IsFrameOf methods c.push.new.self) (sym longer)
    (subst (λ frames. AllZip IsFrameOf (take n items ++ method ∷ []) frames) (sym c.in_ok-push.ensures.ok) more)
