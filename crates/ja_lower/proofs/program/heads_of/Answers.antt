use Rattle.std.proofs.Common.{◌≡◌, ◌<◌, List, [], ◌∷◌, ◌++◌, length, map, take, sym, ap, ◌∙◌, subst, arith}
use Rattle.std.proofs.lemmas.List.{map_more}
use Rattle.std.proofs.lemmas.List.Elements.{All-more}
use Rattle.ja_ir.specs.declared.head.ClassHead.{ClassHead}
use Rattle.ja_class.specs.ClassFile.{IsSpelled}
use Rattle.ja_class.specs.Meaning.{ClassSpelled}
use Rattle.ja_lower.proofs.program.heads_of.Goals as goal

pub loop-class-preserved : goal.loop-class-preserved
loop-class-preserved c =
    let lt : c.loop-class.class-index < length c.args.classes.now = omega arith in
    let same : c.in_ok-head.head ≡ c.class-item.result.head = cc (c.in_ok-head.ensures, ap (λ (x : ClassSpelled). x.head) c.class.view_is) in
    record {
      heads =
          c.in_ok-push.ensures.ok
          ∙ ap (λ (l : List ClassHead). l ++ c.in_ok-head.head ∷ []) c.loop-class.invariant.heads
          ∙ ap (λ (h : ClassHead). map (λ (class : ClassSpelled). class.head) (take c.loop-class.class-index c.args.classes.now) ++ h ∷ []) (same ∙ ap (λ (x : ClassSpelled). x.head) c.class-item.is)
          ∙ sym (map_more (λ (class : ClassSpelled). class.head) c.args.classes.now c.loop-class.class-index c.class-item.result lt);
      spelled =
          All-more IsSpelled c.args.classes.now c.loop-class.class-index c.class-item.result lt c.loop-class.invariant.spelled
          (subst IsSpelled (c.class.view_is ∙ c.class-item.is) c.class.invariant);
    }
