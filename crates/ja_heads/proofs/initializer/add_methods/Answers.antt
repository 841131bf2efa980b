use Rattle.std.proofs.Common.{◌+◌, ◌++◌, [], ◌∷◌, List, take, append_assoc, sym, ap, ◌∙◌}
use Rattle.ja_base.specs.declared.id.MethodId.{MethodId}
use Rattle.ja_heads.specs.Initializers.{initializers_from}
use Rattle.ja_heads.proofs.Initializers.{from_more}
use Rattle.ja_heads.proofs.initializer.add_methods.Goals as goal

pub loop-k-preserved : goal.loop-k-preserved
loop-k-preserved c =
    let last : List MethodId = initializers_from (c.args.first + c.loop-k.k) (c.index-methods-k.result ∷ []) in
    c.in_ok-add_method.ensures
    ∙ ap (λ (l : List MethodId). l ++ last) c.loop-k.invariant
    ∙ append_assoc c.args.inits.now (initializers_from c.args.first (take c.loop-k.k c.args.methods.now)) last
    ∙ ap (λ (l : List MethodId). c.args.inits.now ++ l) (sym (from_more c.args.first c.args.methods.now c.loop-k.k c.index-methods-k.result c.loop-k-test.true c.index-methods-k.is))
