use Rattle.std.proofs.Common.{◌<◌, ◌++◌, [], ◌∷◌, List, length, take, get_or, sym, ap, ◌∙◌, arith}
use Rattle.std.proofs.lemmas.List.{map_push, take_more}
use Rattle.ja_code.specs.declared.handler.RawHandler.{RawHandler}
use Rattle.ja_ir.specs.declared.method.Handler.{Handler}
use Rattle.ja_methods.specs.Handlers.{handler_of, handlers_of}
use Rattle.ja_methods.proofs.handler.handlers_of.Goals as goal

abbrev none : RawHandler
none = record { start = 0; end = 0; handler = 0; catch_type = 0 }

pub loop-row-preserved : goal.loop-row-preserved
loop-row-preserved c =
    let f = handler_of c.args.hier.now c.args.pool.now c.args.instrs.now in
    let rows = c.args.rows.now in
    let lt : c.loop-row.row-index < length rows = omega arith in
    c.in_ok-push.ensures.ok
    ∙ ap (λ (h : Handler). c.loop-row.list ++ h ∷ []) c.in_ok-handler_of.ensures
    ∙ ap (λ (l : List Handler). l ++ f (get_or rows c.loop-row.row-index none) ∷ []) c.loop-row.invariant
    ∙ sym (map_push f (take c.loop-row.row-index rows) (get_or rows c.loop-row.row-index none))
    ∙ ap (handlers_of c.args.hier.now c.args.pool.now c.args.instrs.now) (sym (take_more rows c.loop-row.row-index none lt))
