use Rattle.std.proofs.Common.{◌≡◌, ◌⊎◌, List, ℕ, subst}
use Rattle.ja_bytes.specs.Reading.{Reading}
use Rattle.ja_pool.specs.Table.{tags_of, dims_of}
use Rattle.ja_code.specs.declared.handler.RawHandler.{RawHandler}
use Rattle.ja_code.specs.Grammar.{Spells}
use Rattle.ja_code.specs.Faults.{IsCause}
use Rattle.ja_attributes.specs.declared.fault.AttributeFault.TheVariants.{Memory}
use Rattle.ja_attributes.specs.Faults.{Layout, code_layout}
use Rattle.ja_attributes.specs.InnerSteps.{onward, behind_all, seen, content_of}
use Rattle.ja_attributes.proofs.Codes.{content_start, content_cut, content_whole, content_undecodable, content_read}
use Rattle.ja_attributes.proofs.code.code_content.Goals as goal

pub returns-in-Err : goal.returns-in-Err
returns-in-Err c =
    let table = c.args.pool.now in
    let at = c.args.attribute.now.at in
    let start = rw c.new-c.ensures at c.in-Err.ensures.reads in
    let h = subst (λ (r : Reading). (c.in-Err.fault ≡ Memory) ⊎ (code_layout table at).fault r c.in-Err.fault) (content_start (seen c.args.attribute.now)) start in
    rw c.in_content.ensures (content_cut table at (content_of (seen c.args.attribute.now)) c.in-Err.fault h)

pub returns-in-Ok-decode : goal.returns-in-Ok-decode
returns-in-Ok-decode c =
    let table = c.args.pool.now in
    let at = c.args.attribute.now.at in
    let h = seen c.args.attribute.now in
    let layout : Layout = record { max_stack = c.in-Ok.fields.max_stack; max_locals = c.in-Ok.fields.max_locals; code = c.in-Ok.fields.code.now; rows = c.in-Ok.fields.rows.items } in
    let start = rw c.new-c.ensures at c.in-Ok.ensures.reads in
    let p = content_whole table at h layout (onward h.from c.fields_of.new.c) start c.in-Ok.ensures.end in
    let spells : Spells layout.code (tags_of table) (dims_of table) layout.rows c.in-Ok-decode.code =
    subst (λ (t : List ℕ). Spells layout.code t (dims_of table) layout.rows c.in-Ok-decode.code) c.tags.ensures
    (subst (λ (t : List ℕ). Spells layout.code c.tags.result.now t layout.rows c.in-Ok-decode.code) c.dims.ensures
    (subst (λ (t : List RawHandler). Spells layout.code c.tags.result.now c.dims.result.now t c.in-Ok-decode.code) c.as_slice.ensures.value c.in-Ok-decode.ensures.found)) in
    rw (c.from.ensures, c.from-in-Ok-decode.ensures) (content_read table at (content_of h) layout (behind_all (content_of h)) p c.in-Ok-decode.code spells)

pub returns : goal.returns
returns c =
    let table = c.args.pool.now in
    let at = c.args.attribute.now.at in
    let h = seen c.args.attribute.now in
    let layout : Layout = record { max_stack = c.in-Ok.fields.max_stack; max_locals = c.in-Ok.fields.max_locals; code = c.in-Ok.fields.code.now; rows = c.in-Ok.fields.rows.items } in
    let start = rw c.new-c.ensures at c.in-Ok.ensures.reads in
    let p = content_whole table at h layout (onward h.from c.fields_of.new.c) start c.in-Ok.ensures.end in
    let cause : IsCause layout.code (tags_of table) (dims_of table) layout.rows c.in-Err-decode.fault =
    subst (λ (t : List ℕ). IsCause layout.code t (dims_of table) layout.rows c.in-Err-decode.fault) c.tags.ensures
    (subst (λ (t : List ℕ). IsCause layout.code c.tags.result.now t layout.rows c.in-Err-decode.fault) c.dims.ensures
    (subst (λ (t : List RawHandler). IsCause layout.code c.tags.result.now c.dims.result.now t c.in-Err-decode.fault) c.as_slice.ensures.value c.in-Err-decode.ensures.cause)) in
    rw c.undecodable.ensures (content_undecodable table at (content_of h) layout (behind_all (content_of h)) p c.in-Err-decode.fault cause)
