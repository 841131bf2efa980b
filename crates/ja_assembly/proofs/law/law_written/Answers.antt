use Rattle.ja_class.specs.ClassFile.{pool_of}
use Rattle.ja_assembly.specs.Assembled.{pool_for, file_of}
use Rattle.ja_assembly.proofs.Wholes.{whole_is_written}
use Rattle.ja_assembly.proofs.law.law_written.Goals as goal

pub returns : goal.returns
returns c = λ class writable.
    let parts = c.law_right_items.ensures class writable in
    let pools = c.law_right_pool.ensures in
    let right = pools.right class parts.right_keys parts.few_strings parts.few_entries in
    whole_is_written class parts right
    (pools.pool class parts.right_keys parts.few_strings parts.few_entries)
    (pools.order class parts.right_keys parts.few_strings parts.few_entries)
    (λ b frame code. (
      c.law_code_attribute.ensures.attribute (pool_for class) (pool_of (file_of class)) b frame right code,
      c.law_code_attribute.ensures.says (pool_for class) (pool_of (file_of class)) b frame right code,
    ))
