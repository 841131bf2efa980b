-- The constants of a pool.
use Rattle.std.specs.Prelude.{◌≡◌, ℕ}
use Rattle.ja_base.specs.Tag as pool_tag
use Rattle.ja_pool.specs.declared.constant.Constant.{Constant}
use Rattle.ja_pool.specs.declared.constant.Constant.TheVariants.{Integer, Float, Long, Double, Text, Class}
use Rattle.ja_pool.specs.declared.slot.Form.{Form}
use Rattle.ja_pool.specs.declared.slot.Form.TheVariants as forms
use Rattle.ja_pool.specs.Entry.{number, wide, single}
use Rattle.ja_pool.specs.Table.{Table, IsAt}

-- the constant is what the entry at an index is
abbrev pub IsConstantAt : Table → ℕ → Constant → Type 0
IsConstantAt table i (Integer bits) = IsAt table i (number pool_tag.integer bits)
IsConstantAt table i (Float bits) = IsAt table i (number pool_tag.float bits)
IsConstantAt table i (Long bits) = IsAt table i (wide pool_tag.long bits)
IsConstantAt table i (Double bits) = IsAt table i (wide pool_tag.double bits)
IsConstantAt table i (Text index) = IsAt table i (single pool_tag.string index)
IsConstantAt table i (Class index) = IsAt table i (single pool_tag.class index)

-- the constant is what a form holds
abbrev pub IsConstant : Form → Constant → Type 0
IsConstant form (Integer bits) = form ≡ forms.Number pool_tag.integer bits
IsConstant form (Float bits) = form ≡ forms.Number pool_tag.float bits
IsConstant form (Long bits) = form ≡ forms.Wide pool_tag.long bits
IsConstant form (Double bits) = form ≡ forms.Wide pool_tag.double bits
IsConstant form (Text index) = form ≡ forms.Single pool_tag.string index
IsConstant form (Class index) = form ≡ forms.Single pool_tag.class index
