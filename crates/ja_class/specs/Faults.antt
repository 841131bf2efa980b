-- The faults of a class file's parts as faults of the class file.
use Rattle.std.specs.Prelude.{ℕ}
use Rattle.ja_pool.specs.declared.fault.PoolFault.{PoolFault}
use Rattle.ja_pool.specs.declared.fault.PoolFault.TheVariants as pool
use Rattle.ja_code.specs.declared.fault.CodeFault.{CodeFault}
use Rattle.ja_code.specs.declared.fault.CodeFault.TheVariants as code
use Rattle.ja_attributes.specs.declared.fault.AttributeFault.{AttributeFault}
use Rattle.ja_attributes.specs.declared.fault.AttributeFault.TheVariants as attribute
use Rattle.ja_class.specs.declared.fault.ClassFault.{ClassFault}
use Rattle.ja_class.specs.declared.fault.ClassFault.TheVariants.{End, BadTag, PoolWidth, BadText, BadIndex, BadAttribute, BadOpcode, RefusedOpcode, BadBranch, BadHandler, CodeEnd, BadOperand, Memory}

-- the fault of a constant pool
abbrev pub pool_fault : PoolFault → ClassFault
pool_fault (pool.End at) = End at
pool_fault (pool.BadTag at tag) = BadTag at tag
pool_fault (pool.PoolWidth at) = PoolWidth at
pool_fault (pool.BadText at) = BadText at
pool_fault (pool.BadIndex at) = BadIndex at
pool_fault pool.Memory = Memory

-- the fault of the code of the method with a number
abbrev pub code_fault : ℕ → CodeFault → ClassFault
code_fault number (code.BadOpcode pc opcode) = BadOpcode number pc opcode
code_fault number (code.RefusedOpcode pc opcode) = RefusedOpcode number pc opcode
code_fault number (code.CodeEnd pc) = CodeEnd number pc
code_fault number (code.BadOperand pc) = BadOperand number pc
code_fault number (code.BadBranch pc) = BadBranch number pc
code_fault number (code.BadHandler handler) = BadHandler number handler
code_fault number code.Memory = Memory

-- the fault of the attributes of the method with a number
abbrev pub method_fault : ℕ → AttributeFault → ClassFault
method_fault number (attribute.End at) = End at
method_fault number (attribute.BadIndex at) = BadIndex at
method_fault number (attribute.BadAttribute at) = BadAttribute at
method_fault number (attribute.Undecodable wrong) = code_fault number wrong
method_fault number attribute.Memory = Memory

-- the fault of attributes that are not those of a method: they hold no code
abbrev pub outside_fault : AttributeFault → ClassFault
outside_fault = method_fault 0
