-- The numbers of the opcodes that are spoken of by name (JVM specification 6.5 and 7).
use Rattle.std.specs.Prelude.{ℕ}

-- loads a constant of one word
abbrev pub ldc : ℕ
ldc = 18

-- loads a local reference
abbrev pub aload : ℕ
aload = 25

-- loads the reference in local 0; the opcodes up to aload_3 follow
abbrev pub aload_0 : ℕ
aload_0 = 42

abbrev pub aload_3 : ℕ
aload_3 = 45

-- stores into a local reference
abbrev pub astore : ℕ
astore = 58

-- stores into local 0; the opcodes up to astore_3 follow
abbrev pub astore_0 : ℕ
astore_0 = 75

abbrev pub astore_3 : ℕ
astore_3 = 78

-- pops a word
abbrev pub pop : ℕ
pop = 87

-- jumps to a subroutine
abbrev pub jsr : ℕ
jsr = 168

-- returns from a subroutine
abbrev pub ret : ℕ
ret = 169

-- ends a method with a reference
abbrev pub areturn : ℕ
areturn = 176

-- ends a method without a value
abbrev pub return : ℕ
return = 177

-- calls a constructor, a private method or a method of a superclass
abbrev pub invokespecial : ℕ
invokespecial = 183

-- calls a static method
abbrev pub invokestatic : ℕ
invokestatic = 184

-- calls what the program binds while it runs
abbrev pub invokedynamic : ℕ
invokedynamic = 186

-- jumps to a subroutine that is farther away
abbrev pub jsr_w : ℕ
jsr_w = 201
