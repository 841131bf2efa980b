-- The access flags of classes, fields and methods (JVM specification tables 4.1-B, 4.5-A and 4.6-A).
use Rattle.std.specs.Prelude.{ℕ}

-- of every package
abbrev pub acc_public : ℕ
acc_public = 0x0001

-- of its own class alone
abbrev pub acc_private : ℕ
acc_private = 0x0002

-- of its package and of subclasses
abbrev pub acc_protected : ℕ
acc_protected = 0x0004

-- a field or a method of the class and not of an object
abbrev pub acc_static : ℕ
acc_static = 0x0008

-- of a class: its special calls may go above it
abbrev pub acc_super : ℕ
acc_super = 0x0020

-- a method whose code is not in its class file
abbrev pub acc_native : ℕ
acc_native = 0x0100

-- a class that is an interface
abbrev pub acc_interface : ℕ
acc_interface = 0x0200

-- a class without objects of its own, or a method without code
abbrev pub acc_abstract : ℕ
acc_abstract = 0x0400
