-- The tags of the entries of a constant pool (JVM specification 4.4, table 4.4-A).
use Rattle.std.specs.Prelude.{ℕ}

-- a text
abbrev pub utf8 : ℕ
utf8 = 1

-- an int
abbrev pub integer : ℕ
integer = 3

-- a float
abbrev pub float : ℕ
float = 4

-- a long
abbrev pub long : ℕ
long = 5

-- a double
abbrev pub double : ℕ
double = 6

-- a class, an interface or an array type
abbrev pub class : ℕ
class = 7

-- a constant string
abbrev pub string : ℕ
string = 8

-- a field of a class
abbrev pub field : ℕ
field = 9

-- a method of a class
abbrev pub method : ℕ
method = 10

-- a method of an interface
abbrev pub interface_method : ℕ
interface_method = 11

-- the name and the descriptor of a member
abbrev pub name_and_type : ℕ
name_and_type = 12

-- a method handle
abbrev pub method_handle : ℕ
method_handle = 15

-- a method type
abbrev pub method_type : ℕ
method_type = 16

-- a call that the program binds while it runs
abbrev pub invoke_dynamic : ℕ
invoke_dynamic = 18
