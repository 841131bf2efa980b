-- The classes that the generator makes.
use Rattle.std.specs.Prelude.{ℕ, zero, suc, ◌/◌, ◌%◌, List, [], ◌∷◌, ◌++◌, codes, Some, ◌==◌, if◌then◌else◌}
use Rattle.ja_base.specs.declared.file.File.{File}
use Rattle.ja_code.specs.Number.{aload_0, return, areturn, invokestatic, ldc}
use Rattle.ja_class.specs.ClassFile.{spelling}
use Rattle.ja_listing.specs.declared.item.MemberName.{MemberName}
use Rattle.ja_listing.specs.declared.item.Item.{Item}
use Rattle.ja_listing.specs.declared.item.Item.TheVariants.{Method}
use Rattle.ja_listing.specs.declared.item.Operand.TheVariants.{Nothing, Quotation, MethodName}
use Rattle.ja_listing.specs.Listed.{Listed}
use Rattle.ja_assembly.specs.Members.{plain_number, instruction}
use Rattle.ja_assembly.specs.Assembled.{file_of}
use Rattle.ja_generator.specs.Drawn.{number_of, class_name, file_name}

-- a text to a text
abbrev pub text_to_text : List ℕ
text_to_text = codes "(Ljava/lang/String;)Ljava/lang/String;"

-- the `f` of a class
abbrev pub f_of : (class : List ℕ) → MemberName
f_of class = record { class = class; name = codes "f"; desc = text_to_text }

-- a method of the class that has the source and the sink
abbrev pub of_taint : (name desc : List ℕ) → MemberName
of_taint name desc = record { class = codes "demo/Taint"; name = name; desc = desc }

abbrev pub call : MemberName → Item
call member = instruction invokestatic (MethodName member)

-- a public static method with one local and a stack of one value
abbrev pub static_method : (name desc : List ℕ) → Item
static_method name desc = Method (plain_number 9) name desc (Some (record { stack = plain_number 1; locals = plain_number 1 }))

-- `f` gives back its argument
abbrev pub argument_itself : List Item
argument_itself = instruction aload_0 Nothing ∷ instruction areturn Nothing ∷ []

-- `f` gives back what this method makes of its argument
abbrev pub passed_to : MemberName → List Item
passed_to member = instruction aload_0 Nothing ∷ call member ∷ instruction areturn Nothing ∷ []

-- `f` gives back a text of the source
abbrev pub from_source : List Item
from_source = call (of_taint (codes "source") (codes "()Ljava/lang/String;")) ∷ instruction areturn Nothing ∷ []

-- an earlier class than class i, by the number x; the first class has none
abbrev pub passed_to_earlier : (x i : ℕ) → List Item
passed_to_earlier x zero = argument_itself
passed_to_earlier x (suc i) = passed_to (f_of (class_name (x / 4 % suc i)))

-- the body of the `f` of class i, by a shape and the number x
abbrev pub body_by : (shape x i : ℕ) → List Item
body_by shape x i =
    if shape == 0 then argument_itself
    else (if shape == 1 then passed_to (of_taint (codes "copy") text_to_text)
    else (if shape == 2 then passed_to_earlier x i
    else from_source))

-- `main` passes what `f` makes of a text to the sink
abbrev pub main_of : (class : List ℕ) → List Item
main_of class =
    static_method (codes "main") (codes "([Ljava/lang/String;)V")
    ∷ instruction ldc (Quotation (codes "x"))
    ∷ call (f_of class)
    ∷ call (of_taint (codes "sink") (codes "(Ljava/lang/String;)V"))
    ∷ instruction return Nothing ∷ []

-- the items of class i, by its number x
abbrev pub items_by : (x i : ℕ) → List Item
items_by x i = static_method (codes "f") text_to_text ∷ body_by (x % 4) x i ++ main_of (class_name i)

-- class i, by its number x: public, and right below `java/lang/Object`
abbrev pub class_by : (x i : ℕ) → Listed
class_by x i = record {
  number = 0;
  head = record { name = class_name i; superclass = codes "java/lang/Object"; flags = plain_number 33 };
  items = items_by x i;
}

-- its file
abbrev pub file_by : (x i : ℕ) → File
file_by x i = record { name = file_name i; bytes = spelling (file_of (class_by x i)) }

-- the files of the first so many classes, in order
abbrev pub made_files : (number classes : ℕ) → List File
made_files number zero = []
made_files number (suc n) = made_files number n ++ file_by (number_of number n) n ∷ []
