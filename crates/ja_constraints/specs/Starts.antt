-- What is told at first: what the environment makes, runs and hands over, and the texts of fields.
use Rattle.std.specs.Prelude.{ℕ, suc, List, [], ◌∷◌, ◌++◌, Option, Some, None, map, slice_get, if◌then◌else◌}
use Rattle.ja_base.specs.declared.java_type.Kind.{Kind}
use Rattle.ja_base.specs.declared.java_type.Kind.TheVariants.{R}
use Rattle.ja_base.specs.declared.java_type.JavaType.{JavaType}
use Rattle.ja_ir.specs.declared.program.Parts.{Parts}
use Rattle.ja_ir.specs.declared.class.Field.{Field as FieldInfo}
use Rattle.ja_ir.specs.declared.method.Method.{Method}
use Rattle.ja_ir.specs.declared.entry.Entry.{Entry}
use Rattle.ja_ir.specs.Lookup.{is_member}
use Rattle.ja_ir.specs.Operations.{count_of}
use Rattle.ja_ir.specs.Params.{param_types}
use Rattle.ja_ir.specs.Entries.{constructor_of}
use Rattle.ja_ir.specs.Initializing.{inits_of_class}
use Rattle.ja_ir.specs.Tokens.{text_token, fresh_tokens}
use Rattle.ja_network.specs.declared.cell.Cell.TheVariants.{Environment, Field, Param}
use Rattle.ja_network.specs.declared.cell.Action.TheVariants.{Enter, Stock}
use Rattle.ja_constraints.specs.declared.constraint.Constraint.{Constraint}
use Rattle.ja_constraints.specs.declared.constraint.Constraint.TheVariants.{Has}
use Rattle.ja_constraints.specs.Links.{link, gets, reach}
use Rattle.ja_constraints.specs.Flows.{begin_each}

-- the environment makes objects of these tokens
abbrev pub makes_each : List ℕ → List Constraint
makes_each tokens = map (Has Environment) tokens

-- what the environment makes goes to parameter k of method m, where that is of a kind of references
abbrev pub hands_over : (m k : ℕ) → Kind → List Constraint
hands_over m k R = link Environment (Enter m k)
hands_over m k _ = []

-- the environment makes something for parameter k of method m, and hands it over
abbrev pub gives : Parts → (m k : ℕ) → JavaType → List Constraint
gives p m k type = makes_each (fresh_tokens p type) ++ hands_over m k type.kind

-- the same for parameters of these types, of which the first has number k
abbrev pub gives_each : Parts → (m k : ℕ) → List JavaType → List Constraint
gives_each p m k [] = []
gives_each p m k (type ∷ types) = gives p m k type ++ gives_each p m (suc k) types

-- the environment runs a constructor of class c, if there is one, on an object of the class
abbrev pub constructs : (c : ℕ) → Option ℕ → List Constraint
constructs c None = []
constructs c (Some m) = reach m 0 ++ gets (Param m 0) c

-- the environment makes an object of class c, on which it runs method m
abbrev pub makes_receiver : Parts → (c m : ℕ) → List Constraint
makes_receiver p c m = gets Environment c ++ gets (Param m 0) c ++ constructs c (constructor_of p c)

-- the same, where the method has a receiver
abbrev pub receives : Parts → Entry → Method → List Constraint
receives p entry method = if is_member method.flags then makes_receiver p entry.class.0 entry.method.0 else []

-- the number of a method's first parameter that has a type in its descriptor
abbrev pub first_param : Method → ℕ
first_param method = count_of (is_member method.flags)

-- what the environment gives to the method of an entry
abbrev pub gives_all : Parts → Entry → Method → List Constraint
gives_all p entry method = receives p entry method ++ gives_each p entry.method.0 (first_param method) (param_types method)

-- what the environment gives to the method of an entry, if there is one
abbrev pub gives_to : Parts → Entry → Option Method → List Constraint
gives_to p entry None = []
gives_to p entry (Some method) = gives_all p entry method

-- what is told of an entry
abbrev pub enters : Parts → Entry → List Constraint
enters p entry = reach entry.method.0 0 ++ begin_each (inits_of_class (slice_get p.classes entry.class.0)) ++ gives_to p entry (slice_get p.methods entry.method.0)

-- what is told of all entries
abbrev pub enter_all : Parts → List Entry → List Constraint
enter_all p [] = []
enter_all p (entry ∷ entries) = enters p entry ++ enter_all p entries

-- a field that begins as a constant text has one
abbrev pub begins_as : Parts → (f : ℕ) → FieldInfo → List Constraint
begins_as p f field = if field.text then gets (Field f) (text_token p) else []

-- the same for fields of which the first has number f
abbrev pub begin_fields : Parts → (f : ℕ) → List FieldInfo → List Constraint
begin_fields p f [] = []
begin_fields p f (field ∷ fields) = begins_as p f field ++ begin_fields p (suc f) fields

-- what is told at first
abbrev pub starts : Parts → List Constraint
starts p = link Environment Stock ++ enter_all p p.entries ++ begin_fields p 0 p.fields
