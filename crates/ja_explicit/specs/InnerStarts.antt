-- What the environment may call where something tainted was stored, as a list of facts in words.
use Rattle.std.specs.Prelude.{ℕ, ◌==◌, ◌&&◌, ◌||◌, Bool, true, false, List, [], ◌∷◌, ◌++◌, Option, Some, None, slice_get, slice_index_or, if◌then◌else◌}
use Rattle.std.specs.List.{list_any}
use Rattle.ja_base.specs.declared.java_type.Kind.{Kind}
use Rattle.ja_base.specs.declared.java_type.Kind.TheVariants.{R}
use Rattle.ja_base.specs.declared.id.MethodId.{MethodId}
use Rattle.ja_ir.specs.declared.program.Parts.{Parts}
use Rattle.ja_ir.specs.declared.method.Method.{Method}
use Rattle.ja_ir.specs.declared.entry.Entry.{Entry}
use Rattle.ja_ir.specs.Lookup.{is_member}
use Rattle.ja_ir.specs.Params.{kind_among, param_types}
use Rattle.ja_ir.specs.Entries.{constructor_of}
use Rattle.ja_ir.specs.Initializing.{inits_of_class}
use Rattle.ja_facts.specs.declared.facts.Facts.{Facts}
use Rattle.ja_facts.specs.ClassTables.{token_count, param_set}
use Rattle.ja_facts.specs.FactTables.{cell_count}
use Rattle.ja_facts.specs.Formulas.{any_below}
use Rattle.ja_explicit.specs.declared.item.Item.{Item}
use Rattle.ja_explicit.specs.declared.item.Item.TheVariants.{Context}
use Rattle.ja_explicit.specs.InnerWords.{says, next_words, opened_clauses}
use Rattle.ja_explicit.specs.InnerSteps.{stores}

-- a kind is that of references
abbrev pub is_reference : Kind → Bool
is_reference R = true
is_reference _ = false

-- an object of the token may reach a cell into which something tainted was stored
abbrev pub token_stores : Parts → Facts → List Item → (t : ℕ) → Bool
token_stores p f items t = any_below (λ c. slice_index_or (slice_index_or f.holds.tokens t []) c false && stores items c) (cell_count p)

-- some object of a parameter may
abbrev pub param_stores : Parts → Facts → List Item → (m k : ℕ) → Bool
param_stores p f items m k = any_below (λ t. slice_index_or (param_set f.sets m k) t false && token_stores p f items t) (token_count p)

-- the position is marked
abbrev pub is_marked : Entry → (k : ℕ) → Bool
is_marked entry k = list_any (λ j. j == k) entry.marked

-- parameter k of an entry may be true
abbrev pub may_be_true : Parts → Facts → List Item → Entry → Method → (k : ℕ) → Bool
may_be_true p f items entry method k =
    is_marked entry k || (is_reference (kind_among (is_member method.flags) (param_types method) k) && param_stores p f items entry.method.0 k)

-- a method may be called with each of some words
abbrev pub contexts : (m : ℕ) → (ws : List ℕ) → List Item
contexts m [] = []
contexts m (w ∷ ws) = Context m w ∷ contexts m ws

-- class initialisers may run
abbrev pub initializers : List MethodId → List Item
initializers [] = []
initializers (m ∷ inits) = Context m.0 0 ∷ initializers inits

-- a constructor may, if there is one
abbrev pub constructs : Option ℕ → List Item
constructs None = []
constructs (Some m) = Context m 0 ∷ []

-- the method of an entry may be called
abbrev pub opens : Parts → Facts → List Item → Entry → Option Method → List Item
opens p f items entry None = []
opens p f items entry (Some method) =
    (if is_member method.flags then constructs (constructor_of p entry.class.0) else [])
    ++ contexts entry.method.0 (next_words method (opened_clauses method (may_be_true p f items entry method)) (says method 0))

-- what comes of an entry, and of some of them
abbrev pub enters : Parts → Facts → List Item → Entry → List Item
enters p f items entry = initializers (inits_of_class (slice_get p.classes entry.class.0)) ++ opens p f items entry (slice_get p.methods entry.method.0)

abbrev pub enters_each : Parts → Facts → List Item → List Entry → List Item
enters_each p f items [] = []
enters_each p f items (entry ∷ entries) = enters p f items entry ++ enters_each p f items entries
