-- The sets of parameters, results, fields and bags, as far as they are written.
use Rattle.std.specs.Prelude.{◌≡◌, ℕ, ◌<◌, Bool, List, [], Option, Some, None, length, slice_get, slice_index_or, slice_set}
use Rattle.ja_ir.specs.declared.program.Parts.{Parts}
use Rattle.ja_ir.specs.declared.method.Method.{Method}
use Rattle.ja_ir.specs.Params.{param_count}
use Rattle.ja_facts.specs.ClassTables.{ClassTable, token_count, no_members}
use Rattle.ja_facts.specs.Listing.{with_listed_in}
use Rattle.ja_network.specs.declared.cell.Cell.{Cell}
use Rattle.ja_network.specs.declared.cell.Cell.TheVariants.{Field, Bag, Param, Answer, Out}
use Rattle.ja_network.specs.declared.network.Network.{Network}
use Rattle.ja_class_tables.specs.InnerPool.{IsSetOf, row_of}

-- there are so many sets, and each of the first of them is that of its cell
pub record AreSetsOf (net : Network) (cell : ℕ → Cell) (count total : ℕ) (sets : List (List Bool)) : Type 0 where
  pub size : length sets ≡ total
  pub each : (k : ℕ) → k < count → IsSetOf net (cell k) (slice_index_or sets k [])

-- how many parameters a method has, if there is one
abbrev pub params_in : Option Method → ℕ
params_in None = 0
params_in (Some method) = param_count method

-- a parameter got the set of its cell
pub record PutsParam (net : Network) (m k : ℕ) (old new : ClassTable) : Type 0 where
  pub set : List Bool
  pub exact : IsSetOf net (Param m k) set
  pub is : new ≡ record old { params = with_listed_in old.params m k set }

-- the first so many parameters of a method got the sets of their cells
pub record PutsParams (net : Network) (m count : ℕ) (old new : ClassTable) : Type 0 where
  pub here : AreSetsOf net (Param m) count (length (row_of old.params m)) (row_of new.params m)
  pub elsewhere : (a : ℕ) → (a ≡ m → ⊥) → row_of new.params a ≡ row_of old.params a
  pub others : new ≡ record old { params = new.params }

-- the parameters of the first so many methods have the sets of their cells
pub record HasParams (p : Parts) (net : Network) (count : ℕ) (old new : ClassTable) : Type 0 where
  pub size : (m : ℕ) → length (row_of new.params m) ≡ params_in (slice_get p.methods m)
  pub each : (m : ℕ) → m < count → AreSetsOf net (Param m) (params_in (slice_get p.methods m)) (params_in (slice_get p.methods m)) (row_of new.params m)
  pub others : new ≡ record old { params = new.params }

-- the first so many methods have the sets of what they answer and throw out
pub record HasResults (p : Parts) (net : Network) (count : ℕ) (old new : ClassTable) : Type 0 where
  pub results : AreSetsOf net Answer count (length p.methods) new.results
  pub outs : AreSetsOf net Out count (length p.methods) new.outs
  pub others : new ≡ record old { results = new.results; outs = new.outs }

-- the first so many fields have the sets of their cells
pub record HasFields (p : Parts) (net : Network) (count : ℕ) (old new : ClassTable) : Type 0 where
  pub fields : AreSetsOf net Field count (length p.fields) new.fields
  pub others : new ≡ record old { fields = new.fields }

-- the bags of the first so many tokens have the sets of their cells
pub record HasBags (p : Parts) (net : Network) (count : ℕ) (old new : ClassTable) : Type 0 where
  pub bags : AreSetsOf net Bag count (token_count p) new.bags
  pub others : new ≡ record old { bags = new.bags }

-- a method got the sets of what it answers and throws out
pub record PutsResult (net : Network) (m : ℕ) (old new : ClassTable) : Type 0 where
  pub answers : List Bool
  pub thrown : List Bool
  pub exact_answers : IsSetOf net (Answer m) answers
  pub exact_thrown : IsSetOf net (Out m) thrown
  pub is : new ≡ record old { results = slice_set old.results m answers; outs = slice_set old.outs m thrown }

-- a field got the set of its cell
pub record PutsField (net : Network) (f : ℕ) (old new : ClassTable) : Type 0 where
  pub set : List Bool
  pub exact : IsSetOf net (Field f) set
  pub is : new ≡ record old { fields = slice_set old.fields f set }

-- the bags of a token got the set of their cell
pub record PutsBag (net : Network) (t : ℕ) (old new : ClassTable) : Type 0 where
  pub set : List Bool
  pub exact : IsSetOf net (Bag t) set
  pub is : new ≡ record old { bags = slice_set old.bags t set }

-- parameters, results, fields and bags have the sets of their cells
pub record HasMembers (p : Parts) (net : Network) (sets : ClassTable) : Type 0 where
  pub params : (m : ℕ) → AreSetsOf net (Param m) (params_in (slice_get p.methods m)) (params_in (slice_get p.methods m)) (row_of sets.params m)
  pub results : AreSetsOf net Answer (length p.methods) (length p.methods) sets.results
  pub outs : AreSetsOf net Out (length p.methods) (length p.methods) sets.outs
  pub fields : AreSetsOf net Field (length p.fields) (length p.fields) sets.fields
  pub bags : AreSetsOf net Bag (token_count p) (token_count p) sets.bags
  pub none : sets.none ≡ no_members (token_count p)
