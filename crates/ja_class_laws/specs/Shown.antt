-- What the facts of a network show of class sets and of the call graph, where the cells of slots have these names.
use Rattle.std.specs.Prelude.{◌≡◌, ℕ, true}
use Rattle.ja_ir.specs.declared.program.Parts.{Parts}
use Rattle.ja_ir.specs.Tokens.{absorbs}
use Rattle.ja_facts.specs.Slots.{Slot}
use Rattle.ja_facts.specs.ClassSets as class_sets
use Rattle.ja_facts.specs.ClassSets.{Fact as ClassFact, InEnv, InSlot, InThrown, InParam, InResult, InOut, InField, InBag, CallsMethod, Spans, Takes, HasField}
use Rattle.ja_facts.specs.Told.{SlotIs}
use Rattle.ja_network.specs.declared.cell.Cell.TheVariants.{Environment, Field, Bag, Param, Answer, Out, Thrown, Takers}
use Rattle.ja_network.specs.declared.cell.Event.TheVariants.{Reached, Calls, CallsAbstract, CallsLibrary}
use Rattle.ja_network.specs.Facts.{Fact, HasToken, Happens}
use Rattle.ja_cells.specs.Rows.{cell_in}
use Rattle.ja_cells.specs.Names.{Names, row_at}

-- the token is in the cell of a slot before an instruction that may run
pub record SlotShows (p : Parts) (names : Names) (T : Fact → Type 0) (m i : ℕ) (z : Slot) (t : ℕ) : Type 0 where
  pub n : ℕ
  pub is : SlotIs p m z n
  pub reached : T (Happens (Reached m i))
  pub member : T (HasToken (cell_in (row_at names m i) n) t)

-- an object of token t is or leads to one of the token, by the cells of fields and bags
pub data LeadsBy (p : Parts) (T : Fact → Type 0) (t : ℕ) : ℕ → Type 0 where
  leads_itself : LeadsBy p T t t
  leads_by_field : {u v : ℕ} (f : ℕ) → HasField p u f → T (HasToken (Field f) v) → LeadsBy p T t u → LeadsBy p T t v
  leads_by_bag : {u v : ℕ} → absorbs p u ≡ true → T (HasToken (Bag u) v) → LeadsBy p T t u → LeadsBy p T t v

-- these facts of a network show a fact of class sets or of the call graph
abbrev pub Shows : Parts → Names → (Fact → Type 0) → ClassFact → Type 0
Shows p names T (class_sets.Reached m i) = T (Happens (Reached m i))
Shows p names T (InEnv t) = T (HasToken Environment t)
Shows p names T (InSlot m i z t) = SlotShows p names T m i z t
Shows p names T (InThrown m i t) = T (HasToken (Thrown m i) t)
Shows p names T (InParam m k t) = T (HasToken (Param m k) t)
Shows p names T (InResult m t) = T (HasToken (Answer m) t)
Shows p names T (InOut m t) = T (HasToken (Out m) t)
Shows p names T (InField f t) = T (HasToken (Field f) t)
Shows p names T (InBag b t) = T (HasToken (Bag b) t)
Shows p names T (CallsMethod m i n) = T (Happens (Calls m i n))
Shows p names T (class_sets.CallsAbstract m i n) = T (Happens (CallsAbstract m i n))
Shows p names T (class_sets.CallsLibrary m i) = T (Happens (CallsLibrary m i))
Shows p names T (Spans t u) = LeadsBy p T t u
Shows p names T (Takes m i b) = T (HasToken (Takers m i) b)
