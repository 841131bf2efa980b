-- Where an exception goes: the search through the exception table (JVM specification 2.10).
use Rattle.std.specs.Prelude.{ℕ, ◌&&◌, Bool, List, [], ◌∷◌, Option, Some, None, nat_le, nat_lt, slice_get, if◌then◌else◌}
use Rattle.ja_ir.specs.declared.program.Parts.{Parts}
use Rattle.ja_ir.specs.declared.method.Method.{Method}
use Rattle.ja_ir.specs.declared.method.Handler.{Handler}
use Rattle.ja_ir.specs.declared.method.Catch.{Catch}
use Rattle.ja_ir.specs.declared.method.Catch.TheVariants.{All as Everything, Program as InClass, Library as InLibrary}
use Rattle.ja_ir.specs.Lookup.{at_or_below}

-- instruction i is in the handler's range
abbrev pub in_range : Handler → (i : ℕ) → Bool
in_range handler i = nat_le handler.start i && nat_lt i handler.end

-- a place to which an exception goes: a handler's target in the method, or out of the method
pub data Place : Type 0 where
  Inside : (target : ℕ) → Place
  Outside : Place

-- the places at a handler in whose range the exception was thrown, where `further` are those past it
abbrev pub dest_at : Parts → (token target : ℕ) → Catch → (further : List Place) → List Place
dest_at p token target Everything further = Inside target ∷ []
dest_at p token target (InClass c) further = if at_or_below p token c.0 then Inside target ∷ [] else further
dest_at p token target InLibrary further = Inside target ∷ further

-- the places among these handlers for an exception of the token that is thrown at instruction i
abbrev pub dest_among : Parts → (i token : ℕ) → List Handler → List Place
dest_among p i token [] = Outside ∷ []
dest_among p i token (h ∷ handlers) =
    if in_range h i then dest_at p token h.target h.catch (dest_among p i token handlers) else dest_among p i token handlers

-- the handlers of a method, if there is one
abbrev pub handlers_of : Option Method → List Handler
handlers_of None = []
handlers_of (Some method) = method.handlers

-- the places to which an exception of the token that is thrown at instruction i of method m may go
abbrev pub dest : Parts → (m i token : ℕ) → List Place
dest p m i token = dest_among p i token (handlers_of (slice_get p.methods m))
