-- The constructor that only calls that of the superclass. A reader of the public contracts need not look here.
use Rattle.std.specs.Prelude.{ℕ, List, ◌++◌, drop, codes, Some}
use Rattle.ja_listing.specs.declared.item.Frame.{Frame}
use Rattle.ja_listing.specs.declared.item.Item.{Item}
use Rattle.ja_assembly.specs.Members.{Member, Labelled, Body, instructions, plain_number, initializer, instructions_in, ranges_in}

-- its instructions
abbrev pub initializer_code : List ℕ → List Labelled
initializer_code superclass = instructions (drop 1 (initializer superclass))

-- its frame
abbrev pub initializer_frame : Frame
initializer_frame = record { stack = plain_number 1; locals = plain_number 1 }

-- its beginning
abbrev pub initializer_member : Member
initializer_member = record { flags = plain_number 1; name = codes "<init>"; desc = codes "()V" }

-- the method, where these items stand behind its beginning in a class with the superclass above
abbrev pub constructor_body : (superclass above : List ℕ) → List Item → Body
constructor_body superclass above behind =
    record {
      member = initializer_member;
      frame = Some initializer_frame;
      instructions = initializer_code superclass ++ instructions_in above behind;
      ranges = ranges_in above behind;
    }
