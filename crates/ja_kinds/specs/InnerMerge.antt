-- How what is known is merged where ways meet.
use Rattle.std.specs.Prelude.{Bool, true, false, List, [], ◌∷◌, length, ◌==◌, ◌&&◌, ◌||◌, if◌then◌else◌}
use Rattle.ja_base.specs.declared.java_type.Kind.{Kind}
use Rattle.ja_base.specs.declared.java_type.Kind.TheVariants.{T}
use Rattle.ja_kinds.specs.declared.state.State.{State}
use Rattle.ja_kinds.specs.declared.state.State.TheVariants.{Unreached, Known, Clash}
use Rattle.ja_kinds.specs.Frame.{same_kind, same_kinds}

-- whether each local of one list may be taken for that of another
abbrev pub are_below : List Kind → List Kind → Bool
are_below [] [] = true
are_below [] (l ∷ ls) = false
are_below (k ∷ ks) [] = false
are_below (k ∷ ks) (l ∷ ls) = (same_kind k l || same_kind l T) && are_below ks ls

-- whether one state says as much as another, or more
abbrev pub is_below : State → State → Bool
is_below Unreached s = true
is_below (Known f) Unreached = false
is_below (Known f) (Known g) = are_below f.locals g.locals && same_kinds f.stack g.stack
is_below (Known f) Clash = true
is_below Clash Unreached = false
is_below Clash (Known g) = false
is_below Clash Clash = true

-- unequal locals are merged into one that is not usable
abbrev pub met_kind : Kind → Kind → Kind
met_kind k l = if same_kind k l then k else T

abbrev pub met : List Kind → List Kind → List Kind
met [] ls = []
met (k ∷ ks) [] = []
met (k ∷ ks) (l ∷ ls) = met_kind k l ∷ met ks ls

-- equal stacks stay, and unequal ones clash
abbrev pub merge : State → State → State
merge Unreached t = t
merge (Known f) Unreached = Known f
merge (Known f) (Known g) =
    if length f.locals == length g.locals && same_kinds f.stack g.stack
    then Known (record { locals = met f.locals g.locals; stack = f.stack }) else Clash
merge (Known f) Clash = Clash
merge Clash t = Clash
