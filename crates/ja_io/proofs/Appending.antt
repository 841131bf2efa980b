-- What a sink tells as pieces are written one after another.
use Rattle.std.proofs.Common.{◌≡◌, ℕ, List, [], ◌++◌, Option, Some, None, append_assoc, append-nil, refl, ap, sym, ◌∙◌}
use Rattle.std.specs.Io.KnownBytes.{Appends, Keeps}

-- nothing is appended where nothing happens
pub nothing_appended : (told : Option (List ℕ)) → Appends told told []
nothing_appended None = tt
nothing_appended (Some before) = sym (append-nil before)

-- what is appended in two parts is appended as one
pub appended_twice : (a b c : Option (List ℕ)) (x y : List ℕ) → Appends a b x → Appends b c y → Appends a c (x ++ y)
appended_twice None b c x y first then = tt
appended_twice (Some before) None c x y first then = absurd first
appended_twice (Some before) (Some middle) None x y first then = absurd then
appended_twice (Some before) (Some middle) (Some after) x y first then = then ∙ ap (λ (told : List ℕ). told ++ y) first ∙ append_assoc before x y

-- what was appended stays so where nothing more is
pub appended_kept : (a b c : Option (List ℕ)) (x : List ℕ) → Appends a b x → Keeps b c → Appends a c x
appended_kept None b c x first kept = tt
appended_kept (Some before) None c x first kept = absurd first
appended_kept (Some before) (Some middle) None x first kept = absurd kept
appended_kept (Some before) (Some middle) (Some after) x first kept = kept ∙ first

-- where nothing was appended, what is told stays
pub kept_of_nothing : (a b : Option (List ℕ)) → Appends a b [] → Keeps a b
kept_of_nothing None b appended = tt
kept_of_nothing (Some before) None appended = appended
kept_of_nothing (Some before) (Some after) appended = appended ∙ append-nil before
