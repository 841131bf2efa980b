-- The words behind the command: options with their values, and all other words.
use Rattle.std.specs.Prelude.{ℕ, Bool, ◌||◌, false, List, [], ◌∷◌, bytes_eq, codes, if◌then◌else◌}

-- the options
abbrev pub workers_option : List ℕ
workers_option = codes "--workers"

abbrev pub limit_option : List ℕ
limit_option = codes "--limit"

abbrev pub is_option : (word : List ℕ) → Bool
is_option word = bytes_eq word workers_option || bytes_eq word limit_option

-- the first word is an option that has a value: the next word, whatever that is
abbrev pub begins_with_option : (words : List (List ℕ)) → Bool
begins_with_option [] = false
begins_with_option (word ∷ []) = false
begins_with_option (word ∷ value ∷ words) = is_option word

-- the words that are neither options nor values of options, in their order
abbrev pub plain_words : (words : List (List ℕ)) → List (List ℕ)
plain_words [] = []
plain_words (word ∷ []) = word ∷ []
plain_words (word ∷ value ∷ words) = if is_option word then plain_words words else word ∷ plain_words (value ∷ words)

-- the values of an option, in their order
abbrev pub values_of : (option : List ℕ) → (words : List (List ℕ)) → List (List ℕ)
values_of option [] = []
values_of option (word ∷ []) = []
values_of option (word ∷ value ∷ words) =
    if is_option word then (if bytes_eq word option then value ∷ values_of option words else values_of option words)
    else values_of option (value ∷ words)
