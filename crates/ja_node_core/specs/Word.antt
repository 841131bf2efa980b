-- The word of a node, and the places of a table where it may stand.
use Rattle.std.specs.Prelude.{ℕ, ◌+◌, ◌-◌, ◌*◌, ◌/◌, ◌%◌, ◌^◌, min, nat_le, if◌then◌else◌}
use Rattle.ja_node_core.specs.declared.path.TheConstants.{MAX_PLACES}

-- the word of a variable and two children: 12 bits for the variable plus 1, 26 for the child where it is false, 26 for the child where it is true
unfoldable pub word_of : ℕ → ℕ → ℕ → ℕ
word_of var low high = (var + 1) * 2 ^ 52 + low * 2 ^ 26 + high

-- the three parts of a word
unfoldable pub var_of : ℕ → ℕ
var_of w = w / 2 ^ 52 - 1

unfoldable pub low_of : ℕ → ℕ
low_of w = w / 2 ^ 26 % 2 ^ 26

unfoldable pub high_of : ℕ → ℕ
high_of w = w % 2 ^ 26

-- how many places a word's path has in a table of n words, of which the first two are never used
unfoldable pub places : ℕ → ℕ
places n = min (n - 2) MAX_PLACES

-- what a word is multiplied by in the hash, in a table of n words: nothing up to 65,536 words, and in a larger table a prime near 2^32 divided by the golden ratio, which spreads words that differ in a few bits alone
abbrev pub factor : ℕ → ℕ
factor n = (if nat_le n 65536 then 1 else 2654435761)

-- the hash of a word in a table of n words, below n - 2: the remainders are by the greatest prime below 2^32
unfoldable pub hash : ℕ → ℕ → ℕ
hash n w = w % 4294967291 * factor n % 4294967291 % (n - 2)

-- the i-th place of the word's path
unfoldable pub place : ℕ → ℕ → ℕ → ℕ
place n w i = 2 + (hash n w + i) % (n - 2)
