-- The verdicts of sinks, and the text that reports them.
use Rattle.std.specs.Prelude.{◌↔◌, ℕ, ◌+◌, ◌/◌, ◌%◌, ◌==◌, ◌&&◌, Bool, true, false, not, nat_le, List, [], ◌∷◌, ◌++◌, Option, Some, None, IsTrue, codes, count_by, flat_map, length, slice_get, slice_index_or, if◌then◌else◌}
use Rattle.std.specs.Fmt.{decimal}
use Rattle.ja_ir.specs.declared.program.Parts.{Parts}
use Rattle.ja_ir.specs.declared.class.ClassInfo.{ClassInfo}
use Rattle.ja_ir.specs.declared.method.Method.{Method}
use Rattle.ja_ir.specs.declared.method.Instr.{Instr}
use Rattle.ja_ir.specs.declared.entry.Site.{Site}
use Rattle.ja_ir.specs.Lookup.{instr_at}
use Rattle.ja_facts.specs.Equations.{Fact, IsWarned}

-- there is one flag for each of these sites, in their order, and it is true exactly where the site is warned by the set of facts of its category
abbrev pub AreVerdictsOf : Parts → (S : (c : ℕ) → Fact → Type 0) → List Site → List Bool → Type 0
AreVerdictsOf p S [] [] = Unit {0}
AreVerdictsOf p S [] (flag ∷ flags) = ⊥
AreVerdictsOf p S (site ∷ sites) [] = ⊥
AreVerdictsOf p S (site ∷ sites) (flag ∷ flags) = (IsTrue flag ↔ IsWarned p (S site.category) site) × AreVerdictsOf p S sites flags

-- the flags are the verdicts of the program's sites by a set of facts for each category
abbrev pub AreVerdicts : Parts → (S : (c : ℕ) → Fact → Type 0) → List Bool → Type 0
AreVerdicts p S flags = AreVerdictsOf p S p.sites flags

-- a hexadecimal digit, in lower case
abbrev pub hex_digit : ℕ → ℕ
hex_digit n = if nat_le 10 n then 87 + n else 48 + n

-- a byte prints as itself where it is a visible ASCII character other than '\', and else as '\x' and two hexadecimal digits
abbrev pub printed_byte : ℕ → List ℕ
printed_byte b =
    if nat_le 33 b && (nat_le b 126 && not (b == 92)) then b ∷ []
    else codes "\\x" ++ hex_digit (b / 16) ∷ hex_digit (b % 16) ∷ []

-- how a name prints
abbrev pub printed : List ℕ → List ℕ
printed name = flat_map printed_byte name

-- the name of a class, if there is one
abbrev pub class_name : Option ClassInfo → List ℕ
class_name None = []
class_name (Some class) = class.name

-- the class, '.', the name and the descriptor of a method, if there is one
abbrev pub method_text : Parts → Option Method → List ℕ
method_text p None = []
method_text p (Some method) = printed (class_name (slice_get p.classes method.class.0)) ++ codes "." ++ printed method.name ++ printed method.desc

-- the place of an instruction in the code, if there is one
abbrev pub pc_text : Option Instr → List ℕ
pc_text None = []
pc_text (Some instr) = decimal instr.pc

-- the word of a verdict
abbrev pub verdict_text : Bool → List ℕ
verdict_text true = codes "warned"
verdict_text false = codes "clean"

-- what the line of a site says of its category, by the names of the categories: nothing where these have no names
abbrev pub category_text : (names : List (List ℕ)) → (c : ℕ) → List ℕ
category_text [] c = []
category_text (name ∷ names) c = codes " in " ++ printed (slice_index_or (name ∷ names) c [])

-- the line of a site: its verdict, its method, its pc, what it calls, and its category
abbrev pub site_line : Parts → Site → (warned : Bool) → List ℕ
site_line p site warned =
    verdict_text warned ++ codes " " ++ method_text p (slice_get p.methods site.method.0) ++ codes " "
    ++ pc_text (instr_at p site.method.0 site.index) ++ codes " " ++ printed site.target ++ category_text p.categories site.category ++ codes "\n"

-- the lines of sites with their flags
abbrev pub site_lines : Parts → List Site → List Bool → List ℕ
site_lines p [] flags = []
site_lines p (site ∷ sites) [] = []
site_lines p (site ∷ sites) (flag ∷ flags) = site_line p site flag ++ site_lines p sites flags

-- the first line: which form of report it is, by the names of the categories: the second where they have names
abbrev pub version_line : (names : List (List ℕ)) → List ℕ
version_line [] = codes "julia 1\n"
version_line (name ∷ names) = codes "julia 2\n"

-- the lines before those of the sites
abbrev pub head_lines : Parts → List ℕ
head_lines p =
    version_line p.categories ++ codes "classes " ++ decimal (length p.classes) ++ codes "\nentries " ++ decimal (length p.entries)
    ++ codes "\nsinks " ++ decimal (length p.sites) ++ codes "\n"

-- how many sites are warned
abbrev pub warned_count : List Bool → ℕ
warned_count flags = count_by (λ flag. flag) flags

-- how many sites are clean
abbrev pub clean_count : List Bool → ℕ
clean_count flags = count_by not flags

-- the last line
abbrev pub total_line : List Bool → List ℕ
total_line flags = codes "total warned " ++ decimal (warned_count flags) ++ codes " clean " ++ decimal (clean_count flags) ++ codes "\n"

-- the report of an analysis
abbrev pub report_text : Parts → List Bool → List ℕ
report_text p flags = head_lines p ++ site_lines p p.sites flags ++ total_line flags

-- the report without the lines of the sites
abbrev pub total_text : Parts → List Bool → List ℕ
total_text p flags = head_lines p ++ total_line flags
