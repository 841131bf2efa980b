-- The texts that a run writes.
use Rattle.std.specs.Prelude.{ℕ, ◌-◌, Bool, true, false, List, [], ◌∷◌, ◌++◌, length, map, filter, count_by, codes, if◌then◌else◌, ◌==◌}
use Rattle.std.specs.Fmt.{decimal}
use Rattle.ja_class.specs.declared.first.FirstOp.{FirstOp}
use Rattle.ja_class.specs.declared.first.FirstOp.TheVariants.{Load, Store, Text, Pop, Source, Sink, Return}
use Rattle.ja_class.specs.declared.first.FirstInstr.{FirstInstr}
use Rattle.ja_class.specs.declared.first.FirstMethod.{FirstMethod}
use Rattle.ja_run.specs.Text.{printed}

-- a line: its text and the byte LF
abbrev pub line : List ℕ → List ℕ
line text = text ++ 10 ∷ []

-- the lines before those of the sink calls: how many class files, entries and sink calls there are
abbrev pub head : (classes entries sinks : ℕ) → List ℕ
head classes entries sinks =
    line (codes "julia 1") ++ line (codes "classes " ++ decimal classes)
    ++ line (codes "entries " ++ decimal entries) ++ line (codes "sinks " ++ decimal sinks)

-- the first word of a sink call's line
abbrev pub verdict : Bool → List ℕ
verdict warned = if warned then codes "warned " else codes "clean "

-- the line of a sink call at this pc in `main` of this class
abbrev pub site_line : (class : List ℕ) (warned : Bool) (pc : ℕ) → List ℕ
site_line class warned pc =
    line (verdict warned ++ printed class ++ codes ".main([Ljava/lang/String;)V " ++ decimal pc
    ++ codes " demo/Taint.sink(Ljava/lang/String;)V")

-- the lines of the sink calls at these pcs, with these flags
abbrev pub site_lines : (class : List ℕ) (pcs : List ℕ) (warned : List Bool) → List ℕ
site_lines class [] flags = []
site_lines class (pc ∷ pcs) [] = []
site_lines class (pc ∷ pcs) (flag ∷ flags) = site_line class flag pc ++ site_lines class pcs flags

-- how many sink calls are warned
abbrev pub warned_count : List Bool → ℕ
warned_count flags = count_by (λ flag. flag) flags

-- the last line: how many sink calls are warned, and how many are clean
abbrev pub total_line : List Bool → List ℕ
total_line flags =
    line (codes "total warned " ++ decimal (warned_count flags) ++ codes " clean " ++ decimal (length flags - warned_count flags))

-- whether an operation is a sink call
abbrev pub is_sink : FirstOp → Bool
is_sink (Load _) = false
is_sink (Store _) = false
is_sink Text = false
is_sink Pop = false
is_sink Source = false
is_sink Sink = true
is_sink Return = false

-- the pcs of the sink calls, in order
abbrev pub sink_pcs : List FirstInstr → List ℕ
sink_pcs code = map (λ i. i.pc) (filter (λ i. is_sink i.op) code)

-- the report on a folder without files
abbrev pub empty_report : List ℕ
empty_report = head 0 0 0 ++ total_line []

-- the report on a folder whose one class has this method, with a flag for each sink call
abbrev pub report_of : FirstMethod → List Bool → List ℕ
report_of m flags = head 1 1 (length flags) ++ site_lines m.class (sink_pcs m.code) flags ++ total_line flags

-- the status of a report: 1 where some sink call is warned, else 0
abbrev pub status_of : List Bool → ℕ
status_of flags = if warned_count flags == 0 then 0 else 1

-- the line of the refusal Unbuilt, which names a file
abbrev pub unbuilt_line : (file : List ℕ) → List ℕ
unbuilt_line file = line (codes "refused 1 Unbuilt " ++ printed file)

-- the lines where the words are wrong
abbrev pub usage_lines : List ℕ
usage_lines =
    line (codes "usage: julia_cli analyse DIR [--workers N] [--limit SLOTS] [--witness]")
    ++ line (codes "usage: julia_cli generate NUMBER CLASSES [--workers N]")
