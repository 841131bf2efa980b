-- What a folder comes to.
use Rattle.std.specs.Prelude.{◌≡◌, ℕ, List, Option, Some, None}
use Rattle.ja_base.specs.declared.file.File.{File}
use Rattle.ja_base.specs.declared.refusal.Refusal.{Refusal}
use Rattle.ja_class.specs.Meaning.{ClassSpelled}
use Rattle.ja_lib.specs.Content.{Content}
use Rattle.ja_lower.specs.Accept.{Accepts, Refuses}
use Rattle.ja_lower.specs.Program.{IsProgramOf, IsRefusedWhole}
use Rattle.ja_reading.specs.declared.judged.ClassesRead.{ClassesRead}
use Rattle.ja_reading.specs.declared.judgement.Judgement.{Judgement}
use Rattle.ja_reading.specs.declared.judgement.Judgement.TheVariants.{Accepted, Refused}

-- a folder of these files comes to this: it is accepted as a program, or refused for its first refusal
abbrev pub ComesTo : (files : List File) → Judgement → Type 0
ComesTo files (Accepted program) = Accepts files program
ComesTo files (Refused refusal) = Refuses files refusal

-- classes of these files come to this under a table
abbrev pub IsLowered : (files : List (List ℕ)) (classes : List ClassSpelled) (content : Content) → Judgement → Type 0
IsLowered files classes content (Accepted program) = IsProgramOf files classes content program
IsLowered files classes content (Refused refusal) = IsRefusedWhole files classes refusal

-- what class files come to under a table: the first refusal of one of them, or what their classes come to
abbrev pub ComesUnderSo : (names : List (List ℕ)) (classes : List ClassSpelled) → Option Refusal → (content : Content) → Judgement → Type 0
ComesUnderSo names classes None content judgement = IsLowered names classes content judgement
ComesUnderSo names classes (Some refusal) content judgement = judgement ≡ Refused refusal

abbrev pub ComesUnder : ClassesRead → (content : Content) → Judgement → Type 0
ComesUnder read content judgement = ComesUnderSo read.names read.classes.items read.refusal content judgement
