-- What a run's ending says of its words and its folder.
use Rattle.std.proofs.Common.{◌≡◌, ◌≢◌, ℕ, ◌≤◌, List, [], ◌∷◌, Option, Some, IfSome, refl, codes, sym, ◌∙◌, arith}
use Rattle.std.specs.Io.KnownBytes.{Appends}
use Rattle.ja_base.specs.declared.file.File.{File}
use Rattle.ja_io.specs.Contents.{Contents}
use Rattle.ja_run.specs.Due.{ComesTo, without_files, too_many, not_first, analysed, IsAnswered, IsDue, usage, answered, IsSound, IsSoundReport, without_sinks, sound}
use Rattle.ja_run.specs.Words.{IsAnalyse}
use Rattle.ja_run.proofs.Told.{if_some, at_some}

-- what is due and is not the usage is the answer to a directory
pub answered_of : (words : List (List ℕ)) (told : Option Contents) (before after : Option (List ℕ)) (status : ℕ) (text : List ℕ) → IsDue words told status text
    → Appends before after text → status ≢ 2 → IsAnswered words told before after status
answered_of words told before after _ _ (usage wrong) written other = absurd (other refl)
answered_of words told before after _ _ (answered dir status text right judged due) written other =
    record { dir = dir; right = right; text = text; due = judged; written = written }

-- words name one directory
same_dir : (words : List (List ℕ)) (a b : List ℕ) → IsAnalyse words a → IsAnalyse words b → a ≡ b
same_dir words a b x y = let lists : codes "analyse" ∷ a ∷ [] ≡ codes "analyse" ∷ b ∷ [] = sym x.spelled ∙ y.spelled in cc

-- nothing is due where the folder tells another directory
pub nothing_elsewhere : (words : List (List ℕ)) (told : Option Contents) (status : ℕ) (text : List ℕ) (P : Type 0) → IsDue words told status text
    → (dir : List ℕ) → IsAnalyse words dir → IfSome told (λ held. held.dir ≢ dir → P)
nothing_elsewhere words told _ _ P (usage wrong) dir right = absurd (wrong dir right)
nothing_elsewhere words told _ _ P (answered named status text names judged due) dir right =
    if_some told (λ (held : Contents). held.dir ≢ dir → P) (λ held is other.
    let facts = at_some told (λ (h : Contents). (h.dir ≡ named) × ComesTo h.files status text) held is judged in
    absurd (other (facts.0 ∙ same_dir words named dir names right)))

-- a text with the status clean or warned is a sound report
sound_report : (files : List File) (status : ℕ) (text : List ℕ) → ComesTo files status text → status ≤ 1 → IsSoundReport files text
sound_report files _ _ (without_files none) low = without_sinks none refl
sound_report files _ _ (too_many name second) low = absurd (omega arith)
sound_report files _ _ (not_first file one unbuilt) low = absurd (omega arith)
sound_report files _ _ (analysed file m status text one first analysis) low =
    sound file m analysis.flags one first analysis.spelled analysis.verdicts analysis.clean

-- what is due with the status clean or warned is a sound report
pub sound_of : (words : List (List ℕ)) (told : Option Contents) (before after : Option (List ℕ)) (status : ℕ) (text : List ℕ) → IsDue words told status text
    → Appends before after text → status ≤ 1 → IsSound told before after
sound_of words told before after _ _ (usage wrong) written low = absurd (omega arith)
sound_of words told before after _ _ (answered dir status text right judged due) written low = record {
  text = text;
  written = written;
  report = if_some told (λ (held : Contents). IsSoundReport held.files text) (λ held is.
      sound_report held.files status text (at_some told (λ (h : Contents). (h.dir ≡ dir) × ComesTo h.files status text) held is judged).1 low);
}
