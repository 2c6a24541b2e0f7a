-- How lines are read one behind the other, each by the rule of its kind: up to the first that fails. The last of the pieces of a text is no line, as it has no end.
use Rattle.std.specs.Prelude.{ℕ, suc, List, [], ◌∷◌, Bool, true, false, if◌then◌else◌}
use Rattle.report_words.specs.Words.{Word, Line}
use Rattle.report_rules.specs.Rules.{Rule}
use Rattle.report_rules.specs.WordTests.{same_word}
use Rattle.report_reading.specs.declared.fault.ReportFault.{ReportFault}
use Rattle.report_reading.specs.declared.fault.ReportFault.TheVariants as faults

-- what comes of some lines: the first fault, or the state behind them, the number of the next line, and what is left
pub data Outcome (S : Type 0) : Type 0 where
  Fails : ReportFault → Outcome S
  Goes : S → ℕ → List Line → Outcome S

abbrev pub and_then : {S T : Type 0} → Outcome S → (S → ℕ → List Line → Outcome T) → Outcome T
and_then (Fails fault) next = Fails fault
and_then (Goes s n ls) next = next s n ls

abbrev pub has_tag : Word → Line → Bool
has_tag tag [] = false
has_tag tag (w ∷ ws) = same_word w tag

-- the words behind the first one
abbrev pub later_words : Line → List Word
later_words [] = []
later_words (w ∷ ws) = ws

-- a line of that number, that stands and is in range or not
abbrev pub judged : {S : Type 0} (stands in_range : Bool) → ℕ → Outcome S → Outcome S
judged false in_range n next = Fails (faults.Line n)
judged true false n next = Fails (faults.Number n)
judged true true n next = next

-- a line of the kind
abbrev pub one : {S : Type 0} → Rule S → S → ℕ → List Line → Outcome S
one r s n [] = Fails (faults.Line n)
one r s n (l ∷ []) = Fails (faults.Line n)
one r s n (l ∷ m ∷ ls) =
    if has_tag r.tag l
    then judged (r.stands s (later_words l)) (r.in_range s (later_words l)) n (Goes (r.next s (later_words l)) (suc n) (m ∷ ls))
    else Fails (faults.Line n)

-- a line of the kind, or none
abbrev pub maybe : {S : Type 0} → Rule S → S → ℕ → List Line → Outcome S
maybe r s n [] = Goes s n []
maybe r s n (l ∷ []) = Goes s n (l ∷ [])
maybe r s n (l ∷ m ∷ ls) =
    if has_tag r.tag l
    then judged (r.stands s (later_words l)) (r.in_range s (later_words l)) n (Goes (r.next s (later_words l)) (suc n) (m ∷ ls))
    else Goes s n (l ∷ m ∷ ls)

-- all lines of the kind that follow
abbrev pub many : {S : Type 0} → Rule S → S → ℕ → List Line → Outcome S
many r s n [] = Goes s n []
many r s n (l ∷ []) = Goes s n (l ∷ [])
many r s n (l ∷ m ∷ ls) =
    if has_tag r.tag l
    then judged (r.stands s (later_words l)) (r.in_range s (later_words l)) n (many r (r.next s (later_words l)) (suc n) (m ∷ ls))
    else Goes s n (l ∷ m ∷ ls)

-- the same where they may stand, and no line of the kind where they may not
abbrev pub many_where : {S : Type 0} → Bool → Rule S → S → ℕ → List Line → Outcome S
many_where true r s n ls = many r s n ls
many_where false r s n ls = Goes s n ls

-- a line with that first word is next
abbrev pub starts : Word → List Line → Bool
starts tag [] = false
starts tag (l ∷ []) = false
starts tag (l ∷ m ∷ ls) = has_tag tag l
