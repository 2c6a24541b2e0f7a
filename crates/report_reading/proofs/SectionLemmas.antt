-- What one line does to the reading of a section.
use Rattle.std.proofs.Common.{◌≡◌, ℕ, suc, ◌<◌, List, [], ◌∷◌, length, Bool, true, false, refl, sym, arith, if◌then◌else◌}
use Rattle.std.proofs.lemmas.Bool.{false≢true}
use Rattle.report_words.specs.Words.{Word, Line}
use Rattle.report_rules.specs.Rules.{Rule, Stands, IsFlaw}
use Rattle.report_rules.specs.declared.flaw.Flaw.{Flaw}
use Rattle.report_rules.specs.declared.flaw.Flaw.TheVariants as flaws
use Rattle.report_rules.proofs.WordTestLemmas.{same_word_same}
use Rattle.report_reading.specs.declared.fault.ReportFault.TheVariants as faults
use Rattle.report_reading.specs.Sections.{Fails, Goes, has_tag, one, maybe, many, starts}
use Rattle.report_reading.specs.Reading.{Stops, fault_at}

-- a line that stands

pub many-step : {S : Type 0} → (r : Rule S) (s : S) (n : ℕ) (ws : List Word) (ls : List Line) → 0 < length ls → Stands r s ws → many r s n ((r.tag ∷ ws) ∷ ls) ≡ many r (r.next s ws) (suc n) ls
many-step r s n ws [] some st = absurd (omega arith)
many-step r s n ws (m ∷ ms) some st = rw (same_word_same r.tag r.tag refl, st.stands, st.in_range) refl

pub one-step : {S : Type 0} → (r : Rule S) (s : S) (n : ℕ) (ws : List Word) (ls : List Line) → 0 < length ls → Stands r s ws → one r s n ((r.tag ∷ ws) ∷ ls) ≡ Goes (r.next s ws) (suc n) ls
one-step r s n ws [] some st = absurd (omega arith)
one-step r s n ws (m ∷ ms) some st = rw (same_word_same r.tag r.tag refl, st.stands, st.in_range) refl

pub maybe-step : {S : Type 0} → (r : Rule S) (s : S) (n : ℕ) (ws : List Word) (ls : List Line) → 0 < length ls → Stands r s ws → maybe r s n ((r.tag ∷ ws) ∷ ls) ≡ Goes (r.next s ws) (suc n) ls
maybe-step r s n ws [] some st = absurd (omega arith)
maybe-step r s n ws (m ∷ ms) some st = rw (same_word_same r.tag r.tag refl, st.stands, st.in_range) refl

-- no line of the kind

by_tag : {A : Type 0} → (t : Bool) (x y : A) → t ≡ false → (if t then x else y) ≡ y
by_tag true x y e = absurd (false≢true (sym e))
by_tag false x y e = refl

pub many-none : {S : Type 0} → (r : Rule S) (s : S) (n : ℕ) (ls : List Line) → starts r.tag ls ≡ false → many r s n ls ≡ Goes s n ls
many-none r s n [] e = refl
many-none r s n (l ∷ []) e = refl
many-none r s n (l ∷ m ∷ ls) e = by_tag (has_tag r.tag l) _ _ e

pub maybe-none : {S : Type 0} → (r : Rule S) (s : S) (n : ℕ) (ls : List Line) → starts r.tag ls ≡ false → maybe r s n ls ≡ Goes s n ls
maybe-none r s n [] e = refl
maybe-none r s n (l ∷ []) e = refl
maybe-none r s n (l ∷ m ∷ ls) e = by_tag (has_tag r.tag l) _ _ e

pub one-none : {S : Type 0} → (r : Rule S) (s : S) (n : ℕ) (ls : List Line) → starts r.tag ls ≡ false → one r s n ls ≡ Fails (faults.Line n)
one-none r s n [] e = refl
one-none r s n (l ∷ []) e = refl
one-none r s n (l ∷ m ∷ ls) e = by_tag (has_tag r.tag l) _ _ e

-- a line that fails

pub many-stop : {S : Type 0} → (r : Rule S) (s : S) (n : ℕ) (ws : List Word) (ls : List Line) (flaw : Flaw) → 0 < length ls → IsFlaw r s ws flaw → Stops (many r s n ((r.tag ∷ ws) ∷ ls)) (fault_at n flaw)
many-stop r s n ws [] flaw some is = absurd (omega arith)
many-stop r s n ws (m ∷ ms) flaws.Form some is = rw (same_word_same r.tag r.tag refl, is) refl
many-stop r s n ws (m ∷ ms) flaws.Range some is = rw (same_word_same r.tag r.tag refl, is.0, is.1) refl
many-stop r s n ws (m ∷ ms) flaws.Memory some is = tt

pub one-stop : {S : Type 0} → (r : Rule S) (s : S) (n : ℕ) (ws : List Word) (ls : List Line) (flaw : Flaw) → 0 < length ls → IsFlaw r s ws flaw → Stops (one r s n ((r.tag ∷ ws) ∷ ls)) (fault_at n flaw)
one-stop r s n ws [] flaw some is = absurd (omega arith)
one-stop r s n ws (m ∷ ms) flaws.Form some is = rw (same_word_same r.tag r.tag refl, is) refl
one-stop r s n ws (m ∷ ms) flaws.Range some is = rw (same_word_same r.tag r.tag refl, is.0, is.1) refl
one-stop r s n ws (m ∷ ms) flaws.Memory some is = tt

pub maybe-stop : {S : Type 0} → (r : Rule S) (s : S) (n : ℕ) (ws : List Word) (ls : List Line) (flaw : Flaw) → 0 < length ls → IsFlaw r s ws flaw → Stops (maybe r s n ((r.tag ∷ ws) ∷ ls)) (fault_at n flaw)
maybe-stop r s n ws [] flaw some is = absurd (omega arith)
maybe-stop r s n ws (m ∷ ms) flaws.Form some is = rw (same_word_same r.tag r.tag refl, is) refl
maybe-stop r s n ws (m ∷ ms) flaws.Range some is = rw (same_word_same r.tag r.tag refl, is.0, is.1) refl
maybe-stop r s n ws (m ∷ ms) flaws.Memory some is = tt
