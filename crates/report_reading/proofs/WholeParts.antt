-- The whole text, part by part.
use Rattle.std.proofs.Common.{◌≡◌, ℕ, List, [], ◌∷◌, ◌++◌, map, Bool, true, false, refl, sym, ap, ◌∙◌}
use Rattle.std.proofs.lemmas.Bool.{false≢true}
use Rattle.std.proofs.lemmas.List.{append_assoc}
use Rattle.report_words.specs.Words.{Line, line_text, lines_text}
use Rattle.report_text.specs.declared.entries.Share.{Share}
use Rattle.report_text.specs.Lines.{share_line, end_line}
use Rattle.report_reading.specs.declared.fault.ReportFault.{ReportFault}
use Rattle.report_reading.specs.declared.fault.ReportFault.TheVariants as faults
use Rattle.report_reading.specs.Texts.{lines_of}
use Rattle.report_reading.specs.Sections.{Outcome, Fails, Goes, and_then}
use Rattle.report_reading.specs.Faults.{Head, head, middle, certificate, tail, whole, IsReportFault}
use Rattle.report_reading.specs.Endings.{IsEnding}
use Rattle.report_reading.specs.Reading.{At, at_of, Passes, PassesOn, Stops, StopsAt}
use Rattle.report_reading.proofs.Stages.{after_head, after_middle, after_certificate}
use Rattle.report_reading.proofs.PassLemmas.{stops_first, stops_second}

-- a text whose parts are read to its end
pub record IsWhole (text : List ℕ) (lines : List Line) : Type 0 where
  pub number : ℕ
  pub goes : whole 1 (lines_of text) ≡ Goes tt number (lines_of [])
  pub text_is : text ≡ lines_text lines

pub all_read : (text : List ℕ) (h : Head) (a b d : At) (xs ys zs : List Line) (shares : List Share) → Passes head (at_of 1 text) h a xs → PassesOn middle a b ys → PassesOn (certificate h.greatest) b d zs → IsEnding h.version h.greatest d shares
    → IsWhole text (xs ++ (ys ++ (zs ++ (map share_line shares ++ end_line ∷ []))))
all_read text h a b d xs ys zs shares p q r s = record {
  number = s.number;
  goes = ap (λ o. and_then o after_head) p.goes ∙ ap (λ o. and_then o (after_middle h)) q.passes.goes ∙ ap (λ o. and_then o (after_certificate h)) r.passes.goes ∙ s.goes;
  text_is =
      p.read.text ∙ ap (λ t. lines_text xs ++ t) (q.passes.read.text ∙ ap (λ t. lines_text ys ++ t) (r.passes.read.text ∙ ap (λ t. lines_text zs ++ t) s.text))
      ∙ ap (λ t. lines_text xs ++ (lines_text ys ++ t)) (sym (joined zs (map share_line shares ++ end_line ∷ [])))
      ∙ ap (λ t. lines_text xs ++ t) (sym (joined ys (zs ++ (map share_line shares ++ end_line ∷ []))))
      ∙ sym (joined xs (ys ++ (zs ++ (map share_line shares ++ end_line ∷ []))));
}
  where
    joined : (ks ls : List Line) → lines_text (ks ++ ls) ≡ lines_text ks ++ lines_text ls
    joined [] ls = refl
    joined (k ∷ ks) ls = ap (λ t. line_text k ++ t) (joined ks ls) ∙ sym (append_assoc (line_text k) (lines_text ks) (lines_text ls))

stops_at : (text : List ℕ) (fault : ReportFault) → Stops (whole 1 (lines_of text)) fault → StopsAt text fault
stops_at text (faults.Line n) s = s
stops_at text (faults.Number n) s = s
stops_at text faults.Memory s = s

pub head_stops : (text : List ℕ) (fault : ReportFault) → Stops (head 1 (lines_of text)) fault → StopsAt text fault
head_stops text fault s = stops_at text fault (stops_first (head 1 (lines_of text)) after_head fault s)

pub middle_stops : (text : List ℕ) (h : Head) (a : At) (xs : List Line) (fault : ReportFault) → Passes head (at_of 1 text) h a xs → Stops (middle a.number (lines_of a.rest)) fault → StopsAt text fault
middle_stops text h a xs fault p s = stops_at text fault (stops_second head after_head (at_of 1 text) h a xs fault p (stops_first (middle a.number (lines_of a.rest)) (after_middle h) fault s))

pub certificate_stops : (text : List ℕ) (h : Head) (a b : At) (xs ys : List Line) (fault : ReportFault) → Passes head (at_of 1 text) h a xs → PassesOn middle a b ys → Stops (certificate h.greatest b.number (lines_of b.rest)) fault → StopsAt text fault
certificate_stops text h a b xs ys fault p q s =
    stops_at text fault (stops_second head after_head (at_of 1 text) h a xs fault p (stops_second middle (after_middle h) a q.state b ys fault q.passes (stops_first (certificate h.greatest b.number (lines_of b.rest)) (after_certificate h) fault s)))

pub tail_stops : (text : List ℕ) (h : Head) (a b d : At) (xs ys zs : List Line) (fault : ReportFault) → Passes head (at_of 1 text) h a xs → PassesOn middle a b ys → PassesOn (certificate h.greatest) b d zs → Stops (tail h d.number (lines_of d.rest)) fault → StopsAt text fault
tail_stops text h a b d xs ys zs fault p q r s =
    stops_at text fault (stops_second head after_head (at_of 1 text) h a xs fault p (stops_second middle (after_middle h) a q.state b ys fault q.passes (stops_second (certificate h.greatest) (after_certificate h) b r.state d zs fault r.passes s)))

-- what is read to its end has no fault

abbrev has_gone : Outcome (Unit {0}) → Bool
has_gone (Fails fault) = false
has_gone (Goes s n ls) = true

pub no_fault : (text : List ℕ) (lines : List Line) (fault : ReportFault) → IsWhole text lines → IsReportFault text fault → ⊥
no_fault text lines fault w e = false≢true (sym (ap has_gone (sym w.goes ∙ e)))
