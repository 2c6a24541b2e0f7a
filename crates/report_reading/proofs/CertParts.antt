-- The certificate's other numbers, the shares and the last line, one behind the other.
use Rattle.std.proofs.Common.{◌≡◌, ℕ, ◌==◌, ◌&&◌, List, [], ◌∷◌, ◌++◌, map, Bool, false, refl, sym, ap, subst, ◌∙◌, if◌then◌else◌}
use Rattle.std.proofs.lemmas.List.{append-nil}
use Rattle.code_flow_system.specs.declared.cert.Part.{Part}
use Rattle.frac128.specs.Terms.{Terms}
use Rattle.report_words.specs.Words.{Line, lines_text}
use Rattle.report_text.specs.declared.entries.Share.{Share}
use Rattle.report_text.specs.Lines.{scale_line, potential_line, unit_line, flow_line, share_line, end_line}
use Rattle.report_rules.specs.Rules.{Rule}
use Rattle.report_rules.specs.Heads.{end_rule}
use Rattle.report_rules.specs.CertRules.{scale_rule, potential_rule, unit_rule, flow_rule, share_rule}
use Rattle.report_reading.specs.declared.fault.ReportFault.{ReportFault}
use Rattle.report_reading.specs.declared.fault.ReportFault.TheVariants as faults
use Rattle.report_reading.proofs.TextLemmas.{unfinished}
use Rattle.report_reading.specs.Texts.{lines_of}
use Rattle.report_reading.specs.Sections.{Fails, Goes, and_then, one, many, many_where}
use Rattle.report_reading.specs.Faults.{certificate, finish, tail}
use Rattle.report_reading.specs.Parts.{numbers_with}
use Rattle.report_reading.specs.Endings.{IsEnding}
use Rattle.report_reading.specs.Reading.{At, IsNumbered, Passes, PassesOn, Stops}
use Rattle.report_reading.proofs.Stages.{after_parts, after_unit, after_potentials, after_scale, after_end, after_shares}
use Rattle.report_reading.proofs.PassLemmas.{nothing_read, both_read, stops_first, stops_second}

-- lines that may not stand are not read
pub none_pass : {S : Type 0} → (r : Rule S) (s : S) (at : At) → IsNumbered at → PassesOn (many_where false r s) at at []
none_pass r s at few = record { state = s; passes = record { goes = refl; read = nothing_read at few } }

pub certificate_passes : (greatest : Bool) (from a b d to : At) (scale unit : ℕ) (potentials : Terms) (parts : List Part) → Passes (one scale_rule tt) from tt a (scale_line scale ∷ []) → PassesOn (many potential_rule 0) a b (map potential_line potentials)
    → Passes (one unit_rule greatest) b greatest d (unit_line unit ∷ []) → PassesOn (many_where greatest flow_rule (record { at = 0; number = 0 })) d to (map flow_line parts) → PassesOn (certificate greatest) from to (numbers_with scale potentials unit parts)
certificate_passes greatest from a b d to scale unit potentials parts p q r s = record {
  state = tt;
  passes = record {
    goes = ap (λ o. and_then o (after_scale greatest)) p.goes ∙ ap (λ o. and_then o (after_potentials greatest)) q.passes.goes ∙ ap (λ o. and_then o (after_unit greatest)) r.goes ∙ ap (λ o. and_then o after_parts) s.passes.goes;
    read =
        both_read from a to (scale_line scale ∷ []) (map potential_line potentials ++ unit_line unit ∷ map flow_line parts) p.read
        (both_read a b to (map potential_line potentials) (unit_line unit ∷ map flow_line parts) q.passes.read
        (both_read b d to (unit_line unit ∷ []) (map flow_line parts) r.read s.passes.read));
  };
}

pub scale_stops : (greatest : Bool) (from : At) (fault : ReportFault) → Stops (one scale_rule tt from.number (lines_of from.rest)) fault → Stops (certificate greatest from.number (lines_of from.rest)) fault
scale_stops greatest from fault s = stops_first (one scale_rule tt from.number (lines_of from.rest)) (after_scale greatest) fault s

pub potentials_stop : (greatest : Bool) (from a : At) (xs : List Line) (fault : ReportFault) → Passes (one scale_rule tt) from tt a xs → Stops (many potential_rule 0 a.number (lines_of a.rest)) fault → Stops (certificate greatest from.number (lines_of from.rest)) fault
potentials_stop greatest from a xs fault p s = stops_second (one scale_rule tt) (after_scale greatest) from tt a xs fault p (stops_first (many potential_rule 0 a.number (lines_of a.rest)) (after_potentials greatest) fault s)

pub unit_stops : (greatest : Bool) (from a b : At) (xs ys : List Line) (fault : ReportFault) → Passes (one scale_rule tt) from tt a xs → PassesOn (many potential_rule 0) a b ys → Stops (one unit_rule greatest b.number (lines_of b.rest)) fault
    → Stops (certificate greatest from.number (lines_of from.rest)) fault
unit_stops greatest from a b xs ys fault p q s =
    stops_second (one scale_rule tt) (after_scale greatest) from tt a xs fault p
    (stops_second (many potential_rule 0) (after_potentials greatest) a q.state b ys fault q.passes (stops_first (one unit_rule greatest b.number (lines_of b.rest)) (after_unit greatest) fault s))

pub parts_stop : (greatest : Bool) (from a b d : At) (xs ys zs : List Line) (fault : ReportFault) → Passes (one scale_rule tt) from tt a xs → PassesOn (many potential_rule 0) a b ys → Passes (one unit_rule greatest) b greatest d zs
    → Stops (many_where greatest flow_rule (record { at = 0; number = 0 }) d.number (lines_of d.rest)) fault → Stops (certificate greatest from.number (lines_of from.rest)) fault
parts_stop greatest from a b d xs ys zs fault p q r s =
    stops_second (one scale_rule tt) (after_scale greatest) from tt a xs fault p
    (stops_second (many potential_rule 0) (after_potentials greatest) a q.state b ys fault q.passes
    (stops_second (one unit_rule greatest) (after_unit greatest) b greatest d zs fault r (stops_first (many_where greatest flow_rule (record { at = 0; number = 0 }) d.number (lines_of d.rest)) after_parts fault s)))

-- the end

pub tail_ends : (version : ℕ) (greatest : Bool) (from a b : At) (shares : List Share) → PassesOn (many_where ((version == 2) && greatest) share_rule 0) from a (map share_line shares) → Passes (one end_rule tt) a tt b (end_line ∷ [])
    → b.rest ≡ [] → Passes finish b tt b [] → IsEnding version greatest from shares
tail_ends version greatest from a b shares p q e r =
    let both = both_read from a b (map share_line shares) (end_line ∷ []) p.passes.read q.read in
    record {
      number = b.number;
      goes = ap (λ o. and_then o after_shares) p.passes.goes ∙ ap (λ o. and_then o after_end) q.goes ∙ r.goes ∙ ap (λ t. Goes tt b.number (lines_of t)) e;
      text = both.text ∙ ap (λ t. lines_text (map share_line shares ++ end_line ∷ []) ++ t) e ∙ append-nil (lines_text (map share_line shares ++ end_line ∷ []));
    }

pub shares_stop : (version : ℕ) (greatest : Bool) (from : At) (fault : ReportFault) → Stops (many_where ((version == 2) && greatest) share_rule 0 from.number (lines_of from.rest)) fault → Stops (tail (record { version = version; greatest = greatest }) from.number (lines_of from.rest)) fault
shares_stop version greatest from fault s = stops_first (many_where ((version == 2) && greatest) share_rule 0 from.number (lines_of from.rest)) after_shares fault s

pub end_stops : (version : ℕ) (greatest : Bool) (from a : At) (xs : List Line) (fault : ReportFault) → PassesOn (many_where ((version == 2) && greatest) share_rule 0) from a xs → Stops (one end_rule tt a.number (lines_of a.rest)) fault
    → Stops (tail (record { version = version; greatest = greatest }) from.number (lines_of from.rest)) fault
end_stops version greatest from a xs fault p s = stops_second (many_where ((version == 2) && greatest) share_rule 0) after_shares from p.state a xs fault p.passes (stops_first (one end_rule tt a.number (lines_of a.rest)) after_end fault s)

pub finish_stops : (version : ℕ) (greatest : Bool) (from a b : At) (xs ys : List Line) (fault : ReportFault) → PassesOn (many_where ((version == 2) && greatest) share_rule 0) from a xs → Passes (one end_rule tt) a tt b ys → Stops (finish b.number (lines_of b.rest)) fault
    → Stops (tail (record { version = version; greatest = greatest }) from.number (lines_of from.rest)) fault
finish_stops version greatest from a b xs ys fault p q s =
    stops_second (many_where ((version == 2) && greatest) share_rule 0) after_shares from p.state a xs fault p.passes (stops_second (one end_rule tt) after_end a tt b ys fault q s)

-- nothing is left

pub finish_passes : (at : At) → IsNumbered at → at.rest ≡ [] → Passes finish at tt at []
finish_passes at few e = record { goes = at_end at.rest e; read = nothing_read at few }
  where
    at_end : (text : List ℕ) → text ≡ [] → finish at.number (lines_of text) ≡ Goes tt at.number (lines_of text)
    at_end text none = subst (λ t. finish at.number (lines_of t) ≡ Goes tt at.number (lines_of t)) (sym none) refl

pub finish_fails : (n : ℕ) (text : List ℕ) → (text ≡ [] → ⊥) → finish n (lines_of text) ≡ Fails (faults.Line n)
finish_fails n text some = ap (λ t. if t then Goes tt n (lines_of text) else Fails (faults.Line n)) (unfinished text some)
