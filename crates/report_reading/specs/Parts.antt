-- The lines of a report's parts, as they are read: each claim with its multiplier, and the certificate's other numbers.
use Rattle.std.specs.Prelude.{ℕ, ℤ, List, [], ◌∷◌, ◌++◌, map}
use Rattle.frac128.specs.Terms.{Terms}
use Rattle.code_flow_system.specs.Claims.{Claims}
use Rattle.code_flow_system.specs.declared.cert.Part.{Part}
use Rattle.code_flow_answer.specs.declared.bounded.Kind.{Kind}
use Rattle.code_flow_answer.specs.declared.bounded.Column.{Column}
use Rattle.report_words.specs.Words.{Line}
use Rattle.report_text.specs.Reports.{Report}
use Rattle.report_text.specs.declared.entries.CopyLine.{CopyLine}
use Rattle.report_text.specs.declared.entries.Share.{Share}
use Rattle.report_text.specs.Lines.{version_lines, cycles_line, kind_line, exit_line, never_line, region_line, loop_line, fact_line, paired, scale_line, potential_line, unit_line, flow_line}
use Rattle.report_text.specs.Forms.{mark_of, AreInOrder}
use Rattle.report_reading.specs.Listed.{AreNevers, AreLoops, AreFacts}

abbrev pub head_of : ℕ → ℕ → Kind → List Line
head_of version cycles kind = version_lines version ++ cycles_line cycles ∷ kind_line kind ∷ []

abbrev pub claims_with : Claims → List ℤ → List (ℤ × ℤ) → List ℤ → List Line
claims_with c nevers loops facts =
    map exit_line c.exits
    ++ (paired never_line c.nevers nevers
    ++ (map region_line c.regions
    ++ (paired loop_line c.loops loops
    ++ paired fact_line c.facts facts)))

-- the claims are in order, and have their multipliers
pub record AreMultiplied (c : Claims) (nevers : List ℤ) (loops : List (ℤ × ℤ)) (facts : List ℤ) : Type 0 where
  pub each_never : AreNevers c.nevers nevers
  pub each_loop : AreLoops c.loops loops
  pub each_fact : AreFacts c.facts facts
  pub order : AreInOrder c

abbrev pub numbers_with : ℕ → Terms → ℕ → List Part → List Line
numbers_with scale potentials unit parts = scale_line scale ∷ (map potential_line potentials ++ unit_line unit ∷ map flow_line parts)

-- a report of these parts
abbrev pub assembled : ℕ → ℕ → Kind → List CopyLine → Claims → List ℤ → List (ℤ × ℤ) → List ℤ → List Column → ℕ → Terms → ℕ → List Part → List Share → Report
assembled version cycles kind names claims nevers loops facts columns scale potentials unit parts shares = record {
  version = version;
  kind = kind;
  names = names;
  claims = claims;
  columns = columns;
  cert = record { cycles = cycles; mark = mark_of kind; scale = scale; potentials = potentials; nevers = nevers; loops = loops; facts = facts; flow = record { unit = unit; parts = parts } };
  shares = shares;
}
