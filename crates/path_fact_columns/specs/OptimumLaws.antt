-- Weighted columns as the greatest flow, and best answers of the first phase.
use Rattle.std.specs.Prelude.{◌≡◌, ℕ, ◌+◌, ◌*◌, ◌<◌, ◌^◌, ℤ, pos, ◌+ℤ◌, ◌*ℤ◌, ◌≤ℤ◌, ◌<ℤ◌, List, [], length, map, true, All}
use Rattle.rv_core.specs.Table.{Table}
use Rattle.code_flow_system.specs.declared.cert.Cert.{Cert}
use Rattle.code_flow_system.specs.declared.cert.Part.{Part}
use Rattle.code_flow_system.specs.declared.cert.Mark.TheVariants.{Greatest}
use Rattle.code_flow_system.specs.declared.shapes.LoopShape.{LoopShape}
use Rattle.code_flow_system.specs.declared.shapes.Span.{Span}
use Rattle.code_flow_system.specs.Systems.{System}
use Rattle.code_flow_system.specs.Certificates.{Accepts, IsInForm}
use Rattle.code_flow_answer.specs.declared.bounded.Column.{Column}
use Rattle.simplex_tables.specs.Rows.{entry}
use Rattle.simplex_rounds.specs.declared.pricing.Multipliers.{Multipliers}
use Rattle.simplex_tables.specs.declared.table.Table.{Table as Rows}
use Rattle.simplex_tables.specs.Choices.{right}
use Rattle.simplex_rounds.specs.Limits.{is_narrow}
use Rattle.simplex_rounds.specs.Multiplied.{objective_place, second_multipliers, are_narrow}
use Rattle.simplex_rounds.specs.Weighted.{weights_of, denominator, numerator}
use Rattle.simplex_laws.specs.RoundLaws.{IsOptimum, column_at}
use Rattle.path_cert.specs.Priced.{fact_certificate, fact_low}
use Rattle.path_fact_kinds.specs.Columns.{column_of, IsBest, multiplied, ops_of}
use Rattle.path_conditions.specs.Walking.{IsSearchable}
use Rattle.path_fact_columns.specs.Conditions.{AreNarrow}
use Rattle.path_fact_columns.specs.Answers.{flow_at, worth_at}
use Rattle.path_fact_columns.specs.Adding.{AreAsked, flow_of, mixed_parts}

-- a certificate with a flow of its value
abbrev pub greatest : Cert → ℕ → List Part → Cert
greatest c unit parts = record {
  cycles = c.cycles;
  mark = Greatest;
  scale = c.scale;
  potentials = c.potentials;
  nevers = c.nevers;
  loops = c.loops;
  facts = c.facts;
  flow = record { unit = unit; parts = parts };
}

-- columns are those of the answers at these multipliers
pub record AreAnswers (t : Table) (s : System) (ls : List LoopShape) (ps : List Span) (ys : List Multipliers) (cs : List Column) : Type 0 where
  pub long : length ys ≡ length cs
  pub asked : All (AreAsked t s ls ps) ys
  pub columns : (i : ℕ) → i < length cs → column_at cs i ≡ column_of t s (flow_of t s ls ps ys i)

-- a round has ended with an optimum, its numbers are within the limit, and the answer at its multipliers doesn't improve on it
pub record IsSolved (t : Table) (s : System) (ls : List LoopShape) (ps : List Span) (ys : List Multipliers) (cs : List Column) (b : Rows) (y : Multipliers) (m : ℕ) : Type 0 where
  pub answers : AreAnswers t s ls ps ys cs
  pub optimum : IsOptimum cs (ops_of s.claims.facts) b
  pub multipliers : y ≡ second_multipliers (length cs) (ops_of s.claims.facts) b
  pub narrow : are_narrow (length s.claims.loops + 1) y ≡ true
  pub common : m ≡ denominator 1 (weights_of (length cs) b.owns b.rows)
  pub common_narrow : is_narrow (length s.claims.loops + 1) m ≡ true
  pub weights_narrow : All (λ w. is_narrow (length s.claims.loops + 1) (numerator m w) ≡ true) (weights_of (length cs) b.owns b.rows)
  pub worth : pos 0 ≤ℤ worth_at t s ls ps y.scale y.facts
  pub still : (worth_at t s ls ps y.scale y.facts *ℤ entry b.two (objective_place (length cs) (ops_of s.claims.facts) 1)) ≤ℤ (right b.two *ℤ pos y.scale)

abbrev pub greatest_of : Table → System → List LoopShape → List Span → List Multipliers → List Column → Rows → Multipliers → ℕ → Cert
greatest_of t s ls ps ys cs b y m = greatest (fact_certificate t s ls ps y.scale y.facts (fact_low y.scale y.facts)) m (mixed_parts t s ls ps ys m (weights_of (length cs) b.owns b.rows))

abbrev pub SolvedAreGreatest : Table → System → List LoopShape → List Span → Type 0
SolvedAreGreatest t s ls ps = IsSearchable t s ls ps → (ys : List Multipliers) (cs : List Column) (b : Rows) (y : Multipliers) (m : ℕ) → IsSolved t s ls ps ys cs b y m → (worth_at t s ls ps y.scale y.facts <ℤ pos (y.scale * 2 ^ 60)) × IsInForm s.claims (greatest_of t s ls ps ys cs b y m) × Accepts t s (greatest_of t s ls ps ys cs b y m)

-- multipliers of totals, times one more than the greatest value
abbrev pub raised_by : ℤ → List ℤ → List ℤ
raised_by v ns = map (λ z. (v +ℤ pos 1) *ℤ z) ns

-- the answer at raised multipliers, where its worth isn't negative, is best for the totals alone, and what they make of it isn't positive
abbrev pub FirstAnswersAreBest : Table → System → List LoopShape → List Span → Type 0
FirstAnswersAreBest t s ls ps = IsSearchable t s ls ps → (c : Column) (ns : List ℤ) → IsBest t s 1 [] c → AreNarrow s 1 (raised_by c.value ns) → pos 0 ≤ℤ worth_at t s ls ps 1 (raised_by c.value ns) →
    IsBest t s 0 ns (column_of t s (flow_at t s ls ps 1 (raised_by c.value ns))) × (multiplied ns (column_of t s (flow_at t s ls ps 1 (raised_by c.value ns))).totals ≤ℤ pos 0)
