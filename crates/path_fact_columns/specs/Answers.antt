-- What walks that pay for facts answer.
use Rattle.std.specs.Prelude.{ℕ, ◌*◌, ◌^◌, ℤ, pos, ◌<ℤ◌, List, [], Option, Some, None, All, if◌then◌else◌}
use Rattle.std.specs.Int.RustNames.{int_lt}
use Rattle.rv_core.specs.Table.{Table}
use Rattle.code_flow_system.specs.declared.cert.Cert.{Cert}
use Rattle.code_flow_system.specs.declared.cert.Part.{Part}
use Rattle.code_flow_system.specs.declared.shapes.LoopShape.{LoopShape}
use Rattle.code_flow_system.specs.declared.shapes.Span.{Span}
use Rattle.code_flow_system.specs.Systems.{System}
use Rattle.code_flow_system.specs.Counts.{Amounts}
use Rattle.code_flow_system.specs.Certificates.{IsPart, PartsAscend}
use Rattle.path_flows.specs.Flows.{amounts_of, parts_of}
use Rattle.path_cert.specs.Best.{best_worth, best_flow}
use Rattle.path_cert.specs.Priced.{fact_prices, fact_certificate, fact_low}
use Rattle.path_fact_columns.specs.declared.answering.Answer.{Answer}

abbrev pub worth_at : Table → System → List LoopShape → List Span → ℕ → List ℤ → ℤ
worth_at t s ls ps scale ys = best_worth s ls ps (fact_prices t s scale ys (fact_low scale ys))

abbrev pub flow_at : Table → System → List LoopShape → List Span → ℕ → List ℤ → Amounts
flow_at t s ls ps scale ys = best_flow s ls ps (fact_prices t s scale ys (fact_low scale ys))

abbrev pub parts_at : Table → System → List LoopShape → List Span → ℕ → List ℤ → List Part
parts_at t s ls ps scale ys = parts_of s.moves (amounts_of s ls ps (fact_prices t s scale ys (fact_low scale ys)))

-- the certificate, where its bound is below 2^60
abbrev pub certificate_at : Table → System → List LoopShape → List Span → ℕ → List ℤ → Option Cert
certificate_at t s ls ps scale ys = if int_lt (worth_at t s ls ps scale ys) (pos (scale * 2 ^ 60)) then Some (fact_certificate t s ls ps scale ys (fact_low scale ys)) else None

-- and the moves of a best flow, where the worth isn't negative
abbrev pub answer_of : Table → System → List LoopShape → List Span → ℕ → List ℤ → Answer
answer_of t s ls ps scale ys = record {
  cert = certificate_at t s ls ps scale ys;
  worth = worth_at t s ls ps scale ys;
  parts = if int_lt (worth_at t s ls ps scale ys) (pos 0) then [] else parts_at t s ls ps scale ys;
}

-- parts of a flow of one unit
pub record AreParts (us : List Part) : Type 0 where
  pub ascending : PartsAscend us
  pub parts : All IsPart us
  pub small : All (λ u. u.part <ℤ pos (2 ^ 60)) us
