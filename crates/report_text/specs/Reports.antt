-- A report: what is claimed of an image, and a certificate of its bound.
use Rattle.std.specs.Prelude.{ℕ, List}
use Rattle.code_flow_system.specs.Claims.{Claims}
use Rattle.code_flow_system.specs.declared.cert.Cert.{Cert}
use Rattle.code_flow_answer.specs.declared.bounded.Kind.{Kind}
use Rattle.code_flow_answer.specs.declared.bounded.Column.{Column}
use Rattle.report_text.specs.declared.entries.CopyLine.{CopyLine}
use Rattle.report_text.specs.declared.entries.Share.{Share}

pub record Report : Type 0 where
  pub version : ℕ
  pub kind : Kind
  pub names : List CopyLine
  pub claims : Claims
  pub columns : List Column
  pub cert : Cert
  pub shares : List Share

abbrev pub report_of : ℕ → Kind → List CopyLine → Claims → List Column → Cert → List Share → Report
report_of version kind names claims columns cert shares = record { version = version; kind = kind; names = names; claims = claims; columns = columns; cert = cert; shares = shares }
