-- What was read keeps what a report keeps, and its lines are those that were read.
use Rattle.std.proofs.Common.{◌≡◌, ℕ, ◌<◌, ◌≤◌, ◌^◌, ◌==◌, ◌&&◌, ◌⊎◌, ℤ, List, [], ◌∷◌, ◌++◌, length, map, Bool, true, false, refl, sym, ap, ◌∙◌, All}
use Rattle.std.proofs.lemmas.List.{append_assoc}
use Rattle.frac128.specs.Terms.{Terms}
use Rattle.code_flow_system.specs.Claims.{Claims}
use Rattle.code_flow_system.specs.declared.cert.Part.{Part}
use Rattle.code_flow_system.specs.Certificates.{FitsMark}
use Rattle.code_flow_answer.specs.declared.bounded.Kind.{Kind}
use Rattle.code_flow_answer.specs.declared.bounded.Kind.TheVariants.{Greatest, Empty, Wide, Spent}
use Rattle.code_flow_answer.specs.declared.bounded.Column.{Column}
use Rattle.report_text.specs.declared.entries.CopyLine.{CopyLine}
use Rattle.report_text.specs.declared.entries.Share.{Share}
use Rattle.report_text.specs.Forms.{mark_of, IsCopyLine, IsColumn, MayShare, IsReport}
use Rattle.report_text.specs.Lines.{copy_line, column_line, share_line, end_line, report_lines}
use Rattle.report_rules.specs.Heads.{is_greatest_kind}
use Rattle.report_rules.specs.CertRules.{IsUnit}
use Rattle.report_reading.specs.Listed.{ArePotentials, AreParts, AreShares}
use Rattle.report_reading.specs.Parts.{head_of, claims_with, AreMultiplied, numbers_with, assembled}

fits_mark : (k : Kind) (unit : ℕ) (parts : List Part) → IsUnit (is_greatest_kind k) unit → (is_greatest_kind k ≡ false → parts ≡ []) → FitsMark (mark_of k) unit parts
fits_mark Greatest unit parts u none = u
fits_mark Empty unit parts u none = (u, none refl)
fits_mark (Wide p) unit parts u none = (u, none refl)
fits_mark (Spent c p) unit parts u none = (u, none refl)

and_false : (b : Bool) → (b && false) ≡ false
and_false true = refl
and_false false = refl

may_share : (v : ℕ) (k : Kind) (shares : List Share) → (((v == 2) && is_greatest_kind k) ≡ false → shares ≡ []) → MayShare v k shares
may_share v Greatest shares none = λ one. none (ap (λ w. (w == 2) && true) one)
may_share v Empty shares none = none (and_false (v == 2))
may_share v (Wide p) shares none = none (and_false (v == 2))
may_share v (Spent c p) shares none = none (and_false (v == 2))

pub is_report : (version cycles : ℕ) (kind : Kind) (names : List CopyLine) (claims : Claims) (nevers : List ℤ) (loops : List (ℤ × ℤ)) (facts : List ℤ) (columns : List Column) (scale : ℕ) (potentials : Terms) (unit : ℕ) (parts : List Part) (shares : List Share)
    → (version ≡ 1) ⊎ (version ≡ 2) → cycles < 2 ^ 63 → All IsCopyLine names → AreMultiplied claims nevers loops facts → All (IsColumn (length claims.facts)) columns → (0 < scale) × (scale ≤ 2 ^ 48) → ArePotentials potentials → IsUnit (is_greatest_kind kind) unit
    → AreParts parts → (is_greatest_kind kind ≡ false → parts ≡ []) → AreShares shares → (((version == 2) && is_greatest_kind kind) ≡ false → shares ≡ [])
    → IsReport (assembled version cycles kind names claims nevers loops facts columns scale potentials unit parts shares)
is_report version cycles kind names claims nevers loops facts columns scale potentials unit parts shares known below copies multiplied totals range fall amount moves none spread without = record {
  version = known;
  names = copies;
  claims = multiplied.order;
  columns = totals;
  mark = refl;
  certificate = record {
    nevers = multiplied.each_never.as_many;
    loops = multiplied.each_loop.as_many;
    facts = multiplied.each_fact.as_many;
    cycles = below;
    scale = range;
    ascending = fall.ascend;
    potentials = fall.small;
    small_nevers = multiplied.each_never.small;
    small_loops = multiplied.each_loop.small;
    small_facts = multiplied.each_fact.small;
    parts = moves.form;
    parts_ascend = moves.ascend;
    unit = fits_mark kind unit parts amount none;
  };
  may_share = may_share version kind shares without;
  shares = spread.form;
  shares_ascend = spread.ascend;
}

pub lines_assembled : (version cycles : ℕ) (kind : Kind) (names : List CopyLine) (claims : Claims) (nevers : List ℤ) (loops : List (ℤ × ℤ)) (facts : List ℤ) (columns : List Column) (scale : ℕ) (potentials : Terms) (unit : ℕ) (parts : List Part) (shares : List Share)
    → report_lines (assembled version cycles kind names claims nevers loops facts columns scale potentials unit parts shares)
    ≡ head_of version cycles kind ++ ((map copy_line names ++ (claims_with claims nevers loops facts ++ map column_line columns)) ++ (numbers_with scale potentials unit parts ++ (map share_line shares ++ end_line ∷ [])))
lines_assembled version cycles kind names claims nevers loops facts columns scale potentials unit parts shares =
    ap (λ ls. head_of version cycles kind ++ ls)
    (ap (λ ls. map copy_line names ++ ls) (sym (append_assoc (claims_with claims nevers loops facts) (map column_line columns) (numbers_with scale potentials unit parts ++ (map share_line shares ++ end_line ∷ []))))
    ∙ sym (append_assoc (map copy_line names) (claims_with claims nevers loops facts ++ map column_line columns) (numbers_with scale potentials unit parts ++ (map share_line shares ++ end_line ∷ []))))
