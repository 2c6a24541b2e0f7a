-- What is reported of a source is a report.
use Rattle.std.proofs.Common.{◌≡◌, ℕ, ◌+◌, ◌^◌, ◌<◌, List, [], ◌++◌, length, map, sym, ap, ◌∙◌, subst, inr, All, arith}
use Rattle.std.proofs.lemmas.List.Elements.{All-nil, All-weaker}
use Rattle.rv_core.specs.Table.{Table}
use Rattle.code_flow_system.specs.Claims.{Claims}
use Rattle.code_flow_system.specs.Systems.{System}
use Rattle.code_flow_system.specs.declared.cert.Cert.{Cert}
use Rattle.code_flow_system.specs.declared.cert.Mark.{Mark}
use Rattle.code_flow_system.specs.declared.cert.Mark.TheVariants as marks
use Rattle.code_flow_answer.specs.declared.bounded.Column.{Column}
use Rattle.code_flow_answer.specs.declared.bounded.Kind.{Kind}
use Rattle.code_flow_answer.specs.declared.bounded.Kind.TheVariants.{Greatest, Empty, Wide, Spent}
use Rattle.simplex_rounds.specs.Rounds.{IsColumnOf}
use Rattle.path_fact_kinds.specs.Kinds.{HasKind}
use Rattle.report_text.specs.Forms.{AreInOrder, Ascend, IsColumn, IsCopyLine, IsReport, IsShare, MayShare, SharesAscend, mark_of}
use Rattle.report_text.specs.Reports.{Report}
use Rattle.report_text.specs.declared.entries.CopyLine.{CopyLine}
use Rattle.report_text.specs.declared.entries.Share.{Share}
use Rattle.report_shares.specs.Shares.{share_sum}
use Rattle.report_shares.proofs.FillLemmas.{sum_small}
use Rattle.facts_definitions.specs.declared.facts.Facts.{Facts}
use Rattle.facts_sources.specs.Sources.{IsSource}
use Rattle.facts_limits.proofs.Limited.{are_limited}
use Rattle.types_tree.specs.Tree.{Program}
use Rattle.high_pass.specs.Listing.{Listing}
use Rattle.high_pass.proofs.Elements.{All-append_front}
use Rattle.claims_definition.specs.ClaimLaws.{RangesAscend}
use Rattle.claims_lists.specs.Lists.{range_of}
use Rattle.compile_names.specs.Laws.{IsNamed}
use Rattle.compile_names.proofs.Counted.{counted_named}
use Rattle.compile_stages.specs.Made.{IsMade, copies_of}
use Rattle.compile_stages.specs.declared.made.Made.{Made}
use Rattle.compile_report_law.specs.Reported.{AreShared, IsReported}
use Rattle.compile_report_law.proofs.Copies.{copy_lines}
use Rattle.compile_restrictions.specs.Laws.{AreFactClaims}
use Rattle.compile_restrictions.specs.Told.{AreAscending}
use Rattle.compile_restrictions.proofs.Forms.{told-claims}
use Rattle.compile_report_law.proofs.Laid.{system_sound}
use Rattle.compile_report_law.proofs.Orders.{sound_in_order}
use Rattle.compile_report_law.proofs.Ranges.{each_share, shares, shares_ascend}
use Rattle.compile_source_claims.proofs.Standing.{copies_apart}
use Rattle.compile_report_law.proofs.Values.{value_small}

-- the kind says the same as the mark, or why there is none
pub same_kind : (t : Table) (s : System) (cs : List Column) (c : Cert) (kind : Kind) → HasKind t s cs c kind → c.mark ≡ mark_of kind
same_kind t s cs c Greatest h = h
same_kind t s cs c Empty h = h
same_kind t s cs c (Wide pivot) h = h.0.mark
same_kind t s cs c (Spent columns pivots) h = h.0.mark

not_first : (version : ℕ) → version ≡ 2 → version ≡ 1 → ⊥
not_first version two one = omega (arith, two, one)

may_share : (version : ℕ) (kind : Kind) (with_parts own : List Share) → version ≡ 2 → AreShared kind with_parts own → MayShare version kind own
may_share version Greatest with_parts own two h = λ one. absurd (not_first version two one)
may_share version Empty with_parts own two h = h
may_share version (Wide pivot) with_parts own two h = h
may_share version (Spent columns pivots) with_parts own two h = h

-- what holds of the shares of a greatest bound, and of none, holds of those that are told
of_shares : (P : List Share → Type 0) (kind : Kind) (mark : Mark) (with_parts own : List Share) → AreShared kind with_parts own → mark ≡ mark_of kind → (mark ≡ marks.Greatest → P with_parts) → P [] → P own
of_shares P Greatest mark with_parts own h marked some none = subst P (sym h) (some marked)
of_shares P Empty mark with_parts own h marked some none = subst P (sym h) none
of_shares P (Wide pivot) mark with_parts own h marked some none = subst P (sym h) none
of_shares P (Spent columns pivots) mark with_parts own h marked some none = subst P (sym h) none

-- columns of a search are columns of a report
own_columns : (n m : ℕ) (cs : List Column) → n ≡ m → All (IsColumnOf n) cs → All (IsColumn m) cs
own_columns n m cs same = All-weaker (IsColumnOf n) (IsColumn m) (λ c h. record { count = h.totals ∙ same; value = h.value; small = h.small }) cs

module _ (source : List ℕ) (names : List (List ℕ)) (program : Program) (facts : Facts) (m : Made) (t : Table) (r : Report) (is : IsSource source names program facts) (made : IsMade names program facts m) (reported : IsReported t names facts m r) where
  named : All (IsNamed names) (facts.functions ++ facts.markers)
  named = counted_named source names program facts is

  abbrev places : List (List ℕ)
  places = m.laid.lists.places.items

  abbrev listing : Listing
  listing = copies_of m

  lines : All IsCopyLine r.names
  lines = copy_lines names places (facts.functions ++ facts.markers) listing.marks r.names named (copies_apart names program facts m made) reported.lines

  rising_lines : AreAscending r.names
  rising_lines = All-weaker IsCopyLine (λ (c : CopyLine). Ascend c.places) (λ c h. h.ascending) r.names lines

  -- the restrictions over these lines
  pub restricted : AreFactClaims facts r.names r.claims.facts
  restricted = told-claims facts r.names r.claims.facts (are_limited source names program facts is) rising_lines reported.restricted

  ordered : AreInOrder r.claims
  ordered = sound_in_order r.claims (system_sound m.laid.image r.claims reported.system reported.is_system) restricted.form

  columns : All (IsColumn (length r.claims.facts)) r.columns
  columns = own_columns (length reported.system.claims.facts) (length r.claims.facts) r.columns (ap (λ (c : Claims). length c.facts) reported.is_system.same_claims) reported.columns.each

  marked : r.cert.mark ≡ mark_of r.kind
  marked = same_kind t reported.system r.columns r.cert r.kind reported.kind

  rising_ranges : RangesAscend 0 (map range_of m.laid.lists.ranges.items)
  rising_ranges = subst (RangesAscend 0) (sym made.in_memory.laid.lists.ranges) made.in_memory.keeps_low.ranges.ascend

  abbrev with_parts : List Share
  with_parts = shares names facts.functions t reported.system r.cert.flow.parts m.laid.lists.ranges.items

  few : r.cert.mark ≡ marks.Greatest → (h : Share) → share_sum t reported.system r.cert.flow.parts h < 2 ^ 120
  few greatest h = sum_small t reported.system r.cert.flow.parts h.first h.end (value_small t reported.system r.claims r.cert reported.form reported.accepted greatest)

  each : All IsShare r.shares
  each =
      of_shares (All IsShare) r.kind r.cert.mark with_parts r.shares reported.shared marked
      (λ greatest. each_share names facts.functions t reported.system r.cert.flow.parts 0 m.laid.lists.ranges.items rising_ranges (All-append_front (IsNamed names) facts.functions facts.markers named) (few greatest))
      (All-nil IsShare)

  pub is_report : IsReport r
  is_report = record {
    version = inr reported.version;
    names = lines;
    claims = ordered;
    columns = columns;
    mark = marked;
    certificate = reported.form;
    may_share = may_share r.version r.kind with_parts r.shares reported.version reported.shared;
    shares = each;
    shares_ascend =
        of_shares SharesAscend r.kind r.cert.mark with_parts r.shares reported.shared marked
        (λ greatest. shares_ascend names facts.functions t reported.system r.cert.flow.parts 0 m.laid.lists.ranges.items rising_ranges) tt;
  }
