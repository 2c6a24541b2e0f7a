-- What a report keeps to: the forms, ranges and orders of its lines.
use Rattle.std.specs.Prelude.{◌≡◌, ◌⊎◌, ℕ, ◌<◌, ◌≤◌, ◌^◌, ◌||◌, ℤ, pos, ◌≤ℤ◌, ◌<ℤ◌, List, [], ◌∷◌, length, map, true, All, MatchOption}
use Rattle.code_flow_system.specs.Claims.{Claims}
use Rattle.code_flow_system.specs.MoveCosts.{lies_within}
use Rattle.code_flow_system.specs.Certificates.{IsSmall, IsInForm}
use Rattle.code_flow_system.specs.declared.claims.Within.{Within}
use Rattle.code_flow_system.specs.declared.claims.FactClaim.{FactClaim}
use Rattle.code_flow_system.specs.declared.cert.Mark.{Mark}
use Rattle.code_flow_system.specs.declared.cert.Mark.TheVariants as marks
use Rattle.code_flow_answer.specs.declared.bounded.Kind.{Kind}
use Rattle.code_flow_answer.specs.declared.bounded.Kind.TheVariants.{Greatest, Empty, Wide, Spent}
use Rattle.code_flow_answer.specs.declared.bounded.Column.{Column}
use Rattle.report_text.specs.declared.entries.CopyLine.{CopyLine}
use Rattle.report_text.specs.declared.entries.Share.{Share}
use Rattle.report_words.specs.Words.{is_name}
use Rattle.report_text.specs.Reports.{Report}

-- the addresses ascend strictly
abbrev pub Ascend : List ℕ → Type 0
Ascend [] = Unit {0}
Ascend (a ∷ rest) = All (λ b. a < b) rest × Ascend rest

pub record IsCopyLine (c : CopyLine) : Type 0 where
  pub name : is_name c.name ≡ true
  pub ascending : Ascend c.places

-- a line of regions names one at least
abbrev pub NamesOne : Within → Type 0
NamesOne w = (w.flash || (w.spm || w.ram)) ≡ true

-- two lines of regions share no address; an empty one shares none
abbrev pub AreApart : Within → Within → Type 0
AreApart v w = (a : ℕ) → lies_within v a ≡ true → lies_within w a ≡ true → ⊥

abbrev pub AreAllApart : List Within → Type 0
AreAllApart [] = Unit {0}
AreAllApart (w ∷ ws) = All (AreApart w) ws × AreAllApart ws

-- the number of a term
abbrev pub IsTerm : ℕ × ℤ → Type 0
IsTerm t = (pos 0 <ℤ t.1) × (t.1 <ℤ pos (2 ^ 32))

pub record IsFact (c : FactClaim) : Type 0 where
  pub left : All IsTerm c.left
  pub right : All IsTerm c.right

pub record AreInOrder (c : Claims) : Type 0 where
  pub exits : Ascend c.exits
  pub nevers : Ascend (map (λ n. n.at) c.nevers)
  pub regions : Ascend (map (λ w. w.first) c.regions)
  pub named : All NamesOne c.regions
  pub apart : AreAllApart c.regions
  pub loops : Ascend (map (λ l. l.header) c.loops)
  pub facts : All IsFact c.facts

-- one total for each fact
pub record IsColumn (facts : ℕ) (c : Column) : Type 0 where
  pub count : length c.totals ≡ facts
  pub value : IsSmall c.value
  pub small : All IsSmall c.totals

abbrev pub mark_of : Kind → Mark
mark_of Greatest = marks.Greatest
mark_of Empty = marks.Empty
mark_of (Wide pivot) = marks.Neither
mark_of (Spent columns pivots) = marks.Neither

pub record IsShare (s : Share) : Type 0 where
  pub name : MatchOption s.name (Unit {0}) (λ name. is_name name ≡ true)
  pub filled : s.first < s.end
  pub least : pos 0 ≤ℤ s.part
  pub small : IsSmall s.part

-- the ranges ascend, and share no address
abbrev pub SharesAscend : List Share → Type 0
SharesAscend [] = Unit {0}
SharesAscend (s ∷ ss) = All (λ t. s.end ≤ t.first) ss × SharesAscend ss

-- only a report of version 2 whose kind is greatest has shares
abbrev pub MayShare : ℕ → Kind → List Share → Type 0
MayShare version Greatest shares = (version ≡ 1) → shares ≡ []
MayShare version _ shares = shares ≡ []

pub record IsReport (r : Report) : Type 0 where
  pub version : (r.version ≡ 1) ⊎ (r.version ≡ 2)
  pub names : All IsCopyLine r.names
  pub claims : AreInOrder r.claims
  pub columns : All (IsColumn (length r.claims.facts)) r.columns
  pub mark : r.cert.mark ≡ mark_of r.kind
  pub certificate : IsInForm r.claims r.cert
  pub may_share : MayShare r.version r.kind r.shares
  pub shares : All IsShare r.shares
  pub shares_ascend : SharesAscend r.shares
