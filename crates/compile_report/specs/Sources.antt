-- A source that was read, and what was made of it.
use Rattle.std.specs.Prelude.{ℕ, Bool, List, map}
use Rattle.rv_core.specs.Table.{Table}
use Rattle.facts_front.specs.declared.reading.Source.{Source}
use Rattle.facts_sources.specs.Sources.{IsSource, IsSourceBy}
use Rattle.types_tree.specs.Tree.{Program}
use Rattle.types_tree.specs.View.{program_of}
use Rattle.compile_claims.specs.Shares.{share_of}
use Rattle.report_text.specs.declared.entries.Share.{Share}
use Rattle.report_text.specs.Reports.{Report}
use Rattle.compile_stages.specs.declared.made.Made.{Made}
use Rattle.compile_stages.specs.Made.{IsMade}
use Rattle.compile_report_law.specs.Reported.{IsReported}

abbrev pub names_of : Source → List (List ℕ)
names_of s = s.typed.program.names.items

abbrev pub tree_of : Source → Program
tree_of s = program_of s.typed.program

-- the source of these bytes
abbrev pub IsOf : List ℕ → Source → Type 0
IsOf text s = IsSource text (names_of s) (tree_of s) s.facts

-- where bounds are derived, or aren't
abbrev pub IsOfBy : (derive : Bool) → List ℕ → Source → Type 0
IsOfBy derive text s = IsSourceBy derive text (names_of s) (tree_of s) s.facts

pub record IsMadeOf (s : Source) (m : Made) : Type 0 where
  pub text : List ℕ
  pub is_source : IsOf text s
  pub is_made : IsMade (names_of s) (tree_of s) s.facts m

-- its ranges of code, before their parts are known
abbrev pub ranges_of : Source → Made → List Share
ranges_of s m = map (share_of (names_of s) s.facts.functions) m.laid.lists.ranges.items

abbrev pub IsReportOn : Table → Source → Made → Report → Type 0
IsReportOn t s m r = IsReported t (names_of s) s.facts m r
