-- The shares of ranges of code.
use Rattle.std.specs.Prelude.{ℕ, pos, List, Option, None, Some, slice_get}
use Rattle.c_tree.specs.Names.{name_of}
use Rattle.c_tree.specs.declared.expression.NameId.{NameId}
use Rattle.claims_lists.specs.declared.ranges.CodeRange.{CodeRange}
use Rattle.report_text.specs.declared.entries.Share.{Share}

module _ (names : List (List ℕ)) (functions : List NameId) where
  abbrev pub name_by : Option NameId → Option (List ℕ)
  name_by None = None
  name_by (Some id) = Some (name_of names id.0)

  -- the function of a number
  abbrev pub named : Option ℕ → Option (List ℕ)
  named None = None
  named (Some f) = name_by (slice_get functions f)

  -- before its part is known
  abbrev pub share_of : CodeRange → Share
  share_of r = record { name = named r.function; first = r.first; end = r.end; part = pos 0 }
