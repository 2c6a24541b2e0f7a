-- How many bytes the text of a report has at most, by its lines.
use Rattle.std.specs.Prelude.{ℕ, ◌+◌, ◌*◌, List, [], ◌∷◌, length, Option, None, Some}
use Rattle.std.specs.Fmt.{signed_decimal}
use Rattle.frac128.specs.Terms.{Terms}
use Rattle.code_flow_system.specs.declared.claims.FactClaim.{FactClaim}
use Rattle.code_flow_answer.specs.declared.bounded.Column.{Column}
use Rattle.report_text.specs.declared.entries.CopyLine.{CopyLine}
use Rattle.report_text.specs.declared.entries.Share.{Share}
use Rattle.report_text.specs.Reports.{Report}

-- a copy line has its name, and nine bytes for each address
abbrev pub copies_room : List CopyLine → ℕ
copies_room [] = 0
copies_room (c ∷ cs) = 6 + (length c.name + (9 * length c.places + copies_room cs))

-- a term has its number, and twelve bytes
abbrev pub terms_room : Terms → ℕ
terms_room [] = 0
terms_room (t ∷ ts) = 12 + (length (signed_decimal t.1) + terms_room ts)

abbrev pub facts_room : List FactClaim → ℕ
facts_room [] = 0
facts_room (c ∷ cs) = 51 + (terms_room c.left + (terms_room c.right + facts_room cs))

-- a column line has at most 39 bytes for each total
abbrev pub columns_room : List Column → ℕ
columns_room [] = 0
columns_room (c ∷ cs) = 46 + (39 * length c.totals + columns_room cs)

abbrev pub name_length : Option (List ℕ) → ℕ
name_length None = 1
name_length (Some name) = length name

abbrev pub shares_room : List Share → ℕ
shares_room [] = 0
shares_room (s ∷ ss) = 64 + (name_length s.name + shares_room ss)

abbrev pub report_room : Report → ℕ
report_room r =
    200 + (copies_room r.names
    + (14 * length r.claims.exits
    + (76 * length r.claims.nevers
    + (29 * length r.claims.regions
    + (145 * length r.claims.loops
    + (facts_room r.claims.facts
    + (columns_room r.columns
    + (58 * length r.cert.potentials
    + (57 * length r.cert.flow.parts
    + shares_room r.shares)))))))))
