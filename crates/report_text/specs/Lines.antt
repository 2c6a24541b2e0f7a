-- The one text of a report, line by line, in the order of the format.
use Rattle.std.specs.Prelude.{ℕ, ℤ, ◌==◌, List, [], ◌∷◌, ◌++◌, Bool, Option, None, Some, map, codes, if◌then◌else◌}
use Rattle.std.specs.Fmt.{decimal, signed_decimal}
use Rattle.frac128.specs.Terms.{Terms}
use Rattle.wcc_base.specs.declared.compare.Compare.{Compare}
use Rattle.wcc_base.specs.declared.compare.Compare.TheVariants.{AtMost, AtLeast, Equal}
use Rattle.code_flow_system.specs.Claims.{Claims}
use Rattle.code_flow_system.specs.declared.claims.Never.{Never}
use Rattle.code_flow_system.specs.declared.claims.Within.{Within}
use Rattle.code_flow_system.specs.declared.claims.LoopClaim.{LoopClaim}
use Rattle.code_flow_system.specs.declared.claims.FactClaim.{FactClaim}
use Rattle.code_flow_system.specs.declared.cert.Cert.{Cert}
use Rattle.code_flow_system.specs.declared.cert.Part.{Part}
use Rattle.code_flow_answer.specs.declared.bounded.Kind.{Kind}
use Rattle.code_flow_answer.specs.declared.bounded.Kind.TheVariants.{Greatest, Empty, Wide, Spent}
use Rattle.code_flow_answer.specs.declared.bounded.Column.{Column}
use Rattle.report_text.specs.declared.entries.CopyLine.{CopyLine}
use Rattle.report_text.specs.declared.entries.Share.{Share}
use Rattle.report_words.specs.Words.{Word, Line, address_word, term_word, lines_text}
use Rattle.report_text.specs.Reports.{Report}

-- a report of version 1 doesn't name its version
abbrev pub version_lines : ℕ → List Line
version_lines v = if v == 1 then [] else (codes "version" ∷ decimal v ∷ []) ∷ []

abbrev pub cycles_line : ℕ → Line
cycles_line n = codes "cycles" ∷ decimal n ∷ []

abbrev pub kind_line : Kind → Line
kind_line Greatest = codes "kind" ∷ codes "greatest" ∷ []
kind_line Empty = codes "kind" ∷ codes "empty" ∷ []
kind_line (Wide pivot) = codes "kind" ∷ codes "wide" ∷ decimal pivot ∷ []
kind_line (Spent columns pivots) = codes "kind" ∷ codes "spent" ∷ decimal columns ∷ decimal pivots ∷ []

abbrev pub head_lines : Report → List Line
head_lines r = version_lines r.version ++ cycles_line r.cert.cycles ∷ kind_line r.kind ∷ []

-- a function or marker, and where its copies stand
abbrev pub copy_line : CopyLine → Line
copy_line c = codes "copy" ∷ c.name ∷ map address_word c.places

-- the claims, each with its multiplier

abbrev pub exit_line : ℕ → Line
exit_line a = codes "exit" ∷ address_word a ∷ []

abbrev pub never_line : Never → ℤ → Line
never_line c m = codes "never" ∷ decimal c.source ∷ decimal c.factor ∷ address_word c.at ∷ signed_decimal m ∷ []

abbrev pub letter : Bool → ℕ → Word
letter has b = if has then b ∷ [] else []

-- letters for flash, scratchpad and RAM
abbrev pub letters : Within → Word
letters w = letter w.flash 102 ++ (letter w.spm 115 ++ letter w.ram 114)

abbrev pub region_line : Within → Line
region_line w = codes "region" ∷ address_word w.first ∷ address_word w.end ∷ letters w ∷ []

-- the multipliers of the least and of the most
abbrev pub loop_line : LoopClaim → ℤ × ℤ → Line
loop_line c m = codes "loop" ∷ decimal c.source ∷ decimal c.factor ∷ decimal c.min ∷ decimal c.max ∷ address_word c.header ∷ address_word c.back ∷ signed_decimal m.0 ∷ signed_decimal m.1 ∷ []

-- the terms behind the first
abbrev pub more_terms : Terms → List Word
more_terms [] = []
more_terms (t ∷ ts) = codes "+" ∷ term_word t ∷ more_terms ts

abbrev pub sum_words : Terms → List Word
sum_words [] = codes "0" ∷ []
sum_words (t ∷ ts) = term_word t ∷ more_terms ts

abbrev pub compare_word : Compare → Word
compare_word AtMost = codes "<="
compare_word AtLeast = codes ">="
compare_word Equal = codes "="

abbrev pub fact_line : FactClaim → ℤ → Line
fact_line c m = codes "fact" ∷ signed_decimal m ∷ (sum_words c.left ++ compare_word c.op ∷ sum_words c.right)

-- a line for each of two lists' elements
abbrev pub paired : {X Y : Type 0} → (X → Y → Line) → List X → List Y → List Line
paired f [] ys = []
paired f (x ∷ xs) [] = []
paired f (x ∷ xs) (y ∷ ys) = f x y ∷ paired f xs ys

abbrev pub claim_lines : Claims → Cert → List Line
claim_lines c k =
    map exit_line c.exits
    ++ (paired never_line c.nevers k.nevers
    ++ (map region_line c.regions
    ++ (paired loop_line c.loops k.loops
    ++ paired fact_line c.facts k.facts)))

-- the value of a flow, and each fact's left side less its right one
abbrev pub column_line : Column → Line
column_line c = codes "column" ∷ signed_decimal c.value ∷ map signed_decimal c.totals

-- the certificate's other numbers

abbrev pub scale_line : ℕ → Line
scale_line n = codes "scale" ∷ decimal n ∷ []

abbrev pub potential_line : ℕ × ℤ → Line
potential_line t = codes "potential" ∷ address_word t.0 ∷ signed_decimal t.1 ∷ []

abbrev pub unit_line : ℕ → Line
unit_line n = codes "unit" ∷ decimal n ∷ []

abbrev pub flow_line : Part → Line
flow_line p = codes "flow" ∷ address_word p.at ∷ decimal p.number ∷ signed_decimal p.part ∷ []

abbrev pub cert_lines : Cert → List Line
cert_lines k = scale_line k.scale ∷ (map potential_line k.potentials ++ unit_line k.flow.unit ∷ map flow_line k.flow.parts)

-- code of no function has no name
abbrev pub share_name : Option Word → Word
share_name None = codes "-"
share_name (Some name) = name

abbrev pub share_line : Share → Line
share_line s = codes "share" ∷ share_name s.name ∷ address_word s.first ∷ address_word s.end ∷ signed_decimal s.part ∷ []

abbrev pub end_line : Line
end_line = codes "end" ∷ []

abbrev pub report_lines : Report → List Line
report_lines r =
    head_lines r
    ++ (map copy_line r.names
    ++ (claim_lines r.claims r.cert
    ++ (map column_line r.columns
    ++ (cert_lines r.cert
    ++ (map share_line r.shares ++ end_line ∷ [])))))

-- the text of a report
abbrev pub report_text : Report → List ℕ
report_text r = lines_text (report_lines r)
