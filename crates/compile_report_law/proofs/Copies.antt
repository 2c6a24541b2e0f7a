-- The copy lines of what is made are lines of a report.
use Rattle.std.proofs.Common.{ℕ, ◌≤◌, List, [], ◌∷◌, ap, ◌∙◌, All}
use Rattle.std.specs.List.{flat_map}
use Rattle.std.proofs.lemmas.List.Elements.{All-cons, All-head, All-nil, All-tail}
use Rattle.c_tree.specs.Names.{name_of}
use Rattle.c_tree.specs.declared.expression.NameId.{NameId}
use Rattle.high_pass.specs.Listing.{MarkEntry}
use Rattle.compile_claims.specs.Places.{places_at}
use Rattle.compile_claims.specs.CopyLines.{AreLinesOf, IsLineOf}
use Rattle.report_text.specs.Forms.{IsCopyLine}
use Rattle.report_text.specs.declared.entries.CopyLine.{CopyLine}
use Rattle.report_words.specs.Words.{is_name}
use Rattle.compile_names.specs.Laws.{IsNamed}
use Rattle.compile_report_law.proofs.Names.{formed_name}
use Rattle.compile_source_claims.proofs.Places.{sorted_ascends, times}

module _ (names places : List (List ℕ)) where
  -- no address stands twice among those of a mark's copies
  abbrev pub AreOnce : MarkEntry → Type 0
  AreOnce e = (a : ℕ) → times a (flat_map (places_at places) e.new) ≤ 1

  one_line : (id : NameId) (e : MarkEntry) (c : CopyLine) → IsNamed names id → AreOnce e → IsLineOf names places id e.new c → IsCopyLine c
  one_line id e c formed once h = record {
    name = ap is_name h.name ∙ formed_name (name_of names id.0) formed;
    ascending = sorted_ascends (flat_map (places_at places) e.new) c.places once h.places_are h.sorted;
  }

  pub copy_lines : (ids : List NameId) (es : List MarkEntry) (cs : List CopyLine) → All (IsNamed names) ids → All AreOnce es → AreLinesOf names places ids es cs → All IsCopyLine cs
  copy_lines [] es [] formed once h = All-nil IsCopyLine
  copy_lines [] es (c ∷ cs) formed once h = absurd h
  copy_lines (id ∷ ids) [] cs formed once h = absurd h
  copy_lines (id ∷ ids) (e ∷ es) [] formed once h = absurd h
  copy_lines (id ∷ ids) (e ∷ es) (c ∷ cs) formed once h =
      All-cons IsCopyLine c cs (one_line id e c (All-head (IsNamed names) id ids formed) (All-head AreOnce e es once) h.0) (copy_lines ids es cs (All-tail (IsNamed names) id ids formed) (All-tail AreOnce e es once) h.1)
