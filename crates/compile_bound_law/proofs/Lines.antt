-- The addresses of copy lines: they are aligned, none stands in a line twice, and together they come to little where those of each mark do.
use Rattle.std.proofs.Common.{◌≡◌, ℕ, ◌+◌, ◌%◌, ◌≤◌, ℤ, pos, ◌+ℤ◌, ◌≤ℤ◌, List, [], ◌∷◌, ◌++◌, All, arith}
use Rattle.std.specs.Prelude.{sum_by}
use Rattle.std.specs.List.{flat_map}
use Rattle.std.proofs.lemmas.Int.{ints}
use Rattle.std.proofs.lemmas.List.Elements.{All-cons, All-head, All-nil, All-tail}
use Rattle.std.proofs.lemmas.List.Sorted.{All-permutation}
use Rattle.std.proofs.lemmas.List.Sums.{sum_by-cons}
use Rattle.frac128.specs.Terms.{int_sum_by}
use Rattle.c_tree.specs.declared.expression.NameId.{NameId}
use Rattle.facts_definitions.specs.declared.facts.Facts.{Facts}
use Rattle.types_tree.specs.Tree.{Program}
use Rattle.high_ir.specs.Weight.{reach}
use Rattle.high_pass.specs.Listing.{MarkEntry}
use Rattle.low_ir.specs.Placings.{placed_of}
use Rattle.claims_definition.specs.Listed.{Laid, places_of}
use Rattle.claims_image.specs.Images.{laid_of}
use Rattle.report_text.specs.Forms.{Ascend}
use Rattle.report_text.specs.declared.entries.CopyLine.{CopyLine}
use Rattle.compile_claims.specs.Places.{places_at}
use Rattle.compile_restrictions.specs.Told.{AreAscending}
use Rattle.compile_claims.specs.CopyLines.{AreLinesOf, IsLineOf}
use Rattle.compile_claims.proofs.Counting.{at_mark, line_sum}
use Rattle.compile_stages.specs.Made.{IsMade, copies_of, high_of}
use Rattle.compile_stages.specs.declared.made.Made.{Made}
use Rattle.compile_source_claims.proofs.Places.{sorted_ascends, times}
use Rattle.compile_source_claims.proofs.Standing.{aligned, copies_apart, each_list, each_of}

-- what the copies of each mark have for its line holds of all lines
module _ (names places : List (List ℕ)) (P : CopyLine → Type 0) (Q : MarkEntry → Type 0) (one : (id : NameId) (e : MarkEntry) (c : CopyLine) → Q e → IsLineOf names places id e.new c → P c) where
  each_line : (ids : List NameId) (es : List MarkEntry) (cs : List CopyLine) → All Q es → AreLinesOf names places ids es cs → All P cs
  each_line [] es [] all h = All-nil P
  each_line [] es (c ∷ cs) all h = absurd h
  each_line (id ∷ ids) [] cs all h = absurd h
  each_line (id ∷ ids) (e ∷ es) [] all h = absurd h
  each_line (id ∷ ids) (e ∷ es) (c ∷ cs) all h = All-cons P c cs (one id e c (All-head Q e es all) h.0) (each_line ids es cs (All-tail Q e es all) h.1)

abbrev pub AreAligned : CopyLine → Type 0
AreAligned c = All (λ a. a % 4 ≡ 0) c.places

module _ (names : List (List ℕ)) (program : Program) (facts : Facts) (m : Made) (made : IsMade names program facts m) (lines : List CopyLine) (lined : AreLinesOf names m.laid.lists.places.items (facts.functions ++ facts.markers) (copies_of m).marks lines) where
  abbrev places : List (List ℕ)
  places = m.laid.lists.places.items

  abbrev marks : List MarkEntry
  marks = (copies_of m).marks

  abbrev l : Laid
  l = laid_of m.placement (placed_of m.code)

  abbrev ids : List NameId
  ids = facts.functions ++ facts.markers

  abbrev IsOnce : MarkEntry → Type 0
  IsOnce e = (a : ℕ) → times a (flat_map (places_at places) e.new) ≤ 1

  abbrev Ascends : CopyLine → Type 0
  Ascends c = Ascend c.places

  pub lines_ascend : AreAscending lines
  lines_ascend = each_line names places Ascends IsOnce (λ id e c once h. sorted_ascends (flat_map (places_at places) e.new) c.places once h.places_are h.sorted)
      ids marks lines (copies_apart names program facts m made) lined

  pub lines_aligned : All AreAligned lines
  lines_aligned =
      each_line names places AreAligned IsOnce
      (λ id e c once h. All-permutation (λ a. a % 4 ≡ 0) (flat_map (places_at places) e.new) c.places h.places_are (each_of (λ a. a % 4 ≡ 0) places (aligned names program facts m made) e.new))
      ids marks lines (copies_apart names program facts m made) lined

  -- where the addresses of each mark come to at most its reach
  module _ (n : ℕ → ℤ) (each : (mark : ℕ) → int_sum_by n (places_of l mark) ≤ℤ pos (reach (high_of m) mark)) where
    abbrev IsWithin : ℕ → List ℕ → Type 0
    IsWithin mark ps = int_sum_by n ps ≤ℤ pos (reach (high_of m) mark)

    mark_within : (mark : ℕ) → IsWithin mark (places_at places mark)
    mark_within = each_list names program facts m made IsWithin each (λ mark. omega (arith, ints))

    abbrev at : ℕ → ℤ
    at mark = at_mark names places n mark

    copies_within : (ks : List ℕ) → int_sum_by at ks ≤ℤ pos (sum_by (reach (high_of m)) ks)
    copies_within [] = omega (arith, ints)
    copies_within (k ∷ ks) =
        let here = mark_within k in
        let rest = copies_within ks in
        let sum = sum_by-cons (reach (high_of m)) k ks in
        added (at k) (int_sum_by at ks) (reach (high_of m) k) (sum_by (reach (high_of m)) ks) (sum_by (reach (high_of m)) (k ∷ ks)) here rest sum
      where
        added : (x y : ℤ) (a b c : ℕ) → x ≤ℤ pos a → y ≤ℤ pos b → c ≡ a + b → (x +ℤ y) ≤ℤ pos c
        added x y a b c h k e = omega (arith, ints)

    abbrev IsReached : MarkEntry → Type 0
    IsReached e = sum_by (reach (high_of m)) e.new ≤ facts.most

    abbrev IsLight : CopyLine → Type 0
    IsLight c = int_sum_by n c.places ≤ℤ pos facts.most

    pub lines_light : All IsLight lines
    lines_light =
        each_line names places IsLight IsReached
        (λ id e c few h.
        let all = copies_within e.new in
        let sum = line_sum names places n id e.new c h in
        below (int_sum_by n c.places) (int_sum_by at e.new) (sum_by (reach (high_of m)) e.new) facts.most sum all few)
        ids marks lines made.carried.reach lined
      where
        below : (x y : ℤ) (a b : ℕ) → x ≡ y → y ≤ℤ pos a → a ≤ b → x ≤ℤ pos b
        below x y a b e h k = omega (arith, ints)
