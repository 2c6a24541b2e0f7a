-- The shares of a report begin in the functions of their names, and no function has two.
use Rattle.std.proofs.Common.{◌≡◌, ℕ, zero, suc, ◌+◌, ◌<◌, ◌≤◌, ⊎_elim, List, [], ◌∷◌, ◌++◌, length, take, Option, Some, None, refl, sym, ap, ◌∙◌, subst, arith, Contains, All}
use Rattle.std.specs.Prelude.{MatchOption, option_map, slice_get}
use Rattle.std.specs.List.{flat_map}
use Rattle.std.specs.Option.{option_to_list}
use Rattle.std.proofs.lemmas.Bool.{cases_lt}
use Rattle.std.proofs.lemmas.List.{get_or_past}
use Rattle.std.proofs.lemmas.List.Elements.{All-head}
use Rattle.std.proofs.lemmas.List.FromFn.{get_or-map-range_with_len}
use Rattle.std.proofs.lemmas.List.Sorted.{Contains-permutation}
use Rattle.std.proofs.lemmas.Option.{get_or_from_slice_get, none-some, same_Some, slice_get-get_or, slice_get-map, slice_get_within}
use Rattle.c_tree.specs.Names.{name_of}
use Rattle.c_tree.specs.declared.expression.NameId.{NameId}
use Rattle.asm_items.specs.Placings.{base_of, start_of}
use Rattle.high_ir.specs.Tree as high
use Rattle.high_pass.specs.Listing.{MarkEntry, mark_copies}
use Rattle.high_pass.proofs.Elements.{Contains-flat_map}
use Rattle.types_seen.proofs.Lists.{slice_get-before, slice_get-some}
use Rattle.low_ir.specs.declared.places.Place.{Place}
use Rattle.low_ir.specs.Code.{Block, Function, Low, Note}
use Rattle.low_ir.specs.Formed.{HasMarkBelow, mark_of, opening}
use Rattle.low_ir.specs.Places.{Assignment, place_blocks, place_function, placed}
use Rattle.low_ir.specs.Runs.{block_in}
use Rattle.low_ir.specs.Turns.{mark_in}
use Rattle.image_frames.specs.Memories.{Placement}
use Rattle.asm_program.specs.Functions.{function_in, no_function}
use Rattle.lower_law.specs.Programs.{KeepsProgram}
use Rattle.register_places.proofs.Ways.{of_function, placed_function}
use Rattle.claims_definition.specs.ClaimLaws.{AreRanges, HasPlaces, RangesAscend}
use Rattle.claims_definition.specs.Listed.{CodeRange, Laid, by_address, code_range, code_ranges, places_of, placing, places_below}
use Rattle.claims_definition.proofs.Blocks.{AllBelow}
use Rattle.claims_image.specs.Images.{laid_of}
use Rattle.compile_claims.specs.Places.{places_at}
use Rattle.compile_claims.specs.CopyLines.{AreLinesOf}
use Rattle.compile_claims.specs.Shares.{name_by, named}
use Rattle.report_text.specs.declared.entries.CopyLine.{CopyLine}
use Rattle.report_text.specs.declared.entries.Share.{Share}
use Rattle.promise_report.specs.Facts.{IsOfFunction, IsShareLine}
use Rattle.compile_promise.proofs.Copies.{line_at}
use Rattle.compile_names.proofs.Lists.{in_front}

-- over places a function has the opening mark that it has over registers
opens_same : (at : ℕ → Place) (kept : ℕ → List ℕ) (bs : List (Block ℕ Note)) → mark_in (slice_get (place_blocks at kept 0 bs) 0) ≡ mark_in (slice_get bs 0)
opens_same at kept [] = refl
opens_same at kept (b ∷ bs) = refl

mark_below : (marks : ℕ) (bs : List (Block ℕ Note)) (m : ℕ) → All (HasMarkBelow marks) bs → mark_in (slice_get bs 0) ≡ Some m → m < marks
mark_below marks [] m all e = absurd (none-some m e)
mark_below marks (b ∷ bs) m all e = All-head (λ n. n < marks) m [] (subst (λ o. All (λ n. n < marks) (option_to_list o)) e (All-head (HasMarkBelow marks) b bs all))

below_at : (n : ℕ) (fs : List ℕ) (i f : ℕ) → AllBelow n fs → slice_get fs i ≡ Some f → f < n
below_at n [] i f h e = absurd (none-some f e)
below_at n (g ∷ fs) zero f h e = subst (λ k. k < n) (same_Some g f e) h.0
below_at n (g ∷ fs) (suc i) f h e = below_at n fs i f h.1 e

-- ranges that ascend begin at different addresses
begins_above : (a : ℕ) (rs : List CodeRange) (i : ℕ) (r : CodeRange) → RangesAscend a rs → slice_get rs i ≡ Some r → a ≤ r.first
begins_above a [] i r h e = absurd (none-some r e)
begins_above a (x ∷ rs) zero r h e = let low = h.0 in let same = ap (λ (y : CodeRange). y.first) (same_Some x r e) in omega (arith, low, same)
begins_above a (x ∷ rs) (suc i) r h e = let low = h.0 in let some = h.1.0 in let later = begins_above x.end rs i r h.1.1 e in omega (arith, low, some, later)

begins_apart : (a : ℕ) (rs : List CodeRange) (i j : ℕ) (r t : CodeRange) → RangesAscend a rs → i < j → slice_get rs i ≡ Some r → slice_get rs j ≡ Some t → r.first < t.first
begins_apart a [] i j r t h less e f = absurd (none-some r e)
begins_apart a (x ∷ rs) i zero r t h less e f = absurd (omega (arith, less))
begins_apart a (x ∷ rs) zero (suc j) r t h less e f =
    let some = h.1.0 in
    let same = ap (λ (y : CodeRange). y.first) (same_Some x r e) in
    let later = begins_above x.end rs j t h.1.1 f in
    omega (arith, some, same, later)
begins_apart a (x ∷ rs) (suc i) (suc j) r t h less e f = begins_apart x.end rs i j r t h.1.1 (omega (arith, less)) e f

module _ (names : List (List ℕ)) (functions : List NameId) (p : high.Program) (q : Low) (keeps : KeepsProgram p q) (a : Assignment) (pl : Placement) (many : length functions ≡ length p.functions) where
  abbrev pub own : Laid
  own = laid_of pl (placed a q)

  abbrev count : ℕ
  count = length (placed a q).functions

  -- a function of the program, by its opening mark
  record Opens (f : ℕ) : Type 0 where
    fn : Function ℕ Note
    there : slice_get q.functions f ≡ Some fn
    number : ℕ
    opens : opening fn ≡ Some number
    low : number < length p.functions
    same : opening (function_in (placed a q) f) ≡ Some number
    mark : mark_of (placed a q) f 0 ≡ Some number

  opens_at : (f : ℕ) → f < count → Opens f
  opens_at f low =
      let h = of_function a 0 q.functions f (function_in (placed a q) f) (slice_get-get_or (placed a q).functions f no_function low) in
      let from = keeps.functions f h.fn h.there in
      let over = placed_function a q f h.fn h.there in
      let first : opening (place_function a f h.fn) ≡ Some from.number = opens_same (a.place f) (a.kept f) h.fn.blocks ∙ from.opens in
      record {
        fn = h.fn;
        there = h.there;
        number = from.number;
        opens = from.opens;
        low = slice_get_within p.functions from.number from.function from.there;
        same = ap opening (get_or_from_slice_get (placed a q).functions f (place_function a f h.fn) no_function over) ∙ first;
        mark = ap (λ o. mark_in (block_in o 0)) over ∙ first;
      }

  -- the name of a range, that of its function
  abbrev pub name_at : ℕ → Option (List ℕ)
  name_at f = named names functions (opening (function_in (placed a q) f))

  name_past : (f : ℕ) → count ≤ f → name_at f ≡ None
  name_past f high = ap (λ fn. named names functions (opening fn)) (get_or_past (placed a q).functions f no_function high)

  record IsNamed (f : ℕ) : Type 0 where
    opens : Opens f
    id : NameId
    there : slice_get functions opens.number ≡ Some id
    is : name_at f ≡ Some (name_of names id.0)

  name_there : (f : ℕ) → f < count → IsNamed f
  name_there f low =
      let o = opens_at f low in
      let within = o.low in
      let id = slice_get-some functions o.number (omega (arith, within, many)) in
      record { opens = o; id = id.0; there = id.1; is = ap (named names functions) o.same ∙ ap (name_by names functions) id.1 }

  module _ (apart : (i j : ℕ) (x y : NameId) → slice_get functions i ≡ Some x → slice_get functions j ≡ Some y → name_of names x.0 ≡ name_of names y.0 → i ≡ j) where
    named_same : (f g : ℕ) → IsNamed f → IsNamed g → name_at f ≡ name_at g → f ≡ g
    named_same f g h k e =
        let names_same : name_of names h.id.0 ≡ name_of names k.id.0 = same_Some (name_of names h.id.0) (name_of names k.id.0) (sym h.is ∙ e ∙ k.is) in
        let number : h.opens.number ≡ k.opens.number = apart h.opens.number k.opens.number h.id k.id h.there k.there names_same in
        let alone = (keeps.is_low.functions f h.opens.fn h.opens.there).alone h.opens.number g 0 h.opens.opens (ap (λ o. mark_in (block_in o 0)) k.opens.there ∙ k.opens.opens ∙ ap Some (sym number)) in
        sym alone.0

    function_same : (f g : ℕ) → f ≤ count → g ≤ count → name_at f ≡ name_at g → f ≡ g
    function_same f g low below e = ⊎_elim
        (λ (h : f < count). ⊎_elim
        (λ (k : g < count). named_same f g (name_there f h) (name_there g k) e)
        (λ (k : count ≤ g). absurd (none-some (name_of names (name_there f h).id.0) (sym (name_past g k) ∙ sym e ∙ (name_there f h).is)))
        (cases_lt g count))
        (λ (h : count ≤ f). ⊎_elim
        (λ (k : g < count). absurd (none-some (name_of names (name_there g k).id.0) (sym (name_past f h) ∙ e ∙ (name_there g k).is)))
        (λ (k : count ≤ g). omega (arith, h, k, low, below))
        (cases_lt g count))
        (cases_lt f count)

    -- ranges of different places have different names
    pub names_differ : AreRanges own → AllBelow (suc count) (by_address own) → (i j f g : ℕ) → i < j → slice_get (by_address own) i ≡ Some f → slice_get (by_address own) j ≡ Some g → name_at f ≡ name_at g → ⊥
    names_differ ranges order i j f g less e k same =
        let low = below_at (suc count) (by_address own) i f order e in
        let below = below_at (suc count) (by_address own) j g order k in
        let equal : f ≡ g = function_same f g (omega (arith, low)) (omega (arith, below)) same in
        let first = begins_apart 0 (code_ranges own) i j (code_range own f) (code_range own g) ranges.ascend less
        (slice_get-map (code_range own) (by_address own) i ∙ ap (λ o. option_map (code_range own) o) e)
        (slice_get-map (code_range own) (by_address own) j ∙ ap (λ o. option_map (code_range own) o) k) in
        let begins : (code_range own f).first ≡ (code_range own g).first = ap (λ h. (code_range own h).first) equal in
        absurd (omega (arith, first, begins))

  module _ (places : List (List ℕ)) (places_are : places ≡ places_below own q.marks) (markers : List NameId) (es : List MarkEntry) (openings : (f : ℕ) → f < length p.functions → Contains (mark_copies es f) f) (cs : List CopyLine) (lines : AreLinesOf names places (functions ++ markers) es cs) (marks : (mark : ℕ) → HasPlaces own mark) (ranges : AreRanges own) where
    abbrev front : List CopyLine
    front = take (length functions) cs

    place_there : (f : ℕ) (o : Opens f) (first : ℕ) → f < count → first ≡ base_of (placing own) f → Contains (places_at places o.number) first
    place_there f o first low is =
        let within : o.number < q.marks = mark_below q.marks o.fn.blocks o.number (keeps.is_low.functions f o.fn o.there).marks o.opens in
        let at : places_at places o.number ≡ places_of own o.number = ap (λ ps. places_at ps o.number) places_are ∙ get_or-map-range_with_len (places_of own) 0 q.marks o.number o.number [] within (omega arith) in
        let begins : base_of (placing own) f ≡ start_of (placing own) f 0 = ranges.begins f (omega (arith, low)) in
        subst (Contains (places_at places o.number)) (sym (is ∙ begins)) (subst (λ ps. Contains ps (start_of (placing own) f 0)) (sym at) ((marks o.number).every f 0 o.mark))

    of_named : (f : ℕ) (h : IsNamed f) (s : Share) → f < count → s.first ≡ base_of (placing own) f → IsOfFunction front s (name_of names h.id.0)
    of_named f h s low is =
        let n = h.opens.number in
        let r = line_at names places (functions ++ markers) es cs n h.id lines (slice_get-before functions markers n h.id h.there) in
        let copies : Contains r.entry.new n = subst (λ (e : MarkEntry). Contains e.new n) (get_or_from_slice_get es n r.entry (record { old = n; new = [] }) r.listed) (openings n h.opens.low) in
        record {
          line = r.line;
          there = in_front cs (length functions) n r.line (slice_get_within functions n h.id h.there) r.there;
          name_is = r.is.name;
          begins = Contains-permutation (flat_map (places_at places) r.entry.new) r.line.places s.first r.is.places_are
              (Contains-flat_map (places_at places) r.entry.new copies.0 n s.first copies.1 copies.2 (place_there f h.opens s.first low is));
        }

    pub share_lined : (s : Share) (f : ℕ) → s.name ≡ name_at f → s.first ≡ base_of (placing own) f → IsShareLine front s
    share_lined s f name first = subst (λ o. MatchOption o (Unit {0}) (IsOfFunction front s)) (sym name) (⊎_elim
        (λ (low : f < count).
        let h = name_there f low in
        subst (λ o. MatchOption o (Unit {0}) (IsOfFunction front s)) (sym h.is) (of_named f h s low first))
        (λ (high : count ≤ f). subst (λ o. MatchOption o (Unit {0}) (IsOfFunction front s)) (sym (name_past f high)) tt)
        (cases_lt f count))
