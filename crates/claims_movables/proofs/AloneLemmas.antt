-- Among the accesses that touch one array alone are those of each array.
use Rattle.std.proofs.Common.{◌≡◌, ℕ, zero, suc, ◌+◌, Bool, true, false, List, [], ◌∷◌, ◌++◌, map, refl, sym, ap, ◌∙◌, subst, arith}
use Rattle.std.specs.Prelude.{◌==◌, ◌&&◌, Option, None, Some, if◌then◌else◌, slice_index_or}
use Rattle.std.specs.List.{flat_map}
use Rattle.std.proofs.lemmas.Bool.Decides.{nat_tests}
use Rattle.rv_core.specs.declared.regions.Region.{Region}
use Rattle.asm_items.specs.declared.item.Item.{Item}
use Rattle.asm_items.specs.Items.{size, total}
use Rattle.asm_items.specs.Placings.{Blocks, base_of, blocks_of}
use Rattle.low_ir.specs.Placings.{assignment_of, placed_of}
use Rattle.low_ir.specs.Programs.{low_of}
use Rattle.claims_definition.specs.Lines.{letters_of}
use Rattle.claims_definition.specs.Touches.{Touch, OfArrays, program_touches}
use Rattle.claims_definition.proofs.Accesses.{AllLie, BlocksLie, Lies, function_lies, program_lies, some}
use Rattle.claims_definition.proofs.Naming.{named}
use Rattle.claims_definition.specs.Listed.{Laid, by_address, placing}
use Rattle.claims_definition.specs.Movables.{blocks_only, is_only, items_only, only_at, only_in}
use Rattle.claims_lists.specs.declared.laying.Laying.{Laying}
use Rattle.claims_lists.specs.declared.marks.Marked.{Marked}
use Rattle.claims_lists.specs.Lists.{IsOf}
use Rattle.claims_lists.specs.Marks.{places_among}
use Rattle.claims_lists.specs.Places.{blocks_in}
use Rattle.claims_lists.proofs.Listing.{base_same, blocks_same}
use Rattle.claims_lists.proofs.Marking.{among_all}
use Rattle.claims_touches.specs.declared.touch.Touch as names
use Rattle.claims_touches.specs.declared.touch.Touch.TheVariants as variants
use Rattle.claims_touches.specs.Named.{AreTouches, touch_in}
use Rattle.claims_movables.specs.Alone.{access, alone, alone_by, alone_in, blocks_alone, items_alone}

claim_at : (claims : List (List ℕ)) (claim : ℕ) → slice_index_or (map alone claims) claim None ≡ alone (slice_index_or claims claim [])
claim_at [] zero = refl
claim_at [] (suc claim) = refl
claim_at (c ∷ claims) zero = refl
claim_at (c ∷ claims) (suc claim) = claim_at claims claim

-- walks over items and what they touch

module _ (claims : List (Option ℕ)) where
  none_items : (a k : ℕ) (xs : List Item) → items_alone claims a [] k xs ≡ []
  none_items a k [] = refl
  none_items a zero (x ∷ xs) = none_items (a + size x) 1 xs
  none_items a (suc k) (x ∷ xs) = none_items (a + size x) (suc (suc k)) xs

  later_items : (a : ℕ) (t : names.Touch) (ts : List names.Touch) (k : ℕ) (xs : List Item) → items_alone claims a (t ∷ ts) (suc k) xs ≡ items_alone claims a ts k xs
  later_items a t ts k [] = refl
  later_items a t ts k (x ∷ xs) = ap (λ l. access a (alone_in claims (slice_index_or ts k variants.Nothing)) ++ l) (later_items (a + size x) t ts (suc k) xs)

  none_blocks : (a k : ℕ) (bs : Blocks) → blocks_alone claims a [] k bs ≡ []
  none_blocks a k [] = refl
  none_blocks a zero (xs ∷ bs) = ap (λ l. l ++ blocks_alone claims (a + total xs) [] 1 bs) (none_items a 0 xs) ∙ none_blocks (a + total xs) 1 bs
  none_blocks a (suc k) (xs ∷ bs) = ap (λ l. l ++ blocks_alone claims (a + total xs) [] (suc (suc k)) bs) (none_items a 0 xs) ∙ none_blocks (a + total xs) (suc (suc k)) bs

  later_blocks : (a : ℕ) (ts : List names.Touch) (tss : List (List names.Touch)) (k : ℕ) (bs : Blocks) → blocks_alone claims a (ts ∷ tss) (suc k) bs ≡ blocks_alone claims a tss k bs
  later_blocks a ts tss k [] = refl
  later_blocks a ts tss k (xs ∷ bs) = ap (λ l. items_alone claims a (slice_index_or tss k []) 0 xs ++ l) (later_blocks (a + total xs) ts tss (suc k) bs)

module _ (o : ℕ) where
  either : (b : Bool) (a : ℕ) (xs ys : List ℕ) → (if b then a ∷ (xs ++ ys) else xs ++ ys) ≡ (if b then a ∷ xs else xs) ++ ys
  either true a xs ys = refl
  either false a xs ys = refl

  among_both : (xs ys : List Marked) → places_among o (xs ++ ys) ≡ places_among o xs ++ places_among o ys
  among_both [] ys = refl
  among_both (x ∷ xs) ys =
      ap (λ l. if x.mark == o then x.at ∷ l else l) (among_both xs ys)
      ∙ either (x.mark == o) x.at (places_among o xs) (places_among o ys)

  -- one array
  one_array : (a : ℕ) (b : Bool) → (if b then a ∷ [] else []) ≡ (if b && true then a ∷ [] else [])
  one_array a true = refl
  one_array a false = refl

  module _ (regions : ℕ → Region) where
    arrays_alone : (a : ℕ) (os : List ℕ) → some (letters_of regions os) ≡ true → places_among o (access a (alone os)) ≡ only_at o a (OfArrays os)
    arrays_alone a [] h = cc
    arrays_alone a (x ∷ os) h = by_test (is_only x os) (x == o) refl refl
      where
        is : (x == o) ≡ true → x ≡ o
        is e = grind (arith, nat_tests, e)

        by_test : (b c : Bool) → is_only x os ≡ b → (x == o) ≡ c → places_among o (access a (if b then Some x else None)) ≡ (if c && is_only o os then a ∷ [] else [])
        by_test true true t e = ap (λ z. if z then a ∷ [] else []) (e ∙ sym (ap (λ n. is_only n os) (sym (is e)) ∙ t))
        by_test true false t e = ap (λ z. if z then a ∷ [] else []) e
        by_test false true t e = ap (λ z. if z then a ∷ [] else []) (sym (ap (λ n. is_only n os) (sym (is e)) ∙ t))
        by_test false false t e = refl

    module _ (claims : List (List ℕ)) where
      touch_alone : (a : ℕ) (t : names.Touch) → Lies regions (touch_in claims t) → places_among o (access a (alone_in (map alone claims) t)) ≡ only_at o a (touch_in claims t)
      touch_alone a variants.Nothing h = refl
      touch_alone a variants.Frame h = refl
      touch_alone a (variants.Array x) h = one_array a (x == o)
      touch_alone a (variants.Claim claim) h = ap (λ z. places_among o (access a z)) (claim_at claims claim) ∙ arrays_alone a (slice_index_or claims claim []) h

      items_are : (a : ℕ) (ts : List names.Touch) (xs : List Item) → AllLie regions (map (touch_in claims) ts) → places_among o (items_alone (map alone claims) a ts 0 xs) ≡ items_only o a (map (touch_in claims) ts) xs
      items_are a [] xs h = ap (places_among o) (none_items (map alone claims) a 0 xs)
      items_are a (t ∷ ts) [] h = refl
      items_are a (t ∷ ts) (x ∷ xs) h =
          let rest = items_alone (map alone claims) (a + size x) (t ∷ ts) 1 xs in
          among_both (access a (alone_in (map alone claims) t)) rest
          ∙ ap (λ l. l ++ places_among o rest) (touch_alone a t h.0)
          ∙ ap (λ l. only_at o a (touch_in claims t) ++ l) (ap (places_among o) (later_items (map alone claims) (a + size x) t ts 0 xs) ∙ items_are (a + size x) ts xs h.1)

      blocks_are : (a : ℕ) (tss : List (List names.Touch)) (bs : Blocks) → BlocksLie regions (map (map (touch_in claims)) tss) → places_among o (blocks_alone (map alone claims) a tss 0 bs) ≡ blocks_only o a (map (map (touch_in claims)) tss) bs
      blocks_are a [] bs h = ap (places_among o) (none_blocks (map alone claims) a 0 bs)
      blocks_are a (ts ∷ tss) [] h = refl
      blocks_are a (ts ∷ tss) (xs ∷ bs) h =
          let rest = blocks_alone (map alone claims) (a + total xs) (ts ∷ tss) 1 bs in
          among_both (items_alone (map alone claims) a ts 0 xs) rest
          ∙ ap (λ l. l ++ places_among o rest) (items_are a ts xs h.0)
          ∙ ap (λ l. items_only o a (map (touch_in claims) ts) xs ++ l) (ap (places_among o) (later_blocks (map alone claims) (a + total xs) ts tss 0 bs) ∙ blocks_are (a + total xs) tss bs h.1)

      function_at : (all : List (List (List names.Touch))) (f : ℕ) → map (map (touch_in claims)) (slice_index_or all f []) ≡ slice_index_or (map (map (map (touch_in claims))) all) f []
      function_at [] zero = refl
      function_at [] (suc f) = refl
      function_at (x ∷ all) zero = refl
      function_at (x ∷ all) (suc f) = function_at all f

module _ (y : Laying) (l : Laid) (is : IsOf y l) (all : List (List (List names.Touch))) (touches : AreTouches y.code.now l.memory all) where
  module _ (o : ℕ) where
    function_same : (f : ℕ) → places_among o (alone_by (map alone (placed_of y.code.now).claims) all y.layout.now f) ≡ only_in l o f
    function_same f =
        let p = placed_of y.code.now in
        let claims = p.claims in
        let only = map alone claims in
        let ts = slice_index_or all f [] in
        let same : map (map (touch_in claims)) ts ≡ slice_index_or (program_touches l.memory p) f [] = function_at o l.regions claims all f ∙ ap (λ us. slice_index_or us f []) touches in
        let lie : BlocksLie l.regions (slice_index_or (program_touches l.memory p) f []) = function_lies l.regions (program_touches l.memory p) f (program_lies l.regions l.memory p (named (assignment_of y.code.now) (low_of y.code.now.low) y.code.now.low.is_low)) in
        ap (λ a. places_among o (blocks_alone only a ts 0 (blocks_in y.layout.now f))) (base_same y l is f)
        ∙ ap (λ bs. places_among o (blocks_alone only (base_of (placing l) f) ts 0 bs)) (blocks_same y l is f)
        ∙ blocks_are o l.regions claims (base_of (placing l) f) ts (blocks_of (placing l) f) (subst (BlocksLie l.regions) (sym same) lie)
        ∙ ap (λ us. blocks_only o (base_of (placing l) f) us (blocks_of (placing l) f)) same
        ∙ ap (λ q. blocks_only o (base_of (placing l) f) (slice_index_or (program_touches l.memory q) f []) (blocks_of (placing l) f)) (sym is.program)

  pub accesses_same : (o : ℕ) (accesses : List Marked) → accesses ≡ flat_map (alone_by (map alone (placed_of y.code.now).claims) all y.layout.now) (by_address l) → places_among o accesses ≡ flat_map (only_in l o) (by_address l)
  accesses_same o accesses e =
      ap (places_among o) e
      ∙ among_all o (alone_by (map alone (placed_of y.code.now).claims) all y.layout.now) (only_in l o) (function_same o) (by_address l)
