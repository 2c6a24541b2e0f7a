-- Where marks stand.
use Rattle.std.proofs.Common.{◌≡◌, ⊎_elim, ℕ, zero, suc, ◌+◌, ◌%◌, ◌<◌, ◌≤◌, Bool, true, false, List, [], ◌∷◌, length, map, Option, Some, None, refl, sym, ap, ◌∙◌, subst, arith, Contains}
use Rattle.std.specs.Prelude.{◌==◌, All, if◌then◌else◌, slice_get, slice_index_or}
use Rattle.std.specs.List.{flat_map}
use Rattle.std.proofs.lemmas.Bool.{cases_lt}
use Rattle.std.proofs.lemmas.Bool.Decides.{nat_tests}
use Rattle.std.proofs.lemmas.List.{get_or_past, map-append}
use Rattle.std.proofs.lemmas.List.Concat.{flat_map-cons}
use Rattle.std.proofs.lemmas.List.Elements.{All-append, All-cons, All-nil, Contains-append_left, Contains-append_right}
use Rattle.std.proofs.lemmas.Option.{same_Some, slice_get-get_or, slice_get_past}
use Rattle.asm_items.specs.Items.{total}
use Rattle.asm_items.specs.Placings.{base_of, block_of, blocks_of, end_of, start_of}
use Rattle.asm_graphs.proofs.PlaceLemmas.{next_start, start_within}
use Rattle.low_ir.specs.Formed.{mark_of}
use Rattle.low_ir.specs.Runs.{block_in}
use Rattle.low_ir.specs.Turns.{mark_in}
use Rattle.asm_program.specs.Functions.{PlacedBlock, PlacedFunction, function_in, no_function}
use Rattle.claims_definition.specs.ClaimLaws.{HasPlaces, IsPlaceOf, IsSettled, Rise}
use Rattle.claims_definition.specs.Listed.{Laid, by_address, marked_from, marked_here, places_in, places_of, placing}
use Rattle.claims_definition.proofs.Along.{along, last_end}
use Rattle.claims_definition.proofs.Apart.{starts_apart}
use Rattle.claims_definition.proofs.Blocks.{all_in_order, block_some, blocks_count, many_blocks, start_fours}
use Rattle.claims_definition.proofs.Spaces.{Between, append, wider}

abbrev at_of : ℕ → ℕ
at_of x = x

abbrev IsGood : ℕ → Type 0
IsGood x = x % 4 ≡ 0

abbrev PlacesBetween : ℕ → List ℕ → ℕ → Type 0
PlacesBetween a xs end = Between ℕ at_of IsGood a xs end

rises : (a : ℕ) (xs : List ℕ) (end : ℕ) → PlacesBetween a xs end → Rise a xs
rises a [] end h = tt
rises a (x ∷ xs) end h = (h.0, (h.1.0, rises (x + 4) xs end h.1.1))

same_test : (a b : ℕ) → (a == b) ≡ true → a ≡ b
same_test a b t = grind (arith, nat_tests, t)

one_there : (a : ℕ) → Contains (a ∷ []) a
one_there a = (0, omega arith, refl)

pub there_flat : {A : Type 0} (g : ℕ → List A) (fs : List ℕ) (f : ℕ) (x : A) → Contains fs f → Contains (g f) x → Contains (flat_map g fs) x
there_flat g fs f x h k = by_number fs h.0 h.1 h.2
  where
    by_number : (gs : List ℕ) (n : ℕ) → n < length gs → slice_index_or gs n f ≡ f → Contains (flat_map g gs) x
    by_number [] n low e = absurd (omega (arith, low))
    by_number (y ∷ gs) zero low e = subst (λ xs. Contains xs x) (sym (flat_map-cons g y gs)) (Contains-append_left (g y) (flat_map g gs) x (subst (λ i. Contains (g i) x) (sym e) k))
    by_number (y ∷ gs) (suc n) low e = subst (λ xs. Contains xs x) (sym (flat_map-cons g y gs)) (Contains-append_right (g y) (flat_map g gs) x (by_number gs n (omega (arith, low)) e))

module _ (l : Laid) (mark : ℕ) where
  abbrev blocks_in : ℕ → List PlacedBlock
  blocks_in f = (function_in l.program f).blocks

  abbrev start : ℕ → ℕ → ℕ
  start f b = start_of (placing l) f b

  -- the mark of a block, in a function that is there
  marked_in : (f b : ℕ) → mark_of l.program f b ≡ Some mark → (f < length l.program.functions) × (mark_in (slice_get (blocks_in f) b) ≡ Some mark)
  marked_in f b e =
      ⊎_elim
      (λ (low : f < length l.program.functions). (low, ap (λ o. mark_in (block_in o b)) (sym (slice_get-get_or l.program.functions f no_function low)) ∙ e))
      (λ (past : length l.program.functions ≤ f). absurd (nothing (ap (λ o. mark_in (block_in o b)) (sym (slice_get_past l.program.functions f past)) ∙ e)))
      (cases_lt f (length l.program.functions))
    where
      nothing : None ≡ Some mark → ⊥
      nothing n = cc

  in_function : (f b : ℕ) (x : PlacedBlock) → slice_get (blocks_in f) b ≡ Some x → mark_of l.program f b ≡ x.mark
  in_function f b x e =
      ⊎_elim
      (λ (low : f < length l.program.functions). ap (λ o. mark_in (block_in o b)) (slice_get-get_or l.program.functions f no_function low) ∙ ap mark_in e)
      (λ (past : length l.program.functions ≤ f).
      let none : function_in l.program f ≡ no_function = get_or_past l.program.functions f no_function past in
      absurd (nothing b (ap (λ (fn : PlacedFunction). slice_get fn.blocks b) (sym none) ∙ e)))
      (cases_lt f (length l.program.functions))
    where
      nothing : (n : ℕ) → slice_get [] n ≡ Some x → ⊥
      nothing n e = cc

  -- each listed address is a place of the mark
  here_places : (f b : ℕ) (o : Option ℕ) → mark_of l.program f b ≡ o → All (IsPlaceOf l mark) (map (start f) (marked_here mark b o))
  here_places f b None e = All-nil (IsPlaceOf l mark)
  here_places f b (Some m) e = by_test (m == mark) refl
    where
      by_test : (t : Bool) → (m == mark) ≡ t → All (IsPlaceOf l mark) (map (start f) (if t then b ∷ [] else []))
      by_test false t = All-nil (IsPlaceOf l mark)
      by_test true t = All-cons (IsPlaceOf l mark) (start f b) [] (record { function = f; block = b; marked = e ∙ ap Some (same_test m mark t); is = refl }) (All-nil (IsPlaceOf l mark))

  from_places : (f b : ℕ) (xs : List PlacedBlock) → ((k : ℕ) (x : PlacedBlock) → slice_get xs k ≡ Some x → slice_get (blocks_in f) (b + k) ≡ Some x) → All (IsPlaceOf l mark) (map (start f) (marked_from mark b xs))
  from_places f b [] at = All-nil (IsPlaceOf l mark)
  from_places f b (x ∷ xs) at =
      let z : b + 0 ≡ b = omega arith in
      let first : slice_get (blocks_in f) b ≡ Some x = ap (slice_get (blocks_in f)) (sym z) ∙ at 0 x refl in
      subst (All (IsPlaceOf l mark)) (sym (map-append (start f) (marked_here mark b x.mark) (marked_from mark (suc b) xs)))
      (All-append (IsPlaceOf l mark) (map (start f) (marked_here mark b x.mark)) (map (start f) (marked_from mark (suc b) xs)) (here_places f b x.mark (in_function f b x first))
      (from_places f (suc b) xs (λ k y e. let n : suc b + k ≡ b + suc k = omega arith in ap (slice_get (blocks_in f)) n ∙ at (suc k) y e)))

  all_places : (fs : List ℕ) → All (IsPlaceOf l mark) (flat_map (places_in l mark) fs)
  all_places [] = All-nil (IsPlaceOf l mark)
  all_places (f ∷ fs) =
      subst (All (IsPlaceOf l mark)) (sym (flat_map-cons (places_in l mark) f fs))
      (All-append (IsPlaceOf l mark) (places_in l mark f) (flat_map (places_in l mark) fs) (from_places f 0 (blocks_in f) (λ k x e. let z : 0 + k ≡ k = omega arith in ap (slice_get (blocks_in f)) z ∙ e)) (all_places fs))

  -- each place is listed
  here_listed : (f b : ℕ) (o : Option ℕ) → o ≡ Some mark → Contains (map (start f) (marked_here mark b o)) (start f b)
  here_listed f b o e =
      let test : (mark == mark) ≡ true = grind (arith, nat_tests) in
      subst (λ p. Contains (map (start f) (marked_here mark b p)) (start f b)) (sym e) (subst (λ t. Contains (map (start f) (if t then b ∷ [] else [])) (start f b)) (sym test) (one_there (start f b)))

  from_listed : (f b : ℕ) (xs : List PlacedBlock) (k : ℕ) → mark_in (slice_get xs k) ≡ Some mark → Contains (map (start f) (marked_from mark b xs)) (start f (b + k))
  from_listed f b [] k e = cc
  from_listed f b (x ∷ xs) zero e =
      let z : b ≡ b + 0 = omega arith in
      subst (λ n. Contains (map (start f) (marked_from mark b (x ∷ xs))) (start f n)) z
      (subst (λ ys. Contains ys (start f b)) (sym (map-append (start f) (marked_here mark b x.mark) (marked_from mark (suc b) xs)))
      (Contains-append_left (map (start f) (marked_here mark b x.mark)) (map (start f) (marked_from mark (suc b) xs)) (start f b) (here_listed f b x.mark e)))
  from_listed f b (x ∷ xs) (suc k) e =
      let n : suc b + k ≡ b + suc k = omega arith in
      subst (λ n. Contains (map (start f) (marked_from mark b (x ∷ xs))) (start f n)) n
      (subst (λ ys. Contains ys (start f (suc b + k))) (sym (map-append (start f) (marked_here mark b x.mark) (marked_from mark (suc b) xs)))
      (Contains-append_right (map (start f) (marked_here mark b x.mark)) (map (start f) (marked_from mark (suc b) xs)) (start f (suc b + k)) (from_listed f (suc b) xs k e)))

  module _ (is : IsSettled l) where
    every_listed : (f b : ℕ) → mark_of l.program f b ≡ Some mark → Contains (places_of l mark) (start f b)
    every_listed f b e =
        let h = marked_in f b e in
        let low = h.0 in
        let z : 0 + b ≡ b = omega arith in
        there_flat (places_in l mark) (by_address l) f (start f b) (all_in_order l is f (omega (arith, low))) (subst (λ n. Contains (places_in l mark f) (start f n)) z (from_listed f 0 (blocks_in f) b h.1))

    -- in the order of addresses
    here_between : (f b : ℕ) (o : Option ℕ) → base_of (placing l) f % 4 ≡ 0 → PlacesBetween (start f b) (map (start f) (marked_here mark b o)) (start f b + 4)
    here_between f b None e = omega arith
    here_between f b (Some m) e = by_test (m == mark)
      where
        by_test : (t : Bool) → PlacesBetween (start f b) (map (start f) (if t then b ∷ [] else [])) (start f b + 4)
        by_test false = omega arith
        by_test true = (omega arith, (start_fours l f b e, omega arith))

    from_between : (f b : ℕ) (xs : List PlacedBlock) (lo : ℕ) → f < suc (length l.program.functions) → base_of (placing l) f % 4 ≡ 0 → b + length xs ≤ length (blocks_of (placing l) f) → lo ≤ end_of (placing l) f → (b < length (blocks_of (placing l) f) → lo ≤ start f b)
        → PlacesBetween lo (map (start f) (marked_from mark b xs)) (end_of (placing l) f)
    from_between f b [] lo there fours fits low h = low
    from_between f b (x ∷ xs) lo there fours fits low h =
        let blocks = blocks_of (placing l) f in
        let inside : b < length blocks = omega (arith, fits) in
        let room = block_some l is f b there (subst (λ n. b < n) (blocks_count l is f) inside) in
        let within = start_within blocks (base_of (placing l) f) b inside in
        let high = within.1 in
        let behind = start f b + total (block_of (placing l) f b) in
        let begins = h inside in
        let rest = from_between f (suc b) xs behind there fours (omega (arith, fits)) high (λ more. let next = next_start blocks (base_of (placing l) f) b more in omega (arith, next)) in
        subst (λ ys. PlacesBetween lo ys (end_of (placing l) f)) (sym (map-append (start f) (marked_here mark b x.mark) (marked_from mark (suc b) xs)))
        (append ℕ at_of IsGood lo (map (start f) (marked_here mark b x.mark)) (map (start f) (marked_from mark (suc b) xs)) behind (end_of (placing l) f)
        (wider ℕ at_of IsGood (start f b) lo (map (start f) (marked_here mark b x.mark)) (start f b + 4) behind begins (omega (arith, room)) (here_between f b x.mark fours)) rest)

    one_between : (f : ℕ) → f < suc (length l.program.functions) → base_of (placing l) f % 4 ≡ 0 → PlacesBetween (base_of (placing l) f) (places_in l mark f) (end_of (placing l) f)
    one_between f there fours =
        ⊎_elim
        (λ (low : f < length l.program.functions).
        let many = many_blocks l is f low in
        let few : 0 + length (blocks_in f) ≤ length (blocks_of (placing l) f) = omega (arith, many) in
        from_between f 0 (blocks_in f) (base_of (placing l) f) there fours few (omega arith) (λ inside. let w = start_within (blocks_of (placing l) f) (base_of (placing l) f) 0 inside in w.0))
        (λ (past : length l.program.functions ≤ f).
        let none : function_in l.program f ≡ no_function = get_or_past l.program.functions f no_function past in
        subst (λ (fn : PlacedFunction). PlacesBetween (base_of (placing l) f) (map (start f) (marked_from mark 0 fn.blocks)) (end_of (placing l) f)) (sym none) (omega arith))
        (cases_lt f (length l.program.functions))

    pub places_hold : HasPlaces l mark
    places_hold =
        let all = along l is ℕ at_of IsGood (places_in l mark) one_between in
        record {
          rise = rises 0 (places_of l mark) (last_end l) (wider ℕ at_of IsGood l.rows.flash 0 (places_of l mark) (last_end l) (last_end l) (omega arith) (omega arith) all);
          each = all_places (by_address l);
          every = every_listed;
        }

-- two blocks begin at different addresses
module _ (l : Laid) (is : IsSettled l) where
  place_inside : (m a : ℕ) (h : IsPlaceOf l m a) → (h.function < length l.program.functions) × (h.block < length (blocks_of (placing l) h.function))
  place_inside m a h =
      let k = marked_in l m h.function h.block h.marked in
      let few = many_blocks l is h.function k.0 in
      let low = inside (function_in l.program h.function).blocks h.block k.1 in
      (k.0, omega (arith, few, low))
    where
      inside : (xs : List PlacedBlock) (b : ℕ) → mark_in (slice_get xs b) ≡ Some m → b < length xs
      inside [] b e = cc
      inside (x ∷ xs) zero e = omega arith
      inside (x ∷ xs) (suc b) e = let n = inside xs b e in omega (arith, n)

  pub places_apart : (m n a : ℕ) → IsPlaceOf l m a → IsPlaceOf l n a → m ≡ n
  places_apart m n a h k =
      let same = starts_apart l is h.function h.block k.function k.block (place_inside m a h) (place_inside n a k) (sym h.is ∙ k.is) in
      same_Some m n (sym h.marked ∙ ap (λ f. mark_of l.program f h.block) same.0 ∙ ap (mark_of l.program k.function) same.1 ∙ k.marked)
