-- Where the marks of what is made stand, and that the claims on never marks are sound.
use Rattle.std.proofs.Common.{◌≡◌, ⊎_elim, ℕ, ◌+◌, ◌%◌, ◌<◌, ◌≤◌, Bool, true, false, List, [], ◌∷◌, ◌++◌, map, Option, Some, None, refl, sym, ap, ◌∙◌, subst, All, arith}
use Rattle.std.specs.Prelude.{◌&&◌, get_or, not, IsPermutation}
use Rattle.std.specs.List.{flat_map}
use Rattle.std.specs.List.Sorted.{IsNonDecreasing, IsNonDecreasingBy}
use Rattle.std.proofs.lemmas.Bool.{cases_lt, eq-eqb, lt-ltb}
use Rattle.std.proofs.lemmas.List.{get_or-map, get_or_past, length-map, map-append}
use Rattle.std.proofs.lemmas.List.Concat.{flat_map-cons}
use Rattle.std.proofs.lemmas.List.Elements.{All-append, All-cons, All-head, All-nil, All-tail}
use Rattle.std.proofs.lemmas.List.FromFn.{get_or-map-range_with_len, length-map-range_with_len}
use Rattle.std.proofs.lemmas.List.Sorted.{All-permutation, IsPermutation-map}
use Rattle.code_flow_system.specs.Claims.{Claims, is_above, is_aligned, never_flaws}
use Rattle.code_flow_system.specs.declared.claims.Never.{Never}
use Rattle.facts_definitions.specs.declared.facts.Facts.{Facts}
use Rattle.types_tree.specs.Tree.{Program}
use Rattle.high_ir.specs.declared.copies.NeverMark.{NeverMark}
use Rattle.high_pass.specs.Listing.{Listing, MarkEntry}
use Rattle.claims_definition.specs.ClaimLaws.{IsPlaceOf}
use Rattle.claims_definition.specs.Listed.{Laid, places_of, places_below}
use Rattle.claims_image.specs.Images.{laid_of}
use Rattle.low_ir.specs.Placings.{placed_of}
use Rattle.report_text.specs.Forms.{Ascend}
use Rattle.compile_claims.specs.Named.{never_at, nevers_at}
use Rattle.compile_claims.specs.Places.{places_at}
use Rattle.compile_stages.specs.Made.{IsMade, copies_of, high_of}
use Rattle.compile_stages.specs.declared.made.Made.{Made}
use Rattle.compile_source_claims.specs.Handed.{AreHandedOn}
use Rattle.compile_source_claims.proofs.Places.{copies_once, nevers_once, rise_aligned, rise_ascends, strictly, times, times-permuted, together_once}

abbrev mark_of : NeverMark → ℕ
mark_of v = v.mark

abbrev at_of : Never → ℕ
at_of n = n.at

-- the addresses of claims on marks are those of the marks

own_addresses : (v : NeverMark) (xs : List ℕ) → map at_of (map (never_at v) xs) ≡ xs
own_addresses v [] = refl
own_addresses v (x ∷ xs) = ap (λ l. x ∷ l) (own_addresses v xs)

all_addresses : (places : List (List ℕ)) (vs : List NeverMark) → map at_of (flat_map (nevers_at places) vs) ≡ flat_map (places_at places) (map mark_of vs)
all_addresses places [] = refl
all_addresses places (v ∷ vs) =
    ap (map at_of) (flat_map-cons (nevers_at places) v vs)
    ∙ map-append at_of (nevers_at places v) (flat_map (nevers_at places) vs)
    ∙ ap (λ l. l ++ map at_of (flat_map (nevers_at places) vs)) (own_addresses v (places_at places v.mark))
    ∙ ap (λ l. places_at places v.mark ++ l) (all_addresses places vs)
    ∙ sym (flat_map-cons (places_at places) v.mark (map mark_of vs))

pub each_of : (P : ℕ → Type 0) (places : List (List ℕ)) → ((mark : ℕ) → All P (places_at places mark)) → (marks : List ℕ) → All P (flat_map (places_at places) marks)
each_of P places each [] = All-nil P
each_of P places each (m ∷ ms) = subst (All P) (sym (flat_map-cons (places_at places) m ms)) (All-append P (places_at places m) (flat_map (places_at places) ms) (each m) (each_of P places each ms))

-- aligned addresses that ascend are no flaws

abbrev Fine : Bool → Type 0
Fine flaw = flaw ≡ false

abbrev Over : Option ℕ → List ℕ → Type 0
Over None xs = Unit {0}
Over (Some b) xs = All (λ x. b < x) xs

above : (before : Option ℕ) (a : ℕ) (xs : List ℕ) → Over before (a ∷ xs) → is_above before a ≡ true
above None a xs h = refl
above (Some b) a xs h = lt-ltb b a (All-head (λ x. b < x) a xs h)

fine : (a : ℕ) (before : Option ℕ) → a % 4 ≡ 0 → is_above before a ≡ true → not (is_aligned a && is_above before a) ≡ false
fine a before aligned over = ap (λ b. not (b && is_above before a)) (eq-eqb (a % 4) 0 aligned) ∙ ap not over

never_fine : (before : Option ℕ) (ns : List Never) → All (λ a. a % 4 ≡ 0) (map at_of ns) → Ascend (map at_of ns) → Over before (map at_of ns) → All Fine (never_flaws before ns)
never_fine before [] aligned up over = All-nil Fine
never_fine before (n ∷ ns) aligned up over =
    All-cons Fine (not (is_aligned n.at && is_above before n.at)) (never_flaws (Some n.at) ns)
    (fine n.at before (All-head (λ a. a % 4 ≡ 0) n.at (map at_of ns) aligned) (above before n.at (map at_of ns) over))
    (never_fine (Some n.at) ns (All-tail (λ a. a % 4 ≡ 0) n.at (map at_of ns) aligned) up.1 up.0)

in_order : (ns : List Never) → IsNonDecreasingBy at_of ns → IsNonDecreasing (map at_of ns)
in_order ns up i j d le lt =
    let many = length-map ns at_of in
    let e : Never = record { source = 0; factor = 0; at = d } in
    let left = get_or-map at_of ns i e d (omega (arith, many, le, lt)) in
    let right = get_or-map at_of ns j e d (omega (arith, many, lt)) in
    let step = up i j e le (omega (arith, many, lt)) in
    omega (arith, left, right, step)

module _ (names : List (List ℕ)) (program : Program) (facts : Facts) (m : Made) (made : IsMade names program facts m) where
  abbrev l : Laid
  l = laid_of m.placement (placed_of m.code)

  abbrev places : List (List ℕ)
  places = m.laid.lists.places.items

  -- how many marks the program has
  abbrev n : ℕ
  n = m.code.low.marks

  -- what holds of the addresses of a mark in the image, and of none, holds of those that are listed
  pub each_list : (P : ℕ → List ℕ → Type 0) → ((mark : ℕ) → P mark (places_of l mark)) → ((mark : ℕ) → P mark []) → (mark : ℕ) → P mark (places_at places mark)
  each_list P some none mark =
      subst (λ lists. P mark (places_at lists mark)) (sym made.in_memory.laid.lists.places)
      (⊎_elim
      (λ (low : mark < n). subst (P mark) (sym (get_or-map-range_with_len (places_of l) 0 n mark mark [] low (plain mark))) (some mark))
      (λ (past : n ≤ mark).
      subst (P mark) (sym (get_or_past (places_below l n) mark [] (subst (λ k. k ≤ mark) (sym (length-map-range_with_len (places_of l) 0 n)) past))) (none mark))
      (cases_lt mark n))
    where
      plain : (k : ℕ) → 0 + k ≡ k
      plain k = omega arith

  -- the addresses of each mark ascend
  pub rising : (mark : ℕ) → Ascend (places_at places mark)
  rising = each_list (λ mark. Ascend) (λ mark. rise_ascends 0 (places_of l mark) (made.in_memory.keeps_low.marks mark).rise) (λ mark. tt)

  -- and are those of instructions
  pub aligned : (mark : ℕ) → All (λ a. a % 4 ≡ 0) (places_at places mark)
  aligned = each_list (λ mark. All (λ a. a % 4 ≡ 0)) (λ mark. rise_aligned 0 (places_of l mark) (made.in_memory.keeps_low.marks mark).rise) (λ mark. All-nil (λ a. a % 4 ≡ 0))

  -- and are places of it
  pub own_places : (mark : ℕ) → All (IsPlaceOf l mark) (places_at places mark)
  own_places = each_list (λ mark. All (IsPlaceOf l mark)) (λ mark. (made.in_memory.keeps_low.marks mark).each) (λ mark. All-nil (IsPlaceOf l mark))

  abbrev listing : Listing
  listing = copies_of m

  -- no address belongs to two copies of a mark
  pub copies_apart : All (λ (e : MarkEntry). (a : ℕ) → times a (flat_map (places_at places) e.new) ≤ 1) listing.marks
  copies_apart i d lt a =
      let e = get_or listing.marks i d in
      together_once (IsPlaceOf l) made.in_memory.keeps_low.apart (places_at places) own_places rising a e.new (copies_once listing (high_of m).marks made.carried.carries.lists.marks i d lt)

  abbrev marks : List ℕ
  marks = map mark_of listing.nevers

  -- no address belongs to two never marks
  once : (a : ℕ) → times a (flat_map (places_at places) marks) ≤ 1
  once a = together_once (IsPlaceOf l) made.in_memory.keeps_low.apart (places_at places) own_places rising a marks (nevers_once listing (high_of m).marks made.carried.carries.lists.marks)

  -- the claims on never marks are sound
  pub nevers_fine : (claims : Claims) → AreHandedOn m claims → All Fine (never_flaws None claims.nevers)
  nevers_fine claims handed =
      let ns = claims.nevers in
      let h = handed.nevers in
      let from : IsPermutation (flat_map (places_at places) marks) (map at_of ns) = subst (λ xs. IsPermutation xs (map at_of ns)) (all_addresses places listing.nevers) (IsPermutation-map at_of (flat_map (nevers_at places) listing.nevers) ns h.all) in
      let few : (a : ℕ) → times a (map at_of ns) ≤ 1 = λ a. let one = once a in let same = times-permuted a (flat_map (places_at places) marks) (map at_of ns) from in omega (arith, one, same) in
      never_fine None ns
      (All-permutation (λ a. a % 4 ≡ 0) (flat_map (places_at places) marks) (map at_of ns) from (each_of (λ a. a % 4 ≡ 0) places aligned marks))
      (strictly (map at_of ns) few (in_order ns h.ascending))
      tt
