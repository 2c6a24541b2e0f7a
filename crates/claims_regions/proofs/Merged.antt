-- Lines that are made from the first access on are those that are made from the last.
use Rattle.std.proofs.Common.{◌≡◌, ℕ, Bool, true, false, List, [], ◌∷◌, ◌++◌, map, refl, sym, ap, ◌∙◌}
use Rattle.std.specs.Prelude.{◌&&◌, if◌then◌else◌}
use Rattle.code_flow_system.specs.declared.claims.Within.{Within}
use Rattle.claims_definition.specs.Lines.{Access, before, line_of, lines, same}
use Rattle.claims_regions.specs.Merging.{alike, longer, merged, merged_behind}

same_is : (a b : Bool) → same a b ≡ true → a ≡ b
same_is true b e = sym e
same_is false true e = cc
same_is false false e = refl

-- these regions
abbrev line : ℕ → ℕ → Bool → Bool → Bool → Within
line a b f s r = record { first = a; end = b; flash = f; spm = s; ram = r }

-- a line before others, with which the first may go on
abbrev taken : Within → Within → Within
taken w v = record { first = w.first; end = v.end; flash = v.flash; spm = v.spm; ram = v.ram }

abbrev onto_by : Bool → Within → Within → List Within → List Within
onto_by true w v vs = taken w v ∷ vs
onto_by false w v vs = w ∷ v ∷ vs

abbrev onto : Within → List Within → List Within
onto w [] = w ∷ []
onto w (v ∷ vs) = onto_by (alike w v) w v vs

both : (a b : Bool) → (a && b) ≡ true → (a ≡ true) × (b ≡ true)
both true b e = (refl, e)
both false b e = cc

-- where lines are alike, the one's regions are the other's
module _ (w n : Within) (e : alike w n ≡ true) where
  flash_is : w.flash ≡ n.flash
  flash_is = same_is w.flash n.flash (both (same w.flash n.flash) (same w.spm n.spm && same w.ram n.ram) e).0

  rest_is : (w.spm ≡ n.spm) × (w.ram ≡ n.ram)
  rest_is =
      let r = both (same w.spm n.spm) (same w.ram n.ram) (both (same w.flash n.flash) (same w.spm n.spm && same w.ram n.ram) e).1 in
      (same_is w.spm n.spm r.0, same_is w.ram n.ram r.1)

  longer_taken : longer w n ≡ taken w n
  longer_taken =
      ap (λ f. line w.first n.end f w.spm w.ram) flash_is
      ∙ ap (λ s. line w.first n.end n.flash s w.ram) rest_is.0
      ∙ ap (λ r. line w.first n.end n.flash n.spm r) rest_is.1

  alike_same : (v : Within) → alike w v ≡ alike n v
  alike_same v =
      ap (λ f. same f v.flash && (same w.spm v.spm && same w.ram v.ram)) flash_is
      ∙ ap (λ s. same n.flash v.flash && (same s v.spm && same w.ram v.ram)) rest_is.0
      ∙ ap (λ r. same n.flash v.flash && (same n.spm v.spm && same r v.ram)) rest_is.1

same_sym : (a b : Bool) → same a b ≡ same b a
same_sym true true = refl
same_sym true false = refl
same_sym false true = refl
same_sym false false = refl

alike_sym : (w n : Within) → alike w n ≡ alike n w
alike_sym w n =
    ap (λ f. f && (same w.spm n.spm && same w.ram n.ram)) (same_sym w.flash n.flash)
    ∙ ap (λ s. same n.flash w.flash && (s && same w.ram n.ram)) (same_sym w.spm n.spm)
    ∙ ap (λ r. same n.flash w.flash && (same n.spm w.spm && r)) (same_sym w.ram n.ram)

-- where the second goes on with the rest, so does the first
apart : (w n : Within) (ls : List Within) → alike w n ≡ false → onto w (onto n ls) ≡ w ∷ onto n ls
apart w n [] e = ap (λ t. onto_by t w n []) e
apart w n (v ∷ vs) e = by_test (alike n v) refl
  where
    by_test : (t : Bool) → alike n v ≡ t → onto w (onto_by t n v vs) ≡ w ∷ onto_by t n v vs
    by_test true h =
        let back : alike w v ≡ false = alike_sym w v ∙ sym (alike_same n v h w) ∙ alike_sym n w ∙ e in
        ap (λ t. onto_by t w (taken n v) vs) back
    by_test false h = ap (λ t. onto_by t w n (v ∷ vs)) e

joins : (w n : Within) (ls : List Within) → alike w n ≡ true → onto w (onto n ls) ≡ onto (longer w n) ls
joins w n [] e = ap (λ t. onto_by t w n []) e ∙ ap (λ l. l ∷ []) (sym (longer_taken w n e))
joins w n (v ∷ vs) e = by_test (alike n v) refl ∙ ap (λ t. onto_by t (longer w n) v vs) (sym (alike_same w n e v))
  where
    by_test : (t : Bool) → alike n v ≡ t → onto w (onto_by t n v vs) ≡ onto_by (alike n v) (longer w n) v vs
    by_test true h =
        ap (λ t. onto_by t w (taken n v) vs) (alike_same w n e v ∙ h)
        ∙ ap (λ t. onto_by t (longer w n) v vs) (sym h)
    by_test false h =
        ap (λ t. onto_by t w n (v ∷ vs)) e
        ∙ ap (λ l. l ∷ (v ∷ vs)) (sym (longer_taken w n e))
        ∙ ap (λ t. onto_by t (longer w n) v vs) (sym h)

before_is : (x : Access) (ls : List Within) → before x ls ≡ onto (line_of x) ls
before_is x [] = refl
before_is x (v ∷ vs) = by_test (alike (line_of x) v)
  where
    by_test : (t : Bool) → (if t then taken (line_of x) v ∷ vs else line_of x ∷ (v ∷ vs)) ≡ onto_by t (line_of x) v vs
    by_test true = refl
    by_test false = refl

behind_is : (w : Within) (xs : List Access) → merged_behind w (map line_of xs) ≡ onto w (lines xs)
behind_is w [] = refl
behind_is w (x ∷ xs) = by_test (alike w (line_of x)) refl (λ v. behind_is v xs) ∙ ap (onto w) (sym (before_is x (lines xs)))
  where
    by_test : (t : Bool) → alike w (line_of x) ≡ t → ((v : Within) → merged_behind v (map line_of xs) ≡ onto v (lines xs)) → merged_behind w (line_of x ∷ map line_of xs) ≡ onto w (onto (line_of x) (lines xs))
    by_test true e go =
        ap (λ t. (if t then [] else w ∷ []) ++ merged_behind (if t then longer w (line_of x) else line_of x) (map line_of xs)) e
        ∙ go (longer w (line_of x))
        ∙ sym (joins w (line_of x) (lines xs) e)
    by_test false e go =
        ap (λ t. (if t then [] else w ∷ []) ++ merged_behind (if t then longer w (line_of x) else line_of x) (map line_of xs)) e
        ∙ ap (λ l. w ∷ l) (go (line_of x))
        ∙ sym (apart w (line_of x) (lines xs) e)

pub merged_lines : (xs : List Access) → merged (map line_of xs) ≡ lines xs
merged_lines [] = refl
merged_lines (x ∷ xs) = behind_is (line_of x) xs ∙ sym (before_is x (lines xs))
