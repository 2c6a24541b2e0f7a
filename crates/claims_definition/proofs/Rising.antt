-- Lines of accesses that ascend.
use Rattle.std.proofs.Common.{◌≡◌, ℕ, zero, suc, ◌+◌, ◌<◌, ◌≤◌, Bool, true, false, List, [], ◌∷◌, length, Some, None, refl, sym, ap, ◌∙◌, subst, arith}
use Rattle.std.specs.Prelude.{◌%◌, ◌&&◌, ◌||◌, not, All, if◌then◌else◌, nat_lt, slice_get}
use Rattle.std.proofs.lemmas.Bool.Decides.{nat_tests}
use Rattle.std.proofs.lemmas.List.Elements.{All-cons, All-nil}
use Rattle.std.proofs.lemmas.Option.{same_Some}
use Rattle.code_flow_system.specs.declared.claims.Within.{Within}
use Rattle.code_flow_system.specs.Claims.{is_aligned, is_filled, is_past, region_flaws}
use Rattle.claims_definition.specs.Lines.{Access, Letters, before, from, goes_on, line_of, lines, same}
use Rattle.claims_definition.specs.AccessLaws.{AreLines, Ascend, HasLine}

-- both sides of a test hold
both : (a b : Bool) → (a && b) ≡ true → (a ≡ true) × (b ≡ true)
both true b e = (refl, e)
both false b e = cc

join : (a b : Bool) → a ≡ true → b ≡ true → (a && b) ≡ true
join true b e k = k
join false b e k = cc

same_is : (a b : Bool) → same a b ≡ true → b ≡ a
same_is true b e = e
same_is false true e = cc
same_is false false e = refl

-- lines from an address on
abbrev Rise : ℕ → List Within → Type 0
Rise a [] = Unit {0}
Rise a (w ∷ ws) = (a ≤ w.first) × ((is_filled w ≡ true) × Rise w.end ws)

-- the parts of a line that isn't bad
record Filled (w : Within) : Type 0 where
  first : is_aligned w.first ≡ true
  end : is_aligned w.end ≡ true
  some : w.first < w.end
  letters : (w.flash || (w.spm || w.ram)) ≡ true

filled_parts : (w : Within) → is_filled w ≡ true → Filled w
filled_parts w h =
    let a = both (is_aligned w.first) (is_aligned w.end && (nat_lt w.first w.end && (w.flash || (w.spm || w.ram)))) h in
    let b = both (is_aligned w.end) (nat_lt w.first w.end && (w.flash || (w.spm || w.ram))) a.1 in
    let c = both (nat_lt w.first w.end) (w.flash || (w.spm || w.ram)) b.1 in
    let t = c.0 in
    record { first = a.0; end = b.0; some = grind (arith, nat_tests, t); letters = c.1 }

parts_filled : (w : Within) → Filled w → is_filled w ≡ true
parts_filled w h =
    let some = h.some in
    let t : nat_lt w.first w.end ≡ true = grind (arith, nat_tests, some) in
    join (is_aligned w.first) (is_aligned w.end && (nat_lt w.first w.end && (w.flash || (w.spm || w.ram)))) h.first
    (join (is_aligned w.end) (nat_lt w.first w.end && (w.flash || (w.spm || w.ram))) h.end (join (nat_lt w.first w.end) (w.flash || (w.spm || w.ram)) t h.letters))

aligned : (a : ℕ) → a % 4 ≡ 0 → is_aligned a ≡ true
aligned a e = grind (arith, nat_tests, e)

aligned_next : (a : ℕ) → a % 4 ≡ 0 → is_aligned (a + 4) ≡ true
aligned_next a e = aligned (a + 4) (omega (arith, e))

line_filled : (x : Access) → x.at % 4 ≡ 0 → (x.letters.flash || (x.letters.spm || x.letters.ram)) ≡ true → is_filled (line_of x) ≡ true
line_filled x e h = parts_filled (line_of x) (record { first = aligned x.at e; end = aligned_next x.at e; some = omega arith; letters = h })

from_filled : (a : ℕ) (w : Within) → a % 4 ≡ 0 → a + 4 ≤ w.first → is_filled w ≡ true → is_filled (from a w) ≡ true
from_filled a w e low h =
    let k = filled_parts w h in
    let some = k.some in
    parts_filled (from a w) (record { first = aligned a e; end = k.end; some = omega (arith, low, some); letters = k.letters })

before_rises : (a : ℕ) (x : Access) (ws : List Within) → a ≤ x.at → x.at % 4 ≡ 0 → (x.letters.flash || (x.letters.spm || x.letters.ram)) ≡ true → Rise (x.at + 4) ws → Rise a (before x ws)
before_rises a x [] low e h r = (low, (line_filled x e h, tt))
before_rises a x (w ∷ ws) low e h r = by_test (goes_on x.letters w)
  where
    by_test : (b : Bool) → Rise a (if b then from x.at w ∷ ws else line_of x ∷ (w ∷ ws))
    by_test true = (low, (from_filled x.at w e r.0 r.1.0, r.1.1))
    by_test false = (low, (line_filled x e h, r))

lines_rise : (a : ℕ) (xs : List Access) → Ascend a xs → Rise a (lines xs)
lines_rise a [] h = tt
lines_rise a (x ∷ xs) h = before_rises a x (lines xs) h.0 h.1.0 h.1.1.0 (lines_rise (x.at + 4) xs h.1.1.1)

-- none of them is bad
abbrev Holds : Bool → Type 0
Holds flaw = flaw ≡ false

no_flaw : (a b : Bool) → a ≡ true → b ≡ true → not (a && b) ≡ false
no_flaw a b h k = ap not (join a b h k)

rest_sound : (a : ℕ) (ws : List Within) → Rise a ws → All Holds (region_flaws (Some a) ws)
rest_sound a [] h = All-nil Holds
rest_sound a (w ∷ ws) h =
    let low = h.0 in
    let past : is_past (Some a) w.first ≡ true = grind (arith, nat_tests, low) in
    All-cons Holds (not (is_filled w && is_past (Some a) w.first)) (region_flaws (Some w.end) ws) (no_flaw (is_filled w) (is_past (Some a) w.first) h.1.0 past) (rest_sound w.end ws h.1.1)

lines_sound : (a : ℕ) (ws : List Within) → Rise a ws → All Holds (region_flaws None ws)
lines_sound a [] h = All-nil Holds
lines_sound a (w ∷ ws) h = All-cons Holds (not (is_filled w && is_past None w.first)) (region_flaws (Some w.end) ws) (no_flaw (is_filled w) true h.1.0 refl) (rest_sound w.end ws h.1.1)

-- each access has its line
record GoesOn (l : Letters) (w : Within) : Type 0 where
  flash : w.flash ≡ l.flash
  spm : w.spm ≡ l.spm
  ram : w.ram ≡ l.ram

goes_parts : (l : Letters) (w : Within) → goes_on l w ≡ true → GoesOn l w
goes_parts l w h =
    let a = both (same l.flash w.flash) (same l.spm w.spm && same l.ram w.ram) h in
    let b = both (same l.spm w.spm) (same l.ram w.ram) a.1 in
    record { flash = same_is l.flash w.flash a.0; spm = same_is l.spm w.spm b.0; ram = same_is l.ram w.ram b.1 }

before_has : (x : Access) (ws : List Within) → Rise (x.at + 4) ws → HasLine (before x ws) x
before_has x [] r = record { number = 0; line = line_of x; there = refl; first = omega arith; end = omega arith; flash = refl; spm = refl; ram = refl }
before_has x (w ∷ ws) r = by_test (goes_on x.letters w) refl
  where
    by_test : (b : Bool) → goes_on x.letters w ≡ b → HasLine (if b then from x.at w ∷ ws else line_of x ∷ (w ∷ ws)) x
    by_test false t = record { number = 0; line = line_of x; there = refl; first = omega arith; end = omega arith; flash = refl; spm = refl; ram = refl }
    by_test true t =
        let g = goes_parts x.letters w t in
        let k = filled_parts w r.1.0 in
        let low = r.0 in
        let some = k.some in
        record { number = 0; line = from x.at w; there = refl; first = omega arith; end = omega (arith, low, some); flash = g.flash; spm = g.spm; ram = g.ram }

-- a line that is there has a line that goes as far behind another access
later_has : (y x : Access) (ws : List Within) → Rise (y.at + 4) ws → HasLine ws x → HasLine (before y ws) x
later_has y x [] r h = no_line h.number h.there
  where
    no_line : (n : ℕ) → slice_get [] n ≡ Some h.line → HasLine (before y []) x
    no_line n e = cc
later_has y x (w ∷ ws) r h = by_test (goes_on y.letters w)
  where
    in_first : (n : ℕ) → slice_get (w ∷ ws) n ≡ Some h.line → HasLine (from y.at w ∷ ws) x
    in_first zero e =
        let is : w ≡ h.line = same_Some w h.line e in
        let low = r.0 in
        let first : w.first ≤ x.at = subst (λ (l : Within). l.first ≤ x.at) (sym is) h.first in
        record {
          number = 0;
          line = from y.at w;
          there = refl;
          first = omega (arith, low, first);
          end = subst (λ (l : Within). x.at < l.end) (sym is) h.end;
          flash = ap (λ (l : Within). l.flash) is ∙ h.flash;
          spm = ap (λ (l : Within). l.spm) is ∙ h.spm;
          ram = ap (λ (l : Within). l.ram) is ∙ h.ram;
        }
    in_first (suc n) e = record { number = suc n; line = h.line; there = e; first = h.first; end = h.end; flash = h.flash; spm = h.spm; ram = h.ram }

    by_test : (b : Bool) → HasLine (if b then from y.at w ∷ ws else line_of y ∷ (w ∷ ws)) x
    by_test true = in_first h.number h.there
    by_test false = record { number = suc h.number; line = h.line; there = h.there; first = h.first; end = h.end; flash = h.flash; spm = h.spm; ram = h.ram }

each_has : (a : ℕ) (xs : List Access) → Ascend a xs → (n : ℕ) (x : Access) → slice_get xs n ≡ Some x → HasLine (lines xs) x
each_has a [] h n x e = cc
each_has a (y ∷ xs) h zero x e = subst (HasLine (before y (lines xs))) (same_Some y x e) (before_has y (lines xs) (lines_rise (y.at + 4) xs h.1.1.1))
each_has a (y ∷ xs) h (suc n) x e = later_has y x (lines xs) (lines_rise (y.at + 4) xs h.1.1.1) (each_has (y.at + 4) xs h.1.1.1 n x e)

before_few : (x : Access) (ws : List Within) → length (before x ws) ≤ suc (length ws)
before_few x [] = omega arith
before_few x (w ∷ ws) = by_test (goes_on x.letters w)
  where
    by_test : (b : Bool) → length (if b then from x.at w ∷ ws else line_of x ∷ (w ∷ ws)) ≤ suc (suc (length ws))
    by_test true = omega arith
    by_test false = omega arith

lines_few : (xs : List Access) → length (lines xs) ≤ length xs
lines_few [] = omega arith
lines_few (x ∷ xs) = let a = lines_few xs in let b = before_few x (lines xs) in omega (arith, a, b)

pub lines_hold : (a : ℕ) (xs : List Access) → Ascend a xs → AreLines xs (lines xs)
lines_hold a xs h = record { sound = lines_sound a (lines xs) (lines_rise a xs h); each = each_has a xs h; few = lines_few xs }
