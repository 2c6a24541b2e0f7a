-- What an accepted certificate lists, it lists of code.
use Rattle.std.proofs.Common.{◌≡◌, ℕ, zero, suc, ◌+◌, ◌*◌, ◌<◌, ℤ, Bool, true, false, List, [], ◌∷◌, length, refl, sym, ap, ◌∙◌, subst, arith, All, Option, Some, None}
use Rattle.std.specs.Prelude.{◌==◌, ◌&&◌, if◌then◌else◌, slice_index_or}
use Rattle.std.proofs.lemmas.Bool.Decides.{nat_tests}
use Rattle.std.proofs.lemmas.List.Elements.{All-head, All-nil, All-tail}
use Rattle.frac128.specs.Terms.{Terms}
use Rattle.rv_core.specs.Images.{AreLoadable, Image}
use Rattle.rv_core.specs.Instructions.{Instruction}
use Rattle.rv_core.specs.Table.{Table}
use Rattle.code_flow_system.specs.Certificates.{Accepts, AddressesAscend, FitsMark, IsInForm, KeepsMark, PartsAscend, has_move, is_given}
use Rattle.code_flow_system.specs.Claims.{Claims}
use Rattle.code_flow_system.specs.Moves.{Code, code_of, moves_at, moves_by, moves_on, fetch_before, way_of}
use Rattle.code_flow_system.specs.Systems.{IsSystemOf, System, has_moves, moves_from}
use Rattle.code_flow_system.specs.declared.cert.Cert.{Cert}
use Rattle.code_flow_system.specs.declared.cert.Mark.{Mark}
use Rattle.code_flow_system.specs.declared.cert.Mark.TheVariants.{Greatest, Empty, Neither}
use Rattle.code_flow_system.specs.declared.cert.Part.{Part}
use Rattle.code_flow_system.specs.declared.moves.Move.{Move}
use Rattle.code_flow_system.specs.declared.moves.Way.{Way}
use Rattle.code_flow_system.specs.declared.moves.Way.TheVariants.{Next, Branches, Jumps, Calls, Ends, Strays}
use Rattle.code_flow_system.proofs.ReachLemmas.{fetched_of}
use Rattle.code_flow.proofs.CollectLemmas.{moves_of_has}
use Rattle.code_flow.specs.Sizes.{EndsWithin, HasFew, Words, count}
use Rattle.code_flow.proofs.Ranks.{IsCode, Rises, few, instruction_code, move_rises, rank_below, rank_rises, word_rank}

-- lists of potentials

given : (ts : Terms) (k : ℕ) (d : ℕ × ℤ) → k < length ts → is_given ts (slice_index_or ts k d).0 ≡ true
given [] k d lt = absurd (omega (arith, lt))
given (t ∷ ts) zero d lt = ap (λ b. if b then true else is_given ts t.0) (same t.0)
  where
    same : (a : ℕ) → (a == a) ≡ true
    same a = grind (arith, nat_tests)
given (t ∷ ts) (suc k) d lt = by_test (t.0 == (slice_index_or ts k d).0) (given ts k d (omega (arith, lt)))
  where
    by_test : (b : Bool) → is_given ts (slice_index_or ts k d).0 ≡ true → (if b then true else is_given ts (slice_index_or ts k d).0) ≡ true
    by_test true h = refl
    by_test false h = h

terms_rise : (w : Words) (ts : Terms) → AddressesAscend ts → All (λ (t : ℕ × ℤ). IsCode w t.0) ts → Rises (λ (t : ℕ × ℤ). word_rank w t.0) ts
terms_rise w [] ascend words = tt
terms_rise w (t ∷ ts) ascend words =
    let here = All-head (λ (u : ℕ × ℤ). IsCode w u.0) t ts words in
    let rest = All-tail (λ (u : ℕ × ℤ). IsCode w u.0) t ts words in
    (λ k d lt. rank_rises w t.0 (slice_index_or ts k d).0 here (rest k d lt) (ascend.0 k d lt), terms_rise w ts ascend.1 rest)

-- moves of an address

has_at : (ms : List Move) (a k : ℕ) → has_move ms a k ≡ true → has_moves ms a ≡ true
has_at [] a k h = h
has_at (m ∷ ms) a k h = by_test (m.at == a) (m.number == k) h (has_at ms a k)
  where
    by_test : (b c : Bool) → (if b && c then true else has_move ms a k) ≡ true → (has_move ms a k ≡ true → has_moves ms a ≡ true) → (if b then true else has_moves ms a) ≡ true
    by_test true c h go = refl
    by_test false c h go = go h

own_move : (ms : List Move) (a k : ℕ) → has_move ms a k ≡ true → has_move (moves_from ms a) a k ≡ true
own_move [] a k h = h
own_move (m ∷ ms) a k h = by_test (m.at == a) refl h (own_move ms a k)
  where
    by_number : (n : Bool) → (m.at == a) ≡ true → (if true && n then true else has_move ms a k) ≡ true → (has_move ms a k ≡ true → has_move (moves_from ms a) a k ≡ true) → (if (m.at == a) && n then true else has_move (moves_from ms a) a k) ≡ true
    by_number true e h go = ap (λ b. if b && true then true else has_move (moves_from ms a) a k) e
    by_number false e h go = ap (λ b. if b && false then true else has_move (moves_from ms a) a k) e ∙ go h

    by_test : (b : Bool) → (m.at == a) ≡ b → (if b && (m.number == k) then true else has_move ms a k) ≡ true → (has_move ms a k ≡ true → has_move (moves_from ms a) a k ≡ true) → has_move (if b then m ∷ moves_from ms a else moves_from ms a) a k ≡ true
    by_test true e h go = by_number (m.number == k) e h go
    by_test false e h go = go h

-- an address has a move with this number, or one of two
one_number : (b : Bool) (n k : ℕ) → n < 2 → (if b && (n == k) then true else false) ≡ true → k < 2
one_number true n k low h = grind (arith, nat_tests)
one_number false n k low h = cc

two_numbers : (b : Bool) (k : ℕ) → (if b && (0 == k) then true else (if b && (1 == k) then true else false)) ≡ true → k < 2
two_numbers true k h = grind (arith, nat_tests)
two_numbers false k h = cc

number_on : (w : Way) (a k : ℕ) (i : Instruction) → has_move (moves_on w a i) a k ≡ true → k < 2
number_on Next a k i h = one_number (a == a) 0 k (omega arith) h
number_on (Branches to) a k i h = two_numbers (a == a) k h
number_on (Jumps to) a k i h = one_number (a == a) 0 k (omega arith) h
number_on (Calls to) a k i h = one_number (a == a) 0 k (omega arith) h
number_on Ends a k i h = one_number (a == a) 0 k (omega arith) h
number_on Strays a k i h = cc

number_at : (c : Code) (a k : ℕ) → has_move (moves_at c a) a k ≡ true → k < 2
number_at c a k h = by_fetch (c.fetch a) h
  where
    by_fetch : (o : Option Instruction) → has_move (moves_by c a o) a k ≡ true → k < 2
    by_fetch None h = cc
    by_fetch (Some i) h = number_on (way_of (c.exit a) (fetch_before c a) a i) a k i h

module _ (w : Words) (image : Image) (claims : Claims) (t : Table) (s : System) (c : Cert) (loadable : AreLoadable image.segments) (ends : All (EndsWithin w) image.segments) (is : IsSystemOf image claims s) (form : IsInForm claims c) (accepted : Accepts t s c) where
  abbrev code : Code
  code = code_of image claims

  word_at : (a : ℕ) → has_moves s.moves a ≡ true → IsCode w a
  word_at a h =
      let m = moves_of_has s.moves a h in
      let i = fetched_of code m.0.at (is.code m.0.at (is.reached m.0 m.1)).moves in
      subst (IsCode w) m.2 (instruction_code w image m.0.at i.0 loadable ends i.1)

  -- what the flow lists
  record IsListed (p : Part) : Type 0 where
    word : IsCode w p.at
    number : p.number < 2

  listed : (p : Part) → has_move s.moves p.at p.number ≡ true → IsListed p
  listed p h =
      let has = has_at s.moves p.at p.number h in
      let m = moves_of_has s.moves p.at has in
      let own = subst (λ a. moves_from s.moves a ≡ moves_at code a) m.2 (is.own m.0.at (is.reached m.0 m.1)) in
      record {
        word = word_at p.at has;
        number = number_at code p.at p.number (subst (λ ms. has_move ms p.at p.number ≡ true) own (own_move s.moves p.at p.number h));
      }

  abbrev InSystem : List Part → Type 0
  InSystem ps = All (λ (p : Part). has_move s.moves p.at p.number ≡ true) ps

  in_system : InSystem c.flow.parts
  in_system = by_mark c.mark accepted.mark form.unit
    where
      none : c.flow.parts ≡ [] → InSystem c.flow.parts
      none e = subst InSystem (sym e) (All-nil (λ (p : Part). has_move s.moves p.at p.number ≡ true))

      by_mark : (m : Mark) → KeepsMark m t s c → FitsMark m c.flow.unit c.flow.parts → InSystem c.flow.parts
      by_mark Greatest keeps fits = keeps.in_system
      by_mark Empty keeps fits = none fits.1
      by_mark Neither keeps fits = none fits.1

  parts_rise : (ps : List Part) → PartsAscend ps → All IsListed ps → Rises (λ (p : Part). 2 * word_rank w p.at + p.number) ps
  parts_rise [] ascend all = tt
  parts_rise (p ∷ ps) ascend all =
      let here = All-head IsListed p ps all in
      let rest = All-tail IsListed p ps all in
      (λ k d lt. let q = slice_index_or ps k d in move_rises w p.at q.at p.number q.number here.word (rest k d lt).word here.number (ascend.0 k d lt), parts_rise ps ascend.1 rest)

  pub has_few : HasFew (count w) c
  has_few =
      let words : All (λ (u : ℕ × ℤ). IsCode w u.0) c.potentials = λ k d lt. let a = (slice_index_or c.potentials k d).0 in word_at a (accepted.present a ∙ given c.potentials k d lt) in
      let all : All IsListed c.flow.parts = λ k d lt. listed (slice_index_or c.flow.parts k d) (in_system k d lt) in
      record {
        potentials = few (λ (u : ℕ × ℤ). word_rank w u.0) (count w) c.potentials (λ k d lt. rank_below w (slice_index_or c.potentials k d).0 (words k d lt)) (terms_rise w c.potentials form.ascending words);
        parts = few (λ (p : Part). 2 * word_rank w p.at + p.number) (2 * count w) c.flow.parts (λ k d lt. below (slice_index_or c.flow.parts k d) (all k d lt)) (parts_rise c.flow.parts form.parts_ascend all);
      }
    where
      below : (p : Part) → IsListed p → 2 * word_rank w p.at + p.number < 2 * count w
      below p h = let low = rank_below w p.at h.word in let two = h.number in omega (arith, low, two)
