-- The parts of a flow, added: no more than the amounts of all moves; and at the addresses of a list that rises, no more than all.
use Rattle.std.proofs.Common.{◌≡◌, ℕ, ◌+◌, ◌<◌, ◌≤◌, ℤ, pos, ◌<ℤ◌, Bool, true, false, List, [], ◌∷◌, refl, ap, ◌∙◌, arith, All}
use Rattle.std.specs.Prelude.{◌==◌, ◌&&◌, if◌then◌else◌, unsigned_abs}
use lib.IntN.{negsuc}
use Rattle.std.proofs.lemmas.Bool.{and_parts}
use Rattle.std.proofs.lemmas.Bool.Decides.{nat_tests}
use Rattle.std.proofs.lemmas.Int.{ints}
use Rattle.std.proofs.lemmas.List.Elements.{All-head, All-tail}
use Rattle.code_flow_lookup.specs.Runs.{those_at}
use Rattle.code_flow_system.specs.declared.cert.Part.{Part}
use Rattle.code_flow_system.specs.declared.moves.Move.{Move}
use Rattle.code_flow_system.specs.Certificates.{IsPart, has_move, listed, whole}
use Rattle.code_flow_system.specs.Counts.{Amounts, total}
use Rattle.claims_definition.specs.ClaimLaws.{Rise}
use Rattle.spm_placement.specs.Gains.{all_parts, all_visits, visits}

-- how often all moves are made
abbrev pub made : Amounts → List Move → ℕ
made x [] = 0
made x (m ∷ ms) = x m.at m.number + made x ms

pub made_total : (x : Amounts) (ms : List Move) → total (λ m. pos 1) x ms ≡ pos (made x ms)
made_total x [] = refl
made_total x (m ∷ ms) = let rest = made_total x ms in omega (arith, ints, rest)

-- one part alone
abbrev of_part : Part → Amounts
of_part p a k = if (p.at == a) && (p.number == k) then whole p.part else 0

made_more : (p : Part) (ps : List Part) (ms : List Move) → made (listed (p ∷ ps)) ms ≡ made (of_part p) ms + made (listed ps) ms
made_more p ps [] = refl
made_more p ps (m ∷ ms) = let rest = made_more p ps ms in omega (arith, rest)

turned : (m n : ℕ) → (m == n) ≡ true → (n == m) ≡ true
turned m n h = grind (arith, nat_tests)

made_once : (p : Part) (ms : List Move) → has_move ms p.at p.number ≡ true → whole p.part ≤ made (of_part p) ms
made_once p [] h = cc
made_once p (m ∷ ms) h = by_test ((m.at == p.at) && (m.number == p.number)) refl h (λ k. made_once p ms k)
  where
    by_test : (b : Bool) → ((m.at == p.at) && (m.number == p.number)) ≡ b → (if b then true else has_move ms p.at p.number) ≡ true → (has_move ms p.at p.number ≡ true → whole p.part ≤ made (of_part p) ms)
        → whole p.part ≤ of_part p m.at m.number + made (of_part p) ms
    by_test true e k behind =
        let both = and_parts (m.at == p.at) (m.number == p.number) e in
        let here : of_part p m.at m.number ≡ whole p.part =
        ap (λ b. if b && (p.number == m.number) then whole p.part else 0) (turned m.at p.at both.0)
        ∙ ap (λ b. if true && b then whole p.part else 0) (turned m.number p.number both.1) in
        omega (arith, here)
    by_test false e k behind = let rest = behind k in omega (arith, rest)

whole_abs : (z : ℤ) → pos 0 <ℤ z → unsigned_abs z ≡ whole z
whole_abs (pos n) lt = refl
whole_abs (negsuc n) lt = absurd (omega (arith, ints, lt))

pub parts_made : (ps : List Part) (ms : List Move) → All (λ p. has_move ms p.at p.number ≡ true) ps → All IsPart ps → all_parts ps ≤ made (listed ps) ms
parts_made [] ms there are = omega arith
parts_made (p ∷ ps) ms there are =
    let one = made_once p ms (All-head (λ q. has_move ms q.at q.number ≡ true) p ps there) in
    let same = whole_abs p.part (All-head IsPart p ps are).positive in
    let rest = parts_made ps ms (All-tail (λ q. has_move ms q.at q.number ≡ true) p ps there) (All-tail IsPart p ps are) in
    let more = made_more p ps ms in
    omega (arith, one, same, rest, more)

-- how often one part is seen at the addresses of a list
abbrev seen : Part → List ℕ → ℕ
seen p [] = 0
seen p (a ∷ at) = (if p.at == a then unsigned_abs p.part else 0) + seen p at

one_visit : (p : Part) (ps : List Part) (a : ℕ) → visits (p ∷ ps) a ≡ (if p.at == a then unsigned_abs p.part else 0) + visits ps a
one_visit p ps a = by_test (p.at == a)
  where
    by_test : (b : Bool) → all_parts (if b then p ∷ those_at (λ (q : Part). q.at) a ps else those_at (λ (q : Part). q.at) a ps) ≡ (if b then unsigned_abs p.part else 0) + all_parts (those_at (λ (q : Part). q.at) a ps)
    by_test true = refl
    by_test false = omega arith

more_visits : (p : Part) (ps : List Part) (at : List ℕ) → all_visits (p ∷ ps) at ≡ seen p at + all_visits ps at
more_visits p ps [] = refl
more_visits p ps (a ∷ at) =
    let one = one_visit p ps a in
    let rest = more_visits p ps at in
    omega (arith, one, rest)

never_seen : (p : Part) (b : ℕ) (at : List ℕ) → Rise b at → p.at < b → seen p at ≡ 0
never_seen p b [] rise lt = refl
never_seen p b (a ∷ at) rise lt =
    let not_here : (p.at == a) ≡ false = apart p.at a (let from = rise.0 in omega (arith, from, lt)) in
    let rest = never_seen p (a + 4) at rise.1.1 (let from = rise.0 in omega (arith, from, lt)) in
    let none : (if p.at == a then unsigned_abs p.part else 0) ≡ 0 = ap (λ c. if c then unsigned_abs p.part else 0) not_here in
    omega (arith, none, rest)
  where
    apart : (m n : ℕ) → m < n → (m == n) ≡ false
    apart m n h = grind (arith, nat_tests)

seen_once : (p : Part) (b : ℕ) (at : List ℕ) → Rise b at → seen p at ≤ unsigned_abs p.part
seen_once p b [] rise = omega arith
seen_once p b (a ∷ at) rise = by_test (p.at == a) refl (seen_once p (a + 4) at rise.1.1)
  where
    same : (p.at == a) ≡ true → p.at < a + 4
    same e = grind (arith, nat_tests)

    by_test : (c : Bool) → (p.at == a) ≡ c → seen p at ≤ unsigned_abs p.part → (if c then unsigned_abs p.part else 0) + seen p at ≤ unsigned_abs p.part
    by_test true e rest = let none = never_seen p (a + 4) at rise.1.1 (same e) in omega (arith, none)
    by_test false e rest = omega (arith, rest)

none_seen : (at : List ℕ) → all_visits [] at ≡ 0
none_seen [] = refl
none_seen (a ∷ at) = let rest = none_seen at in omega (arith, rest)

pub visits_within : (ps : List Part) (b : ℕ) (at : List ℕ) → Rise b at → all_visits ps at ≤ all_parts ps
visits_within [] b at rise = let none = none_seen at in omega (arith, none)
visits_within (p ∷ ps) b at rise =
    let more = more_visits p ps at in
    let one = seen_once p b at rise in
    let rest = visits_within ps b at rise in
    omega (arith, more, one, rest)
