-- Turn walks: each step that was walked over pays the way behind it, and the way from the jump back stays.
use Rattle.std.proofs.Common.{◌≡◌, ◌≢◌, ℕ, ◌-◌, ◌≤◌, ◌<◌, ℤ, pos, arith, refl, sym, ap, ◌∙◌, subst, List, [], ◌∷◌, length, Option, Some, None, inl, inr, get_or-set_other}
use Rattle.std.proofs.lemmas.Grind.{get_or-set_at}
use Rattle.std.proofs.lemmas.List.{length-replicate}
use Rattle.std.proofs.lemmas.Bool.Decides.{eqb_tells}
use Rattle.std.proofs.Math.ListN.{length-set, replicate}
use Rattle.loop_walks.specs.declared.step.Step.{Step}
use Rattle.loop_walks.specs.declared.step.Loop.{Loop}
use Rattle.loop_walks.specs.Walks.{cost}
use Rattle.loop_walks.specs.Turns.{greater, further, way_at, turn_taken, turned, with_back, turn_start}
use Rattle.loop_walks.specs.Rows.{NotBefore, AreSteps, Each}
use Rattle.loop_walks.proofs.LargerLemmas.{WayAtMost, way_same, way_then, greater_left, greater_right}

-- the step is one of the range from a first place
abbrev pub IsInRange : ℕ → ℕ → Step → Type 0
IsInRange first n m = (first ≤ m.at) × ((m.at - first) < n)

-- the step pays the way behind it
abbrev pub PaysTurn : ℤ → List ℤ → ℕ → List (Option ℤ) → Step → Type 0
PaysTurn low weights first ts m = WayAtMost (further low (cost weights m) (way_at ts (m.on - first))) (way_at ts (m.at - first))

pub turn_at : (low : ℤ) (weights : List ℤ) (first : ℕ) (ts : List (Option ℤ)) (m : Step) (i : ℕ) → (m.at - first) < length ts → i ≡ m.at - first →
    way_at (turn_taken low weights first ts m) i ≡ greater (way_at ts i) (further low (cost weights m) (way_at ts (m.on - first)))
turn_at low weights first ts m i h e = subst (λ j. way_at (turn_taken low weights first ts m) j ≡ greater (way_at ts j) (further low (cost weights m) (way_at ts (m.on - first)))) (sym e)
    (get_or-set_at ts (m.at - first) (m.at - first) _ None refl h)

pub turn_other : (low : ℤ) (weights : List ℤ) (first : ℕ) (ts : List (Option ℤ)) (m : Step) (i : ℕ) → i ≢ m.at - first → way_at (turn_taken low weights first ts m) i ≡ way_at ts i
turn_other low weights first ts m i d = get_or-set_other ts (m.at - first) i _ None d

pub turned-long : (low : ℤ) (weights : List ℤ) (first : ℕ) (ts : List (Option ℤ)) (ms : List Step) → length (turned low weights first ts ms) ≡ length ts
turned-long low weights first ts [] = refl
turned-long low weights first ts (m ∷ ms) =
    let r = turned-long low weights first ts ms in
    length-set (turned low weights first ts ms) (m.at - first) (greater (way_at (turned low weights first ts ms) (m.at - first)) (further low (cost weights m) (way_at (turned low weights first ts ms) (m.on - first)))) ∙ r

turn_grows : (low : ℤ) (weights : List ℤ) (first : ℕ) (ts : List (Option ℤ)) (m : Step) (i : ℕ) → (m.at - first) < length ts → WayAtMost (way_at ts i) (way_at (turn_taken low weights first ts m) i)
turn_grows low weights first ts m i h = elim (eqb_tells i (m.at - first)) [
  | inl k ↦ let e = turn_at low weights first ts m i h k.1 in rw e (greater_left _ _)
  | inr k ↦ let e = turn_other low weights first ts m i k.1 in rw e (way_same (way_at ts i))
]

still_pays : (low : ℤ) (weights : List ℤ) (first n : ℕ) (ts : List (Option ℤ)) (m : Step) (ks : List Step) → first ≤ m.at → (m.at - first) < length ts → NotBefore m.at ks → AreSteps n ks → Each (PaysTurn low weights first ts) ks → Each (PaysTurn low weights first (turn_taken low weights first ts m)) ks
still_pays low weights first n ts m [] f h b o p = tt
still_pays low weights first n ts m (k ∷ ks) f h b o p =
    let o0 = o.0.0 in
    let e = turn_other low weights first ts m (k.on - first) (λ q. absurd (omega (arith, b.0, o0, q, f))) in
    let g = turn_grows low weights first ts m (k.at - first) h in
    (rw e (way_then _ (way_at ts (k.at - first)) _ p.0 g), still_pays low weights first n ts m ks f h b.1 o.2 p.1)

-- each step that was walked over pays
pub turned_pays : (low : ℤ) (weights : List ℤ) (first n : ℕ) (ts : List (Option ℤ)) (ms : List Step) → AreSteps n ms → Each (IsInRange first (length ts)) ms → Each (PaysTurn low weights first (turned low weights first ts ms)) ms
turned_pays low weights first n ts [] o i = tt
turned_pays low weights first n ts (m ∷ ms) o i =
    let l = turned-long low weights first ts ms in
    let i0 = i.0.0 in let i1 = i.0.1 in
    let h : (m.at - first) < length (turned low weights first ts ms) = omega (arith, l, i1) in
    let o0 = o.0.0 in
    let e = turn_at low weights first (turned low weights first ts ms) m (m.at - first) h refl in
    let f = turn_other low weights first (turned low weights first ts ms) m (m.on - first) (λ q. absurd (omega (arith, o0, q, i0))) in
    (rw (e, f) (greater_right _ _), still_pays low weights first n (turned low weights first ts ms) m ms i0 h o.1 o.2 (turned_pays low weights first n ts ms o.2 i.1))

-- a place without steps keeps its way
pub turned_other : (low : ℤ) (weights : List ℤ) (first n : ℕ) (ts : List (Option ℤ)) (ms : List Step) (b : ℕ) → first ≤ b → Each (IsInRange first n) ms → Each (λ m. m.at ≢ b) ms → way_at (turned low weights first ts ms) (b - first) ≡ way_at ts (b - first)
turned_other low weights first n ts [] b f i h = refl
turned_other low weights first n ts (m ∷ ms) b f i h =
    let i0 = i.0.0 in
    turn_other low weights first (turned low weights first ts ms) m (b - first) (λ q. h.0 (omega (arith, q, i0, f)))
    ∙ turned_other low weights first n ts ms b f i.1 h.1

pub turn_start-long : (l : Loop) → length (turn_start l) ≡ l.end - l.header
turn_start-long l = by_back l.back
  where
    by_back : (o : Option ℕ) → length (with_back o l.header (replicate (l.end - l.header) None)) ≡ l.end - l.header
    by_back None = length-replicate (l.end - l.header) None
    by_back (Some b) = length-set (replicate (l.end - l.header) None) (b - l.header) (Some (pos 0)) ∙ length-replicate (l.end - l.header) None

-- the way from the jump back
pub turn_start_back : (l : Loop) (b : ℕ) → l.back ≡ Some b → l.header ≤ b → b < l.end → way_at (turn_start l) (b - l.header) ≡ Some (pos 0)
turn_start_back l b is h k =
    let e = length-replicate {A = Option ℤ} (l.end - l.header) None in
    ap (λ (o : Option ℕ). way_at (with_back o l.header (replicate (l.end - l.header) None)) (b - l.header)) is
    ∙ get_or-set_at (replicate (l.end - l.header) None) (b - l.header) (b - l.header) (Some (pos 0)) None refl (omega (arith, e, h, k))
