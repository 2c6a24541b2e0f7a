-- What stands before all headers keeps its worth when loops are settled, and a call goes to the least address of its function.
use Rattle.std.proofs.Common.{◌≡◌, ◌≢◌, ℕ, ◌≤◌, ◌<◌, ℤ, pos, arith, refl, ◌∙◌, subst, List, [], ◌∷◌, inl, inr, Option, Some, None, get_or-set_other}
use Rattle.std.specs.Prelude.{slice_set}
use Rattle.std.proofs.lemmas.Bool.Decides.{eqb_tells}
use Rattle.std.proofs.lemmas.List.Elements.{All-head, All-tail}
use Rattle.code_flow_system.specs.declared.shapes.Span.{Span}
use Rattle.code_flow_system.specs.Shapes.{AreAllApart, IsInOne, BeginsEarlier}
use Rattle.loop_walks.specs.declared.step.Step.{Step}
use Rattle.loop_walks.specs.declared.step.Loop.{Loop}
use Rattle.loop_walks.specs.declared.step.Pair.{Pair}
use Rattle.loop_walks.specs.Walks.{larger, worth_at, body_steps}
use Rattle.loop_walks.specs.Multipliers.{weight_of, back_worth}
use Rattle.loop_walks.specs.Levels.{gains, Level, level_pair, raised, level_by, levels, ground, settled}
use Rattle.loop_walks.specs.Rows.{IsBack, IsLoopOf, AreLoops}
use Rattle.loop_walks.proofs.EachLemmas.{each_map}
use Rattle.loop_walks.proofs.WalkLemmas.{relaxed_other}
use Rattle.path_places.specs.Reached.{AreFilled, rank}
use Rattle.path_places.proofs.RankLemmas.{rank_in, rank_out, apart_one}

-- ---- worths

-- the place is no header's range but at its beginning
abbrev pub NotBehind : ℕ → List Loop → Type 0
NotBehind a [] = Unit {0}
NotBehind a (l ∷ ls) = (a ≤ l.header) × NotBehind a ls

keeps_raised : (ws : List ℤ) (l : Loop) (o : Option ℕ) (z : ℤ) (a : ℕ) → a ≤ l.header → ((b : ℕ) → o ≡ Some b → l.header ≤ b) → worth_at (raised ws l o z) a ≡ worth_at ws a
keeps_raised ws l None z a h back = refl
keeps_raised ws l (Some b) z a h back = elim (eqb_tells b l.header) [
  | inl k ↦ let q = k.0 in rw q refl
  | inr k ↦
      let q = k.0 in let d = k.1 in let f = back b refl in
      rw q (get_or-set_other ws b a (larger (worth_at ws b) z) (pos 0) (λ e. absurd (omega (arith, e, d, f, h))))
]

keeps_level : (n : ℕ) (ms : List Step) (v : Level) (l : Loop) (p : Pair) (a : ℕ) → IsLoopOf n ms l → a ≤ l.header → worth_at (level_by ms v l p).worths a ≡ worth_at v.worths a
keeps_level n ms v l p a fits h =
    relaxed_other (slice_set v.weights l.header (weight_of l p)) (raised v.worths l l.back (back_worth l (worth_at v.worths l.header) p)) (body_steps l ms) a
    (each_map (λ m. (l.header < m.at) × (m.at < l.end)) (λ m. m.at ≢ a) (body_steps l ms) (λ m i e. let i0 = i.0 in absurd (omega (arith, i0, e, h))) fits.body)
    ∙ keeps_raised v.worths l l.back (back_worth l (worth_at v.worths l.header) p) a h (λ b is. (subst (λ o. IsBack l ms o) is fits.back).0)

keeps_levels : (low : ℤ) (n : ℕ) (ms : List Step) (v : Level) (ls : List Loop) (gs : List ℤ) (a : ℕ) → AreLoops n ms ls → NotBehind a ls → worth_at (levels low ms v ls gs).worths a ≡ worth_at v.worths a
keeps_levels low n ms v [] gs a loops h = refl
keeps_levels low n ms v (l ∷ ls) [] a loops h = refl
keeps_levels low n ms v (l ∷ ls) (g ∷ gs) a loops h =
    keeps_levels low n ms (level_by ms v l (level_pair low ms v.worths l g)) ls gs a loops.2 h.1 ∙ keeps_level n ms v l (level_pair low ms v.worths l g) a loops.0 h.0

pub keeps_settled : (low : ℤ) (n : ℕ) (ms : List Step) (v : Level) (ls : List Loop) (a : ℕ) → AreLoops n ms ls → NotBehind a ls → worth_at (settled low ms v ls).worths a ≡ worth_at (ground low ms v ls).worths a
keeps_settled low n ms v ls a loops h = keeps_levels low n ms (ground low ms v ls) ls (gains low ms v.weights ls) a loops h

-- ---- the least address of a function

pub begins_least : (ps : List Span) (t a x : ℕ) → AreFilled ps → AreAllApart ps → BeginsEarlier ps t a → IsInOne ps x → rank ps x ≡ rank ps t → t ≤ x
begins_least [] t a x full apart begins one same = absurd begins
begins_least (p ∷ ps) t a x full apart begins one same = elim begins [
  | inl k ↦
      let f = All-head (λ (q : Span). q.first < q.end) p ps full in
      let e = k.0 in
      let z = rank_in p ps t (record { from = omega (arith, e); below = omega (arith, e, f) }) in
      elim one [
        | inl i ↦ let i0 = i.from in omega (arith, i0, e)
        | inr i ↦ let y = rank_out p ps x (apart_one p ps x apart.0 i) in absurd (omega (arith, y, z, same))
      ]
  | inr k ↦
      let there = begins_there ps t a (All-tail (λ (q : Span). q.first < q.end) p ps full) k in
      let z = rank_out p ps t (apart_one p ps t apart.0 there) in
      elim one [
        | inl i ↦ let y = rank_in p ps x i in absurd (omega (arith, y, z, same))
        | inr i ↦ let y = rank_out p ps x (apart_one p ps x apart.0 i) in begins_least ps t a x (All-tail (λ (q : Span). q.first < q.end) p ps full) apart.1 k i (omega (arith, y, z, same))
      ]
]
  where
    begins_there : (ps : List Span) (t a : ℕ) → AreFilled ps → BeginsEarlier ps t a → IsInOne ps t
    begins_there [] t a full h = absurd h
    begins_there (p ∷ ps) t a full h = elim h [
      | inl k ↦ let f = All-head (λ (q : Span). q.first < q.end) p ps full in let e = k.0 in inl (record { from = omega (arith, e); below = omega (arith, e, f) })
      | inr k ↦ inr (begins_there ps t a (All-tail (λ (q : Span). q.first < q.end) p ps full) k)
    ]
