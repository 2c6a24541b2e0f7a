-- What facts say, as a block is executed.
use Rattle.std.proofs.Common.{◌≡◌, ◌≢◌, ◌⊎◌, ◌==◌, ℕ, Bool, true, false, List, [], ◌∷◌, ◌++◌, map, Option, Some, None, refl, sym, ap, ◌∙◌, subst, ⊎_elim, inl, inr}
use Rattle.std.specs.Prelude.{All, if◌then◌else◌, slice_index_or}
use Rattle.std.proofs.lemmas.Bool.{eqb-true, eqb-false}
use Rattle.std.proofs.lemmas.List.Elements.{All-head, All-tail}
use Rattle.std.proofs.lemmas.Option.{none-some, same_Some}
use Rattle.low_ir.specs.Code.{Instr, Note}
use Rattle.low_ir.specs.Formed.{written_by}
use Rattle.pass_jump_threading_law.specs.Known.{Becomes, Code, Known, Knows, word_written}
use Rattle.pass_jump_threading.specs.declared.facts.Fact.{Fact}
use Rattle.pass_jump_threading.specs.Facts.{Begins, Covers, Known_or_told, Learns, Says, known_in, lookup, or_else, rewritten_one, with_word}

-- another word in the first fact
rewritten_first : (r : ℕ) (o : Option ℕ) (f : Fact) (rest : List Fact) (x : Bool) (q : ℕ) → (f.register == r) ≡ x → lookup (rewritten_one r o f ∷ rest) q ≡ (if f.register == q then (if x then o else f.word) else lookup rest q)
rewritten_first r o f rest true q e = ap (λ b. lookup ((if b then with_word o f else f) ∷ rest) q) e
rewritten_first r o f rest false q e = ap (λ b. lookup ((if b then with_word o f else f) ∷ rest) q) e

-- another word in each fact on a register
pub rewritten_says : (r : ℕ) (o : Option ℕ) (fs : List Fact) (q w : ℕ) → lookup (map (rewritten_one r o) fs) q ≡ Some w → ((q ≡ r) × (o ≡ Some w)) ⊎ ((q ≢ r) × (lookup fs q ≡ Some w))
rewritten_says r o [] q w e = absurd (none-some w e)
rewritten_says r o (f ∷ fs) q w e =
    by_tests (f.register == r) (f.register == q) refl refl (sym (rewritten_first r o f (map (rewritten_one r o) fs) (f.register == r) q refl) ∙ e) (rewritten_says r o fs q w)
  where
    by_tests : (x y : Bool) → (f.register == r) ≡ x → (f.register == q) ≡ y → (if y then (if x then o else f.word) else lookup (map (rewritten_one r o) fs) q) ≡ Some w → (lookup (map (rewritten_one r o) fs) q ≡ Some w → ((q ≡ r) × (o ≡ Some w)) ⊎ ((q ≢ r) × (lookup fs q ≡ Some w))) → ((q ≡ r) × (o ≡ Some w)) ⊎ ((q ≢ r) × ((if y then f.word else lookup fs q) ≡ Some w))
    by_tests true true ex ey h next = inl (sym (eqb-true f.register q ey) ∙ eqb-true f.register r ex, h)
    by_tests false true ex ey h next = inr (λ same. eqb-false f.register r ex (eqb-true f.register q ey ∙ same), h)
    by_tests x false ex ey h next = next h

-- a fact behind others
pub pushed_says : (fs : List Fact) (g : Fact) (q w : ℕ) → lookup (fs ++ g ∷ []) q ≡ Some w → (lookup fs q ≡ Some w) ⊎ ((q ≡ g.register) × (g.word ≡ Some w))
pushed_says [] g q w e = by_test (g.register == q) refl e
  where
    by_test : (x : Bool) → (g.register == q) ≡ x → (if x then g.word else None) ≡ Some w → (lookup [] q ≡ Some w) ⊎ ((q ≡ g.register) × (g.word ≡ Some w))
    by_test true ex h = inr (sym (eqb-true g.register q ex), h)
    by_test false ex h = absurd (none-some w h)
pushed_says (f ∷ fs) g q w e = by_test (f.register == q) e (pushed_says fs g q w)
  where
    by_test : (x : Bool) → (if x then f.word else lookup (fs ++ g ∷ []) q) ≡ Some w → (lookup (fs ++ g ∷ []) q ≡ Some w → (lookup fs q ≡ Some w) ⊎ ((q ≡ g.register) × (g.word ≡ Some w))) → ((if x then f.word else lookup fs q) ≡ Some w) ⊎ ((q ≡ g.register) × (g.word ≡ Some w))
    by_test true h next = inl h
    by_test false h next = next h

-- a register was written
pub facts_learn : (r : ℕ) (o : Option ℕ) (old same made : List Fact) → same ≡ map (rewritten_one r o) old → ((q w : ℕ) → lookup made q ≡ Some w → (lookup same q ≡ Some w) ⊎ ((q ≡ r) × (o ≡ Some w))) → Learns r o old made
facts_learn r o old same made is more q w e =
    ⊎_elim
    (λ (h : lookup same q ≡ Some w). rewritten_says r o old q w (ap (λ fs. lookup fs q) (sym is) ∙ h))
    (λ (h : (q ≡ r) × (o ≡ Some w)). inl h)
    (more q w e)

-- an instruction that writes a register that isn't held
pub learns_becomes : (held : List (Option ℕ)) (old new : List Fact) (i : Instr ℕ Note) (r : ℕ) → written_by i ≡ Some r → slice_index_or held r None ≡ None → Learns r (word_written (known_in held old) i) old new → Becomes (known_in held old) i (known_in held new)
learns_becomes held old new i r writes free learns q w e = by_held (slice_index_or held q None) refl e
  where
    by_held : (o : Option ℕ) → slice_index_or held q None ≡ o → or_else o (lookup new q) ≡ Some w → ((written_by i ≡ Some q) × (word_written (known_in held old) i ≡ Some w)) ⊎ ((written_by i ≢ Some q) × (known_in held old q ≡ Some w))
    by_held (Some v) h k =
        inr (
          λ same. none-some v (sym free ∙ ap (λ n. slice_index_or held n None) (same_Some r q (sym writes ∙ same)) ∙ h),
          ap (λ u. or_else u (lookup old q)) h ∙ k,
        )
    by_held None h k =
        ⊎_elim
        (λ (n : (q ≡ r) × (word_written (known_in held old) i ≡ Some w)). inl (writes ∙ ap Some (sym n.0), n.1))
        (λ (n : (q ≢ r) × (lookup old q ≡ Some w)). inr (λ same. n.0 (same_Some q r (sym same ∙ writes)), ap (λ u. or_else u (lookup old q)) h ∙ n.1))
        (learns q w k)

-- one that writes nothing
pub silent_becomes : (known : Known) (i : Instr ℕ Note) → written_by i ≡ None → Becomes known i known
silent_becomes known i none r w e = inr (λ some. none-some r (sym none ∙ some), e)

-- code so far: with what is known behind the rest, it is known behind all
abbrev pub KnowsSoFar : Known → Code → Known → Code → Type 0
KnowsSoFar known whole now rest = (out : Known) → Knows now rest out → Knows known whole out

pub knows_more : (known now next : Known) (whole rest : Code) (i : Instr ℕ Note) → KnowsSoFar known whole now (i ∷ rest) → Becomes now i next → KnowsSoFar known whole next rest
knows_more known now next whole rest i so becomes out knows = so out (next, becomes, knows)

pub knows_all : (known now : Known) (whole : Code) → KnowsSoFar known whole now [] → Knows known whole now
knows_all known now whole so = so now (λ r w e. e)

-- facts that are all said
lookup_said : (known : Known) (told : Option Fact) (fs : List Fact) → All (Says known told) fs → (r w : ℕ) → lookup fs r ≡ Some w → Known_or_told known told r w
lookup_said known told [] all r w e = absurd (none-some w e)
lookup_said known told (f ∷ fs) all r w e = by_test (f.register == r) refl e (lookup_said known told fs (All-tail (Says known told) f fs all) r w)
  where
    by_test : (x : Bool) → (f.register == r) ≡ x → (if x then f.word else lookup fs r) ≡ Some w → (lookup fs r ≡ Some w → Known_or_told known told r w) → Known_or_told known told r w
    by_test true ex h next = subst (λ q. Known_or_told known told q w) (eqb-true f.register r ex) (All-head (Says known told) f fs all w h)
    by_test false ex h next = next h

pub said_begins : (held : List (Option ℕ)) (known : Known) (told : Option Fact) (fs : List Fact) → Covers held known → All (Says known told) fs → Begins known told (known_in held fs)
said_begins held known told fs covers all r w e = by_held (slice_index_or held r None) refl e
  where
    by_held : (o : Option ℕ) → slice_index_or held r None ≡ o → or_else o (lookup fs r) ≡ Some w → Known_or_told known told r w
    by_held (Some v) h k = inl (covers r w (h ∙ k))
    by_held None h k = lookup_said known told fs all r w k

-- what is held is known
pub held_covers : (held : List (Option ℕ)) (fs : List Fact) → Covers held (known_in held fs)
held_covers held fs r w e = ap (λ o. or_else o (lookup fs r)) e
