-- The system of an image is the same under the claims that are handed on.
use Rattle.std.proofs.Common.{◌≡◌, ℕ, zero, suc, ⊎_elim, inl, inr, Bool, true, false, List, [], ◌∷◌, ◌++◌, Option, Some, None, map, refl, sym, ap, ◌∙◌, subst, All, append_assoc}
use Rattle.std.specs.Prelude.{◌&&◌, not, slice_index_or}
use Rattle.std.proofs.lemmas.Bool.{false≢true}
use Rattle.std.proofs.lemmas.List.Elements.{All-append, All-cons, All-nil}
use Rattle.rv_core.specs.Images.{Image}
use Rattle.code_flow_system.specs.declared.claims.FactClaim.{FactClaim}
use Rattle.code_flow_system.specs.declared.claims.LoopClaim.{LoopClaim}
use Rattle.code_flow_system.specs.declared.claims.Never.{Never}
use Rattle.code_flow_system.specs.Claims.{AreSound, Claims, exit_flaws, fact_flaws, flaws, is_above, is_aligned, loop_flaws, never_flaws, region_flaws}
use Rattle.code_flow_system.specs.Systems.{IsBad, IsFalseExit, IsFirstNoCode, IsNoCode, IsSystemOf, System}
use Rattle.high_pass.specs.Listing.{LoopEntry}
use Rattle.high_pass.proofs.Elements.{All-append_back, All-append_front, at_or}
use Rattle.compile_claims.specs.ClaimLaws.{under}
use Rattle.compile_claims.specs.Named.{by_entries, named}

abbrev Fine : Bool → Type 0
Fine flaw = flaw ≡ false

no_flaw : (xs : List Bool) → All Fine xs → (n : ℕ) → slice_index_or xs n false ≡ true → ⊥
no_flaw xs fine n flaw = false≢true (sym (at_or Fine xs n false fine refl) ∙ flaw)

all_fine : (xs : List Bool) → ((n : ℕ) → slice_index_or xs n false ≡ true → ⊥) → All Fine xs
all_fine [] h = All-nil Fine
all_fine (x ∷ xs) h = All-cons Fine x xs (is_false x (h zero)) (all_fine xs (λ n. h (suc n)))
  where
    is_false : (x : Bool) → (x ≡ true → ⊥) → x ≡ false
    is_false true h = absurd (h refl)
    is_false false h = refl

module _ (es : List LoopEntry) (ns : List Never) (fs : List FactClaim) where
  loops_same : (before : Option ℕ) (cs : List LoopClaim) → loop_flaws before (map (by_entries es) cs) ≡ loop_flaws before cs
  loops_same before [] = refl
  loops_same before (c ∷ cs) = ap (λ rest. not (is_aligned c.header && (is_aligned c.back && is_above before c.header)) ∷ rest) (loops_same (Some c.header) cs)

  module _ (image : Image) (c : Claims) where
    abbrev exits_of : List Bool
    exits_of = exit_flaws None c.exits

    -- those on regions and loops, which are in both
    abbrev inner : List Bool
    inner = region_flaws None c.regions ++ loop_flaws None c.loops

    -- the flaws are those of exits, regions and loops, and those of the other claims
    flaws_named : flaws (named es ns fs c) ≡ exits_of ++ (never_flaws None ns ++ (inner ++ fact_flaws fs))
    flaws_named =
        ap (λ own. exits_of ++ (never_flaws None ns ++ (region_flaws None c.regions ++ (own ++ fact_flaws fs)))) (loops_same None c.loops)
        ∙ ap (λ xs. exits_of ++ (never_flaws None ns ++ xs)) (sym (append_assoc (region_flaws None c.regions) (loop_flaws None c.loops) (fact_flaws fs)))

    flaws_plain : c.nevers ≡ [] → flaws c ≡ exits_of ++ (inner ++ fact_flaws c.facts)
    flaws_plain none =
        ap (λ (vs : List Never). exits_of ++ (never_flaws None vs ++ (region_flaws None c.regions ++ (loop_flaws None c.loops ++ fact_flaws c.facts)))) none
        ∙ ap (λ xs. exits_of ++ xs) (sym (append_assoc (region_flaws None c.regions) (loop_flaws None c.loops) (fact_flaws c.facts)))

    -- those of exits, regions and loops
    record IsInnerSound : Type 0 where
      exits : All Fine exits_of
      both : All Fine inner

    inner_of : (own : List FactClaim) → All Fine (inner ++ fact_flaws own) → All Fine exits_of → IsInnerSound
    inner_of own all exits = record { exits = exits; both = All-append_front Fine inner (fact_flaws own) all }

    inner_named : AreSound (named es ns fs c) → IsInnerSound
    inner_named sound =
        let rest = never_flaws None ns ++ (inner ++ fact_flaws fs) in
        let all = subst (All Fine) flaws_named sound in
        inner_of fs (All-append_back Fine (never_flaws None ns) (inner ++ fact_flaws fs) (All-append_back Fine exits_of rest all)) (All-append_front Fine exits_of rest all)

    sound_plain : c.nevers ≡ [] → c.facts ≡ [] → AreSound (named es ns fs c) → AreSound c
    sound_plain none free sound =
        let own = inner_named sound in
        let facts : All Fine (fact_flaws c.facts) = subst (λ xs. All Fine (fact_flaws xs)) (sym free) (All-nil Fine) in
        subst (All Fine) (sym (flaws_plain none)) (All-append Fine exits_of (inner ++ fact_flaws c.facts) own.exits (All-append Fine inner (fact_flaws c.facts) own.both facts))

    pub sound_named : c.nevers ≡ [] → AreSound c → All Fine (never_flaws None ns) → All Fine (fact_flaws fs) → AreSound (named es ns fs c)
    sound_named none sound own facts =
        let rest = inner ++ fact_flaws c.facts in
        let all = subst (All Fine) (flaws_plain none) sound in
        let had = inner_of c.facts (All-append_back Fine exits_of rest all) (All-append_front Fine exits_of rest all) in
        subst (All Fine) (sym flaws_named)
        (All-append Fine exits_of (never_flaws None ns ++ (inner ++ fact_flaws fs)) had.exits (All-append Fine (never_flaws None ns) (inner ++ fact_flaws fs) own (All-append Fine inner (fact_flaws fs) had.both facts)))

    exit_named : (n : ℕ) → IsFalseExit image c n → IsFalseExit image (named es ns fs c) n
    exit_named n h = record { listed = h.listed; reached = h.reached; other = h.other }

    exit_plain : (n : ℕ) → IsFalseExit image (named es ns fs c) n → IsFalseExit image c n
    exit_plain n h = record { listed = h.listed; reached = h.reached; other = h.other }

    pub none_bad : c.nevers ≡ [] → AreSound c → ((n : ℕ) → IsFalseExit image c n → ⊥) → All Fine (never_flaws None ns) → All Fine (fact_flaws fs) → (n : ℕ) → IsBad image (named es ns fs c) n → ⊥
    none_bad none sound exits own facts n bad = ⊎_elim
        (λ (flaw : slice_index_or (flaws (named es ns fs c)) n false ≡ true). no_flaw (flaws (named es ns fs c)) (sound_named none sound own facts) n flaw)
        (λ (exit : IsFalseExit image (named es ns fs c) n). exits n (exit_plain n exit))
        bad

    pub system_same : (s : System) → c.nevers ≡ [] → c.facts ≡ [] → IsSystemOf image (named es ns fs c) s → IsSystemOf image c (under c s)
    system_same s none free h = record {
      same_entry = h.same_entry;
      same_claims = refl;
      no_bad = λ n bad. ⊎_elim
          (λ (flaw : slice_index_or (flaws c) n false ≡ true). no_flaw (flaws c) (sound_plain none free (all_fine (flaws (named es ns fs c)) (λ k own. h.no_bad k (inl own)))) n flaw)
          (λ (exit : IsFalseExit image c n). h.no_bad n (inr (exit_named n exit)))
          bad;
      code = h.code;
      ascending = h.ascending;
      reached = h.reached;
      own = h.own;
    }

    pub no_code_same : (a : ℕ) → IsFirstNoCode image (named es ns fs c) a → IsNoCode image c a
    no_code_same a h = record { reached = h.least.holds.reached; no_code = h.least.holds.no_code }
