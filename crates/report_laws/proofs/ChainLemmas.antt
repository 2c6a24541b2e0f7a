-- Lines that are fine are read, one behind the other.
use Rattle.std.proofs.Common.{◌≡◌, ℕ, suc, ◌+◌, ◌<◌, ◌≤◌, ◌⊎◌, inl, inr, ⊎_elim, ℤ, List, [], ◌∷◌, ◌++◌, length, map, Bool, true, false, ap, ◌∙◌, arith, nat_le, nat_lt, if◌then◌else◌, All}
use Rattle.std.proofs.lemmas.List.Elements.{All-nil, All-cons, All-head, All-tail, All-weaker}
use Rattle.std.proofs.lemmas.Bool.{cases_lt}
use borrow.Author.Tests.{le-leb, lt-ltb}
use Rattle.report_laws.proofs.WordsBack.{and_both}
use Rattle.frac128.specs.Terms.{Terms}
use Rattle.code_flow_system.specs.MoveCosts.{lies_within}
use Rattle.code_flow_system.specs.declared.claims.Never.{Never}
use Rattle.code_flow_system.specs.declared.claims.Within.{Within}
use Rattle.code_flow_system.specs.declared.claims.LoopClaim.{LoopClaim}
use Rattle.code_flow_system.specs.declared.cert.Part.{Part}
use Rattle.code_flow_system.specs.Certificates.{IsSmall, IsPart, AddressesAscend, PartsAscend}
use Rattle.report_words.specs.Words.{Line}
use Rattle.report_text.specs.declared.entries.Share.{Share}
use Rattle.report_text.specs.Forms.{Ascend, NamesOne, AreAllApart, AreApart, IsShare, SharesAscend}
use Rattle.report_text.specs.Lines.{exit_line, never_line, region_line, loop_line, paired, potential_line, flow_line, share_line}
use Rattle.report_rules.specs.Rules.{Rule}
use Rattle.report_rules.specs.ClaimRules.{exit_rule, never_rule, Reach, region_rule, loop_rule}
use Rattle.report_rules.specs.CertRules.{potential_rule, LeastMove, flow_rule, share_rule}
use Rattle.report_reading.specs.Sections.{Goes, many, one, maybe, later_words, starts}
use Rattle.report_reading.proofs.SectionLemmas.{many-step, many-none, one-step, maybe-step}
use Rattle.report_laws.specs.Typed.{IsWord, IsTypedNever, IsTypedWithin, IsTypedLoop, IsTypedPart, IsTypedShare}
use Rattle.report_laws.proofs.ListLemmas.{longer}
use Rattle.report_laws.proofs.Fine.{IsFine, AreFine, no_lines, one_more, AreRead}
use Rattle.report_laws.proofs.RowLemmas.{exit_fine, never_fine, loop_fine, reach_with, region_fine, potential_fine, IsBehind, flow_fine, share_fine}

pub many_read : {S : Type 0} → (r : Rule S) (s last : S) (n : ℕ) (ls rest : List Line) → AreFine r s ls last → 0 < length rest → starts r.tag rest ≡ false → many r s n (ls ++ rest) ≡ Goes last (n + length ls) rest
many_read r s last n [] rest (no_lines t) more e = many-none r s n rest e ∙ ap (λ m. Goes s m rest) (omega arith)
many_read r s last n (l ∷ ls) rest (one_more t mid u k ks fine fines) more e =
    ap (λ k. many r s n (k ∷ (ls ++ rest))) fine.tagged
    ∙ many-step r s n (later_words l) (ls ++ rest) (longer ls rest more) fine.stands
    ∙ ap (λ t. many r t (suc n) (ls ++ rest)) fine.next_is
    ∙ many_read r mid last (suc n) ls rest fines more e
    ∙ ap (λ m. Goes last m rest) (omega arith)

pub one_read : {S : Type 0} → (r : Rule S) (s next : S) (n : ℕ) (l : Line) (rest : List Line) → IsFine r s l next → 0 < length rest → one r s n (l ∷ rest) ≡ Goes next (suc n) rest
one_read r s next n l rest fine more =
    ap (λ k. one r s n (k ∷ rest)) fine.tagged ∙ one-step r s n (later_words l) rest more fine.stands ∙ ap (λ t. Goes t (suc n) rest) fine.next_is

pub maybe_read : {S : Type 0} → (r : Rule S) (s next : S) (n : ℕ) (l : Line) (rest : List Line) → IsFine r s l next → 0 < length rest → maybe r s n (l ∷ rest) ≡ Goes next (suc n) rest
maybe_read r s next n l rest fine more =
    ap (λ k. maybe r s n (k ∷ rest)) fine.tagged ∙ maybe-step r s n (later_words l) rest more fine.stands ∙ ap (λ t. Goes t (suc n) rest) fine.next_is

-- the lines of each section are fine

first : {S : Type 0} → (r : Rule S) (s mid : S) (l : Line) (ls : List Line) → IsFine r s l mid → AreRead r mid ls → AreRead r s (l ∷ ls)
first r s mid l ls fine rest = record { last = rest.last; fine = one_more s mid rest.last l ls fine rest.fine }

nothing : {S : Type 0} → (r : Rule S) (s : S) → AreRead r s []
nothing r s = record { last = s; fine = no_lines s }

pub exits_read : (least : ℕ) (xs : List ℕ) → All IsWord xs → Ascend xs → All (λ a. least ≤ a) xs → AreRead exit_rule least (map exit_line xs)
exits_read least [] t o b = nothing exit_rule least
exits_read least (x ∷ xs) t o b =
    first exit_rule least (suc x) (exit_line x) (map exit_line xs) (exit_fine least x (All-head IsWord x xs t) (All-head (λ a. least ≤ a) x xs b))
    (exits_read (suc x) xs (All-tail IsWord x xs t) o.1 (All-weaker (λ a. x < a) (λ a. suc x ≤ a) (λ a lt. omega (arith, lt)) xs o.0))

-- all behind the first one by a number
behind_by : {X : Type 0} → (f : X → ℕ) (x : ℕ) (xs : List X) → All (λ b. x < b) (map f xs) → All (λ y. suc x ≤ f y) xs
behind_by f x [] all = All-nil (λ y. suc x ≤ f y)
behind_by f x (y ∷ ys) all =
    All-cons (λ z. suc x ≤ f z) y ys (let lt = All-head (λ b. x < b) (f y) (map f ys) all in omega (arith, lt)) (behind_by f x ys (All-tail (λ b. x < b) (f y) (map f ys) all))

pub nevers_read : (least : ℕ) (cs : List Never) (ms : List ℤ) → All IsTypedNever cs → All IsSmall ms → Ascend (map (λ c. c.at) cs) → All (λ c. least ≤ c.at) cs → AreRead never_rule least (paired never_line cs ms)
nevers_read least [] ms t s o b = nothing never_rule least
nevers_read least (c ∷ cs) [] t s o b = nothing never_rule least
nevers_read least (c ∷ cs) (m ∷ ms) t s o b =
    first never_rule least (suc c.at) (never_line c m) (paired never_line cs ms)
    (never_fine least c m (All-head IsTypedNever c cs t) (All-head IsSmall m ms s) (All-head (λ c. least ≤ c.at) c cs b))
    (nevers_read (suc c.at) cs ms (All-tail IsTypedNever c cs t) (All-tail IsSmall m ms s) o.1 (behind_by (λ c. c.at) c.at cs o.0))

pub loops_read : (least : ℕ) (cs : List LoopClaim) (ms : List (ℤ × ℤ)) → All IsTypedLoop cs → All (λ m. IsSmall m.0 × IsSmall m.1) ms → Ascend (map (λ c. c.header) cs) → All (λ c. least ≤ c.header) cs → AreRead loop_rule least (paired loop_line cs ms)
loops_read least [] ms t s o b = nothing loop_rule least
loops_read least (c ∷ cs) [] t s o b = nothing loop_rule least
loops_read least (c ∷ cs) (m ∷ ms) t s o b =
    first loop_rule least (suc c.header) (loop_line c m) (paired loop_line cs ms)
    (loop_fine least c m (All-head IsTypedLoop c cs t) (All-head (λ m. IsSmall m.0 × IsSmall m.1) m ms s) (All-head (λ c. least ≤ c.header) c cs b))
    (loops_read (suc c.header) cs ms (All-tail IsTypedLoop c cs t) (All-tail (λ m. IsSmall m.0 × IsSmall m.1) m ms s) o.1 (behind_by (λ c. c.header) c.header cs o.0))

pub potentials_read : (least : ℕ) (ts : Terms) → All (λ t. IsWord t.0) ts → All (λ t. IsSmall t.1) ts → AddressesAscend ts → All (λ t. least ≤ t.0) ts → AreRead potential_rule least (map potential_line ts)
potentials_read least [] t s o b = nothing potential_rule least
potentials_read least (p ∷ ps) t s o b =
    first potential_rule least (suc p.0) (potential_line p) (map potential_line ps)
    (potential_fine least p (All-head (λ t. IsWord t.0) p ps t) (All-head (λ t. IsSmall t.1) p ps s) (All-head (λ t. least ≤ t.0) p ps b))
    (potentials_read (suc p.0) ps (All-tail (λ t. IsWord t.0) p ps t) (All-tail (λ t. IsSmall t.1) p ps s) o.1 (All-weaker (λ u. p.0 < u.0) (λ u. suc p.0 ≤ u.0) (λ u lt. omega (arith, lt)) ps o.0))

pub parts_read : (l : LeastMove) (ps : List Part) → All IsTypedPart ps → All IsPart ps → PartsAscend ps → All (IsBehind l) ps → AreRead flow_rule l (map flow_line ps)
parts_read l [] t s o b = nothing flow_rule l
parts_read l (p ∷ ps) t s o b =
    first flow_rule l (record { at = p.at; number = suc p.number }) (flow_line p) (map flow_line ps)
    (flow_fine l p (All-head IsTypedPart p ps t) (All-head IsPart p ps s) (All-head (IsBehind l) p ps b))
    (parts_read (record { at = p.at; number = suc p.number }) ps (All-tail IsTypedPart p ps t) (All-tail IsPart p ps s) o.1
    (All-weaker (λ q. (p.at < q.at) ⊎ ((p.at ≡ q.at) × (p.number < q.number))) (IsBehind (record { at = p.at; number = suc p.number }))
    (λ q e. ⊎_elim (λ lt. inl lt) (λ same. inr (same.0, (let lt = same.1 in omega (arith, lt)))) e) ps o.0))

pub shares_read : (least : ℕ) (ss : List Share) → All IsTypedShare ss → All IsShare ss → SharesAscend ss → All (λ s. least ≤ s.first) ss → AreRead share_rule least (map share_line ss)
shares_read least [] t i o b = nothing share_rule least
shares_read least (s ∷ ss) t i o b =
    first share_rule least s.end (share_line s) (map share_line ss)
    (share_fine least s (All-head IsTypedShare s ss t) (All-head IsShare s ss i) (All-head (λ s. least ≤ s.first) s ss b))
    (shares_read s.end ss (All-tail IsTypedShare s ss t) (All-tail IsShare s ss i) o.1 o.0)

-- regions share no address, so that one with addresses begins where those before it have ended

lies : (w : Within) (a : ℕ) → w.first ≤ a → a < w.end → lies_within w a ≡ true
lies w a le lt = and_both (nat_le w.first a) (nat_lt a w.end) (le-leb w.first a le) (lt-ltb a w.end lt)

ended : (w v : Within) → AreApart w v → w.first < v.first → v.first < v.end → w.end ≤ v.first
ended w v apart before filled =
    ⊎_elim (λ lt. absurd (apart v.first (lies w v.first (omega (arith, before)) lt) (lies v v.first (omega arith) filled))) (λ le. le) (cases_lt v.first w.end)

next_end : (t : Bool) (r : Reach) (w v : Within) → AreApart w v → w.first < v.first → (v.first < v.end → r.end ≤ v.first) → v.first < v.end → (if t then r.end else w.end) ≤ v.first
next_end true r w v apart before fits filled = fits filled
next_end false r w v apart before fits filled = ended w v apart before filled

fits_next : (r : Reach) (w : Within) (ws : List Within) → All (AreApart w) ws → All (λ v. suc w.first ≤ v.first) ws → All (λ v. v.first < v.end → r.end ≤ v.first) ws → All (λ v. v.first < v.end → (reach_with r w).end ≤ v.first) ws
fits_next r w [] a b f = All-nil (λ v. v.first < v.end → (reach_with r w).end ≤ v.first)
fits_next r w (v ∷ vs) a b f =
    All-cons (λ v. v.first < v.end → (reach_with r w).end ≤ v.first) v vs
    (next_end (nat_le w.end w.first) r w v (All-head (AreApart w) v vs a) (let lt = All-head (λ v. suc w.first ≤ v.first) v vs b in omega (arith, lt)) (All-head (λ v. v.first < v.end → r.end ≤ v.first) v vs f))
    (fits_next r w vs (All-tail (AreApart w) v vs a) (All-tail (λ v. suc w.first ≤ v.first) v vs b) (All-tail (λ v. v.first < v.end → r.end ≤ v.first) v vs f))

pub regions_read : (r : Reach) (ws : List Within) → All IsTypedWithin ws → All NamesOne ws → Ascend (map (λ w. w.first) ws) → AreAllApart ws → All (λ w. r.least ≤ w.first) ws → All (λ v. v.first < v.end → r.end ≤ v.first) ws → AreRead region_rule r (map region_line ws)
regions_read r [] t n o a b f = nothing region_rule r
regions_read r (w ∷ ws) t n o a b f =
    let behind = behind_by (λ w. w.first) w.first ws o.0 in
    first region_rule r (reach_with r w) (region_line w) (map region_line ws)
    (region_fine r w (All-head IsTypedWithin w ws t) (All-head NamesOne w ws n) (All-head (λ w. r.least ≤ w.first) w ws b) (All-head (λ v. v.first < v.end → r.end ≤ v.first) w ws f))
    (regions_read (reach_with r w) ws (All-tail IsTypedWithin w ws t) (All-tail NamesOne w ws n) o.1 a.1 behind
    (fits_next r w ws a.0 behind (All-tail (λ v. v.first < v.end → r.end ≤ v.first) w ws f)))
