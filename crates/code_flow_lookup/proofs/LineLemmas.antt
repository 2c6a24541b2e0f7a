-- Lines of regions: the one that holds an address, and the dearest access under it.
use Rattle.std.proofs.Common.{◌≡◌, ℕ, ◌+◌, ◌<◌, ◌≤◌, leb, inl, inr, arith, refl, sym, ap, ◌∙◌, subst, List, [], ◌∷◌, ◌++◌, take, drop, length, All, Bool, true, false, Option, Some, None, IfSome, ◌⊎◌}
use Rattle.std.specs.Prelude.{◌==◌, ◌&&◌, ◌||◌, not, max, nat_lt, nat_le, if◌then◌else◌}
use Rattle.std.specs.List.Sorted.{IsNonDecreasingBy, IsPartitionPoint}
use Rattle.std.proofs.lemmas.Bool.Decides.{nat_tests}
use Rattle.std.proofs.lemmas.List.{take-append-drop, length-take-le, length-drop, get_or-take, get_or-drop}
use Rattle.std.proofs.lemmas.List.Elements.{All-head, All-tail, All-weaker, All-cons, All-nil}
use Rattle.rv_core.specs.declared.regions.Region.{Region}
use Rattle.rv_core.specs.declared.regions.Region.TheVariants.{Flash, Spm, Ram}
use Rattle.rv_core.specs.Rows.{row_of}
use Rattle.rv_core.specs.Regions.{region_of}
use Rattle.rv_core.specs.Machine.{cost_at, behind}
use Rattle.rv_core.specs.Table.{Table, access_cost, accesses, cost_of}
use Rattle.code_flow_system.specs.declared.moves.Move.{Move}
use Rattle.code_flow_system.specs.Systems.{System}
use Rattle.code_flow_system.specs.declared.claims.Within.{Within}
use Rattle.code_flow_system.specs.Claims.{Claims, is_past, is_filled, is_aligned, exit_flaws, never_flaws, region_flaws, AreSound}
use Rattle.code_flow_system.specs.MoveCosts.{lies_within, names, may_touch, access_if, access_price, instruction_among, wait_ahead, move_cost}
use Rattle.code_flow_lookup.specs.Lines.{line_at, begun, may_by, AreLaid}
use Rattle.code_flow_lookup.proofs.RunLemmas.{Rises, non_decreasing}

pub may_touch-line : (ws : List Within) (a : ℕ) (r : Region) → may_by (line_at ws a) r ≡ may_touch ws a r
may_touch-line [] a r = refl
may_touch-line (w ∷ ws) a r = by_test (lies_within w a) (may_touch-line ws a r)
  where
    by_test : (b : Bool) → may_by (line_at ws a) r ≡ may_touch ws a r → may_by (if b then Some w else line_at ws a) r ≡ (if b then names w r else may_touch ws a r)
    by_test true e = refl
    by_test false e = e

-- sound claims have such lines

append_right : {X : Type 0} (P : X → Type 0) (xs ys : List X) → All P (xs ++ ys) → All P ys
append_right P [] ys h = h
append_right P (x ∷ xs) ys h = append_right P xs ys (All-tail P x (xs ++ ys) h)

append_left : {X : Type 0} (P : X → Type 0) (xs ys : List X) → All P (xs ++ ys) → All P xs
append_left P [] ys h = All-nil P
append_left P (x ∷ xs) ys h = All-cons P x xs (All-head P x (xs ++ ys) h) (append_left P xs ys (All-tail P x (xs ++ ys) h))

both_hold : (p q : Bool) → not (p && q) ≡ false → (p ≡ true) × (q ≡ true)
both_hold true true e = (refl, refl)
both_hold true false e = cc
both_hold false q e = cc

laid_by : (before : Option ℕ) (ws : List Within) → All (λ flaw. flaw ≡ false) (region_flaws before ws) → AreLaid before ws
laid_by before [] h = tt
laid_by before (w ∷ ws) h =
    let e = both_hold (is_filled w) (is_past before w.first) (All-head (λ flaw. flaw ≡ false) (not (is_filled w && is_past before w.first)) (region_flaws (Some w.end) ws) h) in
    (e.0, e.1, laid_by (Some w.end) ws (All-tail (λ flaw. flaw ≡ false) (not (is_filled w && is_past before w.first)) (region_flaws (Some w.end) ws) h))

pub lines_laid : (c : Claims) → AreSound c → AreLaid None c.regions
lines_laid c sound =
    let behind_exits = append_right (λ flaw. flaw ≡ false) (exit_flaws None c.exits) _ sound in
    let behind_nevers = append_right (λ flaw. flaw ≡ false) (never_flaws None c.nevers) _ behind_exits in
    laid_by None c.regions (append_left (λ flaw. flaw ≡ false) (region_flaws None c.regions) _ behind_nevers)

-- a filled line begins before it ends

and_parts : (p q : Bool) → (p && q) ≡ true → (p ≡ true) × (q ≡ true)
and_parts true q e = (refl, e)
and_parts false q e = cc

is_lt : (a b : ℕ) → nat_lt a b ≡ true → a < b
is_lt a b h = grind (arith, nat_tests)

pub filled_parts : (w : Within) → is_filled w ≡ true → (w.first < w.end) × ((w.flash || (w.spm || w.ram)) ≡ true)
filled_parts w h =
    let a = and_parts (is_aligned w.first) (is_aligned w.end && (nat_lt w.first w.end && (w.flash || (w.spm || w.ram)))) h in
    let b = and_parts (is_aligned w.end) (nat_lt w.first w.end && (w.flash || (w.spm || w.ram))) a.1 in
    let c = and_parts (nat_lt w.first w.end) (w.flash || (w.spm || w.ram)) b.1 in
    (is_lt w.first w.end c.0, c.1)

filled_lt : (w : Within) → is_filled w ≡ true → w.first < w.end
filled_lt w h = (filled_parts w h).0

-- all lines behind begin at the end of the one before, or later

pub begin_past : (e : ℕ) (ws : List Within) → AreLaid (Some e) ws → All (λ w. e ≤ w.first) ws
begin_past e [] h = All-nil _
begin_past e (w ∷ ws) h =
    let le : e ≤ w.first = at_most e w.first h.1 in
    let lt = filled_lt w h.0 in
    All-cons (λ v. e ≤ v.first) w ws le (All-weaker (λ v. w.end ≤ v.first) (λ v. e ≤ v.first) (λ v g. omega arith) ws (begin_past w.end ws h.2))
  where
    at_most : (a b : ℕ) → nat_le a b ≡ true → a ≤ b
    at_most a b h = grind (arith, nat_tests)

pub end_past : (e : ℕ) (ws : List Within) → AreLaid (Some e) ws → All (λ w. e ≤ w.end) ws
end_past e [] h = All-nil _
end_past e (w ∷ ws) h =
    let le = All-head (λ v. e ≤ v.first) w ws (begin_past e (w ∷ ws) h) in
    let lt = filled_lt w h.0 in
    All-cons (λ v. e ≤ v.end) w ws (omega arith) (All-weaker (λ v. w.end ≤ v.end) (λ v. e ≤ v.end) (λ v g. omega arith) ws (end_past w.end ws h.2))

ends_rise : (before : Option ℕ) (ws : List Within) → AreLaid before ws → Rises (λ w. w.end) ws
ends_rise before [] h = tt
ends_rise before (w ∷ ws) h = (end_past w.end ws h.2, ends_rise (Some w.end) ws h.2)

pub ends_ascend : (ws : List Within) → AreLaid None ws → IsNonDecreasingBy (λ w. w.end) ws
ends_ascend ws h = non_decreasing (λ w. w.end) ws (ends_rise None ws h)

-- the search

not_within : (w : Within) (a : ℕ) → (w.end ≤ a) ⊎ (a < w.first) → lies_within w a ≡ false
not_within w a h = elim h [
  | inl e ↦ right (nat_le w.first a) (nat_lt a w.end) (not_lt a w.end e)
  | inr e ↦ ap (λ (c : Bool). c && nat_lt a w.end) (not_le w.first a e)
]
  where
    right : (p q : Bool) → q ≡ false → (p && q) ≡ false
    right true q e = e
    right false q e = refl

    not_lt : (a b : ℕ) → b ≤ a → nat_lt a b ≡ false
    not_lt a b h = grind (arith, nat_tests)

    not_le : (a b : ℕ) → b < a → nat_le a b ≡ false
    not_le a b h = grind (arith, nat_tests)

is_within : (w : Within) (a : ℕ) → w.first ≤ a → a < w.end → lies_within w a ≡ true
is_within w a h g = both (nat_le w.first a) (nat_lt a w.end) (le w.first a h) (lt a w.end g)
  where
    both : (p q : Bool) → p ≡ true → q ≡ true → (p && q) ≡ true
    both true true e f = refl
    both false q e f = cc
    both true false e f = cc

    le : (a b : ℕ) → a ≤ b → nat_le a b ≡ true
    le a b h = grind (arith, nat_tests)

    lt : (a b : ℕ) → a < b → nat_lt a b ≡ true
    lt a b h = grind (arith, nat_tests)

line-none : (ws : List Within) (a : ℕ) → All (λ w. a < w.first) ws → line_at ws a ≡ None
line-none [] a h = refl
line-none (w ∷ ws) a h =
    ap (λ (b : Bool). if b then Some w else line_at ws a) (not_within w a (inr (All-head (λ w. a < w.first) w ws h)))
    ∙ line-none ws a (All-tail (λ w. a < w.first) w ws h)

line-skip : (xs ys : List Within) (a : ℕ) → All (λ w. w.end ≤ a) xs → line_at (xs ++ ys) a ≡ line_at ys a
line-skip [] ys a h = refl
line-skip (w ∷ xs) ys a h =
    ap (λ (b : Bool). if b then Some w else line_at (xs ++ ys) a) (not_within w a (inl (All-head (λ w. w.end ≤ a) w xs h)))
    ∙ line-skip xs ys a (All-tail (λ w. w.end ≤ a) w xs h)

laid-behind : (before : Option ℕ) (xs ys : List Within) → AreLaid before (xs ++ ys) → (b : Option ℕ) × AreLaid b ys
laid-behind before [] ys h = (before, h)
laid-behind before (x ∷ xs) ys h = laid-behind (Some x.end) xs ys h.2

line-begun : (before : Option ℕ) (ws : List Within) (a : ℕ) → AreLaid before ws → All (λ w. a < w.end) ws → line_at ws a ≡ begun ws a
line-begun before [] a h g = refl
line-begun before (w ∷ ws) a h g = by_order (tells a w.first)
  where
    tells : (m n : ℕ) → ((m < n) × (nat_lt m n ≡ true)) ⊎ ((n ≤ m) × (nat_lt m n ≡ false))
    tells m n = grind (arith, nat_tests)

    end_lt : a < w.end
    end_lt = All-head (λ w. a < w.end) w ws g

    by_order : ((a < w.first) × (nat_lt a w.first ≡ true)) ⊎ ((w.first ≤ a) × (nat_lt a w.first ≡ false)) → line_at (w ∷ ws) a ≡ begun (w ∷ ws) a
    by_order (inl e) =
        line-none (w ∷ ws) a (All-cons (λ w. a < w.first) w ws e.0 (All-weaker (λ v. w.end ≤ v.first) (λ v. a < v.first) (λ v l. let k = end_lt in omega arith) ws (begin_past w.end ws h.2)))
        ∙ sym (ap (λ (b : Bool). if b then None else Some w) e.1)
    by_order (inr e) =
        ap (λ (b : Bool). if b then Some w else line_at ws a) (is_within w a e.0 end_lt)
        ∙ sym (ap (λ (b : Bool). if b then None else Some w) e.1)

at_most : (a b : ℕ) → leb a b ≡ true → a ≤ b
at_most a b h = grind (arith, nat_tests)

above : (a b : ℕ) → leb a b ≡ false → b < a
above a b h = grind (arith, nat_tests)

pub line-found : (ws : List Within) (a i : ℕ) → AreLaid None ws → i ≤ length ws
    → IsPartitionPoint (λ y. leb y.end a ≡ true) (λ y. leb y.end a ≡ false) ws i
    → begun (drop i ws) a ≡ line_at ws a
line-found ws a i h le p =
    let front : All (λ w. w.end ≤ a) (take i ws) = λ k d lt.
    let e = length-take-le i ws le in
    let f = ap (λ w. w.end) (get_or-take i ws k d (omega arith)) in
    let g = at_most _ _ (p.0 k d (omega arith) (omega arith)) in omega arith in
    let back : All (λ w. a < w.end) (drop i ws) = λ k d lt.
    let l = length-drop i ws in
    let f = ap (λ w. w.end) (get_or-drop i ws k d) in
    let g = above _ _ (p.1 (i + k) d (omega arith) (omega arith)) in omega arith in
    let cut = take-append-drop i ws in
    let rest = laid-behind None (take i ws) (drop i ws) (subst (AreLaid None) (sym cut) h) in
    sym (
    ap (λ vs. line_at vs a) (sym cut)
    ∙ line-skip (take i ws) (drop i ws) a front
    ∙ line-begun rest.0 (drop i ws) a rest.1 back
    )

pub line_filled : (before : Option ℕ) (ws : List Within) (a : ℕ) → AreLaid before ws → IfSome (line_at ws a) (λ w. is_filled w ≡ true)
line_filled before [] a h = tt
line_filled before (w ∷ ws) a h = by_test (lies_within w a) (line_filled (Some w.end) ws a h.2)
  where
    by_test : (b : Bool) → IfSome (line_at ws a) (λ w. is_filled w ≡ true) → IfSome (if b then Some w else line_at ws a) (λ w. is_filled w ≡ true)
    by_test true r = h.0
    by_test false r = r

-- the greatest of what accesses cost, with what the instruction costs beside them

pub max_three : (a b c x y z : ℕ) → a ≡ x → b ≡ y → c ≡ z → max a (max b c) ≡ max x (max y z)
max_three a b c x y z e f g = ap (λ n. max n (max b c)) e ∙ ap (λ n. max x (max n c)) f ∙ ap (λ n. max x (max y n)) g

pub dearest_by : (p q r : Bool) (t : Table) (b : ℕ) → (p || (q || r)) ≡ true →
    max (if p then b + access_cost t (Some Flash) else 0) (max (if q then b + access_cost t (Some Spm) else 0) (if r then b + access_cost t (Some Ram) else 0))
    ≡ b + 0 + max (access_if t p Flash) (max (access_if t q Spm) (access_if t r Ram))
dearest_by true true true t b h = omega arith
dearest_by true true false t b h = omega arith
dearest_by true false true t b h = omega arith
dearest_by true false false t b h = omega arith
dearest_by false true true t b h = omega arith
dearest_by false true false t b h = omega arith
dearest_by false false true t b h = omega arith
dearest_by false false false t b h = cc

pub some_named : (line : Option Within) → IfSome line (λ w. is_filled w ≡ true) → (may_by line Flash || (may_by line Spm || may_by line Ram)) ≡ true
some_named None h = refl
some_named (Some w) h = (filled_parts w h).1

access-same : (t : Table) (b : Bool) (f g : Region → Bool) → ((r : Region) → f r ≡ g r) → access_price t b f ≡ access_price t b g
access-same t false f g h = refl
access-same t true f g h = max_three _ _ _ _ _ _ (ap (λ p. access_if t p Flash) (h Flash)) (ap (λ p. access_if t p Spm) (h Spm)) (ap (λ p. access_if t p Ram) (h Ram))

-- a move's cost of its parts
pub cost_is : (t : Table) (s : System) (m : Move) (fetch : Region) (line : Option Within) (own wait next : ℕ) → region_of m.at ≡ Some fetch → line ≡ line_at s.claims.regions m.at
    → own ≡ cost_of t m.instr fetch None (m.number == 1) + access_price t (accesses (row_of m.instr.op).class) (may_by line)
    → next ≡ behind m.at → wait ≡ wait_ahead t m.instr (instruction_among s.moves next) → own + wait ≡ move_cost t s m
cost_is t s m fetch line own wait next region is owns follows waits =
    let e = ap (λ o. cost_at t m.instr o None (m.number == 1)) region in
    let f = access-same t (accesses (row_of m.instr.op).class) (may_by line) (may_touch s.claims.regions m.at) (λ r. ap (λ l. may_by l r) is ∙ may_touch-line s.claims.regions m.at r) in
    let g = ap (λ n. wait_ahead t m.instr (instruction_among s.moves n)) follows in
    adds own wait (cost_of t m.instr fetch None (m.number == 1)) _ _ _ _ _ owns waits e f g
  where
    adds : (own wait x b w x' b' w' : ℕ) → own ≡ x + b → wait ≡ w → x' ≡ x → b ≡ b' → w ≡ w' → own + wait ≡ x' + b' + w'
    adds own wait x b w x' b' w' h k e f g = omega arith
