-- What the passes find is the system of the image, or its first fault.
use Rattle.std.proofs.Common.{◌≡◌, ◌≢◌, ℕ, zero, suc, ◌+◌, ◌<◌, ◌⊎◌, inl, inr, arith, refl, sym, ap, ◌∙◌, subst, List, [], ◌∷◌, ◌++◌, length, get_or, Contains, All, Bool, true, false, Option, Some, None, length-append}
use Rattle.std.specs.Prelude.{◌&&◌, not, min, slice_index}
use Rattle.std.specs.List.Sorted.{IsSorted}
use Rattle.std.specs.Ordering.{nat_cmp}
use Rattle.std.proofs.Math.Path.{fun_ext}
use Rattle.std.proofs.lemmas.Bool.{and_parts}
use Rattle.std.proofs.lemmas.Bool.Decides.{eqb_tells}
use Rattle.std.proofs.lemmas.List.Sorted.{IsNonDecreasingBy-from_sort}
use Rattle.std.proofs.lemmas.List.Elements.{All-cons, All-nil, All-contains, Contains-append_cases}
use Rattle.rv_core.specs.Instructions.{Instruction}
use Rattle.rv_core.specs.Images.{Image}
use Rattle.rv_core.specs.Code.{instruction_in}
use Rattle.code_flow_system.specs.declared.moves.Move.{Move}
use Rattle.code_flow_system.specs.declared.moves.Way.{Way}
use Rattle.code_flow_system.specs.declared.moves.Way.TheVariants.{Next, Branches, Jumps, Calls, Ends, Strays}
use Rattle.code_flow_system.specs.declared.claims.FactClaim.{FactClaim}
use Rattle.code_flow_system.specs.Claims.{Claims, claim_count, is_listed, flaws, exit_flaws, never_flaws, region_flaws, loop_flaws, fact_flaws}
use Rattle.code_flow_system.specs.Moves.{Code, code_by, code_of, move, way_of, moves_on, moves_at, moves_by, fetch_before, destinations, destinations_of}
use Rattle.code_flow_system.specs.Reach.{GoesTo, IsReached, is_resolved, IsCode}
use Rattle.code_flow_system.specs.Systems.{system_of, moves_from, has_moves, IsPlaced, AreOfInstruction, is_ecall, IsExit, IsSystem, IsFalseExit, IsBad, IsNoCode, IsFirstNoCode, IsSystemOf}
use Rattle.code_flow_system.proofs.ReachLemmas.{in_destinations, from_moves, fetched_of}
use Rattle.code_flow.specs.declared.walk.Walk.{Walk}
use Rattle.code_flow.specs.Places.{place_of, address_at, all_places}
use Rattle.code_flow.specs.Walks.{IsSeenAt, IsSeen, Found}
use Rattle.code_flow.specs.Faults.{first_from, lesser, IsLeastOf, seen_at, seen, false_exits, collected, first_stray, entry_crossing, crossing, first_of, first_bad, least_no_code}
use Rattle.code_flow.proofs.ListLemmas.{listed_from, listed_at}
use Rattle.code_flow.proofs.PlaceLemmas.{place-address, address-place, instruction_word, word_region, stands_at_places}
use Rattle.code_flow.proofs.FlawLemmas.{length-exit_flaws, length-never_flaws, length-region_flaws, length-loop_flaws}
use Rattle.code_flow.proofs.LeastLemmas.{least-by, least-lesser, HoldsFrom, least-first_from, IsStrayAt, least-first_stray, CrossesBy, least-crossing, least-entry}
use Rattle.code_flow.proofs.CollectLemmas.{stand_at, stray_none, none_stray, collected_from, collected_ascend, collected_at, has_moves-some, moves_of_has}

all_by : {X : Type 0} (P : X → Type 0) (xs : List X) → ((x : X) → Contains xs x → P x) → All P xs
all_by P [] f = All-nil _
all_by P (x ∷ xs) f = All-cons P x xs (f x (0, omega arith, refl)) (all_by P xs (λ y h. f y (suc h.0, omega (arith, h.1), h.2)))

differ : (b : Bool) → b ≡ true → b ≡ false → ⊥
differ b h k = cc

marked_below : (marks : List Bool) (p : ℕ) → get_or marks p false ≡ true → p < length marks
marked_below [] p h = cc
marked_below (b ∷ bs) zero h = omega arith
marked_below (b ∷ bs) (suc p) h = let r = marked_below bs p h in omega arith

-- what was seen

seen_is : (w : Walk) (a : ℕ) (o : Option ℕ) → seen_at w a o ≡ true → IsSeenAt w a o
seen_is w a (Some p) h = h
seen_is w a None h = listed_at w.others.items a h

is_seen : (w : Walk) (a : ℕ) (o : Option ℕ) → IsSeenAt w a o → seen_at w a o ≡ true
is_seen w a (Some p) h = h
is_seen w a None h = listed_from w.others.items a h

-- the first bad claim

record IsFalse (c : Code) (w : Walk) (exits : List ℕ) (k : ℕ) : Type 0 where
  below : k < length exits
  seen_there : seen w (slice_index exits k) ≡ true
  other : is_ecall (c.fetch (slice_index exits k)) ≡ false

not_true : (b : Bool) → not b ≡ true → b ≡ false
not_true true h = cc
not_true false h = refl

not_false : (b : Bool) → b ≡ false → not b ≡ true
not_false true h = cc
not_false false h = refl

and_both : (x y : Bool) → x ≡ true → y ≡ true → (x && y) ≡ true
and_both true y h k = k
and_both false y h k = cc

false_at : (c : Code) (w : Walk) (exits : List ℕ) (k : ℕ) → get_or (false_exits c w exits) k false ≡ true → IsFalse c w exits k
false_at c w [] k h = cc
false_at c w (a ∷ rest) zero h =
    let both = and_parts (seen w a) (not (is_ecall (c.fetch a))) h in record { below = omega arith; seen_there = both.0; other = not_true (is_ecall (c.fetch a)) both.1 }
false_at c w (a ∷ rest) (suc k) h = let r = false_at c w rest k h in record { below = let l = r.below in omega arith; seen_there = r.seen_there; other = r.other }

at_false : (c : Code) (w : Walk) (exits : List ℕ) (k : ℕ) → IsFalse c w exits k → get_or (false_exits c w exits) k false ≡ true
at_false c w [] k h = absurd (let l = h.below in omega arith)
at_false c w (a ∷ rest) zero h = and_both (seen w a) (not (is_ecall (c.fetch a))) h.seen_there (not_false (is_ecall (c.fetch a)) h.other)
at_false c w (a ∷ rest) (suc k) h = at_false c w rest k (record { below = let l = h.below in omega arith; seen_there = h.seen_there; other = h.other })

pub first_bad_is : (image : Image) (claims : Claims) (w : Walk) → Found image claims w → IsLeastOf (IsBad image claims) (first_bad (code_of image claims) w claims)
first_bad_is image claims w found = least-by (λ n. HoldsFrom 0 (flaws claims) n ⊎ HoldsFrom 0 (false_exits (code_of image claims) w claims.exits) n) (IsBad image claims) (first_bad (code_of image claims) w claims)
    (λ n h. elim h [
      | inl k ↦ inl (let e : k.0 ≡ n = let f = k.1 in omega arith in subst (λ i. get_or (flaws claims) i false ≡ true) e k.2)
      | inr k ↦ inr (let e : k.0 ≡ n = let f = k.1 in omega arith in subst (IsFalseExit image claims) e (to_false k.0 (false_at (code_of image claims) w claims.exits k.0 k.2)))
    ])
    (λ n none h. none (elim h [
      | inl k ↦ inl (n, omega arith, k)
      | inr k ↦ inr (n, omega arith, at_false (code_of image claims) w claims.exits n (from_false n k))
    ]))
    (least-lesser (HoldsFrom 0 (flaws claims)) (HoldsFrom 0 (false_exits (code_of image claims) w claims.exits)) (first_from 0 (flaws claims)) (first_from 0 (false_exits (code_of image claims) w claims.exits))
    (least-first_from 0 (flaws claims)) (least-first_from 0 (false_exits (code_of image claims) w claims.exits)))
  where
    to_false : (k : ℕ) → IsFalse (code_of image claims) w claims.exits k → IsFalseExit image claims k
    to_false k h = record {
      listed = h.below;
      reached = found.reach.sound (slice_index claims.exits k) (seen_is w (slice_index claims.exits k) (place_of (slice_index claims.exits k)) h.seen_there);
      other = h.other;
    }

    from_false : (k : ℕ) → IsFalseExit image claims k → IsFalse (code_of image claims) w claims.exits k
    from_false k h = record {
      below = h.listed;
      seen_there = is_seen w (slice_index claims.exits k) (place_of (slice_index claims.exits k)) (found.reach.complete (slice_index claims.exits k) h.reached);
      other = h.other;
    }

-- the least address that is no code

least-first_of : (xs : List ℕ) → IsSorted nat_cmp xs → IsLeastOf (Contains xs) (first_of xs)
least-first_of [] up = λ a h. omega (arith, h.1)
least-first_of (x ∷ xs) up = record {
  holds = (0, omega arith, refl);
  before = λ k lt h.
      let r = IsNonDecreasingBy-from_sort (λ y. y) (x ∷ xs) up 0 h.0 k (omega arith) h.1 in
      let e = h.2 in omega arith;
}

-- a resolved JALR at the entry
abbrev IsEntryCrossing : Code → ℕ → ℕ → Type 0
IsEntryCrossing c entry a = (a ≡ entry) × (is_resolved c a ≡ true)

module _ (image : Image) (claims : Claims) (w : Walk) (found : Found image claims w) where
  abbrev c : Code
  c = code_of image claims

  abbrev moves : List Move
  moves = collected (code_of image claims) 0 w.marks.items

  seen_marked : (p : ℕ) → get_or w.marks.items p false ≡ true → IsSeen w (address_at p)
  seen_marked p h =
      let lt : p < all_places = let l = marked_below w.marks.items p h in let e = found.reach.long in omega arith in
      subst (IsSeenAt w (address_at p)) (sym (place-address p lt)) h

  reached_marked : (p : ℕ) → get_or w.marks.items p false ≡ true → IsReached c image.entry (address_at p)
  reached_marked p h = found.reach.sound (address_at p) (seen_marked p h)

  -- a collected move is one of a reached address
  record IsMoveOf (m : Move) : Type 0 where
    reached : IsReached c image.entry m.at
    among : Contains (moves_at c m.at) m

  move_of : (m : Move) → Contains moves m → IsMoveOf m
  move_of m h =
      let f = collected_from c 0 w.marks.items m h in
      let z : 0 + f.place ≡ f.place = omega arith in
      let at = All-contains (λ m. m.at ≡ address_at (0 + f.place)) (moves_at c (address_at (0 + f.place))) m (stand_at c (address_at (0 + f.place))) f.among in
      let place : address_at (0 + f.place) ≡ address_at f.place = ap address_at z in
      record {
        reached = subst (IsReached c image.entry) (sym (at ∙ place)) (reached_marked f.place f.marked);
        among = subst (λ a. Contains (moves_at c a) m) (sym at) f.among;
      }

  -- the moves of a reached address that has some
  own_moves : (a : ℕ) → IsReached c image.entry a → moves_at c a ≢ [] → moves_from moves a ≡ moves_at c a
  own_moves a reached some = by_place (place_of a) refl (found.reach.complete a reached)
    where
      by_place : (o : Option ℕ) → place_of a ≡ o → IsSeenAt w a o → moves_from moves a ≡ moves_at c a
      by_place None e h = absurd (some (ap (moves_by c a) (stands_at_places image a found.loadable e)))
      by_place (Some q) e h =
          let z : 0 + q ≡ q = omega arith in
          subst (λ x. moves_from moves x ≡ moves_at c x) (ap address_at z ∙ address-place a q e) (collected_at c 0 w.marks.items q h)

  goes_from : (b a : ℕ) → GoesTo c b a → (m : Move) × Contains (moves_at c b) m × Contains (destinations m) a
  goes_from b a h = dest_from (moves_at c b) a h
    where
      dest_from : (ms : List Move) (a : ℕ) → Contains (destinations_of ms) a → (m : Move) × Contains ms m × Contains (destinations m) a
      dest_from [] a h = absurd (omega (arith, h.1))
      dest_from (m ∷ ms) a h = elim (Contains-append_cases (destinations m) (destinations_of ms) a h) [
        | inl k ↦ (m, (0, omega arith, refl), k)
        | inr k ↦ let r = dest_from ms a k in (r.0, (suc r.1.0, omega (arith, r.1.1), r.1.2), r.2)
      ]

  in_moves : (b : ℕ) (m : Move) → IsReached c image.entry b → Contains (moves_at c b) m → Contains moves m
  in_moves b m reached h =
      let some : moves_at c b ≢ [] = λ e. let k = subst (λ ms. Contains ms m) e h in omega (arith, k.1) in
      from_moves moves b m (subst (λ ms. Contains ms m) (sym (own_moves b reached some)) h)

  -- the four ways in which an address is no code
  abbrev IsOff : ℕ → Type 0
  IsOff a = (IsStrayAt c 0 w.marks.items a ⊎ Contains w.others.items a) ⊎ (IsEntryCrossing c image.entry a ⊎ CrossesBy c moves a)

  other_seen : (a : ℕ) → Contains w.others.items a → place_of a ≡ None → IsSeen w a
  other_seen a h e = subst (IsSeenAt w a) (sym e) h

  off_no_code : (a : ℕ) → IsOff a → IsNoCode image claims a
  off_no_code a (inl (inl h)) =
      let z : 0 + h.place ≡ h.place = omega arith in
      let at : a ≡ address_at h.place = h.is ∙ ap address_at z in
      record {
        reached = subst (IsReached c image.entry) (sym at) (reached_marked h.place h.marked);
        no_code = λ code. code.moves (ap (moves_at c) h.is ∙ stray_none c (address_at (0 + h.place)) h.stray);
      }
  off_no_code a (inl (inr h)) =
      let e = found.reach.others a h in
      record {
        reached = found.reach.sound a (other_seen a h e);
        no_code = λ code. code.moves (ap (moves_by c a) (stands_at_places image a found.loadable e));
      }
  off_no_code a (inr (inl h)) = record {
    reached = (0, h.0);
    no_code = λ code. (code.paired h.1).no_entry h.0;
  }
  off_no_code a (inr (inr h)) =
      let by = move_of h.by h.in_moves in
      let goes : GoesTo c h.by.at a = in_destinations (moves_at c h.by.at) h.by a by.among h.crosses.among in
      record {
        reached = (suc by.reached.0, (h.by.at, by.reached.1, goes));
        no_code = λ code. h.crosses.apart ((code.paired h.crosses.resolved).alone h.by.at by.reached goes);
      }

  code_on : (a : ℕ) → IsReached c image.entry a → ¬ IsOff a → IsCode c image.entry a
  code_on a reached on = record {
    moves = λ none. by_place (place_of a) refl (found.reach.complete a reached) none;
    paired = λ resolved. record {
      no_entry = λ e. on (inr (inl (e, resolved)));
      alone = λ b r g. elim (eqb_tells (b + 4) a) [ inl e ↦ e.1 | inr e ↦ absurd (on (inr (inr (crosses b resolved r g e.1)))) ];
    };
  }
    where
      by_place : (o : Option ℕ) → place_of a ≡ o → IsSeenAt w a o → moves_at c a ≡ [] → ⊥
      by_place None e h none = on (inl (inr h))
      by_place (Some q) e h none =
          let z : 0 + q ≡ q = omega arith in
          let at : address_at (0 + q) ≡ a = ap address_at z ∙ address-place a q e in
          on (inl (inl (record { place = q; marked = h; stray = none_stray c (address_at (0 + q)) (ap (moves_at c) at ∙ none); is = sym at })))

      crosses : (b : ℕ) → is_resolved c a ≡ true → IsReached c image.entry b → GoesTo c b a → b + 4 ≢ a → CrossesBy c moves a
      crosses b resolved r g apart =
          let m = goes_from b a g in
          let at = All-contains (λ m. m.at ≡ b) (moves_at c b) m.0 (stand_at c b) m.1 in
          record { by = m.0; in_moves = in_moves b m.0 r m.1; crosses = record { among = m.2; resolved = resolved; apart = λ e. apart (let f = ap (λ n. n + 4) at in omega arith) } }

  pub no_code_is : IsLeastOf (IsNoCode image claims) (least_no_code c image.entry w moves)
  no_code_is = least-by IsOff (IsNoCode image claims) (least_no_code c image.entry w moves)
      off_no_code
      (λ a on h. h.no_code (code_on a h.reached on))
      (least-lesser (λ a. IsStrayAt c 0 w.marks.items a ⊎ Contains w.others.items a) (λ a. IsEntryCrossing c image.entry a ⊎ CrossesBy c moves a)
      (lesser (first_stray c 0 w.marks.items) (first_of w.others.items)) (lesser (entry_crossing c image.entry) (crossing c moves))
      (least-lesser (IsStrayAt c 0 w.marks.items) (Contains w.others.items) (first_stray c 0 w.marks.items) (first_of w.others.items) (least-first_stray c 0 w.marks.items) (least-first_of w.others.items found.sorted))
      (least-lesser (IsEntryCrossing c image.entry) (CrossesBy c moves) (entry_crossing c image.entry) (crossing c moves) (least-entry c image.entry) (least-crossing c moves)))

-- the system

none_true : (bs : List Bool) → ((k : ℕ) → get_or bs k false ≡ true → ⊥) → All (λ b. b ≡ false) bs
none_true bs none = all_by (λ b. b ≡ false) bs (λ b h. by_test b h)
  where
    by_test : (b : Bool) → Contains bs b → b ≡ false
    by_test false h = refl
    by_test true (k, lt, e) = absurd (none k (default bs k true false lt e))
      where
        default : (bs : List Bool) (k : ℕ) (d f : Bool) → k < length bs → get_or bs k d ≡ true → get_or bs k f ≡ true
        default [] k d f lt e = absurd (omega arith)
        default (b ∷ bs) zero d f lt e = e
        default (b ∷ bs) (suc k) d f lt e = default bs k d f (omega arith) e

instr_on : (way : Way) (a : ℕ) (i : Instruction) → All (λ m. m.instr ≡ i) (moves_on way a i)
instr_on Next a i = All-cons (λ m. m.instr ≡ i) _ [] refl (All-nil _)
instr_on (Branches to) a i = All-cons (λ m. m.instr ≡ i) _ (move a 1 i (Some to) None ∷ []) refl (All-cons (λ m. m.instr ≡ i) _ [] refl (All-nil _))
instr_on (Jumps to) a i = All-cons (λ m. m.instr ≡ i) _ [] refl (All-nil _)
instr_on (Calls to) a i = All-cons (λ m. m.instr ≡ i) _ [] refl (All-nil _)
instr_on Ends a i = All-cons (λ m. m.instr ≡ i) _ [] refl (All-nil _)
instr_on Strays a i = All-nil _

listed_place : (xs : List ℕ) (a : ℕ) → Contains xs a → (k : ℕ) × (k < length xs) × (slice_index xs k ≡ a)
listed_place [] a (k, lt, e) = absurd (omega arith)
listed_place (x ∷ xs) a (zero, lt, e) = (0, omega arith, e)
listed_place (x ∷ xs) a (suc k, lt, e) = let r = listed_place xs a (k, omega arith, e) in (suc r.0, omega (arith, r.1), r.2)

module _ (image : Image) (claims : Claims) (w : Walk) (found : Found image claims w) (no_bad : (n : ℕ) → ¬ IsBad image claims n) (no_code : (a : ℕ) → ¬ IsNoCode image claims a) where
  abbrev system_code : Code
  system_code = code_of image claims

  abbrev system_moves : List Move
  system_moves = collected (code_of image claims) 0 w.marks.items

  -- what isn't no code is code
  code_all : (a : ℕ) → IsReached system_code image.entry a → IsCode system_code image.entry a
  code_all a reached =
      let twice : ((IsCode system_code image.entry a → ⊥) → ⊥) = λ k. no_code a (record { reached = reached; no_code = k }) in
      record {
        moves = λ e. twice (λ k. k.moves e);
        paired = λ r. record {
          no_entry = λ e. twice (λ k. (k.paired r).no_entry e);
          alone = λ b s g. elim (eqb_tells (b + 4) a) [ inl e ↦ e.1 | inr e ↦ absurd (twice (λ k. e.1 ((k.paired r).alone b s g))) ];
        };
      }

  own_all : (a : ℕ) → IsReached system_code image.entry a → moves_from system_moves a ≡ moves_at system_code a
  own_all a reached = own_moves image claims w found a reached (code_all a reached).moves

  has_all : (a : ℕ) → IsReached system_code image.entry a → has_moves system_moves a ≡ true
  has_all a reached = has_moves-some system_moves a (λ none. (code_all a reached).moves (sym (own_all a reached) ∙ none))

  pub system_of_image : IsSystemOf image claims (system_of image.entry claims system_moves)
  system_of_image = record {
    same_entry = refl;
    same_claims = refl;
    no_bad = no_bad;
    code = code_all;
    ascending = collected_ascend system_code 0 w.marks.items;
    reached = λ m h. (move_of image claims w found m h).reached;
    own = own_all;
  }

  -- the instruction of a move
  fetched_at : (m : Move) → Contains system_moves m → instruction_in image m.at ≡ Some m.instr
  fetched_at m h =
      let f = move_of image claims w found m h in
      let i = fetched_of system_code m.at (λ e. let k = subst (λ ms. Contains ms m) e f.among in omega (arith, k.1)) in
      let at : moves_at system_code m.at ≡ moves_on (way_of (system_code.exit m.at) (fetch_before system_code m.at) m.at i.0) m.at i.0 = ap (moves_by system_code m.at) i.1 in
      let same = All-contains (λ n. n.instr ≡ i.0) (moves_on (way_of (system_code.exit m.at) (fetch_before system_code m.at) m.at i.0) m.at i.0) m (instr_on (way_of (system_code.exit m.at) (fetch_before system_code m.at) m.at i.0) m.at i.0) (subst (λ ms. Contains ms m) at f.among) in
      i.1 ∙ ap Some (sym same)

  exits_all : (m : Move) → Contains system_moves m → IsExit claims.exits m
  exits_all m h listed = by_test (is_ecall (instruction_in image m.at)) refl
    where
      by_test : (b : Bool) → is_ecall (instruction_in image m.at) ≡ b → is_ecall (Some m.instr) ≡ true
      by_test true e = ap is_ecall (sym (fetched_at m h)) ∙ e
      by_test false e =
          let p = listed_place claims.exits m.at (listed_at claims.exits m.at listed) in
          absurd (no_bad p.0 (inr (record {
            listed = p.1;
            reached = subst (IsReached system_code image.entry) (sym p.2) (move_of image claims w found m h).reached;
            other = ap (λ a. is_ecall (instruction_in image a)) p.2 ∙ e;
          })))

  own_instruction : (a : ℕ) → has_moves system_moves a ≡ true → AreOfInstruction claims.exits system_moves a
  own_instruction a h =
      let m = moves_of_has system_moves a h in
      let reached : IsReached system_code image.entry a = subst (IsReached system_code image.entry) m.2 (move_of image claims w found m.0 m.1).reached in
      let i = fetched_of system_code a (code_all a reached).moves in
      record { instr = i.0; before = fetch_before system_code a; are = own_all a reached ∙ ap (moves_by system_code a) i.1 }

  closed_all : (a : ℕ) → Contains (destinations_of system_moves) a → has_moves system_moves a ≡ true
  closed_all a h =
      let m = arriving system_moves a h in
      let f = move_of image claims w found m.0 m.1 in
      has_all a (suc f.reached.0, (m.0.at, f.reached.1, in_destinations (moves_at system_code m.0.at) m.0 a f.among m.2))
    where
      arriving : (ms : List Move) (a : ℕ) → Contains (destinations_of ms) a → (m : Move) × Contains ms m × Contains (destinations m) a
      arriving [] a h = absurd (omega (arith, h.1))
      arriving (m ∷ ms) a h = elim (Contains-append_cases (destinations m) (destinations_of ms) a h) [
        | inl k ↦ (m, (0, omega arith, refl), k)
        | inr k ↦ let r = arriving ms a k in (r.0, (suc r.1.0, omega (arith, r.1.1), r.1.2), r.2)
      ]

  pub system_is_valid : IsSystem (system_of image.entry claims system_moves)
  system_is_valid = record {
    sound = none_true (flaws claims) (λ k h. no_bad k (inl h));
    exits = all_by (IsExit claims.exits) system_moves exits_all;
    ascending = collected_ascend system_code 0 w.marks.items;
    placed = all_by (λ m. IsPlaced m.at) system_moves (λ m h. word_region m.at (instruction_word image m.at m.instr found.loadable (fetched_at m h)));
    own = own_instruction;
    entry = has_all image.entry (0, refl);
    closed = all_by (λ a. has_moves system_moves a ≡ true) (destinations_of system_moves) closed_all;
  }

-- exits in another order are the same exits
pub code_same : (image : Image) (xs ys : List ℕ) → ((a : ℕ) → is_listed xs a ≡ is_listed ys a) → code_by image xs ≡ code_by image ys
code_same image xs ys same = ap (λ f. record { fetch = instruction_in image; exit = f }) (fun_ext same)

-- numbers of claims
first_from-below : (from : ℕ) (bs : List Bool) (n : ℕ) → first_from from bs ≡ Some n → n < from + length bs
first_from-below from [] n h = cc
first_from-below from (true ∷ bs) n h = let e : from ≡ n = cc in omega arith
first_from-below from (false ∷ bs) n h = let r = first_from-below (from + 1) bs n h in omega arith

length-false_exits : (c : Code) (w : Walk) (exits : List ℕ) → length (false_exits c w exits) ≡ length exits
length-false_exits c w [] = refl
length-false_exits c w (a ∷ rest) = ap suc (length-false_exits c w rest)

length-fact_flaws : (cs : List FactClaim) → length (fact_flaws cs) ≡ length cs
length-fact_flaws [] = refl
length-fact_flaws (c ∷ cs) = ap suc (length-fact_flaws cs)

length-flaws : (claims : Claims) → length (flaws claims) ≡ claim_count claims
length-flaws claims =
    let a = length-exit_flaws None claims.exits in
    let b = length-never_flaws None claims.nevers in
    let c = length-region_flaws None claims.regions in
    let d = length-loop_flaws None claims.loops in
    let e = length-fact_flaws claims.facts in
    let f = length-append (exit_flaws None claims.exits) (never_flaws None claims.nevers ++ (region_flaws None claims.regions ++ (loop_flaws None claims.loops ++ fact_flaws claims.facts))) in
    let g = length-append (never_flaws None claims.nevers) (region_flaws None claims.regions ++ (loop_flaws None claims.loops ++ fact_flaws claims.facts)) in
    let h = length-append (region_flaws None claims.regions) (loop_flaws None claims.loops ++ fact_flaws claims.facts) in
    let i = length-append (loop_flaws None claims.loops) (fact_flaws claims.facts) in
    omega arith

lesser-below : (a b : Option ℕ) (m n : ℕ) → ((k : ℕ) → a ≡ Some k → k < m) → ((k : ℕ) → b ≡ Some k → k < m) → lesser a b ≡ Some n → n < m
lesser-below None b m n f g h = g n h
lesser-below (Some a) None m n f g h = f n h
lesser-below (Some a) (Some b) m n f g h =
    let e : min a b ≡ n = cc in
    let k = f a refl in omega arith

pub first_bad-below : (c : Code) (w : Walk) (claims : Claims) (n : ℕ) → first_bad c w claims ≡ Some n → n < claim_count claims
first_bad-below c w claims n h = lesser-below (first_from 0 (flaws claims)) (first_from 0 (false_exits c w claims.exits)) (claim_count claims) n
    (λ k e. let l = first_from-below 0 (flaws claims) k e in let f = length-flaws claims in omega arith)
    (λ k e. let l = first_from-below 0 (false_exits c w claims.exits) k e in let f = length-false_exits c w claims.exits in omega arith)
    h

-- what the passes have found, where the walk's facts hold and the exits were put in order
pub record Passed (image : Image) (claims : Claims) (w : Walk) (exits : List ℕ) (ms : List Move) : Type 0 where
  pub found : Found image claims w
  pub same : (a : ℕ) → is_listed exits a ≡ is_listed claims.exits a
  pub no_bad : None ≡ first_bad (code_of image claims) w claims
  pub moves : ms ≡ collected (code_by image exits) 0 w.marks.items

module _ (image : Image) (claims : Claims) (w : Walk) (exits : List ℕ) (ms : List Move) (passed : Passed image claims w exits ms) where
  none_bad : (n : ℕ) → ¬ IsBad image claims n
  none_bad = subst (IsLeastOf (IsBad image claims)) (sym passed.no_bad) (first_bad_is image claims w passed.found)

  same_code : code_by image exits ≡ code_of image claims
  same_code = code_same image exits claims.exits passed.same

  collected_moves : ms ≡ collected (code_of image claims) 0 w.marks.items
  collected_moves = passed.moves ∙ ap (λ k. collected k 0 w.marks.items) same_code

  least_is : IsLeastOf (IsNoCode image claims) (least_no_code (code_by image exits) image.entry w ms)
  least_is = subst (λ o. IsLeastOf (IsNoCode image claims) o)
      (sym (ap (λ k. least_no_code k image.entry w ms) same_code ∙ ap (least_no_code (code_of image claims) image.entry w) collected_moves))
      (no_code_is image claims w passed.found)

  pub first_no_code : (a : ℕ) → Some a ≡ least_no_code (code_by image exits) image.entry w ms → IsFirstNoCode image claims a
  first_no_code a e = record { no_bad = none_bad; least = subst (IsLeastOf (IsNoCode image claims)) (sym e) least_is }

  pub system_valid : None ≡ least_no_code (code_by image exits) image.entry w ms → IsSystem (system_of image.entry claims ms)
  system_valid e =
      let none : (a : ℕ) → ¬ IsNoCode image claims a = subst (IsLeastOf (IsNoCode image claims)) (sym e) least_is in
      subst (λ xs. IsSystem (system_of image.entry claims xs)) (sym collected_moves) (system_is_valid image claims w passed.found none_bad none)

  pub system_right : None ≡ least_no_code (code_by image exits) image.entry w ms → IsSystemOf image claims (system_of image.entry claims ms)
  system_right e =
      let none : (a : ℕ) → ¬ IsNoCode image claims a = subst (IsLeastOf (IsNoCode image claims)) (sym e) least_is in
      subst (λ xs. IsSystemOf image claims (system_of image.entry claims xs)) (sym collected_moves) (system_of_image image claims w passed.found none_bad none)
