-- Where an address lies among ascending shares.
use Rattle.std.proofs.Common.{◌≡◌, ◌≢◌, ℕ, zero, suc, ◌+◌, ◌<◌, ◌≤◌, arith, refl, sym, ap, ◌∙◌, List, [], ◌∷◌, length, get_or, All, Bool, true, false}
use Rattle.std.specs.Prelude.{◌==◌, ◌&&◌, nat_le, nat_lt, not, is_some, if◌then◌else◌}
use Rattle.std.specs.List.Sorted.{IsNonDecreasingBy, IsPartitionPoint}
use Rattle.std.proofs.lemmas.Bool.Decides.{nat_tests}
use Rattle.std.proofs.lemmas.List.Elements.{All-head, All-tail, All-weaker}
use Rattle.code_flow_lookup.proofs.RunLemmas.{Rises, non_decreasing, same_test, other_test}
use Rattle.report_text.specs.declared.entries.Share.{Share}
use Rattle.report_text.specs.Forms.{IsShare, SharesAscend}
use Rattle.report_shares.specs.Shares.{IsProper, lies_in, holders, begins}

-- tests

not_lt : (a b : ℕ) → b ≤ a → nat_lt a b ≡ false
not_lt a b h = grind (arith, nat_tests)

lt : (a b : ℕ) → a < b → nat_lt a b ≡ true
lt a b h = grind (arith, nat_tests)

not_le : (a b : ℕ) → b < a → nat_le a b ≡ false
not_le a b h = grind (arith, nat_tests)

at_most : (a b : ℕ) → nat_le a b ≡ true → a ≤ b
at_most a b h = grind (arith, nat_tests)

above : (a b : ℕ) → nat_le a b ≡ false → b < a
above a b h = grind (arith, nat_tests)

and_false : (p q : Bool) → q ≡ false → (p && q) ≡ false
and_false true q e = e
and_false false q e = refl

and_true : (p q : Bool) → q ≡ true → (p && q) ≡ p
and_true true q e = e
and_true false q e = refl

-- ends ascend

ends_later : (h : Share) (hs : List Share) → All IsProper hs → All (λ t. h.end ≤ t.first) hs → All (λ t. h.end ≤ t.end) hs
ends_later h hs s u = λ k d less. let f = (s k d less).filled in let g = u k d less in omega arith

ends_rise : (hs : List Share) → All IsProper hs → SharesAscend hs → Rises (λ h. h.end) hs
ends_rise [] s u = tt
ends_rise (h ∷ hs) s u = (ends_later h hs (All-tail IsProper h hs s) u.0, ends_rise hs (All-tail IsProper h hs s) u.1)

pub ends_ascend : (hs : List Share) → All IsProper hs → SharesAscend hs → IsNonDecreasingBy (λ h. h.end) hs
ends_ascend hs s u = non_decreasing (λ h. h.end) hs (ends_rise hs s u)

-- the shares before a place end at or before the address
abbrev pub EndBefore : List Share → ℕ → ℕ → Type 0
EndBefore hs i a = (k : ℕ) (d : Share) → k < i → k < length hs → (get_or hs k d).end ≤ a

later : (h : Share) (hs : List Share) (i a : ℕ) → EndBefore (h ∷ hs) (suc i) a → EndBefore hs i a
later h hs i a b = λ k d less long. b (suc k) d (omega arith) (omega arith)

-- a share that has ended holds no address, and begins at none

ended : (h : Share) (a : ℕ) → h.end ≤ a → lies_in h a ≡ false
ended h a le = and_false (nat_le h.first a) (nat_lt a h.end) (not_lt a h.end le)

ended_holds : (h : Share) (hs : List Share) (a : ℕ) → h.end ≤ a → holders (h ∷ hs) a ≡ holders hs a
ended_holds h hs a le = let e = ap (λ (c : Bool). (if c then 1 else 0) + holders hs a) (ended h a le) in e ∙ omega arith

ended_begins : (h : Share) (hs : List Share) (a : ℕ) → h.first < h.end → h.end ≤ a → begins (h ∷ hs) a ≡ begins hs a
ended_begins h hs a filled le =
    let other : h.first ≢ a = λ e. omega arith in
    ap (λ (c : Bool). if c && is_some h.name then true else begins hs a) (other_test h.first a other)

-- nor does one behind it

none_holds : (hs : List Share) (a : ℕ) → All (λ t. a < t.first) hs → holders hs a ≡ 0
none_holds [] a u = refl
none_holds (h ∷ hs) a u =
    let e = ap (λ (c : Bool). (if c && nat_lt a h.end then 1 else 0) + holders hs a) (not_le h.first a (All-head (λ t. a < t.first) h hs u)) in
    e ∙ let r = none_holds hs a (All-tail (λ t. a < t.first) h hs u) in omega arith

none_begins : (hs : List Share) (a : ℕ) → All (λ t. a < t.first) hs → begins hs a ≡ false
none_begins [] a u = refl
none_begins (h ∷ hs) a u =
    let first = All-head (λ t. a < t.first) h hs u in
    let other : h.first ≢ a = λ e. omega arith in
    ap (λ (c : Bool). if c && is_some h.name then true else begins hs a) (other_test h.first a other)
    ∙ none_begins hs a (All-tail (λ t. a < t.first) h hs u)

behind : (h : Share) (hs : List Share) (a : ℕ) → a < h.end → All (λ t. h.end ≤ t.first) hs → All (λ t. a < t.first) hs
behind h hs a less u = λ k d long. let g = u k d long in omega arith

-- at the first share that ends behind the address

pub held_at : (hs : List Share) (i a : ℕ) (d : Share) → i < length hs → SharesAscend hs → EndBefore hs i a → a < (get_or hs i d).end →
    holders hs a ≡ (if nat_le (get_or hs i d).first a then 1 else 0)
held_at [] i a d long u b less = absurd (omega arith)
held_at (h ∷ hs) zero a d long u b less =
    let e = ap (λ (c : Bool). (if c then 1 else 0) + holders hs a) (and_true (nat_le h.first a) (nat_lt a h.end) (lt a h.end less)) in
    let r = none_holds hs a (behind h hs a less u.0) in
    e ∙ omega arith
held_at (h ∷ hs) (suc i) a d long u b less =
    ended_holds h hs a (b zero d (omega arith) (omega arith)) ∙ held_at hs i a d (omega arith) u.1 (later h hs i a b) less

pub begins_at : (hs : List Share) (i a : ℕ) (d : Share) → i < length hs → SharesAscend hs → All IsProper hs → EndBefore hs i a → a < (get_or hs i d).end →
    begins hs a ≡ ((get_or hs i d).first == a) && is_some (get_or hs i d).name
begins_at [] i a d long u s b less = absurd (omega arith)
begins_at (h ∷ hs) zero a d long u s b less =
    ap (λ (c : Bool). if (h.first == a) && is_some h.name then true else c) (none_begins hs a (behind h hs a less u.0))
    ∙ same ((h.first == a) && is_some h.name)
  where
    same : (c : Bool) → (if c then true else false) ≡ c
    same true = refl
    same false = refl
begins_at (h ∷ hs) (suc i) a d long u s b less =
    ended_begins h hs a (All-head IsProper h hs s).filled (b zero d (omega arith) (omega arith))
    ∙ begins_at hs i a d (omega arith) u.1 (All-tail IsProper h hs s) (later h hs i a b) less

-- behind all shares

pub held_past : (hs : List Share) (i a : ℕ) → i ≡ length hs → EndBefore hs i a → holders hs a ≡ 0
held_past [] i a e b = refl
held_past (h ∷ hs) zero a e b = absurd (omega arith)
held_past (h ∷ hs) (suc i) a e b = ended_holds h hs a (b zero h (omega arith) (omega arith)) ∙ held_past hs i a (omega arith) (later h hs i a b)

pub begins_past : (hs : List Share) (i a : ℕ) → i ≡ length hs → All IsProper hs → EndBefore hs i a → begins hs a ≡ false
begins_past [] i a e s b = refl
begins_past (h ∷ hs) zero a e s b = absurd (omega arith)
begins_past (h ∷ hs) (suc i) a e s b =
    ended_begins h hs a (All-head IsProper h hs s).filled (b zero h (omega arith) (omega arith))
    ∙ begins_past hs i a (omega arith) (All-tail IsProper h hs s) (later h hs i a b)

-- the same, from the point that a search finds

pub point_before : (hs : List Share) (i a : ℕ) → IsPartitionPoint (λ h. nat_le h.end a ≡ true) (λ h. nat_le h.end a ≡ false) hs i → EndBefore hs i a
point_before hs i a p = λ k d less long. at_most _ _ (p.0 k d (omega arith) less)

pub point_here : (hs : List Share) (i a : ℕ) (d : Share) → i < length hs → IsPartitionPoint (λ h. nat_le h.end a ≡ true) (λ h. nat_le h.end a ≡ false) hs i → a < (get_or hs i d).end
point_here hs i a d long p = above _ _ (p.1 i d (omega arith) long)

-- an address lies in one range at most
pub held_once : (hs : List Share) (a : ℕ) → All IsProper hs → SharesAscend hs → holders hs a ≤ 1
held_once [] a s u = omega arith
held_once (h ∷ hs) a s u = by_test (nat_lt a h.end) refl (held_once hs a (All-tail IsProper h hs s) u.1)
  where
    one : (c : Bool) (n : ℕ) → n ≡ 0 → (if c then 1 else 0) + n ≤ 1
    one true n e = omega arith
    one false n e = omega arith

    is_lt : (a b : ℕ) → nat_lt a b ≡ true → a < b
    is_lt a b e = grind (arith, nat_tests)

    is_not : (a b : ℕ) → nat_lt a b ≡ false → b ≤ a
    is_not a b e = grind (arith, nat_tests)

    by_test : (c : Bool) → nat_lt a h.end ≡ c → holders hs a ≤ 1 → holders (h ∷ hs) a ≤ 1
    by_test true e r = one (lies_in h a) (holders hs a) (none_holds hs a (behind h hs a (is_lt a h.end e) u.0))
    by_test false e r = let f = ended_holds h hs a (is_not a h.end e) in omega arith

-- the code's tests

pub held_test : (b : Bool) (n : ℕ) → n ≡ (if b then 1 else 0) → b ≡ not (n == 0)
held_test true n e = sym (ap (λ k. not (k == 0)) e)
held_test false n e = sym (ap (λ k. not (k == 0)) e)

pub begun_test : (a b : ℕ) (c : Bool) → a ≡ b → (a == b) && c ≡ c
begun_test a b c e = ap (λ (p : Bool). p && c) (same_test a b e)

pub other_begun : (a b : ℕ) (c : Bool) → a ≢ b → (a == b) && c ≡ false
other_begun a b c e = ap (λ (p : Bool). p && c) (other_test a b e)

-- the shares of a report are proper
pub all_proper : (hs : List Share) → All IsShare hs → All IsProper hs
all_proper hs s = All-weaker IsShare IsProper (λ h e. record { filled = e.filled; least = e.least; small = e.small }) hs s
