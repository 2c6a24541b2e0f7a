-- A walk begins where nothing was seen of a register, and leaves the others unseen.
use Rattle.std.proofs.Common.{◌≡◌, inr, ℕ, zero, suc, ◌+◌, ◌<◌, Bool, true, false, List, [], ◌∷◌, length, replicate, refl, sym, ap, ◌∙◌, subst, arith}
use Rattle.std.specs.Prelude.{◌==◌, if◌then◌else◌, slice_index_or}
use Rattle.std.proofs.lemmas.List.{length-replicate}
use Rattle.low_ir.specs.Code.{Block, Note}
use Rattle.register_live_ranges.specs.declared.accesses.Access.{Access}
use Rattle.register_live_ranges.specs.declared.walk.Latest.{Latest}
use Rattle.register_live_ranges.specs.Walks.{IsFresh, Walk, all_taken, fresh, is_live, is_touched, no_latest, no_register, restarted}
use Rattle.register_live_ranges.proofs.Passing.{differ}
use Rattle.register_live_ranges.proofs.Blocks.{all, all_stand}
use Rattle.register_live_ranges.proofs.Taking.{Taken, take_all, yes_no}
use Rattle.register_live_ranges.proofs.Walking.{Walks, begins}

fresh_row : (n b : ℕ) → slice_index_or (replicate n no_register) b no_register ≡ no_register
fresh_row zero b = refl
fresh_row (suc n) zero = refl
fresh_row (suc n) (suc b) = fresh_row n b

fresh_latest : (n b : ℕ) → slice_index_or (replicate n no_latest) b no_latest ≡ no_latest
fresh_latest zero b = refl
fresh_latest (suc n) zero = refl
fresh_latest (suc n) (suc b) = fresh_latest n b

unless : (s c : Bool) → (s ≡ true → c ≡ true) → c ≡ false → s ≡ false
unless true c f g = absurd (yes_no c (f refl) g)
unless false c f g = refl

-- at the start
pub is_fresh : (n size : ℕ) (w : Walk) → size < suc no_register → w ≡ fresh n → IsFresh n 0 size w
is_fresh n size w few is = subst (IsFresh n 0 size) (sym is) (record {
  few = omega (arith, few);
  live = length-replicate {A = ℕ} n no_register;
  latest = length-replicate {A = Latest} n no_latest;
  unseen = λ b u low high. ap (λ m. m == u) (fresh_row n b) ∙ differ no_register u (λ e. omega (arith, few, high, e));
  untouched = λ b u low high. ap (λ (l : Latest). l.register == u) (fresh_latest n b) ∙ differ no_register u (λ e. omega (arith, few, high, e));
  work = refl;
})

module _ (v size : ℕ) (bs : List (Block ℕ Note)) (w : Walk) (small : v < size) (h : IsFresh (length bs) v size w) where
  -- before the first access
  untaken : Taken v bs (restarted w) [] (all v bs) (restarted w)
  untaken = record {
    live_size = h.live;
    latest_size = h.latest;
    low = λ b s. ap (λ t. if t then (slice_index_or w.latest b no_latest).at else s) (h.untouched b v (omega arith) small);
    touch = λ b. h.untouched b v (omega arith) small;
    live_is = λ b. h.unseen b v (omega arith) small;
    work = λ b e. absurd (yes_no (is_live v w b) e (h.unseen b v (omega arith) small));
    worked = λ b k. absurd (let lt = k.1 in omega (arith, lt));
    sound = tt;
    covered = λ b x q e t. inr t;
    other_live = λ u b d e. e;
    other_touch = λ u b d e. e;
  }

  register : v < no_register
  register = let few = h.few in omega (arith, small, few)

  pub taken_all : (accesses : List Access) (u : Walk) → accesses ≡ all v bs → u ≡ all_taken v accesses (restarted w) → Walks v bs (restarted w) u
  taken_all accesses u is made =
      begins v bs (restarted w) u register
      (subst (Taken v bs (restarted w) (all v bs) []) (sym (made ∙ ap (λ ls. all_taken v ls (restarted w)) is))
      (take_all v bs (restarted w) [] (all v bs) (restarted w) register refl (all_stand v bs) untaken))

  -- after the last block, when nothing is left to be visited
  pub still_fresh : (k u : Walk) → Walks v bs (restarted w) k → u.live ≡ k.live → u.latest ≡ k.latest → length u.work ≡ 0 → IsFresh (length bs) (v + 1) size u
  still_fresh k u walks live latest none = record {
    few = h.few;
    live = ap length live ∙ walks.live_size;
    latest = ap length latest ∙ walks.latest_size;
    unseen = λ b r low high. unless (is_live r u b) (is_live r w b)
        (λ e. walks.other_live r b (λ s. omega (arith, low, s)) (sym (ap (λ l. slice_index_or l b no_register == r) live) ∙ e)) (h.unseen b r (omega (arith, low)) high);
    untouched = λ b r low high. unless (is_touched r u b) (is_touched r w b)
        (λ e. walks.other_touch r b (λ s. omega (arith, low, s)) (sym (ap (λ (l : List Latest). (slice_index_or l b no_latest).register == r) latest) ∙ e)) (h.untouched b r (omega (arith, low)) high);
    work = empty u.work none;
  }
    where
      empty : (xs : List ℕ) → length xs ≡ 0 → xs ≡ []
      empty [] e = refl
      empty (x ∷ xs) e = absurd (omega (arith, e))
