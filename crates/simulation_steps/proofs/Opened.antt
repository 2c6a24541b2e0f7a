-- What an image opens can be read and written in each memory whose blocks lie as those of the image.
use Rattle.std.proofs.Common.{◌≡◌, inl, inr, ℕ, ◌-◌, Bool, true, false, List, [], ◌∷◌, Option, Some, refl, ap, arith}
use Rattle.std.specs.Prelude.{◌&&◌, if◌then◌else◌}
use Rattle.std.specs.Option.{option_map}
use Rattle.std.proofs.lemmas.Bool.Decides.{nat_tests}
use Rattle.rv_core.specs.declared.row.Width.{Width}
use Rattle.rv_core.specs.Arithmetic.{byte_count}
use Rattle.rv_core.specs.Memory.{Block, holds_span, number_at, with_number, read_from, written_to}
use Rattle.rv_core.specs.Stores.{frame_of, frames_of}
use Rattle.simulation_relation.specs.Layouts.{Opens, AreOpen}

both : (a b : Bool) → a ≡ true → b ≡ true → (a && b) ≡ true
both true true e d = refl
both true false e d = d
both false b e d = e

holds : (b : Block) (a n : ℕ) → Opens (frame_of b) a n → holds_span b a n ≡ true
holds b a n h =
    let from = h.from in
    let to = h.to in
    grind (arith, nat_tests)

pub can_read : (w : Width) (bs : List Block) (a : ℕ) → AreOpen (frames_of bs) a (byte_count w) → (n : ℕ) × (read_from (λ b. b.read) w bs a ≡ Some n)
can_read w [] a h = absurd h
can_read w (b ∷ bs) a (inl h) = (
  number_at w b.bytes (a - b.at),
  ap (λ t. if t then Some (number_at w b.bytes (a - b.at)) else read_from (λ c. c.read) w bs a) (both b.read (holds_span b a (byte_count w)) h.read (holds b a (byte_count w) h)),
)
can_read w (b ∷ bs) a (inr h) = by_block (b.read && holds_span b a (byte_count w)) (can_read w bs a h)
  where
    by_block : (t : Bool) → (n : ℕ) × (read_from (λ c. c.read) w bs a ≡ Some n) → (n : ℕ) × ((if t then Some (number_at w b.bytes (a - b.at)) else read_from (λ c. c.read) w bs a) ≡ Some n)
    by_block true r = (number_at w b.bytes (a - b.at), refl)
    by_block false r = r

mapped : (b : Block) (o : Option (List Block)) (after : List Block) → o ≡ Some after → option_map (λ rest. b ∷ rest) o ≡ Some (b ∷ after)
mapped b o after e = ap (option_map (λ rest. b ∷ rest)) e

pub can_write : (w : Width) (bs : List Block) (a v : ℕ) → AreOpen (frames_of bs) a (byte_count w) → (after : List Block) × (written_to w bs a v ≡ Some after)
can_write w [] a v h = absurd h
can_write w (b ∷ bs) a v (inl h) = (
  (record b { bytes = with_number w b.bytes (a - b.at) v }) ∷ bs,
  ap (λ t. if t then Some ((record b { bytes = with_number w b.bytes (a - b.at) v }) ∷ bs) else option_map (λ rest. b ∷ rest) (written_to w bs a v)) (both b.write (holds_span b a (byte_count w)) h.write (holds b a (byte_count w) h)),
)
can_write w (b ∷ bs) a v (inr h) = by_block (b.write && holds_span b a (byte_count w)) (can_write w bs a v h)
  where
    by_block : (t : Bool) → (after : List Block) × (written_to w bs a v ≡ Some after) → (after : List Block) × ((if t then Some ((record b { bytes = with_number w b.bytes (a - b.at) v }) ∷ bs) else option_map (λ rest. b ∷ rest) (written_to w bs a v)) ≡ Some after)
    by_block true r = ((record b { bytes = with_number w b.bytes (a - b.at) v }) ∷ bs, refl)
    by_block false r = (b ∷ r.0, mapped b (written_to w bs a v) r.0 r.1)
