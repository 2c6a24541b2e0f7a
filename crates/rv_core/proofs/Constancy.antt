-- Code never changes: no block is both written and executed.
use Rattle.std.proofs.Common.{◌≡◌, ℕ, suc, ◌-◌, ◌%◌, Option, Some, None, refl, sym, ap, ◌∙◌, subst, List, [], ◌∷◌, Bool, true, false}
use Rattle.std.specs.Prelude.{◌==◌, ◌&&◌, if◌then◌else◌}
use Rattle.std.specs.Option.{option_map}
use Rattle.std.proofs.lemmas.Bool.{and_parts}
use Rattle.rv_core.specs.declared.image.Segment.{Segment}
use Rattle.rv_core.specs.declared.row.Width.{Width}
use Rattle.rv_core.specs.declared.row.Width.TheVariants.{Word}
use Rattle.rv_core.specs.Instructions.{Instruction}
use Rattle.rv_core.specs.Arithmetic.{byte_count}
use Rattle.rv_core.specs.Images.{AreSegments, AreLoadable}
use Rattle.rv_core.specs.Memory.{Block, loaded, holds_span, number_at, with_number, read_from, written_to}
use Rattle.rv_core.specs.Machine.{Running, fetched, performed, done, step}
use Rattle.rv_core.specs.Code.{decoded, word_in, instruction_in}
use Rattle.rv_core.specs.Runs.{Setup, mrun}
use Rattle.rv_core.proofs.Running.{mrun-next}
use Rattle.rv_core.proofs.Stepping.{step-performed}
use Rattle.rv_core.proofs.Keeping.{StoresKeep, mrun-keep}

-- no block may be both written and executed
abbrev pub NoneBoth : List Block → Type 0
NoneBoth [] = Unit {0}
NoneBoth (b ∷ bs) = (b.write ≡ true → b.exec ≡ true → ⊥) × NoneBoth bs

-- the memories have the same code
pub record SameCode (before after : List Block) : Type 0 where
  pub reads : (at : ℕ) → read_from (λ b. b.exec) Word after at ≡ read_from (λ b. b.exec) Word before at
  pub none_both : NoneBoth after

pub SameCode-same : (memory : List Block) → NoneBoth memory → SameCode memory memory
SameCode-same memory n = record { reads = λ at. refl; none_both = n }

-- a block that isn't executed is passed over
passed : (e : Bool) (b : Block) (bs : List Block) (at : ℕ) → b.exec ≡ e → (e ≡ true → ⊥) → read_from (λ c. c.exec) Word (b ∷ bs) at ≡ read_from (λ c. c.exec) Word bs at
passed true b bs at is not = absurd (not refl)
passed false b bs at is not = ap (λ x. if x && holds_span b at (byte_count Word) then Some (number_at Word b.bytes (at - b.at)) else read_from (λ c. c.exec) Word bs at) is

SameCode-cons : (b : Block) (before after : List Block) → (b.write ≡ true → b.exec ≡ true → ⊥) → SameCode before after → SameCode (b ∷ before) (b ∷ after)
SameCode-cons b before after n s = record {
  reads = λ at. ap (λ rest. if b.exec && holds_span b at (byte_count Word) then Some (number_at Word b.bytes (at - b.at)) else rest) (s.reads at);
  none_both = (n, s.none_both);
}

SameCode-written : (w : Width) (b : Block) (bs : List Block) (k v : ℕ) → (b.write ≡ true → b.exec ≡ true → ⊥) → b.write ≡ true → NoneBoth bs → SameCode (b ∷ bs) ((record b { bytes = with_number w b.bytes k v }) ∷ bs)
SameCode-written w b bs k v n is none = record {
  reads = λ at. passed b.exec (record b { bytes = with_number w b.bytes k v }) bs at refl (n is) ∙ sym (passed b.exec b bs at refl (n is));
  none_both = (n, none);
}

found-tail : (b : Block) (bs : List Block) (o : Option (List Block)) (after : List Block) → (b.write ≡ true → b.exec ≡ true → ⊥) → ((rest : List Block) → o ≡ Some rest → SameCode bs rest) → option_map (λ rest. b ∷ rest) o ≡ Some after → SameCode (b ∷ bs) after
found-tail b bs None after n later h = cc
found-tail b bs (Some rest) after n later h =
    let e : b ∷ rest ≡ after = cc in subst (λ x. SameCode (b ∷ bs) x) e (SameCode-cons b bs rest n (later rest refl))

written-by : (found : Bool) (w : Width) (b : Block) (bs : List Block) (at v : ℕ) (after : List Block) → NoneBoth (b ∷ bs) → (b.write && holds_span b at (byte_count w)) ≡ found → ((rest : List Block) → written_to w bs at v ≡ Some rest → SameCode bs rest)
    → (if found then Some ((record b { bytes = with_number w b.bytes (at - b.at) v }) ∷ bs) else option_map (λ rest. b ∷ rest) (written_to w bs at v)) ≡ Some after → SameCode (b ∷ bs) after
written-by true w b bs at v after n is later h =
    let e : (record b { bytes = with_number w b.bytes (at - b.at) v }) ∷ bs ≡ after = cc in
    subst (λ x. SameCode (b ∷ bs) x) e (SameCode-written w b bs (at - b.at) v n.0 (and_parts b.write (holds_span b at (byte_count w)) is).0 n.1)
written-by false w b bs at v after n is later h = found-tail b bs (written_to w bs at v) after n.0 later h

-- a store changes no code
pub written-code : (w : Width) (bs : List Block) (at v : ℕ) (after : List Block) → NoneBoth bs → written_to w bs at v ≡ Some after → SameCode bs after
written-code w [] at v after n h = cc
written-code w (b ∷ bs) at v after n h = written-by (b.write && holds_span b at (byte_count w)) w b bs at v after n refl (λ rest found. written-code w bs at v rest n.1 found) h

-- two stores one after another
pub SameCode-then : (a b c : List Block) → SameCode a b → SameCode b c → SameCode a c
SameCode-then a b c p q = record { reads = λ at. q.reads at ∙ p.reads at; none_both = q.none_both }

-- what a store keeps
pub code-kept : (start : List Block) → StoresKeep (SameCode start)
code-kept start w before at v after is s = SameCode-then start before after s (written-code w before at v after s.none_both is)

-- memories with the same code give the same words
pub fetched-same : (before after : List Block) (pc : ℕ) → SameCode before after → fetched after pc ≡ fetched before pc
unfolding fetched
fetched-same before after pc s = ap (λ o. if pc % 4 == 0 then o else None) (s.reads pc)

segments-apart : (ss : List Segment) → AreSegments ss → NoneBoth (loaded ss)
segments-apart [] h = tt
segments-apart (s ∷ ss) h = (λ w x. h.0.not_both w x, segments-apart ss h.1)

-- what is loaded of an image
pub loaded-apart : (ss : List Segment) → AreLoadable ss → NoneBoth (loaded ss)
loaded-apart ss h = segments-apart ss h.each

-- in each state of a run what is fetched is what stands in the image
pub mrun-fetched : (s : Setup) (n at : ℕ) → AreLoadable s.image.segments → fetched (mrun s n).state.world.memory at ≡ word_in s.image at
mrun-fetched s n at h =
    let start = loaded s.image.segments in
    fetched-same start (mrun s n).state.world.memory at
    (mrun-keep (SameCode start) (code-kept start) s n (SameCode-same start (loaded-apart s.image.segments h)))

-- a running machine performs the image's instruction at its pc
performed-at : (s : Setup) (n : ℕ) (w : Option ℕ) (i : Instruction) → fetched (mrun s n).state.world.memory (mrun s n).state.pc ≡ w → decoded w ≡ Some i → (mrun s n).state.ending ≡ Running
    → step s.costs (mrun s n).state ≡ done s.costs i (mrun s n).state (performed i (mrun s n).state)
performed-at s n None i here is running = absurd cc
performed-at s n (Some w) i here is running = step-performed s.costs (mrun s n).state w i running here is

pub mrun-performs : (s : Setup) (n : ℕ) (i : Instruction) → AreLoadable s.image.segments → (mrun s n).state.ending ≡ Running → instruction_in s.image (mrun s n).state.pc ≡ Some i → (mrun s (suc n)).state ≡ done s.costs i (mrun s n).state (performed i (mrun s n).state)
mrun-performs s n i h running is = mrun-next s n ∙ performed-at s n (word_in s.image (mrun s n).state.pc) i (mrun-fetched s n (mrun s n).state.pc h) is running
