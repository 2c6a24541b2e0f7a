-- Where an address leads, from what its registers hold.
use Rattle.std.proofs.Common.{◌≡◌, ℕ, ◌+◌, ◌%◌, ◌^◌, ◌<◌, true, List, [], ◌∷◌, Option, Some, None, refl, sym, ap, ◌∙◌}
use Rattle.std.specs.Prelude.{slice_index_or}
use Rattle.low_ir.specs.Code.{Base, Fixed, Through, Address}
use Rattle.low_ir.specs.declared.run.Value.{Value}
use Rattle.low_ir.specs.declared.run.Value.TheVariants.{Word, Pointer}
use Rattle.low_ir.specs.Effects.{Did, is_member, only_if, address_reads, resolved}
use Rattle.low_ir.specs.Runs.{Bank, virtual, values, values_cons}

-- what a base means in a bank: an object
abbrev pub Means : List (List ℕ) → Bank → Base ℕ → ℕ → Type 0
Means claims s (Fixed p) o = p ≡ o
Means claims s (Through r c) o = (slice_index_or s r None ≡ Some (Pointer o 0)) × (is_member (slice_index_or claims c []) o ≡ true)

-- and what an offset does: bytes
abbrev pub IsOffset : Bank → Option ℕ → ℕ → Type 0
IsOffset s None n = n ≡ 0
IsOffset s (Some r) n = slice_index_or s r None ≡ Some (Word n)

-- the register of an offset is below n
abbrev pub OffsetBelow : ℕ → Option ℕ → Type 0
OffsetBelow n None = Unit {0}
OffsetBelow n (Some r) = r < n

-- the operands that are read, and where they lead
pub record Leads (claims : List (List ℕ)) (s : Bank) (a : Address ℕ) (o n : ℕ) : Type 0 where
  pub read : List Value
  pub reads_are : values virtual s (address_reads a) ≡ Some read
  pub to : (go : ℕ → ℕ → Option Did) → resolved claims a read go ≡ go o n

module _ (claims : List (List ℕ)) (s : Bank) (displacement : ℕ) where
  leads_by : (b : Base ℕ) (offset : Option ℕ) (o n : ℕ) → Means claims s b o → IsOffset s offset n → Leads claims s (record { base = b; offset = offset; displacement = displacement }) o ((0 + n + displacement) % 2 ^ 32)
  leads_by (Fixed p) None o n is e = record { read = []; reads_are = refl; to = λ go. ap (λ q. go q ((0 + 0 + displacement) % 2 ^ 32)) is ∙ ap (λ m. go o ((0 + m + displacement) % 2 ^ 32)) (sym e) }
  leads_by (Fixed p) (Some r) o n is e = record { read = Word n ∷ []; reads_are = ap (λ v. values_cons v (Some [])) e; to = λ go. ap (λ q. go q ((0 + n + displacement) % 2 ^ 32)) is }
  leads_by (Through q c) None o n h e =
      record {
        read = Pointer o 0 ∷ [];
        reads_are = ap (λ v. values_cons v (Some [])) h.0;
        to = λ go. ap (λ b. only_if b (go o ((0 + 0 + displacement) % 2 ^ 32))) h.1 ∙ ap (λ m. go o ((0 + m + displacement) % 2 ^ 32)) (sym e);
      }
  leads_by (Through q c) (Some r) o n h e =
      record {
        read = Pointer o 0 ∷ Word n ∷ [];
        reads_are = ap (λ v. values_cons v (values_cons (slice_index_or s r None) (Some []))) h.0 ∙ ap (λ v. values_cons (Some (Pointer o 0)) (values_cons v (Some []))) e;
        to = λ go. ap (λ b. only_if b (go o ((0 + n + displacement) % 2 ^ 32))) h.1;
      }

pub leads : (claims : List (List ℕ)) (s : Bank) (b : Base ℕ) (offset : Option ℕ) (displacement o n m : ℕ) → Means claims s b o → IsOffset s offset n → (0 + n + displacement) % 2 ^ 32 ≡ m → Leads claims s (record { base = b; offset = offset; displacement = displacement }) o m
leads claims s b offset displacement o n m means is e =
    let h = leads_by claims s displacement b offset o n means is in
    record { read = h.read; reads_are = h.reads_are; to = λ go. h.to go ∙ ap (go o) e }
