-- What the getters say of the rows.
use Rattle.std.proofs.Common.{◌≡◌, ◌≤◌, ◌<◌, ◌^◌, ◌∙◌, ℕ, pos, Option, Some, Bor, option_map, Result, Ok, Err, refl, sym, ap, arith, rules}
use Rattle.std.specs.Str.Parse.{ParsesUnsigned}
use Rattle.clap.specs.Words.{Text, first_of, first_value, rows_of, NarrowsTo}
use Rattle.clap.specs.Values.{IsUnsignedIn}
use Rattle.clap.specs.declared.builder.value_parser.ValueParser.{ValueParser}
use Rattle.clap.specs.declared.builder.value_parser.ValueParser.TheVariants as parser
use Rattle.clap.specs.declared.parser.matches.Found.{Found}
use Rattle.clap.proofs.WalkLemmas.{first_value-rows}
use Rattle.command_words.specs.Values.{number_of}
use Rattle.std.proofs.lemmas.Int.{ints}
use Rattle.std.specs.Ordering.{nat_cmp, ord_max, ord_min}
use Rattle.std.specs.Cmp.{nat_cmp_is}
use Rattle.std.specs.Int.{saturate_unsigned}
use Rattle.std.proofs.Common.{w64, to_z, of_z, Less, Greater, zero, suc}

pub first_of-read : (f : Found) (id : Text) (r : Option (Bor Text)) (o : Option Text) → option_map (λ s. s.now) r ≡ first_value f id
    → option_map (λ s. s.now) r ≡ o → first_of id (rows_of f) ≡ o
first_of-read f id r o e h = sym (first_value-rows f id) ∙ (sym e ∙ h)

pub number_of-read : {E : Type 0} (f : Found) (id t : Text) (n : ℕ) (r : Result ℕ E) → first_of id (rows_of f) ≡ Some t
    → ParsesUnsigned 64 10 t r → r ≡ Ok n → Some n ≡ number_of id (rows_of f)
number_of-read f id t n (Ok m) first p e =
    let same : n ≡ m = grind rules in
    rw (first, same) (ap Some p.1)
number_of-read f id t n (Err x) first p e = cc

pub read_in : {E : Type 0} (t : Text) (least most n : ℕ) (r : Result ℕ E) → IsUnsignedIn least most t
    → ParsesUnsigned 64 10 t r → r ≡ Ok n → (least ≤ n) × (n ≤ most)
read_in t least most n (Ok m) h p e =
    let same : n ≡ m = grind rules in
    rw (same, p.1) (h.2, h.3)
read_in t least most n (Err x) h p e = cc

pub never_unread : {E : Type 0} (t : Text) (least most : ℕ) (r : Result ℕ E) (x : E) → IsUnsignedIn least most t
    → ParsesUnsigned 64 10 t r → r ≡ Err x → ⊥
never_unread t least most (Ok m) x h p e = cc
never_unread t least most (Err y) x h p e = p (h.0, h.1)

at_least_none : (n : ℕ) → ord_max nat_cmp 0 n ≡ n
at_least_none zero = refl
at_least_none (suc n) = rw (← nat_cmp_is (suc n) 0 Greater (omega arith))

at_most_large : (n : ℕ) → n < 2 ^ 63 → ord_min nat_cmp 18446744073709551615 n ≡ n
at_most_large n h = rw (← nat_cmp_is n 18446744073709551615 Less (omega arith))

saturated : (n : ℕ) → n < 2 ^ 32 → saturate_unsigned w64 (pos n) ≡ n
saturated n h = omega (arith, ints)

pub narrowed : (least most : ℕ) (r : ValueParser) → least < 2 ^ 32 → most < 2 ^ 63
    → NarrowsTo (parser.Unsigned 0 18446744073709551615) (Some (pos least)) (Some (pos most)) r → r ≡ parser.Unsigned least most
narrowed least most r a b h =
    let low : ord_max nat_cmp 0 (saturate_unsigned w64 (pos least)) ≡ least = rw (saturated least a) (at_least_none least) in
    let high : ord_min nat_cmp 18446744073709551615 most ≡ most = at_most_large most b in
    rw (low, high) at h

pub signed_small : (n : ℕ) → n < 2 ^ 63 → to_z w64 n ≡ pos n
signed_small n h = omega (arith, ints)

pub signed_again : (n : ℕ) → n < 2 ^ 32 → to_z w64 (of_z w64 (pos n)) ≡ pos n
signed_again n h = omega (arith, ints)
