-- A text of blanks is a piece where no blank follows it.
use Rattle.std.proofs.Common.{◌≡◌, inl, inr, ℕ, ◌+◌, ◌<◌, ◌≤◌, Bool, true, false, ◌&&◌, ◌||◌, nat_eq, if◌then◌else◌, List, [], ◌∷◌, ◌++◌, length, drop, refl, sym, subst, ◌∙◌, arith}
use Rattle.std.specs.Prelude.{slice_index}
use Rattle.std.proofs.lemmas.Bool.{and_parts, or_parts, eqb-true, eqb-false, true≢false}
use Rattle.std.proofs.lemmas.Bool.Decides.{nat_tests}
use Rattle.c_tree.specs.Bytes.{IsBlankByte, Each, Stands, is_blank}
use Rattle.c_lexer.specs.declared.pieces.Form.TheVariants as forms
use Rattle.c_lexer.specs.declared.pieces.Kind.TheVariants as kinds
use Rattle.c_lexer.specs.Bytes.{IsOnLine}
use Rattle.c_lexer.specs.Cut.{IsFresh, StandsAt}
use Rattle.c_lexer.proofs.Longest.{longest_blank}
use Rattle.command_numbered.proofs.Standing.{Have, each_there, ends_inside, next_is, stands}

abbrev pub are_blanks : List ℕ → Bool
are_blanks [] = true
are_blanks (b ∷ bytes) = is_blank b && are_blanks bytes

abbrev pub has_feed : List ℕ → Bool
has_feed [] = false
has_feed (b ∷ bytes) = nat_eq b 10 || has_feed bytes

blank_byte : (b : ℕ) → is_blank b ≡ true → IsBlankByte b
blank_byte b h = grind (arith, nat_tests)

have_blanks : (bytes : List ℕ) → are_blanks bytes ≡ true → Have IsBlankByte bytes
have_blanks [] h = tt
have_blanks (b ∷ bytes) h = let p = and_parts (is_blank b) (are_blanks bytes) h in (blank_byte b p.0, have_blanks bytes p.1)

have_line : (bytes : List ℕ) → has_feed bytes ≡ false → Have IsOnLine bytes
have_line [] h = tt
have_line (b ∷ bytes) h = let p = or_parts (nat_eq b 10) (has_feed bytes) h in (eqb-false b 10 p.0, have_line bytes p.1)

feed_there : (bytes source : List ℕ) (at : ℕ) → has_feed bytes ≡ true → Stands source at bytes → Each IsOnLine source at (at + length bytes) → ⊥
feed_there [] source at h stands each = true≢false (sym h)
feed_there (b ∷ bytes) source at h stands each = here (λ k. feed_there bytes source (at + 1) k stands.1 (λ i after before. each i (omega (arith, after)) (omega (arith, before)))) (nat_eq b 10) refl h
  where
    here : (has_feed bytes ≡ true → ⊥) → (t : Bool) → nat_eq b 10 ≡ t → (t || has_feed bytes) ≡ true → ⊥
    here later true e k = each at (omega arith) (omega arith) (stands.0 ∙ eqb-true b 10 e)
    here later false e k = later k

-- a line begins behind blanks with a line feed
abbrev pub fresh_behind : (bytes : List ℕ) → Bool → Bool
fresh_behind bytes fresh = if has_feed bytes then true else fresh

module _ (fresh : Bool) (source : List ℕ) (at : ℕ) (inside : at ≤ length source) (bytes rest : List ℕ) (there : drop at source ≡ bytes ++ rest) where
  abbrev end : ℕ
  end = at + length bytes

  line_is : (t : Bool) → has_feed bytes ≡ t → IsFresh forms.Blank fresh (if t then true else fresh) source at end
  line_is true h = inr (feed_there bytes source at h (stands source at inside bytes rest there), refl)
  line_is false h = inl (each_there IsOnLine bytes source at (have_line bytes h) (stands source at inside bytes rest there), refl)

  pub blanks_stand : 0 < length bytes → are_blanks bytes ≡ true → (IsBlankByte (slice_index rest 0) → ⊥)
      → StandsAt (record { form = forms.Blank; kind = kinds.Blank; end = end; fresh = fresh_behind bytes fresh }) fresh source at
  blanks_stand some blanks stop = record {
    longest = longest_blank fresh source at end (omega (arith, some)) (ends_inside source at inside bytes rest there)
        (each_there IsBlankByte bytes source at (have_blanks bytes blanks) (stands source at inside bytes rest there)) (λ _ h. stop (subst IsBlankByte (next_is source at bytes rest there) h));
    kind = refl;
    line = line_is (has_feed bytes) refl;
  }
