-- Each line of a report is read by its rule.
use Rattle.std.proofs.Common.{◌≡◌, ℕ, suc, ◌^◌, ◌<◌, ◌≤◌, ◌&&◌, ◌||◌, ◌==◌, ◌⊎◌, inl, inr, ⊎_elim, ℤ, Bool, true, false, ◌++◌, refl, sym, ap, ◌∙◌, arith, nat_lt, nat_le, if◌then◌else◌, Option, Some, None, MatchOption}
use Rattle.std.proofs.lemmas.Int.{ints}
use Rattle.std.specs.Fmt.{decimal}
use borrow.Author.Tests.{le-leb, lt-ltb, eq-eqb, leb-false}
use Rattle.code_flow_system.specs.declared.claims.Never.{Never}
use Rattle.code_flow_system.specs.declared.claims.Within.{Within}
use Rattle.code_flow_system.specs.declared.claims.LoopClaim.{LoopClaim}
use Rattle.code_flow_system.specs.declared.cert.Part.{Part}
use Rattle.code_flow_system.specs.Certificates.{IsSmall, IsPart}
use Rattle.report_words.specs.Words.{Word, address_word, is_name}
use Rattle.report_words.specs.Shapes.{is_dash, are_letters}
use Rattle.report_words.specs.Numbers.{number_of, address_of, is_address}
use Rattle.report_words.proofs.WordLemmas.{is_address-address_word, address_of-address_word}
use Rattle.report_text.specs.declared.entries.Share.{Share}
use Rattle.report_text.specs.Forms.{NamesOne, IsShare}
use Rattle.report_text.specs.Lines.{exit_line, never_line, letter, region_line, loop_line, scale_line, potential_line, unit_line, flow_line, share_name, share_line}
use Rattle.report_rules.specs.ClaimRules.{exit_rule, never_rule, Reach, region_rule, loop_rule}
use Rattle.report_rules.specs.CertRules.{IsUnit, scale_rule, potential_rule, unit_rule, LeastMove, flow_rule, share_rule}
use Rattle.report_reading.specs.Plain.{IsPlain}
use Rattle.report_reading.proofs.PlainLemmas.{decimal_plain, signed_plain, address_plain, name_plain}
use Rattle.report_laws.specs.Typed.{IsWord, IsTypedNever, IsTypedWithin, IsTypedLoop, IsTypedPart, IsTypedShare}
use Rattle.report_laws.proofs.Fine.{IsFine}
use Rattle.report_laws.proofs.WordsBack.{and_both, number_form, number_back, number_range, signed_form, signed_range, amount_form, amount_range}

is_place : (a : ℕ) → is_address (address_word a) ≡ true
is_place a = is_address-address_word a

place_back : (a : ℕ) → IsWord a → address_of (address_word a) ≡ a
place_back a word = address_of-address_word a word

above : (least a : ℕ) → IsWord a → least ≤ a → nat_le least (address_of (address_word a)) ≡ true
above least a word le = le-leb least (address_of (address_word a)) (let same = place_back a word in omega (arith, same, le))

pub exit_fine : (least a : ℕ) → IsWord a → least ≤ a → IsFine exit_rule least (exit_line a) (suc a)
exit_fine least a word le = record {
  plain = (record { unspaced = refl; unended = refl }, (address_plain a, tt));
  tagged = refl;
  stands = record { stands = (λ i. (is_place a i && true) && above least a word le i); in_range = refl };
  next_is = ap suc (place_back a word);
}

pub never_fine : (least : ℕ) (c : Never) (m : ℤ) → IsTypedNever c → IsSmall m → least ≤ c.at → IsFine never_rule least (never_line c m) (suc c.at)
never_fine least c m t s le = record {
  plain = (record { unspaced = refl; unended = refl }, (decimal_plain c.source (omega (arith, t.source)), (decimal_plain c.factor (omega (arith, t.factor)), (address_plain c.at, (signed_plain m (omega (arith, s)), tt)))));
  tagged = refl;
  stands = record {
    stands = (λ i. (number_form c.source (omega (arith, t.source)) i && (number_form c.factor (omega (arith, t.factor)) i && (is_place c.at i && (signed_form m s i && true)))) && above least c.at t.at le i);
    in_range = (λ i. number_range 0 4294967295 c.source (omega (arith, t.source)) (omega arith) (omega (arith, t.source)) i && (number_range 0 4294967295 c.factor (omega (arith, t.factor)) (omega arith) (omega (arith, t.factor)) i && (true && (signed_range m s i && true))));
  };
  next_is = ap suc (place_back c.at t.at);
}

pub loop_fine : (least : ℕ) (c : LoopClaim) (m : ℤ × ℤ) → IsTypedLoop c → IsSmall m.0 × IsSmall m.1 → least ≤ c.header → IsFine loop_rule least (loop_line c m) (suc c.header)
loop_fine least c m t s le = record {
  plain = (record { unspaced = refl; unended = refl }, (decimal_plain c.source (omega (arith, t.source)), (decimal_plain c.factor (omega (arith, t.factor)), (decimal_plain c.min (omega (arith, t.min)), (decimal_plain c.max (omega (arith, t.max)), (address_plain c.header, (address_plain c.back, (signed_plain m.0 (omega (arith, s.0)), (signed_plain m.1 (omega (arith, s.1)), tt)))))))));
  tagged = refl;
  stands = record {
    stands = (λ i. (number_form c.source (omega (arith, t.source)) i && (number_form c.factor (omega (arith, t.factor)) i && (number_form c.min (omega (arith, t.min)) i && (number_form c.max (omega (arith, t.max)) i
        && (is_place c.header i && (is_place c.back i && (signed_form m.0 s.0 i && (signed_form m.1 s.1 i && true)))))))) && above least c.header t.header le i);
    in_range = (λ i. number_range 0 4294967295 c.source (omega (arith, t.source)) (omega arith) (omega (arith, t.source)) i && (number_range 0 4294967295 c.factor (omega (arith, t.factor)) (omega arith) (omega (arith, t.factor)) i
        && (number_range 0 4294967295 c.min (omega (arith, t.min)) (omega arith) (omega (arith, t.min)) i && (number_range 0 4294967295 c.max (omega (arith, t.max)) (omega arith) (omega (arith, t.max)) i
        && (true && (true && (signed_range m.0 s.0 i && (signed_range m.1 s.1 i && true))))))));
  };
  next_is = ap suc (place_back c.header t.header);
}

letters_form : (f s r : Bool) → (f || (s || r)) ≡ true → are_letters (letter f 102 ++ (letter s 115 ++ letter r 114)) ≡ true
letters_form true true true e = refl
letters_form true true false e = refl
letters_form true false true e = refl
letters_form true false false e = refl
letters_form false true true e = refl
letters_form false true false e = refl
letters_form false false true e = refl
letters_form false false false e = e

letters_plain : (f s r : Bool) → IsPlain (letter f 102 ++ (letter s 115 ++ letter r 114))
letters_plain true true true = record { unspaced = refl; unended = refl }
letters_plain true true false = record { unspaced = refl; unended = refl }
letters_plain true false true = record { unspaced = refl; unended = refl }
letters_plain true false false = record { unspaced = refl; unended = refl }
letters_plain false true true = record { unspaced = refl; unended = refl }
letters_plain false true false = record { unspaced = refl; unended = refl }
letters_plain false false true = record { unspaced = refl; unended = refl }
letters_plain false false false = record { unspaced = refl; unended = refl }

-- with one more line of regions
abbrev pub reach_with : Reach → Within → Reach
reach_with r w = record { least = suc w.first; end = if nat_le w.end w.first then r.end else w.end }

hollow_or : (t u : Bool) → (t ≡ false → u ≡ true) → (t || u) ≡ true
hollow_or true u e = refl
hollow_or false u e = e refl

pub region_fine : (r : Reach) (w : Within) → IsTypedWithin w → NamesOne w → r.least ≤ w.first → (w.first < w.end → r.end ≤ w.first) → IsFine region_rule r (region_line w) (reach_with r w)
region_fine r w t named le behind = record {
  plain = (record { unspaced = refl; unended = refl }, (address_plain w.first, (address_plain w.end, (letters_plain w.flash w.spm w.ram, tt))));
  tagged = refl;
  stands = record {
    stands = (λ i. (is_place w.first i && (is_place w.end i && (letters_form w.flash w.spm w.ram named i && true))) && (above r.least w.first t.first le i && hollow i));
    in_range = refl;
  };
  next_is = (λ i. record { least = suc (place_back w.first t.first i); end = if nat_le (place_back w.end t.end i) (place_back w.first t.first i) then r.end else place_back w.end t.end i });
}
  where
    hollow : (nat_le (address_of (address_word w.end)) (address_of (address_word w.first)) || nat_le r.end (address_of (address_word w.first))) ≡ true
    hollow = hollow_or (nat_le (address_of (address_word w.end)) (address_of (address_word w.first))) (nat_le r.end (address_of (address_word w.first)))
        (λ e. let one = place_back w.first t.first in let two = place_back w.end t.end in
        le-leb r.end (address_of (address_word w.first)) (let lt = leb-false (address_of (address_word w.end)) (address_of (address_word w.first)) e in let b = behind (omega (arith, one, two, lt)) in omega (arith, one, b)))

pub scale_fine : (n : ℕ) → (0 < n) × (n ≤ 2 ^ 48) → IsFine scale_rule tt (scale_line n) tt
scale_fine n range = record {
  plain = (record { unspaced = refl; unended = refl }, (decimal_plain n (omega (arith, range)), tt));
  tagged = refl;
  stands = record { stands = (λ i. number_form n (omega (arith, range)) i && true); in_range = (λ i. number_range 1 281474976710656 n (omega (arith, range)) (omega (arith, range)) (omega (arith, range)) i && true) };
  next_is = refl;
}

pub potential_fine : (least : ℕ) (p : ℕ × ℤ) → IsWord p.0 → IsSmall p.1 → least ≤ p.0 → IsFine potential_rule least (potential_line p) (suc p.0)
potential_fine least p word s le = record {
  plain = (record { unspaced = refl; unended = refl }, (address_plain p.0, (signed_plain p.1 (omega (arith, s)), tt)));
  tagged = refl;
  stands = record { stands = (λ i. (is_place p.0 i && (signed_form p.1 s i && true)) && above least p.0 word le i); in_range = (λ i. true && (signed_range p.1 s i && true)) };
  next_is = ap suc (place_back p.0 word);
}

pub unit_fine : (greatest : Bool) (n : ℕ) → IsUnit greatest n → IsFine unit_rule greatest (unit_line n) greatest
unit_fine true n range = record {
  plain = (record { unspaced = refl; unended = refl }, (decimal_plain n (omega (arith, range)), tt));
  tagged = refl;
  stands = record { stands = (λ i. number_form n (omega (arith, range)) i && true); in_range = (λ i. number_range 1 281474976710656 n (omega (arith, range)) (omega (arith, range)) (omega (arith, range)) i && true) };
  next_is = refl;
}
unit_fine false n is = record {
  plain = (record { unspaced = refl; unended = refl }, (decimal_plain n (omega (arith, is)), tt));
  tagged = refl;
  stands = record { stands = (λ i. number_form n (omega (arith, is)) i && true); in_range = (λ i. number_range 0 0 n (omega (arith, is)) (omega arith) (omega (arith, is)) i && true) };
  next_is = refl;
}

or_else : (t u : Bool) → (t ≡ true) ⊎ (u ≡ true) → (t || u) ≡ true
or_else t u (inl e) = ap (λ b. b || u) e
or_else true u (inr e) = refl
or_else false u (inr e) = e

-- the move comes behind the least one
abbrev pub IsBehind : LeastMove → Part → Type 0
IsBehind l p = (l.at < p.at) ⊎ ((l.at ≡ p.at) × (l.number ≤ p.number))

pub flow_fine : (l : LeastMove) (p : Part) → IsTypedPart p → IsPart p → IsBehind l p → IsFine flow_rule l (flow_line p) (record { at = p.at; number = suc p.number })
flow_fine l p t part behind = record {
  plain = (record { unspaced = refl; unended = refl }, (address_plain p.at, (decimal_plain p.number (omega (arith, t.number)), (signed_plain p.part (omega (arith, part.small)), tt))));
  tagged = refl;
  stands = record {
    stands = (λ i. (is_place p.at i && (number_form p.number (omega (arith, t.number)) i && (amount_form p.part (omega (arith, ints, part.positive)) part.small i && true))) && later i);
    in_range = (λ i. true && (number_range 0 255 p.number (omega (arith, t.number)) (omega arith) (omega (arith, t.number)) i && (amount_range 1 p.part (omega (arith, ints, part.positive)) part.small i && true)));
  };
  next_is = (λ i. record { at = place_back p.at t.at i; number = suc (number_back p.number (omega (arith, t.number)) i) });
}
  where
    same : address_of (address_word p.at) ≡ p.at
    same = place_back p.at t.at

    number : number_of (decimal p.number) ≡ p.number
    number = number_back p.number (omega (arith, t.number))

    later : (nat_lt l.at (address_of (address_word p.at)) || ((l.at == address_of (address_word p.at)) && nat_le l.number (number_of (decimal p.number)))) ≡ true
    later = or_else (nat_lt l.at (address_of (address_word p.at))) ((l.at == address_of (address_word p.at)) && nat_le l.number (number_of (decimal p.number)))
        (⊎_elim (λ lt. inl (lt-ltb l.at (address_of (address_word p.at)) (omega (arith, same, lt))))
        (λ e. inr (and_both (l.at == address_of (address_word p.at)) (nat_le l.number (number_of (decimal p.number))) (eq-eqb l.at (address_of (address_word p.at)) (e.0 ∙ sym same)) (le-leb l.number (number_of (decimal p.number)) (let le = e.1 in omega (arith, number, le)))))
        behind)

label_form : (name : Option Word) → MatchOption name (Unit {0}) (λ n. is_name n ≡ true) → (is_dash (share_name name) || is_name (share_name name)) ≡ true
label_form None e = refl
label_form (Some n) e = or_else (is_dash n) (is_name n) (inr e)

label_plain : (name : Option Word) → MatchOption name (Unit {0}) (λ n. is_name n ≡ true) → IsPlain (share_name name)
label_plain None e = record { unspaced = refl; unended = refl }
label_plain (Some n) e = name_plain n e

pub share_fine : (least : ℕ) (s : Share) → IsTypedShare s → IsShare s → least ≤ s.first → IsFine share_rule least (share_line s) s.end
share_fine least s t is le = record {
  plain = (record { unspaced = refl; unended = refl }, (label_plain s.name is.name, (address_plain s.first, (address_plain s.end, (signed_plain s.part (omega (arith, is.small)), tt)))));
  tagged = refl;
  stands = record {
    stands = (λ i. (label_form s.name is.name i && (is_place s.first i && (is_place s.end i && (amount_form s.part is.least is.small i && true)))) && (filled i && above least s.first t.first le i));
    in_range = (λ i. true && (true && (true && (amount_range 0 s.part is.least is.small i && true))));
  };
  next_is = place_back s.end t.end;
}
  where
    filled : nat_lt (address_of (address_word s.first)) (address_of (address_word s.end)) ≡ true
    filled = let one = place_back s.first t.first in let two = place_back s.end t.end in lt-ltb (address_of (address_word s.first)) (address_of (address_word s.end)) (omega (arith, one, two, is.filled))
