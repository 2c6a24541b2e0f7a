-- One section is read behind the other.
use Rattle.std.proofs.Common.{◌≡◌, ℕ, suc, ◌+◌, ◌<◌, List, [], ◌∷◌, ◌++◌, length, map, false, refl, ap, ◌∙◌, arith}
use Rattle.report_words.specs.Words.{Word, Line, line_text, lines_text}
use Rattle.report_text.specs.Lines.{paired}
use Rattle.report_rules.specs.Rules.{Rule}
use Rattle.report_reading.specs.Plain.{ArePlain}
use Rattle.report_reading.specs.Texts.{lines_of}
use Rattle.report_reading.specs.Sections.{Outcome, Goes, and_then, one, maybe, many, has_tag, starts}
use Rattle.report_reading.proofs.PlainLemmas.{line_read_back}
use Rattle.report_reading.proofs.SectionLemmas.{maybe-none}
use Rattle.report_laws.proofs.Fine.{IsFine, AreFine, no_lines, one_more, AreRead}
use Rattle.report_laws.proofs.Gone.{Gone, ended}
use Rattle.report_laws.proofs.ChainLemmas.{many_read, one_read, maybe_read}

pub gone_then : {S T : Type 0} → (o : Outcome S) (k : S → ℕ → List Line → Outcome T) (s : S) (mid : List Line) (t : T) (rest : List Line) → Gone o s mid → ((n : ℕ) → Gone (k s n mid) t rest) → Gone (and_then o k) t rest
gone_then o k s mid t rest g f = record { number = (f g.number).number; is = ap (λ p. and_then p k) g.is ∙ (f g.number).is }

pub gone_at : {S : Type 0} → (s : S) (n : ℕ) (rest : List Line) → Gone (Goes s n rest) s rest
gone_at s n rest = record { number = n; is = refl }

pub gone_many : {S : Type 0} → (r : Rule S) (s : S) (n : ℕ) (ls rest : List Line) → (read : AreRead r s ls) → 0 < length rest → starts r.tag rest ≡ false → Gone (many r s n (ls ++ rest)) read.last rest
gone_many r s n ls rest read more e = record { number = n + length ls; is = many_read r s read.last n ls rest read.fine more e }

pub gone_one : {S : Type 0} → (r : Rule S) (s next : S) (n : ℕ) (l : Line) (rest : List Line) → IsFine r s l next → 0 < length rest → Gone (one r s n (l ∷ rest)) next rest
gone_one r s next n l rest fine more = record { number = suc n; is = one_read r s next n l rest fine more }

pub gone_maybe : {S : Type 0} → (r : Rule S) (s next : S) (n : ℕ) (l : Line) (rest : List Line) → IsFine r s l next → 0 < length rest → Gone (maybe r s n (l ∷ rest)) next rest
gone_maybe r s next n l rest fine more = record { number = suc n; is = maybe_read r s next n l rest fine more }

pub gone_without : {S : Type 0} → (r : Rule S) (s : S) (n : ℕ) (rest : List Line) → starts r.tag rest ≡ false → Gone (maybe r s n rest) s rest
gone_without r s n rest e = record { number = n; is = maybe-none r s n rest e }

-- lines of another kind are next

pub skip_one : (tag : Word) (l : Line) (rest : List Line) → has_tag tag l ≡ false → starts tag (l ∷ rest) ≡ false
skip_one tag l [] e = refl
skip_one tag l (m ∷ ms) e = e

pub skip_map : {X : Type 0} → (tag : Word) (f : X → Line) (xs : List X) (rest : List Line) → ((x : X) → has_tag tag (f x) ≡ false) → starts tag rest ≡ false → starts tag (map f xs ++ rest) ≡ false
skip_map tag f [] rest e s = s
skip_map tag f (x ∷ xs) rest e s = skip_one tag (f x) (map f xs ++ rest) (e x)

pub skip_paired : {X Y : Type 0} → (tag : Word) (f : X → Y → Line) (xs : List X) (ys : List Y) (rest : List Line) → ((x : X) (y : Y) → has_tag tag (f x y) ≡ false) → starts tag rest ≡ false → starts tag (paired f xs ys ++ rest) ≡ false
skip_paired tag f [] ys rest e s = s
skip_paired tag f (x ∷ xs) [] rest e s = s
skip_paired tag f (x ∷ xs) (y ∷ ys) rest e s = skip_one tag (f x y) (paired f xs ys ++ rest) (e x y)

-- lines of plain words are read as such

abbrev pub Plains : List Line → Type 0
Plains [] = Unit {0}
Plains (l ∷ ls) = ((0 < length l) × ArePlain l) × Plains ls

plain_line : (l : Line) (rest : List ℕ) → (0 < length l) × ArePlain l → lines_of (line_text l ++ rest) ≡ l ∷ lines_of rest
plain_line [] rest p = absurd (omega (arith, p.0))
plain_line (w ∷ ws) rest p = line_read_back w ws rest p.1.0 p.1.1

pub lines_back : (ls : List Line) → Plains ls → lines_of (lines_text ls) ≡ ls ++ ended
lines_back [] p = refl
lines_back (l ∷ ls) p = plain_line l (lines_text ls) p.0 ∙ ap (λ k. l ∷ k) (lines_back ls p.1)

pub plains_both : (ks ls : List Line) → Plains ks → Plains ls → Plains (ks ++ ls)
plains_both [] ls p q = q
plains_both (k ∷ ks) ls p q = (p.0, plains_both ks ls p.1 q)

pub plain_one : {S : Type 0} → (r : Rule S) (s next : S) (l : Line) (ls : List Line) → IsFine r s l next → Plains ls → Plains (l ∷ ls)
plain_one r s next l ls fine p = ((omega (arith, ap length fine.tagged), fine.plain), p)

pub plain_many : {S : Type 0} → (r : Rule S) (s last : S) (ls : List Line) → AreFine r s ls last → Plains ls
plain_many r s last [] (no_lines t) = tt
plain_many r s last (l ∷ ls) (one_more t mid u k ks fine fines) = plain_one r s mid l ls fine (plain_many r mid last ls fines)
