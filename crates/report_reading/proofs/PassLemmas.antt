-- Sections are read line by line, and one behind the other.
use Rattle.std.proofs.Common.{◌≡◌, ℕ, ◌+◌, ◌<◌, List, [], ◌∷◌, ◌++◌, length, map, false, refl, sym, ap, subst, ◌∙◌, arith}
use Rattle.std.proofs.lemmas.List.{length-append}
use Rattle.report_words.specs.Words.{Word, Line, line_text, lines_text}
use Rattle.report_text.specs.Lines.{paired}
use Rattle.report_rules.specs.Rules.{Rule, Stands, IsLine, IsFlaw}
use Rattle.report_rules.specs.declared.flaw.Flaw.{Flaw}
use Rattle.report_reading.specs.declared.fault.ReportFault.{ReportFault}
use Rattle.report_reading.specs.declared.fault.ReportFault.TheVariants as faults
use Rattle.report_reading.specs.Texts.{lines_of}
use Rattle.report_reading.specs.Sections.{Outcome, Goes, and_then, one, maybe, many, starts}
use Rattle.report_reading.specs.Reading.{At, IsNumbered, IsNext, IsRead, Passes, PassesOn, IsPassing, Stops, fault_at}
use Rattle.report_reading.proofs.TextLemmas.{lines_some, line_some, lines_text-snoc, lines_text-append}
use Rattle.report_reading.proofs.SectionLemmas.{many-step, many-none, many-stop, one-step, one-none, one-stop, maybe-step, maybe-none, maybe-stop}

-- what was read

pub nothing_read : (at : At) → IsNumbered at → IsRead at at []
nothing_read at few = record { text = refl; count = omega arith; numbered = few }

pub line_read : (from at after : At) (lines : List Line) (tag : Word) (ws : List Word) → IsRead from at lines → IsNext tag at ws after → IsRead from after (lines ++ (tag ∷ ws) ∷ [])
line_read from at after lines tag ws r next = record {
  text = r.text ∙ ap (λ t. lines_text lines ++ t) next.text ∙ sym (lines_text-snoc lines (tag ∷ ws) after.rest);
  count = omega (arith, r.count, next.number, length-append lines ((tag ∷ ws) ∷ []));
  numbered = next.numbered;
}

pub both_read : (from mid to : At) (ks ls : List Line) → IsRead from mid ks → IsRead mid to ls → IsRead from to (ks ++ ls)
both_read from mid to ks ls r q = record {
  text = r.text ∙ ap (λ t. lines_text ks ++ t) q.text ∙ sym (lines_text-append ks ls to.rest);
  count = omega (arith, r.count, q.count, length-append ks ls);
  numbered = q.numbered;
}

-- lines of a kind

pub begins_passing : {S : Type 0} → (r : Rule S) (s : S) (at : At) → IsNumbered at → IsPassing r s at s at []
begins_passing r s at few = record { same = refl; read = nothing_read at few }

pub passing_step : {S : Type 0} → (r : Rule S) (first : S) (from : At) (s : S) (at : At) (lines : List Line) (ws : List Word) (after : At)
    → IsPassing r first from s at lines → IsNext r.tag at ws after → Stands r s ws → IsPassing r first from (r.next s ws) after (lines ++ (r.tag ∷ ws) ∷ [])
passing_step r first from s at lines ws after p next st = record {
  same = p.same ∙ ap (λ ls. many r s at.number ls) next.lines ∙ many-step r s at.number ws (lines_of after.rest) (lines_some after.rest) st ∙ ap (λ n. many r (r.next s ws) n (lines_of after.rest)) (sym next.number);
  read = line_read from at after lines r.tag ws p.read next;
}

pub passing_ends : {S : Type 0} → (r : Rule S) (first : S) (from : At) (s : S) (at : At) (lines : List Line)
    → IsPassing r first from s at lines → starts r.tag (lines_of at.rest) ≡ false → Passes (many r first) from s at lines
passing_ends r first from s at lines p e = record { goes = p.same ∙ many-none r s at.number (lines_of at.rest) e; read = p.read }

pub passing_stops : {S : Type 0} → (r : Rule S) (first : S) (from : At) (s : S) (at : At) (lines : List Line) (ws : List Word) (after : At) (flaw : Flaw)
    → IsPassing r first from s at lines → IsNext r.tag at ws after → IsFlaw r s ws flaw → Stops (many r first from.number (lines_of from.rest)) (fault_at at.number flaw)
passing_stops r first from s at lines ws after flaw p next is =
    subst (λ o. Stops o (fault_at at.number flaw)) (sym (p.same ∙ ap (λ ls. many r s at.number ls) next.lines)) (many-stop r s at.number ws (lines_of after.rest) flaw (lines_some after.rest) is)

-- a single line

pub one_passes : {S : Type 0} → (r : Rule S) (s : S) (at : At) (ws : List Word) (after : At) → IsNumbered at → IsNext r.tag at ws after → Stands r s ws → Passes (one r s) at (r.next s ws) after ((r.tag ∷ ws) ∷ [])
one_passes r s at ws after few next st = record {
  goes = ap (λ ls. one r s at.number ls) next.lines ∙ one-step r s at.number ws (lines_of after.rest) (lines_some after.rest) st ∙ ap (λ n. Goes (r.next s ws) n (lines_of after.rest)) (sym next.number);
  read = line_read at at after [] r.tag ws (nothing_read at few) next;
}

pub one_stops : {S : Type 0} → (r : Rule S) (s : S) (at : At) (ws : List Word) (after : At) (flaw : Flaw) → IsNext r.tag at ws after → IsFlaw r s ws flaw → Stops (one r s at.number (lines_of at.rest)) (fault_at at.number flaw)
one_stops r s at ws after flaw next is =
    subst (λ ls. Stops (one r s at.number ls) (fault_at at.number flaw)) (sym next.lines) (one-stop r s at.number ws (lines_of after.rest) flaw (lines_some after.rest) is)

-- one behind the other

pub passes_both : {S T : Type 0} → (first : ℕ → List Line → Outcome S) (second : S → ℕ → List Line → Outcome T) (from : At) (s : S) (mid : At) (t : T) (to : At) (ks ls : List Line)
    → Passes first from s mid ks → Passes (second s) mid t to ls → Passes (λ n ls. and_then (first n ls) second) from t to (ks ++ ls)
passes_both first second from s mid t to ks ls p q = record {
  goes = ap (λ o. and_then o second) p.goes ∙ q.goes;
  read = both_read from mid to ks ls p.read q.read;
}

pub stops_first : {S T : Type 0} → (o : Outcome S) (second : S → ℕ → List Line → Outcome T) (fault : ReportFault) → Stops o fault → Stops (and_then o second) fault
stops_first o second (faults.Line n) e = ap (λ o. and_then o second) e
stops_first o second (faults.Number n) e = ap (λ o. and_then o second) e
stops_first o second faults.Memory e = tt

pub stops_second : {S T : Type 0} → (first : ℕ → List Line → Outcome S) (second : S → ℕ → List Line → Outcome T) (from : At) (s : S) (mid : At) (ks : List Line) (fault : ReportFault)
    → Passes first from s mid ks → Stops (second s mid.number (lines_of mid.rest)) fault → Stops (and_then (first from.number (lines_of from.rest)) second) fault
stops_second first second from s mid ks fault p e = subst (λ o. Stops o fault) (sym (ap (λ o. and_then o second) p.goes)) e

-- lines that are written of values

map-snoc : {X : Type 0} → (f : X → Line) (xs : List X) (x : X) → map f (xs ++ x ∷ []) ≡ map f xs ++ f x ∷ []
map-snoc f [] x = refl
map-snoc f (y ∷ ys) x = ap (λ l. f y ∷ l) (map-snoc f ys x)

paired-snoc : {X Y : Type 0} → (f : X → Y → Line) (xs : List X) (ys : List Y) (x : X) (y : Y) → length xs ≡ length ys → paired f (xs ++ x ∷ []) (ys ++ y ∷ []) ≡ paired f xs ys ++ f x y ∷ []
paired-snoc f [] [] x y e = refl
paired-snoc f [] (z ∷ zs) x y e = absurd (omega (arith, e))
paired-snoc f (w ∷ ws) [] x y e = absurd (omega (arith, e))
paired-snoc f (w ∷ ws) (z ∷ zs) x y e = ap (λ l. f w z ∷ l) (paired-snoc f ws zs x y (omega (arith, e)))

-- one more line, whose words are these
line_passes : {S : Type 0} → (r : Rule S) (first : S) (from : At) (s next : S) (at after : At) (lines : List Line) (ws vs : List Word) (line : Line)
    → IsPassing r first from s at lines → IsNext r.tag at ws after → vs ≡ ws → IsLine r s vs line → next ≡ r.next s vs → IsPassing r first from next after (lines ++ line ∷ [])
line_passes r first from s next at after lines ws vs line p n e is same =
    let step = passing_step r first from s at lines vs after p (subst (λ us. IsNext r.tag at us after) (sym e) n) is.stands in
    subst (λ t. IsPassing r first from t after (lines ++ line ∷ [])) (sym same) (subst (λ l. IsPassing r first from (r.next s vs) after (lines ++ l ∷ [])) (sym is.same) step)

pub next_passes : {S X : Type 0} → (r : Rule S) (f : X → Line) (first : S) (from : At) (s next : S) (at after : At) (xs ys : List X) (x : X) (ws vs : List Word)
    → IsPassing r first from s at (map f xs) → IsNext r.tag at ws after → vs ≡ ws → IsLine r s vs (f x) → next ≡ r.next s vs → ys ≡ xs ++ x ∷ [] → IsPassing r first from next after (map f ys)
next_passes r f first from s next at after xs ys x ws vs p n e is same more =
    subst (λ ls. IsPassing r first from next after ls) (sym (ap (map f) more ∙ map-snoc f xs x)) (line_passes r first from s next at after (map f xs) ws vs (f x) p n e is same)

pub next_pair_passes : {S X Y : Type 0} → (r : Rule S) (f : X → Y → Line) (first : S) (from : At) (s next : S) (at after : At) (xs xs2 : List X) (ys ys2 : List Y) (x : X) (y : Y) (ws vs : List Word)
    → length xs ≡ length ys → IsPassing r first from s at (paired f xs ys) → IsNext r.tag at ws after → vs ≡ ws → IsLine r s vs (f x y) → next ≡ r.next s vs → xs2 ≡ xs ++ x ∷ [] → ys2 ≡ ys ++ y ∷ []
    → IsPassing r first from next after (paired f xs2 ys2)
next_pair_passes r f first from s next at after xs xs2 ys ys2 x y ws vs same_length p n e is same more more2 =
    subst (λ ls. IsPassing r first from next after ls) (sym ((λ i. paired f (more i) (more2 i)) ∙ paired-snoc f xs ys x y same_length)) (line_passes r first from s next at after (paired f xs ys) ws vs (f x y) p n e is same)

pub flaw_stops : {S : Type 0} → (r : Rule S) (first : S) (from : At) (s : S) (at after : At) (lines : List Line) (ws vs : List Word) (flaw : Flaw) (fault : ReportFault)
    → IsPassing r first from s at lines → IsNext r.tag at ws after → vs ≡ ws → IsFlaw r s vs flaw → fault ≡ fault_at at.number flaw → Stops (many r first from.number (lines_of from.rest)) fault
flaw_stops r first from s at after lines ws vs flaw fault p n e is same =
    subst (λ f. Stops (many r first from.number (lines_of from.rest)) f) (sym same) (passing_stops r first from s at lines vs after flaw p (subst (λ us. IsNext r.tag at us after) (sym e) n) is)

pub passes_on : {S : Type 0} → (r : Rule S) (first : S) (from : At) (s : S) (at : At) (lines : List Line) → IsPassing r first from s at lines → starts r.tag (lines_of at.rest) ≡ false → PassesOn (many r first) from at lines
passes_on r first from s at lines p e = record { state = s; passes = passing_ends r first from s at lines p e }

-- what is left gets shorter
pub next_shorter : (tag : Word) (at after : At) (ws : List Word) → IsNext tag at ws after → length after.rest < length at.rest
next_shorter tag at after ws n = omega (arith, ap length n.text, length-append (line_text (tag ∷ ws)) after.rest, line_some (tag ∷ ws))

pub stops_memory : {S : Type 0} → (o : Outcome S) (fault : ReportFault) → fault ≡ faults.Memory → Stops o fault
stops_memory o fault e = subst (λ f. Stops o f) (sym e) tt

-- a single line by the words that were read

pub one_line : {S : Type 0} → (r : Rule S) (s next : S) (at after : At) (ws vs : List Word) (line : Line) → IsNumbered at → IsNext r.tag at ws after → vs ≡ ws → IsLine r s vs line → next ≡ r.next s vs → Passes (one r s) at next after (line ∷ [])
one_line r s next at after ws vs line few n e is same =
    subst (λ t. Passes (one r s) at t after (line ∷ [])) (sym same)
    (subst (λ l. Passes (one r s) at (r.next s vs) after (l ∷ [])) (sym is.same) (one_passes r s at vs after few (subst (λ us. IsNext r.tag at us after) (sym e) n) is.stands))

pub one_flaw : {S : Type 0} → (r : Rule S) (s : S) (at after : At) (ws vs : List Word) (flaw : Flaw) (fault : ReportFault) → IsNext r.tag at ws after → vs ≡ ws → IsFlaw r s vs flaw → fault ≡ fault_at at.number flaw → Stops (one r s at.number (lines_of at.rest)) fault
one_flaw r s at after ws vs flaw fault n e is same =
    subst (λ f. Stops (one r s at.number (lines_of at.rest)) f) (sym same) (one_stops r s at vs after flaw (subst (λ us. IsNext r.tag at us after) (sym e) n) is)

pub one_absent : {S : Type 0} → (r : Rule S) (s : S) (at : At) → starts r.tag (lines_of at.rest) ≡ false → Stops (one r s at.number (lines_of at.rest)) (faults.Line at.number)
one_absent r s at e = one-none r s at.number (lines_of at.rest) e

pub maybe_line : {S : Type 0} → (r : Rule S) (s next : S) (at after : At) (ws vs : List Word) (line : Line) → IsNumbered at → IsNext r.tag at ws after → vs ≡ ws → IsLine r s vs line → next ≡ r.next s vs → Passes (maybe r s) at next after (line ∷ [])
maybe_line r s next at after ws vs line few n e is same =
    let n2 = subst (λ us. IsNext r.tag at us after) (sym e) n in
    subst (λ t. Passes (maybe r s) at t after (line ∷ [])) (sym same)
    (subst (λ l. Passes (maybe r s) at (r.next s vs) after (l ∷ [])) (sym is.same) (record {
      goes = ap (λ ls. maybe r s at.number ls) n2.lines ∙ maybe-step r s at.number vs (lines_of after.rest) (lines_some after.rest) is.stands ∙ ap (λ n. Goes (r.next s vs) n (lines_of after.rest)) (sym n2.number);
      read = line_read at at after [] r.tag vs (nothing_read at few) n2;
    }))

pub maybe_flaw : {S : Type 0} → (r : Rule S) (s : S) (at after : At) (ws vs : List Word) (flaw : Flaw) (fault : ReportFault) → IsNext r.tag at ws after → vs ≡ ws → IsFlaw r s vs flaw → fault ≡ fault_at at.number flaw → Stops (maybe r s at.number (lines_of at.rest)) fault
maybe_flaw r s at after ws vs flaw fault n e is same =
    let n2 = subst (λ us. IsNext r.tag at us after) (sym e) n in
    subst (λ f. Stops (maybe r s at.number (lines_of at.rest)) f) (sym same)
    (subst (λ ls. Stops (maybe r s at.number ls) (fault_at at.number flaw)) (sym n2.lines) (maybe-stop r s at.number vs (lines_of after.rest) flaw (lines_some after.rest) is))

pub maybe_absent : {S : Type 0} → (r : Rule S) (s : S) (at : At) → IsNumbered at → starts r.tag (lines_of at.rest) ≡ false → Passes (maybe r s) at s at []
maybe_absent r s at few e = record { goes = maybe-none r s at.number (lines_of at.rest) e; read = nothing_read at few }
