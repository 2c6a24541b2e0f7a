-- Texts put part by part.
use Rattle.std.proofs.Common.{◌≡◌, ℕ, ◌+◌, ◌-◌, ◌<◌, List, ◌∷◌, ◌++◌, length, take, drop, get_or, drop-cons, add-one, Option, Some, None, refl, sym, ap, ◌∙◌, arith, take-add, append_assoc}
use Rattle.std.proofs.lemmas.Grind.{common_steps}
use Rattle.std.proofs.lemmas.List.{take-append-drop}
use Rattle.wcc_base.specs.Outside.{SinkState, told_append}
use Rattle.command_perform.specs.declared.lines.Part.{Part}
use Rattle.command_perform.specs.Lines.{shown, all_shown}
use Rattle.command_perform.specs.Finishing.{IsCut}
use Rattle.command_perform.specs.Files.{HasPut, Showing}

told_append-told_append : (a b : List ℕ) (o : Option (List ℕ)) → told_append b (told_append a o) ≡ told_append (a ++ b) o
told_append-told_append a b None = refl
told_append-told_append a b (Some w) = ap Some (append_assoc w a b)

pub put_more : (old now new : Option (List ℕ)) (line : List ℕ) (done n : ℕ) → now ≡ told_append (take done line) old → new ≡ told_append (take n (take (length line - done) (drop done line))) now → new ≡ told_append (take (done + n) line) old
put_more old now new line done n e f =
    let whole : take (length line - done) (drop done line) ≡ drop done line = grind (arith, common_steps) in
    f ∙ ap (λ p. told_append (take n p) now) whole ∙ ap (told_append (take n (drop done line))) e ∙ told_append-told_append (take done line) (take n (drop done line)) old
    ∙ ap (λ b. told_append b old) (sym (take-add done n line))

-- the parts that are left
pub left_shown : (parts : List Part) (i : ℕ) (d : Part) → i < length parts → all_shown (drop i parts) ≡ shown (get_or parts i d) ++ all_shown (drop (i + 1) parts)
left_shown parts i d lt = ap all_shown (drop-cons parts i d lt ∙ ap (λ n. get_or parts i d ∷ drop n parts) (sym (add-one i)))

-- the sink refused the next bytes
pub cut_at : (old now new : SinkState) (text : List ℕ) (done : ℕ) → HasPut old now text done → new.written ≡ now.written → IsCut text old new
cut_at old now new text done h e = record {
  front = take done text;
  rest = drop done text;
  split = sym (take-append-drop done text);
  put = e ∙ h.so_far;
}

-- a further part was put
pub show_more : (old now new : SinkState) (text left part rest : List ℕ) → left ≡ part ++ rest → new.written ≡ told_append part now.written → new.faults ≡ now.faults → Showing old now text left → Showing old new text rest
show_more old now new text left part rest l e k h = record {
  front = h.front ++ part;
  split = append_assoc h.front part rest ∙ ap (λ x. h.front ++ x) (sym l) ∙ h.split;
  so_far = e ∙ ap (told_append part) h.so_far ∙ told_append-told_append h.front part old.written;
  faults = k ∙ h.faults;
}

-- a further part was put in part
pub show_cut : (old now new : SinkState) (text left part rest : List ℕ) → left ≡ part ++ rest → IsCut part now new → Showing old now text left → IsCut text old new
show_cut old now new text left part rest l c h = record {
  front = h.front ++ c.front;
  rest = c.rest ++ rest;
  split = sym h.split ∙ ap (λ x. h.front ++ x) (l ∙ ap (λ p. p ++ rest) c.split ∙ append_assoc c.front c.rest rest) ∙ sym (append_assoc h.front c.front (c.rest ++ rest));
  put = c.put ∙ ap (told_append c.front) h.so_far ∙ told_append-told_append h.front c.front old.written;
}
