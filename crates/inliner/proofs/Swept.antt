-- Functions that are gone through, as the code does it.
use Rattle.std.proofs.Common.{◌≡◌, ℕ, ◌+◌, ◌<◌, Bool, true, List, Some, None, sym, ap, ◌∙◌, add-one, below_more}
use Rattle.std.specs.Prelude.{slice_get, slice_set}
use Rattle.high_ir.specs.Tree.{Function, Program}
use Rattle.inliner.specs.declared.used.Used.{Used}
use Rattle.inliner.specs.Inlining.{Making, after, after_all, after_function, by_rank, swept, used_in, with_body}
use Rattle.inliner.specs.Sites.{is_open}
use Rattle.inliner.specs.Walking.{Walked, opened}

-- a function that isn't there
pub after_absent : (limit : ℕ) (m : Making) (f : ℕ) → slice_get m.functions f ≡ None → m ≡ after limit m f
after_absent limit m f is = sym (ap (after_function limit m f) is)

-- a function with its calls opened, and what is used behind it, put into its place
pub after_made : (limit : ℕ) (m now : Making) (f : ℕ) (h made : Function) (used : Used) → slice_get m.functions f ≡ Some h → made ≡ with_body h (opened limit m.functions 0 h.body (used_in m.used h)) → used ≡ (opened limit m.functions 0 h.body (used_in m.used h)).used →
    now ≡ record { functions = slice_set m.functions f made; used = used } → now ≡ after limit m f
after_made limit m now f h made used there body behind is =
    let walk : Walked = opened limit m.functions 0 h.body (used_in m.used h) in
    let whole : Function → Used → Making = λ g u. record { functions = slice_set m.functions f g; used = u } in
    is ∙ ap (λ g. whole g used) body ∙ ap (whole (with_body h walk)) behind ∙ sym (ap (after_function limit m f) there)

-- all functions once more
pub swept_more : (limit : ℕ) (p : Program) (n : ℕ) (order : List ℕ) (old now : Making) → order ≡ by_rank p.functions → old ≡ swept limit p n → now ≡ after_all limit old order → now ≡ swept limit p (n + 1)
swept_more limit p n order old now by made is =
    is ∙ ap (λ m. after_all limit m order) made ∙ ap (after_all limit (swept limit p n)) by ∙ ap (swept limit p) (sym (add-one n))

-- whether there is a call still that may be opened, as the code sees it
pub open_now : (limit : ℕ) (p : Program) (n : ℕ) (m : Making) (b c : Bool) → m ≡ swept limit p n → b ≡ is_open limit m → b ≡ c → is_open limit (swept limit p n) ≡ c
open_now limit p n m b c made is which = ap (is_open limit) (sym made) ∙ sym is ∙ which

pub wanted_more : (limit : ℕ) (p : Program) (n : ℕ) (m : Making) (b : Bool) → m ≡ swept limit p n → b ≡ is_open limit m → b ≡ true → ((k : ℕ) → k < n → is_open limit (swept limit p k) ≡ true) → (k : ℕ) → k < n + 1 → is_open limit (swept limit p k) ≡ true
wanted_more limit p n m b made is opens before = below_more (λ k. is_open limit (swept limit p k) ≡ true) n before (open_now limit p n m b true made is opens)
