-- The calls that an inlined program is left with.
use Rattle.std.specs.Prelude.{◌≡◌, ℕ, ◌+◌, ◌<◌, Bool, true, false, ◌||◌, List, [], ◌∷◌, ◌++◌, All}
use Rattle.high_ir.specs.Tree.{Statement, Set, Put, Get, Keep, Mark, Seq, If, Loop, Block, Leave, Call, Return, Statements, End, Then, Function, Program}
use Rattle.high_pass.specs.Listing.{Listing}
use Rattle.inliner.specs.declared.used.Used.{Used}
use Rattle.inliner.specs.Opening.{Site}
use Rattle.inliner.specs.Budgets.{may_open, used_by}
use Rattle.inliner.specs.Inlining.{Making, copies_of_inlined, inlined, swept}

-- a call, and how many statements stand around it
pub record Standing : Type 0 where
  pub around : ℕ
  pub site : Site

abbrev mutual
  pub sites : (around : ℕ) → Statement → List Standing
  sites around (Call f values arrays into) = record { around = around; site = record { function = f; values = values; arrays = arrays; into = into } } ∷ []
  sites around (Seq parts) = sites_all (around + 1) parts
  sites around (If test first other) = sites (around + 1) first ++ sites (around + 1) other
  sites around (Loop id least most body) = sites (around + 1) body
  sites around (Block body) = sites (around + 1) body
  sites around (Set x e) = []
  sites around (Put e) = []
  sites around (Get x) = []
  sites around (Keep array i e) = []
  sites around (Mark m) = []
  sites around (Leave d) = []
  sites around (Return e) = []

  pub sites_all : (around : ℕ) → Statements → List Standing
  sites_all around End = []
  sites_all around (Then first rest) = sites around first ++ sites_all around rest

-- opening this call too would pass the limit or a budget
abbrev pub IsLeft : (limit : ℕ) → Program → Standing → Type 0
IsLeft limit p c = may_open limit p.functions (used_by p 0) c.around c.site ≡ false

-- whether a call in a statement may be opened
module _ (limit : ℕ) (fs : List Function) (used : Used) where
  abbrev mutual
    pub any_fits : (around : ℕ) → Statement → Bool
    any_fits around (Call f values arrays into) = may_open limit fs used around (record { function = f; values = values; arrays = arrays; into = into })
    any_fits around (Seq parts) = any_fits_all (around + 1) parts
    any_fits around (If test first other) = any_fits (around + 1) first || any_fits (around + 1) other
    any_fits around (Loop id least most body) = any_fits (around + 1) body
    any_fits around (Block body) = any_fits (around + 1) body
    any_fits around (Set x e) = false
    any_fits around (Put e) = false
    any_fits around (Get x) = false
    any_fits around (Keep array i e) = false
    any_fits around (Mark m) = false
    any_fits around (Leave d) = false
    any_fits around (Return e) = false

    pub any_fits_all : (around : ℕ) → Statements → Bool
    any_fits_all around End = false
    any_fits_all around (Then first rest) = any_fits around first || any_fits_all around rest

  abbrev pub any_fits_in : List Function → Bool
  any_fits_in [] = false
  any_fits_in (f ∷ rest) = any_fits 0 f.body || any_fits_in rest

-- whether there is a call still that may be opened
abbrev pub is_open : (limit : ℕ) → Making → Bool
is_open limit m = any_fits_in limit m.functions m.used m.functions

-- what an inlined program is: its functions were gone through until no call was left that may be opened
pub record Inlined (limit : ℕ) (old new : Program) (c : Listing) : Type 0 where
  pub sweeps : ℕ
  pub program : new ≡ inlined limit old sweeps
  pub copies : c ≡ copies_of_inlined limit old sweeps
  pub wanted : (n : ℕ) → n < sweeps → is_open limit (swept limit old n) ≡ true
  -- each call that is left would pass the limit or a budget
  pub left : All (λ f. All (IsLeft limit new) (sites 0 f.body)) new.functions
