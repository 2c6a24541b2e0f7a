-- The calls of a statement go to its callees.
use Rattle.std.proofs.Common.{◌≡◌, ◌++◌, map, refl, ap, ◌∙◌}
use Rattle.std.proofs.lemmas.List.{map-append}
use Rattle.high_ir.specs.Standing.{callees_of, callees_of_all}
use Rattle.high_ir.specs.Tree.{Statement, Set, Put, Get, Keep, Mark, Seq, If, Loop, Block, Leave, Call, Return, Statements, End, Then}
use Rattle.lower_definition.specs.Calls.{Site, sites_of, sites_of_all}

mutual
  pub sites-callees : (s : Statement) → map (λ (x : Site). x.function) (sites_of s) ≡ callees_of s
  sites-callees (Call f values arrays into) = refl
  sites-callees (Seq parts) = all_sites-callees parts
  sites-callees (If test first other) =
      map-append (λ (x : Site). x.function) (sites_of first) (sites_of other)
      ∙ ap (λ xs. xs ++ map (λ (x : Site). x.function) (sites_of other)) (sites-callees first) ∙ ap (λ xs. callees_of first ++ xs) (sites-callees other)
  sites-callees (Loop id least most body) = sites-callees body
  sites-callees (Block body) = sites-callees body
  sites-callees (Set x e) = refl
  sites-callees (Put e) = refl
  sites-callees (Get x) = refl
  sites-callees (Keep array i e) = refl
  sites-callees (Mark m) = refl
  sites-callees (Leave d) = refl
  sites-callees (Return e) = refl

  pub all_sites-callees : (ss : Statements) → map (λ (x : Site). x.function) (sites_of_all ss) ≡ callees_of_all ss
  all_sites-callees End = refl
  all_sites-callees (Then first rest) =
      map-append (λ (x : Site). x.function) (sites_of first) (sites_of_all rest)
      ∙ ap (λ xs. xs ++ map (λ (x : Site). x.function) (sites_of_all rest)) (sites-callees first) ∙ ap (λ xs. callees_of first ++ xs) (all_sites-callees rest)
