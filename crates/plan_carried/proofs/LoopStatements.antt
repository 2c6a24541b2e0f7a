-- The loops of a statement are those of its code, each once.
use Rattle.std.proofs.Common.{◌≡◌, ℕ, suc, ◌+◌, ◌-◌, Bool, true, false, not, List, [], ◌∷◌, ◌++◌, map, Option, Some, None, refl, sym, ap, ◌∙◌, subst}
use Rattle.std.specs.Prelude.{◌||◌, IsPermutation}
use Rattle.std.proofs.lemmas.List.{append-nil, append_assoc, map-append}
use Rattle.std.proofs.lemmas.List.Sorted.{IsPermutation-append, IsPermutation-cons, IsPermutation-map, IsPermutation-middle, IsPermutation-refl, IsPermutation-sym, IsPermutation-trans}
use Rattle.facts_definitions.specs.Most.{bounds_at}
use Rattle.facts_definitions.specs.Sites.{count_exprs}
use Rattle.facts_definitions.specs.Starts.{is_always, starts}
use Rattle.facts_definitions.specs.declared.facts.Starts.{Starts}
use Rattle.types_tree.specs.Tree as c
use Rattle.high_ir.specs.Standing.{loops_of, loops_of_all}
use Rattle.high_ir.specs.Tree.{Constant, Return, Set, Statements, End, Then}
use Rattle.high_code.specs.Code.{joined, alone}
use Rattle.plan_definition.specs.declared.home.Home.{Home}
use Rattle.plan_definition.specs.declared.purpose.Purpose.TheVariants.{Value, Effect, Unless}
use Rattle.plan_definition.specs.Homes.{home_of}
use Rattle.plan_definition.specs.Statements.{Exits, Parts, Plan, all_declared, all_planned, and_before, body_planned, chosen_else, chosen_if, continues, declared, deeper, default_number, ends_in_block, filling, guarded, in_loop, in_switch, initialised, label_tests, listed, loops_before, looped, parts_planned, planned, returned, round_of, started, stepped, stored_at, switched, tested}
use Rattle.plan_definition.specs.Values.{Valued, chosen, chosen_by_jumps, firm, in_block, is_changed, is_joint, is_leaf, is_variable, made}
use Rattle.plan_forms.proofs.Free.{no_loops}
use Rattle.plan_carried.specs.Loops.{Planned, declaration_loops, filling_loops, in_plan, initial_loops, items_loops, objects_loops, planned_loop, start_loops, statement_loops}
use Rattle.plan_carried.proofs.LoopPieces.{loops-chosen, loops-chosen_by_jumps, loops-filled, loops-guarded, loops-held, loops-in_block, loops-joined, loops-label_tests, loops-leaving_unless, loops-rounded, loops-stored_at, loops_before_none, loops_behind}

-- the loops stand in code, each once
abbrev pub Stand : List Planned → Statements → Type 0
Stand ls code = IsPermutation (map in_plan ls) (loops_of_all code)

stand_same : (ls : List Planned) (a b : Statements) → loops_of_all a ≡ loops_of_all b → Stand ls a → Stand ls b
stand_same ls a b e h = subst (IsPermutation (map in_plan ls)) e h

none_stand : (code : Statements) → loops_of_all code ≡ [] → Stand [] code
none_stand code e = subst (IsPermutation (map in_plan [])) (sym e) (IsPermutation-refl [])

stand-joined : (ls ms : List Planned) (a b : Statements) → Stand ls a → Stand ms b → Stand (ls ++ ms) (joined a b)
stand-joined ls ms a b h k =
    subst (IsPermutation (map in_plan (ls ++ ms))) (sym (loops-joined a b))
    (subst (λ l. IsPermutation l (loops_of_all a ++ loops_of_all b)) (sym (map-append in_plan ls ms)) (IsPermutation-append (map in_plan ls) (loops_of_all a) (map in_plan ms) (loops_of_all b) h k))

-- in another order
stand_moved : (ls ms : List Planned) (code : Statements) → IsPermutation ls ms → Stand ms code → Stand ls code
stand_moved ls ms code p h = IsPermutation-trans (map in_plan ls) (map in_plan ms) (loops_of_all code) (IsPermutation-map in_plan ls ms p) h

stand-looped : (old id : ℕ) (bounds : Starts) (ls : List Planned) (round : Statements) → Stand ls round → Stand (planned_loop old id bounds ∷ ls) (looped id bounds round)
stand-looped old id bounds ls round h =
    let l = planned_loop old id bounds in
    subst (IsPermutation (map in_plan (l ∷ ls))) (sym (append-nil (in_plan l ∷ loops_of_all round))) (IsPermutation-cons (in_plan l) (map in_plan ls) (loops_of_all round) h)

-- the parts of a switch
abbrev PartsStand : List Planned → Parts → Type 0
PartsStand ls parts = IsPermutation (map in_plan ls) (loops_of_all parts.before ++ loops_of_all parts.behind)

parts_before : (ls ms : List Planned) (code : Statements) (parts : Parts) → Stand ls code → PartsStand ms parts → PartsStand (ls ++ ms) (and_before code parts)
parts_before ls ms code parts h k =
    subst (IsPermutation (map in_plan (ls ++ ms))) (sym (ap (λ l. l ++ loops_of_all parts.behind) (loops-joined code parts.before) ∙ append_assoc (loops_of_all code) (loops_of_all parts.before) (loops_of_all parts.behind)))
    (subst (λ l. IsPermutation l (loops_of_all code ++ (loops_of_all parts.before ++ loops_of_all parts.behind))) (sym (map-append in_plan ls ms))
    (IsPermutation-append (map in_plan ls) (loops_of_all code) (map in_plan ms) (loops_of_all parts.before ++ loops_of_all parts.behind) h k))

module _ (plan : Plan) where
  listed_none : (home : Home) (es : c.Exprs) (index k : ℕ) → loops_of_all (listed plan home es index k) ≡ []
  listed_none home c.NoExpr index k = refl
  listed_none home (c.WithExpr e rest) index k =
      let p = made plan.homes Value e k in
      let others = listed plan home rest (index + 1) k in
      loops_behind p.code (Then (stored_at home (Constant index) p.value) others) (no_loops plan.homes Value e k) ∙ loops-stored_at home (Constant index) p.value others ∙ listed_none home rest (index + 1) k

  filling_stands : (home : Home) (shift : ℕ) (number : Option ℕ) (from k : ℕ) → Stand (filling_loops plan.bounds shift number) (filling plan home shift number from k)
  filling_stands home shift None from k = none_stand End refl
  filling_stands home shift (Some number) from k =
      let count = (bounds_at plan.bounds number).max in
      subst (IsPermutation (map in_plan (filling_loops plan.bounds shift (Some number)))) (sym (loops-filled home (number - 1 - shift) from count k)) (IsPermutation-refl (map in_plan (filling_loops plan.bounds shift (Some number))))

  initial_stands : (home : Home) (initial : c.Initial) (shift k : ℕ) → Stand (initial_loops plan.bounds shift initial) (initialised plan home initial shift k)
  initial_stands home c.Absent shift k = none_stand End refl
  initial_stands home (c.Value e) shift k =
      let p = made plan.homes Value e k in
      none_stand (initialised plan home (c.Value e) shift k) (loops_behind p.code (alone (stored_at home (Constant 0) p.value)) (no_loops plan.homes Value e k) ∙ loops-stored_at home (Constant 0) p.value End)
  initial_stands home (c.Listed es comma number) shift k =
      let fill = filling plan home shift number (count_exprs es) k in
      stand_same (filling_loops plan.bounds shift number) fill (joined (listed plan home es 0 k) fill) (sym (loops_behind (listed plan home es 0 k) fill (listed_none home es 0 k))) (filling_stands home shift number (count_exprs es) k)

  objects_stand : (objects : List c.Object) (shift k : ℕ) → Stand (objects_loops plan.bounds shift objects) (all_declared plan objects shift k)
  objects_stand [] shift k = none_stand End refl
  objects_stand (c.Declared object shape initial at ∷ rest) shift k =
      let home = home_of plan.homes object in
      stand-joined (initial_loops plan.bounds shift initial) (objects_loops plan.bounds shift rest) (initialised plan home initial shift k) (all_declared plan rest shift k) (initial_stands home initial shift k) (objects_stand rest shift k)

  declaration_stands : (declaration : c.Declaration) (shift k : ℕ) → Stand (declaration_loops plan.bounds shift declaration) (declared plan declaration shift k)
  declaration_stands (c.Objects specifiers objects at) shift k = objects_stand objects shift k
  declaration_stands (c.Prototype specifiers name params at) shift k = none_stand End refl

  start_stands : (start : c.ForStart) (k : ℕ) → Stand (start_loops plan.bounds start) (started plan start k)
  start_stands c.NoStart k = none_stand End refl
  start_stands (c.StartValue e) k = none_stand (made plan.homes Effect e k).code (no_loops plan.homes Effect e k)
  start_stands (c.StartDeclaration declaration) k = declaration_stands declaration 1 k

  tested_none : (test : Option c.Expr) (k : ℕ) → loops_of_all (tested plan test k) ≡ []
  tested_none None k = refl
  tested_none (Some e) k = loops-leaving_unless (is_always e) (made plan.homes (Unless 0) e k).code (no_loops plan.homes (Unless 0) e k)

  stepped_none : (step : Option c.Expr) (k : ℕ) → loops_of_all (stepped plan step k) ≡ []
  stepped_none None k = refl
  stepped_none (Some e) k = no_loops plan.homes Effect e k

  returned_none : (value : Option c.Expr) (k : ℕ) → loops_of_all (returned plan value k) ≡ []
  returned_none None k = refl
  returned_none (Some e) k = loops_behind (made plan.homes Value e k).code (alone (Return (made plan.homes Value e k).value)) (no_loops plan.homes Value e k)

  round_stands : (ls : List Planned) (body : c.Statement) (code : Exits → Statements) → ((exits : Exits) → Stand ls (code exits)) → Stand ls (round_of body code)
  round_stands ls body code h =
      stand_same ls (code (in_loop (continues body))) (round_of body code) (sym (loops-rounded (continues body) (ends_in_block body) (code (in_loop (continues body))))) (h (in_loop (continues body)))

  word_none : (test : c.Expr) (k : ℕ) → loops_of_all (firm k (made plan.homes Value test k) End).code ≡ []
  word_none test k =
      let p = made plan.homes Value test k in
      loops-held (not (is_leaf p.value) || (is_changed p.value End || is_variable (k + 1) p.value)) k p (no_loops plan.homes Value test k)

  switch_stands : (ls : List Planned) (word : Valued) (noted default : ℕ) (items : c.Items) (parts : Parts) → loops_of_all word.code ≡ [] → PartsStand ls parts → Stand ls (switched word noted default (label_tests word.value noted items 1) parts)
  switch_stands ls word noted default items parts none h =
      let tests = label_tests word.value noted items 1 in
      let block = in_block (guarded noted 0 parts.before parts.behind) in
      subst (IsPermutation (map in_plan ls))
      (sym (loops_behind word.code (Then (Set noted (Constant default)) (joined tests block)) none ∙ loops_behind tests block (loops-label_tests word.value noted items 1) ∙ loops-in_block (guarded noted 0 parts.before parts.behind) ∙ loops-guarded noted 0 parts.before parts.behind))
      h

  if_stands : (ls : List Planned) (joint : Bool) (test : Valued) (jumps first within : Statements) → loops_of_all test.code ≡ [] → loops_of_all jumps ≡ [] → Stand ls first → Stand ls within → Stand ls (chosen_if joint test jumps first within)
  if_stands ls false test jumps first within t j h w = stand_same ls first (chosen test first End) (sym (loops-chosen test first End t ∙ append-nil (loops_of_all first))) h
  if_stands ls true test jumps first within t j h w = stand_same ls within (in_block (joined jumps within)) (sym (loops-in_block (joined jumps within) ∙ loops_behind jumps within j)) w

  else_stands : (ls ms : List Planned) (joint : Bool) (test : Valued) (jumps first other first_within other_within : Statements) → loops_of_all test.code ≡ [] → loops_of_all jumps ≡ [] → Stand ls first → Stand ms other → Stand ls first_within → Stand ms other_within →
      Stand (ls ++ ms) (chosen_else joint test jumps first other first_within other_within)
  else_stands ls ms false test jumps first other first_within other_within t j h k hw kw =
      stand_same (ls ++ ms) (joined first other) (chosen test first other) (loops-joined first other ∙ sym (loops-chosen test first other t)) (stand-joined ls ms first other h k)
  else_stands ls ms true test jumps first other first_within other_within t j h k hw kw =
      stand_same (ls ++ ms) (joined first_within other_within) (chosen_by_jumps jumps first_within other_within) (loops-joined first_within other_within ∙ sym (loops-chosen_by_jumps jumps first_within other_within j)) (stand-joined ls ms first_within other_within hw kw)

  mutual
    pub statement_stands : (s : c.Statement) (k : ℕ) (exits : Exits) → Stand (statement_loops plan.bounds s) (planned plan s k exits)
    statement_stands (c.Block items at) k exits = items_stand items k exits
    statement_stands (c.Empty at) k exits = none_stand End refl
    statement_stands (c.Evaluate e at) k exits = none_stand (made plan.homes Effect e k).code (no_loops plan.homes Effect e k)
    statement_stands (c.Marker number pragma) k exits = none_stand (planned plan (c.Marker number pragma) k exits) refl
    statement_stands (c.If test first at) k exits =
        if_stands (statement_loops plan.bounds first) (is_joint test) (made plan.homes Value test k) (made plan.homes (Unless 0) test k).code (planned plan first k exits) (planned plan first k (deeper exits))
        (no_loops plan.homes Value test k) (no_loops plan.homes (Unless 0) test k) (statement_stands first k exits) (statement_stands first k (deeper exits))
    statement_stands (c.IfElse test first second at) k exits =
        else_stands (statement_loops plan.bounds first) (statement_loops plan.bounds second) (is_joint test) (made plan.homes Value test k) (made plan.homes (Unless 0) test k).code
        (planned plan first k exits) (planned plan second k exits) (planned plan first k (deeper (deeper exits))) (planned plan second k (deeper exits))
        (no_loops plan.homes Value test k) (no_loops plan.homes (Unless 0) test k) (statement_stands first k exits) (statement_stands second k exits) (statement_stands first k (deeper (deeper exits))) (statement_stands second k (deeper exits))
    statement_stands (c.While number bound test body at) k exits =
        let round = round_of body (planned plan body k) in
        let turn = joined (tested plan (Some test) k) round in
        stand-looped (number - 1) (number - 1) (starts (c.While number bound test body at) (bounds_at plan.bounds number)) (statement_loops plan.bounds body) turn
        (stand_same (statement_loops plan.bounds body) round turn (sym (loops_behind (tested plan (Some test) k) round (tested_none (Some test) k))) (round_stands (statement_loops plan.bounds body) body (planned plan body k) (λ inner. statement_stands body k inner)))
    statement_stands (c.Do number bound body test at) k exits =
        let round = round_of body (planned plan body k) in
        let jumps = (made plan.homes (Unless 0) test k).code in
        stand-looped (number - 1) (number - 1) (starts (c.Do number bound body test at) (bounds_at plan.bounds number)) (statement_loops plan.bounds body) (joined round jumps)
        (stand_same (statement_loops plan.bounds body) round (joined round jumps) (sym (loops_before_none round jumps (no_loops plan.homes (Unless 0) test k))) (round_stands (statement_loops plan.bounds body) body (planned plan body k) (λ inner. statement_stands body k inner)))
    statement_stands (c.For number bound start test step body at) k exits =
        let round = round_of body (planned plan body k) in
        let turn = joined (tested plan test k) (joined round (stepped plan step k)) in
        let bounds = starts (c.For number bound start test step body at) (bounds_at plan.bounds number) in
        let l = planned_loop (number - 1) (number - 1 + loops_before start) bounds in
        let head = start_loops plan.bounds start in
        let inner = statement_loops plan.bounds body in
        let loop = looped (number - 1 + loops_before start) bounds turn in
        stand_moved (l ∷ (head ++ inner)) (head ++ l ∷ inner) (joined (started plan start k) loop) (IsPermutation-sym (head ++ l ∷ inner) (l ∷ (head ++ inner)) (IsPermutation-middle head l inner))
        (stand-joined head (l ∷ inner) (started plan start k) loop (start_stands start k)
        (stand-looped (number - 1) (number - 1 + loops_before start) bounds inner turn
        (stand_same inner round turn (sym (loops_behind (tested plan test k) (joined round (stepped plan step k)) (tested_none test k) ∙ loops_before_none round (stepped plan step k) (stepped_none step k)))
        (round_stands inner body (planned plan body k) (λ exits. statement_stands body k exits)))))
    statement_stands (c.Switch test items at) k exits =
        switch_stands (items_loops plan.bounds items) (firm k (made plan.homes Value test k) End) (k + 1) (default_number items 1) items (parts_planned plan items (k + 1) 1 (k + 2) (in_switch exits)) (word_none test k) (parts_stand items (k + 1) 1 (k + 2) (in_switch exits))
    statement_stands (c.Break at) k exits = none_stand (planned plan (c.Break at) k exits) refl
    statement_stands (c.Continue at) k exits = none_stand (planned plan (c.Continue at) k exits) refl
    statement_stands (c.Return value at) k exits = none_stand (returned plan value k) (returned_none value k)

    items_stand : (items : c.Items) (k : ℕ) (exits : Exits) → Stand (items_loops plan.bounds items) (all_planned plan items k exits)
    items_stand c.NoItem k exits = none_stand End refl
    items_stand (c.WithDeclaration declaration rest) k exits =
        stand-joined (declaration_loops plan.bounds 0 declaration) (items_loops plan.bounds rest) (declared plan declaration 0 k) (all_planned plan rest k exits) (declaration_stands declaration 0 k) (items_stand rest k exits)
    items_stand (c.WithStatement statement rest) k exits =
        stand-joined (statement_loops plan.bounds statement) (items_loops plan.bounds rest) (planned plan statement k exits) (all_planned plan rest k exits) (statement_stands statement k exits) (items_stand rest k exits)
    items_stand (c.WithRestriction pragma rest) k exits = items_stand rest k exits
    items_stand (c.WithLabel label rest) k exits = items_stand rest k exits

    parts_stand : (items : c.Items) (noted number k : ℕ) (exits : Exits) → PartsStand (items_loops plan.bounds items) (parts_planned plan items noted number k exits)
    parts_stand c.NoItem noted number k exits = IsPermutation-refl []
    parts_stand (c.WithDeclaration declaration rest) noted number k exits =
        parts_before (declaration_loops plan.bounds 0 declaration) (items_loops plan.bounds rest) (declared plan declaration 0 k) (parts_planned plan rest noted number k exits) (declaration_stands declaration 0 k) (parts_stand rest noted number k exits)
    parts_stand (c.WithStatement statement rest) noted number k exits =
        parts_before (statement_loops plan.bounds statement) (items_loops plan.bounds rest) (planned plan statement k exits) (parts_planned plan rest noted number k exits) (statement_stands statement k exits) (parts_stand rest noted number k exits)
    parts_stand (c.WithRestriction pragma rest) noted number k exits = parts_stand rest noted number k exits
    parts_stand (c.WithLabel label rest) noted number k exits =
        let parts = parts_planned plan rest noted (suc number) k exits in
        subst (IsPermutation (map in_plan (items_loops plan.bounds rest))) (sym (loops-guarded noted number parts.before parts.behind)) (parts_stand rest noted (suc number) k exits)

  -- of a function's body
  pub body_stands : (items : c.Items) (variables : ℕ) → IsPermutation (map in_plan (items_loops plan.bounds items)) (loops_of (body_planned plan items variables))
  body_stands items variables =
      let code = all_planned plan items variables (record { out = 0; next = 0 }) in
      subst (IsPermutation (map in_plan (items_loops plan.bounds items))) (sym (append-nil (loops_of_all code))) (items_stand items variables (record { out = 0; next = 0 }))
