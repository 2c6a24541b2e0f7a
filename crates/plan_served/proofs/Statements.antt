-- Statements at which no rule fails fit the layout.
use Rattle.std.proofs.Common.{◌≡◌, refl, ℕ, ◌+◌, Bool, true, false, List, [], ◌++◌, Option, Some, None}
use Rattle.std.proofs.lemmas.Bool.{or_left, or_right}
use Rattle.c_tree.specs.Tree.{Expr, Declaration, Objects, Prototype, ForStart, NoStart, StartValue, StartDeclaration, Statement, Block, Empty, Evaluate, Marker, If, IfElse, While, Do, For, Switch, Break, Continue, Return, Items, NoItem, AndDeclaration, AndStatement, AndRestriction, AndLabel}
use Rattle.c_tree.specs.declared.pragma.Pragma.{Pragma}
use Rattle.types_calls.specs.Calls.{declaration_calls, expr_calls, items_calls, label_calls, option_calls, start_calls, statement_calls}
use Rattle.facts_definitions.specs.Sites.{declaration_sites, items_sites, start_sites, statement_sites}
use Rattle.facts_definitions.specs.declared.facts.Bounds.{Bounds}
use Rattle.facts_definitions.specs.declared.facts.Derived.{Derived}
use Rattle.types_tree.specs.Tree as typed
use Rattle.types_value.specs.Kinds.{promoted}
use Rattle.types_value.specs.declared.kind.Kind.{Kind as CType}
use Rattle.types_rules.specs.DeclarationRules.{after_declaration, base_of, routine}
use Rattle.types_rules.specs.Scope.{Around, entered, left, with_loop}
use Rattle.types_rules.specs.Sights.{SeenDeclaration, SeenStatement, declaration_nodes, expr_nodes, items_nodes, label_nodes, objects_nodes, option_nodes, start_nodes, statement_nodes, value_nodes}
use Rattle.types_rules.specs.StatementRules.{Within, after, after_items, after_start, in_loop, in_switch, within_for}
use Rattle.types_rules.specs.Types.{kind_of}
use Rattle.types_rules.specs.Typing.{option_at, typed_declaration, typed_items, typed_label, typed_option, typed_start, typed_statement, typed_value, value_at}
use Rattle.plan_definition.specs.Operators as plan
use Rattle.plan_runs.specs.ExpressionFits.{Fit, Function, Signatures}
use Rattle.plan_runs.specs.Meets.{Layout}
use Rattle.plan_runs.specs.StatementFits.{FitDeclaration, FitItems, FitOption, FitReturn, FitStart, FitStatement, block_declares, declares, start_declares, with_live}
use Rattle.types_seen.specs.Growing.{Beside, Grows}
use Rattle.plan_served.specs.Seen.{Callable}
use Rattle.plan_served.specs.Places.{AreBounds, IsPlan}
use Rattle.types_seen.proofs.Rules.{NoFault, faultless_first, faultless_second, parts_keep}
use Rattle.plan_served.proofs.Names.{calls_first, calls_second}
use Rattle.plan_served.proofs.Expressions.{calls_converted, fit_converted, fit_expr}
use Rattle.types_seen.proofs.Growing.{beside, declaration_grows, grows_same, grows_then, in_entered, in_same, inside_items, inside_start}
use Rattle.plan_served.proofs.Seeing.{knows_before, sees_entered, sees_routine, sees_same, sees_wider}
use Rattle.plan_served.proofs.Loops.{bounds_behind, bounds_first, bounds_items, bounds_second, loops_start, loops_statement}
use Rattle.plan_served.proofs.Objects.{At, at_later, at_row, fit_objects, fit_value}

-- what stands behind other items
items_behind : (P : typed.Items → Type 0) → ((d : typed.Declaration) (rest : typed.Items) → P (typed.WithDeclaration d rest) → P rest) → ((s : typed.Statement) (rest : typed.Items) → P (typed.WithStatement s rest) → P rest) →
    ((pragma : Pragma) (rest : typed.Items) → P (typed.WithRestriction pragma rest) → P rest) → ((l : typed.Label) (rest : typed.Items) → P (typed.WithLabel l rest) → P rest) → (result : CType) (items : Items ℕ) (a : Around) (rest : typed.Items) → P (typed_items result items a rest) → P rest
items_behind P d s r l result NoItem a rest h = h
items_behind P d s r l result (AndDeclaration front x) a rest h = d (typed_declaration x (after_items front a)) rest (items_behind P d s r l result front a (typed.WithDeclaration (typed_declaration x (after_items front a)) rest) h)
items_behind P d s r l result (AndStatement front x) a rest h = s (typed_statement result x (after_items front a)) rest (items_behind P d s r l result front a (typed.WithStatement (typed_statement result x (after_items front a)) rest) h)
items_behind P d s r l result (AndRestriction front x) a rest h = r x rest (items_behind P d s r l result front a (typed.WithRestriction x rest) h)
items_behind P d s r l result (AndLabel front x) a rest h = l (typed_label x (after_items front a)) rest (items_behind P d s r l result front a (typed.WithLabel (typed_label x (after_items front a)) rest) h)

calls_behind : (f : Function) (result : CType) (items : Items ℕ) (a : Around) (rest : typed.Items) → Callable f (items_calls (typed_items result items a rest)) → Callable f (items_calls rest)
calls_behind f result items a rest c =
    items_behind (λ l. Callable f (items_calls l)) (λ d l h. calls_second f (declaration_calls d) (items_calls l) h) (λ s l h. calls_second f (statement_calls s) (items_calls l) h) (λ pragma l h. h)
    (λ label l h. calls_second f (label_calls label) (items_calls l) h) result items a rest c

-- what a block declares lives in it
abbrev pub Holds : Function → typed.Items → Type 0
Holds f items = (o : ℕ) → block_declares items o ≡ true → f.live o ≡ true

holds_behind : (f : Function) (result : CType) (items : Items ℕ) (a : Around) (rest : typed.Items) → Holds f (typed_items result items a rest) → Holds f rest
holds_behind f result items a rest c =
    items_behind (Holds f) (λ d l h o m. h o (or_right (declares d o) (block_declares l o) m)) (λ s l h. h) (λ pragma l h. h) (λ label l h. h) result items a rest c

module _ (layout : Layout) (signatures : Signatures) (result : CType) (bounds : List Bounds) (derived : List Derived) (first : ℕ) (last : Around) where
  abbrev Plan : Function → Type 0
  Plan f = IsPlan layout signatures f.number first f.variables last

  abbrev Stands : Function → Around → Type 0
  Stands f a = At layout f first a

  -- where more objects live, in a block of its own
  pub stands_within : (f : Function) (more : ℕ → Bool) (a : Around) → Stands f a → Stands (with_live f more) (entered a)
  stands_within f more a h = record {
    sees = sees_entered layout (with_live f more) a (sees_wider layout f (with_live f more) a (λ o live. or_left (f.live o) (more o) live) h.sees);
    block = in_entered a;
    from = h.from;
  }

  stands_loop : (f : Function) (a : Around) → Stands f a → Stands f (with_loop a)
  stands_loop f a h = record { sees = sees_same layout f a (with_loop a) (grows_same a (with_loop a) refl refl refl) refl refl h.sees; block = h.block; from = h.from }

  stands_beside : (f : Function) (a b : Around) → Beside a b → Stands f a → Stands f b
  stands_beside f a b e h = at_later layout signatures (plan.kind_of result) bounds derived first last f a b e.inside.grows e.inside.outer_is e.scope_is h

  unleft : (b : Around) → Grows (left b) last → Grows b last
  unleft b g = grows_then b (left b) last (grows_same b (left b) refl refl refl) g

  stands_declaration : (f : Function) (d : Declaration ℕ) (a : Around) → Plan f → Stands f a → Grows (after_declaration d a) last → ((o : ℕ) → declares (typed_declaration d a) o ≡ true → f.live o ≡ true) → Stands f (after_declaration d a)
  stands_declaration f (Objects specifiers objects at) a p h g c = at_row layout signatures (plan.kind_of result) bounds derived first last f (base_of specifiers) objects a [] p h g c
  stands_declaration f (Prototype specifiers name params at) a p h g c =
      record { sees = sees_routine layout f name (routine specifiers params) a h.sees; block = h.block; from = h.from }

  stands_start : (f : Function) (s : ForStart ℕ) (a : Around) → Plan f → Stands f a → Grows (after_start s a) last → ((o : ℕ) → start_declares (typed_start s a) o ≡ true → f.live o ≡ true) → Stands f (after_start s a)
  stands_start f NoStart a p h g c = h
  stands_start f (StartValue value) a p h g c = h
  stands_start f (StartDeclaration d) a p h g c = stands_declaration f d a p h g c

  fit_declaration : (f : Function) (d : Declaration ℕ) (a : Around) → Plan f → Stands f a → Grows (after_declaration d a) last → NoFault (declaration_nodes d a) → Callable f (declaration_calls (typed_declaration d a)) → AreBounds derived bounds a.loops (declaration_sites layout.variables (typed_declaration d a)) →
      ((o : ℕ) → declares (typed_declaration d a) o ≡ true → f.live o ≡ true) → FitDeclaration layout signatures (plan.kind_of result) bounds f (typed_declaration d a)
  fit_declaration f (Objects specifiers objects at) a p h g n c are live =
      fit_objects layout signatures (plan.kind_of result) bounds derived first last f (base_of specifiers) objects a [] p h g (parts_keep (SeenDeclaration (Objects specifiers objects at) a) (objects_nodes (base_of specifiers) objects a) n) c are live tt
  fit_declaration f (Prototype specifiers name params at) a p h g n c are live = tt

  -- an expression, where the objects up to here are those of the function's plan
  fit_here : (f : Function) (e : Expr ℕ) (a : Around) → Plan f → Stands f a → Grows a last → NoFault (expr_nodes e false a) → Callable f (expr_calls (typed_value e a)) → Fit layout signatures f (typed_value e a)
  fit_here f e a p h g n c = fit_expr layout signatures f a h.sees (knows_before signatures a last g p.knows) e n c

  fit_start : (f : Function) (s : ForStart ℕ) (a : Around) → Plan f → Stands f a → Grows (after_start s a) last → NoFault (start_nodes s a) → Callable f (start_calls (typed_start s a)) → AreBounds derived bounds a.loops (start_sites layout.variables (typed_start s a)) →
      ((o : ℕ) → start_declares (typed_start s a) o ≡ true → f.live o ≡ true) → FitStart layout signatures (plan.kind_of result) bounds f (typed_start s a)
  fit_start f NoStart a p h g n c are live = tt
  fit_start f (StartValue value) a p h g n c are live = fit_here f value a p h g n c
  fit_start f (StartDeclaration d) a p h g n c are live = fit_declaration f d a p h g n c are live

  fit_option : (f : Function) (o : Option (Expr ℕ)) (a : Around) → Plan f → Stands f a → Grows a last → NoFault (option_nodes o a) → Callable f (option_calls (typed_option o a)) → FitOption layout signatures (plan.kind_of result) bounds f (typed_option o a)
  fit_option f None a p h g n c = tt
  fit_option f (Some e) a p h g n c = fit_here f e a p h g n c

  fit_return : (f : Function) (o : Option (Expr ℕ)) (a : Around) → Plan f → Stands f a → Grows a last → NoFault (option_nodes o a) → Callable f (option_calls (option_at result o a)) → FitReturn layout signatures (plan.kind_of result) bounds f (option_at result o a)
  fit_return f None a p h g n c = tt
  fit_return f (Some e) a p h g n c = fit_value layout signatures (plan.kind_of result) bounds derived first last f result (plan.kind_of result) e a refl h.sees (knows_before signatures a last g p.knows) n c

  -- behind items, where what they declare lives
  stands_items : (f : Function) (items : Items ℕ) (a : Around) (rest : typed.Items) → Plan f → Stands f a → Grows (after_items items a) last → Holds f (typed_items result items a rest) → Stands f (after_items items a)
  stands_items f NoItem a rest p h g live = h
  stands_items f (AndDeclaration front d) a rest p h g live =
      let now = after_items front a in
      let made = typed_declaration d now in
      let here = stands_items f front a (typed.WithDeclaration made rest) p h (grows_then now (after_declaration d now) last (declaration_grows d now) g) live in
      stands_declaration f d now p here g (λ o m. holds_behind f result front a (typed.WithDeclaration made rest) live o (or_left (declares made o) (block_declares rest o) m))
  stands_items f (AndStatement front s) a rest p h g live =
      let now = after_items front a in
      let made = typed_statement result s now in
      let next = beside s now (in_same a now (inside_items front a h.block).outer_is h.block) in
      let here = stands_items f front a (typed.WithStatement made rest) p h (grows_then now (after s now) last next.inside.grows g) live in
      stands_beside f now (after s now) next here
  stands_items f (AndRestriction front pragma) a rest p h g live = stands_items f front a (typed.WithRestriction pragma rest) p h g live
  stands_items f (AndLabel front label) a rest p h g live = stands_items f front a (typed.WithLabel (typed_label label (after_items front a)) rest) p h g live

  mutual
    pub fit_statement : (f : Function) (s : Statement ℕ) (w : Within) (a : Around) → Plan f → Stands f a → Grows (after s a) last → NoFault (statement_nodes s a w) → Callable f (statement_calls (typed_statement result s a)) →
        AreBounds derived bounds a.loops (statement_sites layout.variables (typed_statement result s a)) → FitStatement layout signatures (plan.kind_of result) bounds f (typed_statement result s a)
    fit_statement f (Block items at) w a p h g n c are =
        let made = typed_items result items (entered a) typed.NoItem in
        fit_items (with_live f (block_declares made)) items w (entered a) typed.NoItem p (stands_within f (block_declares made) a h) (unleft (after_items items (entered a)) g)
        (parts_keep (SeenStatement (Block items at) a w) (items_nodes items (entered a) w) n) c are (λ o m. or_right (f.live o) (block_declares made o) m) tt
    fit_statement f (Empty at) w a p h g n c are = tt
    fit_statement f (Evaluate value at) w a p h g n c are = fit_here f value a p h g (parts_keep (SeenStatement (Evaluate value at) a w) (value_nodes value a) n) c
    fit_statement f (Marker pragma) w a p h g n c are = tt
    fit_statement f (If test one at) w a p h g n c are =
        let parts = parts_keep (SeenStatement (If test one at) a w) (value_nodes test a ++ statement_nodes one a w) n in
        let calls = statement_calls (typed_statement result one a) in
        let next = beside one a h.block in (
          fit_here f test a p h (grows_then a (after one a) last next.inside.grows g) (faultless_first (value_nodes test a) (statement_nodes one a w) parts) (calls_first f (expr_calls (typed_value test a)) calls c),
          fit_statement f one w a p h g (faultless_second (value_nodes test a) (statement_nodes one a w) parts) (calls_second f (expr_calls (typed_value test a)) calls c) are,
        )
    fit_statement f (IfElse test one two at) w a p h g n c are =
        let between = after one a in
        let parts = parts_keep (SeenStatement (IfElse test one two at) a w) (value_nodes test a ++ (statement_nodes one a w ++ statement_nodes two between w)) n in
        let both = faultless_second (value_nodes test a) (statement_nodes one a w ++ statement_nodes two between w) parts in
        let first_calls = statement_calls (typed_statement result one a) in
        let second_calls = statement_calls (typed_statement result two between) in
        let c2 = calls_second f (expr_calls (typed_value test a)) (first_calls ++ second_calls) c in
        let next = beside one a h.block in
        let last_one = beside two between (in_same a between next.inside.outer_is h.block) in
        let g1 = grows_then between (after two between) last last_one.inside.grows g in
        let one_sites = statement_sites layout.variables (typed_statement result one a) in
        let two_sites = statement_sites layout.variables (typed_statement result two between) in (
          fit_here f test a p h (grows_then a between last next.inside.grows g1) (faultless_first (value_nodes test a) (statement_nodes one a w ++ statement_nodes two between w) parts) (calls_first f (expr_calls (typed_value test a)) (first_calls ++ second_calls) c),
          fit_statement f one w a p h g1 (faultless_first (statement_nodes one a w) (statement_nodes two between w) both) (calls_first f first_calls second_calls c2) (bounds_first derived bounds a.loops one_sites two_sites are),
          fit_statement f two w between p (stands_beside f a between next h) g (faultless_second (statement_nodes one a w) (statement_nodes two between w) both) (calls_second f first_calls second_calls c2)
              (bounds_second derived bounds a.loops between.loops one_sites two_sites (loops_statement derived layout.variables result one a) are),
        )
    fit_statement f (While bound test body at) w a p h g n c are =
        let head = with_loop a in
        let parts = parts_keep (SeenStatement (While bound test body at) a w) (value_nodes test head ++ statement_nodes body head (in_loop w)) n in
        let calls = statement_calls (typed_statement result body head) in
        let next = beside body head h.block in (
          fit_here f test head p (stands_loop f a h) (grows_then head (after body head) last next.inside.grows g) (faultless_first (value_nodes test head) (statement_nodes body head (in_loop w)) parts) (calls_first f (expr_calls (typed_value test head)) calls c),
          fit_statement f body (in_loop w) head p (stands_loop f a h) g (faultless_second (value_nodes test head) (statement_nodes body head (in_loop w)) parts) (calls_second f (expr_calls (typed_value test head)) calls c)
              (bounds_behind derived bounds a.loops (a.loops + 1) bound at (statement_sites layout.variables (typed_statement result body head)) are),
        )
    fit_statement f (Do bound body test at) w a p h g n c are =
        let head = with_loop a in
        let behind = after body head in
        let parts = parts_keep (SeenStatement (Do bound body test at) a w) (statement_nodes body head (in_loop w) ++ value_nodes test behind) n in
        let calls = statement_calls (typed_statement result body head) in
        let next = beside body head h.block in (
          fit_here f test behind p (stands_beside f head behind next (stands_loop f a h)) g (faultless_second (statement_nodes body head (in_loop w)) (value_nodes test behind) parts) (calls_second f calls (expr_calls (typed_value test behind)) c),
          fit_statement f body (in_loop w) head p (stands_loop f a h) g (faultless_first (statement_nodes body head (in_loop w)) (value_nodes test behind) parts) (calls_first f calls (expr_calls (typed_value test behind)) c)
              (bounds_behind derived bounds a.loops (a.loops + 1) bound at (statement_sites layout.variables (typed_statement result body head)) are),
        )
    fit_statement f (For bound start test step body at) w a p h g n c are =
        let head = with_loop (entered a) in
        let within = within_for start a in
        let begun = typed_start start head in
        let f1 = with_live f (start_declares begun) in
        let at_head : Stands f1 head = stands_loop f1 (entered a) (stands_within f (start_declares begun) a h) in
        let next = beside body within (in_same head within (inside_start start head (in_entered a)).outer_is (in_entered a)) in
        let g1 = unleft (after body within) g in
        let g2 = grows_then within (after body within) last next.inside.grows g1 in
        let live : (o : ℕ) → start_declares begun o ≡ true → f1.live o ≡ true = λ o m. or_right (f.live o) (start_declares begun o) m in
        let at_within : Stands f1 within = stands_start f1 start head p at_head g2 live in
        let n0 = start_nodes start head in
        let n1 = option_nodes test within in
        let n2 = option_nodes step within in
        let n3 = statement_nodes body within (in_loop w) in
        let k = parts_keep (SeenStatement (For bound start test step body at) a w) (n0 ++ (n1 ++ (n2 ++ n3))) n in
        let k1 = faultless_second n0 (n1 ++ (n2 ++ n3)) k in
        let k2 = faultless_second n1 (n2 ++ n3) k1 in
        let c0 = start_calls begun in
        let c1 = option_calls (typed_option test within) in
        let c2 = option_calls (typed_option step within) in
        let c3 = statement_calls (typed_statement result body within) in
        let d1 = calls_second f c0 (c1 ++ (c2 ++ c3)) c in
        let d2 = calls_second f c1 (c2 ++ c3) d1 in
        let s0 = start_sites layout.variables begun in
        let s1 = statement_sites layout.variables (typed_statement result body within) in
        let sites = bounds_behind derived bounds a.loops (a.loops + 1) bound at (s0 ++ s1) are in (
          fit_start f1 start head p at_head g2 (faultless_first n0 (n1 ++ (n2 ++ n3)) k) (calls_first f c0 (c1 ++ (c2 ++ c3)) c) (bounds_first derived bounds head.loops s0 s1 sites) live,
          fit_option f1 test within p at_within g2 (faultless_first n1 (n2 ++ n3) k1) (calls_first f c1 (c2 ++ c3) d1),
          fit_option f1 step within p at_within g2 (faultless_first n2 n3 k2) (calls_first f c2 c3 d2),
          fit_statement f1 body (in_loop w) within p at_within g1 (faultless_second n2 n3 k2) (calls_second f c2 c3 d2) (bounds_second derived bounds head.loops within.loops s0 s1 (loops_start derived layout.variables start head) sites),
        )
    fit_statement f (Switch test items at) w a p h g n c are =
        let made = typed_items result items (entered a) typed.NoItem in
        let inner = items_nodes items (entered a) (in_switch w) in
        let parts = parts_keep (SeenStatement (Switch test items at) a w) (value_nodes test a ++ inner) n in
        let g1 = unleft (after_items items (entered a)) g in
        let g2 = grows_then a (entered a) last (grows_same a (entered a) refl refl refl) (grows_then (entered a) (after_items items (entered a)) last (inside_items items (entered a) (in_entered a)).grows g1) in
        let kind = promoted (kind_of test a) in
        let test_calls = expr_calls (value_at kind test a) in (
          fit_converted layout signatures f (kind_of test a) kind (typed_value test a)
              (fit_here f test a p h g2 (faultless_first (value_nodes test a) inner parts) (calls_converted f (kind_of test a) kind (typed_value test a) (calls_first f test_calls (items_calls made) c))),
          fit_items (with_live f (block_declares made)) items (in_switch w) (entered a) typed.NoItem p (stands_within f (block_declares made) a h) g1 (faultless_second (value_nodes test a) inner parts)
              (calls_second f test_calls (items_calls made) c) are (λ o m. or_right (f.live o) (block_declares made o) m) tt,
        )
    fit_statement f (Break at) w a p h g n c are = tt
    fit_statement f (Continue at) w a p h g n c are = tt
    fit_statement f (Return value at) w a p h g n c are = fit_return f value a p h g (parts_keep (SeenStatement (Return value at) a w) (option_nodes value a) n) c

    pub fit_items : (f : Function) (items : Items ℕ) (w : Within) (a : Around) (rest : typed.Items) → Plan f → Stands f a → Grows (after_items items a) last → NoFault (items_nodes items a w) → Callable f (items_calls (typed_items result items a rest)) →
        AreBounds derived bounds a.loops (items_sites layout.variables (typed_items result items a rest)) → Holds f (typed_items result items a rest) → FitItems layout signatures (plan.kind_of result) bounds f rest → FitItems layout signatures (plan.kind_of result) bounds f (typed_items result items a rest)
    fit_items f NoItem w a rest p h g n c are live r = r
    fit_items f (AndDeclaration front d) w a rest p h g n c are live r =
        let now = after_items front a in
        let made = typed_declaration d now in
        let before = grows_then now (after_declaration d now) last (declaration_grows d now) g in
        let with = typed.WithDeclaration made rest in
        let here = stands_items f front a with p h before live in
        let covers : (o : ℕ) → declares made o ≡ true → f.live o ≡ true = λ o m. holds_behind f result front a with live o (or_left (declares made o) (block_declares rest o) m) in
        fit_items f front w a with p h before (faultless_first (items_nodes front a w) (declaration_nodes d now) n) c are live (
          fit_declaration f d now p here g (faultless_second (items_nodes front a w) (declaration_nodes d now) n) (calls_first f (declaration_calls made) (items_calls rest) (calls_behind f result front a with c))
              (bounds_first derived bounds now.loops (declaration_sites layout.variables made) (items_sites layout.variables rest) (bounds_items derived layout.variables bounds result front a with are)) covers,
          r,
        )
    fit_items f (AndStatement front s) w a rest p h g n c are live r =
        let now = after_items front a in
        let made = typed_statement result s now in
        let next = beside s now (in_same a now (inside_items front a h.block).outer_is h.block) in
        let before = grows_then now (after s now) last next.inside.grows g in
        let with = typed.WithStatement made rest in
        let here = stands_items f front a with p h before live in
        fit_items f front w a with p h before (faultless_first (items_nodes front a w) (statement_nodes s now w) n) c are live (
          fit_statement f s w now p here g (faultless_second (items_nodes front a w) (statement_nodes s now w) n) (calls_first f (statement_calls made) (items_calls rest) (calls_behind f result front a with c))
              (bounds_first derived bounds now.loops (statement_sites layout.variables made) (items_sites layout.variables rest) (bounds_items derived layout.variables bounds result front a with are)),
          r,
        )
    fit_items f (AndRestriction front pragma) w a rest p h g n c are live r = fit_items f front w a (typed.WithRestriction pragma rest) p h g n c are live r
    fit_items f (AndLabel front label) w a rest p h g n c are live r =
        fit_items f front w a (typed.WithLabel (typed_label label (after_items front a)) rest) p h g (faultless_first (items_nodes front a w) (label_nodes label front (after_items front a)) n) c are live r
