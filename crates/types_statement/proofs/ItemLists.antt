-- Items as the walk meets them, and the labels among those before each.
use Rattle.std.proofs.Common.{◌≡◌, refl, ap, ◌∙◌, sym, ℕ, ◌+◌, ◌<◌, ◌≤◌, List, [], ◌∷◌, ◌++◌, length, get_or, drop, Option, Some, None, Bool, true, false, ◌||◌, nat_eq, if◌then◌else◌}
use Rattle.std.specs.Prelude.{Vec}
use Rattle.std.specs.Global.{Global}
use Rattle.std.specs.List.{list_any}
use Rattle.std.proofs.lemmas.List.{drop_all}
use Rattle.std.proofs.lemmas.Bool.{eqb-true}
use Rattle.std.proofs.lemmas.List.Folds.{list_any-append}
use Rattle.c_tree.specs.Tree.{Label, Case, Default, Items, NoItem, AndLabel}
use Rattle.c_tree.specs.View.{and_item, items_of as source_items, label_of as source_label}
use Rattle.c_tree.specs.declared.statement.Item as sources
use Rattle.types_tree.specs.declared.statement.Item as code
use Rattle.types_tree.specs.Tree as typed
use Rattle.types_tree.specs.View.{items_of, with_item as put}
use Rattle.types_value.specs.declared.kind.Kind.{Kind}
use Rattle.types_rules.specs.Constants.{constant_word}
use Rattle.types_rules.specs.ExpressionRules.{when}
use Rattle.types_rules.specs.Scope.{Around, is_among, or_else}
use Rattle.types_rules.specs.StatementRules.{Within, after_items, case_rule, has_default, label_rule, label_words, with_word}
use Rattle.types_rules.specs.Typing.{typed_items}
use Rattle.types_rules.specs.declared.fault.Fault.{Fault}
use Rattle.types_rules.specs.declared.fault.Rule.{Rule}
use Rattle.types_rules.specs.declared.fault.Rule.TheVariants as rules
use Rattle.types_expression.proofs.Arguments.{drop_item}
use Rattle.types_expression.proofs.Choice.{or_else-assoc}
use Rattle.types_statement.specs.Checked.{AreItems, after_item, item_fault, typed_item}
use Rattle.types_statement.specs.Labels.{Seen, item_rule, no_labels, rule_among, with_constant, with_item, with_label}
use Rattle.types_statement.specs.Walk.{fault_among}

-- what is seen of labels stands for those among these items
pub record StandsFor (seen : Seen) (front : Items ℕ) : Type 0 where
  pub words : (n : ℕ) → is_among n seen.words ≡ is_among n (label_words front)
  pub default : seen.default ≡ has_default front

none_seen : StandsFor no_labels NoItem
none_seen = record { words = λ n. refl; default = refl }

or-swap : (a b : Bool) → (a || (b || false)) ≡ (b || a)
or-swap true true = refl
or-swap true false = refl
or-swap false true = refl
or-swap false false = refl

absorbed : (n word : ℕ) (words : List ℕ) (same : Bool) → nat_eq n word ≡ same → list_any (nat_eq word) words ≡ true → list_any (nat_eq n) words ≡ (same || list_any (nat_eq n) words)
absorbed n word words false e h = refl
absorbed n word words true e h = rw (eqb-true n word e) h

with_number-among : (n word : ℕ) (words : List ℕ) (has : Bool) → list_any (nat_eq word) words ≡ has → is_among n (if has then words else words ++ word ∷ []) ≡ (nat_eq n word || is_among n words)
with_number-among n word words true h = absorbed n word words (nat_eq n word) refl h
with_number-among n word words false h = list_any-append (nat_eq n) words (word ∷ []) ∙ or-swap (is_among n words) (nat_eq n word)

with_constant-among : (n : ℕ) (word : Option ℕ) (words : List ℕ) (others : List ℕ) → is_among n words ≡ is_among n others → is_among n (with_constant word words) ≡ is_among n (with_word word others)
with_constant-among n None words others h = h
with_constant-among n (Some word) words others h = with_number-among n word words (list_any (nat_eq word) words) refl ∙ ap (λ b. nat_eq n word || b) h

-- one item more
pub seen_more : (item : sources.Item) (seen : Seen) (front : Items ℕ) → StandsFor seen front → StandsFor (with_item item seen) (and_item front item)
seen_more (sources.Declaration declaration) seen front s = record { words = s.words; default = s.default }
seen_more (sources.Statement statement) seen front s = record { words = s.words; default = s.default }
seen_more (sources.Restriction pragma) seen front s = record { words = s.words; default = s.default }
seen_more (sources.Label label) seen front s = of (source_label label)
  where
    of : (l : Label ℕ) → StandsFor (with_label l seen) (AndLabel front l)
    of (Case value at) = record { words = λ n. with_constant-among n (constant_word value) seen.words (label_words front) (s.words n); default = s.default }
    of (Default at) = record { words = s.words; default = refl }

-- the rule of an item by the items before it
abbrev pub rule_behind : sources.Item → Items ℕ → Option Rule
rule_behind (sources.Declaration declaration) front = None
rule_behind (sources.Statement statement) front = None
rule_behind (sources.Restriction pragma) front = None
rule_behind (sources.Label label) front = label_rule (source_label label) front

same_case : (word : Option ℕ) (words others : List ℕ) → ((n : ℕ) → is_among n words ≡ is_among n others) → case_rule word words ≡ case_rule word others
same_case None words others h = refl
same_case (Some word) words others h = ap (λ b. when b rules.Label) (h word)

pub same_rule : (item : sources.Item) (seen : Seen) (front : Items ℕ) → StandsFor seen front → item_rule item seen ≡ rule_behind item front
same_rule (sources.Declaration declaration) seen front s = refl
same_rule (sources.Statement statement) seen front s = refl
same_rule (sources.Restriction pragma) seen front s = refl
same_rule (sources.Label label) seen front s = of (source_label label)
  where
    of : (l : Label ℕ) → rule_among l seen ≡ label_rule l front
    of (Case value at) = same_case (constant_word value) seen.words (label_words front) s.words
    of (Default at) = ap (λ b. when b rules.Label) s.default

abbrev pub after_each : List sources.Item → Around → Around
after_each [] a = a
after_each (x ∷ xs) a = after_each xs (after_item x a)

abbrev pub fault_each : Within → List sources.Item → Items ℕ → Around → Option Fault
fault_each w [] front a = None
fault_each w (x ∷ xs) front a = or_else (item_fault x (rule_behind x front) a w) (fault_each w xs (and_item front x) (after_item x a))

abbrev pub typed_each : Kind → List sources.Item → Around → typed.Items → typed.Items
typed_each result [] a rest = rest
typed_each result (x ∷ xs) a rest = typed_item result x a (typed_each result xs (after_item x a) rest)

or_else-none : {A : Type 0} (o : Option A) → or_else o None ≡ o
or_else-none (Some x) = refl
or_else-none None = refl

after_one : (front : Items ℕ) (x : sources.Item) (a : Around) → after_items (and_item front x) a ≡ after_item x (after_items front a)
after_one front (sources.Declaration declaration) a = refl
after_one front (sources.Statement statement) a = refl
after_one front (sources.Restriction pragma) a = refl
after_one front (sources.Label label) a = refl

fault_one : (w : Within) (front : Items ℕ) (x : sources.Item) (a : Around) → fault_among (and_item front x) a w ≡ or_else (fault_among front a w) (item_fault x (rule_behind x front) (after_items front a) w)
fault_one w front (sources.Declaration declaration) a = refl
fault_one w front (sources.Statement statement) a = refl
fault_one w front (sources.Restriction pragma) a = sym (or_else-none (fault_among front a w))
fault_one w front (sources.Label label) a = refl

typed_one : (result : Kind) (front : Items ℕ) (x : sources.Item) (a : Around) (rest : typed.Items) → typed_items result (and_item front x) a rest ≡ typed_items result front a (typed_item result x (after_items front a) rest)
typed_one result front (sources.Declaration declaration) a rest = refl
typed_one result front (sources.Statement statement) a rest = refl
typed_one result front (sources.Restriction pragma) a rest = refl
typed_one result front (sources.Label label) a rest = refl

after_items-each : (front : Items ℕ) (xs : List sources.Item) (a : Around) → after_items (source_items front xs) a ≡ after_each xs (after_items front a)
after_items-each front [] a = refl
after_items-each front (x ∷ xs) a = after_items-each (and_item front x) xs a ∙ ap (after_each xs) (after_one front x a)

fault_among-each : (w : Within) (front : Items ℕ) (xs : List sources.Item) (a : Around) → fault_among (source_items front xs) a w ≡ or_else (fault_among front a w) (fault_each w xs front (after_items front a))
fault_among-each w front [] a = sym (or_else-none (fault_among front a w))
fault_among-each w front (x ∷ xs) a =
    let now = after_items front a in
    let more = and_item front x in
    let own = item_fault x (rule_behind x front) now w in
    fault_among-each w more xs a
    ∙ ap (λ b. or_else (fault_among more a w) (fault_each w xs more b)) (after_one front x a)
    ∙ ap (λ o. or_else o (fault_each w xs more (after_item x now))) (fault_one w front x a)
    ∙ or_else-assoc (fault_among front a w) own (fault_each w xs more (after_item x now))

typed_items-each : (result : Kind) (front : Items ℕ) (xs : List sources.Item) (a : Around) (rest : typed.Items) → typed_items result (source_items front xs) a rest ≡ typed_items result front a (typed_each result xs (after_items front a) rest)
typed_items-each result front [] a rest = refl
typed_items-each result front (x ∷ xs) a rest =
    typed_items-each result (and_item front x) xs a rest
    ∙ ap (λ b. typed_items result (and_item front x) a (typed_each result xs b rest)) (after_one front x a)
    ∙ typed_one result front x a (typed_each result xs (after_item x (after_items front a)) rest)

-- items with others in place of their end
abbrev onto : typed.Items → typed.Items → typed.Items
onto typed.NoItem rest = rest
onto (typed.WithDeclaration declaration end) rest = typed.WithDeclaration declaration rest
onto (typed.WithStatement statement end) rest = typed.WithStatement statement rest
onto (typed.WithRestriction pragma end) rest = typed.WithRestriction pragma rest
onto (typed.WithLabel label end) rest = typed.WithLabel label rest

put_onto : (x : code.Item) (rest : typed.Items) → put x rest ≡ onto (put x typed.NoItem) rest
put_onto (code.Declaration declaration) rest = refl
put_onto (code.Statement statement) rest = refl
put_onto (code.Restriction pragma) rest = refl
put_onto (code.Label label) rest = refl

typed_onto : (result : Kind) (x : sources.Item) (a : Around) (rest : typed.Items) → typed_item result x a rest ≡ onto (typed_item result x a typed.NoItem) rest
typed_onto result (sources.Declaration declaration) a rest = refl
typed_onto result (sources.Statement statement) a rest = refl
typed_onto result (sources.Restriction pragma) a rest = refl
typed_onto result (sources.Label label) a rest = refl

-- typed items before others
abbrev pub before : List code.Item → typed.Items → typed.Items
before [] rest = rest
before (x ∷ xs) rest = put x (before xs rest)

before-push : (xs : List code.Item) (x : code.Item) (rest : typed.Items) → before (xs ++ x ∷ []) rest ≡ before xs (put x rest)
before-push [] x rest = refl
before-push (y ∷ xs) x rest = ap (put y) (before-push xs x rest)

before-none : (xs : List code.Item) → before xs typed.NoItem ≡ items_of xs
before-none [] = refl
before-none (x ∷ xs) = ap (put x) (before-none xs)

-- the loop over the items, behind those before i
pub record SoFar (w : Within) (given : List sources.Item) (a : Around) (i : ℕ) (now : Around) (made : List code.Item) (seen : Seen) (fault : Option Fault) : Type 0 where
  pub front : Items ℕ
  pub seen_is : StandsFor seen front
  pub after_is : after_each given a ≡ after_each (drop i given) now
  pub fault_is : fault_each w given NoItem a ≡ or_else fault (fault_each w (drop i given) front now)
  pub typed_is : typed_each w.result given a typed.NoItem ≡ before made (typed_each w.result (drop i given) now typed.NoItem)

pub so_far : (w : Within) (given : List sources.Item) (a : Around) → SoFar w given a 0 a [] no_labels None
so_far w given a = record { front = NoItem; seen_is = none_seen; after_is = refl; fault_is = refl; typed_is = refl }

pub one_more : (w : Within) (given : List sources.Item) (a : Around) (i : ℕ) (x : sources.Item) (now next : Around) (made : List code.Item) (item : code.Item) (seen : Seen) (fault fault_now : Option Fault) (rule : Option Rule)
    → i < length given → x ≡ get_or given i x → SoFar w given a i now made seen fault
    → rule ≡ item_rule x seen → put item typed.NoItem ≡ typed_item w.result x now typed.NoItem → fault_now ≡ item_fault x rule now w → next ≡ after_item x now
    → SoFar w given a (i + 1) next (made ++ item ∷ []) (with_item x seen) (or_else fault fault_now)
one_more w given a i x now next made item seen fault fault_now rule h is s r t f n =
    let split = drop_item given i x h is in
    let rest = drop (i + 1) given in
    let more = and_item s.front x in
    let behind = typed_each w.result rest (after_item x now) typed.NoItem in
    let own : fault_now ≡ item_fault x (rule_behind x s.front) now w = f ∙ ap (λ o. item_fault x o now w) (r ∙ same_rule x seen s.front s.seen_is) in
    let whole : put item behind ≡ typed_item w.result x now behind = put_onto item behind ∙ ap (λ o. onto o behind) t ∙ sym (typed_onto w.result x now behind) in
    record {
      front = more;
      seen_is = seen_more x seen s.front s.seen_is;
      after_is = s.after_is ∙ ap (λ xs. after_each xs now) split ∙ ap (after_each rest) (sym n);
      fault_is = s.fault_is ∙ ap (λ xs. or_else fault (fault_each w xs s.front now)) split
          ∙ ap (λ o. or_else fault (or_else o (fault_each w rest more (after_item x now)))) (sym own)
          ∙ ap (λ b. or_else fault (or_else fault_now (fault_each w rest more b))) (sym n)
          ∙ sym (or_else-assoc fault fault_now (fault_each w rest more next));
      typed_is = s.typed_is ∙ ap (λ xs. before made (typed_each w.result xs now typed.NoItem)) split
          ∙ ap (before made) (sym whole)
          ∙ ap (λ b. before made (put item (typed_each w.result rest b typed.NoItem))) (sym n)
          ∙ sym (before-push made item (typed_each w.result rest next typed.NoItem));
    }

pub all_so_far : (w : Within) (given : List sources.Item) (a : Around) (i : ℕ) (now : Around) (made : Vec code.Item Global) (seen : Seen) (fault : Option Fault)
    → length given ≤ i → SoFar w given a i now made.items seen fault → AreItems (record { items = made; fault = fault }) (source_items NoItem given) w a now
all_so_far w given a i now made seen fault all s =
    let end = drop_all i given all in
    record {
      items = sym (typed_items-each w.result NoItem given a typed.NoItem ∙ s.typed_is ∙ ap (λ xs. before made.items (typed_each w.result xs now typed.NoItem)) end ∙ before-none made.items);
      fault = sym (fault_among-each w NoItem given a ∙ s.fault_is ∙ ap (λ xs. or_else fault (fault_each w xs s.front now)) end ∙ or_else-none fault);
      after = sym (after_items-each NoItem given a ∙ s.after_is ∙ ap (λ xs. after_each xs now) end);
    }
