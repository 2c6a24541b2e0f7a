-- A value that the matches hold passed the parser of its argument.
use Rattle.std.proofs.Common.{◌≡◌, ◌≤◌, ◌<◌, ◌∙◌, ◌⊎◌, inl, inr, ◌&&◌, ℕ, Bool, true, false, zero, suc, List, [], ◌∷◌, length, map, Option, Some, None, Bor, option_map, refl, sym, ap, subst, arith, rules, codes}
use Rattle.std.specs.Prelude.{slice_get, ⊤}
use Rattle.std.specs.List.{All, slice_index_or}
use Rattle.std.specs.Str.{bytes_eq}
use Rattle.std.proofs.lemmas.List.Elements.{All-get_or}
use Rattle.std.proofs.lemmas.Slice.Eq.{bytes_eq-Decides}
use Rattle.std.specs.List.{list_all}
use Rattle.clap.specs.Words.{Kinds, HasKind, kind_of}
use Rattle.clap.specs.declared.error.Error.{Error}
use Rattle.clap.specs.declared.error.kind.ErrorKind.TheVariants.{OutOfMemory}
use Rattle.clap.specs.Words.{App, Rule, Text, app_of, args_of, groups_of, first_of, first_value, found_of, matched_of, rows_of, rule_of, Accepts, IsParsedFrom}
use Rattle.clap.specs.Facts.{Entry, EntryPasses, PassesArg, parser_of, parser_of_value}
use Rattle.clap.specs.Built.{BuildsTo, IsAuto, NamesNoGroup}
use Rattle.clap.specs.Values.{IsUnsignedIn}
use Rattle.clap.specs.declared.builder.value_parser.ValueParser.TheVariants as parser
use Rattle.std.proofs.lemmas.Bool.{false≢true}
use Rattle.clap.specs.Simple.{shape_of}
use Rattle.clap.specs.Walk.{rules_of}
use Rattle.clap.specs.declared.builder.arg.Arg.{Arg}
use Rattle.clap.specs.declared.builder.command.Command.{Command}
use Rattle.clap.specs.declared.builder.value_parser.ValueParser.{ValueParser}
use Rattle.clap.specs.declared.parser.matches.ArgMatches.{ArgMatches}
use Rattle.clap.specs.declared.parser.matches.MatchedArg.{MatchedArg}
use Rattle.clap.proofs.CallerLemmas.{entry_by_id}
use Rattle.clap.proofs.SimpleLemmas.{HasPlainFields, plain_fields, simple_groups}
use Rattle.clap.proofs.WalkLemmas.{first_value-rows}
use Rattle.command_words.specs.Asked.{is_empty}

-- each rule with this id has this parser
abbrev pub EachNamed : Text → ValueParser → List Rule → Type 0
EachNamed id q [] = ⊤
EachNamed id q (r ∷ rs) = (bytes_eq r.id id ≡ true → r.parser ≡ Some q) × EachNamed id q rs

named_at : (id : Text) (q : ValueParser) (xs : List Arg) (k : ℕ) (d : Arg) → EachNamed id q (map rule_of xs) → k < length xs
    → bytes_eq (slice_index_or xs k d).id.now id ≡ true → (slice_index_or xs k d).value_parser ≡ Some q
named_at id q [] k d all lt same = absurd (omega arith)
named_at id q (x ∷ xs) zero d all lt same = all.0 same
named_at id q (x ∷ xs) (suc k) d all lt same = named_at id q xs k d all.1 (omega arith) same

-- what a command must have for this: it is plain, and each argument of this id has the parser
pub record Reads (c : Command) (id : Text) (q : ValueParser) : Type 0 where
  pub rules : EachNamed id q (rules_of c)
  pub plain : (shape_of c).is_plain ≡ true
  pub no_groups : NamesNoGroup c
  pub named : id ≡ [] → ⊥
  pub help : bytes_eq (codes "help") id ≡ false
  pub version : bytes_eq (codes "version") id ≡ false

-- the argument of the built command that took the value has the parser
has_parser : (old built : Command) (id : Text) (least most : ℕ) → BuildsTo old built → Reads old id (parser.Unsigned least most)
    → (k : ℕ) (x : Arg) → k < length (args_of built) → slice_index_or (args_of built) k x ≡ x → bytes_eq x.id.now id ≡ true
    → (k < length (args_of old)) ⊎ (length (args_of old) ≤ k) → x.value_parser ≡ Some (parser.Unsigned least most)
has_parser old built id least most b r k x lt at same (inl low) =
    let s = (b.kept k x low).1 in
    let id_is : x.id.now ≡ (slice_index_or (args_of old) k x).id.now = ap (λ (a : Arg). a.id.now) (sym at) ∙ ap (λ i. i.now) s.id in
    let own = named_at id (parser.Unsigned least most) (args_of old) k x r.rules low (rw (← id_is) same) in
    ap (λ (a : Arg). a.value_parser) (sym at) ∙ s.parser (parser.Unsigned least most) own
has_parser old built id least most b r k x lt at same (inr high) =
    let auto = b.extra k x high lt in
    let auto_x : IsAuto x = subst IsAuto at auto in
    elim auto_x [
      | inl h ↦ absurd (false≢true (sym r.help ∙ rw h at same))
      | inr h ↦ absurd (false≢true (sym r.version ∙ rw h at same))
    ]

below_or_not : (k n : ℕ) → (k < n) ⊎ (n ≤ k)
below_or_not k n = grind arith

passed : (old built : Command) (id t : Text) (least most : ℕ) → BuildsTo old built → Reads old id (parser.Unsigned least most)
    → PassesArg built id t → IsUnsignedIn least most t
passed old built id t least most b r p =
    let is : p.1.value_parser ≡ Some (parser.Unsigned least most) = has_parser old built id least most b r p.0 p.1 p.2 p.3 p.4.0 (below_or_not p.0 (length (args_of old))) in
    let q : parser_of p.1 ≡ parser.Unsigned least most = ap parser_of_value is in
    subst (λ w. Accepts p.1.ignore_case w t) q p.4.1

first_passes : (P : Text → Type 0) (vs : List (Bor Text)) (t : Text) → All (λ v. P v.now) vs → option_map (λ s. s.now) (slice_get vs 0) ≡ Some t → P t
first_passes P [] t all e = cc
first_passes P (v ∷ vs) t all e =
    let is : v.now ≡ t = grind rules in
    subst P is (All-get_or (λ v. P v.now) (v ∷ vs) 0 v (omega arith) all)

entry_passed : (old built : Command) (id t : Text) (least most : ℕ) (x : MatchedArg) (e : Entry) → BuildsTo old built → Reads old id (parser.Unsigned least most)
    → groups_of built ≡ [] → e.1 ≡ x → bytes_eq e.0.now id ≡ true → EntryPasses built e → option_map (λ s. s.now) (slice_get x.vals.items 0) ≡ Some t
    → IsUnsignedIn least most t
entry_passed old built id t least most x e b r none same key pass first =
    let key_id : e.0.now ≡ id = (bytes_eq-Decides e.0.now id).0 key in
    let no_group : e.1.is_group ≡ true → ⊥ = λ g. elim (pass.3 g) [
      | inl empty ↦ r.named (sym key_id ∙ empty)
      | inr lots ↦
          let bad : 0 < 0 = rw none at lots in
          absurd (omega arith)
    ] in
    elim pass.0 [
      | inl g ↦ absurd (no_group g)
      | inr vals ↦
          let all : All (λ v. PassesArg built id v.now) x.vals.items = subst (λ (w : Text). All (λ v. PassesArg built w v.now) x.vals.items) key_id (rw same at vals) in
          passed old built id t least most b r (first_passes (PassesArg built id) x.vals.items t all first)
    ]

-- where a parse of a plain command gives a number's text, its parser took it
pub accepted : (old : Command) (m : ArgMatches) (id t : Text) (least most : ℕ) → IsParsedFrom old m → Reads old id (parser.Unsigned least most)
    → first_of id (rows_of (found_of m)) ≡ Some t → IsUnsignedIn least most t
accepted old m id t least most p r first = go (matched_of (found_of m) id) refl (first_value-rows (found_of m) id ∙ first)
  where
    plain : HasPlainFields old
    plain = plain_fields old r.plain

    go : (o : Option MatchedArg) → matched_of (found_of m) id ≡ o → first_value (found_of m) id ≡ Some t → IsUnsignedIn least most t
    go None e h =
        let bad : None ≡ Some t = rw e at h in
        cc
    go (Some x) e h =
        let parsed = p.parsed (p.from.globals ∙ plain.globals) in
        let got = entry_by_id (EntryPasses p.built) (found_of m).entries.items id x parsed.values e in
        let none : groups_of p.built ≡ [] = (p.from.same_groups r.no_groups).1 ∙ plain.groups in
        entry_passed old p.built id t least most x got.0 p.from r none got.1 got.2 got.3 (rw e at h)

-- the same facts, from what a parse reads of the command
pub reads_from : (c : Command) (a : App) (id : Text) (q : ValueParser) → app_of c ≡ a → EachNamed id q a.top.rules → a.top.is_plain ≡ true
    → list_all (λ (r : Rule). r.is_simple) a.top.rules ≡ true → (id ≡ [] → ⊥) → bytes_eq (codes "help") id ≡ false → bytes_eq (codes "version") id ≡ false
    → Reads c id q
reads_from c a id q is all plain simple named help version = record {
  rules = subst (λ (b : App). EachNamed id q b.top.rules) (sym is) all;
  plain = ap (λ (b : App). b.top.is_plain) is ∙ plain;
  no_groups = simple_groups c (ap (λ (b : App). list_all (λ (r : Rule). r.is_simple) b.top.rules) is ∙ simple);
  named = named;
  help = help;
  version = version;
}

-- an error that isn't want of memory has a cause in the words
pub has_cause : (kinds : Kinds) (e : Error) → (kind_of e ≡ OutOfMemory → ⊥) → HasKind kinds e → is_empty kinds ≡ false
has_cause [] e other (inl h) = absurd (other h)
has_cause [] e other (inr h) = absurd h
has_cause (k ∷ ks) e other h = refl

-- words in which nothing is refused are accepted
pub no_cause : (kinds : Kinds) → kinds ≡ [] → is_empty kinds ≡ true
no_cause kinds none = rw none

pub left_of : (a b : Bool) → (a && b) ≡ true → a ≡ true
left_of true b h = refl
left_of false b h = absurd (false≢true h)
