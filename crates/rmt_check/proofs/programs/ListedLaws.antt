-- The names that the tables of a program tell are those that stand in its text.
use Rattle.std.proofs.Common.{◌≡◌, ◌+◌, ◌∙◌, ℕ, List, [], ◌∷◌, Option, None, option_map, unwrap_or, Ok, map, sum, length, All, get_or, true, refl, sym, ap, ap₂, arith}
use Rattle.std.specs.List.{flat_map}
use Rattle.std.proofs.lemmas.List.Elements.{All-head, All-tail}
use Rattle.std.proofs.lemmas.Option.{slice_get-map}
use Rattle.rmt_ast.specs.Naming.{name_of_action}
use Rattle.rmt_ast.specs.NameList.{is_known}
use Rattle.rmt_lexer.specs.Text.{tokens_of}
use Rattle.rmt_syntax.specs.Trees.{IsTreeOf}
use Rattle.rmt_check.specs.Parts.{Action, Token, Tree, Ident, ActionText, TableText, Source}
use Rattle.rmt_check.specs.Names.{action_names, key_fields, listed}
use Rattle.rmt_check.specs.Rules.{fault_of, unknown, unknown_field}
use Rattle.rmt_check.specs.Meaning.{action_number, action_of, table_of, program_of}
use Rattle.rmt_check.specs.Reading.{source_of}
use Rattle.rmt_check.specs.NamedTexts.{IsShortFor, name_bytes}
use Rattle.rmt_check.proofs.Finding.{stands_for}
use Rattle.rmt_check.proofs.programs.RuleLaws.{none_in, all_known, KeepsRules, keeps_rules}
use Rattle.rmt_check.proofs.programs.TableLaws.{lists}
use Rattle.rmt_check.proofs.texts.ByteLaws.{sum-cons, ident_bytes, table_bytes, tables_short}

module _ (s : Source) where
  -- a name of an action of the text
  abbrev IsAction : Ident → Type 0
  IsAction i = is_known (action_names s) i.name ≡ true

  -- the action that a table's list names has that name
  name_kept : (i : Ident) → IsAction i → name_of_action (program_of s) (action_number s i) ≡ i.name
  name_kept i known =
      let r = stands_for (λ (a : ActionText). a.ident.name) i.name s.actions known in
      let at = slice_get-map (action_of s) s.actions (action_number s i) ∙ ap (option_map (action_of s)) r.at in
      ap (λ (o : Option Action). unwrap_or (option_map (λ (a : Action). a.name) o) []) at ∙ sym r.named

  names_kept : (is : List Ident) → All IsAction is → sum (map (λ a. length (name_of_action (program_of s) a)) (map (action_number s) is)) ≡ sum (map ident_bytes is)
  names_kept [] known = refl
  names_kept (i ∷ is) known =
      let p = program_of s in
      let here : length (name_of_action p (action_number s i)) ≡ ident_bytes i = ap length (name_kept i (All-head IsAction i is known)) in
      sum-cons (length (name_of_action p (action_number s i))) (map (λ a. length (name_of_action p a)) (map (action_number s) is))
      ∙ ap₂ (λ (m n : ℕ). m + n) here (names_kept is (All-tail IsAction i is known)) ∙ sym (sum-cons (ident_bytes i) (map ident_bytes is))

  -- a table that names actions of the text alone
  abbrev NamesActions : TableText → Type 0
  NamesActions t = All IsAction (listed t)

  table_kept : (t : TableText) → NamesActions t → name_bytes (program_of s) (table_of s t) ≡ table_bytes t
  table_kept t known =
      let p = program_of s in
      let actions = ap (λ (ns : List ℕ). sum (map (λ a. length (name_of_action p a)) ns)) (lists s t t.key) ∙ names_kept (listed t) known in
      ap₂ (λ (m n : ℕ). m + n) (named t) actions
    where
      named : (t : TableText) → length (table_of s t).name ≡ ident_bytes t.ident
      named t = grind arith

  tables_kept : (ts : List TableText) → All NamesActions ts → sum (map (name_bytes (program_of s)) (map (table_of s) ts)) ≡ sum (map table_bytes ts)
  tables_kept [] known = refl
  tables_kept (t ∷ ts) known =
      let p = program_of s in
      sum-cons (name_bytes p (table_of s t)) (map (name_bytes p) (map (table_of s) ts))
      ∙ ap₂ (λ (m n : ℕ). m + n) (table_kept t (All-head NamesActions t ts known)) (tables_kept ts (All-tail NamesActions t ts known))
      ∙ sym (sum-cons (table_bytes t) (map table_bytes ts))

  actions_named : KeepsRules s → All NamesActions s.tables
  actions_named h = λ k d lt.
      let t = get_or s.tables k d in
      let known = none_in (flat_map (unknown_field s) (key_fields t)) (unknown (action_names s) (listed t) ∷ unknown (action_names s) (t.default ∷ []) ∷ []) (h.tables_known k d lt) in
      all_known (action_names s) (listed t) known.1.0

-- the names that the tables of a text's program tell are together no longer than the text
pub program_short : (text : List ℕ) (tokens : List Token) (t : Tree) → tokens_of text ≡ Ok tokens → IsTreeOf tokens t → fault_of (source_of t) ≡ None
    → IsShortFor text (program_of (source_of t))
program_short text tokens t read tree none =
    let s = source_of t in
    omega (arith, tables_kept s s.tables (actions_named s (keeps_rules s none)), tables_short text tokens t read tree.yield)
