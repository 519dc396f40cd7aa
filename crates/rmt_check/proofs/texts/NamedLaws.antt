-- What holds of each name of a text holds of the names of its program.
use Rattle.std.proofs.Common.{◌≡◌, List, [], ◌∷◌, All, Ok, Option, None, Some, true, refl, sym, subst, ℕ}
use Rattle.std.proofs.lemmas.List.Elements.{All-map, All-weaker}
use Rattle.rmt_check.specs.Parts.{Token, Tree, Rule, Action, Table, ActionText, KeyText, TableText, Source}
use Rattle.rmt_lexer.specs.Text.{tokens_of}
use Rattle.rmt_syntax.specs.declared.grammar.Part.TheVariants.{One}
use Rattle.rmt_syntax.specs.declared.grammar.Phrase.TheVariants.{Whole}
use Rattle.rmt_syntax.specs.declared.terminal.Terminal.TheVariants as terminal
use Rattle.rmt_syntax.specs.declared.tree.Rule.TheVariants as rule
use Rattle.rmt_syntax.specs.Trees.{marks, ArePartsOf, IsText, IsTreeOf}
use Rattle.rmt_check.specs.Reading.{parts, name_among, action_text, action_at, table_text, table_at, source_of}
use Rattle.rmt_check.specs.Meaning.{action_of, table_with, table_of, program_of}
use Rattle.rmt_check.specs.NamedTexts.{HasNameForms}
use Rattle.rmt_check.proofs.texts.PhraseLaws.{NodesHaveParts, TokensStand, always, each_seen}
use Rattle.rmt_check.proofs.texts.FoundLaws.{name_in}
use Rattle.rmt_check.proofs.texts.WordLaws.{OfName, NamesHold, name_holds, IsImageName, tokens_named}
use Rattle.rmt_check.proofs.texts.TextLaws.{IsSoundPart, made_sound, all_sound}

module _ (nodes : NodesHaveParts) (tokens : TokensStand) (Q : List ℕ → Type 0) where
  abbrev HasParts : Tree → Type 0
  HasParts = IsSoundPart (OfName Q)

  -- the first name in the text of a rule that always has one
  first_name : (r : Rule) → always ((One terminal.Name ∷ []) ∷ []) 4 (Whole r) ≡ true → (us : List Tree) → ArePartsOf (Whole r) us → All HasParts us → Q (name_among us).name
  first_name r has us h named = name_holds Q us (name_in nodes tokens r has us h) (λ k d lt. (named k d lt).0)

  abbrev NamesAction : ActionText → Type 0
  NamesAction a = Q a.ident.name

  abbrev NamesTable : TableText → Type 0
  NamesTable t = Q t.ident.name

  -- it holds of the names that a source declares
  pub actions_named : (t : Tree) → IsText (marks t) → NamesHold Q t → All NamesAction (source_of t).actions
  actions_named t text h =
      each_seen HasParts NamesAction action_at (made_sound nodes tokens (OfName Q) NamesAction rule.Action action_text (first_name rule.Action refl)) (parts t)
      (all_sound nodes tokens (OfName Q) t text h)

  pub tables_named : (t : Tree) → IsText (marks t) → NamesHold Q t → All NamesTable (source_of t).tables
  tables_named t text h =
      each_seen HasParts NamesTable table_at (made_sound nodes tokens (OfName Q) NamesTable rule.Table table_text (first_name rule.Table refl)) (parts t)
      (all_sound nodes tokens (OfName Q) t text h)

  -- and of those of its program
  pub program_actions : (t : Tree) → IsText (marks t) → NamesHold Q t → All (λ (a : Action). Q a.name) (program_of (source_of t)).actions
  program_actions t text h = All-map (λ (a : Action). Q a.name) (action_of (source_of t)) (source_of t).actions (actions_named t text h)

  table_keeps : (s : Source) (t : TableText) (key : Option KeyText) → Q t.ident.name → Q (table_with s t key).name
  table_keeps s t None h = h
  table_keeps s t (Some k) h = h

  pub program_tables : (t : Tree) → IsText (marks t) → NamesHold Q t → All (λ (x : Table). Q x.name) (program_of (source_of t)).tables
  program_tables t text h =
      let s = source_of t in
      All-map (λ (x : Table). Q x.name) (table_of s) s.tables
      (All-weaker NamesTable (λ x. Q (table_of s x).name) (λ x. table_keeps s x x.key) s.tables (tables_named t text h))

-- So they are names as an image may have them.
pub text_named : NodesHaveParts → TokensStand → (text : List ℕ) (tokens : List Token) (t : Tree) → tokens_of text ≡ Ok tokens → IsTreeOf tokens t → HasNameForms (program_of (source_of t))
text_named nodes stand text tokens t read tree =
    let named : NamesHold IsImageName t = subst (All (OfName IsImageName)) (sym tree.yield) (tokens_named text tokens read) in
    record {
      tables = program_tables nodes stand IsImageName t tree.grammar named;
      actions = program_actions nodes stand IsImageName t tree.grammar named;
    }
